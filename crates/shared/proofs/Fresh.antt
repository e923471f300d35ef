-- A store that was just opened, for threads.
use Rattle.std.proofs.Common.{◌≡◌, ℕ, ◌+◌, ◌≤◌, suc, Bool, true, List, [], ◌∷◌, ◌++◌, map, length, refl, sym, ap, ◌∙◌, subst, arith}
use Rattle.std.specs.Prelude.{IsTrue, Contains}
use Rattle.std.specs.List.{AllByRecursion}
use Rattle.disk.specs.Areas.{Areas, AreSound}
use Rattle.disk.specs.Calls.{DiskState}
use Rattle.history.specs.Histories.{History}
use Rattle.history.specs.Machine.{Machine}
use Rattle.history.proofs.Members.{Contains-nil}
use Rattle.law_image.specs.Values.{Value}
use Rattle.status.specs.Header.{new_header, total}
use Rattle.wire.specs.declared.slot.Member.{Member}
use Rattle.group.specs.declared.commit_order.CommitHead.{CommitHead}
use Rattle.store.specs.Heads.{head_as}
use Rattle.store.specs.Values as slots
use Rattle.commits.specs.Values.{CommitsValue}
use Rattle.log_recovery.specs.declared.members_read.CommitName.{CommitName}
use Rattle.log_store.specs.Opens as logs
use Rattle.log_store.specs.Values.{LogStoreValue}
use Rattle.any_store.specs.Formats.{IsFormatted}
use Rattle.any_store.specs.Opens.{Opens}
use Rattle.any_store.specs.Values.{StoreValue, commits_of}
use Rattle.any_store.specs.declared.engine.Engine.TheVariants.{Slots, Log}
use Rattle.any_store.specs.declared.formatting.Layout.{Layout}
use Rattle.any_store.specs.declared.formatting.Layout.TheVariants as layouts
use Rattle.law_refinement.specs.Standing.{Name, name_of, name_at}
use Rattle.law_commits.specs.Standing.{StandsInMemory}
use Rattle.law_any_store.specs.Formatted.{header_of}
use Rattle.law_any_store.specs.Opened.{IsOfHeader}
use Rattle.law_any_store.specs.Standing.{Stands, opened_as, opened_in}
use Rattle.law_any_store.proofs.Formatted.{formatted-stands}
use Rattle.law_any_store.proofs.Memory.{memory-stands}
use Rattle.law_any_store.proofs.Opened.{open-stands, open-header}
use Rattle.shared.specs.Counts.{told_count}
use Rattle.shared.specs.Kinds.{Kind, kind_of, kind_as, HasSize}

-- ---- no ticket is out

-- of a commit that slots name
slots-told : (members : List Member) → told_count (map head_as members) ≡ length (map head_as members)
slots-told [] = refl
slots-told (x ∷ xs) = let rest = slots-told xs in let goal : 1 + told_count (map head_as xs) ≡ suc (length (map head_as xs)) = omega (arith, rest) in goal

-- nor of one that a log in the heap names
log-told : (names : List CommitName) → told_count (map logs.head_as names) ≡ length (map logs.head_as names)
log-told [] = refl
log-told (x ∷ xs) =
    let rest = log-told xs in let goal : 1 + told_count (map logs.head_as xs) ≡ suc (length (map logs.head_as xs)) = omega (arith, rest) in goal

-- so all commits of an opened store are told of
pub opened-told : (tells : Bool) (old : DiskState) (mark : ℕ) (v : StoreValue) → Opens tells old mark v
    → told_count (commits_of v).heads ≡ length (commits_of v).heads
opened-told tells old mark (Slots s) opens =
    let e = opens.engine in
    let is = ap (λ (x : slots.StoreValue). x.transactions.heads) e.new_is in
    ap told_count is ∙ slots-told e.recovered.commits.items ∙ sym (ap (λ (heads : List CommitHead). length heads) is)
opened-told tells old mark (Log l) opens =
    let e = opens.engine in
    let is = ap (λ (x : LogStoreValue). x.commits.heads) e.new_is in
    ap told_count is ∙ log-told e.recovered.heap.members.commits.items ∙ sym (ap (λ (heads : List CommitHead). length heads) is)

-- it has the mark that it was opened with
pub opened-mark : (tells : Bool) (old : DiskState) (mark : ℕ) (v : StoreValue) → Opens tells old mark v → (commits_of v).mark ≡ mark
opened-mark tells old mark (Slots s) opens = ap (λ (x : slots.StoreValue). x.transactions.mark) opens.engine.new_is
opened-mark tells old mark (Log l) opens = ap (λ (x : LogStoreValue). x.commits.mark) opens.engine.new_is

-- ---- a new store

pub fresh-stands : (tells : Bool) (layout : Layout) (old : Areas) (disk : DiskState) (mark : ℕ) (v : StoreValue)
    → IsTrue tells → AreSound disk.areas → IsFormatted layout old disk.areas → Opens tells disk mark v
    → Stands tells v (opened_as (header_of layout) [] (λ relation. 0))
fresh-stands tells layout old disk mark v told sound is opens =
    open-stands tells disk mark v (header_of layout) [] (λ relation. 0) opens told sound (formatted-stands layout old disk.areas is)

fresh-header : (tells : Bool) (layout : Layout) (old : Areas) (disk : DiskState) (mark : ℕ) (v : StoreValue)
    → IsTrue tells → IsFormatted layout old disk.areas → Opens tells disk mark v → IsOfHeader v (header_of layout)
fresh-header tells layout old disk mark v told is opens =
    open-header tells disk mark v (header_of layout) [] (λ relation. 0) opens told (formatted-stands layout old disk.areas is)

size-as : (layout : Layout) (v : StoreValue) → IsOfHeader v (header_of layout) → HasSize layout v
size-as (layouts.Slots slots) (Slots s) of = let all : total (new_header 3 slots) ≡ slots = omega arith in of.slots ∙ all
size-as (layouts.Slots slots) (Log l) of = of
size-as (layouts.Log extents) (Slots s) of = of
size-as (layouts.Log extents) (Log l) of = of

-- it has its size
pub fresh-size : (tells : Bool) (layout : Layout) (old : Areas) (disk : DiskState) (mark : ℕ) (v : StoreValue)
    → IsTrue tells → IsFormatted layout old disk.areas → Opens tells disk mark v → HasSize layout v
fresh-size tells layout old disk mark v told is opens = size-as layout v (fresh-header tells layout old disk mark v told is opens)

kind-by : (tells : Bool) (layout : Layout) (v : StoreValue) → IsOfHeader v (header_of layout)
    → Stands tells v (opened_as (header_of layout) [] (λ relation. 0)) → kind_of v ≡ kind_as layout
kind-by tells (layouts.Slots slots) (Slots s) of stands = refl
kind-by tells (layouts.Slots slots) (Log l) of stands = absurd of
kind-by tells (layouts.Log extents) (Slots s) of stands = absurd of
kind-by tells (layouts.Log extents) (Log l) of stands =
    let marked : l.commits.reclaimed ≤ 0 = (memory-stands tells (Log l) _ stands).0.versions.marked in
    let none : l.commits.reclaimed ≡ 0 = omega (arith, marked) in
    let goal : Path Kind (record { in_heap = true; names_from = l.commits.reclaimed }) (record { in_heap = true; names_from = 0 }) =
    ap (λ (n : ℕ). record { in_heap = true; names_from = n }) none in
    goal

-- it is of its layout
pub fresh-kind : (tells : Bool) (layout : Layout) (old : Areas) (disk : DiskState) (mark : ℕ) (v : StoreValue)
    → IsTrue tells → AreSound disk.areas → IsFormatted layout old disk.areas → Opens tells disk mark v → kind_of v ≡ kind_as layout
fresh-kind tells layout old disk mark v told sound is opens =
    kind-by tells layout v (fresh-header tells layout old disk mark v told is opens) (fresh-stands tells layout old disk mark v told sound is opens)

-- it is opened as its layout says
pub opened-as : (layout : Layout) (v : StoreValue) → HasSize layout v → (h : History Value) (floors : ℕ → ℕ)
    → opened_in v h floors ≡ opened_as (header_of layout) h floors
opened-as (layouts.Slots slots) (Slots s) of h floors = refl
opened-as (layouts.Slots slots) (Log l) of h floors = absurd of
opened-as (layouts.Log extents) (Slots s) of h floors = absurd of
opened-as (layouts.Log extents) (Log l) of h floors = refl

-- with what it holds published
pub opened-published : (v : StoreValue) (h : History Value) (floors : ℕ → ℕ) → (opened_in v h floors).published ≡ h
opened-published (Slots s) h floors = refl
opened-published (Log l) h floors = refl

-- and nothing waits
pub queue-none : (v : StoreValue) (h : History Value) (floors : ℕ → ℕ) → (opened_in v h floors).queue ≡ []
queue-none (Slots s) h floors = refl
queue-none (Log l) h floors = refl

-- ---- it has no commits

first-none : (xs ys : List Name) → xs ++ ys ≡ [] → xs ≡ []
first-none [] ys is = refl
first-none (x ∷ xs) ys is = absurd cc

second-none : (xs ys : List Name) → xs ++ ys ≡ [] → ys ≡ []
second-none [] ys is = is
second-none (x ∷ xs) ys is = absurd cc

unnamed : (heads : List CommitHead) → map name_at heads ≡ [] → heads ≡ []
unnamed [] is = refl
unnamed (x ∷ xs) is = absurd cc

kept-none : (heads : List CommitHead) → AllByRecursion (λ (name : Name). Contains [] name) (map name_at heads) → heads ≡ []
kept-none [] all = refl
kept-none (x ∷ xs) all = absurd (Contains-nil (name_at x) all.0)

no-heads : (v : CommitsValue) (m : Machine Value) → StandsInMemory v m → m.published ≡ [] → m.queue ≡ [] → v.heads ≡ []
no-heads v m stands none empty =
    let n = stands.names in
    let all : n.before ++ map name_at n.late ≡ [] =
    n.names ∙ ap (λ (h : History Value). map name_of (h ++ m.queue)) none ∙ ap (λ (h : History Value). map name_of h) empty in
    let before = first-none n.before (map name_at n.late) all in
    let late = unnamed n.late (second-none n.before (map name_at n.late) all) in
    let kept = kept-none n.kept (subst (λ (names : List Name). AllByRecursion (λ (name : Name). Contains names name) (map name_at n.kept)) before n.kept_of) in
    n.heads_are ∙ ap (λ (heads : List CommitHead). heads ++ n.late) kept ∙ late

none-by : (tells : Bool) (layout : Layout) (v : StoreValue) → Stands tells v (opened_as (header_of layout) [] (λ relation. 0)) → (commits_of v).heads ≡ []
none-by tells (layouts.Slots slots) v stands = no-heads (commits_of v) _ (memory-stands tells v _ stands).0 refl refl
none-by tells (layouts.Log extents) v stands = no-heads (commits_of v) _ (memory-stands tells v _ stands).0 refl refl

pub fresh-none : (tells : Bool) (layout : Layout) (old : Areas) (disk : DiskState) (mark : ℕ) (v : StoreValue)
    → IsTrue tells → AreSound disk.areas → IsFormatted layout old disk.areas → Opens tells disk mark v → (commits_of v).heads ≡ []
fresh-none tells layout old disk mark v told sound is opens =
    none-by tells layout v (fresh-stands tells layout old disk mark v told sound is opens)
