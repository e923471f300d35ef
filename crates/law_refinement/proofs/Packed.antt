-- The commits that wait, stored in their extents over what comes before them.
use Rattle.std.proofs.Common.{◌≡◌, ℕ, zero, suc, ◌+◌, ◌<◌, ◌≤◌, ◌^◌, nat_le, true, cond, List, [], ◌∷◌, ◌++◌, length, take, drop, map, Option, None, Some, refl}
use Rattle.std.proofs.Common.{arith, ap, sym, subst, ◌∙◌, append_assoc, append-nil}
use Rattle.std.specs.Prelude.{unwrap_or, option_map}
use Rattle.std.specs.List.{AllByRecursion, flat_map, cons_option}
use Rattle.std.proofs.lemmas.List.{map-append}
use Rattle.std.proofs.lemmas.List.Concat.{flat_map-cons}
use mathlib.Core.Path.{fun_ext}
use Rattle.history.specs.declared.key.Key.{Key}
use Rattle.history.specs.Key.{write_in}
use Rattle.history.specs.Time.{value_at, value_after}
use Rattle.history.specs.Histories as histories
use Rattle.history.specs.Histories.{Commit, History, HasRisingTimes, last, IsWrite, MayAllFollow}
use Rattle.history.specs.Queries.{values_after}
use Rattle.history.proofs.Orders.{is_le}
use Rattle.history.proofs.Values.{value_after-append}
use Rattle.history.proofs.Histories.{writes_of-append, last_after-range}
use Rattle.law_image.specs.Values.{Value, IsValue}
use Rattle.law_image.specs.Reading.{HeapRecord, Member}
use Rattle.law_image.specs.Facts.{latest}
use Rattle.law_image.specs.Plans.{stored_record, stored_member, stored_members}
use Rattle.chains.specs.KeyWrites.{KeyWrites, IsOrdered, forgotten}
use Rattle.chains.proofs.Versions.{writes_of-forgotten}
use Rattle.chains.specs.KeyWrites as chains
use Rattle.deltas.specs.Extents.{Extent}
use Rattle.deltas.specs.Records.{spelling, record_of}
use Rattle.deltas.specs.Records as heap
use Rattle.deltas.specs.Packing.{bodies}
use Rattle.deltas.specs.Chains.{IsNumber}
use Rattle.deltas.proofs.Holding.{AreSome, length-chain, first-chain, chain-bodies, chain-numbers, chain-linked, chain-extents, some_packed, records-some}
use Rattle.deltas.proofs.Images.{FitEach}
use Rattle.deltas.proofs.Packed.{bodies_of_records_fit}
use Rattle.wire.specs.declared.slot.Member.{Member as Entry}
use Rattle.law_layout.specs.Records.{record_bytes, IsRecord}
use Rattle.law_layout.specs.Layouts.{StoredMember, IsStoredMember, extents_of}
use Rattle.group.specs.Queued.{QueuedValue, numbers_of}
use Rattle.group.specs.declared.queued.StoredExtent.{StoredExtent}
use Rattle.group.specs.Submits.{bodies_over}
use Rattle.law_refinement.specs.Standing.{HasWrites, Waits, AllWait}
use Rattle.law_refinement.specs.OnDisk.{values_in, packed, IsPacked, AllPacked, member_of, members_of}
use Rattle.law_refinement.proofs.KeptWrites.{latest-kept}
use Rattle.law_refinement.proofs.Held.{latest-held}
use Rattle.law_refinement.proofs.Contents.{records-are}

-- ---- values

-- the values after a commit are those of the history with it
after-one : (h : History Value) (c : Commit Value) (key : Key) → c.time < 2 ^ 63 → values_after (values_in h) c key ≡ values_in (h ++ c ∷ []) key
after-one h c key below =
    let early : nat_le c.time (2 ^ 63) ≡ true = is_le (omega arith) in
    let whole : value_at (histories.writes_of (h ++ c ∷ []) key) (2 ^ 63)
    ≡ value_after (value_at (histories.writes_of h key) (2 ^ 63)) (histories.writes_of (c ∷ []) key) (2 ^ 63) =
    ap (λ ws. value_at ws (2 ^ 63)) (writes_of-append h (c ∷ []) key)
    ∙ value_after-append None (histories.writes_of h key) (histories.writes_of (c ∷ []) key) (2 ^ 63) in
    let v = value_at (histories.writes_of h key) (2 ^ 63) in
    elim (write_in c.writes key) as (λ o. unwrap_or o v
    ≡ value_after v (cons_option (option_map (λ write. record { time = c.time; write = write }) o) []) (2 ^ 63)) [
      | None ↦ refl
      | Some w ↦ ap (λ x. cond x w v) (sym early)
    ] ∙ sym whole

values-after : (h : History Value) (c : Commit Value) → c.time < 2 ^ 63 → values_after (values_in h) c ≡ values_in (h ++ c ∷ [])
values-after h c below = fun_ext (λ key. after-one h c key below)

-- versions that are ordered, from the mark on, have the values of the history
pub values-held : (floors : ℕ → ℕ) (reclaimed : ℕ) (versions : List KeyWrites) (h : History Value) → IsOrdered versions
    → HasWrites floors reclaimed (forgotten reclaimed versions) h → HasRisingTimes 0 h → ((relation : ℕ) → floors relation ≤ last h)
    → (λ (key : Key). latest (chains.writes_of versions key)) ≡ values_in h
values-held floors reclaimed versions h ordered has rising reached =
    let range : last h < 2 ^ 63 = last_after-range 0 h (omega arith) rising in
    let marked = has.marked in
    fun_ext (λ key.
    sym (latest-kept reclaimed (chains.writes_of versions key) (omega (arith, range, marked)))
    ∙ ap latest (sym (writes_of-forgotten reclaimed versions key ordered))
    ∙ latest-held has rising key (reached key.relation))

-- ---- bytes

bytes-are : (rs : List HeapRecord) → map spelling (map record_of rs) ≡ map record_bytes rs
unfolding record_bytes
bytes-are [] = refl
bytes-are (r ∷ rs) = ap (λ (l : List (List ℕ)). spelling (record_of r) ∷ l) (bytes-are rs)

pub bodies-packed : (floors : ℕ → ℕ) (reclaimed : ℕ) (versions : List KeyWrites) (h : History Value) (c : Commit Value) → IsOrdered versions
    → HasWrites floors reclaimed (forgotten reclaimed versions) h → HasRisingTimes 0 h → ((relation : ℕ) → floors relation ≤ last h)
    → bodies_over versions c.writes ≡ packed h c
bodies-packed floors reclaimed versions h c ordered has rising reached =
    ap (λ (f : Key → Option Value). bodies (map spelling (map record_of (map (stored_record f) c.writes))))
    (values-held floors reclaimed versions h ordered has rising reached)
    ∙ ap bodies (bytes-are (map (stored_record (values_in h)) c.writes))

-- ---- how many there are

pub length-numbers : (q : QueuedValue) → length (numbers_of q) ≡ length q.stored
length-numbers q = go q.stored
  where
    go : (xs : List StoredExtent) → length (map (λ (s : StoredExtent). s.extent) xs) ≡ length xs
    go [] = refl
    go (x ∷ xs) = ap suc (go xs)

each-spelled : (rs : List HeapRecord) → AllByRecursion IsRecord rs → AllByRecursion heap.IsRecord (map record_of rs)
each-spelled [] all = tt
each-spelled (r ∷ rs) all = (all.0, each-spelled rs all.1)

pub length-mapped : {X Y : Type 0} (f : X → Y) (xs : List X) → length (map f xs) ≡ length xs
length-mapped f [] = refl
length-mapped f (x ∷ xs) = ap suc (length-mapped f xs)

-- ---- one commit

-- a commit that waits is stored as its slot is to say
pub member-stored : (reclaimed : ℕ) (versions : List KeyWrites) (before : History Value) (q : QueuedValue) (c : Commit Value) → Waits reclaimed versions q c
    → IsPacked before q c → AllByRecursion (IsWrite IsValue) c.writes → AllByRecursion IsNumber (numbers_of q)
    → IsStoredMember (member_of before q c)
member-stored reclaimed versions before q c waits is writes numbered =
    let rs : List HeapRecord = map (stored_record (values_in before)) c.writes in
    let each : AllByRecursion IsRecord rs = records-are (values_in before) c.writes writes in
    let ns = numbers_of q in
    let bs : List (List ℕ) = packed before c in
    let len : length bs ≡ length ns = sym (length-numbers q ∙ is.many) in
    let same = bytes-are rs in
    let fit : FitEach bs = subst (λ (l : List (List ℕ)). FitEach (bodies l)) same (bodies_of_records_fit (map record_of rs) (each-spelled rs each)) in
    let some : AreSome bs =
    subst (λ (l : List (List ℕ)). AreSome (bodies l)) same (some_packed (map spelling (map record_of rs)) (records-some (map record_of rs))) in
    let time = sym waits.time in
    let label = sym waits.label in
    record {
      head_is = λ i. record { time = time i; label = label i };
      chain = record {
        first_is = first-chain ns bs len ∙ sym is.first;
        extents_are = length-chain ns bs len ∙ length-numbers q ∙ sym is.extents;
        records_are = length-mapped record_bytes rs ∙ length-mapped (stored_record (values_in before)) c.writes ∙ sym waits.records;
        linked = chain-linked ns bs len;
        each = chain-extents ns bs numbered fit some;
        bodies_are = chain-bodies ns bs len;
      };
      each = each;
    }

-- ---- the commits of a group

-- two lists of all that waits are as long as one another
pub as-many : (reclaimed : ℕ) (before : List KeyWrites) (qs : List QueuedValue) (cs : History Value) → AllWait reclaimed before qs cs → length qs ≡ length cs
as-many reclaimed before [] [] all = refl
as-many reclaimed before [] (c ∷ cs) all = absurd all
as-many reclaimed before (q ∷ qs) [] all = absurd all
as-many reclaimed before (q ∷ qs) (c ∷ cs) all = ap suc (as-many reclaimed q.after qs cs all.1)

pub wait-front : (n reclaimed : ℕ) (before : List KeyWrites) (qs : List QueuedValue) (cs : History Value) → AllWait reclaimed before qs cs
    → AllWait reclaimed before (take n qs) (take n cs)
wait-front zero reclaimed before qs cs all = tt
wait-front (suc n) reclaimed before [] [] all = tt
wait-front (suc n) reclaimed before [] (c ∷ cs) all = absurd all
wait-front (suc n) reclaimed before (q ∷ qs) [] all = absurd all
wait-front (suc n) reclaimed before (q ∷ qs) (c ∷ cs) all = (all.0, wait-front n reclaimed q.after qs cs all.1)

pub packed-front : (n : ℕ) (h : History Value) (qs : List QueuedValue) (cs : History Value) → AllPacked h qs cs → AllPacked h (take n qs) (take n cs)
packed-front zero h qs cs all = tt
packed-front (suc n) h [] [] all = tt
packed-front (suc n) h [] (c ∷ cs) all = absurd all
packed-front (suc n) h (q ∷ qs) [] all = absurd all
packed-front (suc n) h (q ∷ qs) (c ∷ cs) all = (all.0, packed-front n (h ++ c ∷ []) qs cs all.1)

pub packed-rest : (n : ℕ) (h : History Value) (qs : List QueuedValue) (cs : History Value) → AllPacked h qs cs
    → AllPacked (h ++ take n cs) (drop n qs) (drop n cs)
packed-rest zero h qs cs all = subst (λ (l : History Value). AllPacked l qs cs) (sym (append-nil h)) all
packed-rest (suc n) h [] [] all = tt
packed-rest (suc n) h [] (c ∷ cs) all = absurd all
packed-rest (suc n) h (q ∷ qs) [] all = absurd all
packed-rest (suc n) h (q ∷ qs) (c ∷ cs) all =
    subst (λ (l : History Value). AllPacked l (drop n qs) (drop n cs)) (append_assoc h (c ∷ []) (take n cs)) (packed-rest n (h ++ c ∷ []) qs cs all.1)

pub packed-more : (h : History Value) (qs : List QueuedValue) (cs : History Value) (q : QueuedValue) (c : Commit Value) → AllPacked h qs cs
    → IsPacked (h ++ cs) q c → AllPacked h (qs ++ q ∷ []) (cs ++ c ∷ [])
packed-more h [] [] q c all is = (subst (λ (l : History Value). IsPacked l q c) (append-nil h) is, tt)
packed-more h [] (d ∷ ds) q c all is = absurd all
packed-more h (p ∷ ps) [] q c all is = absurd all
packed-more h (p ∷ ps) (d ∷ ds) q c all is =
    (all.0, packed-more (h ++ d ∷ []) ps ds q c all.1 (subst (λ (l : History Value). IsPacked l q c) (sym (append_assoc h (d ∷ []) ds)) is))

pub entries-named : (reclaimed : ℕ) (before : List KeyWrites) (h : History Value) (qs : List QueuedValue) (cs : History Value) → AllWait reclaimed before qs cs
    → map (λ (s : StoredMember). s.entry) (members_of h qs cs) ≡ map (λ (q : QueuedValue). q.entry) qs
entries-named reclaimed before h [] [] all = refl
entries-named reclaimed before h [] (c ∷ cs) all = absurd all
entries-named reclaimed before h (q ∷ qs) [] all = absurd all
entries-named reclaimed before h (q ∷ qs) (c ∷ cs) all = ap (λ (l : List Entry). q.entry ∷ l) (entries-named reclaimed q.after (h ++ c ∷ []) qs cs all.1)

pub members-are : (reclaimed : ℕ) (before : List KeyWrites) (h : History Value) (qs : List QueuedValue) (cs : History Value) → AllWait reclaimed before qs cs
    → MayAllFollow IsValue h cs → map (λ (s : StoredMember). s.member) (members_of h qs cs) ≡ stored_members (values_in h) cs
members-are reclaimed before h [] [] all may = refl
members-are reclaimed before h [] (c ∷ cs) all may = absurd all
members-are reclaimed before h (q ∷ qs) [] all may = absurd all
members-are reclaimed before h (q ∷ qs) (c ∷ cs) all may =
    ap (λ (l : List Member). stored_member (values_in h) c ∷ l)
    (members-are reclaimed q.after (h ++ c ∷ []) qs cs all.1 may.1
    ∙ ap (λ (f : Key → Option Value). stored_members f cs) (sym (values-after h c (may.0).in_range)))

pub all-first : (P : ℕ → Type 0) (xs ys : List ℕ) → AllByRecursion P (xs ++ ys) → AllByRecursion P xs
all-first P [] ys all = tt
all-first P (x ∷ xs) ys all = (all.0, all-first P xs ys all.1)

pub all-last : (P : ℕ → Type 0) (xs ys : List ℕ) → AllByRecursion P (xs ++ ys) → AllByRecursion P ys
all-last P [] ys all = all
all-last P (x ∷ xs) ys all = all-last P xs ys all.1

pub members-stored : (reclaimed : ℕ) (before : List KeyWrites) (h : History Value) (qs : List QueuedValue) (cs : History Value) → AllWait reclaimed before qs cs
    → AllPacked h qs cs → MayAllFollow IsValue h cs → AllByRecursion IsNumber (flat_map numbers_of qs) → AllByRecursion IsStoredMember (members_of h qs cs)
members-stored reclaimed before h [] [] all each may numbered = tt
members-stored reclaimed before h [] (c ∷ cs) all each may numbered = absurd all
members-stored reclaimed before h (q ∷ qs) [] all each may numbered = absurd all
members-stored reclaimed before h (q ∷ qs) (c ∷ cs) all each may numbered =
    let both : AllByRecursion IsNumber (numbers_of q ++ flat_map numbers_of qs) = subst (AllByRecursion IsNumber) (flat_map-cons numbers_of q qs) numbered in (
      member-stored reclaimed before h q c all.0 each.0 (may.0).writes (all-first IsNumber (numbers_of q) (flat_map numbers_of qs) both),
      members-stored reclaimed q.after (h ++ c ∷ []) qs cs all.1 each.1 may.1 (all-last IsNumber (numbers_of q) (flat_map numbers_of qs) both),
    )

-- the numbers of a group's extents are those that its commits have taken
pub extents-numbered : (h : History Value) (qs : List QueuedValue) (cs : History Value) → AllPacked h qs cs
    → map (λ (e : Extent). e.number) (extents_of (members_of h qs cs)) ≡ flat_map numbers_of qs
extents-numbered h [] [] all = refl
extents-numbered h [] (c ∷ cs) all = absurd all
extents-numbered h (q ∷ qs) [] all = absurd all
extents-numbered h (q ∷ qs) (c ∷ cs) all =
    let s = member_of h q c in
    let rest = members_of (h ++ c ∷ []) qs cs in
    ap (map (λ (e : Extent). e.number)) (flat_map-cons (λ (x : StoredMember). x.extents) s rest)
    ∙ map-append (λ (e : Extent). e.number) s.extents (extents_of rest)
    ∙ ap (λ (l : List ℕ). l
    ++ map (λ (e : Extent). e.number) (extents_of rest)) (chain-numbers (numbers_of q) (packed h c) (sym (length-numbers q ∙ (all.0).many)))
    ∙ ap (λ (l : List ℕ). numbers_of q ++ l) (extents-numbered (h ++ c ∷ []) qs cs all.1)
    ∙ sym (flat_map-cons numbers_of q qs)
