-- What is said of a store in either layout, for threads.
use Rattle.std.proofs.Common.{◌≡◌, ℕ, ◌+◌, ◌≤◌, Bool, List, [], ◌++◌, length, take, drop, map, max, sym, ap, ◌∙◌, subst, arith}
use Rattle.std.proofs.lemmas.List.{append-nil, length-append, length-map}
use Rattle.std.proofs.lemmas.Bool.Decides.{nat_tests}
use Rattle.history.specs.Histories.{History, HasRisingTimes, last}
use Rattle.history.specs.Machine.{Machine, IsMachine}
use Rattle.history.proofs.Histories.{rising-from_following, may_follow-behind}
use Rattle.law_image.specs.Values.{Value, IsValue}
use Rattle.group.specs.CommitOrder.{last_time, last_time_after, last_published}
use Rattle.group.specs.declared.commit_order.CommitHead.{CommitHead}
use Rattle.commits.specs.Values.{CommitsValue, order_of}
use Rattle.commits.specs.Values as commits
use Rattle.any_store.specs.Values.{StoreValue, is_log, commits_of}
use Rattle.any_store.specs.declared.engine.Engine.TheVariants.{Slots, Log}
use Rattle.law_refinement.specs.Standing.{Name, name_of, name_at}
use Rattle.law_commits.specs.Standing.{StandsInMemory}
use Rattle.law_commits.proofs.Names.{last-is, assigned-is, waiting-heads, back-names}
use Rattle.law_any_store.specs.Names as memory
use Rattle.law_any_store.specs.Names.{KeepsNames}
use Rattle.law_any_store.specs.Standing.{Stands, GoesOn}
use Rattle.law_any_store.proofs.Marks.{layout-stays}
use Rattle.law_any_store.proofs.Memory.{memory-stands}
use Rattle.shared.specs.Counts.{told_after, told_count, awaited_upto}
use Rattle.shared.specs.Kinds.{kind_of}
use Rattle.shared.specs.Shared.{raising_in}
use Rattle.shared.proofs.Counting.{published-count, none-after, after-later}

-- what is in memory stands for the machine
pub in-memory : (tells : Bool) (v : StoreValue) (m : Machine Value) → Stands tells v m → StandsInMemory (commits_of v) m
in-memory tells v m stands = (memory-stands tells v m stands).0

-- which is one
pub is-machine : (tells : Bool) (v : StoreValue) (m : Machine Value) → Stands tells v m → IsMachine IsValue m
is-machine tells v m stands = (memory-stands tells v m stands).1

-- no call changes what the layout tells
pub kind-stays : (tells : Bool) (old new : StoreValue) → GoesOn tells old new → KeepsNames old new → kind_of new ≡ kind_of old
kind-stays tells old new goes names =
    ap (λ (b : Bool). record { in_heap = b; names_from = memory.names_from new }) (layout-stays tells old new goes)
    ∙ ap (λ (n : ℕ). record { in_heap = is_log old; names_from = n }) names

-- the floor that the job is to raise is the machine's in the making
pub raises-is : (tells : Bool) (v : StoreValue) (m : Machine Value) → Stands tells v m → m.raising ≡ raising_in v
raises-is tells (Slots s) m stands = stands.raises.is
raises-is tells (Log l) m stands = let store = (stands.1).store in store.writing.raising

-- ---- the heads in memory

-- those behind the published ones are of the commits that wait
pub waiting-named : (v : CommitsValue) (m : Machine Value) → StandsInMemory v m → map name_at (drop v.published v.heads) ≡ map name_of m.queue
waiting-named v m stands =
    let n = stands.names in
    ap (λ (heads : List CommitHead). map name_at heads) (waiting-heads v m n)
    ∙ back-names n.before n.late n.count m.published m.queue n.names n.many

-- so many are published, and so many wait
pub heads-many : (v : CommitsValue) (m : Machine Value) → StandsInMemory v m → length v.heads ≡ v.published + length m.queue
heads-many v m stands =
    let n = stands.names in
    let heads : length v.heads ≡ length n.kept + length n.late =
    ap (λ (hs : List CommitHead). length hs) n.heads_are ∙ length-append n.kept n.late in
    let names : length n.before + length n.late ≡ length m.published + length m.queue =
    ap (λ (k : ℕ). length n.before + k) (sym (length-map n.late name_at)) ∙ sym (length-append n.before (map name_at n.late))
    ∙ ap (λ (ns : List Name). length ns) n.names ∙ length-map (m.published ++ m.queue) name_of ∙ length-append m.published m.queue in
    let published = n.published_are in
    let many = n.many in
    omega (arith, heads, names, published, many)

-- the commits that wait are later than those that are published
pub queue-rises : (m : Machine Value) → IsMachine IsValue m → HasRisingTimes (last m.published) m.queue
queue-rises m machine = rising-from_following IsValue m.published m.queue (may_follow-behind IsValue [] m.published m.queue machine.history)

max-least : (a b : ℕ) → b ≤ max a b
max-least a b = grind (arith, nat_tests)

-- where nothing waits none is later than the last that is published
pub none-told : (v : CommitsValue) (m : Machine Value) → StandsInMemory v m → IsMachine IsValue m → m.queue ≡ [] → told_after (last m.published) v.heads ≡ 0
none-told v m stands machine empty =
    let least : last_time v.heads ≤ commits.last_assigned v = max-least v.reclaimed (last_time v.heads) in
    let is : commits.last_assigned v ≡ last m.published =
    assigned-is v m stands machine ∙ ap (λ (h : History Value). last (m.published ++ h)) empty ∙ ap last (append-nil m.published) in
    after-later (last_time v.heads) (last m.published) v.heads (subst (λ (t : ℕ). last_time v.heads ≤ t) is least) (none-after 0 v.heads stands.rising)

-- the published heads are those that are told of and those that are awaited
pub published-told : (v : CommitsValue) (m : Machine Value) → StandsInMemory v m → IsMachine IsValue m → told_after (last m.published) v.heads ≡ 0
    → v.published ≡ told_count v.heads + awaited_upto (last m.published) v.heads
published-told v m stands machine none =
    let many = heads-many v m stands in
    let least : last_published (order_of v) ≤ commits.last v = max-least v.reclaimed (last_published (order_of v)) in
    let upto : last_time_after 0 (take v.published v.heads) ≤ last m.published =
    subst (λ (t : ℕ). last_time_after 0 (take v.published v.heads) ≤ t) (last-is v m stands) least in
    published-count (last m.published) 0 v.published v.heads m.queue stands.rising (omega (arith, many)) upto (waiting-named v m stands)
    (queue-rises m machine) none
