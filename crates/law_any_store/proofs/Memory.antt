-- What a store of slots has in memory stands for the machine in the words of both layouts.
use Rattle.std.proofs.Common.{◌≡◌, ℕ, Bool, List, [], ◌∷◌, map, Some, refl, arith}
use Rattle.std.specs.Prelude.{Contains}
use Rattle.std.proofs.lemmas.List.Sorted.{IsPermutation-sym, Contains-permutation}
use Rattle.history.specs.declared.key.Key.{Key}
use Rattle.history.specs.Time.{value_at}
use Rattle.history.specs.Histories.{History}
use Rattle.history.specs.Histories as histories
use Rattle.history.specs.Machine.{Machine, IsMachine, IsKeptSnapshot}
use Rattle.history.proofs.Members.{Contains-head}
use Rattle.law_image.specs.Values.{Value, IsValue}
use Rattle.chains.specs.KeyWrites.{KeyWrites, writes_of}
use Rattle.snapshot.specs.OpenTable.{snapshot_of, with_closed}
use Rattle.group.specs.Queued.{QueuedValue}
use Rattle.group.specs.Values.{TransactionsValue}
use Rattle.commits.specs.Values.{CommitsValue}
use Rattle.any_store.specs.declared.engine.Engine.TheVariants.{Slots, Log}
use Rattle.any_store.specs.Values.{StoreValue, waiting_of, commits_in, commits_of}
use Rattle.any_store.specs.Calls as stores
use Rattle.law_refinement.specs.Standing as slots
use Rattle.law_refinement.specs.Standing.{snapshots_of}
use Rattle.law_refinement.proofs.Memory as slot_memory
use Rattle.law_refinement.proofs.Memory.{all-of}
use Rattle.law_refinement.proofs.Openings.{closed_one}
use Rattle.law_commits.specs.Standing.{StandsInMemory, AllWait}
use Rattle.law_commits.proofs.Memory.{sees-at}
use Rattle.law_commits.proofs.Names.{last-is}
use Rattle.law_any_store.specs.Standing.{Stands}

all-wait : (reclaimed : ℕ) (before : List KeyWrites) (qs : List QueuedValue) (cs : History Value) → slots.AllWait reclaimed before qs cs
    → AllWait reclaimed before (map waiting_of qs) cs
all-wait reclaimed before [] [] waits = tt
all-wait reclaimed before [] (c ∷ cs) waits = waits
all-wait reclaimed before (q ∷ qs) [] waits = waits
all-wait reclaimed before (q ∷ qs) (c ∷ cs) waits =
    let w = waits.0 in (
      record {
        time = w.time;
        label = w.label;
        ordered = w.ordered;
        rising = w.rising;
        mark = w.mark;
        forgot = w.forgot;
        after = w.after;
      },
      all-wait reclaimed q.after qs cs waits.1,
    )

pub in-memory : (t : TransactionsValue) (m : Machine Value) → slots.StandsInMemory t m → StandsInMemory (commits_in t) m
in-memory t m is = record {
  names = record {
    before = [];
    early = tt;
    kept = [];
    late = t.heads;
    heads_are = refl;
    kept_of = tt;
    names = is.names;
    count = t.published;
    published_are = omega arith;
    many = let all = is.published in omega (arith, all);
  };
  rising = is.rising;
  versions = is.versions;
  forgot = is.forgot;
  recent = is.recent;
  queue = all-wait t.reclaimed t.versions t.queue m.queue is.queue;
  snapshots = is.snapshots;
  floors = is.floors;
  failed = is.failed;
}

pub memory-stands : (tells : Bool) (v : StoreValue) (m : Machine Value) → Stands tells v m → StandsInMemory (commits_of v) m × IsMachine IsValue m
memory-stands tells (Slots s) m is = (in-memory s.transactions m is.memory, is.machine)
memory-stands tells (Log l) m is = let store = (is.1).store in (store.memory, store.machine)

pub last-published : (tells : Bool) (v : StoreValue) (m : Machine Value) → Stands tells v m → stores.last v ≡ histories.last m.published
last-published tells (Slots s) m is = slot_memory.last-is s.transactions m is.memory
last-published tells (Log l) m is = let store = (is.1).store in last-is l.commits m store.memory

-- ---- what transactions see

-- at the time of the last commit memory says what the history does
pub begun-sees : (v : CommitsValue) (m : Machine Value) → StandsInMemory v m → IsMachine IsValue m → (snapshot : ℕ) → snapshot ≡ histories.last m.published
    → (key : Key) → value_at (writes_of v.versions key) snapshot ≡ histories.state m.published snapshot key
begun-sees v m stands machine snapshot newest key =
    let marked = stands.versions.marked in
    sees-at v m stands machine snapshot (record {
      published = omega arith;
      kept = λ relation. let reached = machine.floors_reached relation in omega arith;
    }) (omega arith) key

-- and at the snapshot of an open transaction
pub open-sees : (v : CommitsValue) (m : Machine Value) → StandsInMemory v m → IsMachine IsValue m → (number snapshot : ℕ)
    → snapshot_of number v.opened ≡ Some snapshot
    → (key : Key) → value_at (writes_of v.versions key) snapshot ≡ histories.state m.published snapshot key
open-sees v m stands machine number snapshot is key =
    let rest = snapshots_of (with_closed v.opened number) in
    let there : Contains (snapshots_of v.opened) snapshot =
    Contains-permutation (snapshot ∷ rest) (snapshots_of v.opened) snapshot
    (IsPermutation-sym (snapshots_of v.opened) (snapshot ∷ rest) (closed_one v.opened number snapshot is)) (Contains-head snapshot rest snapshot refl) in
    let kept =
    all-of (IsKeptSnapshot m.floors (histories.last m.published)) m.snapshots snapshot machine.snapshots
    (Contains-permutation (snapshots_of v.opened) m.snapshots snapshot (IsPermutation-sym m.snapshots (snapshots_of v.opened) stands.snapshots) there) in
    sees-at v m stands machine snapshot kept (stands.recent snapshot there) key
