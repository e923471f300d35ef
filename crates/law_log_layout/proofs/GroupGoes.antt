-- The way of a group to the disk, told of histories.
use Rattle.std.proofs.Common.{◌≡◌, ℕ, ◌+◌, suc, true, List, [], ◌∷◌, ◌++◌, length, map, take, drop, refl, sym, ap, subst, ◌∙◌, arith, Result}
use Rattle.std.proofs.Common.{inl, inr, ⊎_elim}
use Rattle.std.specs.Prelude.{flat_map}
use Rattle.std.specs.List.{AllByRecursion}
use Rattle.history.proofs.Filters.{AllByRecursion-append}
use Rattle.history.specs.Histories.{History}
use Rattle.disk.specs.declared.area.Area.TheVariants.{Heap}
use Rattle.disk.specs.declared.area.DeviceFault.{DeviceFault}
use Rattle.disk.specs.Areas.{AreaState, Areas, Image, AreSound, LeavesImage, MayLeave}
use Rattle.disk.specs.Parts.{KeepsPart}
use Rattle.disk.proofs.Stops.{left_by_write, left_by_sync}
use Rattle.law_image.specs.Values.{Value}
use Rattle.law_image.specs.Reading.{Reading}
use Rattle.law_image.specs.StandsFor.{StandsFor}
use Rattle.law_image.specs.Plans.{IsGroupOf, with_group}
use Rattle.law_image.specs.Log.{is_in_heap}
use Rattle.law_image.proofs.GroupStep.{group-stands_for}
use Rattle.law_layout.specs.Runs.{StoredRun, HoldsRun, run_bytes}
use Rattle.deltas.specs.Extents.{extent_start}
use Rattle.log_extents.specs.Extents.{LinkedExtent, linked_bytes}
use Rattle.log_extents.specs.Chains.{first_or, chain_of}
use Rattle.log_entries.specs.Spelling.{entry_bytes}
use Rattle.log_entries.specs.declared.entry.Member.{Member}
use Rattle.law_log_layout.specs.Turns.{KeepsAll, HoldsOld, HoldsNew}
use Rattle.law_log_layout.specs.Turns.{IsAt, IsDone, MayBe, MayBecome}
use Rattle.law_log_layout.specs.HeapLog.{PlacedChain, PlacedRoll, HeapLog, extents_of, heap_parts, name_bytes, HoldsRoll, HeapStandsFor}
use Rattle.law_log_layout.specs.HeapLog.{IsLogOf, member_told, with_chain, with_runs, KeepsShares, turn_of, placed_group, MayJoin}
use Rattle.law_log_layout.specs.Laws.{KeepsArchive, IsEntryWay, stage_after_all}
use Rattle.law_log_layout.proofs.Goes.{goes}
use Rattle.law_log_layout.proofs.Joining.{joined-part, opened-bytes, parts-more, chain-free, chain-joined}
use Rattle.law_log_layout.proofs.GroupJoins.{room, group-is_log}
use Rattle.log_writer.specs.Turns.{open_gate, Done, IsCallOf, Opening, Part, Settling, Stage, Syncing, Turn, Writing}
use Rattle.log_writer.specs.Turns.{extent_part, written_parts}

may-be : (stage : Stage) (A B C D : Type 0) → (A → C) → (B → D) → MayBe stage A B → MayBe stage C D
may-be (Writing done rest) A B C D f g is = f is
may-be Syncing A B C D f g is = f is
may-be Opening A B C D f g is = f is
may-be Settling A B C D f g is = ⊎_elim (λ a. inl (f a)) (λ b. inr (g b)) is
may-be Done A B C D f g is = g is

may-become : (stage : Stage) (A B C D : Type 0) → (A → C) → (B → D) → MayBecome stage A B → MayBecome stage C D
may-become (Writing done rest) A B C D f g is = f is
may-become Syncing A B C D f g is = f is
may-become Opening A B C D f g is = ⊎_elim (λ a. inl (f a)) (λ b. inr (g b)) is
may-become Settling A B C D f g is = ⊎_elim (λ a. inl (f a)) (λ b. inr (g b)) is
may-become Done A B C D f g is = g is

-- the calls are calls of the heap: the archive is as it was
same-archive : (t : Turn) (stage : Stage) (result : Result (Unit {0}) DeviceFault) (areas new : Areas) (image : Image) → AreSound areas
    → IsCallOf t stage result areas new → LeavesImage new image → MayLeave areas.archive image.archive
same-archive t (Writing done (p ∷ rest)) result areas new image sound call left = let l =
    (left_by_write Heap p.place p.bytes result areas new call sound).each image left in l.archive
same-archive t (Writing done []) result areas new image sound call left = let l =
    (left_by_write Heap t.closes (0 ∷ []) result areas new call sound).each image left in l.archive
same-archive t Syncing result areas new image sound call left = let l = (left_by_sync Heap result areas new call sound).each image left in l.archive
same-archive t Opening result areas new image sound call left = let l =
    (left_by_write Heap t.gate (open_gate ∷ []) result areas new call sound).each image left in l.archive
same-archive t Settling result areas new image sound call left = let l = (left_by_sync Heap result areas new call sound).each image left in l.archive
same-archive t Done result areas new image sound call left = absurd call

pub rolls-left : (rolls : List PlacedRoll) (a : AreaState) (content : List ℕ)
    → AllByRecursion (λ (r : PlacedRoll). KeepsPart r.roll.start (flat_map name_bytes r.names) a) rolls → MayLeave a content
    → AllByRecursion (HoldsRoll content) rolls
rolls-left [] a content keeps left = tt
rolls-left (r ∷ rolls) a content keeps left = (let k = keeps.0 in k.left content left, rolls-left rolls a content keeps.1 left)

pub runs-left : (runs : List StoredRun) (a : AreaState) (content : List ℕ)
    → AllByRecursion (λ (s : StoredRun). KeepsPart s.entry.start (run_bytes s.records) a) runs → MayLeave a content → AllByRecursion (HoldsRun content) runs
runs-left [] a content keeps left = tt
runs-left (s ∷ runs) a content keeps left = (let k = keeps.0 in k.left content left, runs-left runs a content keeps.1 left)

-- a byte and what follows it are kept together
joined-kept : (place gate : ℕ) (rest : List ℕ) (a : AreaState) → KeepsPart place (gate ∷ []) a → KeepsPart (place + 1) rest a → KeepsPart place (gate ∷ rest) a
joined-kept place gate rest a first second = record {
  firm = omega (arith, second.firm);
  left = λ content left. joined-part place gate rest content (first.left content left) (second.left content left);
}

chain-kept : (link next : ℕ) (numbers content : List ℕ) (a : AreaState) → first_or 0 numbers ≡ next → KeepsPart (extent_start next) (open_gate ∷ []) a
    → KeepsAll (written_parts (chain_of open_gate link numbers content)) a
    → KeepsAll (map extent_part (chain_of open_gate link numbers content)) a
chain-kept link next [] content a head gate kept = tt
chain-kept link next (n ∷ ns) content a head gate kept =
    let e : LinkedExtent = record { gate = open_gate; number = n; next = first_or 0 ns; link = link; body = take 8168 content } in
    let here : KeepsPart (extent_start n) (open_gate ∷ []) a = subst (λ (m : ℕ). KeepsPart (extent_start m) (open_gate ∷ []) a) (sym head) gate in (
      subst (λ (bytes : List ℕ). KeepsPart (extent_start n) bytes a) (opened-bytes e)
          (joined-kept (extent_start n) open_gate (drop 1 (linked_bytes e)) a here kept.0),
      kept.1,
    )

pub entry-goes : (most root : ℕ) (l : HeapLog) (c : PlacedChain) (runs : List StoredRun) (reading new : Reading) (h next : History Value) (floors raised : ℕ
    → ℕ)
    (stage : Stage) (areas : Areas)
    → IsLogOf most root l reading → StandsFor reading h floors → MayJoin most l c → IsLogOf most root (with_runs l c runs) new → StandsFor new next raised
    → AreSound areas → KeepsArchive l areas.archive → KeepsArchive (with_runs l c runs) areas.archive → IsAt (heap_parts l) (turn_of l.next c) stage areas.heap
    → IsEntryWay most root l (with_runs l c runs) c h next floors raised stage areas
entry-goes most root l c runs reading new h next floors raised stage areas is stands joins is_new new_stands sound archive new_archive at =
    let t = turn_of l.next c in
    let way = goes (heap_parts l) t (chain-free most l c is.placed is.anchors joins) areas sound stage at in
    let old-stands : (bytes kept : List ℕ) → MayLeave areas.archive kept → HoldsOld (heap_parts l) t bytes → HeapStandsFor most root bytes kept h floors =
    λ bytes kept left held. record {
      log = l;
      reading = reading;
      is_log = is;
      stands = stands;
      held = record {
        parts = held.live;
        ends = held.ends;
        rolls = rolls-left l.rolls areas.archive kept archive.rolls left;
        runs = runs-left l.runs areas.archive kept archive.runs left;
      };
    } in
    let new-stands : (bytes kept : List ℕ) → MayLeave areas.archive kept → HoldsNew (heap_parts l) t bytes
    → HeapStandsFor most root bytes kept next raised =
    λ bytes kept left held.
    let joined = chain-joined most l c bytes joins held in
    record {
      log = with_runs l c runs;
      reading = new;
      is_log = is_new;
      stands = new_stands;
      held = record {
        parts = joined.0;
        ends = joined.1;
        rolls = rolls-left l.rolls areas.archive kept archive.rolls left;
        runs = runs-left runs areas.archive kept new_archive.runs left;
      };
    } in
    record {
      before = λ image left.
          may-be stage (HoldsOld (heap_parts l) t image.heap) (HoldsNew (heap_parts l) t image.heap) (HeapStandsFor most root image.heap image.archive h floors)
          (HeapStandsFor most root image.heap image.archive next raised)
          (old-stands image.heap image.archive left.archive) (new-stands image.heap image.archive left.archive) (way.before image.heap left.heap);
      within = λ result after image call left.
          let kept = same-archive t stage result areas after image sound call left in
          may-become stage (HoldsOld (heap_parts l) t image.heap) (HoldsNew (heap_parts l) t image.heap)
          (HeapStandsFor most root image.heap image.archive h floors) (HeapStandsFor most root image.heap image.archive next raised)
          (old-stands image.heap image.archive kept) (new-stands image.heap image.archive kept) (way.within result after image call left);
      leads = way.leads;
      rests = λ done.
          let d : IsDone (heap_parts l) t areas.heap = subst (λ (s : Stage). IsAt (heap_parts l) t s areas.heap) done at in
          record {
            parts = subst (λ (ps : List Part). KeepsAll ps areas.heap) (sym (parts-more l c))
                (AllByRecursion-append (λ (p : Part). KeepsPart p.place p.bytes areas.heap) (heap_parts l) (map extent_part (extents_of c)) d.live
                (chain-kept c.link l.next c.numbers (entry_bytes c.entry) areas.heap joins.head d.opened d.written));
            ends = d.ends;
          };
    }

pub group-goes : (most root : ℕ) (l : HeapLog) (reading : Reading) (h next : History Value) (floors : ℕ
    → ℕ) (numbers : List ℕ) (link : ℕ) (members : List Member) (stage : Stage) (areas : Areas)
    → IsLogOf most root l reading → StandsFor reading h floors → IsGroupOf reading h next (map member_told members)
    → MayJoin most l (placed_group numbers link members)
    → KeepsShares most (with_chain l (placed_group numbers link members)) (with_group reading (map member_told members))
    → AreSound areas → KeepsArchive l areas.archive → IsAt (heap_parts l) (turn_of l.next (placed_group numbers link members)) stage areas.heap
    → (let c = placed_group numbers link members in IsEntryWay most root l (with_chain l c) c h (h ++ next) floors floors stage areas)
group-goes most root l reading h next floors numbers link members stage areas is stands group joins shares sound archive at =
    let heap : is_in_heap reading.profile ≡ true = ap (λ (r : Reading). is_in_heap r.profile) is.reading_is in
    entry-goes most root l (placed_group numbers link members) l.runs reading (with_group reading (map member_told members)) h (h ++ next) floors floors stage
    areas is stands joins (group-is_log most root l reading h next floors numbers link members is stands group joins shares)
    (group-stands_for reading h floors stands (map member_told members) next group (room reading heap)) sound archive (record {
      rolls = archive.rolls;
      runs = archive.runs;
    }) at

-- ---- how many calls it takes

pub group-ends : (done parts : List Part) → stage_after_all (Writing done parts) (length parts + 4) ≡ Done
group-ends done [] = refl
group-ends done (p ∷ parts) =
    let more : length (p ∷ parts) + 4 ≡ suc (length parts + 4) = omega arith in
    ap (stage_after_all (Writing done (p ∷ parts))) more ∙ group-ends (done ++ p ∷ []) parts
