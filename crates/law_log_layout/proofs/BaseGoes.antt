-- The writing of a base and its anchors.
use Rattle.std.proofs.Common.{◌≡◌, ℕ, List, [], ◌∷◌, ◌++◌, length, map, sym, ap, subst, ◌∙◌, append_assoc}
use Rattle.std.specs.Prelude.{flat_map}
use Rattle.std.specs.List.{AllByRecursion}
use Rattle.std.proofs.lemmas.List.{append-nil, map-append}
use Rattle.std.proofs.lemmas.Grind.{flat_map-append}
use Rattle.history.proofs.Filters.{AllByRecursion-append}
use Rattle.history.specs.Histories.{History}
use Rattle.disk.specs.declared.area.Area.TheVariants.{Heap}
use Rattle.disk.specs.Areas.{AreaState, Areas, AreSound, written, loosened}
use Rattle.disk.specs.Parts.{HoldsPart, KeepsPart, IsLoosened}
use Rattle.disk.proofs.Parts.{written_part}
use Rattle.disk.proofs.Stops.{left_by_write, left_by_sync}
use Rattle.law_image.specs.Values.{Value}
use Rattle.law_image.specs.Reading.{Reading}
use Rattle.law_image.specs.StandsFor.{StandsFor}
use Rattle.law_layout.proofs.Extents.{loosened_is, written_is}
use Rattle.deltas.specs.Extents.{extent_start}
use Rattle.log_entries.specs.Spelling.{entry_bytes}
use Rattle.log_extents.specs.Extents.{LinkedExtent}
use Rattle.law_layout.specs.Records.{old_bytes}
use Rattle.log_writer.specs.Turns.{open_gate, extent_part, Part}
use Rattle.law_log_layout.specs.Turns.{KeepsAll, HoldsAll, gate_part, ArePartsApart, AreApartFrom, AreInTurn}
use Rattle.law_log_layout.specs.HeapLog.{PlacedChain, HeapLog, live_numbers, heap_parts, extents_of, anchor_extents, IsLogOf}
use Rattle.law_log_layout.specs.Laws.{KeepsArchive, KeepsLog}
use Rattle.law_log_layout.specs.Reclaims.{NewBase, placed_base, with_new_base, new_parts, AreFree, IsWritingBase, IsBaseSynced, IsBaseWay}
use Rattle.law_log_layout.proofs.Parts.{all-kept, closed-kept, all-still, closed-still, all-synced, all-beside, before-apart, one-of}
use Rattle.law_log_layout.proofs.Places.{AreWithin, ArePart, within-append, apart-one, all-apart, none-new, distinct-parts, new-back, in-turn, chain-within}
use Rattle.law_log_layout.proofs.Places.{gate-within}
use Rattle.law_log_layout.proofs.Joining.{log-within}
use Rattle.law_log_layout.proofs.ReclaimGoes.{log-stands}
use Rattle.law_layout.proofs.Lists.{all_of_back}

-- ---- the extents are free

pub new-within : (most : ℕ) (l : HeapLog) (n : NewBase) → AreFree most l n → AreWithin ((n.anchors).numbers ++ n.numbers) (new_parts n)
new-within most l n free =
    subst (AreWithin ((n.anchors).numbers ++ n.numbers))
    (sym (map-append extent_part (anchor_extents n.anchors) (extents_of (placed_base n.numbers n.link n.base))))
    (within-append (n.anchors).numbers n.numbers (map extent_part (anchor_extents n.anchors))
    (map extent_part (extents_of (placed_base n.numbers n.link n.base)))
    (chain-within most 0 0 0 (n.anchors).numbers (flat_map old_bytes (n.anchors).records) (free.anchors).in_range)
    (chain-within most 0 open_gate n.link n.numbers (entry_bytes (placed_base n.numbers n.link n.base).entry) (free.placed).in_range))

record ArePartsFree (l : HeapLog) (parts : List Part) : Type 0 where
  pub live : AllByRecursion (λ (p : Part). AreApartFrom p (heap_parts l)) parts
  pub ends : AllByRecursion (λ (p : Part). ArePartsApart (gate_part (extent_start l.next) 0) p) parts
  pub each : AreInTurn [] parts

parts-free : (most root : ℕ) (l : HeapLog) (n : NewBase) (reading : Reading) → IsLogOf most root l reading → AreFree most l n → ArePartsFree l (new_parts n)
parts-free most root l n reading is free =
    let numbers = (n.anchors).numbers ++ n.numbers in
    let own = new-within most l n free in
    let parts : ArePart (l.next ∷ live_numbers l) numbers = distinct-parts (l.next ∷ live_numbers l) numbers free.apart in
    let live : ArePart (live_numbers l) numbers = distinct-parts (live_numbers l) numbers (free.apart).1 in
    let next-own = new-back l.next (live_numbers l) numbers (free.apart).0 in
    record {
      live = all-apart (live_numbers l) (heap_parts l) numbers (new_parts n) (log-within most l is.placed is.anchors) own live.new;
      ends = apart-one l.next (gate_part (extent_start l.next) 0) numbers (new_parts n) (gate-within l.next 0 (free.next).0) own next-own;
      each = in-turn [] [] numbers (new_parts n) tt own parts.back (none-new numbers);
    }

-- ---- the calls

module _ (most root : ℕ) (l : HeapLog) (n : NewBase) (reading : Reading) (h : History Value) (floors : ℕ → ℕ) (areas : Areas)
    (is : IsLogOf most root l reading) (stands : StandsFor reading h floors) (free : AreFree most l n) (sound : AreSound areas)
    (archive : KeepsArchive l areas.archive) where
  -- a write of one part keeps the log
  log-kept : (done : List Part) (p : Part) (rest : List Part) (new : AreaState) → done ++ p ∷ rest ≡ new_parts n
      → IsLoosened p.place (length p.bytes) areas.heap new → KeepsLog l areas.heap → KeepsLog l new
  log-kept done p rest new are loose log =
      let parts = parts-free most root l n reading is free in
      let mine = subst (λ (ps : List Part). AllByRecursion (λ (q : Part). AreApartFrom q (heap_parts l)) ps) (sym are) parts.live in
      let gates = subst (λ (ps : List Part). AllByRecursion (λ (q : Part). ArePartsApart (gate_part (extent_start l.next) 0) q) ps) (sym are) parts.ends in
      record {
        parts = all-kept p (heap_parts l) areas.heap new (sound Heap) (one-of (λ (q : Part). AreApartFrom q (heap_parts l)) done p rest mine) loose log.parts;
        ends = closed-kept p (extent_start l.next) areas.heap new (sound Heap)
            (one-of (λ (q : Part). ArePartsApart (gate_part (extent_start l.next) 0) q) done p rest gates) loose log.ends;
      }

  pub base-goes : (done rest : List Part) → done ++ rest ≡ new_parts n → IsWritingBase l done areas.heap
      → IsBaseWay most root l n h floors done rest areas
  base-goes done rest are at =
      let split : (p : Part) (others : List Part) → rest ≡ p ∷ others → done ++ p ∷ others ≡ new_parts n =
      λ p others more. ap (λ (ps : List Part). done ++ ps) (sym more) ∙ are in
      record {
        before = λ image left. log-stands most root l reading h floors areas image.heap image.archive is stands at.log archive left.heap left.archive;
        within_write = λ p others result next image more writes left.
            let no_more = left_by_write Heap p.place p.bytes result areas next writes sound in
            let so = no_more.each image left in
            let new : AreaState = loosened p.place (length p.bytes) (areas.heap).bytes areas.heap in
            log-stands most root l reading h floors (record areas { heap = new }) image.heap image.archive is stands
            (log-kept done p others new (split p others more) (loosened_is p.place (length p.bytes) areas.heap) at.log) archive so.heap so.archive;
        written = λ p others next more writes.
            let new : AreaState = written p.place p.bytes areas.heap in
            let parts = parts-free most root l n reading is free in
            let turns = subst (AreInTurn []) (sym (split p others more)) parts.each in
            subst (IsWritingBase l (done ++ p ∷ [])) (sym (ap (λ (a : Areas). a.heap) writes.written)) (record {
              log = log-kept done p others new (split p others more) (written_is p.place p.bytes areas.heap (sound Heap)) at.log;
              written = AllByRecursion-append (λ (q : Part). HoldsPart q.place q.bytes new.bytes) done (p ∷ [])
                  (all-beside p done (areas.heap).bytes (before-apart [] done p others turns) at.written)
                  (written_part p.place p.bytes (areas.heap).bytes, tt);
            });
        within_sync = λ result next image syncs left.
            let no_more = left_by_sync Heap result areas next syncs sound in
            let so = no_more.each image left in
            log-stands most root l reading h floors areas image.heap image.archive is stands at.log archive so.heap so.archive;
        synced = λ next none syncs.
            let all : done ≡ new_parts n = sym (append-nil done) ∙ ap (λ (ps : List Part). done ++ ps) (sym none) ∙ are in
            subst (IsBaseSynced l n) (sym (ap (λ (a : Areas). a.heap) syncs.synced)) (record {
              log = record {
                parts = all-still (heap_parts l) areas.heap (sound Heap) (at.log).parts;
                ends = closed-still (extent_start l.next) areas.heap (sound Heap) (at.log).ends;
              };
              written = all-synced (new_parts n) areas.heap (subst (λ (ps : List Part). HoldsAll ps (areas.heap).bytes) all at.written);
            });
      }

-- ---- the log that it begins

pub base-rests : (l : HeapLog) (n : NewBase) (front back : List PlacedChain) (a : AreaState)
    → l.chains ≡ front ++ back → IsBaseSynced l n a → KeepsLog (with_new_base l n back) a
base-rests l n front back a split at =
    let anchors = anchor_extents n.anchors in
    let base = extents_of (placed_base n.numbers n.link n.base) in
    let stay = flat_map extents_of back in
    let parts_are : map extent_part (anchors ++ (base ++ stay)) ≡ new_parts n ++ map extent_part stay =
    ap (map extent_part) (sym (append_assoc anchors base stay)) ∙ map-append extent_part (anchors ++ base) stay in
    let old = anchor_extents l.anchors in
    let old_are : heap_parts l ≡ map extent_part (old ++ flat_map extents_of front) ++ map extent_part stay =
    ap (λ (cs : List PlacedChain). map extent_part (old ++ flat_map extents_of cs)) split
    ∙ ap (λ (es : List LinkedExtent). map extent_part (old ++ es)) (flat_map-append extents_of front back)
    ∙ ap (map extent_part) (sym (append_assoc old (flat_map extents_of front) stay))
    ∙ map-append extent_part (old ++ flat_map extents_of front) stay in
    record {
      parts = subst (λ (ps : List Part). KeepsAll ps a) (sym parts_are)
          (AllByRecursion-append (λ (p : Part). KeepsPart p.place p.bytes a) (new_parts n) (map extent_part stay) at.written
          (all_of_back (λ (p : Part). KeepsPart p.place p.bytes a) (map extent_part (old ++ flat_map extents_of front)) (map extent_part stay)
          (subst (λ (ps : List Part). KeepsAll ps a) old_are (at.log).parts)));
      ends = (at.log).ends;
    }
