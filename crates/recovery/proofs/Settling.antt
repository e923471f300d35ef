-- The moments of an opening.
use Rattle.std.proofs.Common.{◌≡◌, ◌+◌, ◌≤◌, Bool, IsTrue, [], ◌∷◌, Result, Ok, Err, refl, ap, ◌∙◌, inl, inr, arith}
use Rattle.std.specs.Prelude.{is_err, true}
use Rattle.std.proofs.lemmas.Bool.{cases_eq}
use Rattle.disk.specs.Areas.{Areas, AreSound, LeavesNoMore}
use Rattle.disk.specs.Calls.{DiskState, Counts, top}
use Rattle.disk.specs.declared.area.Area.{Area}
use Rattle.disk.specs.declared.area.Area.TheVariants.{Status, Heap, Archive}
use Rattle.disk.specs.declared.area.DeviceFault.{DeviceFault}
use Rattle.disk.proofs.Stops.{left_by_sync}
use Rattle.recovery.specs.Answers.{after_fault, after_reads}
use Rattle.recovery.specs.declared.fault.OpenFault.{OpenFault}
use Rattle.recovery.specs.declared.fault.OpenFault.TheVariants.{NotAStore, Damaged, Device, NoMemory}
use Rattle.recovery.specs.Settling.{IsSync, Settles, CountsMore, CountsAtMost}

-- what nothing more is left of than of a disk that leaves nothing more itself
pub still_left : (old middle new : Areas) → LeavesNoMore old middle → LeavesNoMore middle new → LeavesNoMore old new
still_left old middle new first next = record { each = λ image left. first.each image (next.each image left) }

pub left_by : (tells : Bool) (area : Area) (a b : DiskState) → IsSync tells area a b → IsTrue tells → AreSound a.areas → LeavesNoMore a.areas b.areas
left_by tells area a b sync told sound = left_by_sync area sync.answer a.areas b.areas (sync.areas told) sound

-- ---- the syncs, one after another, up to the one that is refused or the last

pub settles_one : (tells : Bool) (a b : DiskState) → IsSync tells Status a b → (IsTrue tells → AreSound a.areas) → Settles tells a b
settles_one tells a b first sound = record {
  moments = b ∷ [];
  syncs = (first, tt);
  reads = refl;
  left = λ told. (left_by tells Status a b first told (sound told), tt);
}

pub settles_two : (tells : Bool) (a b c : DiskState) → IsSync tells Status a b → IsSync tells Heap b c → (IsTrue tells → AreSound a.areas)
    → (IsTrue tells → AreSound b.areas) → Settles tells a c
settles_two tells a b c first second sound_a sound_b = record {
  moments = b ∷ c ∷ [];
  syncs = (first, (second, tt));
  reads = refl;
  left = λ told.
      let one = left_by tells Status a b first told (sound_a told) in
      (one, (still_left _ _ _ one (left_by tells Heap b c second told (sound_b told)), tt));
}

pub settles_three : (tells : Bool) (a b c d : DiskState) → IsSync tells Status a b → IsSync tells Heap b c → IsSync tells Archive c d
    → (IsTrue tells → AreSound a.areas) → (IsTrue tells → AreSound b.areas) → (IsTrue tells → AreSound c.areas) → Settles tells a d
settles_three tells a b c d first second third sound_a sound_b sound_c = record {
  moments = b ∷ c ∷ d ∷ [];
  syncs = (first, (second, (third, tt)));
  reads = refl;
  left = λ told.
      let one = left_by tells Status a b first told (sound_a told) in
      let two = still_left _ _ _ one (left_by tells Heap b c second told (sound_b told)) in
      (one, (two, (still_left _ _ _ two (left_by tells Archive c d third told (sound_c told)), tt)));
}

-- reads change nothing but the count of refusals
fault_only : (fault : OpenFault) (s : DiskState) → after_fault fault s ≡ record s { refused = (after_fault fault s).refused }
fault_only NotAStore s = refl
fault_only (Damaged area place) s = refl
fault_only Device s = refl
fault_only NoMemory s = refl

pub reads_only : {T : Type 0} (result : Result T OpenFault) (old new : DiskState) → new ≡ after_reads result old → new ≡ record old { refused = new.refused }
reads_only (Ok x) old new read = rw read refl
reads_only (Err fault) old new read = rw read (fault_only fault old)

-- and it is read then
pub settles_then_reads : {T : Type 0} (tells : Bool) (old middle new : DiskState) (result : Result T OpenFault) → Settles tells old middle → new
    ≡ after_reads result middle → Settles tells old new
settles_then_reads tells old middle new result settles read = record {
  moments = settles.moments;
  syncs = settles.syncs;
  reads = reads_only result middle new read ∙ ap (λ (s : DiskState). record s { refused = new.refused }) settles.reads;
  left = settles.left;
}

pub most_then_reads : {T : Type 0} (old middle new : DiskState) (result : Result T OpenFault) → CountsAtMost 3 old middle → new ≡ after_reads result middle
    → CountsAtMost 3 old new
most_then_reads old middle new result most read =
    let same : new.made ≡ middle.made = ap (λ (s : DiskState). s.made) (reads_only result middle new read) in omega (arith, most, same)

-- ---- how many they are

-- a call that is made is counted
one_more : (old new : DiskState) → Counts {T = Unit {0}} {E = DeviceFault} (Ok tt) old new → old.made ≤ top → (new.made ≡ old.made + 1) × (new.made ≤ top)
one_more old new counts few = elim (cases_eq old.made top) [
  | inl full ↦ let wrong : is_err {T = Unit {0}} {E = DeviceFault} (Ok tt) ≡ true = (counts.full full).0 in absurd cc
  | inr other ↦ (omega (arith, counts.made, few, other), omega (arith, counts.made))
]

pub three_more : (a b c d : DiskState) → Counts {T = Unit {0}} {E = DeviceFault} (Ok tt) a b → Counts {T = Unit {0}} {E = DeviceFault} (Ok tt) b c
    → Counts {T = Unit {0}} {E = DeviceFault} (Ok tt) c d → CountsMore 3 a d
three_more a b c d first second third few =
    let one = one_more a b first few in
    let two = one_more b c second one.1 in
    let three = one_more c d third two.1 in
    omega (arith, one.0, two.0, three.0)
