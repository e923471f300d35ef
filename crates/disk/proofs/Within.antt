-- While a write is made, a stop leaves nothing that one after it may not leave.
use Rattle.std.proofs.Common.{ℕ, List, length, sym, subst, ◌∙◌, arith}
use Rattle.disk.specs.declared.area.Area.{Area}
use Rattle.disk.specs.declared.area.Area.TheVariants.{Status, Heap, Archive}
use Rattle.disk.specs.Areas.{AreaState, Areas, Image, AreSound, IsSound, MayLeave, LeavesImage, loosened, written, area_of, with_area, while_written}
use Rattle.disk.specs.Within.{WithinWrite}
use Rattle.disk.proofs.Stops.{IsTorn-overlaid}

may-leave : (a : AreaState) (at : ℕ) (bytes c : List ℕ) → IsSound a → MayLeave (loosened at (length bytes) a.bytes a) c → MayLeave (written at bytes a) c
may-leave a at bytes c sound left = record {
  no_shorter = left.no_shorter;
  kept = λ i low apart. left.kept i low apart ∙ sym ((IsTorn-overlaid a.bytes at bytes).elsewhere i (let firm = sound.firm in omega arith) apart.0);
  settled = λ none. cc;
  are_bytes = left.are_bytes;
}

leaves : (area : Area) (at : ℕ) (bytes : List ℕ) (old : Areas) (image : Image) → AreSound old → LeavesImage (while_written area at (length bytes) old) image
    → LeavesImage (with_area area (written at bytes (area_of old area)) old) image
leaves Status at bytes old image sound left = record { status = may-leave _ at bytes _ (sound Status) left.status; heap = left.heap; archive = left.archive }
leaves Heap at bytes old image sound left = record { status = left.status; heap = may-leave _ at bytes _ (sound Heap) left.heap; archive = left.archive }
leaves Archive at bytes old image sound left = record { status = left.status; heap = left.heap; archive = may-leave _ at bytes _ (sound Archive) left.archive }

pub within-write : WithinWrite
within-write area at bytes old new sound writes =
    record { each = λ image left. subst (λ (x : Areas). LeavesImage x image) (sym writes.written) (leaves area at bytes old image sound left) }
