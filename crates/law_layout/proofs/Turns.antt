-- The writing of a slot, told of histories.
use Rattle.std.proofs.Common.{◌≡◌, ℕ, List, length}
use Rattle.disk.specs.Areas.{Areas, AreSound}
use Rattle.wire.specs.Spelling.{IsSpelled}
use Rattle.wire.specs.declared.slot.Slot.{Slot}
use Rattle.history.specs.Histories.{History}
use Rattle.law_image.specs.Values.{Value}
use Rattle.law_image.specs.Reading.{Reading}
use Rattle.law_image.specs.StandsFor.{StandsFor}
use Rattle.law_layout.specs.Layouts.{Layout, IsLayoutOf, HoldsLayout, ImageStandsFor}
use Rattle.law_layout.specs.SlotTurns.{Adds, IsTurnAt}
use Rattle.law_layout.specs.Laws.{IsTurnWay}
use Rattle.law_layout.proofs.Standing.{held_stands, may_at, may_within}
use Rattle.law_layout.proofs.SlotTurns.{turn_holds, turn_call_holds}
use Rattle.status.specs.declared.header.Header.{Header}
use Rattle.status.specs.SlotCalls.{SlotStage}

pub turn_stands : (header : Header) (old : Layout) (slot : Slot) (new : Layout) (reading reading' : Reading) (h h' : History Value) (floors floors' : ℕ
    → ℕ) (body : List ℕ) (stage : SlotStage) (areas : Areas)
    → Adds header old slot new → IsLayoutOf header old reading → StandsFor reading h floors → IsLayoutOf header new reading' → StandsFor reading' h' floors'
    → length body ≡ 511 → IsSpelled header.profile (length old.slots) body slot → AreSound areas → IsTurnAt header old slot new stage areas
    → IsTurnWay header old body stage areas h h' floors floors'
turn_stands header old slot new reading reading' h h' floors floors' body stage areas adds laid stands laid' stands' long spelled sound at = record {
  before = λ image left.
      may_at stage (HoldsLayout header image old) (HoldsLayout header image new) (ImageStandsFor header image h floors) (ImageStandsFor header image h' floors')
      (held_stands header old reading h floors image laid stands) (held_stands header new reading' h' floors' image laid' stands')
      (turn_holds header old slot new adds stage areas image at left);
  within = λ result next image call left.
      may_within stage (HoldsLayout header image old) (HoldsLayout header image new) (ImageStandsFor header image h floors)
      (ImageStandsFor header image h' floors')
      (held_stands header old reading h floors image laid stands) (held_stands header new reading' h' floors' image laid' stands')
      (turn_call_holds header old slot new adds body long spelled stage result areas next image at sound call left);
}
