-- An image beside the machine: what a stop may leave stands for a front of the commit order that has all that is published.
use Rattle.std.specs.Prelude.{ℕ, ◌≡◌, ◌+◌, ◌⊎◌, Bool, IsTrue}
use Rattle.history.specs.Machine.{Machine}
use Rattle.history.specs.Fronts.{OnFront}
use Rattle.law_image.specs.Values.{Value}
use Rattle.law_image.specs.Reading.{Reading}
use Rattle.law_image.specs.StandsFor.{StandsFor}

-- the image stands for a front of the machine
abbrev pub StandsForFront : Reading → Machine Value → Type 0
StandsForFront reading m = OnFront (StandsFor reading) m

-- it has the pieces of slots that are open, and one more or not where one is in the making
abbrev pub HasFrontOfPieces : Reading → ℕ → Bool → Type 0
HasFrontOfPieces reading pieces growing = (reading.pieces ≡ pieces) ⊎ (IsTrue growing × (reading.pieces ≡ pieces + 1))
