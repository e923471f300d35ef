-- The floors that are kept of a log are the log's.
use Rattle.std.proofs.Common.{◌≡◌, ℕ, List, [], ◌∷◌, ◌++◌, refl, ap, ◌∙◌}
use Rattle.floors.specs.Floors.{FloorsValue, no_floors, floor_at, raised_in}
use Rattle.floors.proofs.Owns.{raised-is}
use Rattle.history.specs.Floors.{raised}
use Rattle.law_image.specs.Log.{floor_of, floors_after}
use Rattle.law_image.specs.Reading.{Slot, Commits, Archived, Reclaimed, Floor}
use Rattle.status.specs.Kept.{kept_after, kept_of}

pub kept-is : (before : FloorsValue) (log : List Slot) (relation : ℕ) → floor_at (kept_after before log) relation ≡ floors_after (floor_at before) log relation
kept-is before [] relation = refl
kept-is before (Commits heads ∷ log) relation = kept-is before log relation
kept-is before (Archived upto ∷ log) relation = kept-is before log relation
kept-is before (Reclaimed upto ∷ log) relation = kept-is before log relation
kept-is before (Floor scope floor ∷ log) relation =
    let same : floor_at (raised_in scope floor before) ≡ raised scope floor (floor_at before) = λ i other. raised-is before scope floor other i in
    kept-is (raised_in scope floor before) log relation ∙ ap (λ (floors : ℕ → ℕ). floors_after floors log relation) same

-- those of a whole log
pub kept-of : (log : List Slot) (relation : ℕ) → floor_at (kept_of log) relation ≡ floor_of log relation
kept-of log relation = kept-is no_floors log relation

-- one slot more
pub kept-append : (before : FloorsValue) (log more : List Slot) → kept_after before (log ++ more) ≡ kept_after (kept_after before log) more
kept-append before [] more = refl
kept-append before (Commits heads ∷ log) more = kept-append before log more
kept-append before (Archived upto ∷ log) more = kept-append before log more
kept-append before (Reclaimed upto ∷ log) more = kept-append before log more
kept-append before (Floor scope floor ∷ log) more = kept-append (raised_in scope floor before) log more
