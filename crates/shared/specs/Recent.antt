-- What a view answers from memory alone.
use Rattle.std.specs.Prelude.{ℕ, ◌≡◌, ◌<◌, List, Result, Ok, Err}
use Rattle.std.specs.declared.alloc.Global.{Global}
use Rattle.std.specs.declared.vec.Vec.{Vec}
use Rattle.history.specs.declared.key.Key.{Key}
use Rattle.history.specs.declared.time.Version.{Version}
use Rattle.history.specs.Answers as answers
use Rattle.history.specs.Histories.{History}
use Rattle.law_image.specs.Values.{Value}
use Rattle.timequery.specs.View.{ViewValue}
use Rattle.timequery.specs.declared.fault.QueryFault.{QueryFault}
use Rattle.timequery.specs.declared.fault.QueryFault.TheVariants as query

-- An answer is that of the history. Or memory for it was refused, or the time is below the reclaim mark, where the history has an answer.
abbrev pub Recalls : {T X : Type 0} → ViewValue → ℕ → (T → X) → (Result X answers.QueryRefusal → Type 0) → Result T QueryFault → Type 0
Recalls view from held Is (Ok found) = Is (Ok (held found))
Recalls view from held Is (Err (query.BeforeKept floor)) = Is (Err (answers.BeforeKept floor))
Recalls view from held Is (Err (query.NotYet time)) = Is (Err (answers.NotYet time))
Recalls view from held Is (Err query.EmptyInterval) = Is (Err answers.EmptyInterval)
Recalls {T} {X} view from held Is (Err query.NoMemory) = (found : X) × Is (Ok found)
Recalls {T} {X} view from held Is (Err query.NeedsDisk) = (from < view.reclaimed) × ((found : X) × Is (Ok found))
Recalls view from held Is (Err query.Device) = ⊥
Recalls view from held Is (Err (query.Damaged start)) = ⊥
Recalls view from held Is (Err query.Stranger) = ⊥

-- so the values of a relation at a time, the rows of a key and those of a relation
abbrev pub RecallsScan : ViewValue → History Value → (ℕ → ℕ) → ℕ → ℕ → Result (Vec (ℕ × Value) Global) QueryFault → Type 0
RecallsScan view h floors relation time answer =
    Recalls view time (λ (found : Vec (ℕ × Value) Global). found.items) (answers.IsScanAtAnswer h floors relation time) answer

-- so the rows of a key between two times
abbrev pub RecallsBetween : ViewValue → History Value → (ℕ → ℕ) → Key → ℕ → ℕ → Result (Vec (Version Value) Global) QueryFault → Type 0
RecallsBetween view h floors key a b answer =
    Recalls view a (λ (rows : Vec (Version Value) Global). rows.items) (λ said. answers.between_answer h floors key a b ≡ said) answer

-- so the same rows as a walk, for which memory is never refused
abbrev pub RecallsWalk : ViewValue → History Value → (ℕ → ℕ) → Key → ℕ → ℕ → Result (List (Version Value)) QueryFault → Type 0
RecallsWalk view h floors key a b (Err query.NoMemory) = ⊥
RecallsWalk view h floors key a b answer =
    Recalls view a (λ (rows : List (Version Value)). rows) (λ said. answers.between_answer h floors key a b ≡ said) answer

-- so the rows of all records of a relation between two times
abbrev pub RecallsScanBetween : ViewValue → History Value → (ℕ → ℕ) → ℕ → ℕ → ℕ → Result (Vec (ℕ × Version Value) Global) QueryFault → Type 0
RecallsScanBetween view h floors relation a b answer =
    Recalls view a (λ (rows : Vec (ℕ × Version Value) Global). rows.items) (answers.IsScanBetweenAnswer h floors relation a b) answer
