-- First committer wins, as an application sees it.
use Rattle.std.specs.Prelude.{ℕ, ◌≡◌, ◌<◌, Bool, List, IsSome}
use Rattle.history.specs.declared.key.Key.{Key}
use Rattle.history.specs.declared.key.KeyWrite.{KeyWrite}
use Rattle.history.specs.Key.{write_in}
use Rattle.history.specs.Histories.{Commit}
use Rattle.law_image.specs.Values.{Value}
use Rattle.run.specs.Traces.{Trace, IsSubmit}
use Rattle.law_client.specs.Kept.{IsDone}

-- the two have a key in common
abbrev pub ShareKey : List (KeyWrite Value) → List (KeyWrite Value) → Type 0
ShareKey a b = (key : Key) × IsSome (write_in a key) × IsSome (write_in b key)

-- Where Done was answered for two tickets, the later submit is of a snapshot that has the other's commit, or the two wrote no key in common. So of two
-- transactions of one snapshot that wrote the same key, Done is answered for one at most.
abbrev pub FirstWins : Type 0
FirstWins = (tells : Bool) (t : Trace tells) (i j k l time later : ℕ) → i < j → IsDone t k i time → IsDone t l j later
    → (first : Commit Value) × (second : Commit Value) × (a : IsSubmit t i first) × (b : IsSubmit t j second) × (first.time ≡ time) × (second.time ≡ later)
    × (a.snapshot < time) × (b.snapshot < time → ¬ ShareKey first.writes second.writes) × (a.snapshot ≡ b.snapshot → ¬ ShareKey first.writes second.writes)
