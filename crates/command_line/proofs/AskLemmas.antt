-- Without a number that it needs an action is not asked for.
use Rattle.std.proofs.Common.{ℕ, List, Option, Some, None, codes}
use Rattle.std.specs.Prelude.{IfSome, IfNone}
use Rattle.std.specs.Borrow.{Bor}
use Rattle.clap.specs.Words.{Row, Text}
use Rattle.history.specs.declared.key.Key.{Key}
use Rattle.command_line.specs.declared.action.Action.{Action}
use Rattle.command_line.specs.declared.action.Action.TheVariants as action
use Rattle.command_line.specs.declared.question.RecordWrite.{RecordWrite}
use Rattle.command_line.specs.Asked.{AsksAt, AsksBetween, AsksDelete, AsksFloor, AsksFormat, AsksGet, AsksHistory, AsksPut, AsksScan, AsksStress, AsksTimes}
use Rattle.command_line.specs.Asked.{HasKey, HasNumber, MayHaveNumber}

pub no_profile : (rows : List Row) → ((n : ℕ) → HasNumber 8 (codes "profile") rows n → ⊥) → (a : Action) → AsksFormat rows a → ⊥
no_profile rows none (action.Format dir layout) asked = none asked.1.profile asked.1.of_profile
no_profile rows none _ asked = asked

-- a number that may be left out
pub may_have : (bits : ℕ) (id : Text) (rows : List Row) (r : Option ℕ) → IfSome r (HasNumber bits id rows)
    → IfNone r ((n : ℕ) → HasNumber bits id rows n → ⊥) → MayHaveNumber bits id rows r
may_have bits id rows None some none = none
may_have bits id rows (Some n) some none = some

pub no_key : (rows : List Row) → ((k : Key) → HasKey rows k → ⊥) → (a : Action) → AsksAt rows a → ⊥
no_key rows none (action.At dir key time) asked = none key asked.1
no_key rows none _ asked = asked

pub no_key_between : (rows : List Row) → ((k : Key) → HasKey rows k → ⊥) → (a : Action) → AsksBetween rows a → ⊥
no_key_between rows none (action.Between dir key from to) asked = none key asked.1
no_key_between rows none _ asked = asked

pub no_stress : (rows : List Row) → ((writers readers rounds : ℕ) → AsksStress rows (action.Stress writers readers rounds) → ⊥) → (a : Action)
    → AsksStress rows a → ⊥
no_stress rows none (action.Stress writers readers rounds) asked = none writers readers rounds asked
no_stress rows none _ asked = asked

pub no_key_get : (rows : List Row) → ((k : Key) → HasKey rows k → ⊥) → (a : Action) → AsksGet rows a → ⊥
no_key_get rows none (action.Ask dir question style) asked = none asked.1 asked.2
no_key_get rows none _ asked = asked

pub no_key_history : (rows : List Row) → ((k : Key) → HasKey rows k → ⊥) → (a : Action) → AsksHistory rows a → ⊥
no_key_history rows none (action.Ask dir question style) asked = none asked.1 asked.2
no_key_history rows none _ asked = asked

pub no_relation : (rows : List Row) → ((n : ℕ) → HasNumber 16 (codes "REL") rows n → ⊥) → (a : Action) → AsksScan rows a → ⊥
no_relation rows none (action.Ask dir question style) asked = none asked.1 asked.2
no_relation rows none _ asked = asked

pub no_floor : (rows : List Row) → ((n : ℕ) → HasNumber 16 (codes "REL") rows n → ⊥) → (a : Action) → AsksFloor rows a → ⊥
no_floor rows none (action.Floor dir relation time) asked = none relation asked.1
no_floor rows none _ asked = asked

pub no_label : (rows : List Row) → ((n : ℕ) → HasNumber 64 (codes "LABEL") rows n → ⊥) → (a : Action) → AsksTimes rows a → ⊥
no_label rows none (action.Ask dir question style) asked = none asked.1 asked.2
no_label rows none _ asked = asked

pub no_put : (now : ℕ) (rows : List Row) → ((dir : Bor Text) (write : RecordWrite) → AsksPut now rows (action.Write dir write) → ⊥) → (a : Action)
    → AsksPut now rows a → ⊥
no_put now rows none (action.Write dir write) asked = none dir write asked
no_put now rows none _ asked = asked

pub no_delete : (now : ℕ) (rows : List Row) → ((dir : Bor Text) (write : RecordWrite) → AsksDelete now rows (action.Write dir write) → ⊥) → (a : Action)
    → AsksDelete now rows a → ⊥
no_delete now rows none (action.Write dir write) asked = none dir write asked
no_delete now rows none _ asked = asked
