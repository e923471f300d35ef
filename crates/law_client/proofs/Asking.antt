-- What a view answered.
use Rattle.std.proofs.Common.{◌≡◌, ◌≤◌, ℕ, Bool, true, false, cond, nat_lt, Option, Some, None, Result, Ok, Err, refl, arith, inl}
use Rattle.std.proofs.lemmas.Bool.Decides.{nat_tests}
use Rattle.history.specs.declared.key.Key.{Key}
use Rattle.history.specs.Answers as answers
use Rattle.history.specs.Answers.{QueryRefusal, at_answer}
use Rattle.history.specs.Histories.{History, last, state}
use Rattle.law_image.specs.Values.{Value}
use Rattle.run.specs.Traces.{machine_at}
use Rattle.law_refinement.specs.Homes.{IsSure}
use Rattle.law_client.specs.Public.{Public}
use Rattle.law_client.specs.Views.{ViewAnswersAgain, AnsweredIsSettled}
use Rattle.law_client.proofs.Reading.{says-value}
use Rattle.law_client.proofs.Settling.{value-on}

pub view-again : Public → ViewAnswersAgain
view-again public tells t i k l key time value said told first second =
    let was = public.views tells t i k key time (Ok value) first in
    let is = public.views tells t i l key time said second in
    let by = is.2 in
    says-value (IsSure tells by.0 time) (inl told) value (at_answer (machine_at t i).published (machine_at t i).floors key time) said (was.2.2 (inl told)) by.2

-- a time that is answered is published, and its answer is the state
answered-time : (h : History Value) (floors : ℕ → ℕ) (key : Key) (time : ℕ) (value : Option Value) → at_answer h floors key time ≡ Ok value → (time ≤ last h)
    × (state h time key ≡ value)
answered-time h floors key time value =
    let Goal : Bool → Bool → Type 0 = λ early late. nat_lt time (floors key.relation) ≡ early → nat_lt (last h) time ≡ late
    → answers.unless_refused (cond early (Some (answers.BeforeKept (floors key.relation))) (cond late (Some (answers.NotYet (last h))) None)) (state h time key)
    ≡ Ok value → (time ≤ last h) × (state h time key ≡ value) in
    elim (nat_lt time (floors key.relation)) as (λ early. Goal early (nat_lt (last h) time)) [
      | true ↦ λ e l is. absurd (refused (answers.BeforeKept (floors key.relation)) is)
      | false ↦ elim (nat_lt (last h) time) as (λ late. Goal false late) [
        | true ↦ λ e l is. absurd (refused (answers.NotYet (last h)) is)
        | false ↦ λ e l is. let reached : time ≤ last h = grind (arith, nat_tests, l) in (reached, ok-is (state h time key) is)
      ]
    ] refl refl
  where
    refused : (why : QueryRefusal) → Path (Result (Option Value) QueryRefusal) (Err why) (Ok value) → ⊥
    refused why is = absurd cc

    ok-is : (found : Option Value) → Path (Result (Option Value) QueryRefusal) (Ok found) (Ok value) → found ≡ value
    ok-is found is = cc

pub answered-settled : Public → AnsweredIsSettled
answered-settled public tells t i k n key time value told asked low kept =
    let was = public.views tells t i k key time (Ok value) asked in
    let at = answered-time (machine_at t i).published (machine_at t i).floors key time value (was.2.2 (inl told)) in
    value-on public t i n key time value (omega (arith, was.0, low)) at.0 at.1 kept
