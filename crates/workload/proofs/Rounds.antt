-- What the writers' keys have after their last rounds.
use Rattle.std.proofs.Common.{◌≡◌, ◌+◌, ℕ, Bool, List, [], ◌∷◌, length, slice_get}
use Rattle.std.proofs.Common.{Option, Some, Result, Ok, sym, ap, ◌∙◌, subst, inl, inr, arith}
use Rattle.std.specs.Prelude.{IsTrue}
use Rattle.std.proofs.lemmas.Bool.{cases_lt}
use Rattle.history.specs.Answers as answers
use Rattle.history.specs.Histories.{last}
use Rattle.history.specs.Machine.{Machine}
use Rattle.law_image.specs.Values.{Value}
use Rattle.timequery.specs.View.{ViewValue}
use Rattle.timequery.specs.declared.fault.QueryFault.{QueryFault}
use Rattle.any_store.specs.Calls as stores
use Rattle.any_store.specs.Queries as queries
use Rattle.any_store.specs.Values.{StoreValue}
use Rattle.law_refinement.specs.Homes.{IsSure}
use Rattle.law_refinement.specs.Laws.{SaysAt}
use Rattle.law_any_store.specs.Standing.{Stands}
use Rattle.law_any_store.proofs.Memory.{last-published}
use Rattle.law_any_store.proofs.Views.{at-answered, view-of-history}
use Rattle.workload.specs.Reading.{HasLastRound, HasLastRounds, key_of, value_of}

-- a value of one field
pub one-field : (value : Value) (field : List ℕ) → length value ≡ 1 → slice_get value 0 ≡ Some field → value ≡ field ∷ []
one-field [] field one is = absurd (omega (arith, one))
one-field (x ∷ []) field one is = let same : x ≡ field = cc in ap (λ (y : List ℕ). y ∷ []) same
one-field (x ∷ y ∷ ys) field one is = absurd (omega (arith, one))

-- an answer about the last commit is that of the history
pub has-last_round : (tells : Bool) (v new : StoreValue) (m : Machine Value) (view : ViewValue) (rounds number time : ℕ) (r : Result (Option Value) QueryFault)
    → IsTrue tells → Stands tells v m → queries.IsViewOf v view → time ≡ stores.last v → queries.AnswersAtView tells v view (key_of (number + 1)) time r new
    → r ≡ Ok (Some (value_of rounds)) → HasLastRound m rounds number
has-last_round tells v new m view rounds number time r told stands of now says is =
    let shown = view-of-history tells v view m stands of in
    let answered = at-answered tells v new m view m.published m.floors (key_of (number + 1)) time r stands shown.0 shown.1 says in
    let sure = subst (λ (x : Result (Option Value) QueryFault). SaysAt (IsSure tells view.reclaimed time)
    (answers.at_answer m.published m.floors (key_of (number + 1)) time) x) is answered in
    let at : last m.published ≡ time = sym (now ∙ last-published tells v m stands) in
    ap (λ (t : ℕ). answers.at_answer m.published m.floors (key_of (number + 1)) t) at ∙ sure (inl told)

-- one more of the writers' keys has its last round
pub one-more : (m : Machine Value) (n rounds : ℕ) → HasLastRounds m n rounds → HasLastRound m rounds n → HasLastRounds m (n + 1) rounds
one-more m n rounds are one number within = elim (cases_lt number n) [
  | inl low ↦ are number low
  | inr past ↦ let same : n ≡ number = omega (arith, past, within) in subst (λ (k : ℕ). HasLastRound m rounds k) same one
]
