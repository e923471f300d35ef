-- What the store under the lock answers to a view is what the history of the view's moment says.
use Rattle.std.proofs.Common.{◌≡◌, ◌∙◌, ℕ, Bool, Option, Result, Vec, ap, subst}
use Rattle.std.specs.declared.alloc.Global.{Global}
use Rattle.atomic_table.specs.Seated.{TableId}
use Rattle.history.specs.declared.key.Key.{Key}
use Rattle.history.specs.declared.time.Version.{Version}
use Rattle.history.specs.Answers as answers
use Rattle.history.specs.Machine.{Machine}
use Rattle.law_image.specs.Values.{Value}
use Rattle.timequery.specs.View.{ViewValue}
use Rattle.timequery.specs.declared.fault.QueryFault.{QueryFault}
use Rattle.any_store.specs.Queries as stores
use Rattle.any_store.specs.Values.{StoreValue}
use Rattle.law_refinement.specs.Homes.{IsSure}
use Rattle.law_refinement.specs.Laws.{SaysAt, SaysScanAt, SaysBetween, SaysScanBetween}
use Rattle.law_any_store.proofs.Views.{at-answered, scan_at-answered, between-answered, scan_between-answered}
use Rattle.shared.specs.Kinds.{Kind}
use Rattle.shared.specs.Moments.{ViewMoment, OfSeen}
use Rattle.shared.specs.Seen.{SightValue}
use Rattle.shared.specs.Shared.{IsShared, Shows}
use Rattle.shared.proofs.Moments.{still-reads}

-- what was asked by the view that was shown was asked by the one that was lent
pub as-lent : (Asks : StoreValue → ViewValue → Type 0) (v v' : StoreValue) (shown : ViewValue) (asked lent : ViewMoment) → v ≡ v' → shown ≡ asked.shown
    → asked ≡ lent → Asks v shown → Asks v' lent.shown
as-lent Asks v v' shown asked lent same is kept asks =
    subst (λ (w : ViewValue). Asks v' w) (is ∙ ap (λ (m : ViewMoment). m.shown) kept) (subst (λ (x : StoreValue). Asks x shown) same asks)

-- the view as it was shown, and as it was lent
module _ (tells : Bool) (start : Machine Value) (kind : Kind) (brand : ℕ) (table : TableId) (v new : StoreValue) (shares : ℕ) (at : TableId) (pass : SightValue)
    (h : IsShared tells start kind brand table v shares at pass) (shown : ViewValue) (asked lent : ViewMoment) (is : shown ≡ asked.shown) (same : asked
    ≡ lent) (s : Shows start brand pass.archive asked.shown asked.seen) where
  pub at-says : (key : Key) (time : ℕ) (r : Result (Option Value) QueryFault) → stores.AnswersAtView tells v shown key time r new
      → OfSeen start lent.seen (λ m. SaysAt (IsSure tells lent.shown.reclaimed time) (answers.at_answer m.published m.floors key time) r)
  at-says key time r says =
      let m = s.machine in
      let reads = still-reads tells start kind brand table v shares at pass asked.shown asked.seen h s in
      let found = subst (λ (w : ViewValue). stores.AnswersAtView tells v w key time r new) is says in
      subst (λ (x : ViewMoment). OfSeen start x.seen (λ m. SaysAt (IsSure tells x.shown.reclaimed time) (answers.at_answer m.published m.floors key time) r))
      same
      (m, s.reached, s.seen_is, at-answered tells v new h.state asked.shown m.published m.floors key time r h.stands s.stands reads found)

  pub scan_at-says : (relation time : ℕ) (r : Result (Vec (ℕ × Value) Global) QueryFault) → stores.AnswersScanAt tells v shown relation time r new
      → OfSeen start lent.seen (λ m. SaysScanAt (IsSure tells lent.shown.reclaimed time) m.published m.floors relation time r)
  scan_at-says relation time r says =
      let m = s.machine in
      let reads = still-reads tells start kind brand table v shares at pass asked.shown asked.seen h s in
      let found = subst (λ (w : ViewValue). stores.AnswersScanAt tells v w relation time r new) is says in
      subst (λ (x : ViewMoment). OfSeen start x.seen (λ m. SaysScanAt (IsSure tells x.shown.reclaimed time) m.published m.floors relation time r)) same
      (m, s.reached, s.seen_is, scan_at-answered tells v new h.state asked.shown m.published m.floors relation time r h.stands s.stands reads found)

  pub between-says : (key : Key) (a b : ℕ) (r : Result (Vec (Version Value) Global) QueryFault) → stores.AnswersRows tells v shown key a b r new
      → OfSeen start lent.seen (λ m. SaysBetween (IsSure tells lent.shown.reclaimed a) m.published m.floors key a b r)
  between-says key a b r says =
      let m = s.machine in
      let reads = still-reads tells start kind brand table v shares at pass asked.shown asked.seen h s in
      let found = subst (λ (w : ViewValue). stores.AnswersRows tells v w key a b r new) is says in
      subst (λ (x : ViewMoment). OfSeen start x.seen (λ m. SaysBetween (IsSure tells x.shown.reclaimed a) m.published m.floors key a b r)) same
      (m, s.reached, s.seen_is, between-answered tells v new h.state asked.shown m.published m.floors key a b r h.stands s.stands reads found)

  pub scan_between-says : (relation a b : ℕ) (r : Result (Vec (ℕ × Version Value) Global) QueryFault) → stores.AnswersScanRows tells v shown relation a b r new
      → OfSeen start lent.seen (λ m. SaysScanBetween (IsSure tells lent.shown.reclaimed a) m.published m.floors relation a b r)
  scan_between-says relation a b r says =
      let m = s.machine in
      let reads = still-reads tells start kind brand table v shares at pass asked.shown asked.seen h s in
      let found = subst (λ (w : ViewValue). stores.AnswersScanRows tells v w relation a b r new) is says in
      subst (λ (x : ViewMoment). OfSeen start x.seen (λ m. SaysScanBetween (IsSure tells x.shown.reclaimed a) m.published m.floors relation a b r)) same
      (m, s.reached, s.seen_is, scan_between-answered tells v new h.state asked.shown m.published m.floors relation a b r h.stands s.stands reads found)
