-- A view is answered by the history of its moment whatever calls come behind it.
use Rattle.std.proofs.Common.{ℕ, Bool, IsTrue, List, Option, Result, Vec}
use Rattle.std.specs.declared.alloc.Global.{Global}
use Rattle.history.specs.declared.key.Key.{Key}
use Rattle.history.specs.declared.time.Version.{Version}
use Rattle.history.specs.Machine.{Machine}
use Rattle.history.specs.Answers as answers
use Rattle.law_image.specs.Values.{Value}
use Rattle.timequery.specs.View.{ViewValue}
use Rattle.timequery.specs.declared.fault.QueryFault.{QueryFault}
use Rattle.log_store.specs.Values.{LogStoreValue}
use Rattle.log_store.specs.Queries as stores
use Rattle.law_refinement.specs.Homes.{ViewStands, IsSure}
use Rattle.law_refinement.specs.Laws.{SaysAt, SaysScanAt, SaysBetween, SaysScanBetween}
use Rattle.law_log_queries.specs.Archive.{Stands, ViewReads}
use Rattle.law_log_queries.specs.Calls.{LeadsTo}
use Rattle.law_log_queries.specs.Laws.{GoesTo}
use Rattle.law_log_queries.proofs.Calls.{calls-go-on}
use Rattle.law_log_queries.proofs.Views.{view-of-history, view-goes-on, at-answered, scan_at-answered, between-answered, scan_between-answered}

module _ (tells : Bool) (old now new : LogStoreValue) (between : List LogStoreValue) (m : Machine Value) (view : ViewValue) (told : IsTrue tells)
    (stands : Stands tells old m) (is : stores.IsViewOf old view) (leads : LeadsTo tells old between now) where
  goes : GoesTo tells old now
  goes = calls-go-on tells old now between m told stands leads

  of : ViewStands view m.published m.floors
  of = (view-of-history tells old view m stands is).0

  reads : ViewReads tells now view m.published m.floors
  reads = view-goes-on tells old now view m.published m.floors (view-of-history tells old view m stands is).1 (goes).goes

  pub at-frozen : (key : Key) (time : ℕ) (answer : Result (Option Value) QueryFault) → stores.AnswersAtView tells now view key time answer new
      → SaysAt (IsSure tells view.reclaimed time) (answers.at_answer m.published m.floors key time) answer
  at-frozen key time answer says = at-answered tells now new (goes).after view m.published m.floors (goes).stands of reads key time answer says

  pub scan_at-frozen : (relation time : ℕ) (answer : Result (Vec (ℕ × Value) Global) QueryFault) → stores.AnswersScanAt tells now view relation time answer new
      → SaysScanAt (IsSure tells view.reclaimed time) m.published m.floors relation time answer
  scan_at-frozen relation time answer says =
      scan_at-answered tells now new (goes).after view m.published m.floors (goes).stands of reads relation time answer says

  pub between-frozen : (key : Key) (a b : ℕ) (answer : Result (Vec (Version Value) Global) QueryFault) → stores.AnswersRows tells now view key a b answer new
      → SaysBetween (IsSure tells view.reclaimed a) m.published m.floors key a b answer
  between-frozen key a b answer says =
      between-answered tells now new (goes).after view m.published m.floors (goes).stands of reads key a b answer says

  pub scan_between-frozen : (relation a b : ℕ) (answer : Result (Vec (ℕ × Version Value) Global) QueryFault)
      → stores.AnswersScanRows tells now view relation a b answer new → SaysScanBetween (IsSure tells view.reclaimed a) m.published m.floors relation a b answer
  scan_between-frozen relation a b answer says =
      scan_between-answered tells now new (goes).after view m.published m.floors (goes).stands of reads relation a b answer says
