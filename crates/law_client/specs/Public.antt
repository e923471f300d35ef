-- The public clauses on which the laws of this crate stand: those of `run`, and of its histories.
use Rattle.history.specs.Laws.{LaterChangesNothing, RunAdds, RunPublishes, ConflictIsDecided}
use Rattle.law_image.specs.Values.{Value, IsValue}
use Rattle.run.specs.Laws.{FirstMoment, MomentSurvives, WriteStands, StopsSurvive, MachineRuns, TimesStayKept, DoneNamesItsSubmit, PutIsSubmitted}
use Rattle.run.specs.Laws.{DeleteIsSubmitted, ViewAnswersByItsMoment}

-- the laws of lists of calls and of histories from which those of this crate follow
pub record Public : Type 0 where
  pub first : FirstMoment
  pub survives : MomentSurvives
  pub writes : WriteStands
  pub stops : StopsSurvive
  pub runs : MachineRuns
  pub times : TimesStayKept
  pub done : DoneNamesItsSubmit
  pub put : PutIsSubmitted
  pub delete : DeleteIsSubmitted
  pub views : ViewAnswersByItsMoment
  pub later : LaterChangesNothing Value IsValue
  pub adds : RunAdds Value IsValue
  pub publishes : RunPublishes Value IsValue
  pub conflicts : ConflictIsDecided Value
