-- The kinds of calls.
use Rattle.run.specs.declared.calls.Call.{Call}
use Rattle.run.specs.declared.calls.Call.TheVariants as call

-- the call names a transaction and leaves nothing in its own place
abbrev pub IsInTransaction : Call → Type 0
IsInTransaction (call.Put i key fields) = Unit {0}
IsInTransaction (call.Delete i key) = Unit {0}
IsInTransaction (call.Get i key) = Unit {0}
IsInTransaction (call.Scan i relation) = Unit {0}
IsInTransaction (call.Abort i) = Unit {0}
IsInTransaction c = ⊥

-- the call names a view
abbrev pub IsOfView : Call → Type 0
IsOfView (call.At i key time) = Unit {0}
IsOfView (call.ScanAt i relation time) = Unit {0}
IsOfView (call.Between i key a b) = Unit {0}
IsOfView (call.ScanBetween i relation a b) = Unit {0}
IsOfView (call.Recent i key time) = Unit {0}
IsOfView (call.End i) = Unit {0}
IsOfView c = ⊥

-- the call is of a group, a ticket, a label or a job
abbrev pub IsOfStore : Call → Type 0
IsOfStore call.Pump = Unit {0}
IsOfStore (call.Redeem i) = Unit {0}
IsOfStore (call.GiveUp i) = Unit {0}
IsOfStore (call.TimesOf label) = Unit {0}
IsOfStore (call.Archive upto) = Unit {0}
IsOfStore call.Reclaim = Unit {0}
IsOfStore (call.Floor scope floor) = Unit {0}
IsOfStore call.Grow = Unit {0}
IsOfStore call.JobPump = Unit {0}
IsOfStore c = ⊥
