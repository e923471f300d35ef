-- The run of a script.
use Rattle.std.specs.Prelude.{◌≡◌, ℕ, ◌+◌, Bool, true, false, Option, Some, List, [], ◌∷◌, ◌++◌, ◌⊎◌, Result, Ok, Err, MatchOption, MatchResult}
use Rattle.std.specs.Io.KnownBytes.{Appends}
use Rattle.disk.specs.Calls.{DiskState}
use Rattle.script.specs.Lines.{said}
use Rattle.script.specs.declared.line.Line.{Line}
use Rattle.script.specs.declared.line.Line.TheVariants as form
use Rattle.recovery.specs.declared.fault.OpenFault.{OpenFault}
use Rattle.session.specs.declared.ending.Ending.{Ending}
use Rattle.session.specs.declared.ending.Ending.TheVariants as ending
use Rattle.session.specs.declared.reply.Reply.{Reply}
use Rattle.session.specs.Session.{State, Closes, Refuses, Step}
use Rattle.session.specs.Streams.{IsFront}
use Rattle.session.specs.Texts.{Text, bad_line, open_line, text_of}

-- the run ended so, and left the disk so
abbrev pub End : Type 0
End = Ending × DiskState

-- the text was written and the run ended as it says, or a front of it was written and the output is refused
abbrev pub EndsSaying : Text → Ending → Text → Ending → Type 0
EndsSaying text told out end = ((out ≡ text) × (end ≡ told)) ⊎ (IsFront out text × (end ≡ ending.OutputRefused))

-- a line of no form ends the run
abbrev pub EndsBadly : ℕ → State → Text → Result State End → Type 0
EndsBadly n old out next = (end : End) × Closes old end.1 × EndsSaying (bad_line n) ending.BadLine out end.0 × (next ≡ Err end)

-- so does a line that is refused as a whole
abbrev pub EndsRefused : Bool → State → Line → Text → End → Type 0
EndsRefused tells old l out end = (f : OpenFault) × Refuses tells old l f end.1 × EndsSaying (open_line f) ending.NotOpened out end.0

-- and one of whose answer a front was written
abbrev pub EndsUnsaid : Bool → State → Line → Text → End → Type 0
EndsUnsaid tells old l out end =
    (r : Reply) × (new : State) × Step tells old l r new × Closes new end.1 × IsFront out (text_of r) × (end.0 ≡ ending.OutputRefused)

-- a line of this form writes out, and leaves a session or the end
abbrev pub Answers : Bool → State → Line → Text → Result State End → Type 0
Answers tells old l out next =
    MatchResult next (λ new. (r : Reply) × Step tells old l r new × (out ≡ text_of r)) (λ e. EndsRefused tells old l out e ⊎ EndsUnsaid tells old l out e)

-- so does the nth line
abbrev pub Turn : Bool → ℕ → State → Text → Text → Result State End → Type 0
Turn tells n old line out next = MatchOption (said line) (EndsBadly n old out next) (λ l. Answers tells old l out next)

-- the nth line was answered; or it is a `reopen`, and nothing happened
abbrev pub Answered : Bool → Bool → ℕ → State → Text → State → Option Text → Option Text → Type 0
Answered tells true n old text new before after = (out : Text) × Turn tells n old text out (Ok new) × Appends before after out
Answered tells false n old text new before after = (said text ≡ Some form.Reopen) × (new ≡ old) × (after ≡ before)

-- the run ends so with the nth line, once the session is closed
abbrev pub Ended : Bool → ℕ → State → Text → Ending → State → Option Text → Option Text → Type 0
Ended tells n old line end new before after =
    (out : Text) × ((disk : DiskState) → Closes new disk → Turn tells n old line out (Err (end, disk))) × Appends before after out

-- the input or the output was refused
abbrev pub IsCut : Ending → Type 0
IsCut ending.Whole = ⊥
IsCut ending.BadLine = ⊥
IsCut ending.NotOpened = ⊥
IsCut ending.InputRefused = Unit {0}
IsCut ending.OutputRefused = Unit {0}

-- so it was before a line, and nothing more is written
abbrev pub EndsCut : State → Text → End → Type 0
EndsCut old out end = (out ≡ []) × IsCut end.0 × Closes old end.1

-- The lines, of which the first is the nth, write out, and the run ends so. Where the input or the output is refused, a front of the lines was answered.
abbrev pub Run : Bool → ℕ → State → List Text → Text → End → Type 0
Run tells n old [] out end = EndsCut old out end ⊎ ((out ≡ []) × (end.0 ≡ ending.Whole) × Closes old end.1)
Run tells n old (line ∷ rest) out end = EndsCut old out end ⊎ ((first : Text) × (next : Result State End) × Turn tells n old line first next
    × MatchResult next (λ mid. (more : Text) × Run tells (n + 1) mid rest more end × (out ≡ first ++ more)) (λ e. (out ≡ first) × (end ≡ e)))
