-- What a script's run keeps, in the words of its users.
use Rattle.std.specs.Prelude.{ℕ, ◌≡◌, ◌+◌, ◌++◌, ◌⊎◌, Bool, IsTrue, List, [], ◌∷◌, Result, Err, MatchOption, MatchResult}
use Rattle.disk.specs.Areas.{AreSound, image_of}
use Rattle.disk.specs.Calls.{DiskState}
use Rattle.history.specs.Histories.{History}
use Rattle.law_image.specs.Values.{Value}
use Rattle.recovery.specs.declared.fault.OpenFault.{OpenFault}
use Rattle.script.specs.Lines.{said}
use Rattle.script.specs.declared.line.Line.{Line}
use Rattle.session.specs.Run.{End, EndsSaying, IsCut, Run}
use Rattle.session.specs.Session.{fresh}
use Rattle.session.specs.Streams.{IsFront}
use Rattle.session.specs.Texts.{Text, bad_line, open_line, text_of}
use Rattle.session.specs.declared.ending.Ending.TheVariants as ending
use Rattle.session.specs.declared.reply.Reply.{Reply}
use Rattle.any_store.specs.Values.{StoreValue}
use Rattle.any_store.specs.Opens.{Opens}
use Rattle.law_any_store.specs.Standing.{AnyHeader, IsImageOf, opened_as}
use Rattle.law_script.specs.ScriptMoments.{ScriptMoment, first_script_moment}
use Rattle.law_script.specs.Keeps.{LineKeeps, Closed, KeepsUnopened}

-- a line of no form ends the run
abbrev pub BadKeeps : Bool → ℕ → ScriptMoment → Text → Result ScriptMoment End → Type 0
BadKeeps tells n before out next = (end : End) × Closed tells before end.1 × EndsSaying (bad_line n) ending.BadLine out end.0 × (next ≡ Err end)

-- so does a line of whose answer a front was written
abbrev pub UnsaidKeeps : Bool → Line → ScriptMoment → Text → End → Type 0
UnsaidKeeps tells l before out end =
    (r : Reply) × (after : ScriptMoment) × LineKeeps tells l r before after × Closed tells after end.1 × IsFront out (text_of r)
    × (end.0 ≡ ending.OutputRefused)

-- and one that the store refuses to open at
abbrev pub UnopenedKeeps : Bool → ScriptMoment → Text → End → Type 0
UnopenedKeeps tells before out end = (why : OpenFault) × KeepsUnopened tells before why end.1 × EndsSaying (open_line why) ending.NotOpened out end.0

-- the nth line writes out, and leads to the next moment or to the end
abbrev pub TurnKeeps : Bool → ℕ → ScriptMoment → Text → Text → Result ScriptMoment End → Type 0
TurnKeeps tells n before text out next = MatchOption (said text) (BadKeeps tells n before out next)
    (λ l. MatchResult next (λ after. (r : Reply) × LineKeeps tells l r before after × (out ≡ text_of r)) (λ e. UnopenedKeeps tells before out e
    ⊎ UnsaidKeeps tells l before out e))

-- the input or the output was refused before a line
abbrev pub CutKeeps : Bool → ScriptMoment → Text → End → Type 0
CutKeeps tells before out end = (out ≡ []) × IsCut end.0 × Closed tells before end.1

-- From this moment the lines, of which the first is the nth, write out and lead to this end, all or a front of them: line by line whatever a stop may leave
-- survives, with every commit of which `done` was written till then, and what is written is what a run of the machine answers.
abbrev pub ScriptKeeps : Bool → ℕ → ScriptMoment → List Text → Text → End → Type 0
ScriptKeeps tells n before [] out end = CutKeeps tells before out end ⊎ ((out ≡ []) × (end.0 ≡ ending.Whole) × Closed tells before end.1)
ScriptKeeps tells n before (text ∷ rest) out end =
    CutKeeps tells before out end ⊎ ((first : Text) × (next : Result ScriptMoment End) × TurnKeeps tells n before text first next
    × MatchResult next (λ mid. (more : Text) × ScriptKeeps tells (n + 1) mid rest more end × (out ≡ first ++ more)) (λ e. (out ≡ first) × (end ≡ e)))

-- The promise: for every script on a store opened on an image that stands for some history, from its first moment, however it ends.
abbrev pub ScriptPromise : Type 0
ScriptPromise =
    (tells : Bool) (disk : DiskState) (store : StoreValue) (header : AnyHeader) (h : History Value) (floors : ℕ
    → ℕ) (n : ℕ) (lines : List Text) (out : Text) (end : End)
    → IsTrue tells → AreSound disk.areas → IsImageOf header (image_of disk.areas) h floors → Opens tells disk 1 store → Run tells n (fresh store) lines out end
    → ScriptKeeps tells n (first_script_moment store (opened_as header h floors)) lines out end
