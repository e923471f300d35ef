-- One line after another.
use Rattle.std.proofs.Common.{◌≡◌, ℕ, ◌+◌, ◌++◌, ◌⊎◌, inl, inr, Bool, IsTrue, List, [], ◌∷◌, Option, Some, None, Result, Ok, Err, MatchOption, MatchResult}
use Rattle.std.proofs.Common.{refl, sym, subst}
use Rattle.disk.specs.Calls.{DiskState}
use Rattle.recovery.specs.declared.fault.OpenFault.{OpenFault}
use Rattle.law_any_store.specs.Standing.{opened_as}
use Rattle.law_any_store.proofs.Opened.{open-stands}
use Rattle.script.specs.Lines.{said}
use Rattle.script.specs.declared.line.Line.{Line}
use Rattle.script.specs.declared.line.Line.TheVariants as line
use Rattle.session.specs.Run as session
use Rattle.session.specs.Run.{End, EndsBadly, EndsCut, EndsRefused, EndsUnsaid}
use Rattle.session.specs.Session.{State, Closes, Step, Refuses}
use Rattle.session.specs.Texts.{Text, text_of}
use Rattle.session.specs.declared.reply.Reply.{Reply}
use Rattle.law_script.specs.ScriptMoments.{ScriptMoment}
use Rattle.law_script.specs.Keeps.{KeepsBy, LineKeeps, KeepsUnopened}
use Rattle.law_script.specs.Promise.{BadKeeps, CutKeeps, UnopenedKeeps, UnsaidKeeps, TurnKeeps, ScriptKeeps, ScriptPromise}
use Rattle.law_script.proofs.Leading.{IsScriptMoment}
use Rattle.law_script.proofs.Lines.{pump-line, flush-line, archive-line, reclaim-line, floor-line, grow-line, job-line, finish-line, at-line, scan-line}
use Rattle.law_script.proofs.Lines.{between-line, times-line}
use Rattle.law_script.proofs.Steps.{begin-line, put-line, delete-line, get-line, abort-line, submit-line, redeem-line}
use Rattle.law_script.proofs.Closing.{close-keeps, reopen-keeps, unopened-keeps, first-script}

-- a line leads to a moment of this session
record Leads (tells : Bool) (l : Line) (r : Reply) (before : ScriptMoment) (state : State) : Type 0 where
  pub after : ScriptMoment
  pub is_state : after.state ≡ state
  pub keeps : KeepsBy tells l r before after
  pub is : IsScriptMoment tells after

line-leads : (tells : Bool) → IsTrue tells → (m : ScriptMoment) → IsScriptMoment tells m → (l : Line) (r : Reply) (new : State) → Step tells m.state l r new
    → Leads tells l r m new
line-leads tells told m is (line.Begin name) r new step = let to =
    begin-line tells m is name r new step in record { after = to.after; is_state = to.is_state; keeps = to.keeps; is = to.is }
line-leads tells told m is (line.Put name key fields) r new step = let to =
    put-line tells m is name key fields r new step in record { after = to.after; is_state = to.is_state; keeps = to.keeps; is = to.is }
line-leads tells told m is (line.Delete name key) r new step = let to =
    delete-line tells m is name key r new step in record { after = to.after; is_state = to.is_state; keeps = to.keeps; is = to.is }
line-leads tells told m is (line.Get name key) r new step = let to =
    get-line tells m is name key r new step in record { after = to.after; is_state = to.is_state; keeps = to.keeps; is = to.is }
line-leads tells told m is (line.Submit name label now) r new step = let to =
    submit-line tells m is name label now r new step in record { after = to.after; is_state = to.is_state; keeps = to.keeps; is = to.is }
line-leads tells told m is (line.Abort name) r new step = let to =
    abort-line tells m is name r new step in record { after = to.after; is_state = to.is_state; keeps = to.keeps; is = to.is }
line-leads tells told m is (line.Redeem name) r new step = let to =
    redeem-line tells m is name r new step in record { after = to.after; is_state = to.is_state; keeps = to.keeps; is = to.is }
line-leads tells told m is line.Pump r new step = let to =
    pump-line tells m is r new step.0 step.1 in record { after = to.after; is_state = to.is_state; keeps = to.keeps; is = to.is }
line-leads tells told m is line.Flush r new step = let to =
    flush-line tells m is r new step.0 step.1 in record { after = to.after; is_state = to.is_state; keeps = to.keeps; is = to.is }
line-leads tells told m is (line.At key time) r new step = let to =
    at-line tells m is key time r new step.0 step.1 in record { after = to.after; is_state = to.is_state; keeps = to.keeps; is = to.is }
line-leads tells told m is (line.Between key a b) r new step = let to =
    between-line tells m is key a b r new step.0 step.1 in record { after = to.after; is_state = to.is_state; keeps = to.keeps; is = to.is }
line-leads tells told m is (line.Scan relation time) r new step = let to =
    scan-line tells m is relation time r new step.0 step.1 in record { after = to.after; is_state = to.is_state; keeps = to.keeps; is = to.is }
line-leads tells told m is (line.Times label) r new step = let to =
    times-line tells m is label r new step.0 step.1 in record { after = to.after; is_state = to.is_state; keeps = to.keeps; is = to.is }
line-leads tells told m is (line.Archive upto) r new step = let to =
    archive-line tells m is upto r new step.0 step.1 in record { after = to.after; is_state = to.is_state; keeps = to.keeps; is = to.is }
line-leads tells told m is line.Reclaim r new step = let to =
    reclaim-line tells m is r new step.0 step.1 in record { after = to.after; is_state = to.is_state; keeps = to.keeps; is = to.is }
line-leads tells told m is (line.Floor scope floor) r new step = let to =
    floor-line tells m is scope floor r new step.0 step.1 in record { after = to.after; is_state = to.is_state; keeps = to.keeps; is = to.is }
line-leads tells told m is line.Grow r new step = let to =
    grow-line tells m is r new step.0 step.1 in record { after = to.after; is_state = to.is_state; keeps = to.keeps; is = to.is }
line-leads tells told m is line.Job r new step = let to =
    job-line tells m is r new step.0 step.1 in record { after = to.after; is_state = to.is_state; keeps = to.keeps; is = to.is }
line-leads tells told m is line.Finish r new step = let to =
    finish-line tells m is r new step.0 step.1 in record { after = to.after; is_state = to.is_state; keeps = to.keeps; is = to.is }
line-leads tells told m is line.Reopen r new step = let to =
    reopen-keeps tells told m is r new step in record { after = to.after; is_state = to.is_state; keeps = to.keeps; is = to.is }

-- a line that ends the run
line-ends : (tells : Bool) → IsTrue tells → (m : ScriptMoment) → IsScriptMoment tells m → (l : Line) (why : OpenFault) (disk : DiskState)
    → Refuses tells m.state l why disk → KeepsUnopened tells m why disk
line-ends tells told m is line.Reopen why disk refuses = unopened-keeps tells told m is why disk refuses
line-ends tells told m is (line.Begin name) why disk refuses = absurd refuses
line-ends tells told m is (line.Put name key fields) why disk refuses = absurd refuses
line-ends tells told m is (line.Delete name key) why disk refuses = absurd refuses
line-ends tells told m is (line.Get name key) why disk refuses = absurd refuses
line-ends tells told m is (line.Submit name label now) why disk refuses = absurd refuses
line-ends tells told m is (line.Abort name) why disk refuses = absurd refuses
line-ends tells told m is (line.Redeem name) why disk refuses = absurd refuses
line-ends tells told m is line.Pump why disk refuses = absurd refuses
line-ends tells told m is line.Flush why disk refuses = absurd refuses
line-ends tells told m is (line.At key time) why disk refuses = absurd refuses
line-ends tells told m is (line.Between key a b) why disk refuses = absurd refuses
line-ends tells told m is (line.Scan relation time) why disk refuses = absurd refuses
line-ends tells told m is (line.Times label) why disk refuses = absurd refuses
line-ends tells told m is (line.Archive upto) why disk refuses = absurd refuses
line-ends tells told m is line.Reclaim why disk refuses = absurd refuses
line-ends tells told m is (line.Floor scope floor) why disk refuses = absurd refuses
line-ends tells told m is line.Grow why disk refuses = absurd refuses
line-ends tells told m is line.Job why disk refuses = absurd refuses
line-ends tells told m is line.Finish why disk refuses = absurd refuses

-- ---- turns

-- a line that the run goes on from
record GoesOnTo (tells : Bool) (n : ℕ) (before : ScriptMoment) (text out : Text) (state : State) : Type 0 where
  pub after : ScriptMoment
  pub is_state : after.state ≡ state
  pub turn : TurnKeeps tells n before text out (Ok after)
  pub is : IsScriptMoment tells after

turn-goes : (tells : Bool) → IsTrue tells → (n : ℕ) (m : ScriptMoment) → IsScriptMoment tells m → (text out : Text) (new : State)
    → session.Turn tells n m.state text out (Ok new) → GoesOnTo tells n m text out new
turn-goes tells told n m is text out new turn = by-line (said text) refl turn
  where
    by-line : (o : Option Line) → said text ≡ o
        → MatchOption o (EndsBadly n m.state out (Ok new)) (λ l. (r : Reply) × Step tells m.state l r new × (out ≡ text_of r)) → GoesOnTo tells n m text out new
    by-line None is_bad bad = let never = bad.3 in absurd cc
    by-line (Some l) is_line step =
        let to = line-leads tells told m is l step.0 new step.1 in
        let keeps : LineKeeps tells l step.0 m to.after =
        record { step = subst (λ (s : State). Step tells m.state l step.0 s) (sym to.is_state) step.1; keeps = to.keeps } in
        record {
          after = to.after;
          is_state = to.is_state;
          turn = subst (λ (o : Option Line). MatchOption o (BadKeeps tells n m out (Ok to.after)) (λ x. (r : Reply) × LineKeeps tells x r m to.after
              × (out ≡ text_of r))) (sym is_line) (step.0, keeps, step.2);
          is = to.is;
        }

-- the answer to a line was not written in full
unsaid : (tells : Bool) → IsTrue tells → (m : ScriptMoment) → IsScriptMoment tells m → (l : Line) (out : Text) (e : End) → EndsUnsaid tells m.state l out e
    → UnsaidKeeps tells l m out e
unsaid tells told m is l out e ends =
    let to = line-leads tells told m is l ends.0 ends.1 ends.2 in
    let keeps : LineKeeps tells l ends.0 m to.after =
    record { step = subst (λ (s : State). Step tells m.state l ends.0 s) (sym to.is_state) ends.2; keeps = to.keeps } in
    let closes : Closes to.after.state e.1 = subst (λ (s : State). Closes s e.1) (sym to.is_state) ends.3 in
    (ends.0, to.after, keeps, (close-keeps tells to.after to.is e.1 closes).closed, ends.4, ends.5)

turn-ends : (tells : Bool) → IsTrue tells → (n : ℕ) (m : ScriptMoment) → IsScriptMoment tells m → (text out : Text) (e : End)
    → session.Turn tells n m.state text out (Err e) → TurnKeeps tells n m text out (Err e)
turn-ends tells told n m is text out e turn = by-line (said text) turn
  where
    by-end : (l : Line) → (EndsRefused tells m.state l out e ⊎ EndsUnsaid tells m.state l out e) → (UnopenedKeeps tells m out e ⊎ UnsaidKeeps tells l m out e)
    by-end l (inl refused) = inl (refused.0, line-ends tells told m is l refused.0 e.1 refused.1, refused.2)
    by-end l (inr ends) = inr (unsaid tells told m is l out e ends)

    by-line : (o : Option Line) → MatchOption o (EndsBadly n m.state out (Err e)) (λ l. EndsRefused tells m.state l out e ⊎ EndsUnsaid tells m.state l out e)
        → MatchOption o (BadKeeps tells n m out (Err e)) (λ l. UnopenedKeeps tells m out e ⊎ UnsaidKeeps tells l m out e)
    by-line None bad = let so = bad.3 in (bad.0, (close-keeps tells m is bad.0.1 bad.1).closed, bad.2, cc)
    by-line (Some l) ends = by-end l ends

cut-keeps : (tells : Bool) (m : ScriptMoment) → IsScriptMoment tells m → (out : Text) (end : End) → EndsCut m.state out end → CutKeeps tells m out end
cut-keeps tells m is out end cut = (cut.0, cut.1, (close-keeps tells m is end.1 cut.2).closed)

pub script-keeps : (tells : Bool) → IsTrue tells → (n : ℕ) (m : ScriptMoment) → IsScriptMoment tells m → (lines : List Text) (out : Text) (end : End)
    → session.Run tells n m.state lines out end → ScriptKeeps tells n m lines out end
script-keeps tells told n m is [] out end (inl cut) = inl (cut-keeps tells m is out end cut)
script-keeps tells told n m is [] out end (inr run) = inr (run.0, run.1, (close-keeps tells m is end.1 run.2).closed)
script-keeps tells told n m is (text ∷ rest) out end (inl cut) = inl (cut-keeps tells m is out end cut)
script-keeps tells told n m is (text ∷ rest) out end (inr run) =
    inr (by-next (λ next next_is more run_on. script-keeps tells told (n + 1) next next_is rest more end run_on) run.1 run.2 run.3)
  where
    by-next : ((next : ScriptMoment) → IsScriptMoment tells next → (more : Text) → session.Run tells (n + 1) next.state rest more end
        → ScriptKeeps tells (n + 1) next rest more end) → (next : Result State End) → session.Turn tells n m.state text run.0 next
        → MatchResult next (λ mid. (more : Text) × session.Run tells (n + 1) mid rest more end × (out ≡ run.0 ++ more)) (λ e. (out ≡ run.0) × (end ≡ e))
        → (first : Text) × (next : Result ScriptMoment End) × TurnKeeps tells n m text first next
        × MatchResult next (λ mid. (more : Text) × ScriptKeeps tells (n + 1) mid rest more end × (out ≡ first ++ more)) (λ e. (out ≡ first) × (end ≡ e))
    by-next keeps_rest (Ok new) turn more =
        let to = turn-goes tells told n m is text run.0 new turn in
        let on : session.Run tells (n + 1) to.after.state rest more.0 end =
        subst (λ (s : State). session.Run tells (n + 1) s rest more.0 end) (sym to.is_state) more.1 in
        (run.0, Ok to.after, to.turn, (more.0, keeps_rest to.after to.is more.0 on, more.2))
    by-next keeps_rest (Err e) turn ends = (run.0, Err e, turn-ends tells told n m is text run.0 e turn, ends)

pub promise : ScriptPromise
promise tells disk store header h floors n lines out end told sound is opens run =
    let first = first-script tells store (opened_as header h floors) (open-stands tells disk 1 store header h floors opens told sound is) in
    script-keeps tells told n _ first lines out end run
