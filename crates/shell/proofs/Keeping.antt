-- Each action keeps the promise.
use Rattle.std.proofs.Common.{ℕ, ◌≡◌, ◌+◌, ◌⊎◌, inl, inr, Bool, true, false, IsTrue, List, [], ◌∷◌}
use Rattle.std.proofs.Common.{Option, Some, None, Result, Ok, Err, Vec, ap, refl, sym, subst, ◌∙◌}
use Rattle.std.specs.declared.alloc.Global.{Global}
use Rattle.std.specs.Prelude.{MatchBool, MatchOption}
use Rattle.disk.specs.Areas.{AreSound, image_of}
use Rattle.disk.specs.Calls.{DiskState, looked, refused_answer}
use Rattle.history.specs.Answers as answers
use Rattle.history.specs.Answers.{QueryRefusal, at_answer, between_answer, times_of}
use Rattle.history.specs.declared.key.Key.{Key}
use Rattle.history.specs.declared.time.Version.{Version}
use Rattle.history.specs.Histories.{History, last}
use Rattle.law_image.specs.Values.{Value}
use Rattle.history.specs.Machine.{Machine}
use Rattle.floors.specs.Floors.{floor_at}
use Rattle.law_refinement.specs.Homes.{IsSure, ViewStands}
use Rattle.law_refinement.specs.Laws.{Says, SaysAt, SaysScanAt}
use Rattle.law_log_queries.specs.Names.{SaysTimes}
use Rattle.any_store.specs.declared.engine.Engine.TheVariants as engine
use Rattle.any_store.specs.declared.formatting.Layout.TheVariants.{Slots}
use Rattle.any_store.specs.Calls as stores
use Rattle.any_store.specs.Opens.{Opens}
use Rattle.any_store.specs.Queries as queries
use Rattle.any_store.specs.Queries.{IsViewOf}
use Rattle.any_store.specs.Values.{StoreValue, is_log}
use Rattle.law_any_store.specs.Formatted.{header_of}
use Rattle.law_any_store.proofs.Formatted.{formatted-leaves, formatted-stands}
use Rattle.law_any_store.specs.Names.{names_from}
use Rattle.law_any_store.specs.Opened.{IsOfHeader}
use Rattle.law_any_store.specs.Standing.{AnyHeader, IsImageOf, Stands, ViewReads, opened_as, opened_in}
use Rattle.law_any_store.proofs.Memory.{last-published, memory-stands}
use Rattle.law_any_store.proofs.Names.{times-told}
use Rattle.law_any_store.proofs.Opened.{image-header, open-header, open-stands}
use Rattle.law_any_store.proofs.Reopened.{open-refuses}
use Rattle.law_any_store.proofs.Views.{at-answered, between-answered, scan_at-answered, view-of-history}
use Rattle.run.proofs.Survival.{kept-as}
use Rattle.timequery.specs.View.{ViewValue}
use Rattle.timequery.specs.declared.fault.QueryFault.{QueryFault}
use Rattle.timequery.specs.declared.fault.QueryFault.TheVariants as query
use Rattle.script.specs.declared.line.Line.{Line}
use Rattle.script.specs.declared.line.Line.TheVariants as line
use Rattle.session.specs.Session as session
use Rattle.session.specs.Session.{State, AtStep, BetweenStep, ScanStep, TimesStep, Closes, Step, fresh}
use Rattle.session.specs.Texts.{Text}
use Rattle.session.specs.declared.reply.Reply.{Reply}
use Rattle.session.specs.declared.reply.Reply.TheVariants as reply
use Rattle.status.specs.declared.fault.LogFault.{LogFault}
use Rattle.status.specs.declared.fault.LogFault.TheVariants as log
use Rattle.status.specs.Reading.{refused_by}
use Rattle.law_script.specs.ScriptMoments.{ScriptMoment, first_script_moment}
use Rattle.law_script.proofs.Closing.{close-keeps, first-script, reopen-keeps}
use Rattle.law_script.specs.Keeps.{KeepsBy, KeepsByCalls}
use Rattle.law_script.proofs.Leading.{IsScriptMoment, LeadsTo}
use Rattle.law_script.proofs.Lines.{pump-line, flush-line, archive-line, reclaim-line, floor-line, grow-line, job-line, finish-line, at-line, scan-line}
use Rattle.law_script.proofs.Lines.{between-line, times-line}
use Rattle.law_script.proofs.Steps.{begin-line, put-line, delete-line, get-line, abort-line, submit-line, redeem-line}
use Rattle.law_script.specs.Promise.{ScriptKeeps}
use Rattle.law_script.proofs.Script.{promise}
use Rattle.command_line.specs.declared.question.Question.{Question}
use Rattle.command_line.specs.declared.question.Question.TheVariants as question
use Rattle.command_line.specs.declared.question.RecordWrite.{RecordWrite}
use Rattle.command_line.specs.declared.question.When.{When}
use Rattle.command_line.specs.declared.question.When.TheVariants as when
use Rattle.command_line.specs.declared.action.Action.{Action}
use Rattle.command_line.specs.declared.action.Action.TheVariants as action
use Rattle.shell.specs.Acts.{Acts, Asks, Dumps, Makes, Grows, GrowsStore, Input, Output, RefusesTime, Runs, RunsNew, RunsOnNew, RunsScript, SaysGrown}
use Rattle.forms.specs.Styles.{plain}
use Rattle.forms.specs.declared.style.Style.{Style}
use Rattle.shell.specs.Acts.{Raises, RaisesStore, SaysSlots, SaysVacuum, Tells, Vacuums, VacuumsStore, Writes, WritesStore}
use Rattle.shell.specs.Asking.{end_asked, line_asked, time_asked}
use Rattle.command_line.specs.declared.layout.Layout.{Layout}
use Rattle.shell.specs.Layouts.{store_layout}
use Rattle.recovery.specs.Answers.{after_fault}
use Rattle.recovery.specs.declared.fault.OpenFault.{OpenFault}
use Rattle.recovery.specs.declared.fault.OpenFault.TheVariants as opening
use Rattle.shell.specs.Acts.{ByLayout, DumpsHeap, HasNoDump, HasNoInfo, RefusesProfile, TellsHeap}
use Rattle.shell.specs.Keeps.{LineLeads, LinesKeep, RunKeeps, NewRunKeeps, KeepsPromise, VacuumKeeps, VacuumingKeeps, GrowthKeeps}
use Rattle.shell.specs.Keeps.{GrowingKeeps, MakingKeeps, IsValueReply, IsRowsReply, OrGaveOut, AskingKeeps}
use Rattle.shell.specs.Keeps.{FloorKeeps, RaisingKeeps}
use Rattle.shell.specs.Keeps.{IsRecordsReply, IsReplyTo, IsTimesReply, WriteKeeps, WritingKeeps}
use Rattle.shell.specs.Vacuums.{DoesAll, DoesJob, DoesPart, DoesVacuum, LogNames, LogNamesNone, is_refusal}
use Rattle.shell.specs.declared.job_records.JobRecords.{JobRecords}
use Rattle.script.specs.Lines.{said}
use Rattle.shell.specs.Writing.{AnswersInTurn, IsNotAnswered, write_lines}
use Rattle.shell.specs.declared.vacuuming.Vacuumed.{Vacuumed}
use Rattle.shell.specs.declared.vacuuming.Vacuumed.TheVariants as vacuumed

-- the machine on an image is that of the store which opened on it
opened-same : (store : StoreValue) (header : AnyHeader) (h : History Value) (floors : ℕ → ℕ) → IsOfHeader store header → opened_as header h floors
    ≡ opened_in store h floors
opened-same (engine.Slots s) (engine.Slots header) h floors of = refl
opened-same (engine.Slots s) (engine.Log roots) h floors of = absurd of
opened-same (engine.Log l) (engine.Slots header) h floors of = absurd of
opened-same (engine.Log l) (engine.Log roots) h floors of = refl

stands-in : (tells : Bool) (old : DiskState) (store : StoreValue) (header : AnyHeader) (h : History Value) (floors : ℕ → ℕ) → Opens tells old 1 store
    → IsTrue tells → AreSound old.areas → IsImageOf header (image_of old.areas) h floors → Stands tells store (opened_in store h floors)
stands-in tells old store header h floors opens told sound image =
    subst (Stands tells store) (opened-same store header h floors (open-header tells old 1 store header h floors opens told image))
    (open-stands tells old 1 store header h floors opens told sound image)

-- it has published the history, with these floors
published-in : (store : StoreValue) (h : History Value) (floors : ℕ → ℕ) → (opened_in store h floors).published ≡ h
published-in (engine.Slots s) h floors = refl
published-in (engine.Log l) h floors = refl

floors-in : (store : StoreValue) (h : History Value) (floors : ℕ → ℕ) → (opened_in store h floors).floors ≡ floors
floors-in (engine.Slots s) h floors = refl
floors-in (engine.Log l) h floors = refl

-- a view of now is of that history
view-in : (tells : Bool) (store : StoreValue) (view : ViewValue) (h : History Value) (floors : ℕ → ℕ) → Stands tells store (opened_in store h floors)
    → IsViewOf store view → ViewStands view h floors × ViewReads tells store view h floors
view-in tells store view h floors stands of =
    subst (λ (h' : History Value). ViewStands view h' floors × ViewReads tells store view h' floors) (published-in store h floors)
    (subst (λ (f : ℕ → ℕ). ViewStands view (opened_in store h floors).published f × ViewReads tells store view (opened_in store h floors).published f)
    (floors-in store h floors) (view-of-history tells store view (opened_in store h floors) stands of))

lines-keep : (tells : Bool) (old new : DiskState) (input : Input) (output : Output) (header : AnyHeader) (h : History Value) (floors : ℕ → ℕ) → IsTrue tells
    → AreSound old.areas → IsImageOf header (image_of old.areas) h floors
    → (runs : Runs tells old input output new) → LinesKeep tells h floors runs.opened input output new
lines-keep tells old new input output header h floors told sound image runs = record {
  lines = runs.lines;
  are = runs.are;
  out = runs.out;
  end = runs.end;
  keeps = subst (λ (m : Machine Value). ScriptKeeps tells (input.read + 1) (first_script_moment runs.opened m) runs.lines runs.out (runs.end, new))
      (opened-same runs.opened header h floors (open-header tells old 1 runs.opened header h floors runs.opens told image))
      (promise tells old runs.opened header h floors _ runs.lines runs.out (runs.end, new) told sound image runs.opens runs.run);
  said = runs.said;
}

run-keeps : (tells : Bool) (old new : DiskState) (input : Input) (output : Output) (header : AnyHeader) (h : History Value) (floors : ℕ → ℕ) → IsTrue tells
    → AreSound old.areas → IsImageOf header (image_of old.areas) h floors
    → RunsScript tells old input output new → RunKeeps tells h floors old input output new
run-keeps tells old new input output header h floors told sound image (inl refused) = inl (refused.0, refused.1)
run-keeps tells old new input output header h floors told sound image (inr (inl lacks)) = inr (lacks.0, lacks.1, inl lacks.2)
run-keeps tells old new input output header h floors told sound image (inr (inr runs)) =
    inr (runs.opened, runs.opens, inr (lines-keep tells old new input output header h floors told sound image runs))

new-keeps : (tells : Bool) (old new : DiskState) (input : Input) (output : Output) → IsTrue tells → RunsOnNew tells old input output new
    → NewRunKeeps tells old input output new
new-keeps tells old new input output told runs = record {
  made = runs.made;
  formatted = runs.formatted told;
  keeps = run-keeps tells runs.made new input output (header_of (Slots 16)) [] (λ relation. 0) told (runs.sound told)
      (formatted-stands (Slots 16) old.areas runs.made.areas (runs.formatted told)) runs.runs;
}

example-keeps : (tells : Bool) (old new : DiskState) (input : Input) (output : Output) → IsTrue tells → RunsNew tells old input output new
    → KeepsPromise tells action.Example old input output new
example-keeps tells old new input output told (inl refused) = inl (refused.0, refused.1)
example-keeps tells old new input output told (inr runs) = inr (new-keeps tells old new input output told runs)

-- ---- vacuum

-- a moment of this session, to which a line leads
record To (tells : Bool) (state : State) (Leads : ScriptMoment → Type 0) : Type 0 where
  pub after : ScriptMoment
  pub is_state : after.state ≡ state
  pub leads : Leads after
  pub is : IsScriptMoment tells after

-- a line's step leads from the moment of a session to the next
abbrev Led : Bool → Line → Type 0
Led tells l =
    (m : ScriptMoment) → IsScriptMoment tells m → (r : Reply) (new : State) → Step tells m.state l r new → To tells new (λ after. LineLeads tells m l r after)

archive-led : (tells : Bool) (upto : ℕ) → Led tells (line.Archive upto)
archive-led tells upto m is r new step =
    let to = archive-line tells m is upto r new step.0 step.1 in
    record {
      after = to.after;
      is_state = to.is_state;
      leads = record { step = subst (λ (s : State). Step tells m.state (line.Archive upto) r s) (sym to.is_state) step; keeps = to.keeps };
      is = to.is;
    }

reclaim-led : (tells : Bool) → Led tells line.Reclaim
reclaim-led tells m is r new step =
    let to = reclaim-line tells m is r new step.0 step.1 in
    record {
      after = to.after;
      is_state = to.is_state;
      leads = record { step = subst (λ (s : State). Step tells m.state line.Reclaim r s) (sym to.is_state) step; keeps = to.keeps };
      is = to.is;
    }

finish-led : (tells : Bool) → Led tells line.Finish
finish-led tells m is r new step =
    let to = finish-line tells m is r new step.0 step.1 in
    record {
      after = to.after;
      is_state = to.is_state;
      leads = record { step = subst (λ (s : State). Step tells m.state line.Finish r s) (sym to.is_state) step; keeps = to.keeps };
      is = to.is;
    }

-- a line's step leads to a moment that keeps what its calls keep
led-by : (tells : Bool) (l : Line) (m : ScriptMoment) (r : Reply) (new : State) → Step tells m.state l r new
    → ((after : ScriptMoment) → KeepsByCalls tells l r m after → KeepsBy tells l r m after) → LeadsTo tells l r m new
    → To tells new (λ after. LineLeads tells m l r after)
led-by tells l m r new step by to = record {
  after = to.after;
  is_state = to.is_state;
  leads = record { step = subst (λ (s : State). Step tells m.state l r s) (sym to.is_state) step; keeps = by to.after to.keeps };
  is = to.is;
}

-- any line does, on a disk that tells its bytes
line-led : (tells : Bool) → IsTrue tells → (l : Line) → Led tells l
line-led tells told (line.Begin name) m is r new step = led-by tells (line.Begin name) m r new step (λ after keeps. keeps)
    (begin-line tells m is name r new step)
line-led tells told (line.Put name key fields) m is r new step = led-by tells (line.Put name key fields) m r new step (λ after keeps. keeps)
    (put-line tells m is name key fields r new step)
line-led tells told (line.Delete name key) m is r new step = led-by tells (line.Delete name key) m r new step (λ after keeps. keeps)
    (delete-line tells m is name key r new step)
line-led tells told (line.Get name key) m is r new step = led-by tells (line.Get name key) m r new step (λ after keeps. keeps)
    (get-line tells m is name key r new step)
line-led tells told (line.Submit name label now) m is r new step = led-by tells (line.Submit name label now) m r new step (λ after keeps. keeps)
    (submit-line tells m is name label now r new step)
line-led tells told (line.Abort name) m is r new step = led-by tells (line.Abort name) m r new step (λ after keeps. keeps)
    (abort-line tells m is name r new step)
line-led tells told (line.Redeem name) m is r new step = led-by tells (line.Redeem name) m r new step (λ after keeps. keeps)
    (redeem-line tells m is name r new step)
line-led tells told line.Pump m is r new step = led-by tells line.Pump m r new step (λ after keeps. keeps) (pump-line tells m is r new step.0 step.1)
line-led tells told line.Flush m is r new step = led-by tells line.Flush m r new step (λ after keeps. keeps) (flush-line tells m is r new step.0 step.1)
line-led tells told (line.At key time) m is r new step = led-by tells (line.At key time) m r new step (λ after keeps. keeps)
    (at-line tells m is key time r new step.0 step.1)
line-led tells told (line.Between key a b) m is r new step = led-by tells (line.Between key a b) m r new step (λ after keeps. keeps)
    (between-line tells m is key a b r new step.0 step.1)
line-led tells told (line.Scan relation time) m is r new step = led-by tells (line.Scan relation time) m r new step (λ after keeps. keeps)
    (scan-line tells m is relation time r new step.0 step.1)
line-led tells told (line.Times label) m is r new step = led-by tells (line.Times label) m r new step (λ after keeps. keeps)
    (times-line tells m is label r new step.0 step.1)
line-led tells told (line.Archive upto) m is r new step = led-by tells (line.Archive upto) m r new step (λ after keeps. keeps)
    (archive-line tells m is upto r new step.0 step.1)
line-led tells told line.Reclaim m is r new step = led-by tells line.Reclaim m r new step (λ after keeps. keeps) (reclaim-line tells m is r new step.0 step.1)
line-led tells told (line.Floor scope floor) m is r new step = led-by tells (line.Floor scope floor) m r new step (λ after keeps. keeps)
    (floor-line tells m is scope floor r new step.0 step.1)
line-led tells told line.Grow m is r new step = led-by tells line.Grow m r new step (λ after keeps. keeps) (grow-line tells m is r new step.0 step.1)
line-led tells told line.Job m is r new step = led-by tells line.Job m r new step (λ after keeps. keeps) (job-line tells m is r new step.0 step.1)
line-led tells told line.Finish m is r new step = led-by tells line.Finish m r new step (λ after keeps. keeps) (finish-line tells m is r new step.0 step.1)
line-led tells told line.Reopen m is r new step =
    let to = reopen-keeps tells told m is r new step in
    record {
      after = to.after;
      is_state = to.is_state;
      leads = record { step = subst (λ (s : State). Step tells m.state line.Reopen r s) (sym to.is_state) step; keeps = to.keeps };
      is = to.is;
    }

-- so does a line after the moment of this session
led-from : (tells : Bool) (l : Line) → Led tells l → (m : ScriptMoment) → IsScriptMoment tells m → (state new : State) → m.state ≡ state → (r : Reply)
    → Step tells state l r new → To tells new (λ after. LineLeads tells m l r after)
led-from tells l led m is state new same r step = led m is r new (subst (λ (s : State). Step tells s l r new) (sym same) step)

all-led : (tells : Bool) (l : Line) → Led tells l → (m : ScriptMoment) → IsScriptMoment tells m → (state new : State) → m.state ≡ state
    → DoesAll (Step tells) l state new → To tells new (λ after. DoesAll (LineLeads tells) l m after)
all-led tells l led m is state new same does =
    let first = led-from tells l led m is state does.1 same does.0 does.3 in
    let second = led-from tells line.Finish (finish-led tells) first.after first.is does.1 new first.is_state does.2 does.5 in
    record {
      after = second.after;
      is_state = second.is_state;
      leads = (does.0, first.after, does.2, first.leads, does.4, second.leads, does.6);
      is = second.is;
    }

part-led : (tells : Bool) (l : Line) → Led tells l → (m : ScriptMoment) → IsScriptMoment tells m → (state new : State) → m.state ≡ state → (refusal : Reply)
    → DoesPart (Step tells) l state refusal new → To tells new (λ after. DoesPart (LineLeads tells) l m refusal after)
part-led tells l led m is state new same refusal does = by does.1
  where
    by : (Step tells state l refusal new
        ⊎ ((r : Reply) × (mid : State) × Step tells state l r mid × (is_refusal r ≡ false) × Step tells mid line.Finish refusal new))
        → To tells new (λ after. DoesPart (LineLeads tells) l m refusal after)
    by (inl step) =
        let to = led-from tells l led m is state new same refusal step in
        record { after = to.after; is_state = to.is_state; leads = (does.0, inl to.leads); is = to.is }
    by (inr steps) =
        let first = led-from tells l led m is state steps.1 same steps.0 steps.2 in
        let second = led-from tells line.Finish (finish-led tells) first.after first.is steps.1 new first.is_state refusal steps.4 in
        record {
          after = second.after;
          is_state = second.is_state;
          leads = (does.0, inr (steps.0, first.after, first.leads, steps.3, second.leads));
          is = second.is;
        }

vacuum-led : (tells : Bool) (upto : ℕ) (m : ScriptMoment) → IsScriptMoment tells m → (done : Vacuumed) (new : State)
    → DoesVacuum (Step tells) upto m.state done new → To tells new (λ after. DoesVacuum (LineLeads tells) upto m done after)
vacuum-led tells upto m is (vacuumed.Nothing refusal) new does = part-led tells (line.Archive upto) (archive-led tells upto) m is m.state new refl refusal does
vacuum-led tells upto m is (vacuumed.Archived refusal) new does =
    let first = all-led tells (line.Archive upto) (archive-led tells upto) m is m.state does.0 refl does.1 in
    let second = part-led tells line.Reclaim (reclaim-led tells) first.after first.is does.0 new first.is_state refusal does.2 in
    record { after = second.after; is_state = second.is_state; leads = (first.after, first.leads, second.leads); is = second.is }
vacuum-led tells upto m is vacuumed.Both new does =
    let first = all-led tells (line.Archive upto) (archive-led tells upto) m is m.state does.0 refl does.1 in
    let second = all-led tells line.Reclaim (reclaim-led tells) first.after first.is does.0 new first.is_state does.2 in
    record { after = second.after; is_state = second.is_state; leads = (first.after, first.leads, second.leads); is = second.is }

-- reading the log changes no area
read-holds : (why : LogFault) (old : DiskState) → (refused_by why old).areas ≡ old.areas
read-holds log.NotAStore old = refl
read-holds (log.Damaged n) old = refl
read-holds log.Device old = refl
read-holds log.NoMemory old = refl

-- a refused read is counted, and nothing else has changed
fault-holds : (why : OpenFault) (old : DiskState) → (after_fault why old).areas ≡ old.areas
fault-holds opening.NotAStore old = refl
fault-holds (opening.Damaged part n) old = refl
fault-holds opening.Device old = refl
fault-holds opening.NoMemory old = refl

areas-of : (new old : DiskState) → new ≡ old → new.areas ≡ old.areas
areas-of new old is = ap (λ (s : DiskState). s.areas) is

names-hold : (tells : Bool) (upto : ℕ) (given new : DiskState) (counts : JobRecords) → LogNames tells upto given counts new → new.areas ≡ given.areas
names-hold tells upto given new counts (inl slots) = areas-of new given slots.1.1.3
names-hold tells upto given new counts (inr heap) = areas-of new given (heap.1).same

none-holds : (tells : Bool) (given new : DiskState) (why : OpenFault) → LogNamesNone tells given why new → new.areas ≡ given.areas
none-holds tells given new why (inl lacks) = areas-of new (refused_by lacks.1.0 given) lacks.1.1.1 ∙ read-holds lacks.1.0 given
none-holds tells given new why (inr (inl lacks)) = areas-of new (after_fault why given) lacks.1.1 ∙ fault-holds why given
none-holds tells given new why (inr (inr lacks)) = areas-of new (looked refused_answer given) lacks.1

said-holds : (tells : Bool) (upto : ℕ) (given new : DiskState) (done : Vacuumed) (o : Output) → SaysVacuum tells upto given done o new → new.areas ≡ given.areas
said-holds tells upto given new (vacuumed.Nothing refusal) o said = areas-of new given said.0
said-holds tells upto given new (vacuumed.Archived refusal) o (inl said) = names-hold tells upto given new said.0 said.1
said-holds tells upto given new (vacuumed.Archived refusal) o (inr lacks) = none-holds tells given new lacks.0 lacks.1
said-holds tells upto given new vacuumed.Both o (inl said) = names-hold tells upto given new said.0 said.1
said-holds tells upto given new vacuumed.Both o (inr lacks) = none-holds tells given new lacks.0 lacks.1

store-vacuum-keeps : (tells : Bool) (old new : DiskState) (upto : ℕ) (output : Output) (header : AnyHeader) (h : History Value) (floors : ℕ → ℕ) → IsTrue tells
    → AreSound old.areas → IsImageOf header (image_of old.areas) h floors
    → (did : VacuumsStore tells old upto output new) → VacuumKeeps tells h floors did.opened upto output new
store-vacuum-keeps tells old new upto output header h floors told sound image did =
    let first = first-script tells did.opened (opened_in did.opened h floors) (stands-in tells old did.opened header h floors did.opens told sound image) in
    let to = vacuum-led tells upto (first_script_moment did.opened (opened_in did.opened h floors)) first did.done did.asked did.does in
    record {
      done = did.done;
      after = to.after;
      does = to.leads;
      given = did.given;
      closed = (close-keeps tells to.after to.is did.given (subst (λ (s : State). Closes s did.given) (sym to.is_state) did.closes)).closed;
      says = did.says;
      holds = said-holds tells upto did.given new did.done output did.says;
    }

vacuum-keeps : (tells : Bool) (old new : DiskState) (upto : ℕ) (output : Output) → IsTrue tells → AreSound old.areas → Vacuums tells old upto output new
    → VacuumingKeeps tells old upto output new
vacuum-keeps tells old new upto output told sound (inl refused) = λ header h floors image. inl (refused.0, refused.1)
vacuum-keeps tells old new upto output told sound (inr (inl lacks)) = λ header h floors image. inr (lacks.0, lacks.1, inl lacks.2)
vacuum-keeps tells old new upto output told sound (inr (inr did)) =
    λ header h floors image. inr (did.opened, did.opens, inr (store-vacuum-keeps tells old new upto output header h floors told sound image did))

upto-keeps : (tells : Bool) (old new : DiskState) (time : Option ℕ) (output : Output) → IsTrue tells → AreSound old.areas
    → MatchOption time (RefusesTime old output new) (λ t. Vacuums tells old t output new)
    → MatchOption time (new ≡ old) (λ t. VacuumingKeeps tells old t output new)
upto-keeps tells old new None output told sound refused = refused.0
upto-keeps tells old new (Some t) output told sound did = vacuum-keeps tells old new t output told sound did

-- ---- grow

grow-led : (tells : Bool) → Led tells line.Grow
grow-led tells m is r new step =
    let to = grow-line tells m is r new step.0 step.1 in
    record {
      after = to.after;
      is_state = to.is_state;
      leads = record { step = subst (λ (s : State). Step tells m.state line.Grow r s) (sym to.is_state) step; keeps = to.keeps };
      is = to.is;
    }

growth-led : (tells : Bool) (m : ScriptMoment) → IsScriptMoment tells m → (refused : Option Reply) (new : State)
    → DoesJob (Step tells) line.Grow m.state refused new → To tells new (λ after. DoesJob (LineLeads tells) line.Grow m refused after)
growth-led tells m is None new does = all-led tells line.Grow (grow-led tells) m is m.state new refl does
growth-led tells m is (Some refusal) new does = part-led tells line.Grow (grow-led tells) m is m.state new refl refusal does

slots-holds : (tells : Bool) (given new : DiskState) (o : Output) → SaysSlots tells given o new → new.areas ≡ given.areas
slots-holds tells given new o (inl said) = ap (λ (s : DiskState). s.areas) said.3
slots-holds tells given new o (inr lacks) = ap (λ (s : DiskState). s.areas) lacks.1.2 ∙ read-holds lacks.0 given

grown-holds : (tells : Bool) (given new : DiskState) (refused : Option Reply) (o : Output) → SaysGrown tells given refused o new → new.areas ≡ given.areas
grown-holds tells given new None o said = slots-holds tells given new o said
grown-holds tells given new (Some refusal) o said = ap (λ (s : DiskState). s.areas) said.0

store-growth-keeps : (tells : Bool) (old new : DiskState) (output : Output) (header : AnyHeader) (h : History Value) (floors : ℕ → ℕ) → IsTrue tells
    → AreSound old.areas → IsImageOf header (image_of old.areas) h floors
    → (did : GrowsStore tells old output new) → GrowthKeeps tells h floors did.opened output new
store-growth-keeps tells old new output header h floors told sound image did =
    let first = first-script tells did.opened (opened_in did.opened h floors) (stands-in tells old did.opened header h floors did.opens told sound image) in
    let to = growth-led tells (first_script_moment did.opened (opened_in did.opened h floors)) first did.refused did.asked did.does in
    record {
      refused = did.refused;
      after = to.after;
      does = to.leads;
      given = did.given;
      closed = (close-keeps tells to.after to.is did.given (subst (λ (s : State). Closes s did.given) (sym to.is_state) did.closes)).closed;
      says = did.says;
      holds = grown-holds tells did.given new did.refused output did.says;
    }

growth-keeps : (tells : Bool) (old new : DiskState) (output : Output) → IsTrue tells → AreSound old.areas → Grows tells old output new
    → GrowingKeeps tells old output new
growth-keeps tells old new output told sound (inl refused) = λ header h floors image. inl (refused.0, refused.1)
growth-keeps tells old new output told sound (inr (inl lacks)) = λ header h floors image. inr (lacks.0, lacks.1, inl lacks.2)
growth-keeps tells old new output told sound (inr (inr did)) =
    λ header h floors image. inr (did.opened, did.opens, inr (store-growth-keeps tells old new output header h floors told sound image did))

-- ---- format

make-keeps : (tells : Bool) (old new : DiskState) (layout : Layout) (output : Output) → IsTrue tells → Makes tells old layout output new
    → MakingKeeps tells old (store_layout layout) new
make-keeps tells old new layout output told (inl made) =
    inl (record {
      kept = λ image left. kept-as tells (header_of (store_layout layout)) image [] (λ relation. 0) told
          (formatted-leaves (store_layout layout) old.areas new.areas image (made.formatted told) left);
      has = λ image left. image-header tells (header_of (store_layout layout)) image [] (λ relation. 0) told
          (formatted-leaves (store_layout layout) old.areas new.areas image (made.formatted told) left);
    })
make-keeps tells old new layout output told (inr refused) = inr (refused.0, refused.1)

making-keeps : (tells : Bool) (old new : DiskState) (layout : Option Layout) (output : Output) → IsTrue tells
    → MatchOption layout (RefusesProfile old output new) (λ l. Makes tells old l output new)
    → MatchOption layout (new ≡ old) (λ l. MakingKeeps tells old (store_layout l) new)
making-keeps tells old new None output told refused = refused.0
making-keeps tells old new (Some l) output told makes = make-keeps tells old new l output told makes

-- ---- one question

-- a value that the write sets say is replied
value-says : (Sure : Type 0) → Sure → (said : Result (Option Value) QueryRefusal) (answer : Result (Option Value) QueryFault) → SaysAt Sure said answer
    → OrGaveOut (IsValueReply said) (session.found answer)
value-says Sure sure said (Ok value) says = inl (subst (λ (o : Result (Option Value) QueryRefusal). IsValueReply o (reply.Found value)) (sym (says sure)) refl)
value-says Sure sure said (Err (query.BeforeKept floor)) says =
    inl (subst (λ (o : Result (Option Value) QueryRefusal). IsValueReply o (session.found (Err (query.BeforeKept floor)))) (sym says) refl)
value-says Sure sure said (Err (query.NotYet last)) says =
    inl (subst (λ (o : Result (Option Value) QueryRefusal). IsValueReply o (session.found (Err (query.NotYet last)))) (sym says) refl)
value-says Sure sure said (Err query.NoMemory) says = inr (inl refl)
value-says Sure sure said (Err query.Device) says = inr (inr refl)
value-says Sure sure said (Err query.EmptyInterval) says = absurd says
value-says Sure sure said (Err (query.Damaged start)) says = absurd (says.0 sure)
value-says Sure sure said (Err query.NeedsDisk) says = absurd says
value-says Sure sure said (Err query.Stranger) says = absurd says

-- so are the rows
rows-says : (Sure : Type 0) → Sure → (said : Result (List (Version Value)) QueryRefusal) (answer : Result (Vec (Version Value) Global) QueryFault)
    → Says Sure (λ (rows : Vec (Version Value) Global). rows.items) (λ (o : Result (List (Version Value)) QueryRefusal). said ≡ o) answer
    → OrGaveOut (IsRowsReply said) (session.rows_found answer)
rows-says Sure sure said (Ok found) says =
    inl (subst (λ (o : Result (List (Version Value)) QueryRefusal). IsRowsReply o (reply.Rows found)) (sym (says sure)) (found, refl, refl))
rows-says Sure sure said (Err (query.BeforeKept floor)) says =
    inl (subst (λ (o : Result (List (Version Value)) QueryRefusal). IsRowsReply o (session.rows_found (Err (query.BeforeKept floor)))) (sym says) refl)
rows-says Sure sure said (Err (query.NotYet last)) says =
    inl (subst (λ (o : Result (List (Version Value)) QueryRefusal). IsRowsReply o (session.rows_found (Err (query.NotYet last)))) (sym says) refl)
rows-says Sure sure said (Err query.EmptyInterval) says =
    inl (subst (λ (o : Result (List (Version Value)) QueryRefusal). IsRowsReply o (session.rows_found (Err query.EmptyInterval))) (sym says) refl)
rows-says Sure sure said (Err query.NoMemory) says = inr (inl refl)
rows-says Sure sure said (Err query.Device) says = inr (inr refl)
rows-says Sure sure said (Err (query.Damaged start)) says = absurd (says.0 sure)
rows-says Sure sure said (Err query.NeedsDisk) says = absurd says
rows-says Sure sure said (Err query.Stranger) says = absurd says

at-led : (tells : Bool) (key : Key) (time : ℕ) → Led tells (line.At key time)
at-led tells key time m is r new step =
    let to = at-line tells m is key time r new step.0 step.1 in
    record {
      after = to.after;
      is_state = to.is_state;
      leads = record { step = subst (λ (s : State). Step tells m.state (line.At key time) r s) (sym to.is_state) step; keeps = to.keeps };
      is = to.is;
    }

between-led : (tells : Bool) (key : Key) (a b : ℕ) → Led tells (line.Between key a b)
between-led tells key a b m is r new step =
    let to = between-line tells m is key a b r new step.0 step.1 in
    record {
      after = to.after;
      is_state = to.is_state;
      leads = record { step = subst (λ (s : State). Step tells m.state (line.Between key a b) r s) (sym to.is_state) step; keeps = to.keeps };
      is = to.is;
    }

at-says : (tells : Bool) (store new : StoreValue) (h : History Value) (floors : ℕ → ℕ) (key : Key) (time : ℕ) (r : Reply) → IsTrue tells
    → Stands tells store (opened_in store h floors) → AtStep tells store key time r new → OrGaveOut (IsValueReply (at_answer h floors key time)) r
at-says tells store new h floors key time r told stands step =
    subst (OrGaveOut (IsValueReply (at_answer h floors key time))) (sym step.2) (by-taken step.1.0 step.1.1)
  where
    by-taken : (o : Option ViewValue)
        → MatchOption o ((step.0 ≡ Err query.NoMemory) × (new ≡ store)) (λ view. queries.IsViewOf store view
        × queries.AnswersAtView tells store view key time step.0 new)
        → OrGaveOut (IsValueReply (at_answer h floors key time)) (session.found step.0)
    by-taken None lacks = inr (inl (ap session.found lacks.0))
    by-taken (Some view) asks =
        let of = view-in tells store view h floors stands asks.0 in
        value-says (IsSure tells view.reclaimed time) (inl told) (at_answer h floors key time) step.0
        (at-answered tells store new (opened_in store h floors) view h floors key time step.0 stands of.0 of.1 asks.1)

between-says : (tells : Bool) (store new : StoreValue) (h : History Value) (floors : ℕ → ℕ) (key : Key) (a b : ℕ) (r : Reply) → IsTrue tells
    → Stands tells store (opened_in store h floors) → BetweenStep tells store key a b r new
    → OrGaveOut (IsRowsReply (between_answer h floors key a b)) r
between-says tells store new h floors key a b r told stands step =
    subst (OrGaveOut (IsRowsReply (between_answer h floors key a b))) (sym step.2) (by-taken step.1.0 step.1.1)
  where
    by-taken : (o : Option ViewValue)
        → MatchOption o ((step.0 ≡ Err query.NoMemory) × (new ≡ store)) (λ view. queries.IsViewOf store view
        × queries.AnswersRows tells store view key a b step.0 new)
        → OrGaveOut (IsRowsReply (between_answer h floors key a b)) (session.rows_found step.0)
    by-taken None lacks = inr (inl (ap session.rows_found lacks.0))
    by-taken (Some view) asks =
        let of = view-in tells store view h floors stands asks.0 in
        rows-says (IsSure tells view.reclaimed a) (inl told) (between_answer h floors key a b) step.0
        (between-answered tells store new (opened_in store h floors) view h floors key a b step.0 stands of.0 of.1 asks.1)

-- a question is asked of a store that stands for the image's history
asking-keeps : (tells : Bool) (style : Style) (old new : DiskState) (asks : StoreValue → Line) (Is : History Value → (ℕ → ℕ) → Reply → Type 0)
    (output : Output) → IsTrue tells
    → AreSound old.areas → ((store : StoreValue) → Led tells (asks store))
    → ((store : StoreValue) (h : History Value) (floors : ℕ → ℕ) (r : Reply) (asked : State) → Stands tells store (opened_in store h floors)
    → Step tells (fresh store) (asks store) r asked → OrGaveOut (Is h floors) r)
    → Asks tells style old asks output new → AskingKeeps tells style old asks Is output new
asking-keeps tells style old new asks Is output told sound led says (inl refused) =
    λ header h floors image. inl (refused.0, refused.1, (open-refuses tells old new refused.0 header h floors refused.1 told image).0, refused.2)
asking-keeps tells style old new asks Is output told sound led says (inr (inl lacks)) = λ header h floors image. inr (lacks.0, lacks.1, inl (lacks.2, lacks.3))
asking-keeps tells style old new asks Is output told sound led says (inr (inr did)) = λ header h floors image.
    let stands = stands-in tells old did.opened header h floors did.opens told sound image in
    let to = led did.opened (first_script_moment did.opened (opened_in did.opened h floors))
    (first-script tells did.opened (opened_in did.opened h floors) stands) did.answer did.asked did.step in
    inr (
      did.opened,
      did.opens,
      inr (record {
        answer = did.answer;
        after = to.after;
        line = to.leads;
        closed = (close-keeps tells to.after to.is new (subst (λ (s : State). Closes s new) (sym to.is_state) did.closes)).closed;
        printed = did.told;
        says = says did.opened h floors did.answer did.asked stands did.step;
      }),
    )

at-keeps : (tells : Bool) (old new : DiskState) (key : Key) (time : Option ℕ) (output : Output) → IsTrue tells → AreSound old.areas
    → MatchOption time (RefusesTime old output new) (λ t. Asks tells plain old (λ store. line.At key t) output new)
    → MatchOption time (new ≡ old)
    (λ t. AskingKeeps tells plain old (λ store. line.At key t) (λ h floors. IsValueReply (at_answer h floors key t)) output new)
at-keeps tells old new key None output told sound refused = refused.0
at-keeps tells old new key (Some t) output told sound asks =
    asking-keeps tells plain old new (λ store. line.At key t) (λ h floors. IsValueReply (at_answer h floors key t)) output told sound
    (λ store. at-led tells key t)
    (λ store h floors r asked stands step. at-says tells store asked.store h floors key t r told stands step.0) asks

between-keeps : (tells : Bool) (old new : DiskState) (key : Key) (from to : Option ℕ) (output : Output) → IsTrue tells → AreSound old.areas
    → MatchOption from (RefusesTime old output new) (λ a. MatchOption to (RefusesTime old output new) (λ b. Asks tells plain old
    (λ store. line.Between key a b) output new))
    → MatchOption from (new
    ≡ old) (λ a. MatchOption to (new
    ≡ old) (λ b. AskingKeeps tells plain old (λ store. line.Between key a b) (λ h floors. IsRowsReply (between_answer h floors key a b)) output new))
between-keeps tells old new key None to output told sound refused = refused.0
between-keeps tells old new key (Some a) None output told sound refused = refused.0
between-keeps tells old new key (Some a) (Some b) output told sound asks =
    asking-keeps tells plain old new (λ store. line.Between key a b) (λ h floors. IsRowsReply (between_answer h floors key a b)) output told sound
    (λ store. between-led tells key a b)
    (λ store h floors r asked stands step. between-says tells store asked.store h floors key a b r told stands step.0) asks

-- ---- a question by the last commit and the floors

-- records that the write sets say are replied
records-says : (Sure : Type 0) → Sure → (h : History Value) (floors : ℕ → ℕ) (relation time : ℕ) (answer : Result (Vec (ℕ × Value) Global) QueryFault)
    → SaysScanAt Sure h floors relation time answer → OrGaveOut (IsRecordsReply h floors relation time) (session.records_found answer)
records-says Sure sure h floors relation time (Ok found) says = inl (Ok found.items, says sure, (found, refl, refl))
records-says Sure sure h floors relation time (Err (query.BeforeKept floor)) says = inl (Err (answers.BeforeKept floor), says, refl)
records-says Sure sure h floors relation time (Err (query.NotYet last)) says = inl (Err (answers.NotYet last), says, refl)
records-says Sure sure h floors relation time (Err query.EmptyInterval) says = inl (Err answers.EmptyInterval, says, refl)
records-says Sure sure h floors relation time (Err query.NoMemory) says = inr (inl refl)
records-says Sure sure h floors relation time (Err query.Device) says = inr (inr refl)
records-says Sure sure h floors relation time (Err (query.Damaged start)) says = absurd (says.0 sure)
records-says Sure sure h floors relation time (Err query.NeedsDisk) says = absurd says
records-says Sure sure h floors relation time (Err query.Stranger) says = absurd says

scan-says : (tells : Bool) (store new : StoreValue) (h : History Value) (floors : ℕ → ℕ) (relation time : ℕ) (r : Reply) → IsTrue tells
    → Stands tells store (opened_in store h floors) → ScanStep tells store relation time r new → OrGaveOut (IsRecordsReply h floors relation time) r
scan-says tells store new h floors relation time r told stands step =
    subst (OrGaveOut (IsRecordsReply h floors relation time)) (sym step.2) (by-taken step.1.0 step.1.1)
  where
    by-taken : (o : Option ViewValue)
        → MatchOption o ((step.0 ≡ Err query.NoMemory) × (new ≡ store)) (λ view. queries.IsViewOf store view
        × queries.AnswersScanAt tells store view relation time step.0 new)
        → OrGaveOut (IsRecordsReply h floors relation time) (session.records_found step.0)
    by-taken None lacks = inr (inl (ap session.records_found lacks.0))
    by-taken (Some view) asks =
        let of = view-in tells store view h floors stands asks.0 in
        records-says (IsSure tells view.reclaimed time) (inl told) h floors relation time step.0
        (scan_at-answered tells store new (opened_in store h floors) view h floors relation time step.0 stands of.0 of.1 asks.1)

-- the times that the write sets say are replied
times-replied : (tells in_heap : Bool) (from : ℕ) → IsTrue tells → (times : List ℕ) (answer : Result (Vec ℕ Global) QueryFault)
    → SaysTimes tells in_heap from times answer
    → OrGaveOut (IsTimesReply times) (session.times_found answer)
times-replied tells in_heap from told times (Ok found) says = inl (found, says.0 (λ lies. told), refl)
times-replied tells in_heap from told times (Err query.NoMemory) says = inr (inl refl)
times-replied tells in_heap from told times (Err query.Device) says = inr (inr refl)
times-replied tells in_heap from told times (Err (query.Damaged start)) says = absurd (says.1 told)
times-replied tells in_heap from told times (Err (query.BeforeKept floor)) says = absurd says
times-replied tells in_heap from told times (Err (query.NotYet last)) says = absurd says
times-replied tells in_heap from told times (Err query.EmptyInterval) says = absurd says
times-replied tells in_heap from told times (Err query.NeedsDisk) says = absurd says
times-replied tells in_heap from told times (Err query.Stranger) says = absurd says

times-says : (tells : Bool) (store new : StoreValue) (h : History Value) (floors : ℕ → ℕ) (label : ℕ) (r : Reply) → IsTrue tells
    → Stands tells store (opened_in store h floors) → TimesStep tells store label r new → OrGaveOut (IsTimesReply (times_of h label)) r
times-says tells store new h floors label r told stands step =
    subst (OrGaveOut (IsTimesReply (times_of h label))) (sym step.2)
    (times-replied tells (is_log store) (names_from store) told (times_of h label) step.0
    (subst (λ (h' : History Value). SaysTimes tells (is_log store) (names_from store) (times_of h' label) step.0) (published-in store h floors)
    (times-told tells store new (opened_in store h floors) label step.0 stands step.1)))

-- the store's last commit and floors are those of the history
last-is : (tells : Bool) (store : StoreValue) (h : History Value) (floors : ℕ → ℕ) → Stands tells store (opened_in store h floors) → stores.last store ≡ last h
last-is tells store h floors stands = last-published tells store (opened_in store h floors) stands ∙ ap last (published-in store h floors)

floors-are : (tells : Bool) (store : StoreValue) (h : History Value) (floors : ℕ → ℕ) (relation : ℕ) → Stands tells store (opened_in store h floors)
    → floor_at (stores.floors store) relation ≡ floors relation
floors-are tells (engine.Slots s) h floors relation stands = stands.memory.floors relation
floors-are tells (engine.Log l) h floors relation stands = (memory-stands tells (engine.Log l) (opened_in (engine.Log l) h floors) stands).0.floors relation

time-same : (tells : Bool) (store : StoreValue) (h : History Value) (floors : ℕ → ℕ) (relation : ℕ) (w : When) → Stands tells store (opened_in store h floors)
    → time_asked (floor_at (stores.floors store) relation) (stores.last store) w ≡ time_asked (floors relation) (last h) w
time-same tells store h floors relation when.First stands = floors-are tells store h floors relation stands
time-same tells store h floors relation (when.At t) stands = refl
time-same tells store h floors relation when.Now stands = last-is tells store h floors stands

end-same : (tells : Bool) (store : StoreValue) (h : History Value) (floors : ℕ → ℕ) (relation : ℕ) (w : When) → Stands tells store (opened_in store h floors)
    → end_asked (floor_at (stores.floors store) relation) (stores.last store) w ≡ end_asked (floors relation) (last h) w
end-same tells store h floors relation when.First stands = floors-are tells store h floors relation stands
end-same tells store h floors relation (when.At t) stands = refl
end-same tells store h floors relation when.Now stands =
    ap (λ (n : ℕ). end_asked 0 n when.Now) (last-is tells store h floors stands)

question-says : (tells : Bool) (store : StoreValue) (asked : State) (h : History Value) (floors : ℕ → ℕ) (q : Question) (r : Reply) → IsTrue tells
    → Stands tells store (opened_in store h floors) → Step tells (fresh store) (line_asked q store) r asked → OrGaveOut (IsReplyTo q h floors) r
question-says tells store asked h floors (question.Value key time) r told stands step =
    let before = time_asked (floor_at (stores.floors store) key.relation) (stores.last store) time in
    subst (λ (t : ℕ). OrGaveOut (IsValueReply (at_answer h floors key t)) r) (time-same tells store h floors key.relation time stands)
    (at-says tells store asked.store h floors key before r told stands step.0)
question-says tells store asked h floors (question.Records relation time) r told stands step =
    let before = time_asked (floor_at (stores.floors store) relation) (stores.last store) time in
    subst (λ (t : ℕ). OrGaveOut (IsRecordsReply h floors relation t) r) (time-same tells store h floors relation time stands)
    (scan-says tells store asked.store h floors relation before r told stands step.0)
question-says tells store asked h floors (question.Rows key from to) r told stands step =
    let a = time_asked (floor_at (stores.floors store) key.relation) (stores.last store) from in
    let b = end_asked (floor_at (stores.floors store) key.relation) (stores.last store) to in
    let first = time_asked (floors key.relation) (last h) from in
    subst (λ (t : ℕ). OrGaveOut (IsRowsReply (between_answer h floors key first t)) r) (end-same tells store h floors key.relation to stands)
    (subst (λ (t : ℕ). OrGaveOut (IsRowsReply (between_answer h floors key t b)) r) (time-same tells store h floors key.relation from stands)
    (between-says tells store asked.store h floors key a b r told stands step.0))
question-says tells store asked h floors (question.Times label) r told stands step =
    times-says tells store asked.store h floors label r told stands step.0

ask-keeps : (tells : Bool) (style : Style) (old new : DiskState) (asked : Option Question) (output : Output) → IsTrue tells → AreSound old.areas
    → MatchOption asked (RefusesTime old output new) (λ q. Asks tells style old (line_asked q) output new)
    → MatchOption asked (new ≡ old) (λ q. AskingKeeps tells style old (line_asked q) (IsReplyTo q) output new)
ask-keeps tells style old new None output told sound refused = refused.0
ask-keeps tells style old new (Some q) output told sound asks =
    asking-keeps tells style old new (line_asked q) (IsReplyTo q) output told sound (λ store. line-led tells told (line_asked q store))
    (λ store h floors r asked stands step. question-says tells store asked h floors q r told stands step) asks

-- ---- one write

text-led : (tells : Bool) → IsTrue tells → (o : Option Line) (m : ScriptMoment) → IsScriptMoment tells m → (state : State) → m.state ≡ state
    → (r : Reply) (new : State)
    → MatchOption o (IsNotAnswered state r new) (λ l. Step tells state l r new ⊎ ((l ≡ line.Reopen) × IsNotAnswered state r new))
    → To tells new (λ after. MatchOption o (IsNotAnswered m r after) (λ l. LineLeads tells m l r after ⊎ ((l ≡ line.Reopen) × IsNotAnswered m r after)))
text-led tells told None m is state same r new none = record { after = m; is_state = same ∙ sym none.1; leads = (none.0, refl); is = is }
text-led tells told (Some l) m is state same r new (inl step) =
    let to = led-from tells l (line-led tells told l) m is state new same r step in
    record { after = to.after; is_state = to.is_state; leads = inl to.leads; is = to.is }
text-led tells told (Some l) m is state same r new (inr none) =
    record { after = m; is_state = same ∙ sym none.1.1; leads = inr (none.0, (none.1.0, refl)); is = is }

in_turn-led : (tells : Bool) → IsTrue tells → (before : Reply) (lines : List Text) (m : ScriptMoment) → IsScriptMoment tells m → (state : State)
    → m.state ≡ state → (r : Reply) (new : State) → AnswersInTurn (Step tells) before lines state r new
    → To tells new (λ after. AnswersInTurn (LineLeads tells) before lines m r after)
in_turn-led tells told before [] m is state same r new does =
    record { after = m; is_state = same ∙ sym does.1; leads = (does.0, refl); is = is }
in_turn-led tells told before (text ∷ rest) m is state same r new does =
    let first = text-led tells told (said text) m is state same does.0 does.1 does.2 in
    let second = by-refusal first.after first.is first.is_state
    (λ more. in_turn-led tells told does.0 rest first.after first.is does.1 first.is_state r new more) (is_refusal does.0) does.3 in
    record { after = second.after; is_state = second.is_state; leads = (does.0, first.after, first.leads, second.leads); is = second.is }
  where
    by-refusal : (mid : ScriptMoment) → IsScriptMoment tells mid → mid.state ≡ does.1
        → (AnswersInTurn (Step tells) does.0 rest does.1 r new → To tells new (λ after. AnswersInTurn (LineLeads tells) does.0 rest mid r after))
        → (b : Bool) → MatchBool b ((r ≡ does.0) × (new ≡ does.1)) (AnswersInTurn (Step tells) does.0 rest does.1 r new)
        → To tells new (λ after. MatchBool b ((r ≡ does.0) × (after ≡ mid)) (AnswersInTurn (LineLeads tells) does.0 rest mid r after))
    by-refusal mid mid_is mid_same go_on true ends = record { after = mid; is_state = mid_same ∙ sym ends.1; leads = (ends.0, refl); is = mid_is }
    by-refusal mid mid_is mid_same go_on false more = go_on more

store-write-keeps : (tells : Bool) (old new : DiskState) (lines : List Text) (output : Output) (header : AnyHeader) (h : History Value) (floors : ℕ → ℕ)
    → IsTrue tells → AreSound old.areas → IsImageOf header (image_of old.areas) h floors
    → (did : WritesStore tells old lines output new) → WriteKeeps tells h floors did.opened lines output new
store-write-keeps tells old new lines output header h floors told sound image did =
    let first = first-script tells did.opened (opened_in did.opened h floors) (stands-in tells old did.opened header h floors did.opens told sound image) in
    let to = in_turn-led tells told reply.Ok lines (first_script_moment did.opened (opened_in did.opened h floors)) first (fresh did.opened) refl did.answer
    did.asked
    did.does in
    record {
      answer = did.answer;
      after = to.after;
      does = to.leads;
      closed = (close-keeps tells to.after to.is new (subst (λ (s : State). Closes s new) (sym to.is_state) did.closes)).closed;
      printed = did.told;
    }

write-keeps : (tells : Bool) (old new : DiskState) (write : RecordWrite) (output : Output) → IsTrue tells → AreSound old.areas
    → Writes tells old write output new → WritingKeeps tells old (write_lines write) output new
write-keeps tells old new write output told sound (inl lacks) = inl lacks.0
write-keeps tells old new write output told sound (inr (inl refused)) = inr (λ header h floors image. inl (refused.0, refused.1))
write-keeps tells old new write output told sound (inr (inr (inl lacks))) = inr (λ header h floors image. inr (lacks.0, lacks.1, inl lacks.2))
write-keeps tells old new write output told sound (inr (inr (inr did))) = inr (λ header h floors image.
    inr (did.opened, did.opens, inr (store-write-keeps tells old new (write_lines write) output header h floors told sound image did)))

-- ---- dump

dump-holds : (tells : Bool) (old new : DiskState) (output : Output) → Dumps tells old output new → new.areas ≡ old.areas
dump-holds tells old new output (inl (inl none)) = ap (λ (s : DiskState). s.areas) none.same ∙ read-holds none.why old
dump-holds tells old new output (inl (inr none)) = ap (λ (s : DiskState). s.areas) none.same ∙ read-holds none.why old
dump-holds tells old new output (inr (inl dumped)) = ap (λ (s : DiskState). s.areas) dumped.same
dump-holds tells old new output (inr (inr lacks)) = ap (λ (s : DiskState). s.areas) lacks.0

-- of a log in the heap
dump_of_heap-holds : (tells : Bool) (old new : DiskState) (output : Output) → DumpsHeap tells old output new ⊎ HasNoDump tells old output new
    → new.areas ≡ old.areas
dump_of_heap-holds tells old new output (inl done) = ap (λ (s : DiskState). s.areas) done.same
dump_of_heap-holds tells old new output (inr lacks) = ap (λ (s : DiskState). s.areas) lacks.left ∙ fault-holds lacks.why old

-- of either
shown-holds : (tells : Bool) (old new : DiskState) (o : Output) (InSlots InHeap : Type 0) → (InSlots → new.areas ≡ old.areas) → (InHeap → new.areas ≡ old.areas)
    → ByLayout tells old o new InSlots InHeap → new.areas ≡ old.areas
shown-holds tells old new o InSlots InHeap by in_heap (inl shown) = by shown.1
shown-holds tells old new o InSlots InHeap by in_heap (inr (inl shown)) = in_heap shown.1
shown-holds tells old new o InSlots InHeap by in_heap (inr (inr lacks)) = ap (λ (s : DiskState). s.areas) lacks.0

-- ---- floor

raised-led : (tells : Bool) (relation time : ℕ) (m : ScriptMoment) → IsTrue tells → IsScriptMoment tells m → (refused : Option Reply) (new : State)
    → DoesJob (Step tells) (line.Floor (Some relation) time) m.state refused new
    → To tells new (λ after. DoesJob (LineLeads tells) (line.Floor (Some relation) time) m refused after)
raised-led tells relation time m told is None new does =
    all-led tells (line.Floor (Some relation) time) (line-led tells told (line.Floor (Some relation) time)) m is m.state new refl does
raised-led tells relation time m told is (Some refusal) new does =
    part-led tells (line.Floor (Some relation) time) (line-led tells told (line.Floor (Some relation) time)) m is m.state new refl refusal does

store-floor-keeps : (tells : Bool) (old new : DiskState) (relation time : ℕ) (output : Output) (header : AnyHeader) (h : History Value) (floors : ℕ → ℕ)
    → IsTrue tells → AreSound old.areas → IsImageOf header (image_of old.areas) h floors
    → (did : RaisesStore tells old relation time output new) → FloorKeeps tells h floors did.opened relation time output new
store-floor-keeps tells old new relation time output header h floors told sound image did =
    let first = first-script tells did.opened (opened_in did.opened h floors) (stands-in tells old did.opened header h floors did.opens told sound image) in
    let to = raised-led tells relation time (first_script_moment did.opened (opened_in did.opened h floors)) told first did.refused did.asked did.does in
    record {
      refused = did.refused;
      after = to.after;
      does = to.leads;
      closed = (close-keeps tells to.after to.is new (subst (λ (s : State). Closes s new) (sym to.is_state) did.closes)).closed;
      says = did.says;
    }

raising-keeps : (tells : Bool) (old new : DiskState) (relation time : ℕ) (output : Output) → IsTrue tells → AreSound old.areas
    → Raises tells old relation time output new → RaisingKeeps tells old relation time output new
raising-keeps tells old new relation time output told sound (inl refused) = λ header h floors image. inl (refused.0, refused.1)
raising-keeps tells old new relation time output told sound (inr (inl lacks)) = λ header h floors image. inr (lacks.0, lacks.1, inl lacks.2)
raising-keeps tells old new relation time output told sound (inr (inr did)) = λ header h floors image.
    inr (did.opened, did.opens, inr (store-floor-keeps tells old new relation time output header h floors told sound image did))

raise-keeps : (tells : Bool) (old new : DiskState) (relation : ℕ) (time : Option ℕ) (output : Output) → IsTrue tells → AreSound old.areas
    → MatchOption time (RefusesTime old output new) (λ t. Raises tells old relation t output new)
    → MatchOption time (new ≡ old) (λ t. RaisingKeeps tells old relation t output new)
raise-keeps tells old new relation None output told sound refused = refused.0
raise-keeps tells old new relation (Some t) output told sound did = raising-keeps tells old new relation t output told sound did

-- ---- info

info-holds : (tells : Bool) (old new : DiskState) (json : Bool) (output : Output) → Tells tells old json output new → new.areas ≡ old.areas
info-holds tells old new json output (inl (inl none)) = ap (λ (s : DiskState). s.areas) none.same ∙ read-holds none.why old
info-holds tells old new json output (inl (inr none)) = ap (λ (s : DiskState). s.areas) none.same ∙ read-holds none.why old
info-holds tells old new json output (inr (inl done)) = ap (λ (s : DiskState). s.areas) done.same
info-holds tells old new json output (inr (inr lacks)) = ap (λ (s : DiskState). s.areas) lacks.0

info_of_heap-holds : (tells : Bool) (old new : DiskState) (json : Bool) (output : Output)
    → TellsHeap tells old json output new ⊎ HasNoInfo tells old output new → new.areas ≡ old.areas
info_of_heap-holds tells old new json output (inl done) = ap (λ (s : DiskState). s.areas) done.same
info_of_heap-holds tells old new json output (inr lacks) = ap (λ (s : DiskState). s.areas) lacks.left ∙ fault-holds lacks.why old

-- ---- actions

-- so does each action
pub keeps-acts : (tells : Bool) (a : Action) (old new : DiskState) (input : Input) (output : Output) → IsTrue tells → AreSound old.areas
    → Acts tells a old input output new → KeepsPromise tells a old input output new
keeps-acts tells action.Example old new input output told sound acts = example-keeps tells old new input output told acts
keeps-acts tells (action.Run dir) old new input output told sound acts =
    λ header h floors image. run-keeps tells old new input output header h floors told sound image acts
keeps-acts tells (action.Format dir layout) old new input output told sound acts = making-keeps tells old new layout output told acts
keeps-acts tells (action.At dir key time) old new input output told sound acts = at-keeps tells old new key time output told sound acts
keeps-acts tells (action.Between dir key from to) old new input output told sound acts = between-keeps tells old new key from to output told sound acts
keeps-acts tells (action.Ask dir asked style) old new input output told sound acts = ask-keeps tells style old new asked output told sound acts
keeps-acts tells (action.Write dir write) old new input output told sound acts = write-keeps tells old new write output told sound acts
keeps-acts tells (action.Vacuum dir time) old new input output told sound acts = upto-keeps tells old new time output told sound acts
keeps-acts tells (action.Grow dir) old new input output told sound acts = growth-keeps tells old new output told sound acts
keeps-acts tells (action.Floor dir relation time) old new input output told sound acts = raise-keeps tells old new relation time output told sound acts
keeps-acts tells (action.Info dir json) old new input output told sound acts =
    shown-holds tells old new output (Tells tells old json output new) (TellsHeap tells old json output new ⊎ HasNoInfo tells old output new)
    (info-holds tells old new json output) (info_of_heap-holds tells old new json output) acts
keeps-acts tells (action.Dump dir) old new input output told sound acts =
    shown-holds tells old new output (Dumps tells old output new) (DumpsHeap tells old output new ⊎ HasNoDump tells old output new)
    (dump-holds tells old new output) (dump_of_heap-holds tells old new output) acts
keeps-acts tells (action.Stress writers readers rounds) old new input output told sound acts = acts.0
