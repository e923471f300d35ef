-- Steps, the host's device calls, and tickets that are redeemed.
use Rattle.std.proofs.Common.{◌≡◌, ◌==◌, ◌++◌, Bool, true, false, List, [], ◌∷◌, Option, Some, None, Result, Ok, Err, MatchBool, MatchOption, refl, sym, ◌∙◌}
use Rattle.std.proofs.Common.{ap, subst, inl, inr, ◌⊎◌}
use Rattle.disk.specs.Areas.{Areas, AreSound, LeavesImage}
use Rattle.disk.specs.Within.{LeavesWithin}
use Rattle.history.specs.Histories.{last}
use Rattle.history.proofs.Runs.{run-shows}
use Rattle.law_image.specs.Values.{IsValue}
use Rattle.any_store.specs.declared.steps.Did.{Did}
use Rattle.group.specs.declared.answers.PumpFault.{PumpFault}
use Rattle.any_store.specs.Calls.{Pumps}
use Rattle.any_store.specs.Jobs.{PumpsJob}
use Rattle.any_store.specs.Places.{log_area, job_area}
use Rattle.any_store.specs.Values.{StoreValue, disk_of}
use Rattle.any_store.specs.declared.steps.JobDid.{JobDid}
use Rattle.law_any_store.proofs.Memory.{last-published}
use Rattle.run.specs.declared.calls.Call.{Call}
use Rattle.run.specs.declared.calls.Call.TheVariants as call
use Rattle.run.specs.declared.calls.Answer.{Answer}
use Rattle.run.specs.declared.calls.Answer.TheVariants as answer
use Rattle.run.specs.declared.held.Held.{Held}
use Rattle.run.specs.declared.held.Held.TheVariants as held
use Rattle.run.specs.Moments.{IsAtMoment}
use Rattle.run.specs.Runs.{Goes, Follows}
use Rattle.run.specs.Worlds.{World, IsWorld}
use Rattle.run.proofs.Acknowledging.{follows-have}
use Rattle.run.proofs.Archiving.{pumped-goes}
use Rattle.run.proofs.Pumping.{pump-goes}
use Rattle.run.proofs.Runs.{no-step}
use Rattle.c_engine.specs.Engines.{PumpsEngine, PumpsJobOf, AfterStep, KeepsState, KeepsPublished, WasPublished, step_in, due_in, due_call}
use Rattle.c_engine.specs.HostCalls.{HostCall, made}
use Rattle.c_engine.specs.Steps.{call_of, told_step, of_group, of_job}
use Rattle.c_engine.specs.declared.code.Code.{Code}
use Rattle.c_engine.specs.declared.code.Code.TheVariants as code
use Rattle.c_engine.specs.declared.code.Info.{Info}
use Rattle.c_engine.specs.declared.device_call.DeviceCall.{DeviceCall}
use Rattle.c_engine.specs.declared.engine.Engine.{Engine}
use Rattle.c_engine.specs.declared.engine.EngineState.{EngineState}
use Rattle.c_engine.specs.declared.engine.EngineState.TheVariants.{Settled, Asks, Failed}
use Rattle.c_engine.specs.declared.engine.Published.{Published}
use Rattle.c_engine.specs.declared.places.Places.{Places}
use Rattle.c_engine.specs.declared.step.Step.{Step}
use Rattle.c_engine.specs.declared.step.Step.TheVariants.{Group, Job}
use Rattle.c_engine.proofs.Calling.{pump-leads, job-leads}
use Rattle.c_engine.proofs.Leading.{LeadsBy}
use Rattle.law_library.specs.Calls.{Reply}
use Rattle.law_library.specs.Hosts.{Host, Event, Makes, Refuses, HostStep, IsRefusedIn, with_event}
use Rattle.law_library.specs.Moments.{HostMoment, Holds, WasBefore, IsSettled, IsAtStage, IsHostMoment}
use Rattle.law_library.specs.Promise.{HostLink}
use Rattle.law_library.proofs.Carrying.{by-call, stays}
use Rattle.law_library.proofs.Calls.{while-settled}
use Rattle.law_library.proofs.Numbers as numbers
use Rattle.law_library.proofs.Refusing.{pump-same, job-same}
use Rattle.law_library.proofs.Stops.{refused-leaves}

-- ---- a step

module _ (e : Event) (m : HostMoment) (new : Host) (is : IsHostMoment m) (areas : new.areas ≡ m.host.areas) (silent : with_event e m.at.done ≡ m.at.done)
    (settled : m.host.engine.state ≡ Settled) where
  abbrev old : Engine
  old = m.host.engine

  abbrev after : Engine
  after = new.engine

  abbrev ys : List Held
  ys = is.held ++ held.Nothing ∷ []

  stage : IsSettled m
  stage = subst (λ (s : EngineState). IsAtStage s m) settled is.stage

  -- the host's areas are those of the moment before
  as-before : m.host.areas ≡ (disk_of m.at.store).areas
  as-before = stage.areas ∙ ap (λ (v : StoreValue). (disk_of v).areas) (sym is.is.store)

  -- the step's call is not made yet
  abbrev step-moment : World → HostMoment
  step-moment w = record {
    host = record { engine = after; areas = m.host.areas };
    at = record { store = after.store; held = ys; world = w; done = m.at.done };
    before =
        Some m.at;
  }

  shows-last : (o : Option Published) → MatchOption o ⊥ (WasPublished old.store)
      → MatchOption o ⊥ (λ (p : Published). p.last ≡ last m.at.world.machine.published)
  shows-last None never = never
  shows-last (Some p) was = was.1 ∙ last-published true old.store m.at.world.machine is.is.world.stands

  was-before : (w : World) → Follows m.at.world.machine w.machine → KeepsPublished old after → WasBefore (step-moment w) m.at
  was-before w follows keeps =
      let shown = run-shows IsValue m.at.world.machine w.machine follows.0 follows.1 in
      record {
        is_before = refl;
        held = is.held;
        was = subst (λ (v : StoreValue). IsAtMoment true v is.held m.at) (sym is.is.store) is.is;
        done =
            refl;
        more = shown.0;
        goes_on = shown.1;
        shown = shows-last after.before keeps;
      }

  -- the moment after a step, by how the engine stands then
  at-step : (w : World) → Follows m.at.world.machine w.machine → IsWorld true after.store ys w → after.places ≡ old.places → (s : EngineState)
      → after.state ≡ s → IsAtStage s (step-moment w) → HostLink e m new
  at-step w follows world places s state st = record {
    after = step-moment w;
    host = λ i. record { engine = after; areas = sym areas i };
    done = sym silent;
    follows = follows;
    is = record {
      held = ys;
      is = record { store = refl; places = refl; world = world; published = follows-have m.at.world w m.at.done follows is.is.published };
      place = is.place;
      numbers = numbers.pushed after.places is.held is.place held.Nothing (subst (λ (p : Places). Holds p is.held is.place) (sym places) is.numbers);
      stage = subst (λ (x : EngineState). IsAtStage x (step-moment w)) (sym state) st;
    };
  }

  module _ (c : Call) (a : Answer) (goes : Goes true old.store is.held c a after.store ys) (places : after.places ≡ old.places)
      (sound : AreSound (disk_of after.store).areas) where
    -- a step that was done
    done-step : (taken : Step) (due : Option DeviceCall) → call_of taken ≡ due → LeadsBy (disk_of old.store).areas due (disk_of after.store).areas
        → MatchOption due (KeepsState old after) (λ d. (after.state ≡ Asks taken) × KeepsPublished old after) → HostLink e m new
    done-step taken None is_none leads keeps =
        by-call e m new is is.held ys is.is is.place c a goes
        (numbers.pushed after.places is.held is.place held.Nothing (subst (λ (p : Places). Holds p is.held is.place) (sym places) is.numbers))
        (record { areas = leads; state = keeps.0; before = keeps.1 }) areas silent
    done-step taken (Some due) is_due leads keeps =
        let did = goes.leads m.at.world is.is.world in
        at-step did.0 did.2 did.3 places (Asks taken) keeps.0 (record {
          before = m.at;
          was = was-before did.0 did.2 keeps.1;
          areas = as-before;
          call = leads.0;
          due = ap (λ (s : EngineState). due_call (due_in s) (disk_of after.store).areas) keeps.0
              ∙ ap (λ (o : Option DeviceCall). due_call o (disk_of after.store).areas) is_due ∙ leads.1;
          leads = leads.2 ∙ ap (λ (b : Areas). made leads.0 b) (sym stage.areas);
          sound = stage.sound;
          sound_after = sound;
        })

    -- and one that was refused
    refused-step : (b : Bool) → (b ≡ true → (disk_of after.store).areas ≡ (disk_of old.store).areas)
        → MatchBool b (KeepsState old after) ((after.state ≡ Failed) × KeepsPublished old after) → HostLink e m new
    refused-step true same keeps =
        by-call e m new is is.held ys is.is is.place c a goes
        (numbers.pushed after.places is.held is.place held.Nothing (subst (λ (p : Places). Holds p is.held is.place) (sym places) is.numbers))
        (record { areas = same refl; state = keeps.0; before = keeps.1 }) areas silent
    refused-step false same keeps =
        let did = goes.leads m.at.world is.is.world in
        at-step did.0 did.2 did.3 places Failed keeps.0 (record
        { before = m.at; was = was-before did.0 did.2 keeps.1; left = λ image l. inl (subst (λ b. LeavesImage b image) as-before l) })

  group-step : (said : Code) (info : Info) (o : Result Did PumpFault) → Pumps true old.store o after.store → AreSound (disk_of after.store).areas
      → after.places ≡ old.places → AfterStep (of_group (log_area old.store) o) old said info after → HostLink e m new
  group-step said info (Ok what) takes sound places step =
      done-step call.Pump (answer.Pump (Ok what)) (pump-goes true old.store after.store is.held (Ok what) (λ told. sound) takes) places sound (Group
      (log_area old.store) what)
      (call_of (Group (log_area old.store) what)) refl (pump-leads old.store after.store what takes) step.2
  group-step said info (Err why) takes sound places step =
      refused-step call.Pump (answer.Pump (Err why)) (pump-goes true old.store after.store is.held (Err why) (λ told. sound) takes) places sound
      ((disk_of after.store).made == (disk_of old.store).made) (pump-same old.store after.store why takes) step.1

  job-step : (said : Code) (info : Info) (o : Result JobDid PumpFault) → PumpsJob true old.store o after.store → AreSound (disk_of after.store).areas
      → after.places ≡ old.places → AfterStep (of_job (job_area old.store) o) old said info after → HostLink e m new
  job-step said info (Ok what) takes sound places step =
      done-step call.JobPump (answer.JobPump (Ok what)) (pumped-goes true old.store after.store is.held (Ok what) (λ told. sound) takes) places sound
      (Job (job_area old.store) what) (call_of (Job (job_area old.store) what)) refl (job-leads old.store after.store what takes) step.2
  job-step said info (Err why) takes sound places step =
      refused-step call.JobPump (answer.JobPump (Err why)) (pumped-goes true old.store after.store is.held (Err why) (λ told. sound) takes) places sound
      ((disk_of after.store).made == (disk_of old.store).made) (job-same old.store after.store why takes) step.1

module _ (e : Event) (m : HostMoment) (new : Host) (is : IsHostMoment m) (areas : new.areas ≡ m.host.areas) (silent : with_event e m.at.done ≡ m.at.done)
  where
    pub pumps : (said : Code) (info : Info) → PumpsEngine m.host.engine said info new.engine → HostLink e m new
    pumps said info done = while-settled e m new is areas silent said _ done (λ settled does. by-way settled does)
      where
        by-way : m.host.engine.state ≡ Settled → ((said ≡ code.NoMemory) × (new.engine ≡ m.host.engine))
            ⊎ ((o : Result Did PumpFault) × Pumps true m.host.engine.store o new.engine.store × AreSound (disk_of new.engine.store).areas
            × (new.engine.places ≡ m.host.engine.places) × AfterStep (of_group (log_area m.host.engine.store) o) m.host.engine said info new.engine)
            → HostLink e m new
        by-way settled (inl none) = stays e m new is none.1 areas silent
        by-way settled (inr takes) = group-step e m new is areas silent settled said info takes.0 takes.1 takes.2 takes.3 takes.4

    pub jobs : (said : Code) (info : Info) → PumpsJobOf m.host.engine said info new.engine → HostLink e m new
    jobs said info done = while-settled e m new is areas silent said _ done (λ settled does. by-way settled does)
      where
        by-way : m.host.engine.state ≡ Settled → ((said ≡ code.NoMemory) × (new.engine ≡ m.host.engine))
            ⊎ ((o : Result JobDid PumpFault) × PumpsJob true m.host.engine.store o new.engine.store × AreSound (disk_of new.engine.store).areas
            × (new.engine.places ≡ m.host.engine.places) × AfterStep (of_job (job_area m.host.engine.store) o) m.host.engine said info new.engine)
            → HostLink e m new
        by-way settled (inl none) = stays e m new is none.1 areas silent
        by-way settled (inr takes) = job-step e m new is areas silent settled said info takes.0 takes.1 takes.2 takes.3 takes.4

-- ---- the host's device call

-- no device call is due
abbrev NoneIsDone : Host → HostMoment → Type 0
NoneIsDone new m = (new.engine ≡ m.host.engine) × (new.areas ≡ m.host.areas)

-- the moment after a call that was made
abbrev made-moment : HostMoment → Host → HostMoment
made-moment m new = record { host = new; at = record { store = new.engine.store; held = m.at.held; world = m.at.world; done = m.at.done }; before = None }

-- and after one that was refused
abbrev refused-moment : HostMoment → Host → HostMoment
refused-moment m new =
    record { host = new; at = record { store = new.engine.store; held = m.at.held; world = m.at.world; done = m.at.done }; before = m.before }

pub makes : (r : Reply) (m : HostMoment) (new : Host) → IsHostMoment m → HostStep (Makes r) m.host new → HostLink (Makes r) m new
makes r m new is step = by-state m.host.engine.state refl is.stage step.told step.done
  where
    by-state : (s : EngineState) → m.host.engine.state ≡ s → IsAtStage s m
        → MatchOption (step_in s) ((r.said ≡ code.None) × (new.engine ≡ m.host.engine))
        (λ taken. (new.engine.store ≡ m.host.engine.store) × (new.engine.places ≡ m.host.engine.places)
        × ((r.said ≡ code.Ok) × (r.info ≡ told_step taken) × (new.engine.state ≡ Settled) × (new.engine.before ≡ None)))
        → MatchOption (due_call (due_in s) (disk_of m.host.engine.store).areas) (new.areas ≡ m.host.areas) (λ c. new.areas ≡ made c m.host.areas)
        → HostLink (Makes r) m new
    by-state Settled same st told done = stays (Makes r) m new is told.1 done refl
    by-state Failed same st told done = stays (Makes r) m new is told.1 done refl
    by-state (Asks taken) same st told done =
        let due : due_call (call_of taken) (disk_of m.host.engine.store).areas ≡ Some st.call =
        ap (λ (s : EngineState). due_call (due_in s) (disk_of m.host.engine.store).areas) (sym same) ∙ st.due in
        let is_made : new.areas ≡ made st.call m.host.areas =
        subst (λ (o : Option HostCall). MatchOption o (new.areas ≡ m.host.areas) (λ c. new.areas ≡ made c m.host.areas)) due done in
        let now : new.areas ≡ (disk_of new.engine.store).areas = is_made ∙ sym st.leads ∙ ap (λ (v : StoreValue). (disk_of v).areas) (sym told.0) in
        record {
          after = made-moment m new;
          host = refl;
          done = refl;
          follows = no-step m.at.world.machine;
          is = record {
            held = is.held;
            is = record {
              store = refl;
              places = is.is.places;
              world = subst (λ (v : StoreValue). IsWorld true v is.held m.at.world) (sym told.0) is.is.world;
              published =
                  is.is.published;
            };
            place = is.place;
            numbers = subst (λ (p : Places). Holds p is.held is.place) (sym told.1) is.numbers;
            stage = subst (λ (s : EngineState). IsAtStage s (made-moment m new)) (sym told.2.2)
                (record {
                  none = refl;
                  areas = now;
                  sound = subst AreSound (ap (λ (v : StoreValue). (disk_of v).areas) (sym told.0)
                      ∙ sym now) st.sound_after;
                });
          };
        }

pub refuses : (r : Reply) (m : HostMoment) (new : Host) → IsHostMoment m → HostStep (Refuses r) m.host new → HostLink (Refuses r) m new
refuses r m new is step = by-state m.host.engine.state refl is.stage step.told step.done
  where
    by-state : (s : EngineState) → m.host.engine.state ≡ s → IsAtStage s m
        → MatchOption (step_in s) ((r.said ≡ code.None) × (new.engine ≡ m.host.engine))
        (λ taken. (new.engine.store ≡ m.host.engine.store) × (new.engine.places ≡ m.host.engine.places)
        × ((r.said ≡ code.Failed) × (new.engine.state ≡ Failed) × (new.engine.before ≡ m.host.engine.before)))
        → MatchOption (due_call (due_in s) (disk_of m.host.engine.store).areas) (new.areas ≡ m.host.areas) (λ c. IsRefusedIn c m.host.areas new.areas)
        → HostLink (Refuses r) m new
    by-state Settled same st told done = stays (Refuses r) m new is told.1 done refl
    by-state Failed same st told done = stays (Refuses r) m new is told.1 done refl
    by-state (Asks taken) same st told done =
        let due : due_call (call_of taken) (disk_of m.host.engine.store).areas ≡ Some st.call =
        ap (λ (s : EngineState). due_call (due_in s) (disk_of m.host.engine.store).areas) (sym same) ∙ st.due in
        let in_part : IsRefusedIn st.call m.host.areas new.areas =
        subst (λ (o : Option HostCall). MatchOption o (new.areas ≡ m.host.areas) (λ c. IsRefusedIn c m.host.areas new.areas)) due done in
        let store_areas : made st.call m.host.areas ≡ (disk_of new.engine.store).areas = sym st.leads
        ∙ ap (λ (v : StoreValue). (disk_of v).areas) (sym told.0) in
        record {
          after = refused-moment m new;
          host = refl;
          done = refl;
          follows = no-step m.at.world.machine;
          is = record {
            held = is.held;
            is = record {
              store = refl;
              places = is.is.places;
              world = subst (λ (v : StoreValue). IsWorld true v is.held m.at.world) (sym told.0) is.is.world;
              published =
                  is.is.published;
            };
            place = is.place;
            numbers = subst (λ (p : Places). Holds p is.held is.place) (sym told.1) is.numbers;
            stage = subst (λ (s : EngineState). IsAtStage s (refused-moment m new)) (sym told.2.1) (record {
              before = st.before;
              was = record {
                is_before = st.was.is_before;
                held = st.was.held;
                was = st.was.was;
                done = st.was.done;
                more = st.was.more;
                goes_on = st.was.goes_on;
                shown = subst (λ (o : Option Published). MatchOption o ⊥ (λ (p : Published). p.last ≡ last st.before.world.machine.published)) (sym told.2.2)
                    st.was.shown;
              };
              left = λ image l. subst (λ (a : Areas). LeavesWithin (disk_of st.before.store).areas a image) store_areas
                  (subst (λ (a : Areas). LeavesWithin a (made st.call m.host.areas) image) st.areas
                  (refused-leaves st.call m.host.areas new.areas st.sound in_part image l));
            });
          };
        }
