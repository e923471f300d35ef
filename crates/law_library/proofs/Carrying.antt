-- A moment of a host goes on where the store's disk stays as it is.
use Rattle.std.proofs.Common.{◌≡◌, ℕ, ◌++◌, true, List, Option, MatchOption, refl, sym, ◌∙◌, ap, subst}
use Rattle.std.proofs.lemmas.List.{append_assoc}
use Rattle.disk.specs.Areas.{Areas, AreSound}
use Rattle.disk.specs.Within.{LeavesWithin}
use Rattle.history.specs.Histories.{History, last}
use Rattle.history.proofs.Runs.{run-shows}
use Rattle.law_image.specs.Values.{Value, IsValue}
use Rattle.any_store.specs.Values.{StoreValue, disk_of}
use Rattle.run.specs.declared.calls.Call.{Call}
use Rattle.run.specs.declared.calls.Answer.{Answer}
use Rattle.run.specs.declared.held.Held.{Held}
use Rattle.run.specs.Moments.{Moment, IsAtMoment}
use Rattle.run.specs.Runs.{Goes, Follows}
use Rattle.run.specs.Worlds.{World, IsWorld}
use Rattle.run.proofs.Acknowledging.{follows-have}
use Rattle.run.proofs.Runs.{no-step}
use Rattle.c_engine.specs.Engines.{KeepsStore, due_in, due_call}
use Rattle.c_engine.specs.declared.engine.Engine.{Engine}
use Rattle.c_engine.specs.declared.engine.EngineState.{EngineState}
use Rattle.c_engine.specs.declared.engine.EngineState.TheVariants.{Settled, Asks, Failed}
use Rattle.c_engine.specs.declared.engine.Published.{Published}
use Rattle.law_library.specs.Hosts.{Host, Event, with_event}
use Rattle.law_library.specs.Moments.{HostMoment, Holds, WasBefore, IsAtStage, IsHostMoment}
use Rattle.law_library.specs.Promise.{HostLink}

-- the areas are the host's still, and the store stands for another world
abbrev pub moved_to : HostMoment → Engine → List Held → World → HostMoment
moved_to m e xs w = record {
  host = record { engine = e; areas = m.host.areas };
  at = record { store = e.store; held = xs; world = w; done = m.at.done };
  before =
      m.before;
}

-- the disk, and how the engine stands, are as they were
pub record SameDisk (old new : Engine) : Type 0 where
  pub areas : (disk_of new.store).areas ≡ (disk_of old.store).areas
  pub state : new.state ≡ old.state
  pub before : new.before ≡ old.before

was-carried : (m : HostMoment) (e : Engine) (xs : List Held) (w : World) (b : Moment) → WasBefore m b → Follows m.at.world.machine w.machine
    → e.before ≡ m.host.engine.before
    → WasBefore (moved_to m e xs w) b
was-carried m e xs w b was follows before =
    let shown = run-shows IsValue m.at.world.machine w.machine follows.0 follows.1 in
    record {
      is_before = was.is_before;
      held = was.held;
      was = was.was;
      done = was.done;
      more = was.more ++ shown.0;
      goes_on = shown.1 ∙ ap (λ (h : History Value). h ++ shown.0) was.goes_on ∙ append_assoc b.world.machine.published was.more shown.0;
      shown = subst (λ (o : Option Published). MatchOption o ⊥ (λ (p : Published). p.last ≡ last b.world.machine.published)) (sym before) was.shown;
    }

stage-carried : (s : EngineState) (m : HostMoment) (e : Engine) (xs : List Held) (w : World) → SameDisk m.host.engine e → Follows m.at.world.machine w.machine
    → IsAtStage s m
    → IsAtStage s (moved_to m e xs w)
stage-carried Settled m e xs w same follows st = record { none = st.none; areas = st.areas ∙ sym same.areas; sound = st.sound }
stage-carried (Asks step) m e xs w same follows st = record {
  before = st.before;
  was = was-carried m e xs w st.before st.was follows same.before;
  areas = st.areas;
  call = st.call;
  due = ap (λ (s : EngineState). due_call (due_in s) (disk_of e.store).areas) same.state
      ∙ ap (λ (a : Areas). due_call (due_in m.host.engine.state) a) same.areas
      ∙ st.due;
  leads = same.areas ∙ st.leads;
  sound = st.sound;
  sound_after = subst AreSound (sym same.areas) st.sound_after;
}
stage-carried Failed m e xs w same follows st = record {
  before = st.before;
  was = was-carried m e xs w st.before st.was follows same.before;
  left = λ image l. subst (λ (a : Areas). LeavesWithin (disk_of st.before.store).areas a image) (sym same.areas) (st.left image l);
}

-- the host is at the moment after a call that leaves the disk alone
pub carried : (m : HostMoment) → IsHostMoment m → (e : Engine) (xs : List Held) (place : ℕ → ℕ) (w : World) → SameDisk m.host.engine e
    → Follows m.at.world.machine w.machine → IsWorld true e.store xs w → Holds e.places xs place
    → IsHostMoment (moved_to m e xs w)
carried m is e xs place w same follows world holds = record {
  held = xs;
  is = record { store = refl; places = refl; world = world; published = follows-have m.at.world w m.at.done follows is.is.published };
  place = place;
  numbers = holds;
  stage = subst (λ (s : EngineState). IsAtStage s (moved_to m e xs w)) (sym same.state) (stage-carried m.host.engine.state m e xs w same follows is.stage);
}

-- ---- events

-- an event that tells of nothing acknowledged
pub to-moment : (e : Event) (m : HostMoment) (new : Host) (xs : List Held) (w : World) → new.areas ≡ m.host.areas → with_event e m.at.done ≡ m.at.done
    → Follows m.at.world.machine w.machine → IsHostMoment (moved_to m new.engine xs w) → HostLink e m new
to-moment e m new xs w areas silent follows is = record {
  after = moved_to m new.engine xs w;
  host = λ i. record { engine = new.engine; areas = sym areas i };
  done = sym silent;
  follows = follows;
  is = is;
}

-- nothing changes
pub stays : (e : Event) (m : HostMoment) (new : Host) → IsHostMoment m → new.engine ≡ m.host.engine → new.areas ≡ m.host.areas
    → with_event e m.at.done ≡ m.at.done → HostLink e m new
stays e m new is engine areas silent = record {
  after = m;
  host = λ i. record { engine = sym engine i; areas = sym areas i };
  done = sym silent;
  follows = no-step m.at.world.machine;
  is = is;
}

-- one call of a list is made, and leaves the disk alone
pub by-call : (e : Event) (m : HostMoment) (new : Host) → IsHostMoment m → (xs ys : List Held) → (is_held : IsAtMoment true m.host.engine.store xs m.at)
    → (place : ℕ → ℕ) (c : Call) (a : Answer)
    → Goes true m.host.engine.store xs c a new.engine.store ys → Holds new.engine.places ys place → SameDisk m.host.engine new.engine
    → new.areas ≡ m.host.areas → with_event e m.at.done ≡ m.at.done → HostLink e m new
by-call e m new is xs ys is_held place c a goes holds same areas silent =
    let did = goes.leads m.at.world is_held.world in
    to-moment e m new ys did.0 areas silent did.2 (carried m is new.engine ys place did.0 same did.2 did.3 holds)

-- no call of a list is made, but of the values that are held some may be others
pub by-world : (e : Event) (m : HostMoment) (new : Host) → IsHostMoment m → (ys : List Held) (place : ℕ → ℕ) (w : World) → w.machine ≡ m.at.world.machine
    → IsWorld true m.host.engine.store ys w → Holds new.engine.places ys place
    → KeepsStore m.host.engine new.engine → new.areas ≡ m.host.areas → with_event e m.at.done ≡ m.at.done → HostLink e m new
by-world e m new is ys place w machine world holds keeps areas silent =
    let follows : Follows m.at.world.machine w.machine = subst (λ n. Follows m.at.world.machine n) (sym machine) (no-step m.at.world.machine) in
    let same : SameDisk m.host.engine new.engine = record { areas = ap (λ (v : StoreValue). (disk_of v).areas) keeps.0; state = keeps.1; before = keeps.2 } in
    to-moment e m new ys w areas silent follows (carried m is new.engine ys place w same follows
    (subst (λ (v : StoreValue). IsWorld true v ys w) (sym keeps.0) world) holds)
