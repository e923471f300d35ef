-- The events of a host, one after another, from the opening of its store.
use Rattle.std.proofs.Common.{◌≡◌, ℕ, ◌==◌, ◌++◌, Bool, true, false, List, [], ◌∷◌, Some, None, refl, sym, ◌∙◌, ap, subst}
use Rattle.std.specs.Prelude.{if◌then◌else◌}
use Rattle.disk.specs.Areas.{AreSound, AreBytes, Image, settled_on}
use Rattle.disk.specs.Calls.{DiskState}
use Rattle.disk.specs.declared.area.Area.TheVariants.{Status, Heap, Archive}
use Rattle.history.specs.Machine.{Machine}
use Rattle.history.specs.Steps as steps
use Rattle.law_image.specs.Values.{Value, IsValue}
use Rattle.any_store.specs.Values.{StoreValue, disk_of}
use Rattle.law_any_store.specs.Standing.{Stands, opened_as}
use Rattle.run.specs.Moments.{first_moment}
use Rattle.run.specs.Runs.{Follows}
use Rattle.run.proofs.Linking.{first-is}
use Rattle.run.proofs.Runs.{no-step}
use Rattle.c_engine.specs.Held.{named, named_in}
use Rattle.c_engine.specs.Numbers.{tag_in}
use Rattle.c_engine.specs.RelaySound.{settled_is_sound}
use Rattle.c_engine.specs.declared.engine.EngineState.{EngineState}
use Rattle.c_engine.specs.declared.places.Held.TheVariants.{Nothing}
use Rattle.c_engine.specs.declared.places.Place.{Place}
use Rattle.c_engine.specs.declared.places.Places.{Places}
use Rattle.law_library.specs.Calls.{LibraryCall, Reply, Exports}
use Rattle.law_library.specs.Calls as library
use Rattle.law_library.specs.Hosts.{Host, Event, Calls, Makes, Refuses, HostRun, acknowledged_by}
use Rattle.law_library.specs.Moments.{HostMoment, Holds, IsHostMoment, IsAtStage, held_as}
use Rattle.law_library.specs.Promise.{HostLink, EventLeads, OpensAtMoment, LibraryPromise}
use Rattle.law_library.proofs.Calls.{begins, writes, puts-leave, deletes-leave, submits, aborts, gives-up, ends, views, archives, reclaims, raises, grows}
use Rattle.law_library.proofs.Carrying.{stays}
use Rattle.law_library.proofs.Over.{opened-over, opened-areas, over-has}
use Rattle.law_library.proofs.Redeeming.{redeems}
use Rattle.law_library.proofs.Steps.{pumps, jobs, makes, refuses}
use Rattle.law_library.proofs.Stops.{moment-keeps}

-- ---- one event

call-leads : (c : LibraryCall) (r : Reply) (m : HostMoment) (new : Host) → IsHostMoment m → Exports c r m.host.engine new.engine → new.areas ≡ m.host.areas
    → HostLink (Calls c r) m new
call-leads library.Reads r m new is does areas = stays (Calls library.Reads r) m new is does areas refl
call-leads library.Begin r m new is does areas = begins (Calls library.Begin r) m new is areas refl r.said r.info does
call-leads (library.Put n key bytes) r m new is does areas = let e =
    Calls (library.Put n key bytes) r in writes e m new is areas refl _ n r.said (puts-leave e m new is areas refl key bytes) does
call-leads (library.Delete n key) r m new is does areas = let e =
    Calls (library.Delete n key) r in writes e m new is areas refl _ n r.said (deletes-leave e m new is areas refl key) does
call-leads (library.Submit n label now) r m new is does areas =
    submits (Calls (library.Submit n label now) r) m new is areas refl n label now r.said r.info does.0 does.1
call-leads (library.Abort n) r m new is does areas = aborts (Calls (library.Abort n) r) m new is areas refl n r.said does
call-leads library.Pump r m new is does areas = pumps (Calls library.Pump r) m new is areas refl r.said r.info does
call-leads (library.Redeem n) r m new is does areas = redeems n r m new is areas does
call-leads (library.GiveUp n) r m new is does areas = gives-up (Calls (library.GiveUp n) r) m new is areas refl n r.said does
call-leads library.View r m new is does areas = views (Calls library.View r) m new is areas refl r.said r.info does
call-leads (library.End n) r m new is does areas = ends (Calls (library.End n) r) m new is areas refl n r.said does
call-leads (library.Archive upto) r m new is does areas = archives (Calls (library.Archive upto) r) m new is areas refl upto r.said r.info does
call-leads library.Reclaim r m new is does areas = reclaims (Calls library.Reclaim r) m new is areas refl r.said r.info does
call-leads (library.Floor None time) r m new is does areas = raises (Calls (library.Floor None time) r) m new is areas refl None time r.said r.info does
call-leads (library.Floor (Some relation) time) r m new is does areas =
    raises (Calls (library.Floor (Some relation) time) r) m new is areas refl (Some relation) time r.said r.info does
call-leads library.Grow r m new is does areas = grows (Calls library.Grow r) m new is areas refl r.said r.info does
call-leads library.JobPump r m new is does areas = jobs (Calls library.JobPump r) m new is areas refl r.said r.info does

pub event-leads : (e : Event) → EventLeads e
event-leads (Calls c r) m new is step = call-leads c r m new is step.told step.done
event-leads (Makes r) m new is step = makes r m new is step
event-leads (Refuses r) m new is step = refuses r m new is step

-- ---- the opening

areas-sound : (status heap archive : List ℕ) → AreBytes status → AreBytes heap → AreBytes archive
    → AreSound (settled_on (record { status = status; heap = heap; archive = archive }))
areas-sound status heap archive s h a Status = settled_is_sound status s
areas-sound status heap archive s h a Heap = settled_is_sound heap h
areas-sound status heap archive s h a Archive = settled_is_sound archive a

-- no number names anything
none-named : (places : Places) → places.places.items ≡ [] → (n : ℕ) → named places n ≡ Nothing
none-named places none n = ap (λ (l : List Place). named_in places.tag l n) none ∙ both (tag_in n == places.tag)
  where
    both : (b : Bool) → (if b then Nothing else Nothing) ≡ Nothing
    both true = refl
    both false = refl

none-held : (places : Places) → places.places.items ≡ [] → Holds places [] (λ n. n)
none-held places none = record {
  same = λ n x e. absurd (let never = ap held_as (sym (none-named places none n)) ∙ e in cc);
  once = λ n m x y en em e. e;
}

pub opens : OpensAtMoment
opens status heap archive mark info e header h floors s hp a image opened_so =
    let bytes : Image = record { status = status; heap = heap; archive = archive } in
    let disk : DiskState = record { areas = (disk_of opened_so.0).areas; made = 0; refused = 0 } in
    let sound : AreSound (settled_on bytes) = areas-sound status heap archive s hp a in
    let over = opened-over bytes mark opened_so.0 disk header h floors opened_so.1 refl sound image in
    let stands : Stands true e.store (opened_as header h floors) =
    subst (λ (v : StoreValue). Stands true v (opened_as header h floors)) (sym opened_so.2) over in
    let m : HostMoment = record
    { host = record { engine = e; areas = settled_on bytes }; at = first_moment e.store (opened_as header h floors); before = None } in
    let now : (disk_of e.store).areas ≡ settled_on bytes =
    ap (λ (v : StoreValue). (disk_of v).areas) opened_so.2 ∙ ap (λ (d : DiskState). d.areas) (over-has opened_so.0 disk)
    ∙ opened-areas bytes mark opened_so.0 opened_so.1 in (
      m,
      refl,
      refl,
      refl,
      record {
        held = [];
        is = first-is true e.store (opened_as header h floors) stands;
        place = λ n. n;
        numbers = none-held e.places opened_so.3.places;
        stage = subst (λ (x : EngineState). IsAtStage x m) (sym opened_so.3.state) (record { none = refl; areas = sym now; sound = sound });
      },
    )

-- ---- lists

record Reached (done : List ℕ) (start : Machine Value) (host : Host) : Type 0 where
  pub moment : HostMoment
  pub is_host : moment.host ≡ host
  pub acknowledged : moment.at.done ≡ done
  pub follows : Follows start moment.at.world.machine
  pub is : IsHostMoment moment

run-then : (old mid new : Machine Value) (es fs : List (steps.Event Value)) → steps.Run IsValue old es mid → steps.Run IsValue mid fs new
    → steps.Run IsValue old (es ++ fs) new
run-then old mid new [] fs run more = subst (λ (x : Machine Value). steps.Run IsValue x fs new) run more
run-then old mid new (e ∷ es) fs run more = (run.0, run.1, run-then run.0 mid new es fs run.2 more)

follows-on : (a b c : Machine Value) → Follows a b → Follows b c → Follows a c
follows-on a b c p q = (p.0 ++ q.0, run-then a b c p.0 q.0 p.1 q.1)

run-reaches : (events : List Event) (m : HostMoment) (start : Machine Value) (host : Host) → IsHostMoment m → Follows start m.at.world.machine
    → HostRun events m.host host → Reached (acknowledged_by events m.at.done) start host
run-reaches [] m start host is follows run = record { moment = m; is_host = sym run; acknowledged = refl; follows = follows; is = is }
run-reaches (e ∷ es) m start host is follows run =
    let link = event-leads e m run.0 is run.1 in
    let rest = run-reaches es link.after start host link.is (follows-on start m.at.world.machine link.after.at.world.machine follows link.follows)
    (subst (λ (x : Host). HostRun es x host) (sym link.host) run.2) in
    record {
      moment = rest.moment;
      is_host = rest.is_host;
      acknowledged = rest.acknowledged
          ∙ ap (λ (l : List ℕ). acknowledged_by es l) link.done;
      follows = rest.follows;
      is = rest.is;
    }

pub promise : LibraryPromise
promise status heap archive mark info e header h floors events host s hp a image opens_so run =
    let first = opens status heap archive mark info e header h floors s hp a image opens_so in
    let m : HostMoment = first.0 in
    let follows : Follows (opened_as header h floors) m.at.world.machine =
    subst (λ n. Follows (opened_as header h floors) n) (sym first.3) (no-step (opened_as header h floors)) in
    let to = run-reaches events m (opened_as header h floors) host first.4 follows (subst (λ (x : Host). HostRun events x host) (sym first.1) run) in
    let keeps = moment-keeps to.moment to.is in
    record {
      moment = to.moment;
      is_host = to.is_host;
      acknowledged = to.acknowledged ∙ ap (λ (l : List ℕ). acknowledged_by events l) first.2;
      follows = to.follows;
      leaves = keeps.0;
      within = keeps.1;
    }
