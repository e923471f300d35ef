-- A view that was told is answered at each later moment by what was published when it was told.
use Rattle.std.proofs.Common.{◌≡◌, ◌<◌, ◌≤◌, ◌^◌, ℕ, zero, suc, true, false, List, [], ◌∷◌, length, Some, None, MatchBool, MatchOption, refl, sym}
use Rattle.std.proofs.Common.{◌∙◌, ap, subst, inl, inr, arith}
use Rattle.std.specs.Prelude.{slice_get}
use Rattle.std.proofs.lemmas.Bool.{cases_eq, false≢true}
use Rattle.disk.specs.Areas.{Areas, AreaState}
use Rattle.history.specs.Histories.{History}
use Rattle.law_image.specs.Values.{Value}
use Rattle.timequery.specs.View.{ViewValue}
use Rattle.any_store.specs.Values.{StoreValue, disk_of}
use Rattle.law_refinement.specs.Homes.{ViewStands}
use Rattle.law_any_store.specs.Standing.{ViewReads}
use Rattle.law_any_store.proofs.Views.{view-of-history}
use Rattle.c_engine.specs.Engines.{TakesView, asks, is_failed, step_in, due_in, due_call}
use Rattle.c_engine.specs.Held.{named, view_in, last_number}
use Rattle.c_engine.specs.HostCalls.{made}
use Rattle.c_engine.specs.Steps.{told_step}
use Rattle.c_engine.specs.declared.code.Code.TheVariants as code
use Rattle.c_engine.specs.declared.engine.Engine.{Engine}
use Rattle.c_engine.specs.declared.engine.EngineState.{EngineState}
use Rattle.c_engine.specs.declared.engine.EngineState.TheVariants.{Settled, Asks, Failed}
use Rattle.c_engine.specs.declared.places.Held.TheVariants as engine
use Rattle.law_library.specs.Calls.{Reply, View}
use Rattle.law_library.specs.Hosts.{Host, Event, Calls, Makes, Refuses}
use Rattle.law_library.specs.Moments.{HostMoment, IsSettled, IsAtStage, IsHostMoment}
use Rattle.law_library.specs.Answers.{HostTrace, IsNext, LeavesArchive, LeavesView, ViewsAreAnswered}
use Rattle.law_library.proofs.Lent.{HasRuns, has-runs, under, answered}
use Rattle.law_library.proofs.Numbers.{named-it}
use Rattle.law_library.proofs.Passing.{passes, has-called}

-- ---- at one moment

-- The number names the view, what it reads is there, and the host's archive area has its runs.
record IsLive (host : Host) (number : ℕ) (view : ViewValue) (h : History Value) (floors : ℕ → ℕ) : Type 0 where
  pub names : view_in (named host.engine.places number) ≡ Some view
  pub reads : ViewReads true host.engine.store view h floors
  pub lent : HasRuns host.areas.archive.bytes view h floors

-- a settled host has what its store has
settled-lent : (m : HostMoment) → IsHostMoment m → m.host.engine.state ≡ Settled → (view : ViewValue) (h : History Value) (floors : ℕ → ℕ)
    → ViewReads true m.host.engine.store view h floors → HasRuns m.host.areas.archive.bytes view h floors
settled-lent m is settled view h floors reads =
    let stage : IsSettled m = subst (λ (s : EngineState). IsAtStage s m) settled is.stage in
    subst (λ (a : Areas). HasRuns a.archive.bytes view h floors) (sym stage.areas) (has-runs m.host.engine.store view h floors reads)

same-lent : (old new : Areas) (view : ViewValue) (h : History Value) (floors : ℕ → ℕ) → new ≡ old → HasRuns old.archive.bytes view h floors
    → HasRuns new.archive.bytes view h floors
same-lent old new view h floors same has = subst (λ (a : Areas). HasRuns a.archive.bytes view h floors) (sym same) has

-- ---- one event

module _ (m after : HostMoment) (n : ℕ) (view : ViewValue) (h : History Value) (floors : ℕ → ℕ) (is : IsHostMoment m) (live : IsLive m.host n view h floors)
  where
    abbrev old : Engine
    old = m.host.engine

    abbrev new : Engine
    new = after.host.engine

    event-live : (e : Event) → IsNext e m after → LeavesView n e → LeavesArchive e m after → IsLive after.host n view h floors
    event-live (Calls c r) next leaves whole =
        let p = passes old new n view live.names m.at.world.machine is.is.world.stands c r leaves next.step.told in
        record {
          names = p.names;
          reads = p.reads h floors live.reads;
          lent = same-lent m.host.areas after.host.areas view h floors next.step.done live.lent;
        }
    event-live (Makes r) next leaves whole =
        let p = has-called old new n view live.names true r.said r.info next.step.told in
        record { names = p.names; reads = p.reads h floors live.reads; lent = by-state old.state next.step.told next.step.done (p.reads h floors live.reads) }
      where
        by-state : (s : EngineState) → MatchOption (step_in s) ((r.said ≡ code.None) × (new ≡ old))
            (λ taken. (new.store ≡ old.store) × (new.places ≡ old.places)
            × ((r.said ≡ code.Ok) × (r.info ≡ told_step taken) × (new.state ≡ Settled) × (new.before ≡ None)))
            → MatchOption (due_call (due_in s) (disk_of old.store).areas) (after.host.areas ≡ m.host.areas) (λ c. after.host.areas ≡ made c m.host.areas)
            → ViewReads true new.store view h floors → HasRuns after.host.areas.archive.bytes view h floors
        by-state Settled told done reads = same-lent m.host.areas after.host.areas view h floors done live.lent
        by-state Failed told done reads = same-lent m.host.areas after.host.areas view h floors done live.lent
        by-state (Asks taken) told done reads = settled-lent after next.is told.2.2 view h floors reads
    event-live (Refuses r) next leaves whole =
        let p = has-called old new n view live.names false r.said r.info next.step.told in
        record {
          names = p.names;
          reads = p.reads h floors live.reads;
          lent = subst (λ (a : AreaState). HasRuns a.bytes view h floors) (sym whole) live.lent;
        }

-- ---- the call that tells its number

-- a view of what is published
record IsTold (m after : HostMoment) (number : ℕ) : Type 0 where
  pub view : ViewValue
  pub low : number < 2 ^ 63
  pub stands : ViewStands view m.at.world.machine.published m.at.world.machine.floors
  pub live : IsLive after.host number view m.at.world.machine.published m.at.world.machine.floors

view-told : (r : Reply) (m after : HostMoment) → IsHostMoment m → IsNext (Calls View r) m after → r.said ≡ code.Ok → is_failed m.host.engine.state ≡ false
    → IsTold m after r.info.a
view-told r m after is next ok works = by-state m.host.engine.state refl next.step.told
  where
    by-way : m.host.engine.state ≡ Settled → TakesView m.host.engine r.said r.info after.host.engine → IsTold m after r.info.a
    by-way settled (inl out) = absurd (let e = sym ok ∙ out.1.0 in cc)
    by-way settled (inr (inl lacks)) = absurd (let e = sym ok ∙ lacks.0 in cc)
    by-way settled (inr (inr takes)) =
        let view = takes.2.0 in
        let kept = takes.2.2 in
        let shows = view-of-history true m.host.engine.store view m.at.world.machine is.is.world.stands takes.2.1 in
        let reads : ViewReads true after.host.engine.store view m.at.world.machine.published m.at.world.machine.floors =
        subst (λ (v : StoreValue). ViewReads true v view m.at.world.machine.published m.at.world.machine.floors) (sym takes.1.0) shows.1 in
        record {
          view = view;
          low = kept.low;
          stands = shows.0;
          live = record {
            names = ap view_in (named-it r.info.a (engine.View view) m.host.engine.places after.host.engine.places kept.names);
            reads = reads;
            lent = settled-lent after next.is (takes.1.1 ∙ settled) view m.at.world.machine.published m.at.world.machine.floors reads;
          };
        }

    by-state : (s : EngineState) → m.host.engine.state ≡ s
        → MatchBool (asks s) ((r.said ≡ code.Pending) × (after.host.engine ≡ m.host.engine))
        (MatchBool (is_failed s) ((r.said ≡ code.Ok) × (after.host.engine ≡ m.host.engine) × (r.info.a ≡ last_number m.host.engine.places))
        (TakesView m.host.engine r.said r.info after.host.engine))
        → IsTold m after r.info.a
    by-state Settled settled told = by-way settled told
    by-state (Asks step) asking told = absurd (let e = sym ok ∙ told.0 in cc)
    by-state Failed failed told = absurd (false≢true (sym works ∙ ap is_failed failed))

-- ---- one event after another

has-event : (events : List Event) (k : ℕ) → k < length events → (e : Event) × (slice_get events k ≡ Some e)
has-event [] k low = absurd (omega (arith, low))
has-event (e ∷ es) zero low = (e, refl)
has-event (e ∷ es) (suc k) low = has-event es k (omega (arith, low))

is-moment : (events : List Event) (t : HostTrace events) (k : ℕ) → k ≤ length events → IsHostMoment (t.moment k)
is-moment events t zero low = t.first
is-moment events t (suc k) low = let e = has-event events k (omega (arith, low)) in (t.next k e.0 e.1).is

module _ (events : List Event) (t : HostTrace events) (i n : ℕ) (view : ViewValue) (h : History Value) (floors : ℕ → ℕ)
    (told : IsLive (t.moment (suc i)).host n view h floors) where
  stays-live : (k : ℕ) → i < k → k ≤ length events → ((j : ℕ) (e : Event) → i < j → j < k → slice_get events j ≡ Some e → LeavesView n e)
      → ((j : ℕ) (e : Event) → i < j → j < k → slice_get events j ≡ Some e → LeavesArchive e (t.moment j) (t.moment (suc j)))
      → IsLive (t.moment k).host n view h floors
  stays-live zero later within stays whole = absurd (omega (arith, later))
  stays-live (suc k) later within stays whole = elim (cases_eq k i) [
    | inl same ↦ subst (λ (j : ℕ). IsLive (t.moment (suc j)).host n view h floors) (sym same) told
    | inr other ↦
        let e = has-event events k (omega (arith, within)) in
        let past : i < k = omega (arith, later, other) in
        let before = stays-live k past (omega (arith, within)) (λ j x low high is. stays j x low (omega (arith, high)) is)
        (λ j x low high is. whole j x low (omega (arith, high)) is) in
        event-live (t.moment k) (t.moment (suc k)) n view h floors (is-moment events t k (omega (arith, within))) before e.0 (t.next k e.0 e.1)
        (stays k e.0 past (omega arith) e.1) (whole k e.0 past (omega arith) e.1)
  ]

pub views : ViewsAreAnswered
views events t i k number opened =
    let later = opened.later in
    let within = opened.within in
    let is = is-moment events t i (omega (arith, later, within)) in
    let r = opened.reply in
    let told = view-told r (t.moment i) (t.moment (suc i)) is (t.next i (Calls View r) opened.told) opened.ok opened.works in
    let h = (t.moment i).at.world.machine.published in
    let floors = (t.moment i).at.world.machine.floors in
    let first = subst (λ (x : ℕ). IsLive (t.moment (suc i)).host x told.view h floors) opened.number_is told.live in
    let live = stays-live events t i number told.view h floors first k later within opened.stays opened.whole in
    let low : number < 2 ^ 63 = subst (λ (x : ℕ). x < 2 ^ 63) opened.number_is told.low in
    record {
      acknowledged = is.is.published;
      answers = answered (t.moment k).host number told.view h floors (under (t.moment k).host.engine number told.view low live.names) told.stands live.lent;
    }
