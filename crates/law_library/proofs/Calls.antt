-- The calls that make no device call.
use Rattle.std.proofs.Common.{◌≡◌, ℕ, ◌==◌, ◌&&◌, ◌++◌, Bool, true, false, List, [], ◌∷◌, length, Option, Some, None, Result, Ok, Err, MatchBool, MatchOption}
use Rattle.std.proofs.Common.{refl, sym, ap, subst, inl, inr, ◌<◌, ◌^◌}
use Rattle.std.specs.Prelude.{slice_get, slice_set, if◌then◌else◌}
use Rattle.disk.specs.Calls.{DiskState}
use Rattle.history.specs.declared.key.Key.{Key}
use Rattle.history.specs.declared.key.KeyWrite.{KeyWrite}
use Rattle.law_image.specs.Values.{Value}
use Rattle.snapshot.specs.Txn.{TxnValue, AreTxnWrites}
use Rattle.snapshot.specs.declared.txn.TxnFault.{TxnFault}
use Rattle.group.specs.declared.answers.BeginFault.{BeginFault}
use Rattle.group.specs.declared.answers.Submitted.{Submitted}
use Rattle.group.specs.declared.answers.Submitted.TheVariants as submitted
use Rattle.group.specs.declared.answers.SubmitFault.{SubmitFault}
use Rattle.timequery.specs.View.{ViewValue}
use Rattle.store.specs.declared.job.StartFault.{StartFault}
use Rattle.any_store.specs.Calls as stores
use Rattle.any_store.specs.Jobs.{StartsArchive, StartsReclaim, StartsFloor, StartsGrowth}
use Rattle.any_store.specs.Values.{StoreValue, commits_of, disk_of}
use Rattle.run.specs.declared.calls.Call.{Call}
use Rattle.run.specs.declared.calls.Call.TheVariants as call
use Rattle.run.specs.declared.calls.Answer.{Answer}
use Rattle.run.specs.declared.calls.Answer.TheVariants as answer
use Rattle.run.specs.declared.calls.SubmitOutcome.TheVariants as outcome
use Rattle.run.specs.declared.held.Held.{Held}
use Rattle.run.specs.declared.held.Held.TheVariants as held
use Rattle.run.specs.Places.{Running}
use Rattle.run.specs.Runs.{Goes}
use Rattle.run.specs.Worlds.{World, IsWorld}
use Rattle.run.specs.Worlds as worlds
use Rattle.run.proofs.Archiving.{start-goes, reclaim-goes}
use Rattle.run.proofs.FloorCalls.{floor-goes}
use Rattle.run.proofs.GrowCalls.{grow-goes}
use Rattle.run.proofs.Places.{reads-set}
use Rattle.run.proofs.Reading.{rewritten-places}
use Rattle.run.proofs.Steps.{begin-goes, abort-goes}
use Rattle.run.proofs.Submitting.{submit-goes}
use Rattle.run.proofs.Tickets.{give_up-goes}
use Rattle.run.proofs.Views.{view-goes, end-goes}
use Rattle.c_engine.specs.Engines.{WhileSettled, stopped_by, UnlessAsked, asks, is_failed, OfNumber, KeepsStore, TakesTransaction, TellsBegin, Writes}
use Rattle.c_engine.specs.Engines.{SubmitsEngine, TellsSubmit, AbortsEngine, GivesUp, GivesView, TakesView, EndsView, StartsEngine}
use Rattle.c_engine.specs.Held.{named, transaction_in, view_in, transaction_under, ticket_under, last_number, IsKept, IsTaken}
use Rattle.c_engine.specs.Writes.{Puts, Deletes}
use Rattle.c_engine.specs.declared.code.Code.{Code}
use Rattle.c_engine.specs.declared.code.Code.TheVariants as code
use Rattle.c_engine.specs.declared.code.Info.{Info}
use Rattle.c_engine.specs.declared.engine.Engine.{Engine}
use Rattle.c_engine.specs.declared.engine.EngineState.{EngineState}
use Rattle.c_engine.specs.declared.engine.EngineState.TheVariants.{Settled, Asks, Failed}
use Rattle.c_engine.specs.declared.places.Held as engine
use Rattle.c_engine.specs.declared.places.Held.TheVariants.{Transaction, Ticket, View}
use Rattle.c_engine.specs.declared.places.Places.{Places}
use Rattle.law_library.specs.Hosts.{Host, Event, with_event}
use Rattle.law_library.specs.Moments.{HostMoment, IsHostMoment, held_as}
use Rattle.law_library.specs.Promise.{HostLink}
use Rattle.law_library.proofs.Carrying.{SameDisk, by-call, by-world, stays}
use Rattle.law_library.proofs.Disks.{begin-disk, abort-disk, submit-disk, archive-disk, reclaim-disk, floor-disk, grow-disk}
use Rattle.law_library.proofs.Numbers as numbers

-- ---- what stops a call

module _ (e : Event) (m : HostMoment) (new : Host) (is : IsHostMoment m) (areas : new.areas ≡ m.host.areas) (silent : with_event e m.at.done ≡ m.at.done)
  where
    abbrev pub old : Engine
    old = m.host.engine

    abbrev pub after : Engine
    after = new.engine

    abbrev pub xs : List Held
    xs = is.held

    abbrev pub place : ℕ → ℕ
    place = is.place

    -- the call was refused by how the engine stands
    pub while-settled : (said : Code) (Does : Type 0) → WhileSettled old said after Does → (old.state ≡ Settled → Does → HostLink e m new) → HostLink e m new
    while-settled said Does done act = by-state old.state refl done
      where
        by-state : (s : EngineState) → old.state ≡ s → MatchOption (stopped_by s) Does (λ why. (said ≡ why) × (after ≡ old)) → HostLink e m new
        by-state Settled settled does = act settled does
        by-state (Asks step) asking refused = stays e m new is refused.1 areas silent
        by-state Failed failed refused = stays e m new is refused.1 areas silent

    pub unless-asked : (said : Code) (Does : Type 0) → UnlessAsked old said after Does → (asks old.state ≡ false → Does → HostLink e m new) → HostLink e m new
    unless-asked said Does done act = by-asked (asks old.state) refl done
      where
        by-asked : (b : Bool) → asks old.state ≡ b → MatchBool b ((said ≡ code.Pending) × (after ≡ old)) Does → HostLink e m new
        by-asked true asking refused = stays e m new is refused.1 areas silent
        by-asked false answered does = act answered does

    pub of-number : {T : Type 0} (found : Option T) (said : Code) (Does : T → Type 0) → OfNumber found old said after Does
        → ((x : T) → found ≡ Some x → Does x → HostLink e m new) → HostLink e m new
    of-number found said Does done act = by-found found refl done
      where
        by-found : (o : Option _) → found ≡ o → MatchOption o ((said ≡ code.Unknown) × (after ≡ old)) Does → HostLink e m new
        by-found None none refused = stays e m new is refused.1 areas silent
        by-found (Some x) some does = act x some does

    -- ---- places

    keeps-disk : KeepsStore old after → SameDisk old after
    keeps-disk keeps = record { areas = ap (λ (v : StoreValue). (disk_of v).areas) keeps.0; state = keeps.1; before = keeps.2 }

    -- what is held is the same
    same-held : KeepsStore old after → ((n : ℕ) → named after.places n ≡ named old.places n) → HostLink e m new
    same-held keeps names = by-world e m new is xs place m.at.world refl is.is.world (numbers.same-numbers old.places after.places xs place names is.numbers)
        keeps areas silent

    -- a call of a list, whose value is kept under a new number
    gives : (number : ℕ) (x : engine.Held) (h : Held) (c : Call) (a : Answer) → held_as x ≡ Some h → IsKept x number old.places after.places
        → Goes true old.store xs c a after.store (xs ++ h ∷ []) → SameDisk old after → HostLink e m new
    gives number x h c a is_as kept goes same = by-call e m new is xs (xs ++ h ∷ []) is.is (numbers.placed number (length xs) place) c a goes
        (numbers.kept number x h old.places after.places xs place is_as kept is.numbers) same areas silent

    -- a call of a list that gives nothing
    gives-none : (c : Call) (a : Answer) → ((n : ℕ) → named after.places n ≡ named old.places n)
        → Goes true old.store xs c a after.store (xs ++ held.Nothing ∷ []) → SameDisk old after → HostLink e m new
    gives-none c a names goes same =
        by-call e m new is xs (xs ++ held.Nothing ∷ []) is.is place c a goes
        (numbers.pushed after.places xs place held.Nothing (numbers.same-numbers old.places after.places xs place names is.numbers)) same areas silent

    -- a call of a list that spends the value of a number
    spends : (n : ℕ) (y : Held) (c : Call) (a : Answer) → held_as (named old.places n) ≡ Some y → IsTaken n old.places after.places
        → Goes true old.store xs c a after.store (slice_set xs (place n) held.Nothing ++ held.Nothing ∷ []) → SameDisk old after → HostLink e m new
    spends n y c a some taken goes same =
        let ys = slice_set xs (place n) held.Nothing in
        by-call e m new is xs (ys ++ held.Nothing ∷ []) is.is place c a goes
        (numbers.pushed after.places ys place held.Nothing (numbers.taken n old.places after.places xs place y held.Nothing taken.names some is.numbers)) same
        areas silent

    -- ---- begin

    pub begins : (said : Code) (info : Info) → WhileSettled old said after (TakesTransaction old said info after) → HostLink e m new
    begins said info done = while-settled said _ done (λ settled does. by-way does)
      where
        by-answer : (o : Result TxnValue BeginFault) → (after.state ≡ old.state) → (after.before ≡ old.before) → stores.Begins old.store o after.store
            → TellsBegin o old.places said info after.places → HostLink e m new
        by-answer (Ok txn) state before begins tells =
            gives info.a (Transaction txn) (held.Transaction txn) call.Begin (answer.Begin (Ok tt)) refl tells.2
            (begin-goes true old.store after.store xs (Ok txn) begins)
            (record { areas = ap (λ (d : DiskState). d.areas) (begin-disk old.store after.store (Ok txn) begins); state = state; before = before })
        by-answer (Err why) state before begins tells =
            gives-none call.Begin (answer.Begin (Err why)) tells.1.names (begin-goes true old.store after.store xs (Err why) begins)
            (record { areas = ap (λ (d : DiskState). d.areas) (begin-disk old.store after.store (Err why) begins); state = state; before = before })

        by-way : TakesTransaction old said info after → HostLink e m new
        by-way (inl out) = same-held out.1.1 out.1.2.names
        by-way (inr takes) = by-answer takes.2.0 takes.0 takes.1 takes.2.1 takes.2.2

    -- ---- put and delete

    -- a transaction whose writes alone are others
    rewrites : (n : ℕ) (t x : TxnValue) (ws : List (KeyWrite Value)) → transaction_in (named old.places n) ≡ Some t → x ≡ record t { writes = ws }
        → ((k : ℕ) → named after.places k ≡ (if k == n then Transaction x else named old.places k)) → KeepsStore old after
        → HostLink e m new
    rewrites n t x ws some same names keeps =
        let i : ℕ = place n in
        let named_is : held_as (named old.places n) ≡ Some (held.Transaction t) = numbers.as-transaction (named old.places n) t some in
        let here : slice_get xs i ≡ Some (held.Transaction t) = is.numbers.same n (held.Transaction t) named_is in
        let w : World = worlds.put m.at.world i (Running t.snapshot ws) in
        let y : TxnValue = record t { writes = ws } in
        let world : IsWorld true old.store (slice_set xs i (held.Transaction y)) w = record {
          stands = is.is.world.stands;
          layout = is.is.world.layout;
          names = is.is.world.names;
          places = rewritten-places (commits_of old.store) m.at.world.machine.published xs m.at.world.places i t ws here is.is.world.places;
          views = reads-set true old.store xs m.at.world.places i (held.Transaction y) (Running t.snapshot ws) tt is.is.world.views;
        } in
        by-world e m new is (slice_set xs i (held.Transaction x)) place w refl
        (subst (λ (z : TxnValue). IsWorld true old.store (slice_set xs i (held.Transaction z)) w) (sym same) world)
        (numbers.rewritten n (Transaction x) (held.Transaction t) (held.Transaction x) old.places after.places xs place refl named_is names is.numbers) keeps
        areas silent

    -- what a write leaves of a transaction
    abbrev pub LeavesWrites : (TxnValue → Result (Unit {0}) TxnFault → TxnValue → Type 0) → Type 0
    LeavesWrites Does = (t x : TxnValue) (o : Result (Unit {0}) TxnFault) → Does t o x → (ws : List (KeyWrite Value)) × (x ≡ record t { writes = ws })

    pub puts-leave : (key : Key) (bytes : List ℕ) → LeavesWrites (Puts key bytes)
    puts-leave key bytes t x (Ok u) does = (_, does.2)
    puts-leave key bytes t x (Err why) does = (t.writes, does.0)

    pub deletes-leave : (key : Key) → LeavesWrites (Deletes key)
    deletes-leave key t x (Ok u) does = (_, does.1)
    deletes-leave key t x (Err why) does = (t.writes, does.0)

    pub writes : (Does : TxnValue → Result (Unit {0}) TxnFault → TxnValue → Type 0) (n : ℕ) (said : Code) → LeavesWrites Does → Writes n Does old said after
        → HostLink e m new
    writes Does n said leaves done = of-number (transaction_under old n) said _ done (λ t some does.
        let written = does.1.1 in
        let left = leaves written.before written.after does.1.0 written.does in
        rewrites n written.before written.after left.0 written.named_is left.1 written.names does.0)

    -- ---- abort

    aborted : (n : ℕ) (t : TxnValue) (mid : Places) → transaction_in (named old.places n) ≡ Some t → IsTaken n old.places mid
        → AreTxnWrites t.state t.snapshot t.writes → after.places ≡ mid → after.state ≡ old.state → after.before ≡ old.before
        → stores.Aborts old.store t after.store → HostLink e m new
    aborted n t mid some taken are places state before aborts =
        let named_is = numbers.as-transaction (named old.places n) t some in
        spends n (held.Transaction t) (call.Abort (place n)) answer.Abort named_is (subst (λ (p : Places). IsTaken n old.places p) (sym places) taken)
        (abort-goes true old.store after.store xs (place n) t (is.numbers.same n (held.Transaction t) named_is) are aborts)
        (record { areas = ap (λ (d : DiskState). d.areas) (abort-disk old.store after.store t aborts); state = state; before = before })

    pub aborts : (n : ℕ) (said : Code) → AbortsEngine n old said after → HostLink e m new
    aborts n said done = of-number (transaction_under old n) said _ done (λ t some does.
        let taken = does.1 in
        aborted n t taken.0 some taken.1 taken.2.0 taken.2.1.0 taken.2.1.1 taken.2.1.2 taken.2.2)

    -- ---- submit

    pub submits : (n label now : ℕ) (said : Code) (info : Info) → label < 2 ^ 64 → SubmitsEngine n label now old said info after → HostLink e m new
    submits n label now said info range done = unless-asked said _ done (λ answered does.
        of-number (transaction_under old n) said _ does (λ t some acts.
        by-failed t acts.0 some acts.1 acts.2.0 acts.2.1 acts.2.2 (is_failed old.state) acts.2.3))
      where
        by-answer : (t : TxnValue) (mid : Places) (o : Result Submitted SubmitFault) → held_as (named old.places n) ≡ Some (held.Transaction t)
            → IsTaken n old.places mid → AreTxnWrites t.state t.snapshot t.writes → SameDisk old after
            → stores.Submits old.store t label now o after.store → TellsSubmit o mid said info after.places → HostLink e m new
        by-answer t mid (Ok (submitted.ReadOnly time)) named_is taken are same subs tells =
            spends n (held.Transaction t) (call.Submit (place n) label now) (answer.Submit (Ok (outcome.ReadOnly time))) named_is
            (subst (λ (p : Places). IsTaken n old.places p) (sym tells.2) taken)
            (submit-goes true old.store after.store xs (place n) t label now (Ok (submitted.ReadOnly time)) (is.numbers.same n (held.Transaction t) named_is)
            are range subs) same
        by-answer t mid (Ok (submitted.Queued ticket)) named_is taken are same subs tells =
            let ys = slice_set xs (place n) held.Nothing in
            let out = numbers.taken n old.places mid xs place (held.Transaction t) held.Nothing taken.names named_is is.numbers in
            by-call e m new is xs (ys ++ held.Ticket ticket ∷ []) is.is (numbers.placed info.a (length ys) place) (call.Submit (place n) label now)
            (answer.Submit (Ok outcome.Queued))
            (submit-goes true old.store after.store xs (place n) t label now (Ok (submitted.Queued ticket)) (is.numbers.same n (held.Transaction t) named_is)
            are range subs)
            (numbers.kept info.a (Ticket ticket) (held.Ticket ticket) mid after.places ys place refl tells.1 out) same areas silent
        by-answer t mid (Err why) named_is taken are same subs tells =
            spends n (held.Transaction t) (call.Submit (place n) label now) (answer.Submit (Err why)) named_is
            (subst (λ (p : Places). IsTaken n old.places p) (sym tells.1) taken)
            (submit-goes true old.store after.store xs (place n) t label now (Err why) (is.numbers.same n (held.Transaction t) named_is) are range subs) same

        by-failed : (t : TxnValue) (mid : Places) → transaction_in (named old.places n) ≡ Some t → IsTaken n old.places mid
            → AreTxnWrites t.state t.snapshot t.writes → after.state ≡ old.state → after.before ≡ old.before → (b : Bool)
            → MatchBool b ((said ≡ code.Failed) × (after.places ≡ mid) × stores.Aborts old.store t after.store)
            ((o : Result Submitted SubmitFault) × stores.Submits old.store t label now o after.store × TellsSubmit o mid said info after.places)
            → HostLink e m new
        by-failed t mid some taken are state before true gives_up = aborted n t mid some taken are gives_up.1 state before gives_up.2
        by-failed t mid some taken are state before false acts =
            by-answer t mid acts.0 (numbers.as-transaction (named old.places n) t some) taken are
            (record {
              areas = ap (λ (d : DiskState). d.areas)
                  (submit-disk old.store after.store t label now acts.0 acts.1);
              state = state;
              before = before;
            }) acts.1 acts.2

    -- ---- tickets and views that are given up

    pub gives-up : (n : ℕ) (said : Code) → GivesUp n old said after → HostLink e m new
    gives-up n said done = of-number (ticket_under old n) said _ done (λ t some does.
        let named_is = numbers.as-ticket (named old.places n) t some in
        let goes = give_up-goes true old.store xs (place n) t (is.numbers.same n (held.Ticket t) named_is) in
        spends n (held.Ticket t) (call.GiveUp (place n)) answer.GiveUp named_is does.2
        (subst (λ (v : StoreValue). Goes true old.store xs (call.GiveUp (place n)) answer.GiveUp v (slice_set xs (place n) held.Nothing ++ held.Nothing ∷ []))
        (sym does.1.0) goes) (keeps-disk does.1))

    pub ends : (n : ℕ) (said : Code) → EndsView n old said after → HostLink e m new
    ends n said done = by-last ((n == last_number old.places) && is_failed old.state) done
      where
        by-view : (o : Option ViewValue) → view_in (named old.places n) ≡ o
            → MatchOption o ((said ≡ code.Unknown) × (after ≡ old)) (λ _. (said ≡ code.Ok) × KeepsStore old after × IsTaken n old.places after.places)
            → HostLink e m new
        by-view None none refused = stays e m new is refused.1 areas silent
        by-view (Some view) some does =
            let named_is = numbers.as-view (named old.places n) view some in
            spends n (held.View view) (call.End (place n)) answer.End named_is does.2
            (end-goes true old.store after.store xs (place n) view (is.numbers.same n (held.View view) named_is) does.1.0) (keeps-disk does.1)

        by-last : (b : Bool) → MatchBool b ((said ≡ code.Ok) × (after ≡ old))
            (MatchOption (view_in (named old.places n)) ((said ≡ code.Unknown) × (after ≡ old))
            (λ _. (said ≡ code.Ok) × KeepsStore old after × IsTaken n old.places after.places))
            → HostLink e m new
        by-last true nothing = stays e m new is nothing.1 areas silent
        by-last false does = by-view (view_in (named old.places n)) refl does

    pub views : (said : Code) (info : Info) → GivesView old said info after → HostLink e m new
    views said info done = unless-asked said _ done (λ answered does. by-failed (is_failed old.state) does)
      where
        by-way : TakesView old said info after → HostLink e m new
        by-way (inl out) = same-held out.1.1 out.1.2.names
        by-way (inr (inl lacks)) = same-held lacks.1 lacks.2.names
        by-way (inr (inr takes)) =
            let view = takes.2.0 in
            let goes = view-goes true old.store xs (Ok view) takes.2.1 in
            gives info.a (View view) (held.View view) call.View (answer.View (Ok tt)) refl takes.2.2
            (subst (λ (v : StoreValue). Goes true old.store xs call.View (answer.View (Ok tt)) v (xs ++ held.View view ∷ [])) (sym takes.1.0) goes)
            (keeps-disk takes.1)

        by-failed : (b : Bool) → MatchBool b ((said ≡ code.Ok) × (after ≡ old) × (info.a ≡ last_number old.places)) (TakesView old said info after)
            → HostLink e m new
        by-failed true nothing = stays e m new is nothing.1 areas silent
        by-failed false takes = by-way takes

    -- ---- jobs that begin

    starts : (c : Call) (a : Result (Unit {0}) StartFault → Answer) (Starts : StoreValue → Result (Unit {0}) StartFault → StoreValue → Type 0) (said : Code)
        (info : Info)
        → ((v v' : StoreValue) (r : Result (Unit {0}) StartFault) → Starts v r v'
        → (disk_of v' ≡ disk_of v) × Goes true v xs c (a r) v' (xs ++ held.Nothing ∷ []))
        → StartsEngine Starts old said info after → HostLink e m new
    starts c a Starts said info goes done = while-settled said _ done (λ settled does.
        let did = goes old.store after.store does.1.0 does.1.1 in
        gives-none c (a does.1.0) (λ n. ap (λ (p : Places). named p n) does.0.0) did.1
        (record { areas = ap (λ (d : DiskState). d.areas) did.0; state = does.0.1; before = does.0.2 }))

    pub archives : (upto : ℕ) (said : Code) (info : Info) → StartsEngine (λ v r v'. StartsArchive v upto r v') old said info after → HostLink e m new
    archives upto said info done = starts (call.Archive upto) (λ r. answer.Archive r) (λ v r v'. StartsArchive v upto r v') said info
        (λ v v' r s. (archive-disk v v' upto r s, start-goes true v v' xs upto r s)) done

    pub reclaims : (said : Code) (info : Info) → StartsEngine StartsReclaim old said info after → HostLink e m new
    reclaims said info done = starts call.Reclaim (λ r. answer.Reclaim r) StartsReclaim said info
        (λ v v' r s. (reclaim-disk v v' r s, reclaim-goes true v v' xs r s)) done

    pub raises : (scope : Option ℕ) (time : ℕ) (said : Code) (info : Info) → StartsEngine (λ v r v'. StartsFloor v scope time r v') old said info after
        → HostLink e m new
    raises scope time said info done = starts (call.Floor scope time) (λ r. answer.Floor r) (λ v r v'. StartsFloor v scope time r v') said info
        (λ v v' r s. (floor-disk v v' scope time r s, floor-goes true v v' xs scope time r s)) done

    pub grows : (said : Code) (info : Info) → StartsEngine StartsGrowth old said info after → HostLink e m new
    grows said info done = starts call.Grow (λ r. answer.Grow r) StartsGrowth said info (λ v v' r s. (grow-disk v v' r s, grow-goes true v v' xs r s)) done
