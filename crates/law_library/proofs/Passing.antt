-- What a call leaves of a view that a number names.
use Rattle.std.proofs.Common.{◌≡◌, ◌≢◌, ◌==◌, ◌&&◌, ◌⊎◌, ℕ, Bool, true, false, Option, Some, None, Result, Ok, Err, MatchBool, MatchOption, refl, sym, ◌∙◌}
use Rattle.std.proofs.Common.{ap, subst, inl, inr}
use Rattle.disk.specs.Areas.{AreSound}
use Rattle.history.specs.Histories.{History}
use Rattle.history.specs.Machine.{Machine}
use Rattle.law_image.specs.Values.{Value}
use Rattle.snapshot.specs.Txn.{TxnValue}
use Rattle.snapshot.specs.declared.txn.TxnFault.{TxnFault}
use Rattle.group.specs.Tickets.{TicketValue}
use Rattle.group.specs.declared.answers.BeginFault.{BeginFault}
use Rattle.group.specs.declared.answers.PumpFault.{PumpFault}
use Rattle.group.specs.declared.answers.Redeemed.{Redeemed}
use Rattle.group.specs.declared.answers.Redeemed.TheVariants as redeemed
use Rattle.group.specs.declared.answers.Submitted.{Submitted}
use Rattle.group.specs.declared.answers.Submitted.TheVariants as submitted
use Rattle.group.specs.declared.answers.SubmitFault.{SubmitFault}
use Rattle.timequery.specs.View.{ViewValue}
use Rattle.store.specs.declared.job.StartFault.{StartFault}
use Rattle.any_store.specs.Calls as stores
use Rattle.any_store.specs.Jobs.{StartsArchive, StartsReclaim, StartsFloor, StartsGrowth, PumpsJob}
use Rattle.any_store.specs.Places.{log_area, job_area}
use Rattle.any_store.specs.Values.{StoreValue, disk_of}
use Rattle.any_store.specs.declared.steps.Did.{Did}
use Rattle.any_store.specs.declared.steps.JobDid.{JobDid}
use Rattle.law_any_store.specs.Standing.{Stands, ViewReads, GoesOn}
use Rattle.law_any_store.proofs.Views.{view-goes-on, begin-goes, abort-goes, submit-goes, redeem-goes, pump-goes, job-pump-goes, archive-start-goes}
use Rattle.law_any_store.proofs.Views.{reclaim-start-goes, floor-start-goes, grow-start-goes}
use Rattle.c_engine.specs.Engines.{WhileSettled, stopped_by, UnlessAsked, asks, is_failed, OfNumber, KeepsStore, TakesTransaction, TellsBegin, Writes}
use Rattle.c_engine.specs.Engines.{BeginsEngine, SubmitsEngine, TellsSubmit, AbortsEngine, RedeemsEngine, TellsRedeemed, GivesUp}
use Rattle.c_engine.specs.Engines.{GivesView, TakesView, EndsView, StartsEngine, PumpsEngine, PumpsJobOf, AfterStep, HasCalled, step_in}
use Rattle.c_engine.specs.Held.{named, transaction_in, ticket_in, view_in, transaction_under, ticket_under, last_number, Names, IsKept, IsTaken}
use Rattle.c_engine.specs.Steps.{of_group, of_job, told_step}
use Rattle.c_engine.specs.Writes.{Puts, Deletes}
use Rattle.c_engine.specs.declared.code.Code.{Code}
use Rattle.c_engine.specs.declared.code.Code.TheVariants as code
use Rattle.c_engine.specs.declared.code.Info.{Info}
use Rattle.c_engine.specs.declared.engine.Engine.{Engine}
use Rattle.c_engine.specs.declared.engine.EngineState.{EngineState}
use Rattle.c_engine.specs.declared.engine.EngineState.TheVariants.{Settled, Asks, Failed}
use Rattle.c_engine.specs.declared.places.Held as engine
use Rattle.c_engine.specs.declared.places.Held.TheVariants.{Nothing, Transaction, Ticket, View}
use Rattle.c_engine.specs.declared.places.Places.{Places}
use Rattle.law_library.specs.Calls.{LibraryCall, Reply, Exports}
use Rattle.law_library.specs.Calls as library
use Rattle.law_library.specs.Hosts.{Calls}
use Rattle.law_library.specs.Answers.{LeavesView}
use Rattle.law_library.proofs.Numbers.{named-other}

-- ---- names

-- another number is given or taken
name-stays : (n k : ℕ) (x : engine.Held) (old new : Places) (view : ViewValue) → Names k x old new → n ≢ k → view_in (named old n) ≡ Some view
    → view_in (named new n) ≡ Some view
name-stays n k x old new view names other is = ap view_in (named-other k n x old new names other) ∙ is

-- a number that names no view is another
other-name : (n k : ℕ) (places : Places) (view : ViewValue) → view_in (named places k) ≡ None → view_in (named places n) ≡ Some view → n ≢ k
other-name n k places view none is same =
    let both : None ≡ Some view = sym none ∙ ap (λ (i : ℕ). view_in (named places i)) (sym same) ∙ is in absurd cc

no-transaction : (x : engine.Held) (t : TxnValue) → transaction_in x ≡ Some t → view_in x ≡ None
no-transaction Nothing t is = refl
no-transaction (Transaction u) t is = refl
no-transaction (Ticket u) t is = refl
no-transaction (View u) t is = absurd cc

no-ticket : (x : engine.Held) (t : TicketValue) → ticket_in x ≡ Some t → view_in x ≡ None
no-ticket Nothing t is = refl
no-ticket (Transaction u) t is = refl
no-ticket (Ticket u) t is = refl
no-ticket (View u) t is = absurd cc

-- a value is put under a number that named nothing
kept-name : (n k : ℕ) (x : engine.Held) (old new : Places) (view : ViewValue) → IsKept x k old new → view_in (named old n) ≡ Some view
    → view_in (named new n) ≡ Some view
kept-name n k x old new view kept is = name-stays n k x old new view kept.names (other-name n k old view (ap view_in kept.free) is) is

-- ---- a call

-- The number names the view still, and what it reads is there.
pub record Passes (old new : Engine) (n : ℕ) (view : ViewValue) : Type 0 where
  pub names : view_in (named new.places n) ≡ Some view
  pub reads : (h : History Value) (floors : ℕ → ℕ) → ViewReads true old.store view h floors → ViewReads true new.store view h floors

module _ (old after : Engine) (n : ℕ) (view : ViewValue) (is : view_in (named old.places n) ≡ Some view) where
  pub nothing : after ≡ old → Passes old after n view
  nothing same = subst (λ (e : Engine). Passes old e n view) (sym same) (record { names = is; reads = λ h floors reads. reads })

  while-settled : (said : Code) (Does : Type 0) → WhileSettled old said after Does → (old.state ≡ Settled → Does → Passes old after n view)
      → Passes old after n view
  while-settled said Does done act = by-state old.state refl done
    where
      by-state : (s : EngineState) → old.state ≡ s → MatchOption (stopped_by s) Does (λ why. (said ≡ why) × (after ≡ old)) → Passes old after n view
      by-state Settled settled does = act settled does
      by-state (Asks step) asking refused = nothing refused.1
      by-state Failed failed refused = nothing refused.1

  unless-asked : (said : Code) (Does : Type 0) → UnlessAsked old said after Does → (Does → Passes old after n view) → Passes old after n view
  unless-asked said Does done act = by-asked (asks old.state) done
    where
      by-asked : (b : Bool) → MatchBool b ((said ≡ code.Pending) × (after ≡ old)) Does → Passes old after n view
      by-asked true refused = nothing refused.1
      by-asked false does = act does

  of-number : {T : Type 0} (found : Option T) (said : Code) (Does : T → Type 0) → OfNumber found old said after Does
      → ((x : T) → found ≡ Some x → Does x → Passes old after n view) → Passes old after n view
  of-number found said Does done act = by-found found refl done
    where
      by-found : (o : Option _) → found ≡ o → MatchOption o ((said ≡ code.Unknown) × (after ≡ old)) Does → Passes old after n view
      by-found None none refused = nothing refused.1
      by-found (Some x) some does = act x some does

  same-store : after.store ≡ old.store → (h : History Value) (floors : ℕ → ℕ) → ViewReads true old.store view h floors
      → ViewReads true after.store view h floors
  same-store same h floors reads = subst (λ (v : StoreValue). ViewReads true v view h floors) (sym same) reads

  goes-on : GoesOn true old.store after.store → (h : History Value) (floors : ℕ → ℕ) → ViewReads true old.store view h floors
      → ViewReads true after.store view h floors
  goes-on goes h floors reads = view-goes-on true old.store after.store view h floors reads goes

  -- ---- transactions

  begins : (said : Code) (info : Info) → BeginsEngine old said info after → Passes old after n view
  begins said info done = while-settled said _ done (λ settled does. by-way settled does)
    where
      by-answer : (o : Result TxnValue BeginFault) → TellsBegin o old.places said info after.places → view_in (named after.places n) ≡ Some view
      by-answer (Ok txn) tells = kept-name n info.a (Transaction txn) old.places after.places view tells.2 is
      by-answer (Err why) tells = ap view_in (tells.1.names n) ∙ is

      by-way : old.state ≡ Settled → TakesTransaction old said info after → Passes old after n view
      by-way settled (inl out) = record { names = ap view_in (out.1.2.names n) ∙ is; reads = same-store out.1.1.0 }
      by-way settled (inr takes) = record {
        names = by-answer takes.2.0 takes.2.2;
        reads = goes-on (begin-goes true old.store after.store takes.2.0 takes.2.1);
      }

  writes : (Does : TxnValue → Result (Unit {0}) TxnFault → TxnValue → Type 0) (k : ℕ) (said : Code) → Writes k Does old said after → Passes old after n view
  writes Does k said done = of-number (transaction_under old k) said _ done (λ t some does.
      let written = does.1.1 in
      record {
        names = name-stays n k (Transaction written.after) old.places after.places view written.names
            (other-name n k old.places view (no-transaction (named old.places k) t some) is) is;
        reads = same-store does.0.0;
      })

  -- a transaction is taken out
  taken-out : (k : ℕ) (t : TxnValue) (mid : Places) → transaction_in (named old.places k) ≡ Some t → IsTaken k old.places mid
      → view_in (named mid n) ≡ Some view
  taken-out k t mid some taken =
      name-stays n k Nothing old.places mid view taken.names (other-name n k old.places view (no-transaction (named old.places k) t some) is) is

  same-places : (mid : Places) → view_in (named mid n) ≡ Some view → after.places ≡ mid → view_in (named after.places n) ≡ Some view
  same-places mid named_is same = ap (λ (p : Places). view_in (named p n)) same ∙ named_is

  submits : (k label now : ℕ) (said : Code) (info : Info) → SubmitsEngine k label now old said info after → Passes old after n view
  submits k label now said info done = unless-asked said _ done (λ does. of-number (transaction_under old k) said _ does (λ t some acts.
      by-failed t acts.0 (taken-out k t acts.0 some acts.1) acts.2.1 (is_failed old.state) acts.2.3))
    where
      by-answer : (mid : Places) → view_in (named mid n) ≡ Some view → (o : Result Submitted SubmitFault) → TellsSubmit o mid said info after.places
          → view_in (named after.places n) ≡ Some view
      by-answer mid named_is (Ok (submitted.ReadOnly time)) tells = same-places mid named_is tells.2
      by-answer mid named_is (Ok (submitted.Queued ticket)) tells = kept-name n info.a (Ticket ticket) mid after.places view tells.1 named_is
      by-answer mid named_is (Err why) tells = same-places mid named_is tells.1

      by-failed : (t : TxnValue) (mid : Places) → view_in (named mid n) ≡ Some view → after.state ≡ old.state → (b : Bool)
          → MatchBool b ((said ≡ code.Failed) × (after.places ≡ mid) × stores.Aborts old.store t after.store)
          ((o : Result Submitted SubmitFault) × stores.Submits old.store t label now o after.store × TellsSubmit o mid said info after.places)
          → Passes old after n view
      by-failed t mid named_is state true gives_up = record {
        names = same-places mid named_is gives_up.1;
        reads = goes-on (abort-goes true old.store after.store t gives_up.2);
      }
      by-failed t mid named_is state false acts = record {
        names = by-answer mid named_is acts.0 acts.2;
        reads = goes-on (submit-goes true old.store after.store t label now acts.0 acts.1);
      }

  aborts : (k : ℕ) (said : Code) → AbortsEngine k old said after → Passes old after n view
  aborts k said done = of-number (transaction_under old k) said _ done (λ t some does.
      let taken = does.1 in
      record {
        names = same-places taken.0 (taken-out k t taken.0 some taken.1) taken.2.1.0;
        reads = goes-on (abort-goes true old.store after.store t taken.2.2);
      })

  -- ---- tickets and views

  -- a ticket is taken out
  ticket-out : (k : ℕ) (t : TicketValue) (mid : Places) → ticket_in (named old.places k) ≡ Some t → IsTaken k old.places mid
      → view_in (named mid n) ≡ Some view
  ticket-out k t mid some taken =
      name-stays n k Nothing old.places mid view taken.names (other-name n k old.places view (no-ticket (named old.places k) t some) is) is

  redeems : (k : ℕ) (said : Code) (info : Info) → RedeemsEngine k old said info after → Passes old after n view
  redeems k said info done = unless-asked said _ done (λ does. of-number (ticket_under old k) said _ does (λ t some acts.
      record {
        names = by-answer acts.0 (ticket-out k t acts.0 some acts.1) acts.2.2.0 acts.2.2.2;
        reads = goes-on (redeem-goes true old.store after.store t acts.2.2.0 acts.2.2.1);
      }))
    where
      by-failed : (mid : Places) → view_in (named mid n) ≡ Some view → (back : TicketValue) → (b : Bool)
          → MatchBool b ((said ≡ code.InDoubt) × (after.places ≡ mid)) ((said ≡ code.Waiting) × IsKept (Ticket back) info.a mid after.places)
          → view_in (named after.places n) ≡ Some view
      by-failed mid named_is back true doubt = same-places mid named_is doubt.1
      by-failed mid named_is back false kept = kept-name n info.a (Ticket back) mid after.places view kept.1 named_is

      by-answer : (mid : Places) → view_in (named mid n) ≡ Some view → (o : Redeemed)
          → TellsRedeemed o (record old { places = mid }) said info after.places → view_in (named after.places n) ≡ Some view
      by-answer mid named_is (redeemed.Done time) tells = same-places mid named_is tells.0
      by-answer mid named_is (redeemed.Waiting back) tells = by-failed mid named_is back (is_failed old.state) tells
      by-answer mid named_is redeemed.InDoubt tells = same-places mid named_is tells.0
      by-answer mid named_is redeemed.Stranger tells = same-places mid named_is tells.0

  gives-up : (k : ℕ) (said : Code) → GivesUp k old said after → Passes old after n view
  gives-up k said done = of-number (ticket_under old k) said _ done (λ t some does.
      record { names = ticket-out k t after.places some does.2; reads = same-store does.1.0 })

  views : (said : Code) (info : Info) → GivesView old said info after → Passes old after n view
  views said info done = unless-asked said _ done (λ does. by-failed (is_failed old.state) does)
    where
      by-way : TakesView old said info after → Passes old after n view
      by-way (inl out) = record { names = ap view_in (out.1.2.names n) ∙ is; reads = same-store out.1.1.0 }
      by-way (inr (inl lacks)) = record { names = ap view_in (lacks.2.names n) ∙ is; reads = same-store lacks.1.0 }
      by-way (inr (inr takes)) = record {
        names = kept-name n info.a (View takes.2.0) old.places after.places view takes.2.2 is;
        reads = same-store takes.1.0;
      }

      by-failed : (b : Bool) → MatchBool b ((said ≡ code.Ok) × (after ≡ old) × (info.a ≡ last_number old.places)) (TakesView old said info after)
          → Passes old after n view
      by-failed true none = nothing none.1
      by-failed false takes = by-way takes

  ends : (k : ℕ) (said : Code) → k ≢ n → EndsView k old said after → Passes old after n view
  ends k said other done = by-last ((k == last_number old.places) && is_failed old.state) done
    where
      by-view : (o : Option ViewValue)
          → MatchOption o ((said ≡ code.Unknown) × (after ≡ old)) (λ _. (said ≡ code.Ok) × KeepsStore old after × IsTaken k old.places after.places)
          → Passes old after n view
      by-view None refused = nothing refused.1
      by-view (Some ended) does = record {
        names = name-stays n k Nothing old.places after.places view (does.2).names (λ same. other (sym same)) is;
        reads = same-store does.1.0;
      }

      by-last : (b : Bool) → MatchBool b ((said ≡ code.Ok) × (after ≡ old))
          (MatchOption (view_in (named old.places k)) ((said ≡ code.Unknown) × (after ≡ old))
          (λ _. (said ≡ code.Ok) × KeepsStore old after × IsTaken k old.places after.places))
          → Passes old after n view
      by-last true none = nothing none.1
      by-last false does = by-view (view_in (named old.places k)) does

  -- ---- steps and jobs

  module _ (m : Machine Value) (stands : Stands true old.store m) where
    pumps : (said : Code) (info : Info) → PumpsEngine old said info after → Passes old after n view
    pumps said info done = while-settled said _ done (λ settled does. by-way settled does)
      where
        by-way : old.state ≡ Settled → ((said ≡ code.NoMemory) × (after ≡ old))
            ⊎ ((o : Result Did PumpFault) × stores.Pumps true old.store o after.store × AreSound (disk_of after.store).areas × (after.places ≡ old.places)
            × AfterStep (of_group (log_area old.store) o) old said info after) → Passes old after n view
        by-way settled (inl none) = nothing none.1
        by-way settled (inr takes) = record {
          names = same-places old.places is takes.3;
          reads = goes-on (pump-goes true old.store after.store takes.0 m stands takes.1);
        }

    jobs : (said : Code) (info : Info) → PumpsJobOf old said info after → Passes old after n view
    jobs said info done = while-settled said _ done (λ settled does. by-way settled does)
      where
        by-way : old.state ≡ Settled → ((said ≡ code.NoMemory) × (after ≡ old))
            ⊎ ((o : Result JobDid PumpFault) × PumpsJob true old.store o after.store × AreSound (disk_of after.store).areas × (after.places ≡ old.places)
            × AfterStep (of_job (job_area old.store) o) old said info after) → Passes old after n view
        by-way settled (inl none) = nothing none.1
        by-way settled (inr takes) = record {
          names = same-places old.places is takes.3;
          reads = goes-on (job-pump-goes true old.store after.store takes.0 m stands takes.1);
        }

    starts : (Starts : StoreValue → Result (Unit {0}) StartFault → StoreValue → Type 0) (said : Code) (info : Info)
        → ((r : Result (Unit {0}) StartFault) → Starts old.store r after.store → GoesOn true old.store after.store)
        → StartsEngine Starts old said info after → Passes old after n view
    starts Starts said info goes done = while-settled said _ done (λ settled does.
        record { names = same-places old.places is does.0.0; reads = goes-on (goes does.1.0 does.1.1) })

    -- ---- each call

    pub passes : (c : LibraryCall) (r : Reply) → LeavesView n (Calls c r) → Exports c r old after → Passes old after n view
    passes library.Reads r leaves does = nothing does
    passes library.Begin r leaves does = begins r.said r.info does
    passes (library.Put k key bytes) r leaves does = writes (Puts key bytes) k r.said does
    passes (library.Delete k key) r leaves does = writes (Deletes key) k r.said does
    passes (library.Submit k label now) r leaves does = submits k label now r.said r.info does.1
    passes (library.Abort k) r leaves does = aborts k r.said does
    passes library.Pump r leaves does = pumps r.said r.info does
    passes (library.Redeem k) r leaves does = redeems k r.said r.info does
    passes (library.GiveUp k) r leaves does = gives-up k r.said does
    passes library.View r leaves does = views r.said r.info does
    passes (library.End k) r leaves does = ends k r.said leaves does
    passes (library.Archive upto) r leaves does =
        starts (λ v o v'. StartsArchive v upto o v') r.said r.info (λ o s. archive-start-goes true old.store after.store upto o m stands s) does
    passes library.Reclaim r leaves does =
        starts StartsReclaim r.said r.info (λ o s. reclaim-start-goes true old.store after.store o m stands s) does
    passes (library.Floor None time) r leaves does =
        starts (λ v o v'. StartsFloor v None time o v') r.said r.info (λ o s. floor-start-goes true old.store after.store None time o m stands s) does
    passes (library.Floor (Some relation) time) r leaves does = starts (λ v o v'. StartsFloor v (Some relation) time o v') r.said r.info
        (λ o s. floor-start-goes true old.store after.store (Some relation) time o m stands s) does
    passes library.Grow r leaves does =
        starts StartsGrowth r.said r.info (λ o s. grow-start-goes true old.store after.store o m stands s) does
    passes library.JobPump r leaves does = jobs r.said r.info does

  -- the host's device call is made, or refused
  pub has-called : (made : Bool) (said : Code) (info : Info) → HasCalled made old said info after → Passes old after n view
  has-called made said info done = by-state old.state refl done
    where
      by-state : (s : EngineState) → old.state ≡ s → MatchOption (step_in s) ((said ≡ code.None) × (after ≡ old)) (λ step. (after.store ≡ old.store)
          × (after.places ≡ old.places)
          × MatchBool made ((said ≡ code.Ok) × (info ≡ told_step step) × (after.state ≡ Settled) × (after.before ≡ None))
          ((said ≡ code.Failed) × (after.state ≡ Failed) × (after.before ≡ old.before))) → Passes old after n view
      by-state Settled same refused = nothing refused.1
      by-state Failed same refused = nothing refused.1
      by-state (Asks step) same does = record { names = same-places old.places is does.1; reads = same-store does.0 }
