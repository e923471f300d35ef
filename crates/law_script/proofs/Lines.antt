-- Lines that speak of no name.
use Rattle.std.proofs.Common.{◌≡◌, ◌≢◌, ℕ, ◌+◌, ◌≤◌, Bool, List, [], ◌∷◌, ◌++◌, length, map, Option, Some, None, Result, Ok, Err, MatchOption, Vec, refl, sym}
use Rattle.std.proofs.Common.{◌∙◌, ap, subst, inl, inr, alloc_error}
use Rattle.std.specs.Prelude.{slice_set}
use Rattle.std.specs.List.{AllByRecursion}
use Rattle.std.specs.declared.alloc.Global.{Global}
use Rattle.history.specs.declared.key.Key.{Key}
use Rattle.history.specs.declared.time.Version.{Version}
use Rattle.group.specs.declared.answers.PumpFault.{PumpFault}
use Rattle.timequery.specs.View.{ViewValue}
use Rattle.timequery.specs.declared.fault.QueryFault.{QueryFault}
use Rattle.timequery.specs.declared.fault.QueryFault.TheVariants as query
use Rattle.script.specs.declared.line.Line.{Line}
use Rattle.script.specs.declared.line.Line.TheVariants as line
use Rattle.session.specs.Session.{State, KeepsNames, StepsGroup, StepsJob, PumpStep, TakesSteps, Flushes, JobStep, Finishes, ArchiveStep, ReclaimStep, GrowStep}
use Rattle.session.specs.Session.{FloorStep, AtStep, ScanStep, BetweenStep, TimesStep}
use Rattle.session.specs.Session as session
use Rattle.session.specs.Texts.{Text}
use Rattle.session.specs.declared.fault.Fault.TheVariants as fault
use Rattle.session.specs.declared.reply.Reply.{Reply}
use Rattle.session.specs.declared.reply.Reply.TheVariants as reply
use Rattle.any_store.specs.declared.steps.Did.{Did}
use Rattle.any_store.specs.declared.steps.Did.TheVariants as did
use Rattle.any_store.specs.declared.steps.JobDid.{JobDid}
use Rattle.any_store.specs.declared.steps.JobDid.TheVariants as job_did
use Rattle.any_store.specs.Values.{StoreValue, disk_of}
use Rattle.any_store.specs.Queries as stores
use Rattle.law_any_store.proofs.Few.{pump-few, start-few, reclaim-few, floor-few, grow-few, pumped-few, at-few, scan_at-few, between-few, times-few}
use Rattle.store.specs.declared.job.StartFault.{StartFault}
use Rattle.run.specs.declared.calls.Call.{Call}
use Rattle.run.specs.declared.calls.Call.TheVariants as call
use Rattle.run.specs.declared.calls.Answer.{Answer}
use Rattle.run.specs.declared.calls.Answer.TheVariants as answer
use Rattle.run.specs.declared.held.Held.{Held}
use Rattle.run.specs.declared.held.Held.TheVariants as held
use Rattle.run.specs.Moments.{Moment, IsAtMoment, with_answer}
use Rattle.run.specs.Promise.{Chain}
use Rattle.run.specs.Runs.{Goes}
use Rattle.run.proofs.Archiving.{start-goes, reclaim-goes, pumped-goes}
use Rattle.run.proofs.FloorCalls.{floor-goes}
use Rattle.run.proofs.GrowCalls.{grow-goes}
use Rattle.run.proofs.Pumping.{pump-goes}
use Rattle.run.proofs.Views.{view-goes, at-goes, scan_at-goes, between-goes, end-goes, times-goes}
use Rattle.run.proofs.Linking.{links}
use Rattle.law_script.specs.ScriptMoments.{ScriptMoment, held_of, moment_of, with_reply}
use Rattle.law_script.specs.Says.{Exchange, Says, LacksView, by_view}
use Rattle.law_script.proofs.Among.{Among, all, wider, through, front-of, viewed, get-end, get-front}
use Rattle.law_script.proofs.Names.{as-state}
use Rattle.law_script.proofs.Leading.{IsScriptMoment, LeadsTo, silent, by-call, by-chain, same-few}

-- the names stand for what they did
kept : (m : ScriptMoment) (new : State) → KeepsNames m.state new → Among (held_of new) (held_of m.state)
kept m new names = as-state new m.state.opened m.state.tickets (held_of m.state) names.0 names.1 (all (held_of m.state))

kept-more : (m : ScriptMoment) (new : State) → KeepsNames m.state new → Among (held_of new) (held_of m.state ++ held.Nothing ∷ [])
kept-more m new names = wider (held_of new) (held_of m.state) (held.Nothing ∷ []) (kept m new names)

-- ---- steps of the queued commits

pumped-silent : (o : Result Did PumpFault) (done : List ℕ) → with_reply (session.pumped o) done ≡ done
pumped-silent (Ok step) done = refl
pumped-silent (Err why) done = refl

pub pump-line : (tells : Bool) (m : ScriptMoment) → IsScriptMoment tells m → (r : Reply) (new : State) → PumpStep tells m.state.store r new.store
    → KeepsNames m.state new → LeadsTo tells line.Pump r m new
pump-line tells m is r new step names =
    by-call tells m is line.Pump r call.Pump (answer.Pump step.0) (step.0, refl, step.2) (silent r _ m.done step.2 (pumped-silent step.0 m.done))
    new.store (held_of m.state ++ held.Nothing
    ∷ []) (pump-goes tells m.state.store new.store (held_of m.state) step.0 step.1.sound step.1.is)
    (pump-few tells m.state.store new.store step.0 step.1.is) new refl (kept-more m new names)

abbrev group_calls : List Did → List Call
group_calls steps = map (λ (step : Did). call.Pump) steps ++ call.Pump ∷ []

abbrev group_answers : List Did → Result Did PumpFault → List Answer
group_answers steps ended = map (λ (step : Did). answer.Pump (Ok step)) steps ++ answer.Pump ended ∷ []

-- steps that are taken in turn
pub record Stepped (tells : Bool) (calls : List Call) (answers : List Answer) (at : Moment) (v : StoreValue) (xs : List Held) : Type 0 where
  pub end : Moment
  pub held : List Held
  pub chain : Chain tells calls answers at end
  pub is : IsAtMoment tells v held end
  pub among : Among xs held
  pub done : end.done ≡ at.done

group-chain : (tells : Bool) (steps : List Did) (v mid v' : StoreValue) (ended : Result Did PumpFault) (xs : List Held) (at : Moment) → IsAtMoment tells v xs at
    → TakesSteps (StepsGroup tells) did.Idle v steps mid → StepsGroup tells mid ended v'
    → Stepped tells (group_calls steps) (group_answers steps ended) at v' xs
group-chain tells [] v mid v' ended xs at is takes last =
    let first : StepsGroup tells v ended v' = subst (λ (s : StoreValue). StepsGroup tells s ended v') takes last in
    let did =
    links tells v v' xs (xs ++ held.Nothing
    ∷ []) call.Pump (answer.Pump ended) at is (pump-goes tells v v' xs ended first.sound first.is) (pump-few tells v v' ended first.is) in
    record {
      end = did.0;
      held = xs ++ held.Nothing ∷ [];
      chain = (did.0, did.1, refl);
      is = did.2;
      among = front-of xs (held.Nothing ∷ []);
      done = did.1.acknowledges;
    }
group-chain tells (step ∷ steps) v mid v' ended xs at is takes last =
    let next : StoreValue = takes.0 in
    let ys : List Held = xs ++ held.Nothing ∷ [] in
    let did =
    links tells v next xs ys call.Pump (answer.Pump (Ok step)) at is (pump-goes tells v next xs (Ok step) takes.1.sound takes.1.is)
    (pump-few tells v next (Ok step) takes.1.is) in
    let rest = group-chain tells steps next mid v' ended ys did.0 did.2 takes.3 last in
    record {
      end = rest.end;
      held = rest.held;
      chain = (did.0, did.1, rest.chain);
      is = rest.is;
      among = through xs ys rest.held (front-of xs (held.Nothing ∷ [])) rest.among;
      done = rest.done ∙ did.1.acknowledges;
    }

-- none of the steps that were taken was the last
none-idle : {S : Type 0} (takes : StoreValue → Result S PumpFault → StoreValue → Type 0) (idle : S) (steps : List S) (v mid : StoreValue)
    → TakesSteps takes idle v steps mid → AllByRecursion (λ (step : S). step ≢ idle) steps
none-idle takes idle [] v mid taken = tt
none-idle takes idle (step ∷ steps) v mid taken = (taken.2, none-idle takes idle steps taken.0 mid taken.3)

pub flush-line : (tells : Bool) (m : ScriptMoment) → IsScriptMoment tells m → (r : Reply) (new : State) → Flushes tells m.state.store r new.store
    → KeepsNames m.state new → LeadsTo tells line.Flush r m new
flush-line tells m is r new f names =
    let xs = held_of m.state in
    let taken = group-chain tells f.steps m.state.store f.mid new.store f.answer xs (moment_of m) is f.before f.last in
    by-chain tells m is line.Flush r (record { calls = group_calls f.steps; answers = group_answers f.steps f.answer })
    (record {
      steps = f.steps;
      ended = f.answer;
      calls = refl;
      answers = refl;
      go_on = none-idle (StepsGroup tells) did.Idle f.steps m.state.store f.mid f.before;
      ends = f.ends;
      reply = f.reply;
    })
    taken.end taken.chain new.store taken.held taken.is (taken.done
    ∙ silent r _ m.done f.reply (pumped-silent f.answer m.done)) new refl (through (held_of new) xs taken.held (kept m new names) taken.among)

-- ---- jobs

started-silent : (o : Result (Unit {0}) StartFault) (done : List ℕ) → with_reply (session.started o) done ≡ done
started-silent (Ok u) done = refl
started-silent (Err why) done = refl

pub archive-line : (tells : Bool) (m : ScriptMoment) → IsScriptMoment tells m → (upto : ℕ) (r : Reply) (new : State)
    → ArchiveStep m.state.store upto r new.store → KeepsNames m.state new → LeadsTo tells (line.Archive upto) r m new
archive-line tells m is upto r new step names =
    by-call tells m is (line.Archive upto) r (call.Archive upto) (answer.Archive step.0) (
      step.0,
      refl,
      step.2,
    ) (silent r _ m.done step.2 (started-silent step.0 m.done))
    new.store (held_of m.state ++ held.Nothing
    ∷ []) (start-goes tells m.state.store new.store (held_of m.state) upto step.0 step.1) (start-few m.state.store new.store upto step.0 step.1) new refl
    (kept-more m new names)

pub reclaim-line : (tells : Bool) (m : ScriptMoment) → IsScriptMoment tells m → (r : Reply) (new : State) → ReclaimStep m.state.store r new.store
    → KeepsNames m.state new → LeadsTo tells line.Reclaim r m new
reclaim-line tells m is r new step names =
    by-call tells m is line.Reclaim r call.Reclaim (answer.Reclaim step.0) (step.0, refl, step.2) (silent r _ m.done step.2 (started-silent step.0 m.done))
    new.store (held_of m.state ++ held.Nothing
    ∷ []) (reclaim-goes tells m.state.store new.store (held_of m.state) step.0 step.1) (reclaim-few m.state.store new.store step.0 step.1) new refl
    (kept-more m new names)

pub floor-line : (tells : Bool) (m : ScriptMoment) → IsScriptMoment tells m → (scope : Option ℕ) (floor : ℕ) (r : Reply) (new : State)
    → FloorStep m.state.store scope floor r new.store → KeepsNames m.state new → LeadsTo tells (line.Floor scope floor) r m new
floor-line tells m is scope floor r new step names =
    by-call tells m is (line.Floor scope floor) r (call.Floor scope floor) (answer.Floor step.0) (
      step.0,
      refl,
      step.2,
    ) (silent r _ m.done step.2 (started-silent step.0 m.done))
    new.store (held_of m.state ++ held.Nothing
    ∷ []) (floor-goes tells m.state.store new.store (held_of m.state) scope floor step.0 step.1)
    (floor-few m.state.store new.store scope floor step.0 step.1) new refl (kept-more m new names)

pub grow-line : (tells : Bool) (m : ScriptMoment) → IsScriptMoment tells m → (r : Reply) (new : State) → GrowStep m.state.store r new.store
    → KeepsNames m.state new → LeadsTo tells line.Grow r m new
grow-line tells m is r new step names =
    by-call tells m is line.Grow r call.Grow (answer.Grow step.0) (step.0, refl, step.2) (silent r _ m.done step.2 (started-silent step.0 m.done))
    new.store (held_of m.state ++ held.Nothing
    ∷ []) (grow-goes tells m.state.store new.store (held_of m.state) step.0 step.1) (grow-few m.state.store new.store step.0 step.1) new refl
    (kept-more m new names)

worked-silent : (o : Result JobDid PumpFault) (done : List ℕ) → with_reply (session.worked o) done ≡ done
worked-silent (Ok step) done = refl
worked-silent (Err why) done = refl

pub job-line : (tells : Bool) (m : ScriptMoment) → IsScriptMoment tells m → (r : Reply) (new : State) → JobStep tells m.state.store r new.store
    → KeepsNames m.state new → LeadsTo tells line.Job r m new
job-line tells m is r new step names =
    by-call tells m is line.Job r call.JobPump (answer.JobPump step.0) (step.0, refl, step.2) (silent r _ m.done step.2 (worked-silent step.0 m.done))
    new.store (held_of m.state ++ held.Nothing
    ∷ []) (pumped-goes tells m.state.store new.store (held_of m.state) step.0 step.1.sound step.1.is)
    (pumped-few tells m.state.store new.store step.0 step.1.is) new refl (kept-more m new names)

abbrev job_calls : List JobDid → List Call
job_calls steps = map (λ (step : JobDid). call.JobPump) steps ++ call.JobPump ∷ []

abbrev job_answers : List JobDid → Result JobDid PumpFault → List Answer
job_answers steps ended = map (λ (step : JobDid). answer.JobPump (Ok step)) steps ++ answer.JobPump ended ∷ []

job-chain : (tells : Bool) (steps : List JobDid) (v mid v' : StoreValue) (ended : Result JobDid PumpFault) (xs : List Held) (at : Moment)
    → IsAtMoment tells v xs at → TakesSteps (StepsJob tells) job_did.Idle v steps mid → StepsJob tells mid ended v'
    → Stepped tells (job_calls steps) (job_answers steps ended) at v' xs
job-chain tells [] v mid v' ended xs at is takes last =
    let first : StepsJob tells v ended v' = subst (λ (s : StoreValue). StepsJob tells s ended v') takes last in
    let did =
    links tells v v' xs (xs ++ held.Nothing
    ∷ []) call.JobPump (answer.JobPump ended) at is (pumped-goes tells v v' xs ended first.sound first.is) (pumped-few tells v v' ended first.is) in
    record {
      end = did.0;
      held = xs ++ held.Nothing ∷ [];
      chain = (did.0, did.1, refl);
      is = did.2;
      among = front-of xs (held.Nothing ∷ []);
      done = did.1.acknowledges;
    }
job-chain tells (step ∷ steps) v mid v' ended xs at is takes last =
    let next : StoreValue = takes.0 in
    let ys : List Held = xs ++ held.Nothing ∷ [] in
    let did =
    links tells v next xs ys call.JobPump (answer.JobPump (Ok step)) at is (pumped-goes tells v next xs (Ok step) takes.1.sound takes.1.is)
    (pumped-few tells v next (Ok step) takes.1.is) in
    let rest = job-chain tells steps next mid v' ended ys did.0 did.2 takes.3 last in
    record {
      end = rest.end;
      held = rest.held;
      chain = (did.0, did.1, rest.chain);
      is = rest.is;
      among = through xs ys rest.held (front-of xs (held.Nothing ∷ [])) rest.among;
      done = rest.done ∙ did.1.acknowledges;
    }

pub finish-line : (tells : Bool) (m : ScriptMoment) → IsScriptMoment tells m → (r : Reply) (new : State) → Finishes tells m.state.store r new.store
    → KeepsNames m.state new → LeadsTo tells line.Finish r m new
finish-line tells m is r new f names =
    let xs = held_of m.state in
    let did = job-chain tells f.steps m.state.store f.mid new.store f.answer xs (moment_of m) is f.before f.last in
    by-chain tells m is line.Finish r (record { calls = job_calls f.steps; answers = job_answers f.steps f.answer })
    (record {
      steps = f.steps;
      ended = f.answer;
      calls = refl;
      answers = refl;
      go_on = none-idle (StepsJob tells) job_did.Idle f.steps m.state.store f.mid f.before;
      ends = f.ends;
      reply = f.reply;
    })
    did.end did.chain new.store did.held did.is (did.done
    ∙ silent r _ m.done f.reply (worked-silent f.answer m.done)) new refl (through (held_of new) xs did.held (kept m new names) did.among)

-- ---- queries

-- there is no memory for a view
lacks-view : (tells : Bool) (m : ScriptMoment) → IsScriptMoment tells m → (l : Line) (r : Reply) (new : State)
    → ((made : Exchange) → LacksView made r → Says m l made r) → r ≡ reply.Refused (fault.Query query.NoMemory) → new.store ≡ m.state.store
    → KeepsNames m.state new
    → LeadsTo tells l r m new
lacks-view tells m is l r new says replied same names =
    by-call tells m is l r call.View (answer.View (Err alloc_error)) (says _ (alloc_error, refl, replied)) (silent r _ m.done replied refl)
    m.state.store (held_of m.state ++ held.Nothing
    ∷ []) (view-goes tells m.state.store (held_of m.state) (Err alloc_error) tt) (same-few m.state.store) new same
    (kept-more m new names)

-- a view is taken, asked and ended
by-a-view : (tells : Bool) (m : ScriptMoment) → IsScriptMoment tells m → (l : Line) (r : Reply) (new : State) (view : ViewValue) (c : Call) (a : Answer)
    → Says m l (by_view (length (held_of m.state)) c a) r → m.done ≡ with_reply r m.done
    → with_answer a m.done ≡ m.done → stores.IsViewOf m.state.store view
    → Goes tells m.state.store (held_of m.state ++ held.View view ∷ []) c a new.store ((held_of m.state ++ held.View view ∷ []) ++ held.Nothing ∷ [])
    → (disk_of new.store).made ≤ (disk_of m.state.store).made + 1 → KeepsNames m.state new → LeadsTo tells l r m new
by-a-view tells m is l r new view c a says acknowledges quiet of goes asked names =
    let v = m.state.store in
    let after = new.store in
    let xs = held_of m.state in
    let n : ℕ = length xs in
    let ys : List Held = xs ++ held.View view ∷ [] in
    let zs : List Held = ys ++ held.Nothing ∷ [] in
    let ws : List Held = slice_set zs n held.Nothing ++ held.Nothing ∷ [] in
    let there = get-front ys n (held.View view) held.Nothing (get-end xs (held.View view)) in
    let few = same-few v in
    let one = links tells v v xs ys call.View (answer.View (Ok tt)) (moment_of m) is (view-goes tells v xs (Ok view) of) few in
    let two = links tells v after ys zs c a one.0 one.2 goes asked in
    let three =
    links tells after after zs ws (call.End n) answer.End two.0 two.2 (end-goes tells after after zs n view there refl) (same-few after) in
    let done_one : one.0.done ≡ m.done = one.1.acknowledges in
    let done_two : two.0.done ≡ m.done = two.1.acknowledges ∙ ap (λ (times : List ℕ). with_answer a times) done_one ∙ quiet in
    by-chain tells m is l r (by_view n c a) says three.0 (one.0, one.1, (two.0, two.1, (three.0, three.1, refl))) after ws three.2 (three.1.acknowledges
    ∙ done_two ∙ acknowledges)
    new refl (through (held_of new) xs ws (kept m new names) (viewed xs (held.View view) held.Nothing held.Nothing held.Nothing))

found-silent : (o : Result (Option (List Text)) QueryFault) (done : List ℕ) → with_reply (session.found o) done ≡ done
found-silent (Ok value) done = refl
found-silent (Err why) done = refl

records-silent : (o : Result (Vec (ℕ × List Text) Global) QueryFault) (done : List ℕ) → with_reply (session.records_found o) done ≡ done
records-silent (Ok value) done = refl
records-silent (Err why) done = refl

rows-silent : (o : Result (Vec (Version (List Text)) Global) QueryFault) (done : List ℕ) → with_reply (session.rows_found o) done ≡ done
rows-silent (Ok value) done = refl
rows-silent (Err why) done = refl

pub at-line : (tells : Bool) (m : ScriptMoment) → IsScriptMoment tells m → (key : Key) (time : ℕ) (r : Reply) (new : State)
    → AtStep tells m.state.store key time r new.store → KeepsNames m.state new → LeadsTo tells (line.At key time) r m new
at-line tells m is key time r new step names = by-taken step.1.0 step.1.1
  where
    xs : List Held
    xs = held_of m.state

    by-taken : (o : Option ViewValue)
        → MatchOption o ((step.0 ≡ Err query.NoMemory) × (new.store ≡ m.state.store)) (λ view. stores.IsViewOf m.state.store view
        × stores.AnswersAtView tells m.state.store view key time step.0 new.store)
        → LeadsTo tells (line.At key time) r m new
    by-taken None lacks = lacks-view tells m is (line.At key time) r new (λ made lack. inl lack) (step.2 ∙ ap session.found lacks.0) lacks.1 names
    by-taken (Some view) asks =
        by-a-view tells m is (line.At key time) r new view (call.At (length xs) key time) (answer.At step.0) (inr (
          step.0,
          (refl, step.2),
        )) (silent r _ m.done step.2 (found-silent step.0 m.done)) refl asks.0
        (at-goes tells m.state.store new.store (xs ++ held.View view
        ∷ []) (length xs) key time view step.0 (get-end xs (held.View view)) asks.1)
        (at-few tells m.state.store new.store view key time step.0 asks.1) names

pub scan-line : (tells : Bool) (m : ScriptMoment) → IsScriptMoment tells m → (relation time : ℕ) (r : Reply) (new : State)
    → ScanStep tells m.state.store relation time r new.store → KeepsNames m.state new → LeadsTo tells (line.Scan relation time) r m new
scan-line tells m is relation time r new step names = by-taken step.1.0 step.1.1
  where
    xs : List Held
    xs = held_of m.state

    by-taken : (o : Option ViewValue)
        → MatchOption o ((step.0 ≡ Err query.NoMemory) × (new.store ≡ m.state.store)) (λ view. stores.IsViewOf m.state.store view
        × stores.AnswersScanAt tells m.state.store view relation time step.0 new.store)
        → LeadsTo tells (line.Scan relation time) r m new
    by-taken None lacks =
        lacks-view tells m is (line.Scan relation time) r new (λ made lack. inl lack) (step.2 ∙ ap session.records_found lacks.0) lacks.1 names
    by-taken (Some view) asks =
        by-a-view tells m is (line.Scan relation time) r new view (call.ScanAt (length xs) relation time) (answer.ScanAt step.0) (inr (
          step.0,
          (refl, step.2),
        )) (silent r _ m.done step.2 (records-silent step.0 m.done)) refl asks.0
        (scan_at-goes tells m.state.store new.store (xs ++ held.View view
        ∷ []) (length xs) relation time view step.0 (get-end xs (held.View view)) asks.1)
        (scan_at-few tells m.state.store new.store view relation time step.0 asks.1) names

pub between-line : (tells : Bool) (m : ScriptMoment) → IsScriptMoment tells m → (key : Key) (a b : ℕ) (r : Reply) (new : State)
    → BetweenStep tells m.state.store key a b r new.store → KeepsNames m.state new → LeadsTo tells (line.Between key a b) r m new
between-line tells m is key a b r new step names = by-taken step.1.0 step.1.1
  where
    xs : List Held
    xs = held_of m.state

    by-taken : (o : Option ViewValue)
        → MatchOption o ((step.0 ≡ Err query.NoMemory) × (new.store ≡ m.state.store)) (λ view. stores.IsViewOf m.state.store view
        × stores.AnswersRows tells m.state.store view key a b step.0 new.store)
        → LeadsTo tells (line.Between key a b) r m new
    by-taken None lacks = lacks-view tells m is (line.Between key a b) r new (λ made lack. inl lack) (step.2 ∙ ap session.rows_found lacks.0) lacks.1 names
    by-taken (Some view) asks =
        by-a-view tells m is (line.Between key a b) r new view (call.Between (length xs) key a b) (answer.Between step.0) (inr (
          step.0,
          (refl, step.2),
        )) (silent r _ m.done step.2 (rows-silent step.0 m.done)) refl asks.0
        (between-goes tells m.state.store new.store (xs ++ held.View view
        ∷ []) (length xs) key a b view step.0 (get-end xs (held.View view)) asks.1) (between-few tells m.state.store new.store view key a b step.0 asks.1)
        names

-- ---- labels

times-silent : (o : Result (Vec ℕ Global) QueryFault) (done : List ℕ) → with_reply (session.times_found o) done ≡ done
times-silent (Ok times) done = refl
times-silent (Err why) done = refl

pub times-line : (tells : Bool) (m : ScriptMoment) → IsScriptMoment tells m → (label : ℕ) (r : Reply) (new : State)
    → TimesStep tells m.state.store label r new.store → KeepsNames m.state new → LeadsTo tells (line.Times label) r m new
times-line tells m is label r new step names =
    by-call tells m is (line.Times label) r (call.TimesOf label) (answer.TimesOf step.0) (
      step.0,
      refl,
      step.2,
    ) (silent r _ m.done step.2 (times-silent step.0 m.done))
    new.store (held_of m.state ++ held.Nothing
    ∷ []) (times-goes tells m.state.store new.store (held_of m.state) label step.0 step.1)
    (times-few tells m.state.store new.store label step.0 step.1) new refl (kept-more m new names)
