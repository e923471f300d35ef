-- What was seen, as the machine steps.
use Rattle.std.proofs.Common.{◌≡◌, ℕ, ◌≤◌, ◌==◌, ◌&&◌, nat_lt, length, Bool, true, false, cond, List, [], ◌∷◌, ◌++◌, take, drop, Option, None, Some, Result, Ok}
use Rattle.std.proofs.Common.{Err, refl, sym, ap, ◌∙◌, subst, append_assoc, arith}
use Rattle.std.proofs.lemmas.List.{append-nil, take-append-drop}
use Rattle.history.specs.Histories.{Commit, History}
use Rattle.history.specs.Floors.{Raising}
use Rattle.history.specs.Machine.{Machine, IsMachine, Change, Gate, Shut, Due, MayBeOpen, OfGroup, OfFloor}
use Rattle.history.specs.Steps.{Event, Step, Run, GroupBegan, GateDue}
use Rattle.history.specs.Submissions.{Submission, commit_made}
use Rattle.history.proofs.Machines.{run-floors}
use Rattle.law_image.specs.Values.{Value, IsValue}
use Rattle.group.specs.declared.answers.PumpFault.{PumpFault}
use Rattle.group.specs.declared.answers.PumpFault.TheVariants as pump
use Rattle.group.specs.declared.answers.Submitted.{Submitted}
use Rattle.group.specs.declared.answers.Submitted.TheVariants as submitted
use Rattle.group.specs.declared.answers.SubmitFault.{SubmitFault}
use Rattle.group.specs.declared.answers.SubmitFault.TheVariants as refused
use Rattle.any_store.specs.declared.steps.Did.{Did}
use Rattle.any_store.specs.declared.steps.Did.TheVariants as did
use Rattle.any_store.specs.declared.steps.JobDid.{JobDid}
use Rattle.any_store.specs.declared.steps.JobDid.TheVariants as job_did
use Rattle.law_refinement.specs.Laws.{event_of, begins_in, breaks_in, job_breaks_in}
use Rattle.law_any_store.specs.Calls.{group_ends, pumped_in, floor_ends_in, floor_ends, job_ends_in}
use Rattle.shared.specs.Reached.{Reached, stepped}
use Rattle.shared.specs.Seen.{Seen, floors_listed, floor_in, seen_of, order_of, IsFrontOf, IsLater}
use Rattle.shared.specs.Shared.{count_in, published_seen, queued_seen, raised_seen, done_seen, failed_seen, pumped_seen, job_seen, is_done, has_failed}
use Rattle.shared.proofs.Floors.{listed-raised, listed-later}
use Rattle.shared.proofs.Fronts.{front-same, later-same, later-then, later-failed}

pub follows : (start m n : Machine Value) (events : List (Event Value)) → Reached start m → Run IsValue m events n → Reached start n
follows start m n [] reached run = subst (λ (x : Machine Value). Reached start x) (sym run) reached
follows start m n (e ∷ es) reached run = follows start run.0 n es (stepped e reached run.1) run.2

-- ---- what comes next is later

pub later-queued : (s : Seen) (c : Commit Value) → IsLater s (queued_seen s c)
later-queued s c =
    record {
      published = front-same s.published;
      order = (c ∷ [], sym (append_assoc s.published s.queue (c ∷ [])));
      floors = λ relation. omega arith;
      failed = λ on. on;
    }

pub later-published : (s : Seen) (count : ℕ) → IsLater s (published_seen s count)
later-published s count = record {
  published = (take count s.queue, refl);
  order = (
    [],
    append_assoc s.published (take count s.queue) (drop count s.queue)
        ∙ ap (λ (l : History Value). s.published ++ l) (take-append-drop count s.queue) ∙ sym (append-nil (order_of s)),
  );
  floors = λ relation. omega arith;
  failed = λ on. on;
}

-- ---- a submit

abbrev pub submit_seen : Result Submitted SubmitFault → Seen → Commit Value → Seen
submit_seen (Ok (submitted.ReadOnly at)) s c = s
submit_seen (Ok (submitted.Queued ticket)) s c = queued_seen s c
submit_seen (Err why) s c = s

pub submit-seen : (m after : Machine Value) (s : Submission Value) (r : Result Submitted SubmitFault) → Step IsValue m (event_of m s r) after → seen_of after
    ≡ submit_seen r (seen_of m) (commit_made m s)
submit-seen m after s (Ok (submitted.ReadOnly at)) step = ap seen_of step.3.2
submit-seen m after s (Ok (submitted.Queued ticket)) step = ap seen_of step.3.2
submit-seen m after s (Err (refused.Conflict key)) step = ap seen_of step.3.2
submit-seen m after s (Err refused.ClockEnd) step = ap seen_of step.3.2
submit-seen m after s (Err refused.HeapFull) step = ap seen_of step.1.2
submit-seen m after s (Err refused.StatusFull) step = ap seen_of step.1.2
submit-seen m after s (Err refused.NoMemory) step = ap seen_of step.1.2
submit-seen m after s (Err refused.Failed) step = ap seen_of step.1.2
submit-seen m after s (Err refused.Stranger) step = ap seen_of step.1.2

-- ---- a step of a group

pub published-none : (s : Seen) → s ≡ published_seen s 0
published-none s = ap (λ (h : History Value). record s { published = h }) (sym (append-nil s.published))

-- a group that begins shows nothing
record Begun (m n : Machine Value) (events : List (Event Value)) : Type 0 where
  pub after : Machine Value
  pub seen : seen_of after ≡ seen_of m
  pub run : Run IsValue after events n

begun : (m n : Machine Value) (events : List (Event Value)) → Run IsValue m (begins_in m ++ events) n → Begun m n events
begun m n events run = by-group ((m.group == 0) && nat_lt 0 (length m.queue)) run
  where
    by-group : (b : Bool) → Run IsValue m (cond b (GroupBegan ∷ []) [] ++ events) n → Begun m n events
    by-group true run = record { after = run.0; seen = ap seen_of run.1.3; run = run.2 }
    by-group false run = record { after = m; seen = refl; run = run }

-- the sync of the heap is before the gate just where the log lies in the heap
synced-seen : (in_heap : Bool) (change : Change) (m n : Machine Value) → Run IsValue m (cond in_heap (GateDue change ∷ []) []) n → seen_of n ≡ seen_of m
synced-seen true change m n run = ap seen_of run.2 ∙ ap seen_of run.1.3
synced-seen false change m n run = ap seen_of run

ended-seen : (in_heap : Bool) (m n : Machine Value) (what : Did) → Run IsValue m (group_ends in_heap what) n
    → seen_of n ≡ published_seen (seen_of m) (count_in (Ok what))
ended-seen in_heap m n (did.Published count) run =
    ap seen_of run.2 ∙ ap seen_of run.1.4 ∙ ap (λ (k : ℕ). published_seen (seen_of m) k) (sym run.1.2)
ended-seen in_heap m n did.Idle run = ap seen_of run ∙ published-none (seen_of m)
ended-seen in_heap m n did.WroteExtent run = ap seen_of run ∙ published-none (seen_of m)
ended-seen in_heap m n did.GateClosed run = ap seen_of run ∙ published-none (seen_of m)
ended-seen in_heap m n did.HeapSynced run = synced-seen in_heap OfGroup m n run ∙ published-none (seen_of m)
ended-seen in_heap m n did.BodyWritten run = ap seen_of run ∙ published-none (seen_of m)
ended-seen in_heap m n did.BodySynced run = ap seen_of run.2 ∙ ap seen_of run.1.3 ∙ published-none (seen_of m)
ended-seen in_heap m n did.GateWritten run = ap seen_of run.2 ∙ ap seen_of run.1.2 ∙ published-none (seen_of m)

abbrev with_failure : Seen → Seen
with_failure s = record s { failed = true }

broke-seen : (m n : Machine Value) (gate : Gate) → Run IsValue m (breaks_in gate) n → seen_of n ≡ with_failure (seen_of m)
broke-seen m n Shut run = ap seen_of run.2 ∙ ap seen_of run.1.1
broke-seen m n (Due OfGroup) run =
    ap seen_of run.2.2 ∙ ap seen_of run.2.1.1 ∙ ap (λ (x : Machine Value). with_failure (seen_of x)) run.1.2
broke-seen m n (Due OfFloor) run = ap seen_of run.2 ∙ ap seen_of run.1.1
broke-seen m n (MayBeOpen change) run = ap seen_of run.2 ∙ ap seen_of run.1.1

-- a step that is put off begins a group where the log is slots, and none where it lies in the heap
put_off-seen : (in_heap : Bool) (m n : Machine Value) → Run IsValue m (cond in_heap [] (begins_in m)) n → seen_of n ≡ published_seen (seen_of m) 0
put_off-seen true m n run = ap seen_of run ∙ published-none (seen_of m)
put_off-seen false m n run =
    let b = begun m n [] (subst (λ (events : List (Event Value)). Run IsValue m events n) (sym (append-nil (begins_in m))) run) in
    ap seen_of b.run ∙ b.seen ∙ published-none (seen_of m)

-- in either layout
pub pumped-seen : (in_heap : Bool) (m n : Machine Value) (r : Result Did PumpFault) → Run IsValue m (pumped_in in_heap m r) n
    → seen_of n ≡ pumped_seen r (seen_of m)
pumped-seen in_heap m n (Ok what) run =
    let b = begun m n (group_ends in_heap what) run in
    ended-seen in_heap b.after n what b.run ∙ ap (λ (s : Seen). published_seen s (count_in (Ok what))) b.seen
pumped-seen in_heap m n (Err pump.Busy) run = put_off-seen in_heap m n run
pumped-seen in_heap m n (Err pump.NoMemory) run = put_off-seen in_heap m n run
pumped-seen in_heap m n (Err pump.Failed) run =
    let b = begun m n (breaks_in m.gate) run in
    broke-seen b.after n m.gate b.run ∙ ap with_failure b.seen ∙ ap with_failure (published-none (seen_of m))

-- the commits that are seen are the same in another order of words
pub published-order : (s : Seen) (count : ℕ) → order_of (published_seen s count) ≡ order_of s
published-order s count =
    append_assoc s.published (take count s.queue) (drop count s.queue) ∙ ap (λ (l : History Value). s.published ++ l) (take-append-drop count s.queue)

pub failed-order : (b : Bool) (s : Seen) → order_of (failed_seen b s) ≡ order_of s
failed-order true s = refl
failed-order false s = refl

raised-order : (o : Option Raising) (s : Seen) → order_of (raised_seen o s) ≡ order_of s
raised-order None s = refl
raised-order (Some r) s = refl

pub done-order : (r : Result JobDid PumpFault) (o : Option Raising) (s : Seen) → order_of (done_seen r o s) ≡ order_of s
done-order r o s = by-test (is_done r)
  where
    by-test : (b : Bool) → order_of (cond b (raised_seen o s) s) ≡ order_of s
    by-test true = raised-order o s
    by-test false = refl

-- no step changes the commit order
pub pumped-order : (r : Result Did PumpFault) (s : Seen) → order_of (pumped_seen r s) ≡ order_of s
pumped-order r s = failed-order (has_failed r) (published_seen s (count_in r)) ∙ published-order s (count_in r)

pub job-order : (r : Result JobDid PumpFault) (o : Option Raising) (s : Seen) → order_of (job_seen r o s) ≡ order_of s
job-order r o s = failed-order (has_failed r) (done_seen r o s) ∙ done-order r o s

failed-published : (b : Bool) (s : Seen) → (failed_seen b s).published ≡ s.published
failed-published true s = refl
failed-published false s = refl

pub pumped-published : (r : Result Did PumpFault) (s : Seen) → (pumped_seen r s).published ≡ (published_seen s (count_in r)).published
pumped-published r s = failed-published (has_failed r) (published_seen s (count_in r))

-- what has failed was seen so, too
pub broken-seen : (m : Machine Value) → m.failed ≡ true → seen_of m ≡ record (seen_of m) { failed = true }
broken-seen m on = ap (λ (b : Bool). record (seen_of m) { failed = b }) on

pub later-pumped : (r : Result Did PumpFault) (s : Seen) → IsLater s (pumped_seen r s)
later-pumped r s = by-failure (has_failed r)
  where
    by-failure : (b : Bool) → IsLater s (failed_seen b (published_seen s (count_in r)))
    by-failure true =
        later-then s (published_seen s (count_in r)) (record (published_seen s (count_in r)) { failed = true }) (later-published s (count_in r))
        (later-failed (published_seen s (count_in r)))
    by-failure false = later-published s (count_in r)

-- ---- a step of a job

same-seen : (b : Bool) (s : Seen) → cond b s s ≡ s
same-seen true s = refl
same-seen false s = refl

-- of a floor's job
floor-seen : (in_heap : Bool) (m n : Machine Value) (what : JobDid) (r : Raising) → Run IsValue m (floor_ends_in in_heap what r) n
    → seen_of n ≡ done_seen (Ok what) (Some r) (seen_of m)
floor-seen in_heap m n job_did.Idle r run = ap seen_of run
floor-seen in_heap m n job_did.WroteRun r run = ap seen_of run
floor-seen in_heap m n job_did.RunSynced r run = ap seen_of run
floor-seen in_heap m n job_did.WroteExtent r run = ap seen_of run
floor-seen in_heap m n job_did.HeapSynced r run = synced-seen in_heap OfFloor m n run
floor-seen in_heap m n job_did.WroteZeros r run = ap seen_of run
floor-seen in_heap m n job_did.ZerosSynced r run = ap seen_of run
floor-seen in_heap m n job_did.BodyWritten r run = ap seen_of run
floor-seen in_heap m n job_did.BodySynced r run = ap seen_of run.2 ∙ ap seen_of run.1.3
floor-seen in_heap m n job_did.WroteEntry r run = ap seen_of run
floor-seen in_heap m n job_did.GateClosed r run = ap seen_of run
floor-seen in_heap m n job_did.WroteRoll r run = ap seen_of run
floor-seen in_heap m n job_did.RollSynced r run = ap seen_of run
floor-seen in_heap m n job_did.RootWritten r run = ap seen_of run
floor-seen in_heap m n job_did.RootSynced r run = ap seen_of run
floor-seen in_heap m n job_did.TurnWritten r run = ap seen_of run
floor-seen in_heap m n job_did.GateWritten r run = ap seen_of run.2 ∙ ap seen_of run.1.2
floor-seen in_heap m n job_did.JobDone r run =
    ap seen_of run.2 ∙ ap seen_of run.1.3 ∙ ap (λ (l : List ℕ). record (seen_of m) { floors = l }) (listed-raised r.scope r.floor m.floors)

unchanged-seen : (m n : Machine Value) (what : JobDid) → n ≡ m → seen_of n ≡ done_seen (Ok what) None (seen_of m)
unchanged-seen m n what run = ap seen_of run ∙ sym (same-seen (is_done (Ok what)) (seen_of m))

raised-seen : (in_heap : Bool) (m n : Machine Value) (what : JobDid) (raising : Option Raising) → Run IsValue m (floor_ends in_heap what raising) n
    → seen_of n ≡ done_seen (Ok what) raising (seen_of m)
raised-seen in_heap m n what None ran = unchanged-seen m n what ran
raised-seen in_heap m n what (Some r) ran = floor-seen in_heap m n what r ran

job_broken-seen : (m n : Machine Value) (gate : Gate) → Run IsValue m (job_breaks_in gate) n → seen_of n ≡ record (seen_of m) { failed = true }
job_broken-seen m n Shut run = ap seen_of run.2 ∙ ap seen_of run.1.1
job_broken-seen m n (Due OfGroup) run = ap seen_of run.2 ∙ ap seen_of run.1.1
job_broken-seen m n (Due OfFloor) run = ap seen_of run.2.2 ∙ ap seen_of run.2.1.1 ∙ ap (λ (x : Machine Value). record (seen_of x) { failed = true }) run.1.2
job_broken-seen m n (MayBeOpen change) run = ap seen_of run.2 ∙ ap seen_of run.1.1

pub job-seen : (in_heap : Bool) (m n : Machine Value) (raising : Option Raising) (r : Result JobDid PumpFault) → m.raising ≡ raising
    → Run IsValue m (job_ends_in in_heap m r) n → seen_of n ≡ job_seen r raising (seen_of m)
job-seen in_heap m n raising (Ok what) is run =
    raised-seen in_heap m n what raising (subst (λ (o : Option Raising). Run IsValue m (floor_ends in_heap what o) n) is run)
job-seen in_heap m n raising (Err pump.Busy) is run = ap seen_of run
job-seen in_heap m n raising (Err pump.NoMemory) is run = ap seen_of run
job-seen in_heap m n raising (Err pump.Failed) is run = job_broken-seen m n m.gate run

-- floors alone are raised
raised-later : (s n : Seen) (b : Bool) (o : Option Raising) → n ≡ cond b (raised_seen o s) s
    → ((relation : ℕ) → floor_in s.floors relation ≤ floor_in n.floors relation) → IsLater s n
raised-later s n true None is rise = subst (λ (x : Seen). IsLater s x) (sym is) (later-same s)
raised-later s n true (Some r) is rise = record {
  published = subst (λ (h : History Value). IsFrontOf s.published h) (sym (ap (λ (x : Seen). x.published) is)) (front-same s.published);
  order = subst (λ (h : History Value). IsFrontOf (order_of s) h) (sym (ap order_of is)) (front-same (order_of s));
  floors = rise;
  failed = λ on. ap (λ (x : Seen). x.failed) is ∙ on;
}
raised-later s n false o is rise = subst (λ (x : Seen). IsLater s x) (sym is) (later-same s)

-- so a job's step shows no less
pub later-done : (in_heap : Bool) (m n : Machine Value) (raising : Option Raising) (r : Result JobDid PumpFault) → IsMachine IsValue m
    → m.raising ≡ raising → Run IsValue m (job_ends_in in_heap m r) n → IsLater (seen_of m) (done_seen r raising (seen_of m))
later-done in_heap m n raising (Ok what) legal is run =
    let seen = job-seen in_heap m n raising (Ok what) is run in
    let later =
    raised-later (seen_of m) (seen_of n) (is_done (Ok what)) raising seen
    (listed-later m.floors n.floors (λ relation. run-floors IsValue m n (job_ends_in in_heap m (Ok what)) relation legal run)) in
    subst (λ (s : Seen). IsLater (seen_of m) s) seen later
later-done in_heap m n raising (Err why) legal is run = later-same (seen_of m)

-- and where the store fails
pub later-job : (r : Result JobDid PumpFault) (raising : Option Raising) (s : Seen) → IsLater s (done_seen r raising s) → IsLater s (job_seen r raising s)
later-job r raising s later = by-failure (has_failed r)
  where
    by-failure : (b : Bool) → IsLater s (failed_seen b (done_seen r raising s))
    by-failure true = later-then s (done_seen r raising s) (record (done_seen r raising s) { failed = true }) later (later-failed (done_seen r raising s))
    by-failure false = later
