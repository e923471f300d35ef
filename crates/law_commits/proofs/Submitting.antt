-- A submit is a step of the machine.
use Rattle.std.proofs.Common.{◌≡◌, ◌≢◌, ℕ, ◌+◌, ◌<◌, ◌≤◌, ◌^◌, ◌&&◌, ◌||◌, nat_lt, max, Bool, true, false, cond, List, [], ◌∷◌, ◌++◌, length, map, Option}
use Rattle.std.proofs.Common.{None, Some, Result, Ok, Err, refl, arith, ap, sym, subst, ◌∙◌, inl, inr, append_assoc}
use Rattle.std.specs.Prelude.{◌↔◌, IsPermutation, is_some}
use Rattle.std.specs.List.{AllByRecursion, list_all}
use Rattle.std.specs.List.Sorted.{IsStrictlySortedBy}
use Rattle.std.proofs.lemmas.List.{map-append}
use Rattle.history.specs.declared.key.Key.{Key}
use Rattle.history.specs.declared.key.KeyWrite.{KeyWrite}
use Rattle.history.specs.Key.{key_cmp}
use Rattle.history.specs.Time.{IsRisingAfter, value_at}
use Rattle.history.specs.Histories.{Commit, History, last, state, HasRisingTimes}
use Rattle.history.specs.Machine.{Machine, commit_order, IsMachine}
use Rattle.history.specs.Submissions as submissions
use Rattle.history.specs.Submissions.{Decision, Submission, commit_made, conflict_of, decision, timed, unless_conflict, EndsASeenValue, IsSubmitted}
use Rattle.history.specs.Steps.{Aborted}
use Rattle.history.proofs.Histories.{rising-from_following, times-earlier, state-append, may_follow-behind}
use Rattle.history.proofs.Machines.{step-machine}
use Rattle.history.proofs.Orders.{is_lt, not_lt}
use Rattle.law_image.specs.Values.{Value, IsValue}
use Rattle.chains.specs.Writes as chains
use Rattle.chains.specs.Writes.{Write, kept_after, written}
use Rattle.chains.specs.KeyWrites.{KeyWrites, writes_of, IsOrdered, with_write, with_commit}
use Rattle.chains.proofs.Order.{ordered-with_write}
use Rattle.chains.proofs.Commits.{writes_of-with_commit}
use Rattle.snapshot.specs.Txn.{TxnValue, AreTxnWrites}
use Rattle.group.specs.CommitOrder.{last_time}
use Rattle.group.specs.Submits.{first_conflict}
use Rattle.group.specs.Values.{is_of_value}
use Rattle.group.specs.declared.commit_order.CommitHead.{CommitHead}
use Rattle.group.specs.declared.answers.Submitted.{Submitted}
use Rattle.group.specs.declared.answers.Submitted.TheVariants as submitted
use Rattle.group.specs.declared.answers.SubmitFault.{SubmitFault}
use Rattle.group.specs.declared.answers.SubmitFault.TheVariants as refused
use Rattle.group.proofs.Heads.{IsRisingAfter-push}
use Rattle.commits.specs.Values.{CommitsValue, ordered, ordered_mark, is_own, over, last_assigned}
use Rattle.commits.specs.Steps.{time_now, waiting_as, with_waiting}
use Rattle.law_refinement.specs.Standing.{Name, name_of, name_at}
use Rattle.law_refinement.specs.Laws.{submission_of, event_of}
use Rattle.law_refinement.proofs.KeptWrites.{kept-more}
use Rattle.law_refinement.proofs.Held.{rising-both}
use Rattle.law_refinement.proofs.Waiting.{written-later}
use Rattle.law_refinement.proofs.Conflicts.{conflicts-same}
use Rattle.law_refinement.proofs.Submitting.{order-rising, snapshot-kept}
use Rattle.law_commits.specs.Standing.{HasNames, Waits, StandsInMemory}
use Rattle.law_commits.specs.Laws.{AnswersSubmit, Goes}
use Rattle.law_commits.proofs.Waiting.{all-wait-push, forgot-behind, mark-upto}
use Rattle.law_commits.proofs.Order.{order-has, order-sorted, order-rises, order-upto}
use Rattle.law_commits.proofs.Names.{assigned-is}
use Rattle.law_commits.proofs.Memory.{closes-so, own-is, own-writes, recent-open, sees-at}

-- ---- a commit behind others

ordered-with_commit : (time : ℕ) (m : List KeyWrites) (ws : List (KeyWrite Value)) → IsOrdered m → IsOrdered (with_commit m time ws)
ordered-with_commit time m [] o = o
ordered-with_commit time m (w ∷ ws) o =
    ordered-with_commit time (with_write m w.key (record { time = time; write = w.write })) ws
    (ordered-with_write w.key (record { time = time; write = w.write }) m o)

-- a commit is made over the versions that are ordered, and waits
joins-behind : (v : CommitsValue) (m : Machine Value) (label time : ℕ) (writes : List (KeyWrite Value)) → StandsInMemory v m → IsMachine IsValue m
    → IsStrictlySortedBy key_cmp (map (λ (w : KeyWrite Value). w.key) writes) → last (commit_order m) < time → time < 2 ^ 63
    → Waits v.reclaimed (ordered v) (waiting_as v label time writes) (record { time = time; label = label; writes = writes })
joins-behind v m label time writes stands machine rising later range = record {
  time = refl;
  label = refl;
  ordered = ordered-with_commit time (ordered v) writes sorted;
  rising = λ key.
      let early = order-upto v m stands machine key in
      subst (λ (ws : List Write). IsRisingAfter 0 ws) (sym (more key))
      (rising-both 0 (writes_of (ordered v) key) (written time writes key) (order-rises v m stands machine key)
      (written-later (chains.last_time (writes_of (ordered v) key)) (record { time = time; label = label; writes = writes }) key (omega (
        arith,
        early,
        later,
      )) range));
  mark = low;
  forgot = λ key.
      ap (kept_after (ordered_mark v)) (more key)
      ∙ kept-more (ordered_mark v) (writes_of (ordered v) key) (written time writes key) (behind (ordered_mark v) low key)
      ∙ ap (λ (ws : List Write). ws
      ++ written time writes key) (forgot-behind v.reclaimed v.reclaimed v.versions v.queue m.queue stands.forgot stands.queue key)
      ∙ sym (more key);
  after = λ key. ap (kept_after v.reclaimed) (more key)
      ∙ kept-more v.reclaimed (writes_of (ordered v) key) (written time writes key) (behind v.reclaimed (omega arith) key);
}
  where
    sorted : IsOrdered (ordered v)
    sorted = order-sorted v m stands machine

    low : ordered_mark v ≤ v.reclaimed
    low = mark-upto v.reclaimed v.reclaimed v.versions v.queue m.queue (omega arith) stands.queue

    more : (key : Key) → writes_of (with_commit (ordered v) time writes) key ≡ writes_of (ordered v) key ++ written time writes key
    more key = writes_of-with_commit time (ordered v) writes key sorted rising

    behind : (mark : ℕ) → mark ≤ v.reclaimed → (key : Key) → IsRisingAfter mark (written time writes key)
    behind mark under key = let marked =
        (order-has v m stands machine).marked in written-later mark (record { time = time; label = label; writes = writes }) key (omega (
          arith,
          under,
          marked,
          later,
        )) range

-- its name is the last one
names-one : (reclaimed : ℕ) (heads : List CommitHead) (published : ℕ) (h queue : History Value) (head : CommitHead) (c : Commit Value)
    → HasNames reclaimed heads published h queue → name_at head ≡ name_of c → HasNames reclaimed (heads ++ head ∷ []) published h (queue ++ c ∷ [])
names-one reclaimed heads published h queue head c n same = record {
  before = n.before;
  early = n.early;
  kept = n.kept;
  late = n.late ++ head ∷ [];
  heads_are = ap (λ (l : List CommitHead). l ++ head ∷ []) n.heads_are ∙ append_assoc n.kept n.late (head ∷ []);
  kept_of = n.kept_of;
  names = ap (λ (ns : List Name). n.before ++ ns) (map-append name_at n.late (head ∷ []))
      ∙ sym (append_assoc n.before (map name_at n.late) (name_at head ∷ []))
      ∙ ap (λ (ns : List Name). ns ++ name_at head ∷ []) n.names
      ∙ ap (λ (name : Name). map name_of (h ++ queue) ++ name ∷ []) same
      ∙ sym (map-append name_of (h ++ queue) (c ∷ []))
      ∙ ap (λ (l : History Value). map name_of l) (append_assoc h queue (c ∷ []));
  count = n.count;
  published_are = n.published_are;
  many = n.many;
}

-- one more waits
waits-one : (v : CommitsValue) (m : Machine Value) (label time : ℕ) (writes : List (KeyWrite Value)) → StandsInMemory v m → IsMachine IsValue m
    → IsStrictlySortedBy key_cmp (map (λ (w : KeyWrite Value). w.key) writes) → last (commit_order m) < time → time < 2 ^ 63
    → StandsInMemory (with_waiting v label time writes) (record m { queue = m.queue ++ record { time = time; label = label; writes = writes } ∷ [] })
waits-one v m label time writes stands machine rising later range =
    let c : Commit Value = record { time = time; label = label; writes = writes } in
    let head : CommitHead = record { time = time; label = label; awaited = true } in
    let assigned = assigned-is v m stands machine in
    let behind : last_time v.heads < time = omega (arith, assigned, later) in
    record {
      names = names-one v.reclaimed v.heads v.published m.published m.queue head c stands.names refl;
      rising = IsRisingAfter-push 0 v.heads head stands.rising behind range;
      versions = stands.versions;
      forgot = stands.forgot;
      recent = stands.recent;
      queue = all-wait-push v.reclaimed v.versions v.queue m.queue (waiting_as v label time writes) c stands.queue
          (joins-behind v m label time writes stands machine rising later range);
      snapshots = stands.snapshots;
      floors = stands.floors;
      failed = stands.failed;
    }

-- ---- conflicts

pub conflict-found : (v : CommitsValue) (m : Machine Value) (txn : TxnValue) (label now : ℕ) → StandsInMemory v m → IsMachine IsValue m
    → is_own v txn ≡ true → first_conflict (ordered v) txn.snapshot txn.writes ≡ conflict_of m (submission_of txn label now)
conflict-found v m txn label now stands machine own =
    conflicts-same txn.snapshot m.floors v.reclaimed (ordered v) (commit_order m) (map (λ (x : KeyWrite Value). x.key) txn.writes) (order-rising m machine)
    (order-sorted v m stands machine) (order-rises v m stands machine) (order-has v m stands machine)
    (recent-open v m txn.number txn.snapshot stands (own-is v txn own))

-- what is decided on some writes
decided-some : (m : Machine Value) (s : Submission Value) → s.writes ≢ [] → decision m s ≡ unless_conflict (conflict_of m s) (timed (commit_made m s))
decided-some m s some = by-writes s.writes refl
  where
    by-writes : (writes : List (KeyWrite Value)) → s.writes ≡ writes
        → submissions.decision_on m s writes ≡ unless_conflict (conflict_of m s) (timed (commit_made m s))
    by-writes [] none = absurd (some none)
    by-writes (w ∷ ws) is = refl

conflicts-some : (m : Machine Value) (s : Submission Value) (key : Key) → conflict_of m s ≡ Some key → s.writes ≢ []
conflicts-some m s key found none =
    absurd (let empty : conflict_of m s ≡ None = ap (λ (ws : List (KeyWrite Value)). submissions.conflict_of m (record s { writes = ws })) none in
    let both : Path (Option Key) (Some key) None = sym found ∙ empty in cc)

decided-conflict : (m : Machine Value) (s : Submission Value) (key : Key) → conflict_of m s ≡ Some key → decision m s ≡ submissions.Conflicts key
decided-conflict m s key found = decided-some m s (conflicts-some m s key found) ∙ rw found refl

decided-back : (m : Machine Value) (s : Submission Value) (key : Key) → decision m s ≡ submissions.Conflicts key → conflict_of m s ≡ Some key
decided-back m s key is = by-writes s.writes refl is
  where
    by-time : (b : Bool) → cond b (submissions.Queues (commit_made m s)) submissions.Ends ≡ submissions.Conflicts key → ⊥
    by-time true same = absurd cc
    by-time false same = absurd cc

    by-conflict : (o : Option Key) → conflict_of m s ≡ o → unless_conflict o (timed (commit_made m s)) ≡ submissions.Conflicts key → conflict_of m s ≡ Some key
    by-conflict (Some k) found same = let keys : k ≡ key = cc in found ∙ ap (λ (x : Key). Some x) keys
    by-conflict None none same = absurd (by-time (nat_lt (commit_made m s).time (2 ^ 63)) same)

    by-writes : (writes : List (KeyWrite Value)) → s.writes ≡ writes → submissions.decision_on m s writes ≡ submissions.Conflicts key
        → conflict_of m s ≡ Some key
    by-writes [] none same = absurd cc
    by-writes (w ∷ ws) some same = by-conflict (conflict_of m s) refl same

pub conflict-decided : (v : CommitsValue) (m : Machine Value) (txn : TxnValue) (label now : ℕ) (key : Key) → StandsInMemory v m → IsMachine IsValue m
    → is_own v txn ≡ true → (first_conflict (ordered v) txn.snapshot txn.writes ≡ Some key) ↔ (decision m (submission_of txn label now)
    ≡ submissions.Conflicts key)
conflict-decided v m txn label now key stands machine own =
    let s = submission_of txn label now in
    let same = conflict-found v m txn label now stands machine own in
    (λ found. decided-conflict m s key (sym same ∙ found), λ is. same ∙ decided-back m s key is)

-- ---- what is submitted is in range

queue-later : (m : Machine Value) (snapshot : ℕ) → IsMachine IsValue m → snapshot ≤ last m.published → HasRisingTimes snapshot m.queue
queue-later m snapshot machine early =
    times-earlier snapshot (last m.published) m.queue early
    (rising-from_following IsValue m.published m.queue (may_follow-behind IsValue [] m.published m.queue machine.history))

-- what memory has of a key at the snapshot is the history's
abbrev SeesAs : List KeyWrites → Machine Value → ℕ → Type 0
SeesAs versions m snapshot = (key : Key) → value_at (writes_of versions key) snapshot ≡ state m.published snapshot key

gone-seen : (versions : List KeyWrites) (m : Machine Value) (snapshot : ℕ) (writes : List (KeyWrite Value)) → SeesAs versions m snapshot
    → HasRisingTimes snapshot m.queue → list_all (is_of_value versions snapshot) writes ≡ true
    → AllByRecursion (EndsASeenValue (commit_order m) snapshot) writes
gone-seen versions m snapshot [] sees later own = tt
gone-seen versions m snapshot (w ∷ ws) sees later own =
    let parts = both (is_of_value versions snapshot w) (list_all (is_of_value versions snapshot) ws) own in
    (one parts.0, gone-seen versions m snapshot ws sees later parts.1)
  where
    both : (a c : Bool) → (a && c) ≡ true → (a ≡ true) × (c ≡ true)
    both true c h = (refl, h)
    both false c h = absurd cc

    one : is_of_value versions snapshot w ≡ true → EndsASeenValue (commit_order m) snapshot w
    one is = λ gone.
        let none : is_some w.write ≡ false = ap (λ (o : Option Value). is_some o) gone in
        let value : is_some (value_at (writes_of versions w.key) snapshot) ≡ true =
        subst (λ (b : Bool). (b || is_some (value_at (writes_of versions w.key) snapshot)) ≡ true) none is in
        subst (λ (o : Option Value). is_some o ≡ true) (sees w.key ∙ sym (state-append m.published m.queue snapshot w.key later)) value

is-submitted : (v : CommitsValue) (m : Machine Value) (txn : TxnValue) (label now : ℕ) (rest : List ℕ) → StandsInMemory v m → IsMachine IsValue m
    → AreTxnWrites txn.state txn.snapshot txn.writes → label < 2 ^ 64
    → is_own v txn ≡ true → IsPermutation m.snapshots (txn.snapshot ∷ rest) → IsSubmitted IsValue (commit_order m) (submission_of txn label now)
is-submitted v m txn label now rest stands machine are range own moved =
    let snapshot = snapshot-kept m txn.snapshot rest machine moved in
    let early = snapshot.published in
    let sees : SeesAs v.versions m txn.snapshot =
    sees-at v m stands machine txn.snapshot snapshot (recent-open v m txn.number txn.snapshot stands (own-is v txn own)) in
    by-writes txn.writes refl (gone-seen v.versions m txn.snapshot txn.writes sees (queue-later m txn.snapshot machine early) (own-writes v txn own))
  where
    by-writes : (writes : List (KeyWrite Value)) → txn.writes ≡ writes → AllByRecursion (EndsASeenValue (commit_order m) txn.snapshot) txn.writes
        → IsSubmitted IsValue (commit_order m) (submission_of txn label now)
    by-writes [] none seen = inl none
    by-writes (w ∷ ws) some seen = inr (record {
      label = range;
      write_set = record { rising = are.rising; some = subst (λ (xs : List (KeyWrite Value)). 0 < length xs) (sym some) (omega arith); few = are.few };
      writes = are.in_range;
      gone = seen;
    })

-- ---- the answers

-- what is known of an own transaction once it is over, of a machine that has not failed
record IsOver (v : CommitsValue) (m : Machine Value) (txn : TxnValue) (label now : ℕ) (rest : List ℕ) : Type 0 where
  pub stands : StandsInMemory (over v txn.number) (record m { snapshots = rest })
  pub moved : IsPermutation m.snapshots (txn.snapshot ∷ rest)
  pub machine : IsMachine IsValue (record m { snapshots = rest })
  pub failed : v.failed ≡ m.failed
  pub is : IsSubmitted IsValue (commit_order m) (submission_of txn label now)
  pub rising : IsStrictlySortedBy key_cmp (map (λ (w : KeyWrite Value). w.key) txn.writes)
  pub conflict : first_conflict (ordered v) txn.snapshot txn.writes ≡ conflict_of m (submission_of txn label now)
  pub assigned : last_assigned v ≡ last (commit_order m)

-- the store stands for the machine that nothing else has happened to
stays : (v new : CommitsValue) (m : Machine Value) (txn : TxnValue) (label now : ℕ) (rest : List ℕ) → IsOver v m txn label now rest
    → new ≡ over v txn.number → StandsInMemory new (record m { snapshots = rest })
stays v new m txn label now rest o is = subst (λ (w : CommitsValue). StandsInMemory w (record m { snapshots = rest })) (sym is) o.stands

by-answer : (v new : CommitsValue) (m : Machine Value) (txn : TxnValue) (label now : ℕ) (rest : List ℕ) (answer : Result Submitted SubmitFault)
    → IsOver v m txn label now rest → AnswersSubmit (over v txn.number) txn label now answer new
    → Goes new m (event_of m (submission_of txn label now) answer)
by-answer v new m txn label now rest (Ok (submitted.ReadOnly snapshot)) o answers = (
  record m { snapshots = rest },
  (
    sym o.failed ∙ answers.0,
    o.is,
    sym (ap (λ (ws : List (KeyWrite Value)). submissions.decision_on m (submission_of txn label now) ws) answers.1),
    (rest, o.moved, refl),
  ),
  stays v new m txn label now rest o answers.2,
)
by-answer v new m txn label now rest (Ok (submitted.Queued ticket)) o answers =
    let s = submission_of txn label now in
    let c = commit_made m s in
    let none : conflict_of m s ≡ None = sym o.conflict ∙ answers.2 in
    let time : ticket.time ≡ c.time = answers.3 ∙ ap (λ (t : ℕ). max (t + 1) now) o.assigned in
    let range = answers.4 in
    let inside : nat_lt c.time (2 ^ 63) ≡ true = is_lt (omega (arith, time, range)) in
    let later : last (commit_order m) < ticket.time = omega (arith, time) in
    let waits =
    waits-one (over v txn.number) (record m { snapshots = rest }) label ticket.time txn.writes o.stands o.machine o.rising later range in
    let same : Path (Commit Value) (record { time = ticket.time; label = label; writes = txn.writes }) c =
    ap (λ (t : ℕ). record { time = t; label = label; writes = txn.writes }) time in (
      record m { snapshots = rest; queue = m.queue ++ c ∷ [] },
      (
        sym o.failed ∙ answers.0,
        o.is,
        sym (decided-some m s answers.1 ∙ rw none (rw inside refl)),
        (rest, o.moved, refl),
      ),
      subst (λ (w : CommitsValue). StandsInMemory w (record m { snapshots = rest; queue = m.queue ++ c ∷ [] })) (sym answers.5)
          (subst (λ (k : Commit Value). StandsInMemory (with_waiting (over v txn.number) label ticket.time txn.writes) (record m {
            snapshots = rest;
            queue = m.queue
                ++ k ∷ [];
          })) same waits),
    )
by-answer v new m txn label now rest (Err (refused.Conflict key)) o answers = (
  record m { snapshots = rest },
  (
    sym o.failed ∙ answers.0,
    o.is,
    sym (decided-conflict m (submission_of txn label now) key (sym o.conflict ∙ answers.1)),
    (rest, o.moved, refl),
  ),
  stays v new m txn label now rest o answers.2,
)
by-answer v new m txn label now rest (Err refused.HeapFull) o answers = (
  record m { snapshots = rest },
  ((sym o.failed ∙ answers.0, answers.1, sym o.conflict ∙ answers.2), (rest, o.moved, refl)),
  stays v new m txn label now rest o answers.3,
)
by-answer v new m txn label now rest (Err refused.StatusFull) o answers = absurd answers
by-answer v new m txn label now rest (Err refused.ClockEnd) o answers =
    let s = submission_of txn label now in
    let none : conflict_of m s ≡ None = sym o.conflict ∙ answers.2 in
    let time : time_now (over v txn.number) now ≡ (commit_made m s).time = ap (λ (t : ℕ). max (t + 1) now) o.assigned in
    let range = answers.3 in
    let past : nat_lt (commit_made m s).time (2 ^ 63) ≡ false = not_lt (omega (arith, time, range)) in (
      record m { snapshots = rest },
      (
        sym o.failed ∙ answers.0,
        o.is,
        sym (decided-some m s answers.1 ∙ rw none (rw past refl)),
        (rest, o.moved, refl),
      ),
      stays v new m txn label now rest o answers.4,
    )
by-answer v new m txn label now rest (Err refused.NoMemory) o answers = (
  record m { snapshots = rest },
  ((sym o.failed ∙ answers.0, answers.1), (rest, o.moved, refl)),
  stays v new m txn label now rest o answers.2,
)
by-answer v new m txn label now rest (Err refused.Failed) o answers = (
  record m { snapshots = rest },
  (sym o.failed ∙ answers.0, (rest, o.moved, refl)),
  stays v new m txn label now rest o answers.1,
)
by-answer v new m txn label now rest (Err refused.Stranger) o answers = absurd answers

pub submit-step : (v new : CommitsValue) (txn : TxnValue) (label now : ℕ) (answer : Result Submitted SubmitFault) (m : Machine Value) → StandsInMemory v m
    → IsMachine IsValue m → AreTxnWrites txn.state txn.snapshot txn.writes → label < 2 ^ 64
    → is_own v txn ≡ true → AnswersSubmit (over v txn.number) txn label now answer new → Goes new m (event_of m (submission_of txn label now) answer)
submit-step v new txn label now answer m stands machine are range own answers =
    let gives = closes-so v m txn.number txn.snapshot stands (own-is v txn own) in
    by-answer v new m txn label now gives.0 answer (record {
      stands = gives.2;
      moved = gives.1;
      machine = step-machine IsValue m (record m { snapshots = gives.0 }) (Aborted txn.snapshot) machine (gives.0, gives.1, refl);
      failed = stands.failed;
      is = is-submitted v m txn label now gives.0 stands machine are range own gives.1;
      rising = are.rising;
      conflict = conflict-found v m txn label now stands machine own;
      assigned = assigned-is v m stands machine;
    }) answers
