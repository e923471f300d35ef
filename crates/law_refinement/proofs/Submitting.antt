-- A submit is a step of the machine.
use Rattle.std.proofs.Common.{◌≡◌, ◌≢◌, ℕ, ◌<◌, ◌≤◌, ◌^◌, ◌==◌, ◌&&◌, ◌||◌, nat_lt, Bool, true, false, cond, List, [], ◌∷◌, ◌++◌, length, map, take, Option}
use Rattle.std.proofs.Common.{Result, Ok, Err, MatchBool, refl, arith, ap, sym, subst, ◌∙◌, inl, inr, append_assoc}
use Rattle.std.specs.Prelude.{IsPermutation, is_some}
use Rattle.std.specs.List.{AllByRecursion, list_all}
use Rattle.std.specs.List.Sorted.{IsStrictlySortedBy}
use Rattle.std.proofs.lemmas.Bool.Decides.{nat_tests}
use Rattle.std.proofs.lemmas.List.{map-append, take-append-le}
use Rattle.std.proofs.lemmas.List.Sorted.{IsPermutation-sym, Contains-permutation}
use Rattle.history.specs.declared.key.Key.{Key}
use Rattle.history.specs.declared.key.KeyWrite.{KeyWrite}
use Rattle.history.specs.Key.{key_cmp}
use Rattle.history.specs.Time.{IsRisingAfter, value_at}
use Rattle.history.specs.Histories.{Commit, History, last, state, HasRisingTimes}
use Rattle.history.specs.Machine.{Machine, commit_order, IsMachine, IsKeptSnapshot}
use Rattle.history.specs.Submissions.{commit_made, EndsASeenValue, IsSubmitted}
use Rattle.history.specs.Steps.{Event, Step, Aborted}
use Rattle.history.proofs.Histories.{rising-from_following, times-earlier, state-append, may_follow-behind}
use Rattle.history.proofs.Machines.{step-machine}
use Rattle.history.proofs.Orders.{not_lt}
use Rattle.history.proofs.Members.{Contains-head}
use Rattle.law_image.specs.Values.{Value, IsValue}
use Rattle.chains.specs.Writes as chains
use Rattle.chains.specs.Writes.{Write, kept_after, written}
use Rattle.chains.specs.KeyWrites.{KeyWrites, writes_of, IsOrdered, forgotten, with_write, with_commit}
use Rattle.chains.proofs.Versions.{writes_of-forgotten}
use Rattle.chains.proofs.Order.{ordered-with_write}
use Rattle.chains.proofs.Commits.{writes_of-with_commit}
use Rattle.snapshot.specs.OpenTable.{snapshot_of}
use Rattle.snapshot.specs.Txn.{TxnValue, AreTxnWrites}
use Rattle.group.specs.CommitOrder.{last_time}
use Rattle.group.specs.declared.commit_order.CommitHead.{CommitHead}
use Rattle.group.specs.declared.answers.Submitted.{Submitted}
use Rattle.group.specs.declared.answers.Submitted.TheVariants as submitted
use Rattle.group.specs.declared.answers.SubmitFault.{SubmitFault}
use Rattle.group.specs.declared.answers.SubmitFault.TheVariants as refused
use Rattle.group.specs.Queued.{QueuedValue}
use Rattle.group.proofs.Heads.{IsRisingAfter-push}
use Rattle.group.specs.Values.{TransactionsValue, versions_after, ordered, mark_after, ordered_mark, is_own, is_snapshot, is_of_value, over}
use Rattle.group.specs.Submits.{Verdict, verdict, queued_as, with_queued, AnswersSubmit, SubmitsOwn, Submits}
use Rattle.group.specs.Submits as verdicts
use Rattle.law_refinement.specs.Standing.{Name, name_of, name_at, HasWrites, Waits, AllWait, StandsInMemory}
use Rattle.law_refinement.specs.Laws.{submission_of, event_of}
use Rattle.law_refinement.proofs.KeptWrites.{kept-more, later-kept}
use Rattle.law_refinement.proofs.Held.{rising-held, last-held, rising-both}
use Rattle.law_refinement.proofs.Waiting.{AreRising, ordered-behind, rising-behind, forgot-behind, mark-upto, written-later}
use Rattle.law_refinement.proofs.Packed.{as-many}
use Rattle.law_refinement.proofs.Conflicts.{ordered-has}
use Rattle.law_refinement.proofs.Deciding.{DecidesAs, decides}
use Rattle.law_refinement.proofs.Memory.{published-rises, all-of, closes-so, own-is, recent-open, sees-at}
use Rattle.law_refinement.proofs.Names.{last-named}

-- ---- a commit behind others

ordered-with_commit : (time : ℕ) (m : List KeyWrites) (ws : List (KeyWrite Value)) → IsOrdered m → IsOrdered (with_commit m time ws)
ordered-with_commit time m [] o = o
ordered-with_commit time m (w ∷ ws) o =
    ordered-with_commit time (with_write m w.key (record { time = time; write = w.write })) ws
    (ordered-with_write w.key (record { time = time; write = w.write }) m o)

all_wait-push : (reclaimed : ℕ) (before : List KeyWrites) (qs : List QueuedValue) (cs : History Value) (q : QueuedValue) (c : Commit Value)
    → AllWait reclaimed before qs cs → Waits reclaimed (versions_after before qs) q c → AllWait reclaimed before (qs ++ q ∷ []) (cs ++ c ∷ [])
all_wait-push reclaimed before [] [] q c all waits = (waits, tt)
all_wait-push reclaimed before [] (d ∷ ds) q c all waits = absurd all
all_wait-push reclaimed before (p ∷ ps) [] q c all waits = absurd all
all_wait-push reclaimed before (p ∷ ps) (d ∷ ds) q c all waits = (all.0, all_wait-push reclaimed p.after ps ds q c all.1 waits)

pub order-rising : (m : Machine Value) → IsMachine IsValue m → HasRisingTimes 0 (commit_order m)
order-rising m machine = rising-from_following IsValue [] (commit_order m) machine.history

-- the versions that are ordered are those of the commit order, from the mark on
pub order-has : (v : TransactionsValue) (m : Machine Value) → StandsInMemory v m → IsMachine IsValue m
    → HasWrites m.floors v.reclaimed (forgotten v.reclaimed (ordered v)) (commit_order m)
order-has v m stands machine =
    ordered-has m.floors v.reclaimed m.published v.versions v.queue m.queue stands.versions stands.forgot stands.queue (order-rising m machine)
    machine.floors_reached

pub order-sorted : (v : TransactionsValue) (m : Machine Value) → StandsInMemory v m → IsOrdered (ordered v)
order-sorted v m stands = ordered-behind v.reclaimed v.versions v.queue m.queue stands.versions.ordered stands.queue

pub order-rises : (v : TransactionsValue) (m : Machine Value) → StandsInMemory v m → AreRising (ordered v)
order-rises v m stands = rising-behind v.reclaimed v.versions v.queue m.queue (rising-held stands.versions (published-rises v m stands)) stands.queue

pub order-last : (v : TransactionsValue) (m : Machine Value) → StandsInMemory v m → last_time v.heads ≡ last (commit_order m)
order-last v m stands = last-named 0 v.heads (commit_order m) stands.names

-- none of these is of a later commit than the last
order-upto : (v : TransactionsValue) (m : Machine Value) → StandsInMemory v m → IsMachine IsValue m → (key : Key)
    → chains.last_time (writes_of (ordered v) key) ≤ last (commit_order m)
order-upto v m stands machine key =
    let has = order-has v m stands machine in
    let low = last-held has (order-rising m machine) key in
    let none : nat_lt (last (commit_order m)) (chains.last_time (writes_of (ordered v) key)) ≡ false =
    sym (later-kept (last (commit_order m)) v.reclaimed (writes_of (ordered v) key) has.marked (order-rises v m stands key))
    ∙ ap (λ (ws : List Write). nat_lt (last (commit_order m)) (chains.last_time ws))
    (sym (writes_of-forgotten v.reclaimed (ordered v) key (order-sorted v m stands)))
    ∙ not_lt low in
    grind (arith, nat_tests)

-- a commit is made over them, and waits
joins-behind : (v : TransactionsValue) (m : Machine Value) (label time : ℕ) (writes : List (KeyWrite Value)) (numbers : List ℕ) → StandsInMemory v m
    → IsMachine IsValue m → IsStrictlySortedBy key_cmp (map (λ (w : KeyWrite Value). w.key) writes)
    → last (commit_order m) < time → time < 2 ^ 63
    → Waits v.reclaimed (ordered v) (queued_as v label time writes numbers) (record { time = time; label = label; writes = writes })
joins-behind v m label time writes numbers stands machine rising later range = record {
  time = refl;
  label = refl;
  records = refl;
  ordered = ordered-with_commit time (ordered v) writes sorted;
  rising = λ key.
      let early = order-upto v m stands machine key in
      subst (λ (ws : List Write). IsRisingAfter 0 ws) (sym (more key))
      (rising-both 0 (writes_of (ordered v) key) (written time writes key) (order-rises v m stands key)
      (written-later (chains.last_time (writes_of (ordered v) key)) (record { time = time; label = label; writes = writes }) key (omega (
        arith,
        early,
        later,
      )) range));
  mark = low;
  forgot = λ key.
      ap (kept_after (ordered_mark v)) (more key)
      ∙ kept-more (ordered_mark v) (writes_of (ordered v) key) (written time writes key) (behind (ordered_mark v) low key)
      ∙ ap (λ (ws : List Write). ws
      ++ written time writes key) (forgot-behind v.reclaimed v.reclaimed v.versions v.queue m.queue stands.forgot stands.queue key)
      ∙ sym (more key);
  after = λ key. ap (kept_after v.reclaimed) (more key)
      ∙ kept-more v.reclaimed (writes_of (ordered v) key) (written time writes key) (behind v.reclaimed (omega arith) key);
}
  where
    sorted : IsOrdered (ordered v)
    sorted = order-sorted v m stands

    low : ordered_mark v ≤ v.reclaimed
    low = mark-upto v.reclaimed v.reclaimed v.versions v.queue m.queue (omega arith) stands.queue

    more : (key : Key) → writes_of (with_commit (ordered v) time writes) key ≡ writes_of (ordered v) key ++ written time writes key
    more key = writes_of-with_commit time (ordered v) writes key sorted rising

    behind : (mark : ℕ) → mark ≤ v.reclaimed → (key : Key) → IsRisingAfter mark (written time writes key)
    behind mark under key = let marked =
        (order-has v m stands machine).marked in written-later mark (record { time = time; label = label; writes = writes }) key (omega (
          arith,
          under,
          marked,
          later,
        )) range

-- one more waits
queues-one : (v : TransactionsValue) (m : Machine Value) (label time : ℕ) (writes : List (KeyWrite Value)) (numbers : List ℕ) → StandsInMemory v m
    → m.group ≤ length m.queue
    → Waits v.reclaimed (ordered v) (queued_as v label time writes numbers) (record { time = time; label = label; writes = writes })
    → last (commit_order m) < time → time < 2 ^ 63
    → StandsInMemory (with_queued v label time writes numbers) (record m { queue = m.queue ++ record { time = time; label = label; writes = writes } ∷ [] })
queues-one v m label time writes numbers stands few waits later range =
    let c : Commit Value = record { time = time; label = label; writes = writes } in
    let q : QueuedValue = queued_as v label time writes numbers in
    let head : CommitHead = record { time = time; label = label; awaited = true } in
    let names : map name_at (v.heads ++ head ∷ []) ≡ map name_of (m.published ++ (m.queue ++ c ∷ [])) =
    map-append name_at v.heads (head ∷ []) ∙ ap (λ (ns : List Name). ns ++ name_of c ∷ []) stands.names ∙ sym (map-append name_of (commit_order m) (c ∷ []))
    ∙ ap (λ (h : History Value). map name_of h) (append_assoc m.published m.queue (c ∷ [])) in
    let long = as-many v.reclaimed v.versions v.queue m.queue stands.queue in
    let size = stands.group in
    let front : take v.group (v.queue ++ q ∷ []) ≡ take v.group v.queue = take-append-le v.group v.queue (q ∷ []) (omega (arith, long, size, few)) in
    record {
      names = names;
      rising = IsRisingAfter-push 0 v.heads head stands.rising (subst (λ (t : ℕ). t < time) (sym (order-last v m stands)) later) range;
      published = stands.published;
      versions = stands.versions;
      forgot = stands.forgot;
      recent = stands.recent;
      queue = all_wait-push v.reclaimed v.versions v.queue m.queue q c stands.queue waits;
      fresh = λ turning. ap (mark_after v.reclaimed) front ∙ stands.fresh turning;
      group = stands.group;
      most = stands.most;
      staged = stands.staged;
      snapshots = stands.snapshots;
      floors = stands.floors;
      failed = stands.failed;
    }

-- ---- what is submitted is in range

pub snapshot-kept : (m : Machine Value) (snapshot : ℕ) (rest : List ℕ) → IsMachine IsValue m → IsPermutation m.snapshots (snapshot ∷ rest)
    → IsKeptSnapshot m.floors (last m.published) snapshot
snapshot-kept m snapshot rest machine moved =
    all-of (IsKeptSnapshot m.floors (last m.published)) m.snapshots snapshot machine.snapshots (Contains-permutation (snapshot
    ∷ rest) m.snapshots snapshot (IsPermutation-sym m.snapshots (snapshot ∷ rest) moved) (Contains-head snapshot rest snapshot refl))

queue-later : (m : Machine Value) (snapshot : ℕ) → IsMachine IsValue m → snapshot ≤ last m.published → HasRisingTimes snapshot m.queue
queue-later m snapshot machine early =
    times-earlier snapshot (last m.published) m.queue early
    (rising-from_following IsValue m.published m.queue (may_follow-behind IsValue [] m.published m.queue machine.history))

-- what memory has of a key at the snapshot is the history's
abbrev SeesAs : List KeyWrites → Machine Value → ℕ → Type 0
SeesAs versions m snapshot = (key : Key) → value_at (writes_of versions key) snapshot ≡ state m.published snapshot key

gone-seen : (versions : List KeyWrites) (m : Machine Value) (snapshot : ℕ) (writes : List (KeyWrite Value)) → SeesAs versions m snapshot
    → HasRisingTimes snapshot m.queue → list_all (is_of_value versions snapshot) writes ≡ true
    → AllByRecursion (EndsASeenValue (commit_order m) snapshot) writes
gone-seen versions m snapshot [] sees later own = tt
gone-seen versions m snapshot (w ∷ ws) sees later own =
    let parts = both (is_of_value versions snapshot w) (list_all (is_of_value versions snapshot) ws) own in
    (one parts.0, gone-seen versions m snapshot ws sees later parts.1)
  where
    both : (a c : Bool) → (a && c) ≡ true → (a ≡ true) × (c ≡ true)
    both true c h = (refl, h)
    both false c h = absurd cc

    one : is_of_value versions snapshot w ≡ true → EndsASeenValue (commit_order m) snapshot w
    one is = λ gone.
        let none : is_some w.write ≡ false = ap (λ (o : Option Value). is_some o) gone in
        let value : is_some (value_at (writes_of versions w.key) snapshot) ≡ true =
        subst (λ (b : Bool). (b || is_some (value_at (writes_of versions w.key) snapshot)) ≡ true) none is in
        subst (λ (o : Option Value). is_some o ≡ true) (sees w.key ∙ sym (state-append m.published m.queue snapshot w.key later)) value

own-writes : (a b c : Bool) → cond a (cond b c false) false ≡ true → c ≡ true
own-writes true true c h = h
own-writes true false c h = absurd cc
own-writes false b c h = absurd cc

pub is-submitted : (v : TransactionsValue) (m : Machine Value) (txn : TxnValue) (label now : ℕ) (rest : List ℕ) → StandsInMemory v m → IsMachine IsValue m
    → AreTxnWrites txn.state txn.snapshot txn.writes → label < 2 ^ 64
    → is_own v txn ≡ true → IsPermutation m.snapshots (txn.snapshot ∷ rest) → IsSubmitted IsValue (commit_order m) (submission_of txn label now)
is-submitted v m txn label now rest stands machine are range own moved =
    let snapshot = snapshot-kept m txn.snapshot rest machine moved in
    let early = snapshot.published in
    let sees : SeesAs v.versions m txn.snapshot =
    sees-at v m stands txn.snapshot snapshot (recent-open v m txn.number txn.snapshot stands (own-is v txn own)) in
    let seen = gone-seen v.versions m txn.snapshot txn.writes sees (queue-later m txn.snapshot machine early)
    (own-writes (txn.mark == v.mark) (is_snapshot (snapshot_of txn.number v.opened) txn.snapshot) (list_all (is_of_value v.versions txn.snapshot) txn.writes)
    own) in
    by-writes txn.writes refl seen
  where
    by-writes : (writes : List (KeyWrite Value)) → txn.writes ≡ writes → AllByRecursion (EndsASeenValue (commit_order m) txn.snapshot) txn.writes
        → IsSubmitted IsValue (commit_order m) (submission_of txn label now)
    by-writes [] none seen = inl none
    by-writes (w ∷ ws) some seen = inr (record {
      label = range;
      write_set = record { rising = are.rising; some = subst (λ (xs : List (KeyWrite Value)). 0 < length xs) (sym some) (omega arith); few = are.few };
      writes = are.in_range;
      gone = seen;
    })

-- ---- the answers

abbrev Goes : TransactionsValue → Machine Value → Event Value → Type 0
Goes new m event = (after : Machine Value) × Step IsValue m event after × StandsInMemory new after

by-answer : (v new : TransactionsValue) (m : Machine Value) (txn : TxnValue) (label now : ℕ) (rest : List ℕ) (answer : Result Submitted SubmitFault)
    → StandsInMemory v (record m { snapshots = rest }) → IsMachine IsValue (record m { snapshots = rest }) → IsPermutation m.snapshots (txn.snapshot ∷ rest)
    → m.failed ≡ false → IsSubmitted IsValue (commit_order m) (submission_of txn label now)
    → IsStrictlySortedBy key_cmp (map (λ (w : KeyWrite Value). w.key) txn.writes)
    → ((said : Verdict) → verdict v txn.snapshot txn.writes now ≡ said → DecidesAs m (submission_of txn label now) said)
    → AnswersSubmit v txn label now answer new → Goes new m (event_of m (submission_of txn label now) answer)
by-answer v new m txn label now rest (Ok (submitted.ReadOnly snapshot)) stands machine moved works is rising decides answers =
    let d = decides verdicts.Reads answers.0 in (
      record m { snapshots = rest },
      (works, is, sym d.1, (rest, moved, refl)),
      subst (λ (w : TransactionsValue). StandsInMemory w (record m { snapshots = rest })) (sym answers.2) stands,
    )
by-answer v new m txn label now rest (Ok (submitted.Queued ticket)) stands machine moved works is rising decides answers =
    let d = decides (verdicts.Queues ticket.time) answers.0 in
    let s = submission_of txn label now in
    let c = commit_made m s in
    let later : last (commit_order m) < ticket.time = let same = d.2 in omega arith in
    let joins = answers.2 in
    let waits =
    queues-one v (record m { snapshots = rest }) label ticket.time txn.writes joins.numbers stands machine.group_queued
    (joins-behind v (record m { snapshots = rest }) label ticket.time txn.writes joins.numbers stands machine rising later d.3) later d.3 in
    let same : Path (Commit Value) (record { time = ticket.time; label = label; writes = txn.writes }) c =
    ap (λ (t : ℕ). record { time = t; label = label; writes = txn.writes }) d.2 in (
      record m { snapshots = rest; queue = m.queue ++ c ∷ [] },
      (works, is, sym d.1, (rest, moved, refl)),
      subst (λ (w : TransactionsValue). StandsInMemory w (record m { snapshots = rest; queue = m.queue ++ c ∷ [] })) (sym joins.new_is)
          (subst (λ (k : Commit Value). StandsInMemory (with_queued v label ticket.time txn.writes joins.numbers) (record m {
            snapshots = rest;
            queue = m.queue
                ++ k ∷ [];
          })) same waits),
    )
by-answer v new m txn label now rest (Err (refused.Conflict key)) stands machine moved works is rising decides answers = (
  record m { snapshots = rest },
  (works, is, sym (decides (verdicts.Conflicts key) answers.0), (rest, moved, refl)),
  subst (λ (w : TransactionsValue). StandsInMemory w (record m { snapshots = rest })) (sym answers.1) stands,
)
by-answer v new m txn label now rest (Err refused.HeapFull) stands machine moved works is rising decides answers =
    let d = decides verdicts.HeapIsFull answers.0 in (
      record m { snapshots = rest },
      ((works, d.0, d.1), (rest, moved, refl)),
      subst (λ (w : TransactionsValue). StandsInMemory w (record m { snapshots = rest })) (sym answers.1) stands,
    )
by-answer v new m txn label now rest (Err refused.StatusFull) stands machine moved works is rising decides answers =
    let d = decides verdicts.StatusIsFull answers.0 in (
      record m { snapshots = rest },
      ((works, d.0, d.1), (rest, moved, refl)),
      subst (λ (w : TransactionsValue). StandsInMemory w (record m { snapshots = rest })) (sym answers.1) stands,
    )
by-answer v new m txn label now rest (Err refused.ClockEnd) stands machine moved works is rising decides answers =
    let d = decides verdicts.ClockEnds answers.0 in (
      record m { snapshots = rest },
      (works, is, sym d.1, (rest, moved, refl)),
      subst (λ (w : TransactionsValue). StandsInMemory w (record m { snapshots = rest })) (sym answers.1) stands,
    )
by-answer v new m txn label now rest (Err refused.NoMemory) stands machine moved works is rising decides answers =
    let some = wants (verdict v txn.snapshot txn.writes now) answers.0 (decides (verdict v txn.snapshot txn.writes now) refl) in (
      record m { snapshots = rest },
      ((works, some), (rest, moved, refl)),
      subst (λ (w : TransactionsValue). StandsInMemory w (record m { snapshots = rest })) (sym answers.1) stands,
    )
  where
    wants : (said : Verdict) → verdicts.IsWant said → DecidesAs m (submission_of txn label now) said → txn.writes ≢ []
    wants verdicts.Reads want d = absurd want
    wants (verdicts.Conflicts key) want d = absurd want
    wants verdicts.HeapIsFull want d = d.0
    wants verdicts.StatusIsFull want d = d.0
    wants verdicts.ClockEnds want d = d.0
    wants (verdicts.Queues time) want d = d.0
by-answer v new m txn label now rest (Err refused.Failed) stands machine moved works is rising decides answers = absurd answers.0
by-answer v new m txn label now rest (Err refused.Stranger) stands machine moved works is rising decides answers = absurd answers.0

own-step : (old new : TransactionsValue) (m : Machine Value) (txn : TxnValue) (label now : ℕ) (answer : Result Submitted SubmitFault) → StandsInMemory old m
    → IsMachine IsValue m → AreTxnWrites txn.state txn.snapshot txn.writes → label < 2 ^ 64
    → is_own old txn ≡ true → SubmitsOwn (over old txn.number) txn label now answer new → Goes new m (event_of m (submission_of txn label now) answer)
own-step old new m txn label now answer stands machine are range own submits =
    let gives = closes-so old m txn.number txn.snapshot stands (own-is old txn own) in
    let rest = gives.0 in
    let moved = gives.1 in
    let is = is-submitted old m txn label now rest stands machine are range own moved in
    let rising = order-rising m machine in
    let has = order-has old m stands machine in
    let recent = recent-open old m txn.number txn.snapshot stands (own-is old txn own) in
    let decided-so =
    decides (over old txn.number) m txn.snapshot label now txn.writes (order-sorted old m stands) (order-rises old m stands) has recent rising
    (order-last old m stands) in
    by-failure old.failed refl gives.2 is moved decided-so submits
  where
    by-failure : (b : Bool) → old.failed ≡ b → {rest : List ℕ} → StandsInMemory (over old txn.number) (record m { snapshots = rest })
        → IsSubmitted IsValue (commit_order m) (submission_of txn label now) → IsPermutation m.snapshots (txn.snapshot ∷ rest)
        → DecidesAs m (submission_of txn label now) (verdict (over old txn.number) txn.snapshot txn.writes now)
        → MatchBool b ((answer ≡ Err refused.Failed) × (new ≡ over old txn.number)) (AnswersSubmit (over old txn.number) txn label now answer new)
        → Goes new m (event_of m (submission_of txn label now) answer)
    by-failure true failed {rest} left is moved said submits =
        subst (λ (r : Result Submitted SubmitFault). Goes new m (event_of m (submission_of txn label now) r)) (sym submits.0) (
          record m { snapshots = rest },
          (sym stands.failed ∙ failed, (rest, moved, refl)),
          subst (λ (w : TransactionsValue). StandsInMemory w (record m { snapshots = rest })) (sym submits.1) left,
        )
    by-failure false works {rest} left is moved said submits =
        by-answer (over old txn.number) new m txn label now rest answer left
        (step-machine IsValue m (record m { snapshots = rest }) (Aborted txn.snapshot) machine (rest, moved, refl)) moved (sym stands.failed
        ∙ works) is are.rising (λ d same. subst (λ (x : Verdict). DecidesAs m (submission_of txn label now) x) same said) submits

submit-cases : (b : Bool) (old new : TransactionsValue) (m : Machine Value) (txn : TxnValue) (label now : ℕ) (answer : Result Submitted SubmitFault)
    → is_own old txn ≡ b → StandsInMemory old m → IsMachine IsValue m → AreTxnWrites txn.state txn.snapshot txn.writes → label < 2 ^ 64
    → MatchBool b (SubmitsOwn (over old txn.number) txn label now answer new) ((answer ≡ Err refused.Stranger) × (new ≡ old))
    → MatchBool b (Goes new m (event_of m (submission_of txn label now) answer)) (StandsInMemory new m)
submit-cases true old new m txn label now answer own stands machine are range submits =
    own-step old new m txn label now answer stands machine are range own submits
submit-cases false old new m txn label now answer other stands machine are range submits =
    subst (λ (v : TransactionsValue). StandsInMemory v m) (sym submits.1) stands

pub submit-step : (old new : TransactionsValue) (txn : TxnValue) (label now : ℕ) (answer : Result Submitted SubmitFault) (m : Machine Value)
    → StandsInMemory old m → IsMachine IsValue m → AreTxnWrites txn.state txn.snapshot txn.writes → label < 2 ^ 64
    → Submits old txn label now answer new → MatchBool (is_own old txn) (Goes new m (event_of m (submission_of txn label now) answer)) (StandsInMemory new m)
submit-step old new txn label now answer m stands machine are range submits =
    submit-cases (is_own old txn) old new m txn label now answer refl stands machine are range submits
