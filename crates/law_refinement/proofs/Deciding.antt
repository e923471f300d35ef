-- The verdict on a submit is the machine's decision.
use Rattle.std.proofs.Common.{◌≡◌, ◌≢◌, ℕ, ◌<◌, ◌≤◌, ◌+◌, ◌^◌, nat_lt, nat_le, max, Bool, true, false, cond, List, [], ◌∷◌, length, map, Option, None, Some}
use Rattle.std.proofs.Common.{refl, arith, ap, sym, ◌∙◌}
use Rattle.std.proofs.lemmas.Bool.Decides.{nat_tests}
use Rattle.history.specs.declared.key.Key.{Key}
use Rattle.history.specs.declared.key.KeyWrite.{KeyWrite}
use Rattle.history.specs.Histories.{last, HasRisingTimes}
use Rattle.history.specs.Machine.{Machine, commit_order}
use Rattle.history.specs.Submissions as submissions
use Rattle.history.specs.Submissions.{Submission, decision, conflict_of, commit_made, unless_conflict, timed}
use Rattle.law_image.specs.Values.{Value}
use Rattle.chains.specs.KeyWrites.{IsOrdered, forgotten}
use Rattle.group.specs.CommitOrder.{last_time}
use Rattle.group.specs.Values.{TransactionsValue, ordered, spare}
use Rattle.group.specs.Submits.{Verdict, Reads, Conflicts, HeapIsFull, StatusIsFull, ClockEnds, Queues, verdict, verdict_on_conflict, verdict_on_clock}
use Rattle.group.specs.Submits.{first_conflict, bodies_for, free_count, time_now}
use Rattle.law_refinement.specs.Standing.{HasWrites}
use Rattle.law_refinement.proofs.Waiting.{AreRising}
use Rattle.law_refinement.proofs.Conflicts.{conflicts-same}

-- what a verdict says of the machine
abbrev pub DecidesAs : Machine Value → Submission Value → Verdict → Type 0
DecidesAs m s Reads = (s.writes ≡ []) × (decision m s ≡ submissions.Reads)
DecidesAs m s (Conflicts key) = decision m s ≡ submissions.Conflicts key
DecidesAs m s HeapIsFull = (s.writes ≢ []) × (conflict_of m s ≡ None)
DecidesAs m s StatusIsFull = (s.writes ≢ []) × (conflict_of m s ≡ None)
DecidesAs m s ClockEnds = (s.writes ≢ []) × (decision m s ≡ submissions.Ends)
DecidesAs m s (Queues time) = (s.writes ≢ []) × (decision m s ≡ submissions.Queues (commit_made m s)) × (time ≡ (commit_made m s).time) × (time < 2 ^ 63)

-- what holds of each verdict but that nothing was written and a conflict
pub some-writes : {w : KeyWrite Value} {ws : List (KeyWrite Value)} → (w ∷ ws) ≢ []
some-writes {w} {ws} is = absurd cc

by-clock : (m : Machine Value) (s : Submission Value) (time : ℕ) → s.writes ≢ [] → decision m s ≡ timed (commit_made m s) → time ≡ (commit_made m s).time
    → (b : Bool) → nat_lt time (2 ^ 63) ≡ b → DecidesAs m s (cond b (Queues time) ClockEnds)
by-clock m s time some is same true low =
    let there : nat_lt (commit_made m s).time (2 ^ 63) ≡ true = ap (λ (t : ℕ). nat_lt t (2 ^ 63)) (sym same) ∙ low in
    (some, is ∙ rw there refl, same, (let test = low in grind (arith, nat_tests)))
by-clock m s time some is same false high =
    let there : nat_lt (commit_made m s).time (2 ^ 63) ≡ false = ap (λ (t : ℕ). nat_lt t (2 ^ 63)) (sym same) ∙ high in
    (some, is ∙ rw there refl)

by-room : (m : Machine Value) (s : Submission Value) (time : ℕ) → s.writes ≢ [] → conflict_of m s ≡ None → decision m s ≡ timed (commit_made m s) → time
    ≡ (commit_made m s).time
    → (full few : Bool) → DecidesAs m s (cond full HeapIsFull (cond few StatusIsFull (verdict_on_clock time)))
by-room m s time some none is same true few = (some, none)
by-room m s time some none is same false true = (some, none)
by-room m s time some none is same false false = by-clock m s time some is same (nat_lt time (2 ^ 63)) refl

by-conflict : (v : TransactionsValue) (m : Machine Value) (s : Submission Value) → last_time v.heads ≡ last (commit_order m) → s.writes ≢ [] → decision m s
    ≡ unless_conflict (conflict_of m s) (timed (commit_made m s)) → (o : Option Key) → conflict_of m s ≡ o
    → DecidesAs m s (verdict_on_conflict v s.writes s.now o)
by-conflict v m s times some is (Some key) found = is ∙ rw found refl
by-conflict v m s times some is None none =
    by-room m s (time_now v s.now) some none (is
    ∙ rw none refl) (ap (λ (t : ℕ). max (t + 1) s.now) times) (nat_lt (free_count v) (length (bodies_for v s.writes))) (nat_le (spare v) 2)

pub decides : (v : TransactionsValue) (m : Machine Value) (snapshot label now : ℕ) (writes : List (KeyWrite Value)) → IsOrdered (ordered v)
    → AreRising (ordered v) → HasWrites m.floors v.reclaimed (forgotten v.reclaimed (ordered v)) (commit_order m) → v.reclaimed ≤ snapshot
    → HasRisingTimes 0 (commit_order m) → last_time v.heads ≡ last (commit_order m)
    → DecidesAs m (record { snapshot = snapshot; label = label; now = now; writes = writes }) (verdict v snapshot writes now)
decides v m snapshot label now [] sorted rise has recent rising times = (refl, refl)
decides v m snapshot label now (w ∷ ws) sorted rise has recent rising times =
    let s : Submission Value = record { snapshot = snapshot; label = label; now = now; writes = w ∷ ws } in
    let same : first_conflict (ordered v) snapshot (w ∷ ws) ≡ conflict_of m s =
    conflicts-same snapshot m.floors v.reclaimed (ordered v) (commit_order m) (map (λ x. x.key) (w ∷ ws)) rising sorted rise has recent in
    by-conflict v m s times some-writes refl (first_conflict (ordered v) snapshot (w ∷ ws)) (sym same)
