-- Of two transactions of one snapshot that write a key, one is queued at most.
use Rattle.std.proofs.Common.{◌≡◌, ⊎_elim, ◌<◌, ◌≤◌, ◌++◌, ℕ, suc, Bool, List, [], ◌∷◌, refl, ap, sym, subst, ◌∙◌, arith, append_assoc}
use Rattle.std.specs.Prelude.{Contains, IsPermutation}
use Rattle.std.specs.List.{AllByRecursion}
use Rattle.std.proofs.lemmas.List.Elements.{Contains-append_left, Contains-push}
use Rattle.std.proofs.lemmas.List.Sorted.{IsPermutation-sym, Contains-permutation}
use Rattle.history.specs.Conflicts.{IsConflict}
use Rattle.history.specs.Histories.{Commit, History, last}
use Rattle.history.specs.Machine.{Machine, commit_order, IsMachine, IsKeptSnapshot}
use Rattle.history.specs.Steps.{Step, Decided}
use Rattle.history.specs.Submissions.{Submission, Decision, Queues, Conflicts, decision, commit_made}
use Rattle.history.proofs.Histories.{rising-from_following, may_follow-behind, last_after-append}
use Rattle.history.proofs.Members.{Contains-head, Contains-nil, Contains-cons_cases}
use Rattle.law_image.specs.Values.{Value, IsValue}
use Rattle.run.specs.Runs.{submission}
use Rattle.run.specs.Traces.{Trace, machine_at, IsSubmit}
use Rattle.law_client.specs.Public.{Public}
use Rattle.law_client.specs.Conflicts.{ShareKey, FirstWins}
use Rattle.law_client.proofs.Reading.{last-later}

-- what holds of all holds of each
of-each : {X : Type 0} (P : X → Type 0) (xs : List X) (x : X) → AllByRecursion P xs → Contains xs x → P x
of-each P [] x all has = absurd (Contains-nil x has)
of-each P (y ∷ ys) x all has = ⊎_elim (λ (is : y ≡ x). subst P is all.0) (λ (more : Contains ys x). of-each P ys x all.1 more) (Contains-cons_cases y ys x has)

-- a snapshot that is given up is not later than what is published
snapshot-early : (m : Machine Value) (snapshot : ℕ) (rest : List ℕ) → IsMachine IsValue m → IsPermutation m.snapshots (snapshot ∷ rest)
    → snapshot ≤ last (commit_order m)
snapshot-early m snapshot rest is moved =
    let has : Contains m.snapshots snapshot =
    Contains-permutation (snapshot
    ∷ rest) m.snapshots snapshot (IsPermutation-sym m.snapshots (snapshot ∷ rest) moved) (Contains-head snapshot rest snapshot refl) in
    let kept : IsKeptSnapshot m.floors (last m.published) snapshot =
    of-each (IsKeptSnapshot m.floors (last m.published)) m.snapshots snapshot is.snapshots has in
    let behind = rising-from_following IsValue m.published m.queue (may_follow-behind IsValue [] m.published m.queue is.history) in
    omega (arith, kept.published, last_after-append 0 m.published m.queue, last-later (last m.published) m.queue behind)

-- what is queued stands at the end of the commit order
queued-order : (old new : Machine Value) (s : Submission Value) (c : Commit Value) → Step IsValue old (Decided s (Queues c)) new → commit_order new
    ≡ commit_order old ++ c ∷ []
queued-order old new s c step = ap commit_order step.3.2 ∙ sym (append_assoc old.published old.queue (c ∷ []))

-- and stays in it
queued-stays : Public → {tells : Bool} (t : Trace tells) (i j : ℕ) (c : Commit Value) → IsSubmit t i c → i < j → Contains (commit_order (machine_at t j)) c
queued-stays public {tells} t i j c submit low =
    let run = (public.runs tells t (suc i) j (omega (arith, low))).1 in
    let more = public.adds (machine_at t (suc i)) (machine_at t j) run.0 run.1 in
    let here : Contains (commit_order (machine_at t (suc i))) c =
    subst (λ (h : History Value). Contains h c)
    (sym (queued-order (machine_at t i) (machine_at t (suc i)) (submission submit.snapshot c.writes c.label submit.now) c submit.queued))
    (Contains-push (commit_order (machine_at t i)) c) in
    subst (λ (h : History Value). Contains h c) (sym more.1) (Contains-append_left (commit_order (machine_at t (suc i))) more.0 c here)

-- a submit that conflicts is not queued
not-queued : Public → (m : Machine Value) (s : Submission Value) (c : Commit Value) → IsConflict (commit_order m) s.snapshot s.writes → Queues c ≡ decision m s
    → ⊥
not-queued public m s c conflict is =
    let found = (public.conflicts m s).1 conflict in
    let no : Path (Decision Value) (Queues c) (Conflicts found.0) = is ∙ found.1 in
    absurd cc

pub first-wins : Public → FirstWins
first-wins public tells t i j k l time later low first_done second_done =
    let first = public.done tells t i k time first_done in
    let second = public.done tells t j l later second_done in
    let a : IsSubmit t i first.0 = first.3 in
    let b : IsSubmit t j second.0 = second.3 in
    let machine = (public.runs tells t i i (omega arith)).0 in
    let early = snapshot-early (machine_at t i) a.snapshot a.queued.3.0 machine a.queued.3.1 in
    let stamped : time ≡ (commit_made (machine_at t i) (submission a.snapshot first.0.writes first.0.label a.now)).time =
    sym first.1 ∙ ap (λ (c : Commit Value). c.time) a.made in
    let before : a.snapshot < time = omega (arith, early, stamped) in
    let apart : b.snapshot < time → ShareKey first.0.writes second.0.writes → ⊥ = λ missed shared.
    not-queued public (machine_at t j) (submission b.snapshot second.0.writes second.0.label b.now) second.0
    (record {
      commit = first.0;
      key = shared.0;
      committed = queued-stays public t i j first.0 a low;
      later = omega (arith, missed, first.1);
      written = shared.1;
      shared = shared.2;
    }) b.queued.2 in
    (first.0, second.0, a, b, first.1, second.1, before, apart, λ same shared. apart (omega (arith, same, before)) shared)
