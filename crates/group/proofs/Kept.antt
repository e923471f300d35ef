-- What each step keeps of the order of the transactions.
use Rattle.std.proofs.Common.{◌≡◌, ℕ, zero, suc, ◌+◌, ◌-◌, ◌<◌, ◌≤◌, ◌==◌, nat_lt, min, cond, true, false, List, [], ◌∷◌, ◌++◌, length, take, drop, slice_get}
use Rattle.std.proofs.Common.{Option, None, Some, MatchOption, refl, arith, ap, subst, inl, inr}
use Rattle.std.specs.List.{AllByRecursion, flat_map}
use Rattle.std.proofs.lemmas.Bool.{cases_lt}
use Rattle.std.proofs.lemmas.Bool.Decides.{nat_tests}
use Rattle.std.proofs.lemmas.List.{length-drop}
use Rattle.chains.specs.KeyWrites.{KeyWrites, latest}
use Rattle.extents.specs.Usages.{AreOut}
use Rattle.group.specs.CommitOrder as orders
use Rattle.group.specs.Queued.{QueuedValue, numbers_of}
use Rattle.group.specs.declared.stage.GroupStage.{GroupStage}
use Rattle.group.specs.declared.stage.GroupStage.TheVariants.{NoGroup, Storing, Stored, Turning}
use Rattle.group.specs.declared.stage.NextStep.TheVariants as steps
use Rattle.group.specs.Values.{TransactionsValue, versions_after, claimed, claimed_by}
use Rattle.group.specs.Order.{StageFits, HasExtent, AreBy, IsInOrder}
use Rattle.group.specs.Steps.{step_of, due, grouped, place_behind, stage_behind, wrote_extent, at_stage, published}

-- ---- commits that wait

pub has_extent : (queue : List QueuedValue) (k : ℕ) (q : QueuedValue) → AllByRecursion HasExtent queue → slice_get queue k ≡ Some q → 0 < length q.stored
has_extent [] k q all found = absurd cc
has_extent (x ∷ xs) zero q all found = let same : x ≡ q = cc in subst (λ (z : QueuedValue). 0 < length z.stored) same all.0
has_extent (x ∷ xs) (suc k) q all found = has_extent xs k q all.1 found

pub all-drop : (n : ℕ) (queue : List QueuedValue) → AllByRecursion HasExtent queue → AllByRecursion HasExtent (drop n queue)
all-drop zero queue all = all
all-drop (suc n) [] all = tt
all-drop (suc n) (x ∷ xs) all = all-drop n xs all.1

pub all-push : (queue : List QueuedValue) (q : QueuedValue) → AllByRecursion HasExtent queue → HasExtent q → AllByRecursion HasExtent (queue ++ q ∷ [])
all-push [] q all last = (last, tt)
all-push (x ∷ xs) q all last = (all.0, all-push xs q all.1 last)

pub by-rest : (n time : ℕ) (versions : List KeyWrites) (qs : List QueuedValue) → AreBy time versions qs
    → AreBy time (versions_after versions (take n qs)) (drop n qs)
by-rest zero time versions qs by = by
by-rest (suc n) time versions [] by = by
by-rest (suc n) time versions (x ∷ xs) by = by-rest n time x.after xs (by.1.0, by.1.1)

pub by-last : (time : ℕ) (versions : List KeyWrites) (qs : List QueuedValue) → AreBy time versions qs → latest (versions_after versions qs) ≤ time
by-last time versions [] by = by.0
by-last time versions (x ∷ xs) by = by-last time x.after xs (by.1.0, by.1.1)

all-later : (time later : ℕ) (qs : List QueuedValue) → time ≤ later → AllByRecursion (λ (q : QueuedValue). latest q.after ≤ time) qs
    → AllByRecursion (λ (q : QueuedValue). latest q.after ≤ later) qs
all-later time later [] le all = tt
all-later time later (x ∷ xs) le all = (let first = all.0 in omega (arith, first, le), all-later time later xs le all.1)

all-with : (time : ℕ) (qs : List QueuedValue) (q : QueuedValue) → AllByRecursion (λ (q : QueuedValue). latest q.after ≤ time) qs → latest q.after ≤ time
    → AllByRecursion (λ (q : QueuedValue). latest q.after ≤ time) (qs ++ q ∷ [])
all-with time [] q all last = (last, tt)
all-with time (x ∷ xs) q all last = (all.0, all-with time xs q all.1 last)

pub by-push : (time later : ℕ) (versions : List KeyWrites) (qs : List QueuedValue) (q : QueuedValue) → time ≤ later → AreBy time versions qs
    → latest q.after ≤ later → AreBy later versions (qs ++ q ∷ [])
by-push time later versions qs q le by last = (let first = by.0 in omega (arith, first, le), all-with later qs q (all-later time later qs le by.1) last)

pub pending-later : (time later : ℕ) (o : Option (List KeyWrites)) → time ≤ later → MatchOption o (Unit {0}) (λ versions. latest versions ≤ time)
    → MatchOption o (Unit {0}) (λ versions. latest versions ≤ later)
pending-later time later None le by = tt
pending-later time later (Some versions) le by = omega (arith, le, by)

-- ---- stages

-- a stage that asks for an extent is at a member
step-write : (member extent group : ℕ) → step_of (Storing member extent) group ≡ steps.WriteExtent → member < group
step-write member extent group asks = elim (cases_lt member group) [
  | inl less ↦ less
  | inr behind ↦
      let no : nat_lt member group ≡ false = grind (arith, nat_tests) in
      let other : step_of (Storing member extent) group ≡ steps.SyncHeap = rw no refl in
      absurd cc
]

-- the next place fits too
place_behind-fits : (group : ℕ) (queue : List QueuedValue) (member extent : ℕ) (o : Option QueuedValue) → slice_get queue member ≡ o
    → AllByRecursion HasExtent queue → 0 < group → member < group → StageFits (place_behind o member extent) group queue
place_behind-fits group queue member extent None found all some less = (some, omega arith, λ low q there. has_extent queue (member + 1) q all there)
place_behind-fits group queue member extent (Some q) found all some less = elim (cases_lt (extent + 1) (length q.stored)) [
  | inl more ↦
      let test : nat_lt (extent + 1) (length q.stored) ≡ true = grind (arith, nat_tests) in
      rw test (some, omega arith, λ low p there. let same : q ≡ p = cc in subst (λ (z : QueuedValue). extent + 1 < length z.stored) same more)
  | inr last ↦
      let test : nat_lt (extent + 1) (length q.stored) ≡ false = grind (arith, nat_tests) in
      rw test (some, omega arith, λ low p there. has_extent queue (member + 1) p all there)
]

wrote-fits : (s : GroupStage) (group : ℕ) (queue : List QueuedValue) → AllByRecursion HasExtent queue → StageFits s group queue
    → step_of s group ≡ steps.WriteExtent → StageFits (stage_behind queue s) group queue
wrote-fits NoGroup group queue all fits asks = absurd cc
wrote-fits Stored group queue all fits asks = absurd cc
wrote-fits Turning group queue all fits asks = absurd cc
wrote-fits (Storing member extent) group queue all fits asks =
    place_behind-fits group queue member extent (slice_get queue member) refl all fits.0 (step-write member extent group asks)

claimed-place : (o : Option QueuedValue) (member extent group waiting : ℕ) → claimed_by (place_behind o member extent) group waiting ≡ waiting
claimed-place None member extent group waiting = refl
claimed-place (Some q) member extent group waiting =
    elim (nat_lt (extent + 1) (length q.stored)) as (λ b. claimed_by (cond b (Storing member (extent + 1)) (Storing (member + 1) 0)) group waiting
    ≡ waiting) [ true ↦ refl | false ↦ refl ]

claimed-behind : (queue : List QueuedValue) (s : GroupStage) (group waiting : ℕ) → claimed_by (stage_behind queue s) group waiting ≡ claimed_by s group waiting
claimed-behind queue NoGroup group waiting = refl
claimed-behind queue Stored group waiting = refl
claimed-behind queue Turning group waiting = refl
claimed-behind queue (Storing member extent) group waiting = claimed-place (slice_get queue member) member extent group waiting

sync-fits : (s : GroupStage) (group : ℕ) (queue : List QueuedValue) → StageFits s group queue → step_of s group ≡ steps.SyncHeap → 0 < group
sync-fits NoGroup group queue fits asks = absurd cc
sync-fits Stored group queue fits asks = absurd cc
sync-fits Turning group queue fits asks = absurd cc
sync-fits (Storing member extent) group queue fits asks = fits.0

sync-claimed : (s : GroupStage) (group waiting : ℕ) → step_of s group ≡ steps.SyncHeap → claimed_by s group waiting ≡ waiting
sync-claimed NoGroup group waiting asks = absurd cc
sync-claimed Stored group waiting asks = absurd cc
sync-claimed Turning group waiting asks = absurd cc
sync-claimed (Storing member extent) group waiting asks = refl

begin-is : (s : GroupStage) (group : ℕ) → step_of s group ≡ steps.BeginSlot → s ≡ Stored
begin-is NoGroup group asks = absurd cc
begin-is Stored group asks = refl
begin-is Turning group asks = absurd cc
begin-is (Storing member extent) group asks =
    elim (cases_lt member group) [
      | inl less ↦
          let test : nat_lt member group ≡ true = grind (arith, nat_tests) in
          let other : step_of (Storing member extent) group ≡ steps.WriteExtent = rw test refl in
          absurd cc
      | inr behind ↦
          let test : nat_lt member group ≡ false = grind (arith, nat_tests) in
          let other : step_of (Storing member extent) group ≡ steps.SyncHeap = rw test refl in
          absurd cc
    ]

pub advance-is : (s : GroupStage) (group : ℕ) → step_of s group ≡ steps.AdvanceSlot → s ≡ Turning
advance-is NoGroup group asks = absurd cc
advance-is Stored group asks = absurd cc
advance-is Turning group asks = refl
advance-is (Storing member extent) group asks =
    elim (cases_lt member group) [
      | inl less ↦
          let test : nat_lt member group ≡ true = grind (arith, nat_tests) in
          let other : step_of (Storing member extent) group ≡ steps.WriteExtent = rw test refl in
          absurd cc
      | inr behind ↦
          let test : nat_lt member group ≡ false = grind (arith, nat_tests) in
          let other : step_of (Storing member extent) group ≡ steps.SyncHeap = rw test refl in
          absurd cc
    ]

-- ---- the steps

no_group-claims : (s : GroupStage) (group : ℕ) (queue : List QueuedValue) → StageFits s group queue → group ≡ 0
    → claimed_by s group (length queue) ≡ length queue
no_group-claims NoGroup group queue fits none = refl
no_group-claims Stored group queue fits none = refl
no_group-claims Turning group queue fits none = absurd (omega (arith, fits, none))
no_group-claims (Storing member extent) group queue fits none = refl

group_begins : (v : TransactionsValue) → IsInOrder v → v.group ≡ 0 → 0 < length v.queue
    → IsInOrder (record v { group = min (length v.queue) 16; stage = Storing 0 0 })
group_begins v order none some =
    let claims = no_group-claims v.stage v.group v.queue order.stage_fits none in record {
      split = order.split;
      latest = order.latest;
      pending = order.pending;
      group_within = omega arith;
      group_few = omega arith;
      stage_fits = (omega arith, omega arith, λ low q there. has_extent v.queue 0 q order.stored there);
      stored = order.stored;
      out = order.out;
      room = omega (arith, claims, order.room);
      slots_few = order.slots_few;
    }

pub keeps-grouped : (v : TransactionsValue) → IsInOrder v → IsInOrder (grouped v)
keeps-grouped v order =
    elim (cases_lt 0 v.group) [
      | inl some ↦ let test : (v.group == 0) ≡ false = grind (arith, nat_tests) in rw test order
      | inr none ↦
          let test : (v.group == 0) ≡ true = grind (arith, nat_tests) in
          elim (cases_lt 0 (length v.queue)) [
            | inl waits ↦
                let waiting : nat_lt 0 (length v.queue) ≡ true = grind (arith, nat_tests) in
                rw (test, waiting) (group_begins v order (omega arith) waits)
            | inr idle ↦ let empty : nat_lt 0 (length v.queue) ≡ false = grind (arith, nat_tests) in rw (test, empty) order
          ]
    ]

pub keeps-wrote : (v : TransactionsValue) → IsInOrder v → due v ≡ steps.WriteExtent → IsInOrder (wrote_extent v)
keeps-wrote v order asks =
    let claims = claimed-behind v.queue v.stage v.group (length v.queue) in record {
      split = order.split;
      latest = order.latest;
      pending = order.pending;
      group_within = order.group_within;
      group_few = order.group_few;
      stage_fits = wrote-fits v.stage v.group v.queue order.stored order.stage_fits asks;
      stored = order.stored;
      out = order.out;
      room = omega (arith, claims, order.room);
      slots_few = order.slots_few;
    }

pub keeps-synced : (v : TransactionsValue) → IsInOrder v → due v ≡ steps.SyncHeap → IsInOrder (at_stage Stored v)
keeps-synced v order asks =
    let claims = sync-claimed v.stage v.group (length v.queue) asks in record {
      split = order.split;
      latest = order.latest;
      pending = order.pending;
      group_within = order.group_within;
      group_few = order.group_few;
      stage_fits = sync-fits v.stage v.group v.queue order.stage_fits asks;
      stored = order.stored;
      out = order.out;
      room = omega (arith, claims, order.room);
      slots_few = order.slots_few;
    }

pub keeps-begun : (v : TransactionsValue) → IsInOrder v → due v ≡ steps.BeginSlot → IsInOrder (at_stage Turning v)
keeps-begun v order asks =
    let is : v.stage ≡ Stored = begin-is v.stage v.group asks in
    let fits : 0 < v.group = subst (λ (s : GroupStage). StageFits s v.group v.queue) is order.stage_fits in
    let claims : claimed v ≡ length v.queue = ap (λ (s : GroupStage). claimed_by s v.group (length v.queue)) is in record {
      split = order.split;
      latest = order.latest;
      pending = order.pending;
      group_within = order.group_within;
      group_few = order.group_few;
      stage_fits = fits;
      stored = order.stored;
      out = order.out;
      room = omega (arith, fits, claims, order.room, order.group_within);
      slots_few = order.slots_few;
    }

pub keeps-published : (v : TransactionsValue) → IsInOrder v → due v ≡ steps.AdvanceSlot
    → AreOut (published v).usages (flat_map numbers_of (drop v.group v.queue) ++ v.reserved) → IsInOrder (published v)
keeps-published v order asks out =
    let is : v.stage ≡ Turning = advance-is v.stage v.group asks in
    let claims : claimed v ≡ 1 + (length v.queue - v.group) = ap (λ (s : GroupStage). claimed_by s v.group (length v.queue)) is in
    let rest = length-drop v.group v.queue in record {
      split = omega (arith, order.split, rest, order.group_within);
      latest = by-rest v.group (orders.last_time v.heads) v.versions v.queue order.latest;
      pending = order.pending;
      group_within = omega arith;
      group_few = omega arith;
      stage_fits = refl;
      stored = all-drop v.group v.queue order.stored;
      out = out;
      room = omega (arith, claims, rest, order.room, order.group_within);
      slots_few = order.slots_few;
    }
