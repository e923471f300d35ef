-- A step of a group answers that nothing is to be done just where no commit waits.
use Rattle.std.proofs.Common.{◌≡◌, ◌↔◌, ℕ, suc, ◌<◌, ◌==◌, ◌&&◌, nat_lt, min, Bool, true, false, cond, List, [], ◌∷◌, length, Option, None, Some, Result, Ok}
use Rattle.std.proofs.Common.{Err, MatchBool, MatchOption, inl, inr, refl, sym, ap, ◌∙◌, subst, arith}
use Rattle.std.specs.Prelude.{is_some}
use Rattle.std.proofs.lemmas.Bool.Decides.{nat_tests}
use Rattle.history.specs.Histories.{History}
use Rattle.history.specs.Machine.{Machine}
use Rattle.law_image.specs.Values.{Value}
use Rattle.group.specs.Order.{StageFits, IsInOrder}
use Rattle.group.specs.Queued.{QueuedValue}
use Rattle.group.specs.Steps.{step_of, next_step, next_extent}
use Rattle.group.specs.Values.{TransactionsValue}
use Rattle.group.specs.declared.answers.Did.{Did}
use Rattle.group.specs.declared.answers.Did.TheVariants as did
use Rattle.group.specs.declared.answers.PumpFault.{PumpFault}
use Rattle.group.specs.declared.answers.PumpFault.TheVariants as pump
use Rattle.group.specs.declared.queued.StoredExtent.{StoredExtent}
use Rattle.group.specs.declared.stage.GroupStage.{GroupStage}
use Rattle.group.specs.declared.stage.GroupStage.TheVariants.{NoGroup, Storing, Stored, Turning}
use Rattle.group.specs.declared.stage.NextStep.{NextStep}
use Rattle.group.specs.declared.stage.NextStep.TheVariants as next
use Rattle.status.specs.SlotCalls.{SlotStage}
use Rattle.status.specs.SlotCalls as slots
use Rattle.status.specs.TurnState.{TurnState}
use Rattle.store.specs.Pumps.{Pumps, TakesStep, Steps, WritesExtent, TurnsSlot, IsTurned, MayBeginSlot, started}
use Rattle.store.specs.Values.{StoreValue, turn_of}
use Rattle.law_refinement.specs.Standing.{StandsInMemory, AllWait}
use Rattle.chains.specs.KeyWrites.{KeyWrites}
use Rattle.commits.specs.Values.{WaitingValue}
use Rattle.log_writer.specs.Turns.{Stage, Writing, Syncing, Opening, Settling, Done}
use Rattle.log_writer.specs.Writer.{WriterState}
use Rattle.log_writer.specs.Writer as writers
use Rattle.log_store.specs.Gates.{waits_to_open}
use Rattle.log_store.specs.Pumps as logs
use Rattle.log_store.specs.Pumps.{did_of}
use Rattle.log_store.specs.Values.{LogStoreValue, IsInStep, HasTurn}
use Rattle.log_store.specs.declared.pump.Did.{Did as LogDid}
use Rattle.log_store.specs.declared.pump.Did.TheVariants as log_did
use Rattle.any_store.specs.Calls as any_calls
use Rattle.any_store.specs.Steps.{slots_step, log_step}
use Rattle.any_store.specs.Values as any
use Rattle.any_store.specs.declared.engine.Engine.TheVariants.{Slots, Log}
use Rattle.any_store.specs.declared.steps.Did.{Did as AnyDid}
use Rattle.any_store.specs.declared.steps.Did.TheVariants as any_did
use Rattle.law_commits.specs.Standing as log_memory
use Rattle.law_any_store.specs.Standing.{Stands}
use Rattle.shared.proofs.Engines.{in-memory}

no-group : (s : GroupStage) (group : ℕ) (qs : List QueuedValue) → StageFits s group qs → group ≡ 0 → s ≡ NoGroup
no-group NoGroup group qs fits none = refl
no-group Stored group qs fits none = absurd (omega (arith, fits, none))
no-group Turning group qs fits none = absurd (omega (arith, fits, none))
no-group (Storing member extent) group qs fits none = absurd (omega (arith, fits.0, none))

-- nothing is asked for where no group stands
step-none : (s : GroupStage) (group : ℕ) → s ≡ NoGroup → step_of s group ≡ next.Idle
step-none s group is = ap (λ (x : GroupStage). step_of x group) is

not-idle : (b : Bool) → cond b next.WriteExtent next.SyncHeap ≡ next.Idle → ⊥
not-idle true is = absurd cc
not-idle false is = absurd cc

-- and something is where one stands
step-some : (s : GroupStage) (group : ℕ) (qs : List QueuedValue) → StageFits s group qs → 0 < group → step_of s group ≡ next.Idle → ⊥
step-some NoGroup group qs fits some is = absurd (omega (arith, fits, some))
step-some Stored group qs fits some is = absurd cc
step-some Turning group qs fits some is = absurd cc
step-some (Storing member extent) group qs fits some is = not-idle (nat_lt member group) is

next-none : (v : TransactionsValue) → v.queue ≡ [] → v.stage ≡ NoGroup → next_step v ≡ next.Idle
next-none v empty is = by-tests (v.group == 0) (nat_lt 0 (length v.queue)) (ap (λ (qs : List QueuedValue). nat_lt 0 (length qs)) empty)
  where
    by-tests : (a b : Bool) → b ≡ false
        → step_of (cond (a && b) (record v { group = min (length v.queue) 16; stage = Storing 0 0 }) v).stage
        (cond (a && b) (record v { group = min (length v.queue) 16; stage = Storing 0 0 }) v).group ≡ next.Idle
    by-tests true true low = absurd cc
    by-tests true false low = step-none v.stage v.group is
    by-tests false b low = step-none v.stage v.group is

next-some : (v : TransactionsValue) → IsInOrder v → 0 < length v.queue → next_step v ≡ next.Idle → ⊥
next-some v order some asks = by-tests (v.group == 0) refl (nat_lt 0 (length v.queue)) refl asks
  where
    by-tests : (a : Bool) → (v.group == 0) ≡ a → (b : Bool) → nat_lt 0 (length v.queue) ≡ b
        → step_of (cond (a && b) (record v { group = min (length v.queue) 16; stage = Storing 0 0 }) v).stage
        (cond (a && b) (record v { group = min (length v.queue) 16; stage = Storing 0 0 }) v).group ≡ next.Idle → ⊥
    by-tests true none true high is = not-idle (nat_lt 0 (min (length v.queue) 16)) is
    by-tests true none false low is = absurd (grind (arith, nat_tests))
    by-tests false group b any is =
        let stands : 0 < v.group = grind (arith, nat_tests) in
        step-some v.stage v.group v.queue order.stage_fits stands is

-- ---- the answer of a step that does something

turned : (stage : SlotStage) (turn : TurnState) (old new : StoreValue) (what : Did) → IsTurned stage turn old what new → what ≡ did.Idle → ⊥
turned slots.Begun turn old new what is idle = let no : did.BodyWritten ≡ did.Idle = sym is.0 ∙ idle in absurd cc
turned slots.BodyWritten turn old new what is idle = let no : did.BodySynced ≡ did.Idle = sym is.0 ∙ idle in absurd cc
turned slots.BodySynced turn old new what is idle = let no : did.GateWritten ≡ did.Idle = sym is.0 ∙ idle in absurd cc
turned slots.GateWritten turn old new what is idle = let no : Path Did (did.Published old.transactions.group) did.Idle = sym is.0 ∙ idle in absurd cc
turned slots.Opened turn old new what is idle = is

turns : (tells : Bool) (turn : TurnState) (old new : StoreValue) (r : Result Did PumpFault) → TurnsSlot tells turn old r new → r ≡ Ok did.Idle → ⊥
turns tells turn old new (Ok what) t is = let same : what ≡ did.Idle = cc in turned turn.stage turn old new what t.answer same
turns tells turn old new (Err why) t is = absurd cc

not-done : (what : Did) → (what ≡ did.Idle → ⊥) → (after : TransactionsValue) (old new : StoreValue) (r : Result Did PumpFault) → Steps what after old r new → r
    ≡ Ok did.Idle → ⊥
not-done what some after old new (Ok said) st is = let same : said ≡ did.Idle = cc in some (sym st.answer.0 ∙ same)
not-done what some after old new (Err why) st is = absurd cc

begins : (tells : Bool) (old new : StoreValue) (r : Result Did PumpFault) → MayBeginSlot tells old r new → r ≡ Ok did.Idle → ⊥
begins tells old new r (inl none) is = let no : Path (Result Did PumpFault) (Err pump.NoMemory) (Ok did.Idle) = sym none.1 ∙ is in absurd cc
begins tells old new r (inr begun) is = turns tells _ _ new r begun.turns is

takes : (tells : Bool) (old new : StoreValue) (r : Result Did PumpFault) (s : NextStep) → (s ≡ next.Idle → ⊥) → TakesStep tells s old r new → r ≡ Ok did.Idle
    → ⊥
takes tells old new r next.Idle some does is = some refl
takes tells old new r next.WriteExtent some does is = by-extent (next_extent old.transactions) does
  where
    by-extent : (o : Option StoredExtent) → MatchOption o ⊥ (λ stored. WritesExtent tells stored old r new) → ⊥
    by-extent None none = none
    by-extent (Some stored) writes = not-done did.WroteExtent (λ e. absurd cc) _ old new r writes.steps is
takes tells old new r next.SyncHeap some does is = not-done did.HeapSynced (λ e. absurd cc) _ old new r does.steps is
takes tells old new r next.BeginSlot some does is = by-job (is_some (turn_of old.job)) does
  where
    by-job : (b : Bool) → MatchBool b ((r ≡ Err pump.Busy) × (new ≡ old)) (MayBeginSlot tells old r new) → ⊥
    by-job true busy = let no : Path (Result Did PumpFault) (Err pump.Busy) (Ok did.Idle) = sym busy.0 ∙ is in absurd cc
    by-job false may = begins tells old new r may is
takes tells old new r next.AdvanceSlot some does is = by-turn old.turn does
  where
    by-turn : (o : Option TurnState) → MatchOption o ⊥ (λ turn. TurnsSlot tells turn old r new) → ⊥
    by-turn None none = none
    by-turn (Some turn) t = turns tells turn old new r t is

slots-idles : (tells : Bool) (v new : StoreValue) (m : Machine Value) (r : Result Did PumpFault) → StandsInMemory v.transactions m → IsInOrder v.transactions
    → Pumps tells v r new → m.failed ≡ false → (r ≡ Ok did.Idle) ↔ (m.queue ≡ [])
slots-idles tells v new m r stands order pumps works = by-lists v.transactions.queue m.queue refl stands.queue
  where
    step : TakesStep tells (next_step v.transactions) (started v) r new
    step = subst (λ (b : Bool). MatchBool b ((r ≡ Err pump.Failed) × (new ≡ v)) (TakesStep tells (next_step v.transactions) (started v) r new)) (stands.failed
        ∙ works) pumps

    idle : v.transactions.queue ≡ [] → r ≡ Ok did.Idle
    idle empty =
        let len : length v.transactions.queue ≡ 0 = ap (λ (qs : List QueuedValue). length qs) empty in
        let within = order.group_within in
        let none : v.transactions.stage ≡ NoGroup =
        no-group v.transactions.stage v.transactions.group v.transactions.queue order.stage_fits (omega (arith, len, within)) in
        (subst (λ (s : NextStep). TakesStep tells s (started v) r new) (next-none v.transactions empty none) step).0

    by-lists : (qs : List QueuedValue) (cs : History Value) → v.transactions.queue ≡ qs → AllWait v.transactions.reclaimed v.transactions.versions qs cs
        → (r ≡ Ok did.Idle) ↔ (cs ≡ [])
    by-lists [] [] empty all = (λ is. refl, λ none. idle empty)
    by-lists [] (c ∷ cs) empty all = absurd all
    by-lists (q ∷ qs) [] some all = absurd all
    by-lists (q ∷ qs) (c ∷ cs) some all =
        let len : length v.transactions.queue ≡ suc (length qs) = ap (λ (l : List QueuedValue). length l) some in (
          λ is. absurd (takes tells (started v) new r (next_step v.transactions) (next-some v.transactions order (omega (arith, len))) step is),
          λ none. absurd cc,
        )

-- ---- where the log lies in the heap

wrote-some : (stage : Stage) (group : ℕ) → did_of (writers.did stage) group ≡ log_did.Idle → ⊥
wrote-some (Writing done []) group is = absurd cc
wrote-some (Writing done (p ∷ rest)) group is = absurd cc
wrote-some Syncing group is = absurd cc
wrote-some Opening group is = absurd cc
wrote-some Settling group is = absurd cc
wrote-some Done group is = absurd cc

advances : (tells : Bool) (w : WriterState) (l l' : LogStoreValue) (r : Result LogDid PumpFault) → logs.Advances tells w l r l' → r ≡ Ok log_did.Idle → ⊥
advances tells w l l' (Ok what) a is = let same : what ≡ log_did.Idle = cc in wrote-some w.stage l.commits.group (sym a.answer.0 ∙ same)
advances tells w l l' (Err why) a is = absurd cc

advances-group : (tells : Bool) (l l' : LogStoreValue) (t : Option WriterState) (r : Result LogDid PumpFault) → logs.AdvancesGroup tells l t r l'
    → r ≡ Ok log_did.Idle → ⊥
advances-group tells l l' None r a is = a
advances-group tells l l' (Some w) r a is = advances tells w l l' r a is

begins-group : (tells : Bool) (l l' : LogStoreValue) (r : Result LogDid PumpFault) → logs.BeginsGroup tells l r l' → r ≡ Ok log_did.Idle → ⊥
begins-group tells l l' r (inl none) is = let no : Path (Result LogDid PumpFault) (Err pump.NoMemory) (Ok log_did.Idle) = sym none.0 ∙ is in absurd cc
begins-group tells l l' r (inr begun) is = advances-group tells begun.0 l' (begun.0).turn r begun.2 is

-- a job may bar it
begins-or-waits : (tells : Bool) (l l' : LogStoreValue) (r : Result LogDid PumpFault) → logs.BeginsOrWaits tells l r l' → r ≡ Ok log_did.Idle → ⊥
begins-or-waits tells l l' r does is = by-job (logs.bars_groups l.job) does
  where
    by-job : (b : Bool) → MatchBool b ((r ≡ Err pump.Busy) × (l' ≡ l)) (logs.BeginsGroup tells l r l') → ⊥
    by-job true busy = let no : Path (Result LogDid PumpFault) (Err pump.Busy) (Ok log_did.Idle) = sym busy.0 ∙ is in absurd cc
    by-job false begun = begins-group tells l l' r begun is

-- its gate may wait for a turn gate
opens-or-waits : (tells : Bool) (w : WriterState) (l l' : LogStoreValue) (r : Result LogDid PumpFault) → logs.TakesStep tells l (Some w) r l'
    → r ≡ Ok log_did.Idle → ⊥
opens-or-waits tells w l l' r does is = by-gate (waits_to_open l.reclaim w.stage) does
  where
    by-gate : (b : Bool) → MatchBool b ((r ≡ Err pump.Busy) × (l' ≡ l)) (logs.Advances tells w l r l') → ⊥
    by-gate true busy = let no : Path (Result LogDid PumpFault) (Err pump.Busy) (Ok log_did.Idle) = sym busy.0 ∙ is in absurd cc
    by-gate false takes = advances tells w l l' r takes is

-- as many commits wait as the machine's queue has
many-wait : (reclaimed : ℕ) (before : List KeyWrites) (ws : List WaitingValue) (cs : History Value) → log_memory.AllWait reclaimed before ws cs
    → length ws ≡ length cs
many-wait reclaimed before [] [] all = refl
many-wait reclaimed before [] (c ∷ cs) all = absurd all
many-wait reclaimed before (w ∷ ws) [] all = absurd all
many-wait reclaimed before (w ∷ ws) (c ∷ cs) all = ap suc (many-wait reclaimed w.after ws cs all.1)

empty-queue : (cs : History Value) → length cs ≡ 0 → cs ≡ []
empty-queue [] none = refl
empty-queue (c ∷ cs) none = absurd (omega (arith, none))

log-idles : (tells : Bool) (l l' : LogStoreValue) (m : Machine Value) (r : Result LogDid PumpFault) → log_memory.StandsInMemory l.commits m → IsInStep l
    → logs.Pumps tells l r l' → m.failed ≡ false → (r ≡ Ok log_did.Idle) ↔ (m.queue ≡ [])
log-idles tells l l' m r stands step pumps works = by-turn l.turn step.turn log_takes
  where
    many : length l.commits.queue ≡ length m.queue
    many = many-wait l.commits.reclaimed l.commits.versions l.commits.queue m.queue stands.queue

    log_takes : logs.TakesStep tells l l.turn r l'
    log_takes = subst (λ (b : Bool). MatchBool b ((r ≡ Err pump.Failed) × (l' ≡ l)) (logs.TakesStep tells l l.turn r l')) (stands.failed ∙ works) pumps

    by-queue : (b : Bool) → (length l.commits.queue == 0) ≡ b → MatchBool b ((r ≡ Ok log_did.Idle) × (l' ≡ l)) (logs.BeginsOrWaits tells l r l')
        → (r ≡ Ok log_did.Idle) ↔ (m.queue ≡ [])
    by-queue true none idle =
        let zero_is : length l.commits.queue ≡ 0 = grind (arith, nat_tests) in
        (λ is. empty-queue m.queue (omega (arith, many, zero_is)), λ empty. idle.0)
    by-queue false some begun = (
      λ is. absurd (begins-or-waits tells l l' r begun is),
      λ empty.
          let nothing : length m.queue ≡ 0 = ap (λ (h : History Value). length h) empty in
          let zero_is : length l.commits.queue ≡ 0 = omega (arith, many, nothing) in
          absurd (grind (arith, nat_tests)),
    )

    by-turn : (t : Option WriterState) → HasTurn l.commits.group t → logs.TakesStep tells l t r l' → (r ≡ Ok log_did.Idle) ↔ (m.queue ≡ [])
    by-turn None none does = by-queue (length l.commits.queue == 0) refl does
    by-turn (Some w) turning does =
        let group = turning.0 in
        let within = step.contents in (
          λ is. absurd (opens-or-waits tells w l l' r does is),
          λ empty.
              let nothing : length m.queue ≡ 0 = ap (λ (h : History Value). length h) empty in
              absurd (omega (arith, many, nothing, group, within)),
        )

-- ---- in either layout

-- nothing was to be done just where the engine says so
slots-said : (said : Result Did PumpFault) → slots_step said ≡ Ok any_did.Idle → said ≡ Ok did.Idle
slots-said (Ok did.Idle) is = refl
slots-said (Ok did.WroteExtent) is = absurd cc
slots-said (Ok did.HeapSynced) is = absurd cc
slots-said (Ok did.BodyWritten) is = absurd cc
slots-said (Ok did.BodySynced) is = absurd cc
slots-said (Ok did.GateWritten) is = absurd cc
slots-said (Ok (did.Published count)) is = absurd cc
slots-said (Err why) is = absurd cc

log-said : (said : Result LogDid PumpFault) → log_step said ≡ Ok any_did.Idle → said ≡ Ok log_did.Idle
log-said (Ok log_did.Idle) is = refl
log-said (Ok log_did.WroteExtent) is = absurd cc
log-said (Ok log_did.GateClosed) is = absurd cc
log-said (Ok log_did.HeapSynced) is = absurd cc
log-said (Ok log_did.GateWritten) is = absurd cc
log-said (Ok (log_did.Published count)) is = absurd cc
log-said (Err why) is = absurd cc

pub idles : (tells : Bool) (v new : any.StoreValue) (m : Machine Value) (r : Result AnyDid PumpFault) → Stands tells v m → any_calls.Pumps tells v r new
    → m.failed ≡ false → (r ≡ Ok any_did.Idle) ↔ (m.queue ≡ [])
idles tells (Slots s) (Slots s') m r stands pumps works =
    let same = slots-idles tells s s' m pumps.0 stands.memory stands.order pumps.1 works in (
      λ is. same.0 (slots-said pumps.0 (sym pumps.2 ∙ is)),
      λ empty. pumps.2 ∙ ap slots_step (same.1 empty),
    )
idles tells (Slots s) (Log l') m r stands pumps works = absurd pumps
idles tells (Log l) (Slots s') m r stands pumps works = absurd pumps
idles tells (Log l) (Log l') m r stands pumps works =
    let same = log-idles tells l l' m pumps.0 (in-memory tells (Log l) m stands) stands.0 pumps.1 works in (
      λ is. same.0 (log-said pumps.0 (sym pumps.2 ∙ is)),
      λ empty. pumps.2 ∙ ap log_step (same.1 empty),
    )
