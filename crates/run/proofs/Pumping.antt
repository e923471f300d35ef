-- A step of a group.
use Rattle.std.proofs.Common.{◌≡◌, ℕ, Bool, true, false, List, [], ◌∷◌, ◌++◌, Option, Result, Ok, Err, MatchBool, refl, sym, ap, subst, inl, inr}
use Rattle.std.specs.Prelude.{IsTrue, IfErr}
use Rattle.disk.specs.Areas.{AreSound}
use Rattle.history.specs.Machine.{Machine}
use Rattle.history.specs.Steps as steps
use Rattle.law_image.specs.Values.{Value, IsValue}
use Rattle.group.specs.CommitOrder.{is_awaited}
use Rattle.group.specs.declared.commit_order.CommitHead.{CommitHead}
use Rattle.group.specs.declared.answers.PumpFault.{PumpFault}
use Rattle.group.specs.declared.answers.PumpFault.TheVariants as pump
use Rattle.snapshot.specs.OpenTable.{snapshot_of}
use Rattle.commits.specs.Values.{CommitsValue}
use Rattle.any_store.specs.declared.steps.Did.{Did}
use Rattle.any_store.specs.Values.{StoreValue, is_log, commits_of, disk_of}
use Rattle.any_store.specs.Calls as stores
use Rattle.law_any_store.specs.Calls.{pumped_in, RunsTo}
use Rattle.law_any_store.specs.Leaving.{Leaves}
use Rattle.law_any_store.specs.Standing.{Stands}
use Rattle.law_any_store.proofs.Memory.{memory-stands}
use Rattle.law_any_store.proofs.Calls.{pump-stands}
use Rattle.law_any_store.proofs.Leaving.{pump-leaves}
use Rattle.law_any_store.proofs.Names.{pump-names}
use Rattle.law_any_store.proofs.Views as lasting
use Rattle.run.specs.declared.calls.Call.TheVariants as call
use Rattle.run.specs.declared.calls.Answer.TheVariants as answer
use Rattle.run.specs.declared.held.Held.{Held}
use Rattle.run.specs.declared.held.Held.TheVariants as held
use Rattle.run.specs.Worlds.{World, IsWorld, moved, same}
use Rattle.run.specs.Runs.{Does, Goes, Leads, Follows, IsStepFault}
use Rattle.run.proofs.Runs.{no-step}
use Rattle.run.proofs.Places.{GoesOn, goes_on-same, run-goes_on, Keeps}
use Rattle.run.proofs.Steps.{kept-world}

-- ---- refusals

-- a fault is one of three
pub any-fault : (why : PumpFault) → IsStepFault why
any-fault pump.Failed = inl refl
any-fault pump.Busy = inr (inl refl)
any-fault pump.NoMemory = inr (inr refl)

pump-refused : (r : Result Did PumpFault) → IfErr r IsStepFault
pump-refused (Ok what) = tt
pump-refused (Err why) = any-fault why

pub pump-keeps : (v v' : CommitsValue) (x : Held) → Leaves v v' → Keeps v v' x
pump-keeps v v' held.Nothing leaves = tt
pump-keeps v v' (held.Transaction t) leaves = (leaves.mark, ap (λ (o : List (Option ℕ)). snapshot_of t.number o) leaves.opened)
pump-keeps v v' (held.Ticket t) leaves = (leaves.mark, λ waits. subst (λ (heads : List CommitHead). is_awaited t.time heads ≡ true) (sym leaves.heads) waits)
pump-keeps v v' (held.View t) leaves = leaves.mark

pump-leads : (tells : Bool) (v v' : StoreValue) (xs : List Held) (r : Result Did PumpFault) → (IsTrue tells → AreSound (disk_of v').areas)
    → stores.Pumps tells v r v'
    → Leads tells v xs call.Pump (answer.Pump r) v' (xs ++ held.Nothing ∷ [])
pump-leads tells v v' xs r sound pumps w is =
    by-failure w.machine.failed refl (pump-refused r) (pump-stands tells v v' r w.machine is.stands sound pumps)
  where
    world : (m : Machine Value) → GoesOn w.machine.published m.published → Stands tells v' m
        → IsWorld tells v' (xs ++ held.Nothing ∷ []) (same (moved w m))
    world m goes stands =
        kept-world tells v v' xs w m is
        (record { goes = lasting.pump-goes tells v v' r w.machine is.stands pumps; names = pump-names tells v v' r pumps }) stands goes
        (λ x. pump-keeps (commits_of v) (commits_of v') x (pump-leaves tells v v' r pumps))

    Done : Bool → Type 0
    Done b = MatchBool b ((r ≡ Err pump.Failed) × Stands tells v' w.machine) (RunsTo tells w.machine (pumped_in (is_log v) w.machine r) v')

    Does-so : Bool → World → Type 0
    Does-so b next = MatchBool b ((r ≡ Err pump.Failed) × (next ≡ same w)) ((after : Machine Value) × IfErr r IsStepFault
        × steps.Run IsValue w.machine (pumped_in w.in_heap w.machine r) after × (next ≡ same (moved w after)))

    by-failure : (b : Bool) → w.machine.failed ≡ b → IfErr r IsStepFault → Done b
        → (next : World) × Does tells w call.Pump (answer.Pump r) next × Follows w.machine next.machine × IsWorld tells v' (xs ++ held.Nothing ∷ []) next
    by-failure true failed refused did = (
      same w,
      subst (λ (b : Bool). Does-so b (same w)) (sym failed) (did.0, refl),
      no-step w.machine,
      world w.machine (goes_on-same w.machine.published) did.1,
    )
    by-failure false works refused did =
        let events = pumped_in (is_log v) w.machine r in
        let run : steps.Run IsValue w.machine (pumped_in w.in_heap w.machine r) did.after =
        subst (λ (b : Bool). steps.Run IsValue w.machine (pumped_in b w.machine r) did.after) (sym is.layout) did.run in
        let machine = (memory-stands tells v' did.after did.stands).1 in (
          same (moved w did.after),
          subst (λ (b : Bool). Does-so b (same (moved w did.after))) (sym works) (did.after, refused, run, refl),
          (events, did.run),
          world did.after (run-goes_on w.machine did.after events machine did.run) did.stands,
        )

pub pump-goes : (tells : Bool) (v v' : StoreValue) (xs : List Held) (r : Result Did PumpFault) → (IsTrue tells → AreSound (disk_of v').areas)
    → stores.Pumps tells v r v'
    → Goes tells v xs call.Pump (answer.Pump r) v' (xs ++ held.Nothing ∷ [])
pump-goes tells v v' xs r sound pumps = record { makes = inr (r, pumps, (refl, refl)); leads = pump-leads tells v v' xs r sound pumps }
