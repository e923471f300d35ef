use Rattle.std.proofs.Common.{◌≡◌, ◌∙◌, ℕ, List, ap}
use Rattle.log_recovery.specs.Live.{LiveChainValue}
use Rattle.log_room.specs.Reserves.{with_kept}
use Rattle.log_store.specs.Reclaiming.{all_kept}
use Rattle.log_store.proofs.Lives.{kept-next, kept-half, kept-left}
use Rattle.log_store.proofs.reclaiming.keep_chains.Goals as goal

pub loop-first-preserved : goal.loop-first-preserved
loop-first-preserved c =
    let room = c.loop-first.room in
    let first = c.in-Some.first.now in
    let front = c.in-Some.ensures.cases.0 in
    let kept : c.keep.new.self ≡ with_kept room first.numbers =
    c.keep.ensures ∙ ap (λ (ns : List ℕ). with_kept room ns) (c.deref.ensures.value ∙ ap (λ (x : LiveChainValue). x.numbers) c.first.view_is) in
    record {
      numbers = (kept-left c.loop-first.rest.now c.in-Some.after.now first front c.loop-first.invariant.numbers).1;
      half = kept-half room c.keep.new.self c.loop-first.rest.now c.in-Some.after.now first front kept c.loop-first.invariant.half;
      kept =
          kept-next room c.keep.new.self (all_kept c.args.room.now c.args.chains.now) c.loop-first.rest.now c.in-Some.after.now first front kept
          c.loop-first.invariant.kept;
    }
