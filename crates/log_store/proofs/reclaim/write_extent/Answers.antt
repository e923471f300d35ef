use Rattle.std.proofs.Common.{Ok, Err, refl}
use Rattle.std.proofs.lemmas.Result.{err_from_is_err_and}
use Rattle.log_store.proofs.Advancing.{second-extent}
use Rattle.log_store.proofs.reclaim.write_extent.Goals as goal

pub returns-in_err-write_next-2-clause-call : goal.returns-in_err-write_next-2-clause-call
returns-in_err-write_next-2-clause-call g c told =
    let p = err_from_is_err_and c.from_residual-in_err-write_next-2.result c.from_residual-in_err-write_next-2.ensures.1 in
    rw p.1 (second-extent c.args.anchors.now.left c.args.base.now.left (Err p.0) _ _ (c.is_written.ensures.yes (rw c.if-not-is_written.false refl))
    (c.is_written-2.ensures.no c.if-not-is_written-2.true) (λ q rest front. c.in_err-write_next-2.ensures.call q rest front told))

pub returns-then-not-is_written-2-clause-call : goal.returns-then-not-is_written-2-clause-call
returns-then-not-is_written-2-clause-call g c told =
    second-extent c.args.anchors.now.left c.args.base.now.left (Ok tt) _ _ (c.is_written.ensures.yes (rw c.if-not-is_written.false refl))
    (c.is_written-2.ensures.no c.if-not-is_written-2.true) (λ q rest front. c.in_ok-write_next-2.ensures.call q rest front told)
