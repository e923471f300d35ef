use Rattle.std.proofs.Common.{refl}
use Rattle.log_store.proofs.Lives.{chains-half, next-half, all-put}
use Rattle.log_store.proofs.reclaiming.put_chains.Goals as goal

pub keep_chains-requires-clause-half : goal.keep_chains-requires-clause-half
keep_chains-requires-clause-half c =
    chains-half c.args.room.now c.args.anchors.now c.args.base.now c.args.chains.now c.put_base.new.self _ c.requires.half c.put_base.ensures refl

pub keep_next-requires : goal.keep_next-requires
keep_next-requires c = record {
  half =
      next-half c.args.room.now c.args.anchors.now c.args.base.now c.args.chains.now c.put_base.new.self c.keep_chains.new.room c.requires.half
      c.put_base.ensures c.keep_chains.ensures;
}

pub returns : goal.returns
returns c =
    all-put c.args.room.now c.args.anchors.now c.args.base.now c.args.chains.now c.put_base.new.self c.keep_chains.new.room c.requires.half
    c.put_base.ensures c.keep_chains.ensures c.keep_next.new.self c.keep_next.ensures
