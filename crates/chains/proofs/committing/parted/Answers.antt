use Rattle.std.proofs.Common.{take, drop, arith, rules}
use Rattle.std.proofs.lemmas.List.Sorted.{IsPartitionPoint-from_clause}
use Rattle.history.specs.declared.key.KeyWrite.{KeyWrite}
use Rattle.history.specs.Key.{key_lt}
use Rattle.chains.specs.Committing.{IsParted}
use Rattle.chains.specs.Writes.{Value}
use Rattle.chains.proofs.CommitParts.{parted-keys, parted-at}
use Rattle.chains.proofs.committing.parted.Goals as goal

pub returns : goal.returns
returns c =
    let ws = c.args.writes.now in
    let n = c.partition_point-count.result in
    let sides = parted-keys c.args.key ws c.requires in
    let point =
    IsPartitionPoint-from_clause (λ (w : KeyWrite Value). key_lt w.key c.args.key) ws n c.partition_point-count.ensures.partitioned sides
    (λ a r q k. search rules) in
    let halves : IsParted c.args.key ws (take n ws) (drop n ws) =
    parted-at c.args.key ws n c.requires c.partition_point-count.ensures.bound (λ k d h. point.0 k d (omega arith) h) (λ k d l h. point.1 k d l h) in
    rw (c.split_at.ensures.front, c.split_at.ensures.back) halves
