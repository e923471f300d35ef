use Rattle.std.proofs.Common.{◌≡◌, ◌∷◌, ℕ, drop, subst, arith}
use Rattle.std.proofs.lemmas.Bool.Decides.{nat_tests}
use Rattle.log_writer.specs.Turns.{open_gate, written_parts}
use Rattle.log_extents.specs.Chains.{chain_of}
use Rattle.log_writer.proofs.writer.ChainWriter.write_extent.Goals as goal

pub returns-then-index-eq0-clause-call : goal.returns-then-index-eq0-clause-call
returns-then-index-eq0-clause-call g c = λ p rest is told.
    let zero : c.args.index ≡ 0 = grind (arith, nat_tests, c.if-index-eq0.true) in
    c.write_head.ensures.call p rest
    (subst (λ (k : ℕ). drop k (written_parts (chain_of open_gate c.args.self.now.link c.args.self.now.numbers c.args.self.now.content)) ≡ p
    ∷ rest) zero is) told
