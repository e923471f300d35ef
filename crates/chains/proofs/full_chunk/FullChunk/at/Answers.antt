use Rattle.std.proofs.Common.{◌≡◌, ◌∙◌, ◌-◌, None, ℕ, suc, sym, subst, arith}
use Rattle.chains.specs.Writes.{Write, IsBegun}
use Rattle.chains.proofs.Begun.{value-none, value-begun}
use Rattle.chains.proofs.full_chunk.FullChunk.at.Goals as goal

pub returns-then-begun-eq0 : goal.returns-then-begun-eq0
returns-then-begun-eq0 c =
    sym (value-none c.args.time c.args.self.now (subst (λ (n : ℕ). IsBegun c.args.time c.args.self.now n) c.if-begun-eq0.true c.begun_by-begun.ensures.is))

pub returns : goal.returns
returns c =
    let n = c.begun_by-begun.result - 1 in
    let next : c.begun_by-begun.result ≡ suc n = omega arith in
    let begun : IsBegun c.args.time c.args.self.now (suc n) = subst (λ (m : ℕ). IsBegun c.args.time c.args.self.now m) next c.begun_by-begun.ensures.is in
    let some : Write = record { time = 0; write = None } in
    c.value.ensures some ∙ sym (value-begun None c.args.time c.args.self.now n some begun)
