use Rattle.std.proofs.Common.{◌≡◌, ◌∙◌, ◌-◌, None, ℕ, suc, ap, sym, subst, arith}
use Rattle.chains.specs.Writes.{Write, IsBegun}
use Rattle.chains.proofs.Begun.{value-none, value-begun}
use Rattle.chains.proofs.write.value_in.Goals as goal

pub returns-then-begun-eq0 : goal.returns-then-begun-eq0
returns-then-begun-eq0 c =
    sym (value-none c.args.time c.args.writes.now (subst (λ (n : ℕ). IsBegun c.args.time c.args.writes.now n) c.if-begun-eq0.true c.begun_by-begun.ensures))

pub returns : goal.returns
returns c =
    let n = c.begun_by-begun.result - 1 in
    let next : c.begun_by-begun.result ≡ suc n = omega arith in
    let begun : IsBegun c.args.time c.args.writes.now (suc n) = subst (λ (m : ℕ). IsBegun c.args.time c.args.writes.now m) next c.begun_by-begun.ensures in
    c.value.ensures ∙ ap (λ (w : Write). w.write) c.index-writes-begun.is
    ∙ sym (value-begun None c.args.time c.args.writes.now n c.index-writes-begun.result begun)
