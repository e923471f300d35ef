use Rattle.std.proofs.Common.{◌≡◌, ◌∙◌, ◌-◌, ℕ, suc, ap, sym, subst, arith, drop}
use Rattle.chains.specs.Writes.{IsBegun}
use Rattle.chains.proofs.Begun.{kept-later, kept-gone, kept-stands}
use Rattle.chains.proofs.write.ended_by.Goals as goal

pub returns-then-begun-eq0-clause-kept : goal.returns-then-begun-eq0-clause-kept
returns-then-begun-eq0-clause-kept c =
    kept-later c.args.mark c.args.writes.now (subst (λ (n : ℕ). IsBegun c.args.mark c.args.writes.now n) c.if-begun-eq0.true c.begun_by-begun.ensures)

pub returns-then-is_gone_by-clause-kept : goal.returns-then-is_gone_by-clause-kept
returns-then-is_gone_by-clause-kept c =
    let ws = c.args.writes.now in
    let n = c.begun_by-begun.result - 1 in
    let next : c.begun_by-begun.result ≡ suc n = omega arith in
    let begun = subst (λ (m : ℕ). IsBegun c.args.mark ws m) next c.begun_by-begun.ensures in
    kept-gone c.args.mark ws n c.index-writes-begun.result begun c.index-writes-begun.is (sym c.is_gone_by.ensures ∙ c.if-is_gone_by.true)
    ∙ ap (λ (m : ℕ). drop m ws) (sym next)

pub returns-clause-kept : goal.returns-clause-kept
returns-clause-kept c =
    let ws = c.args.writes.now in
    let n = c.begun_by-begun.result - 1 in
    let next : c.begun_by-begun.result ≡ suc n = omega arith in
    let begun = subst (λ (m : ℕ). IsBegun c.args.mark ws m) next c.begun_by-begun.ensures in
    kept-stands c.args.mark ws n c.index-writes-begun.result begun c.index-writes-begun.is (sym c.is_gone_by.ensures ∙ c.if-is_gone_by.false)
