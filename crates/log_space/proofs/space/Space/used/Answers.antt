use Rattle.std.proofs.Common.{ap, arith, length, List}
use Rattle.log_space.proofs.Uses.{used_at_most}
use Rattle.log_space.proofs.space.Space.used.Goals as goal

pub returns-clause-most : goal.returns-clause-most
returns-clause-most c =
    let most = used_at_most c.self.inside.used.items in
    omega (arith, most, c.self.invariant.count_is, ap (λ (us : List _). length us) c.self.view_is)
