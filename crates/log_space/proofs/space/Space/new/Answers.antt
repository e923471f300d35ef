use Rattle.std.proofs.Common.{rules, sym}
use Rattle.log_space.proofs.Uses.{none_used}
use Rattle.log_space.proofs.space.Space.new.Goals as goal

pub invariant_of-result : goal.invariant_of-result
invariant_of-result c =
    let is = c.in_ok-used.ensures.items_if_clones_equal (λ y e. e) in
    record { used_len = search rules; passed_are = search rules; count_is = rw is (sym (none_used c.args.most)) }

pub returns : goal.returns
returns c = c.in_ok-used.ensures.items_if_clones_equal (λ y e. e)
