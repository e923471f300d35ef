use Rattle.std.proofs.Common.{◌≡◌, ◌∙◌, List, drop, ap, sym}
use Rattle.deltas.specs.declared.«record».Record.{Record}
use Rattle.chains.specs.declared.bound.Bound.TheVariants.{After}
use Rattle.chains.specs.Bounds.{is_in}
use Rattle.chains.specs.KeyWrites.{KeyWrites}
use Rattle.vacuum.specs.Anchors.{olds_at}
use Rattle.vacuum.proofs.Keys.{found-rises}
use Rattle.vacuum.proofs.Standing.{olds-few}
use Rattle.vacuum.proofs.Anchors.{olds-none_left, olds-step}
use Rattle.vacuum.proofs.anchor_source.next_bound.Goals as goal

pub returns-in-None-clause-left : goal.returns-in-None-clause-left
returns-in-None-clause-left c =
    let none = olds-none_left c.args.mark c.args.bound c.args.frozen.now (sym c.in-None.ensures.is) in
    none ∙ sym (ap (λ (rs : List Record). drop 1 rs) none)

pub returns-in-Some-clause-left : goal.returns-in-Some-clause-left
returns-in-Some-clause-left c =
    let chain = c.in-Some.chain.now in
    let found = sym c.in-Some.ensures.is in
    let rises = found-rises (λ (x : KeyWrites). is_in c.args.bound x.key) c.args.frozen.now chain c.in-Some.ensures.rising found in
    let left : olds_at c.args.mark c.settled.result c.args.frozen.now ≡ olds_at c.args.mark (After chain.key) c.args.frozen.now =
    rw c.key.ensures at c.settled.ensures.left in
    left
    ∙ olds-step c.args.mark c.args.bound c.args.frozen.now chain c.in-Some.ensures.ordered found c.requires (olds-few c.args.mark chain rises)
