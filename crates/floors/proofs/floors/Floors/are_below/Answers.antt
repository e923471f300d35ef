use Rattle.std.proofs.Common.{rules, ◌≡◌, nat_lt, ap, sym, subst, ◌∙◌, Option, None, Some}
use Rattle.std.specs.Prelude.{IsTrue, ◌↔◌, ◌&&◌}
use Rattle.floors.specs.Floors.{AreBelow, AreRising, all_below}
use Rattle.floors.proofs.Owns.{below-one, below-every}
use Rattle.floors.proofs.floors.Floors.are_below.Goals as goal

pub returns-in-Some : goal.returns-in-Some
returns-in-Some c = rw c.in-Some.is (below-one c.args.self.now c.in-Some.relation c.args.floor _ (ap (λ t. nat_lt t c.args.floor) c.at.ensures))

pub returns-in-None : goal.returns-in-None
returns-in-None c =
    let floors = c.args.self.now in
    let is : c.every_below.result ≡ (nat_lt floors.every c.args.floor && all_below c.args.floor floors.own) =
    c.every_below.ensures ∙ ap (λ t. nat_lt t c.args.floor && all_below c.args.floor c.own.result.now) c.every.ensures
    ∙ ap (λ own. nat_lt floors.every c.args.floor && all_below c.args.floor own) c.own.ensures.is in
    rw (c.in-None.is, is) (below-every floors c.args.floor (subst AreRising c.own.ensures.is c.own.ensures.rising))
