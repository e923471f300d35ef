-- The numbers of the profiles.
use Rattle.std.specs.Prelude.{◌≡◌, refl, ℕ, zero, suc}
use Rattle.std.proofs.Common.{ap}
use Rattle.wire.specs.declared.profile.Rules.{Rules}
use Rattle.wire.specs.declared.profile.Rules.TheVariants.{FixedSlots, MoreSlots, OwnFloors}
use Rattle.wire.specs.declared.profile.Profile.TheInside.{Inside}

-- the number that a header has for them
abbrev pub number_of : Rules → ℕ
number_of FixedSlots = 1
number_of MoreSlots = 2
number_of OwnFloors = 3

-- the rules of a number; any number but 1 and 2 is read as 3
abbrev pub rules_of : ℕ → Rules
rules_of (suc zero) = FixedSlots
rules_of (suc (suc zero)) = MoreSlots
rules_of number = OwnFloors

same_rules : (rules : Rules) → rules_of (number_of rules) ≡ rules
same_rules FixedSlots = refl
same_rules MoreSlots = refl
same_rules OwnFloors = refl

-- a number gives its rules back
pub rules_again : (p : Inside) → record { rules = rules_of (number_of p.rules) } ≡ p
rules_again p = let made : Rules → Inside = λ rules. record { rules = rules } in ap made (same_rules p.rules)
