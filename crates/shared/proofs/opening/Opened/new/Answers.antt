use Rattle.std.proofs.Common.{rules, refl, ap, subst, sym, ◌∙◌, [], ◌∷◌}
use Rattle.law_any_store.specs.Standing.{Stands}
use Rattle.law_any_store.proofs.Memory.{memory-stands, last-published}
use Rattle.shared.specs.Seen.{SightValue, IsLater, seen_of}
use Rattle.shared.proofs.Fronts.{later-nothing}
use Rattle.shared.proofs.Passes.{begins}
use Rattle.shared.proofs.opening.Opened.new.Goals as goal

pub ruled-requires : goal.ruled-requires
ruled-requires g c = (search rules, (search rules, begins (0 ∷ []) refl))

pub publish_next-requires : goal.publish_next-requires
publish_next-requires g c =
    let first = c.in-Ok.ensures.1 in
    let on = ap (λ (v : SightValue). v.writes) first in
    let later = subst (λ (v : SightValue). IsLater v.seen (seen_of g.start)) (sym first) (later-nothing (seen_of g.start)) in
    let stands : Stands g.D.Disk.tells c.args.store g.start = search rules in
    let legal = (memory-stands _ _ _ stands).1.history in
    let time = c.last-last.ensures ∙ last-published _ _ _ stands in
    search rules
