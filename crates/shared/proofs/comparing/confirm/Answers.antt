use Rattle.std.proofs.Common.{rules, ◌∙◌, sym, ap}
use Rattle.shared.specs.Seen.{SightValue}
use Rattle.shared.proofs.Passes.{forks, hears, confirms}
use Rattle.shared.proofs.comparing.confirm.Goals as goal

pub split_pass-mine-requires : goal.split_pass-mine-requires
split_pass-mine-requires g c = (search rules, (search rules, (c.requires.cell.0, forks _ _)))

pub join_pass-requires : goal.join_pass-requires
join_pass-requires g c =
    let s = c.split_pass-mine.ensures.given in
    let r = c.requires in
    (search rules, (search rules, ((r.cell.1, s.0 ∙ r.cell.0 ∙ sym r.cell.1, s.2), hears _ _ _ _ r.writes (ap (λ (v : SightValue). v.writes) s.1))))

pub load_as-requires : goal.load_as-requires
load_as-requires g c =
    let r = c.requires in
    let j = c.join_pass.ensures in
    (search rules, (search rules, (j.0.0 ∙ r.cell.1, confirms _ _ (ap (λ (v : SightValue). v.writes) j.1 ∙ r.writes))))
