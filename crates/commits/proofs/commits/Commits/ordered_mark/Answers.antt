use Rattle.std.proofs.Common.{refl, ap, ◌∙◌, arith}
use Rattle.commits.specs.Values.{CommitsValue, ordered_mark}
use Rattle.commits.proofs.Kept.{mark_after-last}
use Rattle.commits.proofs.commits.Commits.ordered_mark.Goals as goal

pub returns-in-Some : goal.returns-in-Some
returns-in-Some c =
    let items = c.self.inside.queue.items in
    c.reclaimed.ensures ∙ mark_after-last c.self.inside.reclaimed items _ c.in-Some.waiting.now
    (let some = c.in-Some.ensures.variant.0 refl in omega (arith, some, c.self.inside.queue.ok.0)) c.in-Some.ensures.lookup
    ∙ ap (λ (v : CommitsValue). ordered_mark v) c.self.view_is
