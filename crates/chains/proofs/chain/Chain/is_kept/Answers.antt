use Rattle.std.proofs.Common.{◌≡◌, [], ◌∷◌, subst}
use Rattle.chains.specs.KeyWrites.{KeyWrites, unless_empty}
use Rattle.chains.specs.Writes.{kept_after}
use Rattle.chains.proofs.Parts.{rising-back, rising-later, kept_all}
use Rattle.chains.proofs.chain.Chain.is_kept.Goals as goal

pub returns-then-mark-first_time : goal.returns-then-mark-first_time
returns-then-mark-first_time c = λ kept.
    let older = c.self.inside.older.chunks in
    let last = c.self.inside.last in
    let later =
    rising-later c.args.mark last c.first_time.ensures.some (rw c.first_time.ensures.is at c.if-mark-first_time.true)
    (rising-back 0 older last c.self.invariant) in
    subst (λ (k : KeyWrites). unless_empty k.key (kept_after c.args.mark k.writes) ≡ k
    ∷ []) c.self.view_is (kept_all c.args.mark c.self.inside.key older last c.first_time.ensures.some later (c.is_kept.ensures kept))
