use Rattle.std.proofs.Common.{◌≡◌, ◌∙◌, sym, subst}
use Rattle.history.specs.Time.{value_at}
use Rattle.chains.specs.KeyWrites.{KeyWrites}
use Rattle.chains.proofs.Parts.{value_older, value_recent}
use Rattle.chains.proofs.chain.Chain.spot.Goals as goal

pub returns-then-first-time : goal.returns-then-first-time
returns-then-first-time c =
    subst (λ (k : KeyWrites). c.of.result ≡ value_at k.writes c.args.time) c.self.view_is
    (c.of.ensures ∙ rw c.as_slice.ensures.is at c.value_in.ensures
    ∙ sym (value_recent c.args.time c.self.inside.older.chunks c.self.inside.last c.first_time-first.ensures.some
    (rw c.first_time-first.ensures.is at c.if-first-time.true)))

pub returns : goal.returns
returns c =
    subst (λ (k : KeyWrites). c.spot.result ≡ value_at k.writes c.args.time) c.self.view_is
    (c.spot.ensures ∙ sym
    (value_older c.args.time c.self.inside.older.chunks c.self.inside.last c.first_time-first.ensures.some
    (rw c.first_time-first.ensures.is at c.if-first-time.false) c.self.invariant))
