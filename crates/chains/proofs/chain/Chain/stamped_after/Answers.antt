use Rattle.std.proofs.Common.{◌≡◌, ◌∙◌, Some, sym, subst}
use Rattle.std.specs.Prelude.{find}
use Rattle.std.specs.Option.{option_copied}
use Rattle.chains.specs.KeyWrites.{KeyWrites}
use Rattle.chains.specs.Writes.{is_after}
use Rattle.chains.proofs.Nexts.{next_older, next_recent}
use Rattle.chains.proofs.chain.Chain.stamped_after.Goals as goal

pub returns-in-Some : goal.returns-in-Some
returns-in-Some c =
    subst (λ (k : KeyWrites). Some c.in-Some.w.now ≡ find (is_after c.args.time) k.writes) c.self.view_is
    (sym (next_older c.args.time c.self.inside.older.chunks c.self.inside.last c.in-Some.w.now (sym c.in-Some.ensures)))

pub returns-in-None : goal.returns-in-None
returns-in-None c =
    subst (λ (k : KeyWrites). option_copied c.next_in.result ≡ find (is_after c.args.time) k.writes) c.self.view_is
    (rw c.as_slice.ensures.is at c.next_in.ensures ∙ sym (next_recent c.args.time c.self.inside.older.chunks c.self.inside.last (sym c.in-None.ensures)))
