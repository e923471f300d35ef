use Rattle.std.proofs.Common.{◌-◌, ◌<◌, ◌⊎◌, inl, inr, ◌∙◌, IsTrue, length, sym, ap, arith, rules}
use Rattle.chains.specs.Growth.{has_room}
use Rattle.chains.specs.Shapes.{Shape}
use Rattle.chains.specs.Writes.{Write}
use Rattle.chains.proofs.Growth.{room-below, some-writes}
use Rattle.chains.proofs.Shapes.{at_low}
use Rattle.chains.proofs.older.Older.+has_room_for.Goals as goal

pub has_room_for-requires : goal.has_room_for-requires
has_room_for-requires t c =
    let branches = c.in-Branches.branches.now in
    let low : c.writes.result.now.height < c.args.self.now.height =
    omega (
      arith,
      c.in-Branches.ensures.height,
      at_low branches (length branches - 1) c.last-item.result (omega (arith, c.in-len1-up.len_at_least)) c.last-item.is,
      c.writes.ensures.lower,
    ) in
    search rules

pub returns-in-len1-up-clause-is : goal.returns-in-len1-up-clause-is
returns-in-len1-up-clause-is t c =
    let n = length c.args.chunk.now in
    c.has_room_for.ensures.is
    ∙ sym (room-below c.in-Branches.ensures c.in-len1-up.len_at_least c.last-item.is n c.if-branches-ge-WIDTH.true
    ∙ ap (λ (b : Shape Write). has_room n b.together b.forks) c.writes.ensures.branch)

pub returns-in-len1-up-clause-some : goal.returns-in-len1-up-clause-some
returns-in-len1-up-clause-some t c =
    elim c.has_room_for.ensures.some as (λ _. IsTrue c.has_room_for.result ⊎ (0 < length c.args.self.now.chunks)) [
      | inl room ↦ inl room
      | inr some ↦ inr (some-writes c.in-Branches.ensures c.in-len1-up.len_at_least c.last-item.is (rw c.writes.ensures.is at some))
    ]
