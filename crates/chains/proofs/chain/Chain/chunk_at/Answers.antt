use Rattle.std.proofs.Common.{◌≡◌, ◌^◌, ◌++◌, ℕ, [], ap, subst}
use Rattle.history.specs.Versions.{first_time, versions, rows}
use Rattle.chains.specs.KeyWrites.{KeyWrites}
use Rattle.chains.specs.Rows.{versions_upto, IsFront}
use Rattle.chains.specs.Shapes.{Shape}
use Rattle.chains.specs.Writes.{Write}
use Rattle.chains.proofs.RowWalks.{last_older, no_rows_endless, front_older, front_recent, front_only}
use Rattle.chains.proofs.chain.Chain.chunk_at.Goals as goal
use Rattle.chains.proofs.chain.Chain.chunk_at.Goals.{then-first-time-via-then-first-time, then-first-time-via-else-first-time+then-is_empty}

pub returns-then-time-ge-ENDLESS-clause-is : goal.returns-then-time-ge-ENDLESS-clause-is
returns-then-time-ge-ENDLESS-clause-is c =
    let older = c.self.inside.older.chunks in
    let last = c.self.inside.last in
    subst (λ (k : KeyWrites). (b : ℕ) → rows (versions k.writes) c.args.time b ≡ []) c.self.view_is
    (no_rows_endless older last c.first_time-first.ensures.some c.self.invariant c.args.time c.if-time-ge-ENDLESS.true)

pub returns-then-first-time-clause-is : goal.returns-then-first-time-clause-is
returns-then-first-time-clause-is c =
    let older = c.self.inside.older.chunks in
    let last = c.self.inside.last in
    let some = c.first_time-first.ensures.some in
    let front : IsFront c.args.time (2 ^ 63) (versions (older ++ last)) (versions_upto (2 ^ 63) last) = elim c.then-first-time.branch [
      | then-first-time-via-then-first-time w ↦ front_recent older last some c.self.invariant c.args.time c.if-time-ge-ENDLESS.false
          (rw c.first_time-first.ensures.is at w.if-first-time.true)
      | then-first-time-via-else-first-time+then-is_empty w ↦ front_only older last some c.self.invariant c.args.time c.if-time-ge-ENDLESS.false
          (ap (λ (o : Shape Write). o.chunks) (w.is_empty.ensures w.if-is_empty.true))
    ] in
    rw c.as_slice.ensures.is (subst (λ (k : KeyWrites). IsFront c.args.time (2 ^ 63) (versions k.writes) (versions_upto (2 ^ 63) last)) c.self.view_is front)

pub chunk_at-requires-clause-ended : goal.chunk_at-requires-clause-ended
chunk_at-requires-clause-ended c =
    rw c.first_time-first.ensures.is (last_older c.self.inside.older.chunks c.self.inside.last c.first_time-first.ensures.some c.self.invariant)

pub returns-clause-is : goal.returns-clause-is
returns-clause-is c =
    let older = c.self.inside.older.chunks in
    let last = c.self.inside.last in
    let upto = c.chunk_at.result.1 in
    let part = versions_upto upto c.chunk_at.result.0.now in
    let front : IsFront c.args.time upto (versions_upto (first_time last) older) part = rw c.first_time-first.ensures.is at c.chunk_at.ensures.is in
    subst (λ (k : KeyWrites). IsFront c.args.time upto (versions k.writes) part) c.self.view_is
    (front_older older last c.first_time-first.ensures.some c.self.invariant c.args.time upto part
    (rw c.first_time-first.ensures.is at c.if-first-time.false) (rw c.first_time-first.ensures.is at c.chunk_at.ensures.upto) front)
