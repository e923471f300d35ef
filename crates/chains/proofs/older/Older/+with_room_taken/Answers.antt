use Rattle.std.proofs.Common.{◌≡◌, ◌<◌, ◌∷◌, ◌++◌, [], List, IfOk, length, length-append, sym, ◌∙◌, subst, arith, rules}
use Rattle.history.specs.Time.{IsRisingAfter}
use Rattle.chains.specs.Growth.{as_branch, IsForkOf, IsRoomTaken}
use Rattle.chains.specs.Writes.{Write}
use Rattle.chains.proofs.Branches.{last_lower, last_rising, longer_writes, later_writes}
use Rattle.chains.proofs.Growth.{room-alike, taken-below, taken-here, ok-map}
use Rattle.chains.proofs.Shapes.{before}
use Rattle.chains.proofs.older.Older.+with_room_taken.Goals as goal

pub with_room_taken-requires : goal.with_room_taken-requires
with_room_taken-requires t c =
    let low = last_lower c.in-Branches.ensures c.args.chunk c.in-len1-up.len_at_least c.last-item.is c.writes-then-has_room_for.ensures.lower in
    let rising : IsRisingAfter 0 (c.writes-then-has_room_for.result.now.chunks ++ c.args.chunk) =
    rw c.writes-then-has_room_for.ensures.is (last_rising c.in-Branches.ensures c.args.chunk c.in-len1-up.len_at_least c.last-item.is c.requires) in
    search rules

pub with_last-requires : goal.with_last-requires
with_last-requires t c =
    let longer : c.in_ok-longer.longer.chunks ≡ c.last-item.result.chunks ++ c.args.chunk =
    rw c.writes-then-has_room_for.ensures.is at c.in_ok-longer.ensures.is in
    subst (IsRisingAfter 0)
    (sym (longer_writes c.in-Branches.ensures c.args.chunk c.in-len1-up.len_at_least c.last-item.is c.in_ok-longer.longer.chunks longer)) c.requires

pub returns-then-has_room_for-clause-is : goal.returns-then-has_room_for-clause-is
returns-then-has_room_for-clause-is t c =
    let longer : c.in_ok-longer.longer.chunks ≡ c.last-item.result.chunks ++ c.args.chunk =
    rw c.writes-then-has_room_for.ensures.is at c.in_ok-longer.ensures.is in
    subst (λ (ws : List Write). IfOk c.with_last.result (λ o. o.chunks
    ≡ ws)) (longer_writes c.in-Branches.ensures c.args.chunk c.in-len1-up.len_at_least c.last-item.is c.in_ok-longer.longer.chunks longer)
    c.with_last.ensures.is

pub returns-then-has_room_for-clause-taken : goal.returns-then-has_room_for-clause-taken
returns-then-has_room_for-clause-taken t c =
    let n = length c.args.chunk in
    let longer = c.in_ok-longer.longer in
    let bs = c.in-Branches.branches.now in
    let room =
    room-alike n c.last-item.result c.writes-then-has_room_for.result.now c.writes.result.now c.writes-then-has_room_for.ensures.branch c.writes.ensures.branch
    ∙ sym c.has_room_for.ensures.is
    ∙ c.if-has_room_for.true in
    let some : 0 < length longer.chunks = rw c.in_ok-longer.ensures.is
    (omega (arith, length-append c.writes-then-has_room_for.result.now.chunks c.args.chunk, c.with_room_taken.ensures.some)) in
    ok-map c.with_last.result (λ o. 0 < length longer.chunks → IsForkOf (before bs ++ as_branch longer ∷ []) o) (IsRoomTaken n c.args.self.now)
    (λ o shape.
    taken-below c.in-Branches.ensures c.in-len1-up.len_at_least c.last-item.is n c.writes-then-has_room_for.result.now
    c.writes-then-has_room_for.ensures.branch longer o room c.in_ok-longer.ensures.taken (shape some))
    c.with_last.ensures.shape

pub returns-clause-taken : goal.returns-clause-taken
returns-clause-taken t c =
    let n = length c.args.chunk in
    let later = c.in_ok-later.later in
    let bs = c.in-Branches.branches.now in
    let none =
    room-alike n c.last-item.result c.writes-2.result.now c.writes.result.now c.writes-2.ensures.branch c.writes.ensures.branch
    ∙ sym c.has_room_for.ensures.is
    ∙ c.if-has_room_for.false in
    let some : 0 < length later.chunks = rw c.in_ok-later.ensures.is c.beside.ensures.some in
    ok-map c.with_last-2.result (λ o. 0 < length later.chunks → IsForkOf (bs ++ as_branch later ∷ []) o) (IsRoomTaken n c.args.self.now)
    (λ o shape.
    taken-here c.in-Branches.ensures c.in-len1-up.len_at_least c.last-item.is n c.writes-2.result.now c.writes-2.ensures.branch later o none
    c.in_ok-later.ensures.alone (shape some))
    c.with_last-2.ensures.shape

pub returns-clause-is : goal.returns-clause-is
returns-clause-is t c =
    subst (λ (ws : List Write). IfOk c.with_last-2.result (λ o. o.chunks
    ≡ ws)) (later_writes c.in-Branches.ensures c.args.chunk c.in_ok-later.later.chunks c.in_ok-later.ensures.is) c.with_last-2.ensures.is
