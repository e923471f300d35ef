use Rattle.std.proofs.Common.{◌≡◌, ◌<◌, ◌++◌, List, length, refl, sym, ap, ◌∙◌, inl, inr}
use Rattle.chains.specs.Growth.{branches_of, IsForkOf, IsRoomTaken, IsLonger}
use Rattle.chains.specs.Shapes.{Shape, leaf}
use Rattle.chains.specs.Writes.{Write}
use Rattle.chains.proofs.Growth.{longer-first, longer-taken, longer-higher, ok-map}
use Rattle.chains.proofs.older.Older.with_chunk.Goals as goal

pub returns-then-is_empty-clause-height : goal.returns-then-is_empty-clause-height
returns-then-is_empty-clause-height c =
    ok-map c.into_older.result (λ o. o ≡ leaf c.args.chunk) (IsLonger (length c.args.chunk) c.args.self.now)
    (λ o is. longer-first c.args.chunk c.args.self.now o (c.if-is_empty.ensures refl) is)
    c.into_older.ensures.is

pub returns-then-has_room_for-clause-height : goal.returns-then-has_room_for-clause-height
returns-then-has_room_for-clause-height c =
    let n = length c.args.chunk in
    let room = sym c.has_room_for.ensures.is ∙ c.if-has_room_for.true in
    ok-map c.with_room_taken.result (IsRoomTaken n c.args.self.now) (IsLonger n c.args.self.now)
    (λ o taken. longer-taken n c.args.self.now o room taken)
    c.with_room_taken.ensures.taken

pub returns-clause-height : goal.returns-clause-height
returns-clause-height c =
    let n = length c.args.chunk in
    let old = c.args.self.now in
    let alone = c.in_ok-beside.field-0 in
    let bs = c.add_branch-2.new.branches.items in
    let none = sym c.has_room_for.ensures.is ∙ c.if-has_room_for.false in
    let some : 0 < length old.chunks =
    elim c.has_room_for.ensures.some as (λ _. 0 < length old.chunks) [ inl room ↦ absurd cc | inr some ↦ some ] in
    let some-alone : 0 < length alone.chunks = rw c.in_ok-beside.ensures.is c.beside.ensures.some in
    let first : c.add_branch.new.branches.items ≡ branches_of old old.chunks =
    rw c.in_ok-both.ensures.items at c.in_ok-add_branch.ensures.branches
    ∙ ap (λ (o : Shape Write). branches_of o o.chunks) c.in_ok-share.ensures in
    let are : bs ≡ branches_of old old.chunks ++ branches_of alone alone.chunks =
    c.in_ok-add_branch-2.ensures.branches ∙ ap (λ (l : List (Shape Write)). l ++ branches_of alone alone.chunks) first in
    ok-map c.fork.result (λ o. 0 < length bs → IsForkOf bs o) (IsLonger n old)
    (λ o shape. longer-higher n old alone o bs none some some-alone are c.in_ok-beside.ensures.alone shape)
    c.fork.ensures.shape
