use Rattle.std.proofs.Common.{◌≡◌, ℕ, List}
use Rattle.std.specs.List.{AllByRecursion}
use Rattle.law_image.specs.Reading.{Member as MemberTold, OldRecord}
use Rattle.law_image.specs.Log.{AreRisingAfter, last_time_after}
use Rattle.log_entries.specs.Ranges.{IsMember}
use Rattle.log_sizes.specs.Counted.{AreSizesBehind}
use Rattle.log_recovery.specs.Members.{later_of, heads_told, HasFacts}
use Rattle.log_recovery.proofs.Groups.{IsUnderWay}
use Rattle.log_recovery.proofs.Counting.{IsCountedUpto}
use Rattle.log_recovery.proofs.members_read.MembersRead.with_group.Given as goal

abbrev pub invariant-loop-member : goal.invariant-loop-member
invariant-loop-member l =
    AllByRecursion IsMember l.member-iterator.rest.items
    × AreRisingAfter l.read.last (heads_told (later_of l.fn.mark l.member-iterator.rest.items))
    × (last_time_after l.read.last (heads_told (later_of l.fn.mark l.member-iterator.rest.items))
    ≡ last_time_after l.fn.self.last (heads_told (later_of l.fn.mark l.fn.members.items)))
    × ((olds : List OldRecord) (before : List MemberTold) → HasFacts l.fn.mark olds before l.fn.self
    → IsUnderWay l.fn.mark olds before (later_of l.fn.mark l.fn.members.items) (later_of l.fn.mark l.member-iterator.rest.items) l.read)
    × ((olds : List OldRecord) (before : List MemberTold) → HasFacts l.fn.mark olds before l.fn.self → AreSizesBehind olds before l.fn.self.sizes
    → IsCountedUpto l.fn.mark olds before (later_of l.fn.mark l.fn.members.items) (later_of l.fn.mark l.member-iterator.rest.items) l.read)
