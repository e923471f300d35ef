use Rattle.std.proofs.Common.{◌≡◌, ◌++◌, ℕ, List, [], map}
use Rattle.std.specs.List.{AllByRecursion}
use Rattle.law_image.specs.Reading.{OldRecord}
use Rattle.law_image.specs.Log.{AreRisingAfter}
use Rattle.law_log_sizes.specs.Sizes.{anchors_len}
use Rattle.log_recovery.specs.Chains.{HasEntry}
use Rattle.log_recovery.specs.Live.{live_of}
use Rattle.log_recovery.specs.Members.{members_of_all, heads_told, AreWritesOf}
use Rattle.log_recovery.proofs.Groups.{AreUnderWay}
use Rattle.log_recovery.proofs.Counting.{IsCountedUpto}
use Rattle.log_recovery.proofs.members.read_members.Given as goal

abbrev pub invariant-loop-chain : goal.invariant-loop-chain
invariant-loop-chain l =
    ((most : ℕ) × AllByRecursion (HasEntry most) l.chain-iterator.rest.items)
    × AreRisingAfter l.read.last (heads_told (members_of_all l.fn.mark l.chain-iterator.rest.items))
    × (l.live.items ++ map live_of l.chain-iterator.rest.items ≡ map live_of l.fn.chains.items)
    × ((olds : List OldRecord) → AreWritesOf olds l.fn.anchors
    → AreUnderWay l.fn.mark olds l.fn.chains.items l.chain-iterator.rest.items l.read)
    × ((olds : List OldRecord) → AreWritesOf olds l.fn.anchors → anchors_len olds ≡ l.fn.len
    → IsCountedUpto l.fn.mark olds [] (members_of_all l.fn.mark l.fn.chains.items) (members_of_all l.fn.mark l.chain-iterator.rest.items) l.read)
