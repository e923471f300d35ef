use Rattle.std.proofs.Common.{refl, ap, ◌∙◌, List}
use Rattle.std.specs.Prelude.{map}
use Rattle.wire.specs.declared.slot.Member.{Member}
use Rattle.law_image.specs.Log.{last_time_after}
use Rattle.status.specs.Rules.{head_of}
use Rattle.status.proofs.Ends.{commits_end, run_ends, reclaim_ends, floor_ends}
use Rattle.status.proofs.log_end.LogEnd.with.Goals as goal

pub returns-in-Commit : goal.returns-in-Commit
returns-in-Commit c = λ before ends.
    commits_end before c.args.slot.now c.args.self.now _ c.in-Commit.members.items c.in-Commit.is ends
    (c.last_after.ensures ∙ ap (λ (ms : List Member). last_time_after c.args.self.now.last (map head_of ms)) c.as_slice.ensures.value)
    refl
    refl
    c.requires.floors
    refl

pub returns-in-Archived : goal.returns-in-Archived
returns-in-Archived c =
    λ before ends. run_ends before c.args.slot.now c.args.self.now _ c.in-Archived.run' c.in-Archived.is ends refl refl refl c.requires.floors refl

pub returns-in-Reclaimed : goal.returns-in-Reclaimed
returns-in-Reclaimed c =
    λ before ends. reclaim_ends before c.args.slot.now c.args.self.now _ c.in-Reclaimed.anchors c.in-Reclaimed.is ends refl refl refl c.requires.floors refl

pub returns-in-Floor : goal.returns-in-Floor
returns-in-Floor c = λ before ends. floor_ends before c.args.slot.now c.args.self.now _ _ _ c.in-Floor.is ends refl refl refl c.requires.floors refl
