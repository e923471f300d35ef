use Rattle.std.proofs.Common.{sym, ap, ◌∙◌, subst, ◌↔◌, List}
use Rattle.std.specs.Prelude.{IsTrue}
use Rattle.wire.specs.declared.slot.Member.{Member}
use Rattle.status.specs.Rules.{is_built}
use Rattle.status.specs.Walking.{StartsAfter}
use Rattle.status.proofs.Rules.{commits_follow, runs_follow, reclaims_follow, floors_follow}
use Rattle.status.proofs.log_end.LogEnd.may_be_followed.Goals as goal

pub returns-in-Commit : goal.returns-in-Commit
returns-in-Commit c = λ in_range before ends.
    commits_follow c.args.profile before c.args.slot.now c.args.self.now c.in-Commit.members.items c.starts_after.result c.in-Commit.is
    (sym (c.is_built.ensures ∙ ap (is_built c.args.profile) c.kind_of.ensures) ∙ c.if-not-is_built.false)
    in_range ends
    (subst (λ (ms : List Member). IsTrue c.starts_after.result ↔ StartsAfter c.args.self.now.last ms) c.as_slice.ensures.value c.starts_after.ensures)

pub returns-in-Archived : goal.returns-in-Archived
returns-in-Archived c = λ in_range before ends.
    runs_follow c.args.profile before c.args.slot.now c.args.self.now c.in-Archived.run' c.takes_run.result c.in-Archived.is
    (sym (c.is_built.ensures ∙ ap (is_built c.args.profile) c.kind_of.ensures) ∙ c.if-not-is_built.false)
    ends c.takes_run.ensures

pub returns-in-Reclaimed : goal.returns-in-Reclaimed
returns-in-Reclaimed c = λ in_range before ends.
    reclaims_follow c.args.profile before c.args.slot.now c.args.self.now c.in-Reclaimed.anchors c.takes_anchors.result c.in-Reclaimed.is
    (sym (c.is_built.ensures ∙ ap (is_built c.args.profile) c.kind_of.ensures) ∙ c.if-not-is_built.false)
    ends c.takes_anchors.ensures

pub returns-in-Floor : goal.returns-in-Floor
returns-in-Floor c = λ in_range before ends.
    floors_follow c.args.profile before c.args.slot.now c.args.self.now c.in-Floor.relation c.in-Floor.floor c.takes_floor.result c.in-Floor.is
    (sym (c.is_built.ensures ∙ ap (is_built c.args.profile) c.kind_of.ensures) ∙ c.if-not-is_built.false)
    in_range ends c.takes_floor.ensures
