use Rattle.std.proofs.Common.{sym, ◌∙◌, subst, length}
use Rattle.disk.specs.Calls.{DiskState}
use Rattle.status.specs.Log.{IsOpen, OpensWith}
use Rattle.status.proofs.log.read_slots.Goals as goal

pub returns-then-not-branch-clause-goes : goal.returns-then-not-branch-clause-goes
returns-then-not-branch-clause-goes g c = λ told header profile all opens.
    let so_far = c.loop-disk.invariant in
    let before = c.loop-disk.walk.slots.items in
    let after = c.read_on.new.walk.slots.items in
    let read = rw c.if-not-branch.true at (c.in_ok-read_on.ensures.goes told header (profile ∙ sym so_far.profile) all) in
    let ends = subst (λ (s : DiskState). OpensWith header s.areas.status.bytes before
    → OpensWith header s.areas.status.bytes after × ¬ IsOpen s.areas.status.bytes (length after)) so_far.same read
    (so_far.goes told header profile all opens) in
    (ends.0, λ lt. ends.1)

pub loop-disk-preserved : goal.loop-disk-preserved
loop-disk-preserved g c =
    let so_far = c.loop-disk.invariant in
    let before = c.loop-disk.walk.slots.items in
    let after = c.read_on.new.walk.slots.items in
    record {
      profile = c.in_ok-read_on.ensures.profile ∙ so_far.profile;
      walk = c.in_ok-read_on.ensures.walk;
      within = c.in_ok-read_on.ensures.within;
      same = c.in_ok-read_on.ensures.same ∙ so_far.same;
      goes = λ told header profile all opens.
          let read = rw c.if-not-branch.false at (c.in_ok-read_on.ensures.goes told header (profile ∙ sym so_far.profile) all) in
          subst (λ (s : DiskState). OpensWith header s.areas.status.bytes before → OpensWith header s.areas.status.bytes after) so_far.same read
          (so_far.goes told header profile all opens);
    }
