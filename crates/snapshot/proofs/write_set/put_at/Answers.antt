use Rattle.std.proofs.Common.{cond, is_ok, ap, ◌∙◌, subst}
use Rattle.std.specs.List.{insert}
use Rattle.snapshot.specs.WriteSets.{IsPlace}
use Rattle.snapshot.proofs.WriteSetLemmas.{with_write-set, with_write-insert}
use Rattle.snapshot.proofs.write_set.put_at.Goals as goal
use Rattle.snapshot.proofs.write_set.put_at.Goals.{in-Ok-insert, in-Err-insert}

pub returns-in-Ok-clause-ok : goal.returns-in-Ok-clause-ok
returns-in-Ok-clause-ok c =
    with_write-set c.args.write c.args.writes.now.items c.in-Ok.place c.requires.rising
    (subst (IsPlace c.args.write.key c.args.writes.now.items) c.in-Ok.is c.requires.place)

pub returns-after-insert-clause-ok : goal.returns-after-insert-clause-ok
returns-after-insert-clause-ok c =
    elim c.match-insert.branch [
      | in-Ok-insert w ↦
          rw w.result-is
          (c.insert.ensures.items
          ∙ ap (λ r. cond (is_ok r) (insert c.args.writes.now.items c.in-Err.place c.args.write) c.args.writes.now.items) w.in-Ok-insert.is
          ∙ with_write-insert c.args.write c.args.writes.now.items c.in-Err.place
          (subst (IsPlace c.args.write.key c.args.writes.now.items) c.in-Err.is c.requires.place))
      | in-Err-insert w ↦ rw w.result-is tt
    ]
