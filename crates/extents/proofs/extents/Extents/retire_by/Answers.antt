use Rattle.std.proofs.Common.{◌≤◌, ◌<◌, ℕ, ◌+◌, List, arith, ap, ◌∙◌, length}
use Rattle.extents.specs.declared.usage.Usage.{Usage}
use Rattle.extents.specs.Times.{time_of, retired_by}
use Rattle.extents.proofs.Retiring.{Retires, one-retired, none-retired, later-kept, others-stay}
use Rattle.extents.proofs.extents.Extents.retire_by.Goals as goal
use Rattle.extents.proofs.extents.Extents.retire_by.Goals.{then-time_of-mark, else-time_of-mark}

pub loop-place-preserved : goal.loop-place-preserved
loop-place-preserved c =
    let was = c.loop-place.invariant in
    elim c.if-time_of-mark.branch [
      | then-time_of-mark w ↦
          let early : time_of c.args.times.now (c.loop-place.place + 1) ≤ c.args.mark = omega (arith, c.time_of.ensures, w.if-time_of-mark.true) in
          let one : Retires c.loop-place.self (c.loop-place.place + 1) w.retire.new.self =
          record {
            low = omega arith;
            high = omega (arith, c.loop-place-test.true);
            freed = w.retire.ensures.freed;
            not_kept = w.retire.ensures.not_kept;
            others = w.retire.ensures.others;
          } in
          rw w.self-is record {
            is = one-retired c.args.mark c.args.times.now c.args.self.now c.loop-place.self w.retire.new.self c.loop-place.place early one was.is;
            kept = λ number late has. later-kept c.args.mark c.args.times.now c.loop-place.self w.retire.new.self (c.loop-place.place + 1) number early one late
                (was.kept number late has);
            others = λ usage number not has. others-stay c.loop-place.self w.retire.new.self (c.loop-place.place + 1) number usage one not
                (was.others usage number not has);
          }
      | else-time_of-mark w ↦ rw w.self-is record {
        is = none-retired c.args.mark c.args.times.now c.args.self.now c.loop-place.self c.loop-place.place
            (let late : c.args.mark < time_of c.args.times.now (c.loop-place.place + 1) = omega (
              arith,
              c.time_of.ensures,
              w.if-time_of-mark.false,
            ) in late) was.is;
        kept = was.kept;
        others = was.others;
      }
    ]

pub returns-clause-is : goal.returns-clause-is
returns-clause-is c =
    c.loop-place.invariant.is
    ∙ ap (λ (n : ℕ). retired_by c.args.mark c.args.times.now c.args.self.now n) (omega (
      arith,
      c.loop-place-test.false,
      c.loop-place.auto.place-end,
      ap (λ (us : List Usage). length us) c.self.view_is,
    ))
