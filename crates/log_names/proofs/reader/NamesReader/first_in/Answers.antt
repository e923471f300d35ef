use Rattle.std.proofs.Common.{arith, ◌∙◌, ◌+◌, ◌-◌, ◌/◌, ap}
use Rattle.std.proofs.lemmas.Result.{err_from_is_err_and}
use Rattle.archive.specs.Searches.{archive_of}
use Rattle.log_names.proofs.Halving.{digits_half, half_ends, here_below, here_above, here_broken}
use Rattle.log_names.proofs.Looking.{right_again, keeps_on, map_damaged}
use Rattle.std.proofs.Common.{inr}
use Rattle.log_names.proofs.reader.NamesReader.first_in.Goals as goal

pub returns-in_err-name-clause-names : goal.returns-in_err-name-clause-names
returns-in_err-name-clause-names g c =
    let less = digits_half 0 (c.loop-low.high - c.loop-low.low) (omega arith) (omega arith) in
    omega (arith, less, c.loop-low.invariant.names, c.in_err-name.ensures.counted)

pub returns-in_err-name-clause-exact : goal.returns-in_err-name-clause-exact
returns-in_err-name-clause-exact g c = λ told right.
    let now = right_again told right c.loop-low.invariant.disk c.loop-low.invariant.kept in
    let p = err_from_is_err_and c.from_residual.result c.from_residual.ensures.1 in
    rw (p.1, p.2) (map_damaged _ (λ start is.
    here_broken _ c.args.upto c.args.label c.args.roll.now c.loop-low.low c.loop-low.high (c.loop-low.invariant.half told right)
    _ (ap archive_of c.loop-low.invariant.disk) c.loop-low-test.true is) (c.in_err-name.ensures.exact told now))

pub loop-low-preserved-then-name-label : goal.loop-low-preserved-then-name-label
loop-low-preserved-then-name-label g c =
    let n = c.loop-low.low + (c.loop-low.high - c.loop-low.low) / 2 in
    record {
      rises = omega (arith, c.loop-low.invariant.rises, c.in_ok-name.ensures.rises);
      order = omega arith;
      within = c.loop-low.invariant.within;
      names = let less =
          digits_half (c.loop-low.high - (n + 1)) (c.loop-low.high - c.loop-low.low) (omega arith) (omega arith) in omega (
            arith,
            less,
            c.loop-low.invariant.names,
            c.in_ok-name.ensures.counted,
          );
      disk = c.in_ok-name.ensures.looks.disk ∙ c.loop-low.invariant.disk;
      kept = keeps_on c.loop-low.invariant.disk c.loop-low.invariant.kept c.in_ok-name.ensures.looks.kept;
      half = λ told right.
          let now = right_again told right c.loop-low.invariant.disk c.loop-low.invariant.kept in
          here_below _ c.args.upto c.args.label c.args.roll.now c.loop-low.low c.loop-low.high (c.loop-low.invariant.half told right)
          _ (ap archive_of c.loop-low.invariant.disk) c.in_ok-name.name c.loop-low-test.true (c.in_ok-name.ensures.exact told now) c.if-name-label.true;
    }

pub loop-low-preserved : goal.loop-low-preserved
loop-low-preserved g c =
    let n = c.loop-low.low + (c.loop-low.high - c.loop-low.low) / 2 in
    record {
      rises = omega (arith, c.loop-low.invariant.rises, c.in_ok-name.ensures.rises);
      order = omega arith;
      within = omega (arith, c.loop-low.invariant.within);
      names = let less =
          digits_half (n - c.loop-low.low) (c.loop-low.high - c.loop-low.low) (omega arith) (omega arith) in omega (
            arith,
            less,
            c.loop-low.invariant.names,
            c.in_ok-name.ensures.counted,
          );
      disk = c.in_ok-name.ensures.looks.disk ∙ c.loop-low.invariant.disk;
      kept = keeps_on c.loop-low.invariant.disk c.loop-low.invariant.kept c.in_ok-name.ensures.looks.kept;
      half = λ told right.
          let now = right_again told right c.loop-low.invariant.disk c.loop-low.invariant.kept in
          here_above _ c.args.upto c.args.label c.args.roll.now c.loop-low.low c.loop-low.high (c.loop-low.invariant.half told right)
          _ (ap archive_of c.loop-low.invariant.disk) c.in_ok-name.name c.loop-low-test.true (c.in_ok-name.ensures.exact told now) c.if-name-label.false;
    }

pub returns-clause-exact : goal.returns-clause-exact
returns-clause-exact g c = λ told right.
    half_ends _ c.args.upto c.args.label c.args.roll.now c.loop-low.low c.loop-low.high (c.loop-low.invariant.half told right) c.loop-low-test.false
