use Rattle.std.proofs.lemmas.Result.{err_from_is_err_and}
use Rattle.std.proofs.Common.{arith, ◌∙◌, ◌+◌, ◌≡◌, ℕ, ap, sym, subst, arith}
use Rattle.archive.specs.Answers.{precedes}
use Rattle.archive.proofs.Searching.{reads_again, keeps_on_state, some_record, all_between, more_before, more_after, is_bound}
use Rattle.archive.specs.Searches.{archive_of, IsBetween}
use Rattle.archive.proofs.Damage.{right_again, from_first, from_before, from_behind, from_broken, from_done}
use Rattle.archive.proofs.reader.ArchiveReader.count_from.Goals as goal

pub loop-low-init : goal.loop-low-init
loop-low-init g c = record {
  rises = omega arith;
  order = omega (arith, c.requires.few);
  behind = omega arith;
  within = omega arith;
  disk = search;
  kept = search;
  between = λ records r reads placed.
      more_before _ c.args.run.now records reads.laid c.args.key.now c.args.time 0 c.args.run.now.slot.records c.args.from.now.number r
      (all_between _ c.args.run.now records reads.laid c.args.key.now c.args.time) c.requires.few placed.at
      (ap (precedes c.args.key.now c.args.time) (sym placed.head) ∙ c.requires.before);
  seen = λ records r reads placed. (r, placed);
  half = λ told right is sound. from_first _ c.args.run.now c.args.key.now c.args.time c.args.from.now.number c.args.from.now c.requires.few is sound
      c.requires.before;
}

pub loop-low-preserved-then-precedes : goal.loop-low-preserved-then-precedes
loop-low-preserved-then-precedes g c =
    let n = c.loop-low.low + c.min.result in
    record {
      rises = omega (arith, c.loop-low.invariant.rises, c.in_ok-placed.ensures.rises);
      order = omega (arith, c.min.ensures);
      behind = omega (arith, c.loop-low.invariant.behind);
      within = c.loop-low.invariant.within;
      disk = c.in_ok-placed.ensures.looks.disk ∙ c.loop-low.invariant.disk;
      kept = keeps_on_state c.loop-low.invariant.disk c.loop-low.invariant.kept c.in_ok-placed.ensures.looks.kept;
      between = λ records r reads placed.
          let later = reads_again reads c.loop-low.invariant.disk c.loop-low.invariant.kept in
          let found = some_record _ c.args.run.now records reads.laid n (omega (arith, c.min.ensures)) in
          let head = c.in_ok-placed.ensures.only records found.0 later found.1 (c.loop-low.invariant.seen records r reads placed) in
          more_before _ c.args.run.now records reads.laid c.args.key.now c.args.time c.loop-low.low c.loop-low.high n found.0
          (c.loop-low.invariant.between records r reads placed) (omega (arith, c.min.ensures)) found.1
          (ap (precedes c.args.key.now c.args.time) (sym head.head) ∙ sym c.precedes.ensures ∙ c.if-precedes.true);
      seen = λ records r reads placed.
          let later = reads_again reads c.loop-low.invariant.disk c.loop-low.invariant.kept in
          let found = some_record _ c.args.run.now records reads.laid n (omega (arith, c.min.ensures)) in
          (found.0, c.in_ok-placed.ensures.only records found.0 later found.1 (c.loop-low.invariant.seen records r reads placed));
      half = λ told right is sound.
          let now = right_again told right c.loop-low.invariant.disk c.loop-low.invariant.kept in
          from_before _ _ c.args.run.now c.args.key.now c.args.time c.args.from.now.number c.loop-low.last c.loop-low.low c.loop-low.high n
          (ap archive_of c.loop-low.invariant.disk)
          (c.loop-low.invariant.half told right is sound) (omega (arith, c.min.ensures)) (omega (
            arith,
            c.min.ensures,
          )) c.in_ok-placed.placed (c.in_ok-placed.ensures.exact told now)
          (sym c.precedes.ensures ∙ c.if-precedes.true);
    }

pub loop-low-preserved : goal.loop-low-preserved
loop-low-preserved g c =
    let n = c.loop-low.low + c.min.result in
    record {
      rises = omega (arith, c.loop-low.invariant.rises, c.in_ok-placed.ensures.rises);
      order = omega (arith, c.min.ensures);
      behind = c.loop-low.invariant.behind;
      within = omega (arith, c.loop-low.invariant.within, c.min.ensures);
      disk = c.in_ok-placed.ensures.looks.disk ∙ c.loop-low.invariant.disk;
      kept = keeps_on_state c.loop-low.invariant.disk c.loop-low.invariant.kept c.in_ok-placed.ensures.looks.kept;
      between = λ records r reads placed.
          let later = reads_again reads c.loop-low.invariant.disk c.loop-low.invariant.kept in
          let found = some_record _ c.args.run.now records reads.laid n (omega (arith, c.min.ensures)) in
          let head = c.in_ok-placed.ensures.only records found.0 later found.1 (c.loop-low.invariant.seen records r reads placed) in
          more_after _ c.args.run.now records reads.laid c.args.key.now c.args.time c.loop-low.low c.loop-low.high n found.0
          (c.loop-low.invariant.between records r reads placed) (omega (arith, c.min.ensures)) (omega (arith, c.min.ensures)) found.1
          (ap (precedes c.args.key.now c.args.time) (sym head.head) ∙ sym c.precedes.ensures ∙ c.if-precedes.false);
      seen = λ records r reads placed.
          let later = reads_again reads c.loop-low.invariant.disk c.loop-low.invariant.kept in
          let found = some_record _ c.args.run.now records reads.laid n (omega (arith, c.min.ensures)) in
          (found.0, c.in_ok-placed.ensures.only records found.0 later found.1 (c.loop-low.invariant.seen records r reads placed));
      half = λ told right is sound.
          let now = right_again told right c.loop-low.invariant.disk c.loop-low.invariant.kept in
          from_behind _ _ c.args.run.now c.args.key.now c.args.time c.args.from.now.number c.loop-low.last c.loop-low.low c.loop-low.high n
          (ap archive_of c.loop-low.invariant.disk)
          (c.loop-low.invariant.half told right is sound) (omega (arith, c.min.ensures)) (omega (
            arith,
            c.min.ensures,
          )) c.in_ok-placed.placed (c.in_ok-placed.ensures.exact told now)
          (sym c.precedes.ensures ∙ c.if-precedes.false);
    }

pub returns-in_err-placed-clause-only : goal.returns-in_err-placed-clause-only
returns-in_err-placed-clause-only g c = λ records r reads placed.
    let later = reads_again reads c.loop-low.invariant.disk c.loop-low.invariant.kept in
    let n = c.loop-low.low + c.min.result in
    let found = some_record _ c.args.run.now records reads.laid n (omega (arith, c.min.ensures)) in
    let refusal = c.in_err-placed.ensures.only records found.0 later found.1 (c.loop-low.invariant.seen records r reads placed) in
    let p = err_from_is_err_and c.from_residual.result c.from_residual.ensures.1 in
    rw (p.1, p.2) refusal

pub returns-in_err-placed-clause-exact : goal.returns-in_err-placed-clause-exact
returns-in_err-placed-clause-exact g c = λ told right is sound.
    let n = c.loop-low.low + c.min.result in
    let now = right_again told right c.loop-low.invariant.disk c.loop-low.invariant.kept in
    let p = err_from_is_err_and c.from_residual.result c.from_residual.ensures.1 in
    rw (p.1, p.2) (from_broken _ _ c.args.run.now c.args.key.now c.args.time c.args.from.now.number c.loop-low.last c.loop-low.low c.loop-low.high n
    (ap archive_of c.loop-low.invariant.disk)
    (c.loop-low.invariant.half told right is sound) (omega (arith, c.min.ensures)) (omega (arith, c.min.ensures)) _ (c.in_err-placed.ensures.exact told now))

pub returns-clause-exact : goal.returns-clause-exact
returns-clause-exact g c = λ told right is sound. from_done (c.loop-low.invariant.half told right is sound) (omega (arith, c.loop-low.invariant.order))

pub returns-clause-only : goal.returns-clause-only
returns-clause-only g c = λ records r reads placed.
    let met : c.loop-low.high ≡ c.loop-low.low = omega (arith, c.loop-low.invariant.order) in
    let between = subst (λ (k : ℕ). IsBetween records c.args.key.now c.args.time c.loop-low.low k) met (c.loop-low.invariant.between records r reads placed) in
    (is_bound _ c.args.run.now records reads.laid c.args.key.now c.args.time c.loop-low.low between, c.loop-low.invariant.seen records r reads placed)
