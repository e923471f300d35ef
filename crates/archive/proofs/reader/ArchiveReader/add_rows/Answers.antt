use Rattle.std.proofs.Common.{ℕ, IsTrue, ◌∙◌, ◌<◌, ◌++◌, take, ap, sym, subst, arith, append_assoc}
use Rattle.std.specs.List.{flat_map}
use Rattle.std.proofs.lemmas.List.{append-nil}
use Rattle.std.proofs.lemmas.Bool.Decides.{nat_tests}
use Rattle.std.proofs.lemmas.Result.{err_from_is_err_and}
use Rattle.archive.specs.Answers.{is_wanted, row_of}
use Rattle.archive.specs.Searches.{archive_of, AreSkipped}
use Rattle.archive.specs.Traces.{OnTheWay}
use Rattle.archive.proofs.Damage.{right_again}
use Rattle.archive.proofs.Trace.{map_damaged, walking_first, walking_at, walking_more, walking_past, walking_ends, walking_head, walking_value, walking_skip}
use Rattle.archive.proofs.Searching.{reads_again, keeps_on_state, some_record}
use Rattle.archive.proofs.Walking.{more, one_key, rows_begin, rows_skip, rows_end_past, rows_end}
use Rattle.archive.proofs.reader.ArchiveReader.add_rows.Goals as goal

pub loop-number-init : goal.loop-number-init
loop-number-init g c = record {
  rises = c.in_ok-bound.ensures.rises;
  within = c.in_ok-bound.ensures.few;
  heads = λ one. omega (arith, c.in_ok-bound.ensures.heads);
  disk = c.in_ok-bound.ensures.looks.disk;
  kept = c.in_ok-bound.ensures.looks.kept;
  after = λ records reads i r from at. (c.in_ok-bound.ensures.only records reads).0.after i r from at;
  seen = λ records reads. (c.in_ok-bound.ensures.only records reads).1;
  shown = λ records reads.
      sym (append-nil c.args.rows.now.items)
      ∙ ap (λ vs. c.args.rows.now.items ++ vs)
      (sym (rows_begin g.R.Row.shown c.args.wanted.now _ c.args.run.now records reads.laid c.in_ok-bound.bound.number
      (c.in_ok-bound.ensures.only records reads).0));
  walking =
      λ told right. walking_first g.R.Row.shown _ c.args.wanted.now c.args.run.now c.args.rows.now.items c.in_ok-bound.bound.last c.in_ok-bound.bound.number
      (c.in_ok-bound.ensures.exact told right);
}

pub returns-in_err-placed-clause-only : goal.returns-in_err-placed-clause-only
returns-in_err-placed-clause-only g c = λ records reads.
    let later = reads_again reads c.loop-number.invariant.disk c.loop-number.invariant.kept in
    let found = some_record _ c.args.run.now records reads.laid c.loop-number.number c.loop-number-test.true in
    let refusal = c.in_err-placed.ensures.only records found.0 later found.1 (c.loop-number.invariant.seen records reads) in
    let p = err_from_is_err_and c.from_residual-in_err-placed.result c.from_residual-in_err-placed.ensures.1 in
    rw (p.1, p.2) refusal

pub returns-in_err-add_row-clause-only : goal.returns-in_err-add_row-clause-only
returns-in_err-add_row-clause-only g c = λ records reads.
    let later = reads_again reads c.loop-number.invariant.disk c.loop-number.invariant.kept in
    let found = some_record _ c.args.run.now records reads.laid c.loop-number.number c.loop-number-test.true in
    let placed = c.in_ok-placed.ensures.only records found.0 later found.1 (c.loop-number.invariant.seen records reads) in
    let last = reads_again later c.in_ok-placed.ensures.looks.disk c.in_ok-placed.ensures.looks.kept in
    let refusal = c.in_err-add_row.ensures.only records found.0 last placed in
    let p = err_from_is_err_and c.from_residual-in_err-add_row.result c.from_residual-in_err-add_row.ensures.1 in
    rw (p.1, p.2) refusal

pub returns-in_err-next-clause-only : goal.returns-in_err-next-clause-only
returns-in_err-next-clause-only g c = λ records reads.
    let later = reads_again reads c.loop-number.invariant.disk c.loop-number.invariant.kept in
    let found = some_record _ c.args.run.now records reads.laid c.loop-number.number c.loop-number-test.true in
    let placed = c.in_ok-placed.ensures.only records found.0 later found.1 (c.loop-number.invariant.seen records reads) in
    let last = reads_again later c.in_ok-placed.ensures.looks.disk c.in_ok-placed.ensures.looks.kept in
    let then = reads_again last c.in_ok-add_row.ensures.looks.disk c.in_ok-add_row.ensures.looks.kept in
    let refusal = c.in_err-next.ensures.only records found.0 then placed in
    let p = err_from_is_err_and c.from_residual-in_err-next.result c.from_residual-in_err-next.ensures.1 in
    rw (p.1, p.2) refusal

pub loop-number-preserved : goal.loop-number-preserved
loop-number-preserved g c = record {
  rises = omega (arith, c.loop-number.invariant.rises, c.in_ok-placed.ensures.rises, c.in_ok-add_row.ensures.heads, c.in_ok-next.ensures.rises);
  within = c.in_ok-next.ensures.few;
  heads = λ one.
      let wanted = subst IsTrue c.has.ensures c.if-not-has.false in
      let stands : c.in_ok-placed.placed.head.from < c.in_ok-placed.placed.head.to = grind (arith, nat_tests, c.in_ok-placed.ensures.in_range) in
      let grown = c.in_ok-add_row.ensures.count (one_key c.args.wanted.now c.in_ok-placed.placed.head one wanted stands) in
      omega (
        arith,
        c.loop-number.invariant.heads one,
        c.in_ok-placed.ensures.heads,
        c.in_ok-add_row.ensures.heads,
        c.in_ok-next.ensures.heads one wanted,
        grown,
      );
  disk = c.in_ok-next.ensures.looks.disk ∙ c.in_ok-add_row.ensures.looks.disk ∙ c.in_ok-placed.ensures.looks.disk ∙ c.loop-number.invariant.disk;
  kept =
      keeps_on_state (c.in_ok-add_row.ensures.looks.disk ∙ c.in_ok-placed.ensures.looks.disk ∙ c.loop-number.invariant.disk)
      (keeps_on_state (c.in_ok-placed.ensures.looks.disk
      ∙ c.loop-number.invariant.disk) (keeps_on_state c.loop-number.invariant.disk c.loop-number.invariant.kept c.in_ok-placed.ensures.looks.kept)
      c.in_ok-add_row.ensures.looks.kept)
      c.in_ok-next.ensures.looks.kept;
  after = λ records reads i r from at. c.loop-number.invariant.after records reads i r (omega (
    arith,
    c.in_ok-next.ensures.behind,
    c.in_ok-placed.ensures.number,
  )) at;
  seen = λ records reads.
      let later = reads_again reads c.loop-number.invariant.disk c.loop-number.invariant.kept in
      let found = some_record _ c.args.run.now records reads.laid c.loop-number.number c.loop-number-test.true in
      let placed = c.in_ok-placed.ensures.only records found.0 later found.1 (c.loop-number.invariant.seen records reads) in
      let last = reads_again later c.in_ok-placed.ensures.looks.disk c.in_ok-placed.ensures.looks.kept in
      let then = reads_again last c.in_ok-add_row.ensures.looks.disk c.in_ok-add_row.ensures.looks.kept in
      (c.in_ok-next.ensures.only records found.0 then placed).1;
  shown = λ records reads.
      let later = reads_again reads c.loop-number.invariant.disk c.loop-number.invariant.kept in
      let found = some_record _ c.args.run.now records reads.laid c.loop-number.number c.loop-number-test.true in
      let placed = c.in_ok-placed.ensures.only records found.0 later found.1 (c.loop-number.invariant.seen records reads) in
      let last = reads_again later c.in_ok-placed.ensures.looks.disk c.in_ok-placed.ensures.looks.kept in
      let then = reads_again last c.in_ok-add_row.ensures.looks.disk c.in_ok-add_row.ensures.looks.kept in
      let row = row_of g.R.Row.shown c.args.wanted.now in
      let number = c.in_ok-placed.ensures.number in
      let skipped =
      subst (λ (n : ℕ). AreSkipped records c.args.wanted.now n c.in_ok-next.next.number) number (c.in_ok-next.ensures.only records found.0 then placed).0 in
      let rows =
      rows_skip g.R.Row.shown c.args.wanted.now _ c.args.run.now records reads.laid c.loop-number.number c.in_ok-next.next.number (omega (
        arith,
        c.in_ok-next.ensures.behind,
        number,
      )) skipped in
      c.in_ok-add_row.ensures.only records found.0 last placed
      ∙ ap (λ vs. vs ++ row found.0) (c.loop-number.invariant.shown records reads)
      ∙ append_assoc c.args.rows.now.items (flat_map row (take c.loop-number.number records)) (row found.0)
      ∙ ap (λ vs. c.args.rows.now.items ++ vs) (sym (rows ∙ more row records c.loop-number.number found.0 found.1));
  walking = λ told right.
      let now = right_again told right c.loop-number.invariant.disk c.loop-number.invariant.kept in
      let then = right_again told now c.in_ok-placed.ensures.looks.disk c.in_ok-placed.ensures.looks.kept in
      let after = right_again told then c.in_ok-add_row.ensures.looks.disk c.in_ok-add_row.ensures.looks.kept in
      let same = ap archive_of c.loop-number.invariant.disk in
      let same_then = ap archive_of (c.in_ok-placed.ensures.looks.disk ∙ c.loop-number.invariant.disk) in
      let same_after = ap archive_of (c.in_ok-add_row.ensures.looks.disk ∙ c.in_ok-placed.ensures.looks.disk ∙ c.loop-number.invariant.disk) in
      let way = c.loop-number.invariant.walking told right in
      let placed = c.in_ok-placed.ensures.exact told now in
      let wanted = subst IsTrue c.has.ensures c.if-not-has.false in
      let added = c.in_ok-add_row.ensures.exact told then (walking_at _ _ _ _ _ _ _ _ way _ _ same placed _ same_then).0 in
      let goes = c.in_ok-next.ensures.exact c.loop-number.last told after (walking_at _ _ _ _ _ _ _ _ way _ _ same placed _ same_after) in
      walking_more _ _ _ _ _ _ _ _ way _ _ same placed _ added.0 same_then wanted added.1 _ _ _ _ same_after goes added.2;
}

pub returns-after-loop-number-clause-only : goal.returns-after-loop-number-clause-only
returns-after-loop-number-clause-only g c = λ records reads.
    c.loop-number.invariant.shown records reads
    ∙ ap (λ vs. c.args.rows.now.items
    ++ vs) (rows_end_past g.R.Row.shown c.args.wanted.now _ c.args.run.now records reads.laid c.loop-number.number c.loop-number-test.false)

pub returns-then-not-has-clause-only : goal.returns-then-not-has-clause-only
returns-then-not-has-clause-only g c = λ records reads.
    let later = reads_again reads c.loop-number.invariant.disk c.loop-number.invariant.kept in
    let found = some_record _ c.args.run.now records reads.laid c.loop-number.number c.loop-number-test.true in
    let placed = c.in_ok-placed.ensures.only records found.0 later found.1 (c.loop-number.invariant.seen records reads) in
    let not_before = c.loop-number.invariant.after records reads c.loop-number.number found.0 (omega arith) found.1 in
    c.loop-number.invariant.shown records reads
    ∙ ap (λ vs. c.args.rows.now.items
    ++ vs) (rows_end g.R.Row.shown c.args.wanted.now _ c.args.run.now records reads.laid c.loop-number.number found.0 found.1 not_before
    (ap (is_wanted c.args.wanted.now) (sym placed.head) ∙ sym c.has.ensures ∙ c.if-not-has.true))

pub returns-in_err-bound-clause-exact : goal.returns-in_err-bound-clause-exact
returns-in_err-bound-clause-exact g c = λ told right.
    let p = err_from_is_err_and c.from_residual.result c.from_residual.ensures.1 in
    rw (p.1, p.2) (map_damaged _ (λ start is. OnTheWay is) (c.in_err-bound.ensures.exact told right))

pub returns-in_err-placed-clause-exact : goal.returns-in_err-placed-clause-exact
returns-in_err-placed-clause-exact g c = λ told right.
    let now = right_again told right c.loop-number.invariant.disk c.loop-number.invariant.kept in
    let p = err_from_is_err_and c.from_residual-in_err-placed.result c.from_residual-in_err-placed.ensures.1 in
    rw (p.1, p.2) (walking_head _ _ _ _ _ _ _ _ (c.loop-number.invariant.walking told right) _ _ (ap archive_of c.loop-number.invariant.disk)
    c.loop-number-test.true (c.in_err-placed.ensures.exact told now))

pub returns-in_err-add_row-clause-exact : goal.returns-in_err-add_row-clause-exact
returns-in_err-add_row-clause-exact g c = λ told right.
    let now = right_again told right c.loop-number.invariant.disk c.loop-number.invariant.kept in
    let then = right_again told now c.in_ok-placed.ensures.looks.disk c.in_ok-placed.ensures.looks.kept in
    let same = ap archive_of c.loop-number.invariant.disk in
    let same_then = ap archive_of (c.in_ok-placed.ensures.looks.disk ∙ c.loop-number.invariant.disk) in
    let way = c.loop-number.invariant.walking told right in
    let placed = c.in_ok-placed.ensures.exact told now in
    let at = (walking_at _ _ _ _ _ _ _ _ way _ _ same placed _ same_then).0 in
    let p = err_from_is_err_and c.from_residual-in_err-add_row.result c.from_residual-in_err-add_row.ensures.1 in
    rw (p.1, p.2) (walking_value _ _ _ _ _ _ _ _ way _ _ same placed _ _ same_then (subst IsTrue c.has.ensures c.if-not-has.false)
    (c.in_err-add_row.ensures.exact told then at))

pub returns-in_err-next-clause-exact : goal.returns-in_err-next-clause-exact
returns-in_err-next-clause-exact g c = λ told right.
    let now = right_again told right c.loop-number.invariant.disk c.loop-number.invariant.kept in
    let then = right_again told now c.in_ok-placed.ensures.looks.disk c.in_ok-placed.ensures.looks.kept in
    let after = right_again told then c.in_ok-add_row.ensures.looks.disk c.in_ok-add_row.ensures.looks.kept in
    let same = ap archive_of c.loop-number.invariant.disk in
    let same_then = ap archive_of (c.in_ok-placed.ensures.looks.disk ∙ c.loop-number.invariant.disk) in
    let same_after = ap archive_of (c.in_ok-add_row.ensures.looks.disk ∙ c.in_ok-placed.ensures.looks.disk ∙ c.loop-number.invariant.disk) in
    let way = c.loop-number.invariant.walking told right in
    let placed = c.in_ok-placed.ensures.exact told now in
    let wanted = subst IsTrue c.has.ensures c.if-not-has.false in
    let added = c.in_ok-add_row.ensures.exact told then (walking_at _ _ _ _ _ _ _ _ way _ _ same placed _ same_then).0 in
    let p = err_from_is_err_and c.from_residual-in_err-next.result c.from_residual-in_err-next.ensures.1 in
    rw (p.1, p.2) (walking_skip _ _ _ _ _ _ _ _ way _ _ same placed _ added.0 same_then wanted added.1 _ _ same_after
    (c.in_err-next.ensures.exact c.loop-number.last told after (walking_at _ _ _ _ _ _ _ _ way _ _ same placed _ same_after)))

pub returns-after-loop-number-clause-exact : goal.returns-after-loop-number-clause-exact
returns-after-loop-number-clause-exact g c = λ told right.
    walking_past _ _ _ _ _ _ _ _ (c.loop-number.invariant.walking told right) (omega (arith, c.loop-number.invariant.within))

pub returns-then-not-has-clause-exact : goal.returns-then-not-has-clause-exact
returns-then-not-has-clause-exact g c = λ told right.
    let now = right_again told right c.loop-number.invariant.disk c.loop-number.invariant.kept in
    walking_ends _ _ _ _ _ _ _ _ (c.loop-number.invariant.walking told right) _ _ (ap archive_of c.loop-number.invariant.disk)
    (c.in_ok-placed.ensures.exact told now) (sym c.has.ensures ∙ c.if-not-has.true)
