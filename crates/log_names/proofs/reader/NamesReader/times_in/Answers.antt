use Rattle.std.proofs.Common.{ap}
use Rattle.std.proofs.lemmas.Result.{err_from_is_err_and}
use Rattle.archive.specs.Searches.{archive_of}
use Rattle.log_names.proofs.Looking.{right_again, map_damaged}
use Rattle.log_names.proofs.Walking.{first_broken, walk_fails, walk_finds}
use Rattle.log_names.proofs.Right.{refused, right_whole, found_right}
use Rattle.log_names.proofs.reader.NamesReader.times_in.Goals as goal

pub returns-in_err-first-clause-exact : goal.returns-in_err-first-clause-exact
returns-in_err-first-clause-exact g c = λ told right.
    let p = err_from_is_err_and c.from_residual.result c.from_residual.ensures.1 in
    rw (p.1, p.2) (map_damaged _ (λ start is. first_broken _ c.args.upto c.args.label c.args.roll.now is) (c.in_err-first.ensures.exact told right))

pub returns-in_err-first-clause-only : goal.returns-in_err-first-clause-only
returns-in_err-first-clause-only g c = λ heads told right holds.
    let p = err_from_is_err_and c.from_residual.result c.from_residual.ensures.1 in
    rw (p.1, p.2) (refused _ (λ start is.
    right_whole _ c.args.upto c.args.label c.args.roll.now heads holds (first_broken _ c.args.upto c.args.label c.args.roll.now is))
    (c.in_err-first.ensures.exact told right))

pub returns-in_err-add_times-clause-exact : goal.returns-in_err-add_times-clause-exact
returns-in_err-add_times-clause-exact g c = λ told right.
    let at = c.in_ok-first.ensures.exact told right in
    let now = right_again told right c.in_ok-first.ensures.looks.disk c.in_ok-first.ensures.looks.kept in
    let same = ap archive_of c.in_ok-first.ensures.looks.disk in
    let p = err_from_is_err_and c.from_residual-in_err-add_times.result c.from_residual-in_err-add_times.ensures.1 in
    rw (p.1, p.2) (map_damaged _ (λ start is. walk_fails _ c.args.upto c.args.label c.args.roll.now c.in_ok-first.first at _ same is)
    (c.in_err-add_times.ensures.exact told now))

pub returns-in_err-add_times-clause-only : goal.returns-in_err-add_times-clause-only
returns-in_err-add_times-clause-only g c = λ heads told right holds.
    let at = c.in_ok-first.ensures.exact told right in
    let now = right_again told right c.in_ok-first.ensures.looks.disk c.in_ok-first.ensures.looks.kept in
    let same = ap archive_of c.in_ok-first.ensures.looks.disk in
    let p = err_from_is_err_and c.from_residual-in_err-add_times.result c.from_residual-in_err-add_times.ensures.1 in
    rw (p.1, p.2) (refused _ (λ start is.
    right_whole _ c.args.upto c.args.label c.args.roll.now heads holds
    (walk_fails _ c.args.upto c.args.label c.args.roll.now c.in_ok-first.first at _ same is)) (c.in_err-add_times.ensures.exact told now))

pub returns-clause-exact : goal.returns-clause-exact
returns-clause-exact g c = λ told right.
    let at = c.in_ok-first.ensures.exact told right in
    let now = right_again told right c.in_ok-first.ensures.looks.disk c.in_ok-first.ensures.looks.kept in
    let same = ap archive_of c.in_ok-first.ensures.looks.disk in
    walk_finds _ c.args.upto c.args.label c.args.roll.now c.in_ok-first.first _ _ at _ same (c.in_ok-add_times.ensures.exact told now)

pub returns-clause-only : goal.returns-clause-only
returns-clause-only g c = λ heads told right holds.
    let at = c.in_ok-first.ensures.exact told right in
    let now = right_again told right c.in_ok-first.ensures.looks.disk c.in_ok-first.ensures.looks.kept in
    let same = ap archive_of c.in_ok-first.ensures.looks.disk in
    let found = walk_finds _ c.args.upto c.args.label c.args.roll.now c.in_ok-first.first _ _ at _ same (c.in_ok-add_times.ensures.exact told now) in
    found_right _ c.args.upto c.args.label c.args.roll.now heads found.0 _ _ holds found.1 found.2
