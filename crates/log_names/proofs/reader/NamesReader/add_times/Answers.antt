use Rattle.std.proofs.Common.{ℕ, ◌≡◌, ◌<◌, ◌≤◌, ◌∙◌, ◌++◌, ◌∷◌, [], List, ap, sym, arith, append_assoc, length-append, false, true}
use Rattle.std.proofs.lemmas.Result.{err_from_is_err_and}
use Rattle.history.proofs.Filters.{AllByRecursion-append}
use Rattle.archive.specs.Searches.{archive_of}
use Rattle.log_names.specs.Standing.{may_follow}
use Rattle.log_names.proofs.Looking.{right_again, keeps_on, map_damaged}
use Rattle.log_names.proofs.Walking.{here_goes, here_ends, here_late, here_apart}
use Rattle.log_names.proofs.reader.NamesReader.add_times.Goals as goal

pub returns-in_err-name-clause-exact : goal.returns-in_err-name-clause-exact
returns-in_err-name-clause-exact g c = λ told right.
    let now = right_again told right c.loop-n.invariant.disk c.loop-n.invariant.kept in
    let p = err_from_is_err_and c.from_residual.result c.from_residual.ensures.1 in
    rw (p.1, p.2) (map_damaged _ (λ start is.
    here_late _ c.args.upto c.args.label c.args.roll.now c.args.first c.loop-n.n c.loop-n.last _ _ (c.loop-n.invariant.walking told right)
    _ (ap archive_of c.loop-n.invariant.disk) c.loop-n-test.true is) (c.in_err-name.ensures.exact told now))

pub returns-then-not-may_follow-clause-exact : goal.returns-then-not-may_follow-clause-exact
returns-then-not-may_follow-clause-exact g c = λ told right.
    let now = right_again told right c.loop-n.invariant.disk c.loop-n.invariant.kept in
    here_apart _ c.args.upto c.args.label c.args.roll.now c.args.first c.loop-n.n c.loop-n.last _ _ (c.loop-n.invariant.walking told right)
    _ (ap archive_of c.loop-n.invariant.disk) c.in_ok-name.name c.loop-n-test.true (c.in_ok-name.ensures.exact told now)
    (sym c.may_follow.ensures ∙ c.if-not-may_follow.true)

pub returns-then-name-label-clause-exact : goal.returns-then-name-label-clause-exact
returns-then-name-label-clause-exact g c = λ told right.
    let now = right_again told right c.loop-n.invariant.disk c.loop-n.invariant.kept in
    here_ends _ c.args.upto c.args.label c.args.roll.now c.args.first c.loop-n.n c.loop-n.last _ _ (c.loop-n.invariant.walking told right)
    _ (ap archive_of c.loop-n.invariant.disk) c.in_ok-name.name c.loop-n-test.true (c.in_ok-name.ensures.exact told now)
    (sym c.may_follow.ensures ∙ c.if-not-may_follow.false) c.if-name-label.true

pub loop-n-preserved : goal.loop-n-preserved
loop-n-preserved g c = record {
  rises = omega (arith, c.loop-n.invariant.rises, c.in_ok-name.ensures.rises);
  within = omega arith;
  front = let front = c.loop-n.invariant.front in (
    front.0 ++ c.in_ok-name.name.time ∷ [],
    c.in_ok-push.ensures.items ∙ ap (λ (l : List ℕ). l ++ c.in_ok-name.name.time ∷ []) front.1
        ∙ append_assoc c.args.into.now.items front.0 (c.in_ok-name.name.time ∷ []),
    omega (arith, front.2, c.in_ok-name.ensures.counted, length-append front.0 (c.in_ok-name.name.time ∷ [])),
    AllByRecursion-append (λ (time : ℕ). (0 < time) × (time ≤ c.args.upto)) front.0 (c.in_ok-name.name.time ∷ []) front.3 (c.in_ok-name.ensures.within, tt),
  );
  disk = c.in_ok-name.ensures.looks.disk ∙ c.loop-n.invariant.disk;
  kept = keeps_on c.loop-n.invariant.disk c.loop-n.invariant.kept c.in_ok-name.ensures.looks.kept;
  walking = λ told right.
      let now = right_again told right c.loop-n.invariant.disk c.loop-n.invariant.kept in
      let goes =
      here_goes _ c.args.upto c.args.label c.args.roll.now c.args.first c.loop-n.n c.loop-n.last _ _ (c.loop-n.invariant.walking told right)
      _ (ap archive_of c.loop-n.invariant.disk) c.in_ok-name.name c.loop-n-test.true (c.in_ok-name.ensures.exact told now)
      (sym c.may_follow.ensures ∙ c.if-not-may_follow.false) c.if-name-label.false in
      rw (c.in_ok-push.ensures.items) goes;
}
