use Rattle.std.proofs.Common.{ℕ, ◌≡◌, ◌<◌, ◌≤◌, ◌++◌, List, length, map, arith, ◌∙◌, ap, sym, subst, length-append}
use Rattle.std.specs.Prelude.{Contains}
use Rattle.std.specs.List.{AllByRecursion}
use Rattle.std.proofs.lemmas.Result.{err_from_is_err_and}
use Rattle.history.proofs.Filters.{AllByRecursion-append}
use Rattle.history.proofs.Members.{Contains-tail}
use Rattle.archive.specs.Searches.{archive_of}
use Rattle.log_entries.specs.declared.entry.Roll.{Roll}
use Rattle.log_entries.specs.Ranges.{IsRoll}
use Rattle.log_names.specs.Rolls.{RollsEndBy, names_to_read}
use Rattle.log_names.proofs.Looking.{right_among, keeps_on, keeps_later, map_fault, split_rolls}
use Rattle.log_names.proofs.Walking.{all_broken, all_goes}
use Rattle.log_names.proofs.reader.NamesReader.gather.Goals as goal

pub returns-in_err-times_in-clause-kept : goal.returns-in_err-times_in-clause-kept
returns-in_err-times_in-clause-kept g c = λ limit by.
    let split = split_rolls c.loop-rest.rest.now (record { start = 0; len = 0 }) (omega (arith, c.in-len1-up.len_at_least)) in
    let ends = subst (RollsEndBy limit) split (c.loop-rest.invariant.ends limit by) in
    keeps_on c.loop-rest.invariant.disk (c.loop-rest.invariant.kept limit by) (keeps_later ends.0 c.in_err-times_in.ensures.looks.kept)

pub returns-in_err-times_in-clause-exact : goal.returns-in_err-times_in-clause-exact
returns-in_err-times_in-clause-exact g c = λ told right.
    let split = split_rolls c.loop-rest.rest.now (record { start = 0; len = 0 }) (omega (arith, c.in-len1-up.len_at_least)) in
    let now = right_among c.args.rolls.now told right c.loop-rest.invariant.disk c.loop-rest.invariant.kept in
    let found = c.loop-rest.invariant.found told right in
    let among = found.1 ∙ ap (λ (l : List Roll). found.0 ++ l) split in
    let p = err_from_is_err_and c.from_residual.result c.from_residual.ensures.1 in
    rw (p.1, p.2) (map_fault _ _ (λ start here broken.
    all_broken _ c.args.upto c.args.label c.args.rolls.now found.0 _ _ c.loop-rest.times.items start among found.2 here
    _ (ap archive_of c.loop-rest.invariant.disk) broken)
    c.in_err-times_in.ensures.looks.damaged (c.in_err-times_in.ensures.exact told now))

pub loop-rest-preserved : goal.loop-rest-preserved
loop-rest-preserved g c =
    let split = split_rolls c.loop-rest.rest.now (record { start = 0; len = 0 }) (omega (arith, c.in-len1-up.len_at_least)) in
    record {
      each = (subst (AllByRecursion IsRoll) split c.loop-rest.invariant.each).1;
      rises = omega (arith, c.loop-rest.invariant.rises, c.in_ok-times_in.ensures.rises);
      names = let front = c.in_ok-times_in.ensures.front in
          omega (
            arith,
            ap names_to_read split,
            front.2,
            ap (λ (l : List ℕ). length l) front.1,
            length-append c.loop-rest.times.items front.0,
            c.loop-rest.invariant.names,
          );
      within = let front = c.in_ok-times_in.ensures.front in
          subst (AllByRecursion (λ (time : ℕ). (0 < time) × (time ≤ c.args.upto))) (sym front.1)
          (AllByRecursion-append (λ (time : ℕ). (0 < time) × (time ≤ c.args.upto)) c.loop-rest.times.items front.0 c.loop-rest.invariant.within front.3);
      disk = c.in_ok-times_in.ensures.looks.disk ∙ c.loop-rest.invariant.disk;
      kept = λ limit by.
          let ends = subst (RollsEndBy limit) split (c.loop-rest.invariant.ends limit by) in
          keeps_on c.loop-rest.invariant.disk (c.loop-rest.invariant.kept limit by) (keeps_later ends.0 c.in_ok-times_in.ensures.looks.kept);
      ends = λ limit by. (subst (RollsEndBy limit) split (c.loop-rest.invariant.ends limit by)).1;
      starts = λ start has. c.loop-rest.invariant.starts start
          (subst (λ (l : List Roll). Contains (map (λ (roll : Roll). roll.start) l) start) (sym split) (Contains-tail _ _ start has));
      found = λ told right.
          let now = right_among c.args.rolls.now told right c.loop-rest.invariant.disk c.loop-rest.invariant.kept in
          let found = c.loop-rest.invariant.found told right in
          let among = found.1 ∙ ap (λ (l : List Roll). found.0 ++ l) split in
          all_goes _ c.args.upto c.args.label c.args.rolls.now found.0 _ _ c.loop-rest.times.items _ among found.2
          _ (ap archive_of c.loop-rest.invariant.disk) (c.in_ok-times_in.ensures.exact told now);
    }
