use Rattle.law_image.proofs.FromSets.{heap-from_sets, archive-from_sets}
use Rattle.law_image.proofs.Homes.{kept-is_set, heap-is, archive-is}
use Rattle.law_image.proofs.laws.sets_are_lists.Goals as goal

pub returns : goal.returns
returns c = λ reading h floors. (
  λ sets. record {
    opens = sets.opens;
    homes = record {
      marks = sets.homes.marks;
      in_heap = λ key. heap-from_sets reading h floors sets.opens sets.homes key;
      in_archive = λ key. archive-from_sets reading h floors sets.opens sets.homes key;
    };
  },
  λ lists. record {
    opens = lists.opens;
    homes = record {
      marks = lists.homes.marks;
      kept = λ key v. kept-is_set reading h floors lists key v;
      heap = λ key v is after. (
        λ has. ((heap-is reading h floors lists key v).0 (has, after)).2,
        λ past. ((heap-is reading h floors lists key v).1 (is, after, past)).0,
      );
      archive = λ key v is after. (
        λ has. ((archive-is reading h floors lists key v).0 (has, after)).2,
        λ past. ((archive-is reading h floors lists key v).1 (is, after, past)).0,
      );
    };
  },
)
