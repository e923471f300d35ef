use Rattle.log_entries.proofs.Pushed.{pushed_base}
use Rattle.log_entries.proofs.encode.push_parts.Goals as goal

pub returns-clause-ok : goal.returns-clause-ok
returns-clause-ok c =
    pushed_base c.args.base.now _ _ _ _ _ _ _ _ _ c.mark_array.ensures c.as_slice.ensures c.as_slice-2.ensures c.as_slice-3.ensures
    c.in_ok-extend_from_slice.ensures.items c.in_ok-push_list.ensures.ok c.in_ok-push_list-2.ensures.ok c.in_ok-push_list-3.ensures.ok
