use Rattle.std.proofs.Common.{[], true, sym, subst}
use Rattle.history.specs.Machine.{Machine}
use Rattle.law_image.specs.Values.{Value}
use Rattle.law_any_store.specs.Standing.{Stands}
use Rattle.shared.proofs.Fresh.{opened-as}
use Rattle.bench.proofs.many_callers.sharing.fresh.Goals as goal

pub over_files-requires : goal.over_files-requires
over_files-requires g c =
    let e = c.in-Ok.ensures in
    record {
      stands = subst (λ (m : Machine Value). Stands true c.in-Ok.store m) (sym (opened-as _ _ e.size [] (λ relation. 0))) e.stands;
      fresh = e.fresh;
    }
