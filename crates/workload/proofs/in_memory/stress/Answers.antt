use Rattle.std.proofs.Common.{rules, ℕ, ◌+◌, ◌≡◌, [], true, length, Option, None, Some, sym, subst, ap, arith}
use Rattle.std.specs.Prelude.{IfSome}
use denote.Param.Send.{sendable}
use Rattle.disk.proofs.mem_disk.MemDisk.TheSendSync as mem_disk
use Rattle.history.specs.Histories.{History}
use Rattle.history.specs.Machine.{Machine}
use Rattle.law_image.specs.Values.{Value}
use Rattle.law_any_store.specs.Standing.{Stands, opened_in}
use Rattle.shared.specs.Reached.{Reached}
use Rattle.shared.proofs.Fresh.{opened-as, opened-published, queue-none}
use Rattle.workload.proofs.in_memory.stress.Goals as goal

pub stress_on-requires : goal.stress_on-requires
stress_on-requires g c κs within =
    let same = opened-as _ _ c.in-Ok.ensures.size [] (λ relation. 0) in
    let stands = subst (λ (m : Machine Value). Stands true c.in-Ok.store m) (sym same) c.in-Ok.ensures.stands in (
      search rules,
      (
        search rules,
        (
          search (sendable, mem_disk.the_send),
          (search sendable, (stands, (c.in-Ok.ensures.fresh, queue-none c.in-Ok.store [] (λ relation. 0)))),
        ),
      ),
    )

-- what is counted from none on
from-none : (made first others : ℕ) (o : Option ℕ) → first ≡ 0 → IfSome o (λ n. made ≡ first + n + others) → IfSome o (λ n. made ≡ n + others)
from-none made first others None none told = tt
from-none made first others (Some n) none told = omega (arith, none, told)

-- it began with no commit
pub count_all-requires : goal.count_all-requires
count_all-requires g c =
    let told = c.in-Ok-stress_on.ensures.counted in
    let same = opened-as _ _ c.in-Ok.ensures.size [] (λ relation. 0) in
    let first : History Value = (opened_in c.in-Ok.store [] (λ relation. 0)).published in
    let none : length first ≡ 0 = ap (λ (h : History Value). length h) (opened-published c.in-Ok.store [] (λ relation. 0)) in (
      told.0,
      told.1,
      subst (λ (m : Machine Value). Reached m told.0) same told.2,
      from-none _ _ _ _ none told.3,
    )
