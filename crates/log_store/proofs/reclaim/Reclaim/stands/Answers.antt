use Rattle.std.proofs.Common.{◌≡◌, ◌∙◌, ◌+◌, ◌/◌, ◌≤◌, List, length, drop, ap, sym, subst}
use Rattle.log_recovery.specs.Live.{LiveChainValue}
use Rattle.log_store.specs.Live.{live_value}
use Rattle.log_store.specs.Values.{ReclaimValue}
use Rattle.log_store.specs.Reclaiming.{kept_numbers}
use Rattle.log_store.proofs.Lives.{stays-half, rest-is}
use Rattle.log_store.proofs.reclaim.Reclaim.stands.Goals as goal

pub put_chains-requires-clause-half : goal.put_chains-requires-clause-half
put_chains-requires-clause-half c =
    let room = c.args.room.now in
    let live = live_value c.args.live.now in
    let front : c.self.inside.front ≡ c.args.self.front = ap (λ (r : ReclaimValue). r.front) c.self.view_is in
    let chains : c.chains.result.now ≡ live.chains = c.chains.ensures in
    subst (λ (cs : List LiveChainValue). length (kept_numbers cs) + 1 + room.promised ≤ length room.used / 2)
    (sym (rest-is c.chains.result.now c.self.inside.front ∙ (λ i. drop (front i) (chains i))))
    (stays-half c.args.self live room c.requires c.len-most.ensures.room)
