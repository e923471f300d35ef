use Rattle.recovery.specs.Resolving.{before_of}
use Rattle.recovery.proofs.RightChains.{no_writes}
use Rattle.recovery.proofs.members.read_member.Goals as goal

pub returns-in_default-clause-found : goal.returns-in_default-clause-found
returns-in_default-clause-found g c = λ told records right.
    let none = rw c.in_default.is at (c.in_ok-read.ensures.found told) in
    none records right.has

pub returns-in_default-2-clause-found : goal.returns-in_default-2-clause-found
returns-in_default-2-clause-found g c = λ told records right.
    let read = rw c.in-Some.is at (c.in_ok-read.ensures.found told) in
    let none = rw c.in_default-2.is at c.in_ok-chains.ensures.found in
    no_writes _ _ _ (before_of c.args.heap.chains) _ c.in-Some.read.records.items read.has
    none
    records right
