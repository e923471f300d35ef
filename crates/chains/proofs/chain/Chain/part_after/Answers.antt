use Rattle.std.proofs.Common.{◌≡◌, List, None, IfOk, subst}
use Rattle.std.specs.Prelude.{find}
use Rattle.history.specs.declared.time.Version.{Version}
use Rattle.history.specs.Versions.{first_time, versions, ends_after}
use Rattle.chains.specs.Found.{IsPartFrom, IsFound}
use Rattle.chains.specs.KeyWrites.{KeyWrites}
use Rattle.chains.specs.Rows.{versions_upto}
use Rattle.chains.specs.Writes.{Value}
use Rattle.chains.proofs.Found.{found_older, found_recent}
use Rattle.chains.proofs.RowParts.{versions-endless}
use Rattle.chains.proofs.chain.Chain.part_after.Goals as goal

pub returns-in-Some-clause-is : goal.returns-in-Some-clause-is
returns-in-Some-clause-is c =
    let older = c.self.inside.older.chunks in
    let last = c.self.inside.last in
    let found : IsPartFrom c.args.time (versions_upto (first_time last) older) c.in-Some.part =
    rw (c.in-Some.is, c.first_time-first.ensures.is) at c.in_ok-part.ensures in
    subst (λ (k : KeyWrites). IsPartFrom c.args.time (versions k.writes) c.in-Some.part) c.self.view_is
    (found_older c.args.time older last c.in-Some.part found)

pub returns-in-None-clause-is : goal.returns-in-None-clause-is
returns-in-None-clause-is c =
    let older = c.self.inside.older.chunks in
    let last = c.self.inside.last in
    let none : find (ends_after c.args.time) (versions_upto (first_time last) older) ≡ None =
    rw (c.in-None.is, c.first_time-first.ensures.is) at c.in_ok-part.ensures in
    let found : IfOk c.of.result (IsFound c.args.time (versions last)) =
    subst (λ (vs : List (Version Value)). IfOk c.of.result (IsFound c.args.time vs)) (versions-endless last) c.of.ensures in
    subst (λ (k : KeyWrites). IfOk c.of.result (IsFound c.args.time (versions k.writes))) c.self.view_is
    (found_recent c.args.time older last c.of.result none found)
