use Rattle.std.proofs.Common.{◌≡◌, ◌∙◌, List, Some, None, ap, sym, subst}
use Rattle.std.specs.Prelude.{find, option_map}
use Rattle.history.specs.declared.time.Version.{Version}
use Rattle.history.specs.Versions.{first_time, versions, ends_after}
use Rattle.chains.specs.KeyWrites.{KeyWrites}
use Rattle.chains.specs.Rows.{versions_upto, version_of_loan}
use Rattle.chains.specs.Writes.{Value}
use Rattle.chains.proofs.RowParts.{versions-endless}
use Rattle.chains.proofs.Endings.{find_older, find_recent}
use Rattle.chains.proofs.chain.Chain.ending_after.Goals as goal

pub returns-in-Some-clause-is : goal.returns-in-Some-clause-is
returns-in-Some-clause-is c =
    let older = c.self.inside.older.chunks in
    let last = c.self.inside.last in
    let v = version_of_loan c.in-Some.version in
    let found : find (ends_after c.args.time) (versions_upto (first_time last) older) ≡ Some v = rw c.first_time-first.ensures.is at (sym c.in-Some.ensures) in
    subst (λ (k : KeyWrites). Some v ≡ find (ends_after c.args.time) (versions k.writes)) c.self.view_is (sym (find_older c.args.time older last v found))

pub returns-in-None-clause-is : goal.returns-in-None-clause-is
returns-in-None-clause-is c =
    let older = c.self.inside.older.chunks in
    let last = c.self.inside.last in
    let none : find (ends_after c.args.time) (versions_upto (first_time last) older) ≡ None = rw c.first_time-first.ensures.is at (sym c.in-None.ensures) in
    subst (λ (k : KeyWrites). option_map version_of_loan c.ending_in.result ≡ find (ends_after c.args.time) (versions k.writes)) c.self.view_is
    (rw c.as_slice.ensures.is at c.ending_in.ensures ∙ ap (λ (vs : List (Version Value)). find (ends_after c.args.time) vs) (versions-endless last)
    ∙ sym (find_recent c.args.time older last none))
