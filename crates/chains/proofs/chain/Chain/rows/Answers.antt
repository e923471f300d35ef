use Rattle.std.proofs.Common.{◌≡◌, ◌∙◌, ◌++◌, List, ap, sym, subst}
use Rattle.history.specs.declared.time.Version.{Version}
use Rattle.history.specs.Versions.{first_time, versions, rows}
use Rattle.chains.specs.KeyWrites.{KeyWrites}
use Rattle.chains.specs.Rows.{versions_upto}
use Rattle.chains.specs.Writes.{Value}
use Rattle.chains.proofs.RowParts.{rows-append, versions-parts, versions-endless}
use Rattle.chains.proofs.chain.Chain.rows.Goals as goal

pub returns : goal.returns
returns c =
    let older = c.self.inside.older.chunks in
    let last = c.self.inside.last in
    let first : c.add_rows.new.found.items ≡ rows (versions_upto (first_time last) older) c.args.a c.args.b =
    rw (c.new-found.ensures.items, c.first_time.ensures.is) at c.in_ok-add_rows.ensures in
    let both : c.add_rows_in.new.rows.items ≡ rows (versions_upto (first_time last) older) c.args.a c.args.b ++ rows (versions last) c.args.a c.args.b =
    rw (first, c.as_slice.ensures.is, versions-endless) at c.in_ok-add_rows_in.ensures in
    subst (λ (k : KeyWrites). c.add_rows_in.new.rows.items ≡ rows (versions k.writes) c.args.a c.args.b) c.self.view_is
    (both ∙ sym (ap (λ (vs : List (Version Value)). rows vs c.args.a c.args.b) (versions-parts older last)
    ∙ rows-append c.args.a c.args.b (versions_upto (first_time last) older) (versions last)))
