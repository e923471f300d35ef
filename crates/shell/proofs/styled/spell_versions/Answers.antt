use Rattle.std.proofs.Common.{Some}
use Rattle.shell.proofs.DumpLemmas.{written_all, written_item, written_none}
use Rattle.shell.specs.Styled.{IsRowLine}
use Rattle.shell.proofs.styled.spell_versions.Goals as goal

pub loop-row-init : goal.loop-row-init
loop-row-init c = written_none (IsRowLine c.args.style c.args.width) (Some c.args.text.now.items)

pub loop-row-preserved : goal.loop-row-preserved
loop-row-preserved c = written_item (IsRowLine c.args.style c.args.width) (Some c.args.text.now.items) (Some c.loop-row.text.items)
    (Some c.spell_version.new.text.items) c.args.rows.now c.loop-row.row-index c.row-item.result c.row-item.is c.loop-row-test.true
    c.loop-row.invariant c.in_ok-spell_version.ensures

pub returns : goal.returns
returns c = written_all (IsRowLine c.args.style c.args.width) (Some c.args.text.now.items) (Some c.loop-row.text.items) c.args.rows.now
    c.loop-row.row-index c.loop-row-test.false c.loop-row.invariant
