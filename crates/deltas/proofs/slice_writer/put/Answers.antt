use Rattle.std.proofs.Common.{◌+◌, ◌-◌, length, ap, ◌∙◌, arith}
use Rattle.std.proofs.lemmas.Slice.{drop-put_mid}
use Rattle.deltas.proofs.slice_writer.put.Goals as goal

pub returns-clause-behind : goal.returns-clause-behind
returns-clause-behind c n le =
    let at = c.args.at in
    let fits = c.requires in
    let same = c.copy_from_slice.ensures.after in
    drop-put_mid at (at + length c.args.bytes.now - at) c.args.out.now c.copy_from_slice.new.self n (omega (arith, le)) (omega (arith, fits))
    (ap length same ∙ omega arith)
