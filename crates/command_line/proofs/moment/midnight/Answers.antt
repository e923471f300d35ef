use Rattle.std.proofs.Common.{◌≡◌, arith, length, ◌∙◌}
use Rattle.command_line.proofs.MomentLemmas.{midnight-read}
use Rattle.command_line.proofs.moment.midnight.Goals as goal

pub returns : goal.returns
returns c =
    let ten : length c.args.date.now ≡ 10 = omega (arith, c.in-len10.len_at_least, c.in-len10.len_below) in
    c.read_time.ensures ∙ midnight-read c.args.date.now ten
