use Rattle.std.proofs.Common.{◌≡◌, ◌+◌, ◌≤◌, min, length, arith}
use Rattle.wire.specs.Values.{value_bytes}
use Rattle.disk.specs.Calls.{top}
use Rattle.c_engine.specs.Rows.{shown_as}
use Rattle.c_engine.proofs.Laid.{laid_more}
use Rattle.c_engine.proofs.rows.Copying.copy.Goals as goal

pub returns : goal.returns
returns c = λ shown short laid.
    let it = c.args.self.now in
    let count : it.rows ≡ length shown = laid.count in
    let len : c.length_of.result ≡ length (value_bytes c.args.value.now) = c.length_of.ensures in
    let one_row : c.saturating_add-self.result ≡ it.rows + 1 = omega (arith, count, short, c.saturating_add-self.ensures) in
    let one_value : c.saturating_add-self-2.result ≡ min (it.bytes + length (value_bytes c.args.value.now)) top =
    omega (arith, len, c.saturating_add-self-2.ensures) in
    let small : length c.args.out.now ≤ top = omega arith in
    laid_more shown (shown_as c.args.row c.args.value.now) it (record {
      rows = c.saturating_add-self.result;
      bytes = c.saturating_add-self-2.result;
      fits = c.place-self.result;
    })
    c.args.rows.now c.place-self.new.rows c.args.out.now c.place-self.new.out small laid c.place-self.auto.rows c.place-self.auto.out one_row one_value
    c.place-self.ensures.room c.place-self.ensures.placed
