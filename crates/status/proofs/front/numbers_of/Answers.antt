use Rattle.std.proofs.Common.{◌≡◌, ℕ, List, take, drop, arith, sym, ap, ◌∙◌, length-drop}
use Rattle.std.proofs.lemmas.List.{take_all}
use Rattle.byteorder.specs.Endian.{little_number}
use Rattle.status.proofs.Headers.{gates_say}
use Rattle.status.proofs.front.numbers_of.Goals as goal

pub returns : goal.returns
returns c =
    let front = c.args.front.now in
    let gates = gates_say front c.open_pieces.result c.told-front c.open_pieces.ensures.few c.open_pieces.ensures.open c.open_pieces.ensures.next in
    let after : take 500 (drop 12 front) ≡ drop 12 front = take_all 500 (drop 12 front) (omega (arith, length-drop 12 front, c.told-front)) in
    record {
      profile = c.requires;
      slots = sym (c.read_u32.ensures ∙ ap (λ (xs : List ℕ). little_number 4 xs) after);
      few_pieces = gates.0;
      open_pieces = gates.1;
      next_piece = gates.2;
    }
