use Rattle.std.proofs.Common.{◌≡◌, ◌+◌, ◌-◌, ◌*◌, true, get_or, arith, sym, rules}
use Rattle.std.specs.Char.{is_ascii_digit}
use Rattle.std.proofs.lemmas.Grind.{common_steps}
use Rattle.script.proofs.NumberLemmas.{refused_mul, refused_add, whole, next_value, next_digits}
use Rattle.script.proofs.numbers.number.Goals as goal

pub returns-in_err-checked_mul : goal.returns-in_err-checked_mul
returns-in_err-checked_mul c =
    let digit : is_ascii_digit (get_or c.args.word.now c.loop-byte.byte-index 0) ≡ true = grind (arith, common_steps) in
    rw c.from_residual.ensures
    (sym (refused_mul c.args.word.now c.loop-byte.byte-index c.loop-byte.value c.checked_mul.result c.loop-byte.invariant.value c.loop-byte-test.true digit
    c.checked_mul.ensures c.in_err-checked_mul.was))

pub returns-in_err-value : goal.returns-in_err-value
returns-in_err-value c =
    let digit : is_ascii_digit (get_or c.args.word.now c.loop-byte.byte-index 0) ≡ true = grind (arith, common_steps) in
    let product : c.in_ok-checked_mul.field-0 ≡ c.loop-byte.value * 10 = grind (arith, common_steps, c.in_ok-checked_mul.was) in
    let d : c.from.result ≡ get_or c.args.word.now c.loop-byte.byte-index 0 - 48 = search rules in
    rw c.from_residual-in_err-value.ensures
    (sym (refused_add c.args.word.now c.loop-byte.byte-index c.loop-byte.value c.checked_add.result c.in_ok-checked_mul.field-0 c.from.result
    c.loop-byte.invariant.value c.loop-byte-test.true digit product d c.checked_add.ensures c.in_err-value.was))

pub loop-byte-preserved : goal.loop-byte-preserved
loop-byte-preserved c =
    let digit : is_ascii_digit (get_or c.args.word.now c.loop-byte.byte-index 0) ≡ true = grind (arith, common_steps) in
    let product : c.in_ok-checked_mul.field-0 ≡ c.loop-byte.value * 10 = grind (arith, common_steps, c.in_ok-checked_mul.was) in
    let d : c.from.result ≡ get_or c.args.word.now c.loop-byte.byte-index 0 - 48 = search rules in
    let sum : c.in_ok-value.value ≡ c.in_ok-checked_mul.field-0 + c.from.result = grind (arith, common_steps, c.in_ok-value.was) in
    record {
      fits = grind (arith, common_steps, c.in_ok-value.was, c.checked_add.ensures);
      digits = next_digits c.args.word.now c.loop-byte.byte-index c.loop-byte-test.true c.loop-byte.invariant.digits digit;
      value = next_value c.args.word.now c.loop-byte.byte-index c.loop-byte.value c.in_ok-value.value c.loop-byte.invariant.value c.loop-byte-test.true digit
          (omega arith);
    }

pub returns : goal.returns
returns c = whole c.args.word.now c.loop-byte.byte-index c.loop-byte.value (omega arith) (grind (arith, common_steps))
    (omega arith) c.loop-byte.invariant.digits c.loop-byte.invariant.value c.loop-byte.invariant.fits
