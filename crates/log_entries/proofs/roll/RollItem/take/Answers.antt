use Rattle.std.proofs.Common.{refl, sym, subst, arith}
use Rattle.std.proofs.lemmas.Bool.{false≢true}
use Rattle.wire.proofs.FieldsRead.{whole_rest}
use Rattle.log_entries.specs.Spelling.{roll_bytes}
use Rattle.log_entries.specs.Ranges.{IsRoll}
use Rattle.log_entries.specs.Reading.{roll_at}
use Rattle.log_entries.proofs.FixedRead.{roll_again, roll_back, none_front, is_front}
use Rattle.log_entries.proofs.roll.RollItem.take.Goals as goal

pub returns-then-not-has_kind : goal.returns-then-not-has_kind
returns-then-not-has_kind c =
    none_front roll_at 17 9 roll_bytes IsRoll roll_again c.args.bytes.now (λ long kind is. false≢true (c.if-not-has_kind.ensures.1 (long, kind)))

pub returns-then-not-is_roll : goal.returns-then-not-is_roll
returns-then-not-is_roll c =
    none_front roll_at 17 9 roll_bytes IsRoll roll_again c.args.bytes.now
    (λ long kind is. false≢true (c.if-not-is_roll.ensures.1 (subst IsRoll (sym c.read_roll-roll.ensures) is)))

pub returns : goal.returns
returns c =
    let begins = c.if-not-has_kind.ensures.0 refl in
    let back = roll_back c.args.bytes.now (λ i. omega (arith, c.type_inv.bytes i)) begins.0 begins.1 in
    (c.if-not-is_roll.ensures.0 refl, is_front roll_at 17 roll_bytes c.args.bytes.now _ _ back c.read_roll-roll.ensures (whole_rest 17 c.args.bytes.now))
