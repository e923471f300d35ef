use Rattle.std.proofs.Common.{refl, sym, subst, arith}
use Rattle.std.proofs.lemmas.Bool.{false≢true}
use Rattle.wire.proofs.FieldsRead.{whole_rest}
use Rattle.log_entries.specs.Spelling.{floor_bytes}
use Rattle.log_entries.specs.Ranges.{IsFloor}
use Rattle.log_entries.specs.Reading.{floor_at}
use Rattle.log_entries.proofs.FixedRead.{floor_again, floor_back, none_front, is_front}
use Rattle.log_entries.proofs.floor.RelationFloorItem.take.Goals as goal

pub returns-then-not-has_kind : goal.returns-then-not-has_kind
returns-then-not-has_kind c =
    none_front floor_at 11 7 floor_bytes IsFloor floor_again c.args.bytes.now (λ long kind is. false≢true (c.if-not-has_kind.ensures.1 (long, kind)))

pub returns-then-not-is_floor : goal.returns-then-not-is_floor
returns-then-not-is_floor c =
    none_front floor_at 11 7 floor_bytes IsFloor floor_again c.args.bytes.now
    (λ long kind is. false≢true (c.if-not-is_floor.ensures.1 (subst IsFloor (sym c.read_floor-floor.ensures) is)))

pub returns : goal.returns
returns c =
    let begins = c.if-not-has_kind.ensures.0 refl in
    let back = floor_back c.args.bytes.now (λ i. omega (arith, c.type_inv.bytes i)) begins.0 begins.1 in
    (c.if-not-is_floor.ensures.0 refl, is_front floor_at 11 floor_bytes c.args.bytes.now _ _ back c.read_floor-floor.ensures (whole_rest 11 c.args.bytes.now))
