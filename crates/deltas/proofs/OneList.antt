-- Images hold the records of one list alone.
use Rattle.std.proofs.Common.{◌≡◌, ℕ, List, [], ◌∷◌, length, refl, sym, ◌∙◌, ap, arith, length-append}
use Rattle.std.specs.List.{flat_map, AllByRecursion}
use Rattle.deltas.specs.declared.«record».Record.{Record}
use Rattle.deltas.specs.declared.chain.Kinds.{Kinds}
use Rattle.deltas.specs.declared.chain.ChainName.{ChainName}
use Rattle.deltas.specs.Records.{spelling, IsRecord}
use Rattle.deltas.specs.Reading.{record_at, behind_record}
use Rattle.deltas.specs.Chains.{HoldsRecords}
use Rattle.deltas.proofs.RecordsRead.{record_again}
use Rattle.deltas.proofs.Left.{length-spelling}
use Rattle.deltas.proofs.Packed.{spelled_in}
use Rattle.deltas.proofs.Holding.{are_packed}

none_spelled : (r : Record) (records : List Record) → [] ≡ flat_map spelling (r ∷ records) → ⊥
none_spelled r records same =
    let len = ap (λ (l : List ℕ). length l) same in
    let some = length-spelling r in
    omega (arith, len, some, length-append (spelling r) (flat_map spelling records))

pub one_list : (a b : List Record) → AllByRecursion IsRecord a → AllByRecursion IsRecord b → flat_map spelling a ≡ flat_map spelling b → a ≡ b
one_list [] [] are_a are_b same = refl
one_list [] (s ∷ b) are_a are_b same = absurd (none_spelled s b same)
one_list (r ∷ a) [] are_a are_b same = absurd (none_spelled r a (sym same))
one_list (r ∷ a) (s ∷ b) are_a are_b same =
    let first = record_again r (flat_map spelling a) are_a.0 in
    let second = record_again s (flat_map spelling b) are_b.0 in
    let head : r ≡ s = sym first.is ∙ ap record_at same ∙ second.is in
    let tail : a ≡ b = one_list a b are_a.1 are_b.1 (sym first.behind ∙ ap behind_record same ∙ second.behind) in
    λ i. head i ∷ tail i

pub one_packing : (name other : ChainName) (kinds others : Kinds) (images : List (List ℕ)) (a b : List Record) → HoldsRecords name kinds images a
    → HoldsRecords other others images b → a ≡ b
one_packing name other kinds others images a b holds_a holds_b =
    one_list a b holds_a.are_records.each holds_b.are_records.each
    (spelled_in images a holds_a.are_records.each (are_packed name kinds images a holds_a)
    ∙ sym (spelled_in images b holds_b.are_records.each (are_packed other others images b holds_b)))
