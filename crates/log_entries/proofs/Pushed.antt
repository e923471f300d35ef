-- What is pushed behind other bytes.
use Rattle.std.proofs.Common.{◌≡◌, ℕ, suc, ◌+◌, ◌*◌, List, [], ◌∷◌, ◌++◌, length, ◌∙◌, ap, arith, append_assoc, length-append}
use Rattle.std.specs.List.{flat_map}
use Rattle.log_entries.specs.declared.entry.Archive.{Archive}
use Rattle.log_entries.specs.declared.entry.RelationFloor.{RelationFloor}
use Rattle.log_entries.specs.declared.entry.Roll.{Roll}
use Rattle.log_entries.specs.declared.entry.Base.{Base}
use Rattle.log_entries.specs.Spelling.{archive_bytes, floor_bytes, roll_bytes, mark_bytes, base_bytes}
use Rattle.log_entries.specs.Writing.{IsLonger}
use Rattle.log_entries.specs.Lengths.{length-archive, length-floor, length-roll, length-mark}

pub longer : (old new bytes : List ℕ) (n : ℕ) → new ≡ old ++ bytes → length bytes ≡ n → length new ≡ length old + n
longer old new bytes n is len = omega (arith, len, ap (λ (l : List ℕ). length l) is, length-append old bytes)

-- items of one length
length-each : {X : Type 0} (bytes_of : X → List ℕ) (n : ℕ) → ((x : X) → length (bytes_of x) ≡ n) → (xs : List X) → length (flat_map bytes_of xs) ≡ n * length xs
length-each bytes_of n each [] = omega arith
length-each bytes_of n each (x ∷ xs) =
    let rest = length-each bytes_of n each xs in
    let first = each x in
    let more : n * suc (length xs) ≡ n + n * length xs = grind arith in
    omega (arith, rest, first, more, length-append (bytes_of x) (flat_map bytes_of xs))

pub length-base : (b : Base) → length (base_bytes b) ≡ 21 + 17 * length b.rolls + 35 * length b.archives + 11 * length b.floors
unfolding base_bytes
length-base b =
    let rolls : List ℕ = flat_map roll_bytes b.rolls in
    let archives : List ℕ = flat_map archive_bytes b.archives in
    let floors : List ℕ = flat_map floor_bytes b.floors in
    let parts : base_bytes b ≡ mark_bytes b.upto b.anchors ++ (rolls ++ (archives ++ floors)) = simp append_assoc in
    omega (
      arith,
      ap (λ (l : List ℕ). length l) parts,
      length-append (mark_bytes b.upto b.anchors) (rolls ++ (archives ++ floors)),
      length-append rolls (archives ++ floors),
      length-append archives floors,
      length-mark b.upto b.anchors,
      length-each roll_bytes 17 length-roll b.rolls,
      length-each archive_bytes 35 length-archive b.archives,
      length-each floor_bytes 11 length-floor b.floors,
    )

-- the parts of a base, one behind the other
pub pushed_base : (b : Base) (old mark one two three four : List ℕ) (rolls : List Roll) (archives : List Archive) (floors : List RelationFloor)
    → mark ≡ mark_bytes b.upto b.anchors
    → rolls ≡ b.rolls → archives ≡ b.archives → floors ≡ b.floors → one ≡ old ++ mark → two ≡ one ++ flat_map roll_bytes rolls
    → three ≡ two ++ flat_map archive_bytes archives → four ≡ three ++ flat_map floor_bytes floors → four ≡ old ++ base_bytes b
unfolding base_bytes
pushed_base b old mark one two three four rolls archives floors mark_is rolls_are archives_are floors_are one_is two_is three_is four_is =
    let first : one ≡ old ++ mark_bytes b.upto b.anchors = one_is ∙ ap (λ (l : List ℕ). old ++ l) mark_is in
    let second : two ≡ one ++ flat_map roll_bytes b.rolls = two_is ∙ ap (λ (l : List Roll). one ++ flat_map roll_bytes l) rolls_are in
    let third : three ≡ two ++ flat_map archive_bytes b.archives = three_is ∙ ap (λ (l : List Archive). two ++ flat_map archive_bytes l) archives_are in
    let fourth : four ≡ three ++ flat_map floor_bytes b.floors = four_is ∙ ap (λ (l : List RelationFloor). three ++ flat_map floor_bytes l) floors_are in
    let so_far : three ≡ ((old ++ mark_bytes b.upto b.anchors) ++ flat_map roll_bytes b.rolls) ++ flat_map archive_bytes b.archives =
    third ∙ ap (λ (l : List ℕ). l ++ flat_map archive_bytes b.archives) (second ∙ ap (λ (l : List ℕ). l ++ flat_map roll_bytes b.rolls) first) in
    fourth ∙ ap (λ (l : List ℕ). l ++ flat_map floor_bytes b.floors) so_far ∙ simp append_assoc

pub length_pushed : (b : Base) (old new : List ℕ) → new ≡ old ++ base_bytes b
    → length new ≡ length old + 21 + 17 * length b.rolls + 35 * length b.archives + 11 * length b.floors
length_pushed b old new is = omega (arith, length-base b, ap (λ (l : List ℕ). length l) is, length-append old (base_bytes b))

-- what is behind what is behind old bytes is behind them
pub longer-trans : (old one two : List ℕ) → IsLonger old one → IsLonger one two → IsLonger old two
longer-trans old one two first second = (first.0 ++ second.0, second.1 ∙ ap (λ (l : List ℕ). l ++ second.0) first.1 ∙ append_assoc old first.0 second.0)
