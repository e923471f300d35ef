-- What the bytes of a header say.
use Rattle.std.proofs.Common.{◌≡◌, ℕ, ◌+◌, ◌*◌, ◌^◌, ◌/◌, ◌%◌, ◌<◌, Bool, true, false, List, [], ◌∷◌, ◌++◌, length, take, drop, replicate, refl, sym, ◌∙◌, ap}
use Rattle.std.proofs.Common.{arith}
use Rattle.std.specs.Prelude.{slice_index}
use borrow.Rule.Slice.PartMut.{put_mid, mid_of, post_of}
use Rattle.std.proofs.lemmas.List.{append-nil, nil_from_length, drop_at, drop-replicate, length-take, length-drop, length-replicate, take_all}
use Rattle.byteorder.specs.Endian.{little_bytes, little_number}
use Rattle.byteorder.specs.Numbers.{little_from-bytes}
use Rattle.wire.specs.Numbers.{u32_bytes}
use Rattle.status.specs.Header.{header_front}
use Rattle.log_roots.specs.declared.roots.Roots.{Roots}
use Rattle.log_roots.specs.Roots.{other_place, is_open, turn_gate, IsRoots, roots_bytes, HasRoots, roots_at}
use Rattle.log_roots.specs.Laws.{with_other, with_turn, put_at}

number_4 : (n : ℕ) (rest : List ℕ) → n < 2 ^ 32 → little_number 4 (little_bytes 4 n ++ rest) ≡ n
number_4 n rest lt = little_from-bytes 4 0 n rest ∙ omega arith

-- what a header's bytes say are its roots
pub roots_again : (gate : ℕ) (r : Roots) → r.turned ≡ is_open gate → IsRoots r → roots_at (roots_bytes gate r) ≡ r
unfolding roots_at roots_bytes u32_bytes
roots_again gate r turned is =
    let zeros : List ℕ = replicate 484 0 in
    let most = is.size.most in
    let extents = number_4 r.extents (gate ∷ 0 ∷ 0 ∷ 0 ∷ (little_bytes 4 r.root_0 ++ (little_bytes 4 r.root_1 ++ zeros))) (omega (arith, most)) in
    let root_0 = number_4 r.root_0 (little_bytes 4 r.root_1 ++ zeros) is.fits_0 in
    let root_1 = number_4 r.root_1 zeros is.fits_1 in
    let open_gate = sym turned in
    λ i. record { extents = extents i; turned = open_gate i; root_0 = root_0 i; root_1 = root_1 i }

pub one_reading : (bytes : List ℕ) (a b : Roots) → HasRoots bytes a → HasRoots bytes b → a ≡ b
one_reading bytes a b has_a has_b =
    sym (roots_again has_a.gate a has_a.turned has_a.in_range) ∙ ap roots_at (sym has_a.bytes_are ∙ has_b.bytes_are)
    ∙ roots_again has_b.gate b has_b.turned has_b.in_range

-- what bytes at their places say, where they are a header
pub roots_read : (bytes : List ℕ) (r : Roots) → HasRoots bytes r → roots_at bytes ≡ r
roots_read bytes r has = ap roots_at has.bytes_are ∙ roots_again has.gate r has.turned has.in_range

-- the gate stands at its place
pub gate_read : (bytes : List ℕ) (r : Roots) (has : HasRoots bytes r) → slice_index bytes 16 ≡ has.gate
unfolding roots_bytes
gate_read bytes r has = ap (λ (l : List ℕ). slice_index l 16) has.bytes_are

-- bytes are a header with the gate that stands at its place
pub bytes_read : (bytes : List ℕ) (r : Roots) (has : HasRoots bytes r) → bytes ≡ roots_bytes (slice_index bytes 16) r
bytes_read bytes r has = has.bytes_are ∙ ap (λ gate. roots_bytes gate r) (sym (gate_read bytes r has))

-- ---- a header as it is written

-- what is written behind the front stands there
behind_front : (old part : List ℕ) → length old ≡ 512 → drop 16 (put_mid 16 496 old part) ≡ part
behind_front old part len =
    let front : length (take 16 old) ≡ 16 = omega (arith, length-take 16 old) in
    let behind : post_of 16 496 old ≡ [] = nil_from_length (post_of 16 496 old) (omega (arith, length-drop 496 (drop 16 old), length-drop 16 old)) in
    drop_at (take 16 old) (part ++ post_of 16 496 old) 16 front ∙ ap (λ (l : List ℕ). part ++ l) behind ∙ append-nil part

-- the zeros behind the roots
zeros_left : (old : List ℕ) → old ≡ replicate 512 0 → drop 12 (mid_of 16 496 old) ≡ replicate 484 0
zeros_left old zeros =
    ap (λ (l : List ℕ). drop 12 (take 496 (drop 16 l))) zeros
    ∙ ap (λ (l : List ℕ). drop 12 (take 496 l)) (drop-replicate 16 512 0)
    ∙ ap (λ (l : List ℕ). drop 12 l) (take_all 496 (replicate 496 0) (omega (arith, length-replicate {A = ℕ} 496 0)))
    ∙ drop-replicate 12 496 0

pub header_made : (gate : ℕ) (r : Roots) (old part bytes : List ℕ) → old ≡ replicate 512 0
    → part ≡ gate ∷ 0 ∷ 0 ∷ 0 ∷ (u32_bytes r.root_0 ++ u32_bytes r.root_1 ++ drop 12 (mid_of 16 496 old))
    → bytes ≡ header_front 4 r.extents ++ drop 16 (put_mid 16 496 old part) → bytes ≡ roots_bytes gate r
unfolding roots_bytes
header_made gate r old part bytes zeros part_is bytes_are =
    let len : length old ≡ 512 = ap (λ (l : List ℕ). length l) zeros ∙ length-replicate {A = ℕ} 512 0 in
    bytes_are
    ∙ ap (λ (l : List ℕ). header_front 4 r.extents ++ l) (behind_front old part len ∙ part_is)
    ∙ ap (λ (l : List ℕ). header_front 4 r.extents ++ gate ∷ 0 ∷ 0 ∷ 0 ∷ (u32_bytes r.root_0 ++ u32_bytes r.root_1 ++ l)) (zeros_left old zeros)

-- a gate that is written is open exactly where the roots are turned
pub gate_written : (turned : Bool) → turned ≡ is_open (turn_gate turned)
gate_written true = refl
gate_written false = refl

pub gate_fits : (turned : Bool) → turn_gate turned < 256
gate_fits true = omega arith
gate_fits false = omega arith

-- ---- what is written over it

-- four bytes are those of the number that they make
four_again : (a b c d : ℕ) → a < 256 → b < 256 → c < 256 → d < 256 → little_bytes 4 (little_number 4 (a ∷ b ∷ c ∷ d ∷ [])) ≡ a ∷ b ∷ c ∷ d ∷ []
four_again a b c d a_fits b_fits c_fits d_fits =
    let x : ℕ = a + 256 * (b + 256 * (c + 256 * (d + 256 * 0))) in
    let first : x % 256 ≡ a = omega arith in
    let second : x / 256 ^ 1 % 256 ≡ b = omega arith in
    let third : x / 256 ^ 2 % 256 ≡ c = omega arith in
    let fourth : x / 256 ^ 3 % 256 ≡ d = omega arith in
    λ i. first i ∷ second i ∷ third i ∷ fourth i ∷ []

four_number : (a b c d : ℕ) → a < 256 → b < 256 → c < 256 → d < 256 → little_number 4 (a ∷ b ∷ c ∷ d ∷ []) < 2 ^ 32
four_number a b c d a_fits b_fits c_fits d_fits = omega arith

other_free : (turned : Bool) (bytes : List ℕ) (a b c d extents root_0 root_1 : ℕ) → a < 256 → b < 256 → c < 256 → d < 256
    → (has : HasRoots bytes (record { extents = extents; turned = turned; root_0 = root_0; root_1 = root_1 }))
    → HasRoots (put_at (other_place (record { extents = extents; turned = turned; root_0 = root_0; root_1 = root_1 })) (a ∷ b ∷ c ∷ d ∷ []) bytes)
    (with_other (record { extents = extents; turned = turned; root_0 = root_0; root_1 = root_1 }) (little_number 4 (a ∷ b ∷ c ∷ d ∷ [])))
unfolding roots_bytes u32_bytes
other_free true bytes a b c d extents root_0 root_1 a_fits b_fits c_fits d_fits has =
    let front : List ℕ = header_front 4 extents ++ has.gate ∷ 0 ∷ 0 ∷ 0 ∷ [] in
    record {
      gate = has.gate;
      gate_fits = has.gate_fits;
      turned = has.turned;
      in_range = record {
        size = has.in_range.size;
        root_low = has.in_range.root_low;
        root_high = has.in_range.root_high;
        fits_0 = four_number a b c d a_fits b_fits c_fits d_fits;
        fits_1 = has.in_range.fits_1;
      };
      bytes_are =
          ap (λ (l : List ℕ). put_at 20 (a ∷ b ∷ c ∷ d ∷ []) l) has.bytes_are
          ∙ ap (λ (l : List ℕ). front ++ (l ++ (little_bytes 4 root_1 ++ replicate 484 0))) (sym (four_again a b c d a_fits b_fits c_fits d_fits));
    }
other_free false bytes a b c d extents root_0 root_1 a_fits b_fits c_fits d_fits has =
    let front : List ℕ = header_front 4 extents ++ has.gate ∷ 0 ∷ 0 ∷ 0 ∷ little_bytes 4 root_0 in
    record {
      gate = has.gate;
      gate_fits = has.gate_fits;
      turned = has.turned;
      in_range = record {
        size = has.in_range.size;
        root_low = has.in_range.root_low;
        root_high = has.in_range.root_high;
        fits_0 = has.in_range.fits_0;
        fits_1 = four_number a b c d a_fits b_fits c_fits d_fits;
      };
      bytes_are =
          ap (λ (l : List ℕ). put_at 24 (a ∷ b ∷ c ∷ d ∷ []) l) has.bytes_are
          ∙ ap (λ (l : List ℕ). front ++ (l ++ replicate 484 0)) (sym (four_again a b c d a_fits b_fits c_fits d_fits));
    }

pub other_is_free : (bytes four : List ℕ) (r : Roots) → HasRoots bytes r → length four ≡ 4 → ((k : ℕ) → slice_index four k < 256)
    → HasRoots (put_at (other_place r) four bytes) (with_other r (little_number 4 four))
other_is_free bytes [] r has len fit = absurd (omega (arith, len))
other_is_free bytes (a ∷ []) r has len fit = absurd (omega (arith, len))
other_is_free bytes (a ∷ b ∷ []) r has len fit = absurd (omega (arith, len))
other_is_free bytes (a ∷ b ∷ c ∷ []) r has len fit = absurd (omega (arith, len))
other_is_free bytes (a ∷ b ∷ c ∷ d ∷ []) r has len fit = other_free r.turned bytes a b c d r.extents r.root_0 r.root_1 (fit 0) (fit 1) (fit 2) (fit 3) has
other_is_free bytes (a ∷ b ∷ c ∷ d ∷ e ∷ rest) r has len fit = absurd (omega (arith, len))

pub turn_is_free : (bytes : List ℕ) (gate : ℕ) (r : Roots) → HasRoots bytes r → gate < 256 → IsRoots (with_turn r gate)
    → HasRoots (put_at 16 (gate ∷ []) bytes) (with_turn r gate)
unfolding roots_bytes u32_bytes
turn_is_free bytes gate r has fits is = record {
  gate = gate;
  gate_fits = fits;
  turned = refl;
  in_range = is;
  bytes_are = ap (λ (l : List ℕ). put_at 16 (gate ∷ []) l) has.bytes_are;
}
