-- What has a fixed length is read as it was spelled, and spelled as it was read.
use Rattle.std.proofs.Common.{◌≡◌, ℕ, ◌^◌, ◌<◌, ◌≤◌, List, [], ◌∷◌, ◌++◌, length, drop, slice_index, refl, sym, ◌∙◌, ap, subst, arith, append_assoc}
use Rattle.byteorder.specs.Endian.{little_bytes}
use Rattle.wire.specs.Numbers.{u16_bytes, u32_bytes, u64_bytes}
use Rattle.wire.proofs.Zeros.{AreBytes}
use Rattle.deltas.proofs.NumbersBack.{then_2, then_4, then_8}
use Rattle.log_entries.specs.declared.entry.Archive.{Archive}
use Rattle.log_entries.specs.declared.entry.RelationFloor.{RelationFloor}
use Rattle.log_entries.specs.declared.entry.Roll.{Roll}
use Rattle.log_entries.specs.declared.entry.AnchorName.{AnchorName}
use Rattle.log_entries.specs.Spelling.{commit_bytes, archive_bytes, floor_bytes, roll_bytes, mark_bytes}
use Rattle.log_entries.specs.Ranges.{IsArchive, IsFloor, IsRoll}
use Rattle.log_entries.specs.Items.{HasNone}
use Rattle.log_entries.specs.Reading.{head_at, archive_at, floor_at, roll_at, upto_at, anchors_at}
use Rattle.log_entries.proofs.NumbersRead.{number_2, number_4, number_8}

-- the bytes begin with this kind, have at least so many of them, say this, and go on so
pub record Again {X : Type 0} (at : List ℕ → X) (len kind : ℕ) (bytes : List ℕ) (x : X) (rest : List ℕ) : Type 0 where
  pub long : len ≤ length bytes
  pub kind_is : slice_index bytes 0 ≡ kind
  pub is : at bytes ≡ x
  pub behind : drop len bytes ≡ rest

-- ---- what was spelled is read

pub head_again : (label time count : ℕ) (rest : List ℕ) → label < 2 ^ 64 → time < 2 ^ 64 → count < 2 ^ 16
    → Again head_at 19 5 (commit_bytes label time count ++ rest) (record { label = label; time = time; records = count }) rest
unfolding head_at commit_bytes u16_bytes u64_bytes
head_again label time count rest label_fits time_fits count_fits =
    let first = number_8 label (little_bytes 8 time ++ little_bytes 2 count ++ rest) label_fits in
    let second = number_8 time (little_bytes 2 count ++ rest) time_fits in
    let third = number_2 count rest count_fits in
    record { long = omega arith; kind_is = refl; is = λ i. record { label = first i; time = second i; records = third i }; behind = refl }

pub archive_again : (a : Archive) (rest : List ℕ) → IsArchive a → Again archive_at 35 6 (archive_bytes a ++ rest) a rest
unfolding archive_at archive_bytes u16_bytes u64_bytes
archive_again a rest is =
    let run = is.run in
    let end = run.end in
    let upto = number_8 a.upto (little_bytes 8 a.start ++ little_bytes 8 a.len ++ little_bytes 8 a.records ++ little_bytes 2 a.runs ++ rest)
    (omega (arith, run.upto_high)) in
    let start = number_8 a.start (little_bytes 8 a.len ++ little_bytes 8 a.records ++ little_bytes 2 a.runs ++ rest) (omega (arith, end)) in
    let len = number_8 a.len (little_bytes 8 a.records ++ little_bytes 2 a.runs ++ rest) (omega (arith, end)) in
    let records = number_8 a.records (little_bytes 2 a.runs ++ rest) (omega (arith, run.shortest, end)) in
    let runs = number_2 a.runs rest is.runs in
    record {
      long = omega arith;
      kind_is = refl;
      is = λ i. record { upto = upto i; start = start i; len = len i; records = records i; runs = runs i };
      behind = refl;
    }

pub floor_again : (f : RelationFloor) (rest : List ℕ) → IsFloor f → Again floor_at 11 7 (floor_bytes f ++ rest) f rest
unfolding floor_at floor_bytes u16_bytes u64_bytes
floor_again f rest is =
    let floor = number_8 f.floor (little_bytes 2 f.relation ++ rest) (omega (arith, is.high)) in
    let relation = number_2 f.relation rest is.relation in
    record { long = omega arith; kind_is = refl; is = λ i. record { relation = relation i; floor = floor i }; behind = refl }

pub roll_again : (r : Roll) (rest : List ℕ) → IsRoll r → Again roll_at 17 9 (roll_bytes r ++ rest) r rest
unfolding roll_at roll_bytes u64_bytes
roll_again r rest is =
    let end = is.end in
    let start = number_8 r.start (little_bytes 8 r.len ++ rest) (omega (arith, end)) in
    let len = number_8 r.len rest (omega (arith, end)) in
    record { long = omega arith; kind_is = refl; is = λ i. record { start = start i; len = len i }; behind = refl }

pub upto_again : (upto : ℕ) (a : AnchorName) (rest : List ℕ) → upto < 2 ^ 64 → Again upto_at 21 8 (mark_bytes upto a ++ rest) upto rest
unfolding upto_at mark_bytes u32_bytes u64_bytes
upto_again upto a rest fits =
    record {
      long = omega arith;
      kind_is = refl;
      is = number_8 upto (little_bytes 4 a.first ++ little_bytes 4 a.extents ++ little_bytes 4 a.records ++ rest) fits;
      behind = refl;
    }

pub anchors_again : (upto : ℕ) (a : AnchorName) (rest : List ℕ) → a.first < 2 ^ 32 → a.extents < 2 ^ 32 → a.records < 2 ^ 32
    → Again anchors_at 21 8 (mark_bytes upto a ++ rest) a rest
unfolding anchors_at mark_bytes u32_bytes u64_bytes
anchors_again upto a rest first_fits extents_fits records_fits =
    let first = number_4 a.first (little_bytes 4 a.extents ++ little_bytes 4 a.records ++ rest) first_fits in
    let extents = number_4 a.extents (little_bytes 4 a.records ++ rest) extents_fits in
    let records = number_4 a.records rest records_fits in
    record { long = omega arith; kind_is = refl; is = λ i. record { first = first i; extents = extents i; records = records i }; behind = refl }

-- ---- what was read is spelled

front_is : (bytes rest : List ℕ) (kind : ℕ) → 1 ≤ length bytes → slice_index bytes 0 ≡ kind → rest ≡ drop 1 bytes → bytes ≡ kind ∷ rest
front_is [] rest kind some is behind = absurd (omega arith)
front_is (n ∷ bytes) rest kind some is behind = λ i. is i ∷ sym behind i

pub head_back : (bytes : List ℕ) → AreBytes bytes → 19 ≤ length bytes → slice_index bytes 0 ≡ 5
    → bytes ≡ commit_bytes (head_at bytes).label (head_at bytes).time (head_at bytes).records ++ drop 19 bytes
unfolding head_at commit_bytes
head_back bytes small long kind =
    let records = then_2 17 bytes (drop 19 bytes) small (omega arith) refl in
    let time = then_8 9 bytes _ small (omega arith) records in
    let label = then_8 1 bytes _ small (omega arith) time in
    front_is bytes _ 5 (omega arith) kind (simp append_assoc label)

pub archive_back : (bytes : List ℕ) → AreBytes bytes → 35 ≤ length bytes → slice_index bytes 0 ≡ 6 → bytes ≡ archive_bytes (archive_at bytes) ++ drop 35 bytes
unfolding archive_at archive_bytes
archive_back bytes small long kind =
    let runs = then_2 33 bytes (drop 35 bytes) small (omega arith) refl in
    let records = then_8 25 bytes _ small (omega arith) runs in
    let len = then_8 17 bytes _ small (omega arith) records in
    let start = then_8 9 bytes _ small (omega arith) len in
    let upto = then_8 1 bytes _ small (omega arith) start in
    front_is bytes _ 6 (omega arith) kind (simp append_assoc upto)

pub floor_back : (bytes : List ℕ) → AreBytes bytes → 11 ≤ length bytes → slice_index bytes 0 ≡ 7 → bytes ≡ floor_bytes (floor_at bytes) ++ drop 11 bytes
unfolding floor_at floor_bytes
floor_back bytes small long kind =
    let relation = then_2 9 bytes (drop 11 bytes) small (omega arith) refl in
    let floor = then_8 1 bytes _ small (omega arith) relation in
    front_is bytes _ 7 (omega arith) kind (simp append_assoc floor)

pub roll_back : (bytes : List ℕ) → AreBytes bytes → 17 ≤ length bytes → slice_index bytes 0 ≡ 9 → bytes ≡ roll_bytes (roll_at bytes) ++ drop 17 bytes
unfolding roll_at roll_bytes
roll_back bytes small long kind =
    let len = then_8 9 bytes (drop 17 bytes) small (omega arith) refl in
    let start = then_8 1 bytes _ small (omega arith) len in
    front_is bytes _ 9 (omega arith) kind (simp append_assoc start)

pub mark_back : (bytes : List ℕ) → AreBytes bytes → 21 ≤ length bytes → slice_index bytes 0 ≡ 8
    → bytes ≡ mark_bytes (upto_at bytes) (anchors_at bytes) ++ drop 21 bytes
unfolding upto_at anchors_at mark_bytes
mark_back bytes small long kind =
    let records = then_4 17 bytes (drop 21 bytes) small (omega arith) refl in
    let extents = then_4 13 bytes _ small (omega arith) records in
    let first = then_4 9 bytes _ small (omega arith) extents in
    let upto = then_8 1 bytes _ small (omega arith) first in
    front_is bytes _ 8 (omega arith) kind (simp append_assoc upto)

-- ---- both, as a reader needs them

-- none is spelled there where the bytes don't begin so, or what they say is out of range
pub none_front : {X : Type 0} (at : List ℕ → X) (len kind : ℕ) (bytes_of : X → List ℕ) (Is : X → Type 0)
    → ((x : X) (rest : List ℕ) → Is x → Again at len kind (bytes_of x ++ rest) x rest)
    → (bytes : List ℕ) → (len ≤ length bytes → slice_index bytes 0 ≡ kind → Is (at bytes) → ⊥) → HasNone bytes_of Is bytes
none_front at len kind bytes_of Is again bytes other x rest is same =
    let found = again x rest is in
    other (subst (λ (l : List ℕ). len ≤ length l) (sym same) found.long) (ap (λ (l : List ℕ). slice_index l 0) same ∙ found.kind_is)
    (subst Is (sym (ap at same ∙ found.is)) is)

-- what is read is spelled there
pub is_front : {X : Type 0} (at : List ℕ → X) (len : ℕ) (bytes_of : X → List ℕ) (bytes : List ℕ) (x : X) (rest : List ℕ)
    → bytes ≡ bytes_of (at bytes) ++ drop len bytes → x ≡ at bytes → rest ≡ drop len bytes
    → bytes ≡ bytes_of x ++ rest
is_front at len bytes_of bytes x rest back is behind = back ∙ (λ i. bytes_of (sym is i) ++ sym behind i)
