-- The lists of a base, read one behind the other.
use Rattle.std.proofs.Common.{◌≡◌, ◌↔◌, ℕ, ◌^◌, ◌<◌, ◌≤◌, slice_index, List, [], ◌∷◌, ◌++◌, ◌-◌, get_or, length, take, drop, sym, ◌∙◌, ap, subst, arith}
use Rattle.std.specs.List.{flat_map, AllByRecursion}
use Rattle.std.proofs.lemmas.List.{append-nil, take_all}
use Rattle.wire.proofs.Zeros.{AreBytes}
use Rattle.log_entries.specs.declared.entry.Archive.{Archive}
use Rattle.log_entries.specs.declared.entry.RelationFloor.{RelationFloor}
use Rattle.log_entries.specs.declared.entry.Roll.{Roll}
use Rattle.log_entries.specs.declared.entry.AnchorName.{AnchorName}
use Rattle.log_entries.specs.declared.entry.Base.{Base}
use Rattle.log_entries.specs.Spelling.{archive_bytes, floor_bytes, roll_bytes, mark_bytes, base_bytes}
use Rattle.log_entries.specs.Ranges.{IsArchive, IsFloor, IsRoll, AreRising, AreParts, IsWhole, IsBase}
use Rattle.log_entries.specs.Reading.{upto_at, anchors_at}
use Rattle.log_entries.specs.Items.{HasNone}
use Rattle.log_entries.specs.Bases.{IsRead}
use Rattle.log_entries.proofs.FixedRead.{mark_back, upto_again}
use Rattle.log_entries.proofs.Entries.{base_ends, base_head, one_base_of}

-- the lists, each read behind the one before it
pub read_base : (bytes first second rest : List ℕ) (b : Base) → AreParts b → bytes ≡ mark_bytes b.upto b.anchors ++ drop 21 bytes
    → drop 21 bytes ≡ flat_map roll_bytes b.rolls ++ first
    → first ≡ flat_map archive_bytes b.archives ++ second → second ≡ flat_map floor_bytes b.floors ++ rest → HasNone roll_bytes IsRoll first
    → HasNone archive_bytes IsArchive second
    → HasNone floor_bytes IsFloor rest → IsRead bytes b rest
read_base bytes first second rest b parts mark rolls archives floors no_rolls no_archives no_floors =
    let second_is : first ≡ flat_map archive_bytes b.archives ++ (flat_map floor_bytes b.floors ++ rest) = archives
    ∙ ap (λ (l : List ℕ). flat_map archive_bytes b.archives ++ l) floors in
    record {
      parts = parts;
      bytes_are = mark
          ∙ ap (λ (l : List ℕ). mark_bytes b.upto b.anchors ++ l) (rolls ∙ ap (λ (l : List ℕ). flat_map roll_bytes b.rolls ++ l) second_is)
          ∙ sym (base_head b rest);
      ends = record {
        rolls = subst (HasNone roll_bytes IsRoll) second_is no_rolls;
        archives = subst (HasNone archive_bytes IsArchive) floors no_archives;
        floors = no_floors;
      };
    }

-- it is the one base that has these bytes
pub read_only : (bytes rest : List ℕ) (a b : Base) → IsRead bytes a rest → AreParts b → bytes ≡ base_bytes b → (a ≡ b) × (rest ≡ [])
read_only bytes rest a b read parts same =
    one_base_of a b rest [] read.parts parts read.ends (base_ends b) (sym read.bytes_are ∙ same ∙ sym (append-nil (base_bytes b)))

-- the same of what was read and is owned
pub parts_read : (bytes after first second rest : List ℕ) (upto : ℕ) (anchors : AnchorName) (rolls own_rolls : List Roll)
    (archives own_archives : List Archive) (floors own_floors : List RelationFloor)
    → AreBytes bytes → 21 ≤ length bytes → slice_index bytes 0 ≡ 8 → after ≡ drop 21 bytes → upto < 2 ^ 64 → anchors.first < 2 ^ 32
    → anchors.extents < 2 ^ 32 → anchors.records < 2 ^ 32
    → upto ≡ upto_at bytes → anchors ≡ anchors_at bytes
    → AllByRecursion IsRoll rolls → after ≡ flat_map roll_bytes rolls ++ first → HasNone roll_bytes IsRoll first → own_rolls ≡ rolls
    → AllByRecursion IsArchive archives → first ≡ flat_map archive_bytes archives ++ second → HasNone archive_bytes IsArchive second → own_archives ≡ archives
    → AllByRecursion IsFloor floors → second ≡ flat_map floor_bytes floors ++ rest → HasNone floor_bytes IsFloor rest → own_floors ≡ floors
    → IsRead bytes (record { upto = upto; anchors = anchors; rolls = own_rolls; archives = own_archives; floors = own_floors }) rest
parts_read bytes after first second rest upto anchors rolls own_rolls archives own_archives floors own_floors small long kind after_is upto_fits first_fits
    extents_fits records_fits
    upto_is anchors_are each_roll rolls_are no_rolls same_rolls each_archive archives_are no_archives same_archives each_floor floors_are no_floors
    same_floors =
    let made : List Roll → List Archive → List RelationFloor → Base = λ r a f. record { upto = upto; anchors = anchors; rolls = r; archives = a; floors = f } in
    let mark : bytes ≡ mark_bytes upto anchors ++ drop 21 bytes = mark_back bytes small long kind
    ∙ (λ i. mark_bytes (sym upto_is i) (sym anchors_are i) ++ drop 21 bytes) in
    let read : IsRead bytes (made rolls archives floors) rest =
    read_base bytes first second rest (made rolls archives floors)
    (record {
      upto = upto_fits;
      first = first_fits;
      extents = extents_fits;
      records = records_fits;
      rolls = each_roll;
      archives = each_archive;
      floors = each_floor;
    })
    mark (sym after_is ∙ rolls_are) archives_are floors_are no_rolls no_archives no_floors in
    subst (λ (r : List Roll). IsRead bytes (made r own_archives own_floors) rest) (sym same_rolls)
    (subst (λ (a : List Archive). IsRead bytes (made rolls a own_floors) rest) (sym same_archives)
    (subst (λ (f : List RelationFloor). IsRead bytes (made rolls archives f) rest) (sym same_floors) read))

-- a base begins with a BASE
pub base_begins : (bytes : List ℕ) (b : Base) → AreParts b → bytes ≡ base_bytes b → (21 ≤ length bytes) × (slice_index bytes 0 ≡ 8)
base_begins bytes b parts same =
    let tail : List ℕ = flat_map roll_bytes b.rolls ++ (flat_map archive_bytes b.archives ++ (flat_map floor_bytes b.floors ++ [])) in
    let whole : bytes ≡ mark_bytes b.upto b.anchors ++ tail = same ∙ sym (append-nil (base_bytes b)) ∙ base_head b [] in
    let found = upto_again b.upto b.anchors tail parts.upto in
    (subst (λ (l : List ℕ). 21 ≤ length l) (sym whole) found.long, ap (λ (l : List ℕ). slice_index l 0) whole ∙ found.kind_is)

-- it has just these bytes where nothing is left
pub whole_read : (bytes rest : List ℕ) (most : ℕ) (b : Base) → IsRead bytes b rest → rest ≡ [] → IsWhole most b → IsBase most b × (bytes ≡ base_bytes b)
whole_read bytes rest most b read none whole =
    (record { parts = read.parts; whole = whole }, read.bytes_are ∙ ap (λ (l : List ℕ). base_bytes b ++ l) none ∙ append-nil (base_bytes b))

-- ---- floors by rising relation

abbrev AreAbove : ℕ → List RelationFloor → Type 0
AreAbove relation floors = AllByRecursion (λ (g : RelationFloor). relation < g.relation) floors

-- each relation is above the one before it
abbrev pub RisesAfter : ℕ → List RelationFloor → Type 0
RisesAfter relation [] = Unit {0}
RisesAfter relation (f ∷ fs) = (relation < f.relation) × RisesAfter f.relation fs

above-trans : (a b : ℕ) (fs : List RelationFloor) → a < b → AreAbove b fs → AreAbove a fs
above-trans a b [] lt above = tt
above-trans a b (f ∷ fs) lt above = let first = above.0 in (omega (arith, lt, first), above-trans a b fs lt above.1)

rising_from : (f : RelationFloor) (fs : List RelationFloor) → RisesAfter f.relation fs → AreRising (f ∷ fs)
rising_from f [] rises = (tt, tt)
rising_from f (g ∷ gs) rises = let rest = rising_from g gs rises.1 in ((rises.0, above-trans f.relation g.relation gs rises.0 rest.0), rest)

rises_from : (f : RelationFloor) (fs : List RelationFloor) → AreRising (f ∷ fs) → RisesAfter f.relation fs
rises_from f [] rising = tt
rises_from f (g ∷ gs) rising = (rising.0.0, rises_from g gs rising.1)

pub first_rises : (floors rest : List RelationFloor) (first : RelationFloor) → floors ≡ first ∷ rest → RisesAfter first.relation rest ↔ AreRising floors
first_rises floors rest first is =
    (λ rises. subst AreRising (sym is) (rising_from first rest rises), λ rising. rises_from first rest (subst AreRising is rising))

pub split_floors : (floors : List RelationFloor) (d : RelationFloor) → 1 ≤ length floors → floors ≡ get_or floors 0 d ∷ take (length floors - 1) (drop 1 floors)
split_floors [] d some = absurd (omega (arith, some))
split_floors (f ∷ fs) d some = let rest : take (length (f ∷ fs) - 1) fs ≡ fs = take_all (length (f ∷ fs) - 1) fs (omega arith) in λ i. f ∷ sym rest i

pub none_rise : (floors : List RelationFloor) → length floors < 1 → AreRising floors
none_rise [] none = tt
none_rise (f ∷ fs) none = absurd (omega (arith, none))
