-- Bytes are those of one entry alone.
use Rattle.std.proofs.Common.{◌≡◌, ℕ, ◌<◌, ◌≤◌, List, [], ◌∷◌, ◌++◌, length, drop, slice_index, sym, ◌∙◌, ap, subst, arith, append_assoc}
use Rattle.std.specs.List.{flat_map, AllByRecursion}
use Rattle.std.proofs.lemmas.List.{append-nil}
use Rattle.log_entries.specs.declared.entry.Member.{Member}
use Rattle.log_entries.specs.declared.entry.Base.{Base}
use Rattle.log_entries.specs.declared.entry.Entry.{Entry}
use Rattle.log_entries.specs.declared.entry.Entry.TheVariants.{Group, Archived, Floor}
use Rattle.log_entries.specs.declared.entry.Entry.TheVariants as entries
use Rattle.log_entries.specs.Spelling.{member_bytes, archive_bytes, floor_bytes, roll_bytes, mark_bytes, base_bytes, entry_bytes}
use Rattle.log_entries.specs.Ranges.{IsMember, AreMembers, IsArchive, IsFloor, IsRoll, AreParts, IsEntry}
use Rattle.log_entries.specs.Reading.{upto_at, anchors_at}
use Rattle.log_entries.specs.Items.{HasNone}
use Rattle.log_entries.specs.Bases.{Ends}
use Rattle.log_entries.proofs.FixedRead.{archive_again, floor_again, upto_again, anchors_again}
use Rattle.log_entries.proofs.Lists.{full_list}
use Rattle.log_entries.proofs.Codes.{member_again, member_code, archive_code, floor_code, roll_code}
use Rattle.log_entries.proofs.Fronts.{no_member, no_roll_behind, no_archive_behind, no_floor_behind}

-- ---- a group

pub one_group : (a b : List Member) (rest : List ℕ) → AllByRecursion IsMember a → AllByRecursion IsMember b → HasNone member_bytes IsMember rest
    → flat_map member_bytes a ++ rest ≡ flat_map member_bytes b
    → (a ≡ b) × (rest ≡ [])
one_group a b rest is_a is_b none same =
    full_list member_bytes IsMember member_code a b rest [] is_a is_b none no_member (same ∙ sym (append-nil (flat_map member_bytes b)))

pub group_read : (bytes rest : List ℕ) (found owned : List Member) → AllByRecursion IsMember found → bytes ≡ flat_map member_bytes found ++ rest → rest ≡ []
    → (0 < length found) × (length found ≤ 1024) → owned ≡ found → AreMembers owned × (bytes ≡ flat_map member_bytes owned)
group_read bytes rest found owned each is none size same =
    subst (λ (l : List Member). AreMembers l × (bytes ≡ flat_map member_bytes l)) (sym same) (
      record { some = size.0; few = size.1; each = each },
      is ∙ ap (λ (l : List ℕ). flat_map member_bytes found ++ l) none ∙ append-nil (flat_map member_bytes found),
    )

-- ---- a base

pub base_head : (b : Base) (rest : List ℕ)
    → base_bytes b ++ rest
    ≡ mark_bytes b.upto b.anchors ++ (flat_map roll_bytes b.rolls ++ (flat_map archive_bytes b.archives ++ (flat_map floor_bytes b.floors ++ rest)))
unfolding base_bytes
base_head b rest = simp append_assoc

pub base_ends : (b : Base) → Ends b []
base_ends b =
    let nil = append-nil (flat_map floor_bytes b.floors) in
    record { rolls = rw nil (no_roll_behind b.archives b.floors); archives = rw nil (no_archive_behind b.floors); floors = no_floor_behind }

pub one_base_of : (a b : Base) (r s : List ℕ) → AreParts a → AreParts b → Ends a r → Ends b s → base_bytes a ++ r ≡ base_bytes b ++ s → (a ≡ b) × (r ≡ s)
one_base_of a b r s is_a is_b ends_a ends_b same =
    let tail_a : List ℕ = flat_map roll_bytes a.rolls ++ (flat_map archive_bytes a.archives ++ (flat_map floor_bytes a.floors ++ r)) in
    let tail_b : List ℕ = flat_map roll_bytes b.rolls ++ (flat_map archive_bytes b.archives ++ (flat_map floor_bytes b.floors ++ s)) in
    let heads : mark_bytes a.upto a.anchors ++ tail_a ≡ mark_bytes b.upto b.anchors ++ tail_b = sym (base_head a r) ∙ same ∙ base_head b s in
    let first = upto_again a.upto a.anchors tail_a is_a.upto in
    let second = upto_again b.upto b.anchors tail_b is_b.upto in
    let upto : a.upto ≡ b.upto = sym first.is ∙ ap upto_at heads ∙ second.is in
    let anchors : a.anchors ≡ b.anchors =
    sym (anchors_again a.upto a.anchors tail_a is_a.first is_a.extents is_a.records).is ∙ ap anchors_at heads
    ∙ (anchors_again b.upto b.anchors tail_b is_b.first is_b.extents is_b.records).is in
    let tails : tail_a ≡ tail_b = sym first.behind ∙ ap (λ (l : List ℕ). drop 21 l) heads ∙ second.behind in
    let rolls = full_list roll_bytes IsRoll roll_code a.rolls b.rolls _ _ is_a.rolls is_b.rolls ends_a.rolls ends_b.rolls tails in
    let archives = full_list archive_bytes IsArchive archive_code a.archives b.archives _ _ is_a.archives is_b.archives ends_a.archives ends_b.archives
    rolls.1 in
    let floors = full_list floor_bytes IsFloor floor_code a.floors b.floors r s is_a.floors is_b.floors ends_a.floors ends_b.floors archives.1 in
    let rolls_are = rolls.0 in
    let archives_are = archives.0 in
    let floors_are = floors.0 in
    (λ i. record { upto = upto i; anchors = anchors i; rolls = rolls_are i; archives = archives_are i; floors = floors_are i }, floors.1)

pub one_base : (a b : Base) → AreParts a → AreParts b → base_bytes a ≡ base_bytes b → a ≡ b
one_base a b is_a is_b same =
    (one_base_of a b [] [] is_a is_b (base_ends a) (base_ends b) (append-nil (base_bytes a) ∙ same ∙ sym (append-nil (base_bytes b)))).0

-- ---- an entry

abbrev pub kind_of : Entry → ℕ
kind_of (Group members) = 5
kind_of (Archived archive) = 6
kind_of (Floor floor) = 7
kind_of (entries.Base base) = 8

group_kind : (members : List Member) → 0 < length members → AllByRecursion IsMember members → slice_index (flat_map member_bytes members) 0 ≡ 5
group_kind [] some each = absurd (omega arith)
group_kind (m ∷ ms) some each = (member_again m (flat_map member_bytes ms) each.0).kind_is

pub entry_kind : (most : ℕ) (e : Entry) → IsEntry most e → slice_index (entry_bytes e) 0 ≡ kind_of e
unfolding entry_bytes
entry_kind most (Group members) is = group_kind members is.some is.each
entry_kind most (Archived archive) is = ap (λ (l : List ℕ). slice_index l 0) (sym (append-nil (archive_bytes archive))) ∙ (archive_again archive [] is).kind_is
entry_kind most (Floor floor) is = ap (λ (l : List ℕ). slice_index l 0) (sym (append-nil (floor_bytes floor))) ∙ (floor_again floor [] is).kind_is
entry_kind most (entries.Base base) is =
    let parts = is.parts in
    ap (λ (l : List ℕ). slice_index l 0) (sym (append-nil (base_bytes base)) ∙ base_head base []) ∙ (upto_again base.upto base.anchors _ parts.upto).kind_is

same_kind : (most : ℕ) (a b : Entry) → IsEntry most a → IsEntry most b → entry_bytes a ≡ entry_bytes b → kind_of a ≡ kind_of b
same_kind most a b is_a is_b same = sym (entry_kind most a is_a) ∙ ap (λ (l : List ℕ). slice_index l 0) same ∙ entry_kind most b is_b

alone : {X : Type 0} (bytes_of : X → List ℕ) (a b : X) → bytes_of a ≡ bytes_of b → bytes_of a ++ [] ≡ bytes_of b ++ []
alone bytes_of a b same = ap (λ (l : List ℕ). l ++ []) same

pub one_entry : (most : ℕ) (a b : Entry) → IsEntry most a → IsEntry most b → entry_bytes a ≡ entry_bytes b → a ≡ b
unfolding entry_bytes
one_entry most (Group ms) (Group ns) is_a is_b same =
    ap Group (one_group ms ns [] is_a.each is_b.each no_member (append-nil (flat_map member_bytes ms) ∙ same)).0
one_entry most (Archived a) (Archived b) is_a is_b same = ap Archived (archive_code a b [] [] is_a is_b (alone archive_bytes a b same)).0
one_entry most (Floor f) (Floor g) is_a is_b same = ap Floor (floor_code f g [] [] is_a is_b (alone floor_bytes f g same)).0
one_entry most (entries.Base a) (entries.Base b) is_a is_b same = ap entries.Base (one_base a b is_a.parts is_b.parts same)
one_entry most (Group ms) (Archived y) is_a is_b same = let k = same_kind most (Group ms) (Archived y) is_a is_b same in absurd (omega (arith, k))
one_entry most (Group ms) (Floor g) is_a is_b same = let k = same_kind most (Group ms) (Floor g) is_a is_b same in absurd (omega (arith, k))
one_entry most (Group ms) (entries.Base d) is_a is_b same = let k = same_kind most (Group ms) (entries.Base d) is_a is_b same in absurd (omega (arith, k))
one_entry most (Archived x) (Group ns) is_a is_b same = let k = same_kind most (Archived x) (Group ns) is_a is_b same in absurd (omega (arith, k))
one_entry most (Archived x) (Floor g) is_a is_b same = let k = same_kind most (Archived x) (Floor g) is_a is_b same in absurd (omega (arith, k))
one_entry most (Archived x) (entries.Base d) is_a is_b same = let k = same_kind most (Archived x) (entries.Base d) is_a is_b same in absurd (omega (arith, k))
one_entry most (Floor f) (Group ns) is_a is_b same = let k = same_kind most (Floor f) (Group ns) is_a is_b same in absurd (omega (arith, k))
one_entry most (Floor f) (Archived y) is_a is_b same = let k = same_kind most (Floor f) (Archived y) is_a is_b same in absurd (omega (arith, k))
one_entry most (Floor f) (entries.Base d) is_a is_b same = let k = same_kind most (Floor f) (entries.Base d) is_a is_b same in absurd (omega (arith, k))
one_entry most (entries.Base c) (Group ns) is_a is_b same = let k = same_kind most (entries.Base c) (Group ns) is_a is_b same in absurd (omega (arith, k))
one_entry most (entries.Base c) (Archived y) is_a is_b same = let k = same_kind most (entries.Base c) (Archived y) is_a is_b same in absurd (omega (arith, k))
one_entry most (entries.Base c) (Floor g) is_a is_b same = let k = same_kind most (entries.Base c) (Floor g) is_a is_b same in absurd (omega (arith, k))
