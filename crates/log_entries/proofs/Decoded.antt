-- What is found in a chain is the one entry that has its bytes.
use Rattle.std.proofs.Common.{◌≡◌, ◌≢◌, ℕ, List, [], ◌++◌, ◌∷◌, Option, Some, None, Result, Ok, Err, length, slice_index, sym, ◌∙◌, ap, arith}
use Rattle.std.specs.Prelude.{IfSome, IfOk}
use Rattle.std.specs.declared.alloc.AllocError.{AllocError}
use Rattle.std.specs.List.{flat_map}
use Rattle.std.proofs.lemmas.List.{append-nil}
use Rattle.log_entries.specs.declared.entry.Member.{Member}
use Rattle.log_entries.specs.declared.entry.Archive.{Archive}
use Rattle.log_entries.specs.declared.entry.RelationFloor.{RelationFloor}
use Rattle.log_entries.specs.declared.entry.Base.{Base}
use Rattle.log_entries.specs.declared.entry.Entry.{Entry}
use Rattle.log_entries.specs.declared.entry.Entry.TheVariants.{Group, Archived, Floor}
use Rattle.log_entries.specs.declared.entry.Entry.TheVariants as entries
use Rattle.log_entries.specs.Spelling.{member_bytes, archive_bytes, floor_bytes, base_bytes, entry_bytes}
use Rattle.log_entries.specs.Ranges.{AreMembers, IsArchive, IsFloor, IsBase, IsEntry}
use Rattle.log_entries.specs.Items.{HasNone, HasNoneAlone}
use Rattle.log_entries.specs.Decoding.{IsDecoded}
use Rattle.log_entries.proofs.Lists.{IsCode}
use Rattle.log_entries.proofs.Codes.{archive_code, floor_code}
use Rattle.log_entries.proofs.Entries.{kind_of, entry_kind, one_entry}

kind_is : (most : ℕ) (bytes : List ℕ) (e : Entry) → IsEntry most e → bytes ≡ entry_bytes e → kind_of e ≡ slice_index bytes 0
kind_is most bytes e is same = sym (entry_kind most e is) ∙ ap (λ (l : List ℕ). slice_index l 0) (sym same)

-- what begins with the first byte of one kind is of that kind
pub no_group : (most : ℕ) (bytes : List ℕ) → slice_index bytes 0 ≡ 5
    → ((members : List Member) → AreMembers members → bytes ≢ flat_map member_bytes members) → HasNoneAlone entry_bytes (IsEntry most) bytes
unfolding entry_bytes
no_group most bytes kind none (Group members) is same = none members is same
no_group most bytes kind none (Archived a) is same = let other = kind_is most bytes (Archived a) is same in omega (arith, other, kind)
no_group most bytes kind none (Floor f) is same = let other = kind_is most bytes (Floor f) is same in omega (arith, other, kind)
no_group most bytes kind none (entries.Base b) is same = let other = kind_is most bytes (entries.Base b) is same in omega (arith, other, kind)

pub no_archive : (most : ℕ) (bytes : List ℕ) → slice_index bytes 0 ≡ 6 → HasNoneAlone archive_bytes IsArchive bytes
    → HasNoneAlone entry_bytes (IsEntry most) bytes
unfolding entry_bytes
no_archive most bytes kind none (Group members) is same = let other = kind_is most bytes (Group members) is same in omega (arith, other, kind)
no_archive most bytes kind none (Archived a) is same = none a is same
no_archive most bytes kind none (Floor f) is same = let other = kind_is most bytes (Floor f) is same in omega (arith, other, kind)
no_archive most bytes kind none (entries.Base b) is same = let other = kind_is most bytes (entries.Base b) is same in omega (arith, other, kind)

pub no_floor : (most : ℕ) (bytes : List ℕ) → slice_index bytes 0 ≡ 7 → HasNoneAlone floor_bytes IsFloor bytes → HasNoneAlone entry_bytes (IsEntry most) bytes
unfolding entry_bytes
no_floor most bytes kind none (Group members) is same = let other = kind_is most bytes (Group members) is same in omega (arith, other, kind)
no_floor most bytes kind none (Archived a) is same = let other = kind_is most bytes (Archived a) is same in omega (arith, other, kind)
no_floor most bytes kind none (Floor f) is same = none f is same
no_floor most bytes kind none (entries.Base b) is same = let other = kind_is most bytes (entries.Base b) is same in omega (arith, other, kind)

pub no_base : (most : ℕ) (bytes : List ℕ) → slice_index bytes 0 ≡ 8 → ((base : Base) → IsBase most base → bytes ≢ base_bytes base)
    → HasNoneAlone entry_bytes (IsEntry most) bytes
unfolding entry_bytes
no_base most bytes kind none (Group members) is same = let other = kind_is most bytes (Group members) is same in omega (arith, other, kind)
no_base most bytes kind none (Archived a) is same = let other = kind_is most bytes (Archived a) is same in omega (arith, other, kind)
no_base most bytes kind none (Floor f) is same = let other = kind_is most bytes (Floor f) is same in omega (arith, other, kind)
no_base most bytes kind none (entries.Base b) is same = none b is same

pub no_kind : (most : ℕ) (bytes : List ℕ) → slice_index bytes 0 ≢ 5 → slice_index bytes 0 ≢ 6 → slice_index bytes 0 ≢ 7 → slice_index bytes 0 ≢ 8
    → HasNoneAlone entry_bytes (IsEntry most) bytes
no_kind most bytes five six seven eight (Group members) is same = five (sym (kind_is most bytes (Group members) is same))
no_kind most bytes five six seven eight (Archived a) is same = six (sym (kind_is most bytes (Archived a) is same))
no_kind most bytes five six seven eight (Floor f) is same = seven (sym (kind_is most bytes (Floor f) is same))
no_kind most bytes five six seven eight (entries.Base b) is same = eight (sym (kind_is most bytes (entries.Base b) is same))

pub no_bytes : (most : ℕ) (bytes : List ℕ) → length bytes ≡ 0 → HasNoneAlone entry_bytes (IsEntry most) bytes
no_bytes most [] none = no_kind most [] (λ e. omega (arith, e)) (λ e. omega (arith, e)) (λ e. omega (arith, e)) (λ e. omega (arith, e))
no_bytes most (n ∷ bytes) none = absurd (omega (arith, none))

-- nothing has these bytes where something has them and more behind it
more : {X : Type 0} (bytes_of : X → List ℕ) (Is : X → Type 0) → IsCode bytes_of Is → (bytes rest : List ℕ) (x : X) → Is x
    → bytes ≡ bytes_of x ++ rest → (rest ≡ [] → ⊥) → HasNoneAlone bytes_of Is bytes
more bytes_of Is code bytes rest x is same some y is_y other = some (code x y rest [] is is_y (sym same ∙ other ∙ sym (append-nil (bytes_of y)))).1

-- nothing has these bytes where none is at their front
none_alone : {X : Type 0} (bytes_of : X → List ℕ) (Is : X → Type 0) (bytes : List ℕ) → HasNone bytes_of Is bytes → HasNoneAlone bytes_of Is bytes
none_alone bytes_of Is bytes none x is same = none x [] is (same ∙ sym (append-nil (bytes_of x)))

pub archive_none : (most : ℕ) (bytes : List ℕ) → slice_index bytes 0 ≡ 6 → HasNone archive_bytes IsArchive bytes → HasNoneAlone entry_bytes (IsEntry most) bytes
archive_none most bytes kind none = no_archive most bytes kind (none_alone archive_bytes IsArchive bytes none)

pub archive_more : (most : ℕ) (bytes rest : List ℕ) (a : Archive) → slice_index bytes 0 ≡ 6 → IsArchive a × (bytes ≡ archive_bytes a ++ rest)
    → (rest ≡ [] → ⊥) → HasNoneAlone entry_bytes (IsEntry most) bytes
archive_more most bytes rest a kind found some = no_archive most bytes kind (more archive_bytes IsArchive archive_code bytes rest a found.0 found.1 some)

pub archive_alone : (most : ℕ) (bytes rest : List ℕ) (a : Archive) → IsArchive a × (bytes ≡ archive_bytes a ++ rest) → rest ≡ []
    → IsEntry most (Archived a) × (bytes ≡ entry_bytes (Archived a))
unfolding entry_bytes
archive_alone most bytes rest a found none = (found.0, found.1 ∙ ap (λ (l : List ℕ). archive_bytes a ++ l) none ∙ append-nil (archive_bytes a))

pub floor_none : (most : ℕ) (bytes : List ℕ) → slice_index bytes 0 ≡ 7 → HasNone floor_bytes IsFloor bytes → HasNoneAlone entry_bytes (IsEntry most) bytes
floor_none most bytes kind none = no_floor most bytes kind (none_alone floor_bytes IsFloor bytes none)

pub floor_more : (most : ℕ) (bytes rest : List ℕ) (f : RelationFloor) → slice_index bytes 0 ≡ 7 → IsFloor f × (bytes ≡ floor_bytes f ++ rest)
    → (rest ≡ [] → ⊥) → HasNoneAlone entry_bytes (IsEntry most) bytes
floor_more most bytes rest f kind found some = no_floor most bytes kind (more floor_bytes IsFloor floor_code bytes rest f found.0 found.1 some)

pub floor_alone : (most : ℕ) (bytes rest : List ℕ) (f : RelationFloor) → IsFloor f × (bytes ≡ floor_bytes f ++ rest) → rest ≡ []
    → IsEntry most (Floor f) × (bytes ≡ entry_bytes (Floor f))
unfolding entry_bytes
floor_alone most bytes rest f found none = (found.0, found.1 ∙ ap (λ (l : List ℕ). floor_bytes f ++ l) none ∙ append-nil (floor_bytes f))

-- ---- the two clauses of a reader

pub decoded_found : (most : ℕ) (bytes : List ℕ) (o : Option Entry) → IsDecoded most bytes o → IfSome o (λ e. (bytes ≡ entry_bytes e) × IsEntry most e)
decoded_found most bytes None is = tt
decoded_found most bytes (Some e) is = (is.1, is.0)

pub decoded_only : (most : ℕ) (bytes : List ℕ) (o : Option Entry) (e : Entry) → IsDecoded most bytes o → IsEntry most e → bytes ≡ entry_bytes e → o ≡ Some e
decoded_only most bytes None e is fits same = absurd (is e fits same)
decoded_only most bytes (Some found) e is fits same = ap Some (one_entry most found e is.0 fits (sym is.1 ∙ same))

pub decoded_ok : (most : ℕ) (bytes : List ℕ) (r : Result (Option Entry) AllocError) (e : Entry) → IfOk r (IsDecoded most bytes) → IsEntry most e
    → bytes ≡ entry_bytes e → IfOk r (λ o. o ≡ Some e)
decoded_ok most bytes (Ok o) e is fits same = decoded_only most bytes o e is fits same
decoded_ok most bytes (Err fault) e is fits same = tt
