-- A commit at the front of bytes.
use Rattle.std.proofs.Common.{◌≡◌, ℕ, ◌^◌, ◌<◌, ◌≤◌, List, ◌++◌, length, drop, slice_index, sym, ◌∙◌, ap, subst}
use Rattle.std.specs.List.{flat_map, AllByRecursion}
use Rattle.deltas.specs.declared.«record».Record.{Record}
use Rattle.deltas.specs.Records.{spelling}
use Rattle.wire.proofs.Zeros.{AreBytes}
use Rattle.log_entries.specs.declared.group.Head.{Head}
use Rattle.log_entries.specs.declared.entry.Member.{Member}
use Rattle.log_entries.specs.Spelling.{commit_bytes, member_bytes}
use Rattle.log_entries.specs.Ranges.{IsStored, IsMember}
use Rattle.log_entries.specs.Reading.{head_at, IsHeadOf}
use Rattle.log_entries.specs.Items.{HasNone, HasFewer}
use Rattle.log_entries.proofs.Lists.{counted_list}
use Rattle.log_entries.proofs.FixedRead.{head_back}
use Rattle.log_entries.proofs.Codes.{record_code, each_record, each_permitted, member_stored, member_head, member_again}

-- a COMMIT, with these records behind it
abbrev pub with_records : Head → List Record → Member
with_records head records = record { label = head.label; time = head.time; records = records }

head_of : (head : Head) (records : List Record) → IsMember (with_records head records) → IsHeadOf head records
head_of head records is = record { time_low = is.time_low; time_high = is.time_high; some = is.some; few = is.few; rising = is.are_records.rising }

pub member_of : (head : Head) (records : List Record) → head.label < 2 ^ 64 → AllByRecursion IsStored records → IsHeadOf head records
    → IsMember (with_records head records)
member_of head records label stored is = record {
  label = label;
  time_low = is.time_low;
  time_high = is.time_high;
  some = is.some;
  few = is.few;
  are_records = record { each = each_record records stored; permitted = each_permitted records stored; rising = is.rising };
}

pub none_begins : (bytes : List ℕ) → (19 ≤ length bytes → slice_index bytes 0 ≡ 5 → ⊥) → HasNone member_bytes IsMember bytes
none_begins bytes other x rest is same =
    let found = member_again x rest is in
    other (subst (λ (l : List ℕ). 19 ≤ length l) (sym same) found.long) (ap (λ (l : List ℕ). slice_index l 0) same ∙ found.kind_is)

-- what the bytes say of a commit that is spelled there
head_found : (bytes : List ℕ) (head : Head) (x : Member) (rest : List ℕ) → IsMember x → bytes ≡ member_bytes x ++ rest → head ≡ head_at bytes
    → head ≡ record { label = x.label; time = x.time; records = length x.records }
head_found bytes head x rest is same head_is = head_is ∙ ap head_at same ∙ (member_again x rest is).is

behind_found : (bytes after : List ℕ) (x : Member) (rest : List ℕ) → IsMember x → bytes ≡ member_bytes x ++ rest → after ≡ drop 19 bytes
    → after ≡ flat_map spelling x.records ++ rest
behind_found bytes after x rest is same after_is = after_is ∙ ap (λ (l : List ℕ). drop 19 l) same ∙ (member_again x rest is).behind

pub none_behind : (bytes after : List ℕ) (head : Head) → head ≡ head_at bytes → after ≡ drop 19 bytes → HasFewer spelling IsStored head.records after
    → HasNone member_bytes IsMember bytes
none_behind bytes after head head_is after_is fewer x rest is same =
    let found = head_found bytes head x rest is same head_is in
    let count : length x.records ≡ head.records = λ i. (sym found i).records in
    fewer x.records rest (member_stored x is) count (behind_found bytes after x rest is same after_is)

pub none_other : (bytes after left : List ℕ) (head : Head) (records : List Record) → head ≡ head_at bytes → after ≡ drop 19 bytes
    → AllByRecursion IsStored records × (length records ≡ head.records) × (after ≡ flat_map spelling records ++ left) → (IsHeadOf head records → ⊥)
    → HasNone member_bytes IsMember bytes
none_other bytes after left head records head_is after_is read other x rest is same =
    let found = head_found bytes head x rest is same head_is in
    let count : length records ≡ length x.records = read.1 ∙ (λ i. (found i).records) in
    let behind : flat_map spelling records ++ left ≡ flat_map spelling x.records ++ rest = sym read.2 ∙ behind_found bytes after x rest is same after_is in
    let list = (counted_list spelling IsStored record_code records x.records left rest read.0 (member_stored x is) count behind).0 in
    let whole : x ≡ with_records head records = λ i. record { label = (sym found i).label; time = (sym found i).time; records = sym list i } in
    other (head_of head records (subst IsMember whole is))

-- the commit that is read is spelled there
pub is_spelled : (bytes after left : List ℕ) (head : Head) (records : List Record) → AreBytes bytes → 19 ≤ length bytes → slice_index bytes 0 ≡ 5
    → head ≡ head_at bytes → after ≡ drop 19 bytes
    → AllByRecursion IsStored records × (length records ≡ head.records) × (after ≡ flat_map spelling records ++ left)
    → bytes ≡ member_bytes (with_records head records) ++ left
is_spelled bytes after left head records small long kind head_is after_is read =
    let back : bytes ≡ commit_bytes head.label head.time head.records ++ drop 19 bytes =
    subst (λ (h : Head). bytes ≡ commit_bytes h.label h.time h.records ++ drop 19 bytes) (sym head_is) (head_back bytes small long kind) in
    back
    ∙ ap (λ n. commit_bytes head.label head.time n ++ drop 19 bytes) (sym read.1)
    ∙ ap (λ (l : List ℕ). commit_bytes head.label head.time (length records) ++ l) (sym after_is ∙ read.2)
    ∙ sym (member_head (with_records head records) left)

pub member_read : (bytes after left : List ℕ) (head : Head) (records owned : List Record) → head.label < 2 ^ 64 → AreBytes bytes → 19 ≤ length bytes
    → slice_index bytes 0 ≡ 5 → head ≡ head_at bytes
    → after ≡ drop 19 bytes → AllByRecursion IsStored records × (length records ≡ head.records) × (after ≡ flat_map spelling records ++ left)
    → IsHeadOf head records → owned ≡ records
    → IsMember (with_records head owned) × (bytes ≡ member_bytes (with_records head owned) ++ left)
member_read bytes after left head records owned label small long kind head_is after_is read is same =
    subst (λ (l : List Record). IsMember (with_records head l) × (bytes ≡ member_bytes (with_records head l) ++ left)) (sym same)
    (member_of head records label read.0 is, is_spelled bytes after left head records small long kind head_is after_is read)
