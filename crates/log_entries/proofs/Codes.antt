-- Each item is told from the front of bytes.
use Rattle.std.proofs.Common.{◌≡◌, ℕ, List, [], ◌∷◌, ◌++◌, length, drop, sym, ◌∙◌, ap, arith, append_assoc}
use Rattle.std.specs.List.{flat_map, AllByRecursion}
use Rattle.deltas.specs.declared.«record».Record.{Record}
use Rattle.deltas.specs.declared.chain.Kinds.TheVariants.{OfCommit}
use Rattle.deltas.specs.Records.{spelling, IsRecord}
use Rattle.deltas.specs.Chains.{IsPermitted}
use Rattle.deltas.specs.Reading.{record_at, behind_record}
use Rattle.deltas.proofs.RecordsRead.{record_again}
use Rattle.log_entries.specs.declared.entry.Member.{Member}
use Rattle.log_entries.specs.Spelling.{commit_bytes, member_bytes, archive_bytes, floor_bytes, roll_bytes}
use Rattle.log_entries.specs.Ranges.{IsStored, IsMember, IsArchive, IsFloor, IsRoll}
use Rattle.log_entries.specs.Reading.{head_at, archive_at, floor_at, roll_at}
use Rattle.log_entries.proofs.Lists.{IsCode, counted_list}
use Rattle.log_entries.proofs.FixedRead.{Again, head_again, archive_again, floor_again, roll_again}

again_code : {X : Type 0} (at : List ℕ → X) (len kind : ℕ) (bytes_of : X → List ℕ) (Is : X → Type 0)
    → ((x : X) (rest : List ℕ) → Is x → Again at len kind (bytes_of x ++ rest) x rest) → IsCode bytes_of Is
again_code at len kind bytes_of Is again a b r s is_a is_b same =
    let first = again a r is_a in
    let second = again b s is_b in
    (sym first.is ∙ ap at same ∙ second.is, sym first.behind ∙ ap (λ (l : List ℕ). drop len l) same ∙ second.behind)

pub archive_code : IsCode archive_bytes IsArchive
archive_code = again_code archive_at 35 6 archive_bytes IsArchive archive_again

pub floor_code : IsCode floor_bytes IsFloor
floor_code = again_code floor_at 11 7 floor_bytes IsFloor floor_again

pub roll_code : IsCode roll_bytes IsRoll
roll_code = again_code roll_at 17 9 roll_bytes IsRoll roll_again

pub record_code : IsCode spelling IsStored
record_code a b r s is_a is_b same =
    let first = record_again a r is_a.0 in
    let second = record_again b s is_b.0 in
    (sym first.is ∙ ap record_at same ∙ second.is, sym first.behind ∙ ap behind_record same ∙ second.behind)

-- records in their range, of kinds that a commit may hold
pub all_stored : (records : List Record) → AllByRecursion IsRecord records → AllByRecursion (λ r. IsPermitted OfCommit r.content) records
    → AllByRecursion IsStored records
all_stored [] are permitted = tt
all_stored (r ∷ rs) are permitted = ((are.0, permitted.0), all_stored rs are.1 permitted.1)

pub each_record : (records : List Record) → AllByRecursion IsStored records → AllByRecursion IsRecord records
each_record [] stored = tt
each_record (r ∷ rs) stored = (stored.0.0, each_record rs stored.1)

pub each_permitted : (records : List Record) → AllByRecursion IsStored records → AllByRecursion (λ r. IsPermitted OfCommit r.content) records
each_permitted [] stored = tt
each_permitted (r ∷ rs) stored = (stored.0.1, each_permitted rs stored.1)

pub member_stored : (m : Member) → IsMember m → AllByRecursion IsStored m.records
member_stored m is = all_stored m.records is.are_records.each is.are_records.permitted

-- the COMMIT of a member, and what follows it
pub member_head : (m : Member) (rest : List ℕ)
    → member_bytes m ++ rest ≡ commit_bytes m.label m.time (length m.records) ++ (flat_map spelling m.records ++ rest)
unfolding member_bytes
member_head m rest = append_assoc (commit_bytes m.label m.time (length m.records)) (flat_map spelling m.records) rest

pub member_again : (m : Member) (rest : List ℕ) → IsMember m
    → Again head_at 19 5 (member_bytes m ++ rest) (record { label = m.label; time = m.time; records = length m.records }) (flat_map spelling m.records ++ rest)
member_again m rest is =
    rw member_head
    (head_again m.label m.time (length m.records) (flat_map spelling m.records ++ rest) is.label (let high = is.time_high in omega (arith, high))
    (let few = is.few in omega (arith, few)))

pub member_code : IsCode member_bytes IsMember
member_code a b r s is_a is_b same =
    let first = member_again a r is_a in
    let second = member_again b s is_b in
    let head = sym first.is ∙ ap head_at same ∙ second.is in
    let label : a.label ≡ b.label = λ i. (head i).label in
    let time : a.time ≡ b.time = λ i. (head i).time in
    let count : length a.records ≡ length b.records = λ i. (head i).records in
    let behind = sym first.behind ∙ ap (λ (l : List ℕ). drop 19 l) same ∙ second.behind in
    let lists = counted_list spelling IsStored record_code a.records b.records r s (member_stored a is_a) (member_stored b is_b) count behind in
    let records = lists.0 in
    (λ i. record { label = label i; time = time i; records = records i }, lists.1)
