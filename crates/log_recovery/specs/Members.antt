-- The members of the log, each record over what stood before it.
use Rattle.std.specs.Prelude.{ℕ, ◌≡◌, ◌⊎◌, ◌≤◌, List, [], ◌∷◌, ◌++◌, filter, flat_map, map, nat_lt, Option}
use Rattle.history.specs.declared.key.Key.{Key}
use Rattle.history.specs.Histories.{writes_of}
use Rattle.history.specs.Queries.{values_after}
use Rattle.law_image.specs.Values.{Value}
use Rattle.law_image.specs.Reading.{Head, Member, OldRecord}
use Rattle.law_image.specs.Log.{AreRisingAfter, last_time_after}
use Rattle.law_image.specs.Facts.{commit_read, commits_from, latest, old_writes, AreStored}
use Rattle.chains.specs.KeyWrites as chains
use Rattle.chains.specs.KeyWrites.{KeyWrites}
use Rattle.disk.specs.declared.area.Area.TheVariants.{Status, Heap, Archive}
use Rattle.recovery.specs.declared.fault.OpenFault.{OpenFault}
use Rattle.recovery.specs.declared.fault.OpenFault.TheVariants.{NotAStore, Damaged, Device, NoMemory}
use Rattle.law_log.specs.Chains.{members_in}
use Rattle.log_extents.specs.Chains.{first_or}
use Rattle.log_entries.specs.declared.entry.Member.{Member as MemberEntry}
use Rattle.log_entries.specs.declared.entry.Entry.{Entry}
use Rattle.law_log_layout.specs.HeapLog.{PlacedChain, chain_told, member_told}
use Rattle.log_recovery.specs.declared.members_read.CommitName.{CommitName}
use Rattle.log_recovery.specs.declared.members_read.MembersRead.{MembersRead}

-- the values of keys by these anchors
abbrev pub values_of : List OldRecord → Key → Option Value
values_of olds key = latest (old_writes olds key)

-- the members among these commits, those of a group, and those of a chain: the commits later than the mark
abbrev pub later_than : ℕ → List Member → List Member
later_than mark members = filter (λ m. nat_lt mark m.head.time) members

abbrev pub later_of : ℕ → List MemberEntry → List Member
later_of mark members = later_than mark (map member_told members)

abbrev pub later_in : ℕ → Entry → List Member
later_in mark entry = later_than mark (members_in (chain_told [] entry))

abbrev pub members_later : ℕ → PlacedChain → List Member
members_later mark c = later_in mark c.entry

-- their names
abbrev pub heads_told : List Member → List Head
heads_told members = map (λ m. m.head) members

-- the values behind members
abbrev pub values_behind : (Key → Option Value) → List Member → Key → Option Value
values_behind before [] = before
values_behind before (m ∷ ms) = values_behind (values_after before (commit_read before m)) ms

-- each record of the members of these chains is the one that its write is stored as
abbrev pub AreAllStored : ℕ → (Key → Option Value) → List PlacedChain → Type 0
AreAllStored mark before [] = Unit {0}
AreAllStored mark before (c ∷ chains) =
    AreStored before (members_later mark c) × AreAllStored mark (values_behind before (members_later mark c)) chains

-- so it is of the members of some chains, and not of those of the next one, which begins at this extent
abbrev pub FailsMembers : ℕ → (Key → Option Value) → List PlacedChain → ℕ → Type 0
FailsMembers mark before [] place = ⊥
FailsMembers mark before (c ∷ chains) place =
    ((place ≡ first_or 0 c.numbers) × ¬ AreStored before (members_later mark c))
    ⊎ (AreStored before (members_later mark c) × FailsMembers mark (values_behind before (members_later mark c)) chains place)

-- ---- what is read of them

-- the name of a commit
abbrev pub name_told : CommitName → Head
name_told name = record { time = name.time; label = name.label }

-- the versions are the facts by these anchors and these members, whose names these are
pub record HasFacts (mark : ℕ) (olds : List OldRecord) (members : List Member) (read : MembersRead) : Type 0 where
  pub writes : (key : Key) → chains.writes_of read.versions key ≡ old_writes olds key ++ writes_of (commits_from (values_of olds) members) key
  pub commits : map name_told read.commits.items ≡ heads_told members
  pub rising : AreRisingAfter mark (heads_told members)
  pub last_is : read.last ≡ last_time_after mark (heads_told members)

-- these versions are the writes of these anchors
abbrev pub AreWritesOf : List OldRecord → List KeyWrites → Type 0
AreWritesOf olds versions = (key : Key) → chains.writes_of versions key ≡ old_writes olds key

-- the members of these chains
abbrev pub members_of_all : ℕ → List PlacedChain → List Member
members_of_all mark chains = flat_map (members_later mark) chains

-- why the members are not read
abbrev pub IsMembersFault : ℕ → (Key → Option Value) → List PlacedChain → OpenFault → Type 0
IsMembersFault mark before chains NotAStore = ⊥
IsMembersFault mark before chains (Damaged Status n) = ⊥
IsMembersFault mark before chains (Damaged Heap n) = FailsMembers mark before chains n
IsMembersFault mark before chains (Damaged Archive n) = ⊥
IsMembersFault mark before chains Device = ⊥
IsMembersFault mark before chains NoMemory = Unit {0}

-- of what was read already: damage, or that memory gave out
abbrev pub IsInMemoryFault : OpenFault → Type 0
IsInMemoryFault NotAStore = ⊥
IsInMemoryFault (Damaged area n) = Unit {0}
IsInMemoryFault Device = ⊥
IsInMemoryFault NoMemory = Unit {0}
