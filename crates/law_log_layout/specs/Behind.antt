-- What a reclaim has counted stays right while groups are published behind the log.
use Rattle.std.specs.Prelude.{ℕ, ◌≡◌, List, [], ◌∷◌, ◌++◌, map}
use Rattle.history.specs.declared.key.Key.{Key}
use Rattle.history.specs.Histories.{History}
use Rattle.law_image.specs.Values.{Value}
use Rattle.law_image.specs.Reading.{Head, OldRecord, Reading}
use Rattle.law_image.specs.Reading as readings
use Rattle.law_image.specs.Facts.{values_now}
use Rattle.law_image.specs.StandsFor.{StandsFor}
use Rattle.law_image.specs.Plans.{IsGroupOf, IsReclaimPlan, with_group}
use Rattle.log_extents.specs.Chains.{first_or, AreDistinct}
use Rattle.log_entries.specs.declared.entry.Member.{Member}
use Rattle.log_entries.specs.declared.entry.Entry.TheVariants as entries
use Rattle.law_log_layout.specs.HeapLog.{PlacedChain, PlacedRoll, HeapLog, AreNamesOf, IsBaseSmall, KeepsShares, IsLogOf, MayJoin, with_chain, placed_group}
use Rattle.law_log_layout.specs.HeapLog.{member_told}
use Rattle.law_log_layout.specs.Reclaims.{NewBase, with_new_base, MayTakePlace, based_reading, AreFree}

-- the names of rolls, by rising time, are one list
abbrev pub NamesAreOne : Type 0
NamesAreOne = (rolls : List PlacedRoll) (a b : List Head) → AreNamesOf rolls a → AreNamesOf rolls b → a ≡ b

-- ---- a base in the place of the front

-- a base that is small leaves the log within its shares: the front's extents fall away, and from the archive mark on the same versions stand
abbrev pub SharesOfBase : Type 0
SharesOfBase = (most root : ℕ) (l : HeapLog) (reading : Reading) (h : History Value) (floors : ℕ → ℕ) (names : List Head) (front back : List PlacedChain)
    (n : NewBase)
    → IsLogOf most root l reading → StandsFor reading h floors → AreNamesOf l.rolls names → MayTakePlace most l names front back n
    → IsReclaimPlan reading (n.anchors).records → IsBaseSmall most (entries.Base n.base)
    → KeepsShares most (with_new_base l n back) (based_reading reading names n back)

-- so the log that it begins stands for the same history, and nothing else need be known of its shares
abbrev pub SmallBaseIsLog : Type 0
SmallBaseIsLog = (most root : ℕ) (l : HeapLog) (reading : Reading) (h : History Value) (floors : ℕ → ℕ) (names : List Head) (front back : List PlacedChain)
    (n : NewBase)
    → IsLogOf most root l reading → StandsFor reading h floors → AreNamesOf l.rolls names → MayTakePlace most l names front back n
    → IsReclaimPlan reading (n.anchors).records → IsBaseSmall most (entries.Base n.base)
    → IsLogOf most (first_or 0 n.numbers) (with_new_base l n back) (based_reading reading names n back)
    × StandsFor (based_reading reading names n back) h floors

-- ---- what stays right with a group behind the log

-- no extent of the chain, nor the one that it links to, is one of the base and its anchors, nor are two of them one
abbrev pub IsBesideBase : PlacedChain → NewBase → Type 0
IsBesideBase c n = AreDistinct (((n.anchors).numbers ++ n.numbers) ++ c.link ∷ c.numbers)

-- with a group behind the log the base may take the place of the same front
abbrev pub BaseStaysByGroup : Type 0
BaseStaysByGroup = (most root : ℕ) (l : HeapLog) (reading : Reading) (h next : History Value) (floors : ℕ → ℕ) (numbers : List ℕ) (link : ℕ)
    (members : List Member) (names : List Head) (front back : List PlacedChain) (n : NewBase)
    → IsLogOf most root l reading → StandsFor reading h floors → IsGroupOf reading h next (map member_told members)
    → MayJoin most l (placed_group numbers link members) → IsBesideBase (placed_group numbers link members) n
    → AreNamesOf l.rolls names → MayTakePlace most l names front back n
    → MayTakePlace most (with_chain l (placed_group numbers link members)) names front (back ++ placed_group numbers link members ∷ []) n

-- its extents stay free of the log
abbrev pub FreeStays : Type 0
FreeStays = (most : ℕ) (l : HeapLog) (c : PlacedChain) (n : NewBase) → MayJoin most l c → IsBesideBase c n → AreFree most l n
    → AreFree most (with_chain l c) n

-- and its anchors stay the plan of a reclaim
abbrev pub PlanStaysByGroup : Type 0
PlanStaysByGroup = (most root : ℕ) (l : HeapLog) (reading : Reading) (h next : History Value) (floors : ℕ → ℕ) (group : List readings.Member)
    (olds : List OldRecord)
    → IsLogOf most root l reading → StandsFor reading h floors → IsGroupOf reading h next group → IsReclaimPlan reading olds
    → IsReclaimPlan (with_group reading group) olds

-- ---- the base first, or the group

-- Whether the base or the group comes first, the log is the same, and so is what it tells. The group may come behind the log that the base begins.
pub record IsSameBehind (most : ℕ) (l : HeapLog) (reading : Reading) (numbers : List ℕ) (link : ℕ) (members : List Member) (names : List Head)
    (back : List PlacedChain) (n : NewBase) : Type 0 where
  pub log : with_new_base (with_chain l (placed_group numbers link members)) n (back ++ placed_group numbers link members ∷ [])
      ≡ with_chain (with_new_base l n back) (placed_group numbers link members)
  pub reads : based_reading (with_group reading (map member_told members)) names n (back ++ placed_group numbers link members ∷ [])
      ≡ with_group (based_reading reading names n back) (map member_told members)
  pub joins : MayJoin most (with_new_base l n back) (placed_group numbers link members)

abbrev pub BaseIsLogBehind : Type 0
BaseIsLogBehind = (most root : ℕ) (l : HeapLog) (reading : Reading) (h next : History Value) (floors : ℕ → ℕ) (numbers : List ℕ) (link : ℕ)
    (members : List Member) (names : List Head) (front back : List PlacedChain) (n : NewBase)
    → IsLogOf most root l reading → StandsFor reading h floors → IsGroupOf reading h next (map member_told members)
    → MayJoin most l (placed_group numbers link members) → IsBesideBase (placed_group numbers link members) n
    → AreNamesOf l.rolls names → MayTakePlace most l names front back n
    → IsSameBehind most l reading numbers link members names back n

-- ---- what two images of one history share

-- the last values
abbrev pub ValuesStay : Type 0
ValuesStay = (reading other : Reading) (h : History Value) (floors raised : ℕ → ℕ) (key : Key) → StandsFor reading h floors → StandsFor other h raised
    → values_now reading key ≡ values_now other key

-- and a group that may follow
abbrev pub GroupOfBoth : Type 0
GroupOfBoth = (reading other : Reading) (h next : History Value) (floors raised : ℕ → ℕ) (group : List readings.Member)
    → StandsFor reading h floors → StandsFor other h raised → other.profile ≡ reading.profile → IsGroupOf reading h next group → IsGroupOf other h next group
