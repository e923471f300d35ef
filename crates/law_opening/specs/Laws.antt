-- What opening a store, formatting a disk and closing a store stand for.
use Rattle.std.specs.Prelude.{ℕ, ◌≡◌, ◌≢◌, ◌+◌, ◌<◌, ◌≤◌, ◌⊎◌, ◌++◌, take, Bool, IsTrue, List, [], Option, Result, MatchOption, MatchResult}
use Rattle.disk.specs.Areas.{Areas, Image, AreSound, LeavesImage, LeavesNoMore, image_of}
use Rattle.disk.specs.Calls.{DiskState, top}
use Rattle.std.specs.List.{AllByRecursion}
use Rattle.std.specs.declared.alloc.Global.{Global}
use Rattle.std.specs.declared.vec.Vec.{Vec}
use Rattle.history.specs.declared.key.Key.{Key}
use Rattle.history.specs.declared.time.Version.{Version}
use Rattle.history.specs.Floors.{covers}
use Rattle.history.specs.Histories.{History, last}
use Rattle.history.specs.Fronts.{OnFront}
use Rattle.history.specs.Machine.{Machine, opened}
use Rattle.history.specs.Answers.{at_answer}
use Rattle.law_image.specs.Values.{Value}
use Rattle.status.specs.declared.header.Header.{Header}
use Rattle.status.specs.Header.{new_header, total, piece_gate}
use Rattle.status.specs.Reading.{ReadsHeader}
use Rattle.recovery.specs.Format.{IsFormatted, LeavesShut}
use Rattle.recovery.specs.Faults.{IsReadFault}
use Rattle.recovery.specs.Settling.{Settles}
use Rattle.recovery.specs.declared.fault.OpenFault.{OpenFault}
use Rattle.history.specs.Time.{value_at}
use Rattle.chains.specs.KeyWrites.{writes_of}
use Rattle.group.specs.CommitOrder.{times_of}
use Rattle.timequery.specs.View.{ViewValue, AnswersAt, RefusesRecent}
use Rattle.timequery.specs.declared.fault.QueryFault.{QueryFault}
use Rattle.group.specs.Calls.{order_of}
use Rattle.store.specs.Values.{StoreValue}
use Rattle.store.specs.Calls.{IsViewOf, AnswersAtView, AnswersScanAt, AnswersRows, AnswersScanRows}
use Rattle.store.specs.Opens.{Opens, OpenRefuses}
use Rattle.law_refinement.specs.Laws.{SaysAt, SaysScanAt, SaysBetween, SaysScanBetween}
use Rattle.law_refinement.specs.Homes.{GoesOn, IsSure}
use Rattle.law_refinement.specs.OnDisk.{IsImageOf}
use Rattle.law_refinement.specs.Stands.{Stands, IsHeaderLeft, growth_of, may_have_grown}
use Rattle.law_refinement.specs.Views.{SaysRecent}

-- ---- opening

-- on an image that stands for a history an opened store stands for it
abbrev pub OpenStands : Type 0
OpenStands = (tells : Bool) (old : DiskState) (mark : ℕ) (v : StoreValue) (header : Header) (h : History Value) (floors : ℕ → ℕ)
    → Opens tells old mark v → IsTrue tells → AreSound old.areas → IsImageOf header (image_of old.areas) h floors → Stands tells v (opened h floors)

-- There is a store that opening such an image answers, at all counts of calls but the last three.
abbrev pub OpenAnswers : Type 0
OpenAnswers = (alloc : Global) (tells : Bool) (old : DiskState) (mark : ℕ) (header : Header) (h : History Value) (floors : ℕ → ℕ)
    → AreSound old.areas → old.made + 3 ≤ top → IsImageOf header (image_of old.areas) h floors → (v : StoreValue) × Opens tells old mark v

-- Where opening such an image is refused, the device or memory gave out, and the disk still holds the image. A stop then leaves nothing that it might not have
-- left before.
abbrev pub OpenRefusesFor : Type 0
OpenRefusesFor = (tells : Bool) (old new : DiskState) (why : OpenFault) (header : Header) (h : History Value) (floors : ℕ → ℕ)
    → OpenRefuses tells old why new → IsTrue tells → IsImageOf header (image_of old.areas) h floors → IsReadFault why
    × (image_of new.areas ≡ image_of old.areas) × LeavesNoMore old.areas new.areas

-- ---- formatting

-- a formatted disk holds an image of the empty history, and whatever a stop may leave of it is one
abbrev pub FormatStands : Type 0
FormatStands = (slots : ℕ) (old new : Areas) → IsFormatted slots old new
    → IsImageOf (new_header 3 slots) (image_of new) [] (λ relation. 0)
    × ((image : Image) → LeavesImage new image → IsImageOf (new_header 3 slots) image [] (λ relation. 0))

-- no piece behind those that are open is open, where the header's profile has pieces
abbrev pub HasNoPieceBehind : Header → List ℕ → Type 0
HasNoPieceBehind header bytes = header.profile ≢ 1 → (i : ℕ) → header.pieces ≤ i → i < 255 → piece_gate (take 512 bytes) i ≢ 0xC7

-- Where a stop within a format left all slots closed, a header of no more slots that is read there stands for the empty history too; where its profile has
-- pieces, if it left no gate behind the open ones open.
abbrev pub FormatStops : Type 0
FormatStops =
    (slots : ℕ) (new : Areas) (image : Image) (header : Header) → LeavesShut slots new.status → LeavesImage new image → ReadsHeader image.status header
    → total header ≤ slots
    → HasNoPieceBehind header image.status → IsImageOf header image [] (λ relation. 0)

-- a store that is opened on a formatted disk, or on what a stop left of it, stands for the empty history
abbrev pub FormatOpens : Type 0
FormatOpens = (tells : Bool) (slots : ℕ) (old new : Areas) (disk : DiskState) (mark : ℕ) (v : StoreValue)
    → IsFormatted slots old new → LeavesImage new (image_of disk.areas) → AreSound disk.areas → Opens tells disk mark v → IsTrue tells
    → Stands tells v (opened [] (λ relation. 0))

-- ---- headers

-- The store has this header: its profile, its slots and its open pieces.
pub record IsOfHeader (v : StoreValue) (header : Header) : Type 0 where
  pub profile : v.log.profile ≡ header.profile
  pub slots : v.log.slots ≡ total header
  pub pieces : v.log.pieces ≡ header.pieces

-- What a stop leaves of the store has this header: the store's own or, once the gate of a piece may be open, that with the piece.
abbrev pub IsHeaderLeftBy : StoreValue → Header → Type 0
IsHeaderLeftBy v found = (header : Header) × IsOfHeader v header × IsHeaderLeft header (may_have_grown (growth_of v.job)) found

-- An image has this header, and so has every store that is opened on it.
pub record RecoversHeader (tells : Bool) (image : Image) (header : Header) : Type 0 where
  pub reads : ReadsHeader image.status header
  pub recovered : (disk : DiskState) (mark : ℕ) (again : StoreValue) → image_of disk.areas ≡ image → Opens tells disk mark again → IsOfHeader again header

-- an image that stands for a history has the header by which it does
abbrev pub ImageHasHeader : Type 0
ImageHasHeader =
    (tells : Bool) (header : Header) (image : Image) (h : History Value) (floors : ℕ → ℕ) → IsTrue tells → IsImageOf header image h floors
    → RecoversHeader tells image header

-- ---- closing, and opening again

-- whatever a stop may leave of these areas of a store has its header, with the piece in the making or without, and stands for a front of the commit order
abbrev pub LeavesFronts : StoreValue → Areas → Machine Value → Type 0
LeavesFronts v areas m = (image : Image) → LeavesImage areas image → (header : Header) × IsHeaderLeftBy v header × OnFront (IsImageOf header image) m

-- so it is of the disk that closing hands back
abbrev pub CloseLeaves : Type 0
CloseLeaves =
    (tells : Bool) (v : StoreValue) (m : Machine Value) (disk : DiskState) → Stands tells v m → IsTrue tells → disk ≡ v.disk → LeavesFronts v disk.areas m

-- A store is opened again: the disk holds what a stop may have left of it.
pub record OpensAgain (tells : Bool) (v : StoreValue) (disk : DiskState) (mark : ℕ) (again : StoreValue) : Type 0 where
  pub left : LeavesImage v.disk.areas (image_of disk.areas)
  pub sound : AreSound disk.areas
  pub opens : Opens tells disk mark again

-- It stands for a front of the commit order: all that was published, and of the group in the writing all or nothing.
abbrev pub ReopenStands : Type 0
ReopenStands = (tells : Bool) (v : StoreValue) (m : Machine Value) (disk : DiskState) (mark : ℕ) (again : StoreValue)
    → Stands tells v m → IsTrue tells → OpensAgain tells v disk mark again → OnFront (λ h floors. Stands tells again (opened h floors)) m

-- It has the slots that there were or, once the gate of a piece might be open, 256 more.
abbrev pub ReopenHasSlots : Type 0
ReopenHasSlots = (tells : Bool) (v : StoreValue) (m : Machine Value) (disk : DiskState) (mark : ℕ) (again : StoreValue)
    → Stands tells v m → IsTrue tells → OpensAgain tells v disk mark again
    → (again.log.slots ≡ v.log.slots) ⊎ (IsTrue (may_have_grown (growth_of v.job)) × (again.log.slots ≡ v.log.slots + 256))

-- Where that is refused, the device or memory gave out, and the disk still holds what the stop left.
abbrev pub ReopenRefuses : Type 0
ReopenRefuses = (tells : Bool) (v : StoreValue) (m : Machine Value) (disk new : DiskState) (why : OpenFault)
    → Stands tells v m → IsTrue tells → LeavesImage v.disk.areas (image_of disk.areas) → OpenRefuses tells disk why new → IsReadFault why
    × (image_of new.areas ≡ image_of disk.areas)

-- A stop while the store is opened again: where opening was refused, at whichever of its calls, it leaves nothing that it might not have left before, so a
-- front of the commit order as that did.
abbrev pub OpeningStops : Type 0
OpeningStops = (tells : Bool) (v : StoreValue) (m : Machine Value) (disk new : DiskState) (why : OpenFault)
    → Stands tells v m → IsTrue tells → LeavesNoMore v.disk.areas disk.areas → OpenRefuses tells disk why new
    → LeavesNoMore v.disk.areas new.areas × LeavesFronts v new.areas m

-- A second stop, once it was opened again: so it is of the opened store.
abbrev pub SecondStops : Type 0
SecondStops = (tells : Bool) (v : StoreValue) (m : Machine Value) (disk : DiskState) (mark : ℕ) (again : StoreValue)
    → Stands tells v m → IsTrue tells → LeavesNoMore v.disk.areas disk.areas → Opens tells disk mark again
    → LeavesNoMore v.disk.areas again.disk.areas × LeavesFronts v again.disk.areas m

-- At every moment while it is opened again, and whether that is refused or not, a stop leaves nothing that the first might not have left, so a front of the
-- commit order too.
abbrev pub OpeningMoments : Type 0
OpeningMoments =
    (tells : Bool) (v : StoreValue) (m : Machine Value) (disk new : DiskState) → Stands tells v m → IsTrue tells → LeavesNoMore v.disk.areas disk.areas
    → (settles : Settles tells disk new)
    → AllByRecursion (λ moment. LeavesNoMore v.disk.areas moment.areas × LeavesFronts v moment.areas m) settles.moments

-- the disk that a closed store hands back holds what a stop may have left, so it may be opened again
abbrev pub ClosedIsLeft : Type 0
ClosedIsLeft = (v : StoreValue) (disk : DiskState) → disk ≡ v.disk → AreSound disk.areas → LeavesImage v.disk.areas (image_of disk.areas)

-- ---- queries

-- what a view answers from memory alone, as its own clause says
abbrev pub AnswersRecent : ViewValue → Key → ℕ → Result (Option Value) QueryFault → Type 0
AnswersRecent view key time answer =
    MatchResult answer (λ found. (view.reclaimed ≤ time)
    × AnswersAt view key.relation time found (value_at (writes_of view.state key) time)) (RefusesRecent view key.relation time)

-- Every view that is taken of the store now is answered by this history, also when it is asked later, as long as the store goes on.
pub record AnswersBy (tells : Bool) (v : StoreValue) (h : History Value) (floors : ℕ → ℕ) : Type 0 where
  pub at : (view : ViewValue) (asked new : StoreValue) (later : Machine Value) (key : Key) (time : ℕ) (answer : Result (Option Value) QueryFault)
      → IsViewOf v view → Stands tells asked later → GoesOn tells v asked → AnswersAtView tells asked view key time answer new
      → SaysAt (IsSure tells view.reclaimed time) (at_answer h floors key time) answer
  pub scan_at : (view : ViewValue) (asked new : StoreValue) (later : Machine Value) (relation time : ℕ) (answer : Result (Vec (ℕ × Value) Global) QueryFault)
      → IsViewOf v view → Stands tells asked later → GoesOn tells v asked → AnswersScanAt tells asked view relation time answer new
      → SaysScanAt (IsSure tells view.reclaimed time) h floors relation time answer
  pub recent : (view : ViewValue) (key : Key) (time : ℕ) (answer : Result (Option Value) QueryFault) → IsViewOf v view → AnswersRecent view key time answer
      → SaysRecent view time (at_answer h floors key time) answer
  pub between : (view : ViewValue) (asked new : StoreValue) (later : Machine Value) (key : Key) (a b : ℕ)
      (answer : Result (Vec (Version Value) Global) QueryFault)
      → IsViewOf v view → Stands tells asked later → GoesOn tells v asked → AnswersRows tells asked view key a b answer new
      → SaysBetween (IsSure tells view.reclaimed a) h floors key a b answer
  pub scan_between : (view : ViewValue) (asked new : StoreValue) (later : Machine Value) (relation a b : ℕ)
      (answer : Result (Vec (ℕ × Version Value) Global) QueryFault)
      → IsViewOf v view → Stands tells asked later → GoesOn tells v asked → AnswersScanRows tells asked view relation a b answer new
      → SaysScanBetween (IsSure tells view.reclaimed a) h floors relation a b answer

-- a store that stands for a machine answers by what that has published
abbrev pub StandsAnswers : Type 0
StandsAnswers = (tells : Bool) (v : StoreValue) (m : Machine Value) → Stands tells v m → AnswersBy tells v m.published m.floors

-- once it is opened again, all its views are answered by one front of the commit order
abbrev pub KeptAnswers : Type 0
KeptAnswers = (tells : Bool) (v : StoreValue) (m : Machine Value) (disk : DiskState) (mark : ℕ) (again : StoreValue)
    → Stands tells v m → IsTrue tells → OpensAgain tells v disk mark again → OnFront (AnswersBy tells again) m

-- the floor in the making, if there is one, keeps this time of the relation
abbrev pub IsKeptThen : Machine Value → ℕ → ℕ → Type 0
IsKeptThen m relation time = MatchOption m.raising (Unit {0}) (λ r. IsTrue (covers r.scope relation) → r.floor ≤ time)

-- and up to the last time that was published they are answered as before, if no floor in the making is later
abbrev pub AnswersStay : Type 0
AnswersStay =
    (tells : Bool) (v : StoreValue) (m : Machine Value) (disk : DiskState) (mark : ℕ) (again asked new : StoreValue) (later : Machine Value) (view : ViewValue)
    (key : Key) (time : ℕ) (answer : Result (Option Value) QueryFault)
    → Stands tells v m → IsTrue tells → OpensAgain tells v disk mark again → IsViewOf again view → Stands tells asked later → GoesOn tells again asked
    → AnswersAtView tells asked view key time answer new
    → time ≤ last m.published → IsKeptThen m key.relation time → SaysAt (IsSure tells view.reclaimed time) (at_answer m.published m.floors key time) answer

-- ---- labels

-- the times of a label that were told before the stop are told after it, with at most later ones behind them
abbrev pub LabelsStay : Type 0
LabelsStay =
    (tells : Bool) (v : StoreValue) (m : Machine Value) (disk : DiskState) (mark : ℕ) (again : StoreValue) (label : ℕ) → Stands tells v m → IsTrue tells
    → OpensAgain tells v disk mark again
    → (more : List ℕ) × (times_of label (order_of again.transactions) ≡ times_of label (order_of v.transactions) ++ more)
