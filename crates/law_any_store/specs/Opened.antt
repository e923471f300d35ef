-- What opening a store, and closing it, stand for, whatever its layout.
use Rattle.std.specs.Prelude.{ℕ, ◌≡◌, ◌≤◌, Bool, IsTrue, List, Option, Result}
use Rattle.std.specs.List.{AllByRecursion}
use Rattle.std.specs.declared.alloc.Global.{Global}
use Rattle.std.specs.declared.vec.Vec.{Vec}
use Rattle.disk.specs.Areas.{Areas, Image, AreSound, LeavesImage, LeavesNoMore, image_of}
use Rattle.disk.specs.Calls.{DiskState}
use Rattle.history.specs.declared.key.Key.{Key}
use Rattle.history.specs.declared.time.Version.{Version}
use Rattle.history.specs.Answers.{at_answer}
use Rattle.history.specs.Fronts.{OnFront}
use Rattle.history.specs.Histories.{History, last}
use Rattle.history.specs.Machine.{Machine}
use Rattle.law_image.specs.Values.{Value}
use Rattle.status.specs.Reading as slot_headers
use Rattle.recovery.specs.Faults.{IsReadFault}
use Rattle.recovery.specs.Settling.{Settles}
use Rattle.recovery.specs.declared.fault.OpenFault.{OpenFault}
use Rattle.timequery.specs.View.{ViewValue}
use Rattle.timequery.specs.declared.fault.QueryFault.{QueryFault}
use Rattle.log_recovery.specs.Opening.{ReadsRoots}
use Rattle.log_roots.specs.declared.roots.Roots.{Roots}
use Rattle.any_store.specs.declared.engine.Engine.TheVariants.{Slots, Log}
use Rattle.any_store.specs.Values.{StoreValue, disk_of}
use Rattle.any_store.specs.Opens.{Opens, OpenRefuses}
use Rattle.any_store.specs.Queries.{IsViewOf, AnswersAtView, AnswersScanAt, AnswersRows, AnswersScanRows}
use Rattle.law_refinement.specs.Homes.{IsSure}
use Rattle.law_refinement.specs.Laws.{SaysAt, SaysScanAt, SaysBetween, SaysScanBetween}
use Rattle.law_refinement.specs.Views.{SaysRecent}
use Rattle.law_opening.specs.Laws as slots
use Rattle.law_opening.specs.Laws.{AnswersRecent, IsKeptThen}
use Rattle.law_any_store.specs.Standing.{Stands, AnyHeader, IsImageOf, opened_as, opened_in, GoesOn}

-- ---- opening

-- on an image that stands for a history an opened store stands for it
abbrev pub OpenStands : Type 0
OpenStands = (tells : Bool) (old : DiskState) (mark : ℕ) (v : StoreValue) (header : AnyHeader) (h : History Value) (floors : ℕ → ℕ)
    → Opens tells old mark v → IsTrue tells → AreSound old.areas → IsImageOf header (image_of old.areas) h floors
    → Stands tells v (opened_as header h floors)

-- Where opening such an image is refused, the device or memory gave out, and the disk still holds the image. A stop then leaves nothing that it might not have
-- left before.
abbrev pub OpenRefusesFor : Type 0
OpenRefusesFor = (tells : Bool) (old new : DiskState) (why : OpenFault) (header : AnyHeader) (h : History Value) (floors : ℕ → ℕ)
    → OpenRefuses tells old why new → IsTrue tells → IsImageOf header (image_of old.areas) h floors → IsReadFault why
    × (image_of new.areas ≡ image_of old.areas) × LeavesNoMore old.areas new.areas

-- ---- headers

-- The status area begins with this header. A log's is one of as many extents, whichever of its roots counts.
abbrev pub ReadsHeader : List ℕ → AnyHeader → Type 0
ReadsHeader status (Slots header) = slot_headers.ReadsHeader status header
ReadsHeader status (Log roots) = (read : Roots) × ReadsRoots status read × (read.extents ≡ roots.extents)

-- The store has this header: its profile, its slots and its open pieces, or its extents.
abbrev pub IsOfHeader : StoreValue → AnyHeader → Type 0
IsOfHeader (Slots s) (Slots header) = slots.IsOfHeader s header
IsOfHeader (Slots s) (Log roots) = ⊥
IsOfHeader (Log l) (Slots header) = ⊥
IsOfHeader (Log l) (Log roots) = l.roots.extents ≡ roots.extents

-- What a stop leaves of the store has this header: the store's own or, once the gate of a piece may be open, that with the piece.
abbrev pub IsHeaderLeftBy : StoreValue → AnyHeader → Type 0
IsHeaderLeftBy (Slots s) (Slots found) = slots.IsHeaderLeftBy s found
IsHeaderLeftBy (Slots s) (Log roots) = ⊥
IsHeaderLeftBy (Log l) (Slots found) = ⊥
IsHeaderLeftBy (Log l) (Log roots) = roots.extents ≡ l.roots.extents

-- An image has this header, and so has every store that is opened on it.
pub record RecoversHeader (tells : Bool) (image : Image) (header : AnyHeader) : Type 0 where
  pub reads : ReadsHeader image.status header
  pub recovered : (disk : DiskState) (mark : ℕ) (again : StoreValue) → image_of disk.areas ≡ image → Opens tells disk mark again → IsOfHeader again header

-- an image that stands for a history has the header by which it does
abbrev pub ImageHasHeader : Type 0
ImageHasHeader =
    (tells : Bool) (header : AnyHeader) (image : Image) (h : History Value) (floors : ℕ → ℕ) → IsTrue tells → IsImageOf header image h floors
    → RecoversHeader tells image header

-- ---- closing, and opening again

-- whatever a stop may leave of these areas of a store has its header, with the piece in the making or without, and stands for a front of the commit order
abbrev pub LeavesFronts : StoreValue → Areas → Machine Value → Type 0
LeavesFronts v areas m = (image : Image) → LeavesImage areas image → (header : AnyHeader) × IsHeaderLeftBy v header × OnFront (IsImageOf header image) m

-- so it is of the disk that closing hands back
abbrev pub CloseLeaves : Type 0
CloseLeaves =
    (tells : Bool) (v : StoreValue) (m : Machine Value) (disk : DiskState) → Stands tells v m → IsTrue tells → disk ≡ disk_of v → LeavesFronts v disk.areas m

-- A store is opened again: the disk holds what a stop may have left of it.
pub record OpensAgain (tells : Bool) (v : StoreValue) (disk : DiskState) (mark : ℕ) (again : StoreValue) : Type 0 where
  pub left : LeavesImage (disk_of v).areas (image_of disk.areas)
  pub sound : AreSound disk.areas
  pub opens : Opens tells disk mark again

-- It stands for a front of the commit order: all that was published, and of the group in the writing all or nothing.
abbrev pub ReopenStands : Type 0
ReopenStands = (tells : Bool) (v : StoreValue) (m : Machine Value) (disk : DiskState) (mark : ℕ) (again : StoreValue)
    → Stands tells v m → IsTrue tells → OpensAgain tells v disk mark again → OnFront (λ h floors. Stands tells again (opened_in v h floors)) m

-- It has the header that there was, or that with the piece in the making.
abbrev pub ReopenHasHeader : Type 0
ReopenHasHeader = (tells : Bool) (v : StoreValue) (m : Machine Value) (disk : DiskState) (mark : ℕ) (again : StoreValue)
    → Stands tells v m → IsTrue tells → OpensAgain tells v disk mark again → (header : AnyHeader) × IsHeaderLeftBy v header × IsOfHeader again header

-- Where that is refused, the device or memory gave out, and the disk still holds what the stop left.
abbrev pub ReopenRefuses : Type 0
ReopenRefuses = (tells : Bool) (v : StoreValue) (m : Machine Value) (disk new : DiskState) (why : OpenFault)
    → Stands tells v m → IsTrue tells → LeavesImage (disk_of v).areas (image_of disk.areas) → OpenRefuses tells disk why new → IsReadFault why
    × (image_of new.areas ≡ image_of disk.areas)

-- A stop while the store is opened again: where opening was refused, at whichever of its calls, it leaves nothing that it might not have left before, so a
-- front of the commit order as that did.
abbrev pub OpeningStops : Type 0
OpeningStops = (tells : Bool) (v : StoreValue) (m : Machine Value) (disk new : DiskState) (why : OpenFault)
    → Stands tells v m → IsTrue tells → LeavesNoMore (disk_of v).areas disk.areas → OpenRefuses tells disk why new
    → LeavesNoMore (disk_of v).areas new.areas × LeavesFronts v new.areas m

-- A second stop, once it was opened again: so it is of the opened store.
abbrev pub SecondStops : Type 0
SecondStops = (tells : Bool) (v : StoreValue) (m : Machine Value) (disk : DiskState) (mark : ℕ) (again : StoreValue)
    → Stands tells v m → IsTrue tells → LeavesNoMore (disk_of v).areas disk.areas → Opens tells disk mark again
    → LeavesNoMore (disk_of v).areas (disk_of again).areas × LeavesFronts v (disk_of again).areas m

-- At every moment while it is opened again, and whether that is refused or not, a stop leaves nothing that the first might not have left, so a front of the
-- commit order too.
abbrev pub OpeningMoments : Type 0
OpeningMoments =
    (tells : Bool) (v : StoreValue) (m : Machine Value) (disk new : DiskState) → Stands tells v m → IsTrue tells
    → LeavesNoMore (disk_of v).areas disk.areas → (settles : Settles tells disk new)
    → AllByRecursion (λ moment. LeavesNoMore (disk_of v).areas moment.areas × LeavesFronts v moment.areas m) settles.moments

-- the disk that a closed store hands back holds what a stop may have left, so it may be opened again
abbrev pub ClosedIsLeft : Type 0
ClosedIsLeft = (v : StoreValue) (disk : DiskState) → disk ≡ disk_of v → AreSound disk.areas → LeavesImage (disk_of v).areas (image_of disk.areas)

-- ---- queries

-- Every view that is taken of the store now is answered by this history, also when it is asked later, as long as the store goes on.
pub record AnswersBy (tells : Bool) (v : StoreValue) (h : History Value) (floors : ℕ → ℕ) : Type 0 where
  pub at : (view : ViewValue) (asked new : StoreValue) (later : Machine Value) (key : Key) (time : ℕ) (answer : Result (Option Value) QueryFault)
      → IsViewOf v view → Stands tells asked later → GoesOn tells v asked → AnswersAtView tells asked view key time answer new
      → SaysAt (IsSure tells view.reclaimed time) (at_answer h floors key time) answer
  pub scan_at : (view : ViewValue) (asked new : StoreValue) (later : Machine Value) (relation time : ℕ) (answer : Result (Vec (ℕ × Value) Global) QueryFault)
      → IsViewOf v view → Stands tells asked later → GoesOn tells v asked → AnswersScanAt tells asked view relation time answer new
      → SaysScanAt (IsSure tells view.reclaimed time) h floors relation time answer
  pub recent : (view : ViewValue) (key : Key) (time : ℕ) (answer : Result (Option Value) QueryFault) → IsViewOf v view → AnswersRecent view key time answer
      → SaysRecent view time (at_answer h floors key time) answer
  pub between : (view : ViewValue) (asked new : StoreValue) (later : Machine Value) (key : Key) (a b : ℕ)
      (answer : Result (Vec (Version Value) Global) QueryFault)
      → IsViewOf v view → Stands tells asked later → GoesOn tells v asked → AnswersRows tells asked view key a b answer new
      → SaysBetween (IsSure tells view.reclaimed a) h floors key a b answer
  pub scan_between : (view : ViewValue) (asked new : StoreValue) (later : Machine Value) (relation a b : ℕ)
      (answer : Result (Vec (ℕ × Version Value) Global) QueryFault)
      → IsViewOf v view → Stands tells asked later → GoesOn tells v asked → AnswersScanRows tells asked view relation a b answer new
      → SaysScanBetween (IsSure tells view.reclaimed a) h floors relation a b answer

-- a store that stands for a machine answers by what that has published
abbrev pub StandsAnswers : Type 0
StandsAnswers = (tells : Bool) (v : StoreValue) (m : Machine Value) → Stands tells v m → AnswersBy tells v m.published m.floors

-- once it is opened again, all its views are answered by one front of the commit order
abbrev pub KeptAnswers : Type 0
KeptAnswers = (tells : Bool) (v : StoreValue) (m : Machine Value) (disk : DiskState) (mark : ℕ) (again : StoreValue)
    → Stands tells v m → IsTrue tells → OpensAgain tells v disk mark again → OnFront (AnswersBy tells again) m

-- and up to the last time that was published they are answered as before, if no floor in the making is later
abbrev pub AnswersStay : Type 0
AnswersStay =
    (tells : Bool) (v : StoreValue) (m : Machine Value) (disk : DiskState) (mark : ℕ) (again asked new : StoreValue) (later : Machine Value) (view : ViewValue)
    (key : Key) (time : ℕ) (answer : Result (Option Value) QueryFault)
    → Stands tells v m → IsTrue tells → OpensAgain tells v disk mark again → IsViewOf again view → Stands tells asked later → GoesOn tells again asked
    → AnswersAtView tells asked view key time answer new
    → time ≤ last m.published → IsKeptThen m key.relation time → SaysAt (IsSure tells view.reclaimed time) (at_answer m.published m.floors key time) answer
