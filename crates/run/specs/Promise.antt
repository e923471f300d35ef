-- What a store promises of each moment at which its machine may stop, in the words of its users.
use Rattle.std.specs.Prelude.{ℕ, ◌≡◌, ◌≤◌, ◌+◌, ◌⊎◌, Bool, IsTrue, List, [], ◌∷◌}
use Rattle.std.specs.List.{AllByRecursion}
use Rattle.disk.specs.Areas.{Image, AreSound, LeavesImage, LeavesNoMore, image_of}
use Rattle.disk.specs.Calls.{DiskState}
use Rattle.disk.specs.Within.{LeavesWithin}
use Rattle.history.specs.Fronts.{OnFront}
use Rattle.history.specs.Histories.{History}
use Rattle.law_image.specs.Values.{Value}
use Rattle.recovery.specs.Faults.{IsReadFault}
use Rattle.recovery.specs.declared.fault.OpenFault.{OpenFault}
use Rattle.any_store.specs.Values.{StoreValue, disk_of}
use Rattle.any_store.specs.Opens.{Opens, OpenRefuses}
use Rattle.law_any_store.specs.Standing.{Stands, AnyHeader, IsImageOf, opened_in}
use Rattle.law_any_store.specs.Opened.{AnswersBy, IsHeaderLeftBy, RecoversHeader}
use Rattle.run.specs.declared.calls.Call.{Call}
use Rattle.run.specs.declared.calls.Answer.{Answer}
use Rattle.run.specs.declared.held.Held.{Held}
use Rattle.run.specs.Moments.{Moment, first_moment, with_answer, HasCommitAt, IsAtMoment}
use Rattle.run.specs.Makes.{Makes}
use Rattle.run.specs.Worlds.{IsWorld}
use Rattle.run.specs.Runs.{Does, Follows}

-- ---- what a stop leaves

-- An image is kept as this history: it stands for it, it opens unless the device or memory gives out, and all that the store which opens it answers is what the
-- history's write sets say. A stop while it is opened leaves nothing that the disk might not have left before.
pub record IsKeptAs (tells : Bool) (image : Image) (h : History Value) (floors : ℕ → ℕ) : Type 0 where
  pub header : AnyHeader
  pub stands : IsImageOf header image h floors
  pub opens : (disk new : DiskState) (why : OpenFault) → image_of disk.areas ≡ image → OpenRefuses tells disk why new → IsReadFault why
      × LeavesNoMore disk.areas new.areas
  pub answers : (disk : DiskState) (mark : ℕ) (again : StoreValue) → image_of disk.areas ≡ image → AreSound disk.areas → Opens tells disk mark again
      → Stands tells again (opened_in again h floors) × AnswersBy tells again h floors

-- An image is kept as this history, which has every commit that was acknowledged.
pub record IsKeptWith (tells : Bool) (image : Image) (done : List ℕ) (h : History Value) (floors : ℕ → ℕ) : Type 0 where
  pub kept : IsKeptAs tells image h floors
  pub acknowledged : AllByRecursion (HasCommitAt h) done

-- It survives: it has the header of the store at this moment or, once the gate of a piece may be open, that with 256 slots more; of a log, one of as many
-- extents.
-- It is kept as what is published then or, once the gate of the group may be open, as that with the whole group. It has every commit that was acknowledged.
pub record Survives (tells : Bool) (at : Moment) (image : Image) : Type 0 where
  pub header : AnyHeader
  pub left : IsHeaderLeftBy at.store header
  pub has : RecoversHeader tells image header
  pub front : OnFront (IsKeptWith tells image at.done) at.world.machine

-- whatever a stop may leave at this moment survives
abbrev pub Leaves : Bool → Moment → Type 0
Leaves tells at = IsTrue tells → (image : Image) → LeavesImage (disk_of at.store).areas image → Survives tells at image

-- and so does whatever it may leave within the call between two moments
abbrev pub LeavesBetween : Bool → Moment → Moment → Type 0
LeavesBetween tells before after =
    IsTrue tells → (image : Image) → LeavesWithin (disk_of before.store).areas (disk_of after.store).areas image → Survives tells before image
    ⊎ Survives tells after image

-- ---- lists of calls

-- A call leads from one moment to the next by its answer, with at most one write or sync of the disk. It is made of the store and of what its callers hold as
-- the store's own clauses say, and these stand for the world that it leads to.
pub record Link (tells : Bool) (call : Call) (answer : Answer) (before after : Moment) : Type 0 where
  pub makes : Makes tells before.store before.held call answer after.store after.held
  pub stands : IsWorld tells after.store after.held after.world
  pub does : Does tells before.world call answer after.world
  pub follows : Follows before.world.machine after.world.machine
  pub acknowledges : after.done ≡ with_answer answer before.done
  pub makes_few : (disk_of after.store).made ≤ (disk_of before.store).made + 1
  pub leaves_within : LeavesBetween tells before after
  pub leaves : Leaves tells after

-- from each moment of the store and the places, the call leads by this answer to one of theirs after it
abbrev pub LinksOne : Bool → StoreValue → List Held → Call → Answer → StoreValue → List Held → Type 0
LinksOne tells old before c a new after =
    (start : Moment) → IsAtMoment tells old before start → (next : Moment) × Link tells c a start next × IsAtMoment tells new after next

-- one call after another
abbrev pub Chain : Bool → List Call → List Answer → Moment → Moment → Type 0
Chain tells [] [] start end = end ≡ start
Chain tells (c ∷ cs) (a ∷ said) start end = (next : Moment) × Link tells c a start next × Chain tells cs said next end
Chain tells cs said start end = ⊥

-- A list of calls, from this moment to that one: the answers are those of a run of the machine, and whatever a stop may leave before, within or after any call
-- survives.
pub record Promises (tells : Bool) (calls : List Call) (answers : List Answer) (start end : Moment) : Type 0 where
  pub first : Leaves tells start
  pub chain : Chain tells calls answers start end

-- from each moment of the store and the places, the calls lead by these answers to one of theirs after it
abbrev pub KeepsPromise : Bool → StoreValue → List Held → List Call → List Answer → StoreValue → List Held → Type 0
KeepsPromise tells old before calls answers new after =
    (start : Moment) → IsAtMoment tells old before start → (end : Moment) × Promises tells calls answers start end × IsAtMoment tells new after end

-- The whole promise: for every list of calls, by any number of callers in turn, on a store opened on an image that stands for some history.
abbrev pub Promise : Type 0
Promise =
    (tells : Bool) (disk : DiskState) (mark : ℕ) (v new : StoreValue) (header : AnyHeader) (h : History Value) (floors : ℕ
    → ℕ) (calls : List Call) (answers : List Answer) (held : List Held)
    → IsTrue tells → AreSound disk.areas → IsImageOf header (image_of disk.areas) h floors → Opens tells disk mark v
    → KeepsPromise tells v [] calls answers new held
    → (end : Moment) × Promises tells calls answers (first_moment v (opened_in v h floors)) end × IsAtMoment tells new held end
