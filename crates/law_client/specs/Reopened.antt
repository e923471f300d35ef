-- Opening again and again.
use Rattle.std.specs.Prelude.{ℕ, ◌≡◌, Bool, IsTrue}
use Rattle.disk.specs.Areas.{Image, AreSound, LeavesImage, image_of}
use Rattle.disk.specs.Calls.{DiskState}
use Rattle.history.specs.Histories.{History}
use Rattle.law_image.specs.Values.{Value}
use Rattle.any_store.specs.Values.{StoreValue, disk_of}
use Rattle.any_store.specs.Opens.{Opens}
use Rattle.law_any_store.specs.Standing.{Stands, opened_in}
use Rattle.law_any_store.specs.Opened.{AnswersBy}
use Rattle.run.specs.Promise.{IsKeptAs}

-- a store stands for a history, and answers by it
abbrev pub IsOf : Bool → History Value → (ℕ → ℕ) → StoreValue → Type 0
IsOf tells h floors v = Stands tells v (opened_in v h floors) × AnswersBy tells v h floors

-- Reopening twice is reopening once: a store that is opened on an image which is kept as a history answers by it, and whatever a stop then leaves, before any
-- other call, is kept as the same history.
abbrev pub ReopeningIsOnce : Type 0
ReopeningIsOnce =
    (tells : Bool) (image : Image) (h : History Value) (floors : ℕ → ℕ) (disk : DiskState) (mark : ℕ) (v : StoreValue) → IsTrue tells
    → IsKeptAs tells image h floors
    → image_of disk.areas ≡ image → AreSound disk.areas → Opens tells disk mark v → IsOf tells h floors v
    × ((left : Image) → LeavesImage (disk_of v).areas left → IsKeptAs tells left h floors)

-- So a store that is opened on what such a stop leaves answers every query as the first did.
abbrev pub SecondAnswersAsFirst : Type 0
SecondAnswersAsFirst =
    (tells : Bool) (image : Image) (h : History Value) (floors : ℕ → ℕ) (disk next : DiskState) (mark other : ℕ) (v w : StoreValue) → IsTrue tells
    → IsKeptAs tells image h floors
    → image_of disk.areas ≡ image → AreSound disk.areas → Opens tells disk mark v → LeavesImage (disk_of v).areas (image_of next.areas) → AreSound next.areas
    → Opens tells next other w → IsOf tells h floors v × IsOf tells h floors w
