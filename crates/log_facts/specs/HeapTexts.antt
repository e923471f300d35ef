-- The texts of what a log tells that lies in the heap.
use Rattle.std.specs.Prelude.{ℕ, ◌≡◌, Bool, IsTrue, List, [], ◌∷◌, codes}
use Rattle.disk.specs.declared.area.Area.TheVariants as area
use Rattle.recovery.specs.declared.fault.OpenFault.{OpenFault}
use Rattle.recovery.specs.declared.fault.OpenFault.TheVariants as opening
use Rattle.log_roots.specs.declared.roots.Roots.{Roots}
use Rattle.log_roots.specs.Roots.{root_of}
use Rattle.log_shown.specs.declared.items.LogItem.{LogItem}
use Rattle.log_shown.specs.declared.reading.LogExtents.{LogExtents}
use Rattle.log_shown.specs.declared.reading.ShownEnd.TheVariants as ends
use Rattle.log_shown.specs.declared.shown.LogShown.{LogShown}
use Rattle.log_recovery.specs.Opening.{ReadsRoots, FailsHeap}
use Rattle.log_shown.specs.Shown.{IsLogShown}
use Rattle.log_facts.specs.HeapFacts as facts
use Rattle.log_facts.specs.Texts.{Text, Named, named, text_by}

-- the numbers in their order
abbrev pub numbers : Roots → List LogItem → LogExtents → List Named
numbers roots items extents =
    named (codes "profile") 4 ∷ named (codes "heap") roots.extents ∷ named (codes "extents") extents.used ∷ named (codes "log") extents.log
    ∷ named (codes "free") (facts.log_free roots.extents extents) ∷ named (codes "commits") (facts.commits items)
    ∷ named (codes "last") (facts.last_time items) ∷ named (codes "archived") (facts.archived items) ∷ named (codes "archive") (facts.archive items)
    ∷ named (codes "reclaimed") (facts.reclaimed items) ∷ []

-- what a log tells, in JSON or as lines
abbrev pub heap_info_text : Bool → Roots → List LogItem → LogExtents → Text
heap_info_text json roots items extents = text_by json (numbers roots items extents) (facts.floors items)

-- what the log tells that stands on a disk with these areas, if the disk tells its bytes: no check of it fails
pub record IsInfoOf (tells json : Bool) (status heap : List ℕ) (text : Text) : Type 0 where
  pub shown : LogShown
  pub extents : LogExtents
  pub stands : IsTrue tells → IsLogShown status heap shown
  pub right : shown.end ≡ ends.Right extents
  pub text_is : text ≡ heap_info_text json shown.roots shown.items.items extents

-- why nothing is told: no header stands in front, or a check of the log fails, as opening tells it, or the device or memory gave out
abbrev pub IsInfoFault : (status heap : List ℕ) → OpenFault → Type 0
IsInfoFault status heap opening.NotAStore = (roots : Roots) → ¬ ReadsRoots status roots
IsInfoFault status heap (opening.Damaged area.Status n) = ⊥
IsInfoFault status heap (opening.Damaged area.Heap n) = (roots : Roots) × ReadsRoots status roots × FailsHeap roots.extents (root_of roots) heap n
IsInfoFault status heap (opening.Damaged area.Archive n) = ⊥
IsInfoFault status heap opening.Device = Unit {0}
IsInfoFault status heap opening.NoMemory = Unit {0}
