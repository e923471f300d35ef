-- The text of a log that lies in the heap.
use Rattle.std.specs.Prelude.{◌≡◌, ℕ, ◌++◌, List, [], ◌∷◌, Option, None, Some, MatchBool, codes, nat_lt}
use Rattle.std.specs.Fmt.{decimal}
use Rattle.clock.specs.Instant.{Spells, second_at}
use Rattle.disk.specs.declared.area.Area.TheVariants as area
use Rattle.recovery.specs.declared.fault.OpenFault.{OpenFault}
use Rattle.recovery.specs.declared.fault.OpenFault.TheVariants as opening
use Rattle.log_roots.specs.declared.roots.Roots.{Roots}
use Rattle.log_roots.specs.Roots.{root_of}
use Rattle.log_entries.specs.declared.entry.AnchorName.{AnchorName}
use Rattle.log_entries.specs.declared.entry.Archive.{Archive}
use Rattle.log_entries.specs.declared.entry.RelationFloor.{RelationFloor}
use Rattle.log_entries.specs.declared.entry.Roll.{Roll}
use Rattle.log_shown.specs.declared.items.LogItem.{LogItem}
use Rattle.log_shown.specs.declared.items.LogItem.TheVariants as says
use Rattle.log_shown.specs.declared.reading.ShownEnd.{ShownEnd}
use Rattle.log_shown.specs.declared.reading.ShownEnd.TheVariants as ends
use Rattle.log_shown.specs.declared.shown.LogShown.{LogShown}

-- the bytes of a text
abbrev pub Text : Type 0
Text = List ℕ

-- a text of each, one after another
abbrev pub Each : {X : Type 0} → (X → Text → Type 0) → List X → Text → Type 0
Each P [] text = text ≡ []
Each P (x ∷ xs) text = (first : Text) × (more : Text) × P x first × Each P xs more × (text ≡ first ++ more)

-- the second of a time as an instant, or a dash after the year 9999
abbrev pub IsInstant : ℕ → Text → Type 0
IsInstant time text = MatchBool (nat_lt time 253_402_300_800_000_000) (Spells text (second_at time)) (text ≡ codes "-")

-- ---- what a log says

-- label, time, records, and then the instant
abbrev pub commit_front : (label time records : ℕ) → Text
commit_front label time records =
    codes "member " ++ (decimal label ++ (codes " " ++ (decimal time ++ (codes " " ++ (decimal records ++ codes " ")))))

abbrev pub IsCommitLine : (label time records : ℕ) → Text → Type 0
IsCommitLine label time records text = (instant : Text) × IsInstant time instant × (text ≡ commit_front label time records ++ (instant ++ codes "\n"))

-- the base: its first extent, its mark, and the first extent, the extents and the records of its anchors
abbrev pub base_line : (head upto : ℕ) → AnchorName → Text
base_line head upto a = codes "chain " ++ (decimal head ++ (codes " base " ++ (decimal upto ++ (codes " " ++ (decimal a.first
    ++ (codes " " ++ (decimal a.extents ++ (codes " " ++ (decimal a.records ++ codes "\n")))))))))

abbrev pub roll_line : Roll → Text
roll_line r = codes "roll " ++ (decimal r.start ++ (codes " " ++ (decimal r.len ++ codes "\n")))

-- a run of the base takes the place of none
abbrev pub base_run_line : Archive → Text
base_run_line a = codes "archived " ++ (decimal a.upto ++ (codes " " ++ (decimal a.start ++ (codes " " ++ (decimal a.len
    ++ (codes " " ++ (decimal a.records ++ codes " 0\n")))))))

-- the time of a floor and its relation
abbrev pub floor_end : RelationFloor → Text
floor_end f = decimal f.floor ++ (codes " relation " ++ (decimal f.relation ++ codes "\n"))

abbrev pub group_line : (head extents : ℕ) → Text
group_line head extents = codes "chain " ++ (decimal head ++ (codes " commits extents " ++ (decimal extents ++ codes "\n")))

-- a run that stands behind the base, or without one: the last number is how many runs it takes the place of
abbrev pub run_line : ℕ → Archive → Text
run_line head a = codes "chain " ++ (decimal head ++ (codes " archived " ++ (decimal a.upto ++ (codes " " ++ (decimal a.start ++ (codes " "
    ++ (decimal a.len ++ (codes " " ++ (decimal a.records ++ (codes " " ++ (decimal a.runs ++ codes "\n")))))))))))

abbrev pub floor_line : ℕ → RelationFloor → Text
floor_line head f = codes "chain " ++ (decimal head ++ (codes " floor " ++ floor_end f))

-- the line of one thing that a log says
abbrev pub IsItemText : LogItem → Text → Type 0
IsItemText (says.Base head upto anchors) text = text ≡ base_line head upto anchors
IsItemText (says.BaseRoll roll) text = text ≡ roll_line roll
IsItemText (says.BaseRun run) text = text ≡ base_run_line run
IsItemText (says.BaseFloor floor) text = text ≡ codes "floor " ++ floor_end floor
IsItemText (says.Group head extents) text = text ≡ group_line head extents
IsItemText (says.Commit label time records) text = IsCommitLine label time records text
IsItemText (says.Run head run) text = text ≡ run_line head run
IsItemText (says.Floor head floor) text = text ≡ floor_line head floor

-- ---- all of it

-- how many extents the heap may have, and where the log begins
abbrev pub header_line : Roots → Text
header_line r = codes "header extents " ++ (decimal r.extents ++ (codes " root " ++ (decimal (root_of r) ++ codes "\n")))

-- where the log goes on
abbrev pub next_line : ℕ → Text
next_line next = codes "next " ++ (decimal next ++ codes "\n")

-- how many extents are in use of so many
abbrev pub used_line : ℕ → ℕ → Text
used_line used most = codes "used " ++ (decimal used ++ (codes " of " ++ (decimal most ++ codes "\n")))

-- both of these; nothing where a check fails
abbrev pub end_text : ℕ → ShownEnd → Text
end_text most (ends.Right extents) = next_line extents.next ++ used_line extents.used most
end_text most (ends.Damaged place) = []

-- the header, a line for each thing that the log says, and its end
abbrev pub IsDumpText : LogShown → Text → Type 0
IsDumpText shown text = (lines : Text) × Each IsItemText shown.items.items lines
    × (text ≡ header_line shown.roots ++ (lines ++ end_text shown.roots.extents shown.end))

-- the check that fails, as opening tells it
abbrev pub fault_of : ShownEnd → Option OpenFault
fault_of (ends.Right extents) = None
fault_of (ends.Damaged place) = Some (opening.Damaged area.Heap place)
