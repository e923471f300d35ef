-- The text of a log.
use Rattle.std.specs.Prelude.{◌≡◌, ◌==◌, if◌then◌else◌, ℕ, ◌++◌, List, length, Some, None, codes}
use Rattle.std.specs.Fmt.{decimal}
pub use Rattle.log_dump.specs.Dump.{Each, IsInstant}
use Rattle.session.specs.Texts.{Text}
use Rattle.status.specs.Header.{total}
use Rattle.status.specs.declared.header.Header.{Header}
use Rattle.wire.specs.declared.slot.Body.{Body}
use Rattle.wire.specs.declared.slot.Body.TheVariants as body
use Rattle.wire.specs.declared.slot.Member.{Member}
use Rattle.wire.specs.declared.slot.Slot.{Slot}

-- label, time, first extent, extents, records
abbrev pub member_front : Member → Text
member_front m = codes "member " ++ (decimal m.label ++ (codes " " ++ (decimal m.time ++ (codes " " ++ (decimal m.first ++ (codes " " ++ (decimal m.extents
    ++ (codes " " ++ (decimal m.records ++ codes " ")))))))))

-- these and the instant
abbrev pub IsMemberLine : Member → Text → Type 0
IsMemberLine m text = (instant : Text) × IsInstant m.time instant × (text ≡ member_front m ++ (instant ++ codes "\n"))

-- a slot and the numbers of its body in their order
abbrev pub numbers_line : ℕ → Text → ℕ → ℕ → ℕ → ℕ → Text
numbers_line number kind a b c d = codes "slot " ++ (decimal number ++ (kind ++ (decimal a ++ (codes " " ++ (decimal b ++ (codes " " ++ (decimal c
    ++ (codes " " ++ (decimal d ++ codes "\n")))))))))

-- the line that stands before the members of a group
abbrev pub commit_line : ℕ → Text
commit_line number = codes "slot " ++ (decimal number ++ codes " commit\n")

-- the text of a slot's body: a line of its own for each member of a group, one line for each job
abbrev pub IsBodyText : ℕ → Body → Text → Type 0
IsBodyText n (body.Commit members) text = (lines : Text) × Each IsMemberLine members.items lines × (text ≡ commit_line n ++ lines)
IsBodyText n (body.Archived run) text = text ≡ numbers_line n (codes " archived ") run.upto run.start run.len run.records
IsBodyText n (body.Reclaimed anchors) text = text ≡ numbers_line n (codes " reclaimed ") anchors.upto anchors.first anchors.extents anchors.records
IsBodyText n (body.Floor None floor) text = text ≡ codes "slot " ++ (decimal n ++ (codes " floor " ++ (decimal floor ++ codes "\n")))
IsBodyText n (body.Floor (Some relation) floor) text =
    text ≡ codes "slot " ++ (decimal n ++ (codes " floor " ++ (decimal floor ++ (codes " relation " ++ (decimal relation ++ codes "\n")))))

-- the text of one slot of the log
abbrev pub IsSlotText : Slot → Text → Type 0
IsSlotText slot text = IsBodyText slot.number slot.body text

-- how many slots the header names, and how many pieces of more are open where its profile has pieces
abbrev pub header_line : Header → Text
header_line header =
    if header.profile == 1 then codes "header " ++ (decimal header.slots ++ codes "\n")
    else codes "header " ++ (decimal header.slots ++ (codes " pieces " ++ (decimal header.pieces ++ codes "\n")))

-- how many slots are used, of those that there are
abbrev pub used_line : ℕ → ℕ → Text
used_line used all = codes "used " ++ (decimal used ++ (codes " of " ++ (decimal all ++ codes "\n")))

-- the header, the slots that are used, and how many these are
abbrev pub IsDump : Header → List Slot → Text → Type 0
IsDump header slots text = (lines : Text) × Each IsSlotText slots lines
    × (text ≡ header_line header ++ (lines ++ used_line (length slots) (total header)))
