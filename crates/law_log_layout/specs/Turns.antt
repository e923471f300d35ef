-- The way of one chain to the heap, behind the log that lies there, one device call at a time.
use Rattle.std.specs.Prelude.{ℕ, ◌≡◌, ◌≢◌, ◌≤◌, ◌+◌, ◌⊎◌, List, [], ◌∷◌, ◌++◌, length}
use Rattle.std.specs.List.{AllByRecursion}
use Rattle.disk.specs.Areas.{AreaState}
use Rattle.disk.specs.Parts.{HoldsPart, KeepsPart, AreApart}
use Rattle.log_writer.specs.Turns.{open_gate, Done, Opening, Part, Settling, Stage, Syncing, Turn, Writing}

-- the heap holds each of them
abbrev pub HoldsAll : List Part → List ℕ → Type 0
HoldsAll parts content = AllByRecursion (λ (p : Part). HoldsPart p.place p.bytes content) parts

-- whatever a stop may leave of the heap holds each of them
abbrev pub KeepsAll : List Part → AreaState → Type 0
KeepsAll parts a = AllByRecursion (λ (p : Part). KeepsPart p.place p.bytes a) parts

-- one byte
abbrev pub gate_part : ℕ → ℕ → Part
gate_part place gate = record { place = place; bytes = gate ∷ [] }

-- a closed gate is there
pub record IsClosed (place : ℕ) (content : List ℕ) : Type 0 where
  pub gate : ℕ
  pub closed : gate ≢ open_gate
  pub held : HoldsPart place (gate ∷ []) content

-- and whatever a stop may leave has it
pub record KeepsClosed (place : ℕ) (a : AreaState) : Type 0 where
  pub gate : ℕ
  pub closed : gate ≢ open_gate
  pub kept : KeepsPart place (gate ∷ []) a

-- the two have no place in common
abbrev pub ArePartsApart : Part → Part → Type 0
ArePartsApart p q = AreApart p.place (length p.bytes) q.place (length q.bytes)

-- all of these lie apart from this one
abbrev pub AreApartFrom : Part → List Part → Type 0
AreApartFrom q parts = AllByRecursion (λ (p : Part). ArePartsApart p q) parts

-- each of them lies apart from those before it, and from all of the others
abbrev pub AreInTurn : List Part → List Part → Type 0
AreInTurn before [] = Unit {0}
AreInTurn before (p ∷ parts) = AreApartFrom p before × AreInTurn (before ++ p ∷ []) parts

-- What is written of the chain lies apart from these parts of the heap, each piece of it from the others, and both gates from all.
pub record IsFree (log : List Part) (t : Turn) : Type 0 where
  pub live : AllByRecursion (λ (p : Part). AreApartFrom p log) t.parts
  pub each : AreInTurn [] t.parts
  pub gate_live : AreApartFrom (gate_part t.gate 0) log
  pub gate_parts : AreApartFrom (gate_part t.gate 0) t.parts
  pub parts_gate : AllByRecursion (λ (p : Part). ArePartsApart (gate_part t.gate 0) p) t.parts
  pub closes_live : AreApartFrom (gate_part t.closes 0) log
  pub closes_parts : AreApartFrom (gate_part t.closes 0) t.parts
  pub closes_gate : ArePartsApart (gate_part t.gate 0) (gate_part t.closes 0)
  pub gate_closes : ArePartsApart (gate_part t.closes 0) (gate_part t.gate 0)

-- ---- the two logs

-- the heap holds these parts, and the log ends at the chain's gate
pub record HoldsOld (log : List Part) (t : Turn) (content : List ℕ) : Type 0 where
  pub live : HoldsAll log content
  pub ends : IsClosed t.gate content

-- the heap holds these parts and the chain, whose gate is open, and the log ends behind it
pub record HoldsNew (log : List Part) (t : Turn) (content : List ℕ) : Type 0 where
  pub live : HoldsAll log content
  pub chain : HoldsAll t.parts content
  pub opened : HoldsPart t.gate (open_gate ∷ []) content
  pub ends : IsClosed t.closes content

-- ---- stages

-- so many parts are written, and nothing else has changed
pub record IsWriting (log : List Part) (t : Turn) (done rest : List Part) (a : AreaState) : Type 0 where
  pub live : KeepsAll log a
  pub ends : KeepsClosed t.gate a
  pub parts_are : done ++ rest ≡ t.parts
  pub written : HoldsAll done a.bytes

-- all is written, and the gate behind it is closed
pub record IsWritten (log : List Part) (t : Turn) (a : AreaState) : Type 0 where
  pub live : KeepsAll log a
  pub ends : KeepsClosed t.gate a
  pub written : HoldsAll t.parts a.bytes
  pub closes : HoldsPart t.closes (0 ∷ []) a.bytes

-- all that is on the disk
pub record IsSynced (log : List Part) (t : Turn) (a : AreaState) : Type 0 where
  pub live : KeepsAll log a
  pub ends : KeepsClosed t.gate a
  pub written : KeepsAll t.parts a
  pub closes : KeepsPart t.closes (0 ∷ []) a

-- the gate is written, and may be torn
pub record IsOpening (log : List Part) (t : Turn) (a : AreaState) : Type 0 where
  pub live : KeepsAll log a
  pub written : KeepsAll t.parts a
  pub closes : KeepsPart t.closes (0 ∷ []) a
  pub inside : t.gate + 1 ≤ a.firm
  pub opened : HoldsPart t.gate (open_gate ∷ []) a.bytes

-- the chain is the log's, which ends behind it
pub record IsDone (log : List Part) (t : Turn) (a : AreaState) : Type 0 where
  pub live : KeepsAll log a
  pub written : KeepsAll t.parts a
  pub opened : KeepsPart t.gate (open_gate ∷ []) a
  pub ends : KeepsClosed t.closes a

-- the heap at a stage
abbrev pub IsAt : List Part → Turn → Stage → AreaState → Type 0
IsAt live t (Writing done rest) a = IsWriting live t done rest a
IsAt live t Syncing a = IsWritten live t a
IsAt live t Opening a = IsSynced live t a
IsAt live t Settling a = IsOpening live t a
IsAt live t Done a = IsDone live t a

-- of two claims, which holds of what a stop may leave at a stage, before its call
abbrev pub MayBe : Stage → Type 0 → Type 0 → Type 0
MayBe (Writing done rest) Old New = Old
MayBe Syncing Old New = Old
MayBe Opening Old New = Old
MayBe Settling Old New = Old ⊎ New
MayBe Done Old New = New

-- and which within its call and after it, made or refused
abbrev pub MayBecome : Stage → Type 0 → Type 0 → Type 0
MayBecome (Writing done rest) Old New = Old
MayBecome Syncing Old New = Old
MayBecome Opening Old New = Old ⊎ New
MayBecome Settling Old New = Old ⊎ New
MayBecome Done Old New = New
