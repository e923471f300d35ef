-- The device calls that write a chain behind the log.
use Rattle.std.specs.Prelude.{ℕ, ◌+◌, List, [], ◌∷◌, ◌++◌, map, drop, Result}
use Rattle.disk.specs.Areas.{Areas}
use Rattle.disk.specs.Calls.{Writes, Syncs}
use Rattle.disk.specs.declared.area.Area.TheVariants.{Heap}
use Rattle.disk.specs.declared.area.DeviceFault.{DeviceFault}
use Rattle.deltas.specs.Extents.{extent_start}
use Rattle.log_extents.specs.Extents.{LinkedExtent, linked_bytes}
use Rattle.log_extents.specs.Chains.{first_or, chain_of}

-- some bytes and their place in the heap
pub record Part : Type 0 where
  pub place : ℕ
  pub bytes : List ℕ

-- the byte that opens a chain
abbrev pub open_gate : ℕ
open_gate = 0xC7

-- A chain that is to come behind the log: the place of its gate, all else that is written of it, in order, and the place of the gate where the log then ends.
pub record Turn : Type 0 where
  pub gate : ℕ
  pub parts : List Part
  pub closes : ℕ

-- an extent at its place
abbrev pub extent_part : LinkedExtent → Part
extent_part e = record { place = extent_start e.number; bytes = linked_bytes e }

-- a chain's head: all but the gate
abbrev pub head_part : LinkedExtent → Part
head_part e = record { place = extent_start e.number + 1; bytes = drop 1 (linked_bytes e) }

-- what is written of a chain, in order: its head without the gate, and then its other extents
abbrev pub written_parts : List LinkedExtent → List Part
written_parts [] = []
written_parts (e ∷ es) = head_part e ∷ map extent_part es

-- the chain of this content in these extents, of which the log then goes on in another one
abbrev pub chain_turn : List ℕ → ℕ → List ℕ → Turn
chain_turn numbers link content =
    record { gate = extent_start (first_or 0 numbers); parts = written_parts (chain_of open_gate link numbers content); closes = extent_start link }

-- Where the chain is: some parts are written and others not yet, and behind the last one the gate where the log then ends is closed; all is to be synced; its
-- gate is
-- to be opened; that is to be synced; the chain is the log's.
pub data Stage : Type 0 where
  Writing : List Part → List Part → Stage
  Syncing : Stage
  Opening : Stage
  Settling : Stage
  Done : Stage

-- the device call of a stage, with its answer
abbrev pub IsCallOf : Turn → Stage → Result (Unit {0}) DeviceFault → Areas → Areas → Type 0
IsCallOf t (Writing done (p ∷ rest)) result old new = Writes Heap p.place p.bytes result old new
IsCallOf t (Writing done []) result old new = Writes Heap t.closes (0 ∷ []) result old new
IsCallOf t Syncing result old new = Syncs Heap result old new
IsCallOf t Opening result old new = Writes Heap t.gate (open_gate ∷ []) result old new
IsCallOf t Settling result old new = Syncs Heap result old new
IsCallOf t Done result old new = ⊥

-- the stage after a call that was answered Ok
abbrev pub stage_after : Stage → Stage
stage_after (Writing done (p ∷ rest)) = Writing (done ++ p ∷ []) rest
stage_after (Writing done []) = Syncing
stage_after Syncing = Opening
stage_after Opening = Settling
stage_after Settling = Done
stage_after Done = Done
