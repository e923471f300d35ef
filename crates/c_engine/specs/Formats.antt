-- What formatting tells.
use Rattle.std.specs.Prelude.{◌≡◌, ◌⊎◌, ◌↔◌, ℕ, ℤ, List, replicate}
use Rattle.disk.specs.Areas.{Areas}
use Rattle.any_store.specs.Formats.{IsSize, IsFormatted}
use Rattle.any_store.specs.declared.formatting.Layout.{Layout}
use Rattle.c_engine.specs.RelayNoted.{empty_areas}
use Rattle.c_engine.specs.Bytes.{AreBytesTold}
use Rattle.c_engine.specs.Codes.{code_number}
use Rattle.c_engine.specs.declared.code.Code.{Code}
use Rattle.c_engine.specs.declared.code.Code.TheVariants as code
use Rattle.c_engine.specs.declared.code.Info.{Info}

-- The status area of a new store is told, and how many zeros its heap begins with: what formatting makes of a disk without a byte, all of it synced.
pub record IsNewStoreTold (layout : Layout) (said : Code) (info : Info) (out : List ℕ) : Type 0 where
  pub areas : Areas
  pub formatted : IsFormatted layout empty_areas areas
  pub heap : areas.heap.bytes ≡ replicate info.b 0
  pub status : AreBytesTold areas.status.bytes said info out

-- it is, or no store of this layout has such a size, or there was no memory
pub record FormatsStore (layout : Layout) (said : Code) (info : Info) (out : List ℕ) : Type 0 where
  pub bad_size : (said ≡ code.BadSlots) ↔ ¬ IsSize layout
  pub made : (said ≡ code.BadSlots) ⊎ ((said ≡ code.NoMemory) ⊎ IsNewStoreTold layout said info out)

-- so it is answered by the number of a code
abbrev pub AnswersFormat : Layout → ℤ → Info → List ℕ → Type 0
AnswersFormat layout number info out = (said : Code) × (number ≡ code_number said) × FormatsStore layout said info out
