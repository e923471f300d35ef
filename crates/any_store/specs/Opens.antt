-- What an opened store holds, and why none is opened.
use Rattle.std.specs.Prelude.{ℕ, ◌≡◌, ◌⊎◌, Bool, IsTrue}
use Rattle.disk.specs.Areas.{image_of}
use Rattle.disk.specs.Calls.{DiskState, looked, refused_answer}
use Rattle.recovery.specs.declared.fault.OpenFault.{OpenFault}
use Rattle.recovery.specs.declared.fault.OpenFault.TheVariants.{Device}
use Rattle.store.specs.Opens as slot_opens
use Rattle.log_store.specs.Opens as log_opens
use Rattle.log_store.specs.Formats.{HasLogHeader}
use Rattle.any_store.specs.Values.{StoreValue, OfEngine}

-- The store is opened by the engine of its layout.
pub record Opens (tells : Bool) (old : DiskState) (mark : ℕ) (v : StoreValue) : Type 0 where
  pub engine : OfEngine (λ s. slot_opens.Opens tells old mark s) (λ l. log_opens.Opens tells old mark l) v
  pub layout : IsTrue tells → OfEngine (λ s. ¬ HasLogHeader (image_of old.areas).status) (λ l. HasLogHeader (image_of old.areas).status) v

-- the header can't be read
abbrev pub IsUnread : DiskState → OpenFault → DiskState → Type 0
IsUnread old why new = (why ≡ Device) × (new ≡ looked refused_answer old)

-- The engine of the layout refuses to open it, as the header says which one that is; or the header can't be read.
abbrev pub OpenRefuses : Bool → DiskState → OpenFault → DiskState → Type 0
OpenRefuses tells old why new =
    ((IsTrue tells → ¬ HasLogHeader (image_of old.areas).status) × slot_opens.OpenRefuses tells old why new)
    ⊎ ((IsTrue tells → HasLogHeader (image_of old.areas).status) × log_opens.OpenRefuses tells old why new)
    ⊎ IsUnread old why new
