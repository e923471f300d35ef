-- A store, whatever its layout, and the state of the machine that it stands for.
use Rattle.std.specs.Prelude.{ℕ, ◌≡◌, Bool}
use Rattle.disk.specs.Areas.{Image}
use Rattle.history.specs.Histories.{History}
use Rattle.history.specs.Machine.{Machine, IsMachine, opened, opened_by}
use Rattle.law_image.specs.Values.{Value, IsValue}
use Rattle.status.specs.declared.header.Header.{Header}
use Rattle.log_roots.specs.declared.roots.Roots.{Roots}
use Rattle.timequery.specs.View.{ViewValue}
use Rattle.log_store.specs.Values.{IsInStep}
use Rattle.any_store.specs.declared.engine.Engine.{Engine}
use Rattle.any_store.specs.declared.engine.Engine.TheVariants.{Slots, Log}
use Rattle.any_store.specs.Values.{StoreValue, is_log, OfEngine, ByEngine}
use Rattle.law_refinement.specs.Homes as slot_homes
use Rattle.law_refinement.specs.OnDisk as slot_images
use Rattle.law_refinement.specs.Stands as slots
use Rattle.law_log_store.specs.Standing as log_images
use Rattle.law_log_queries.specs.Archive as logs

-- the store stands for the machine
abbrev pub Stands : Bool → StoreValue → Machine Value → Type 0
Stands tells (Slots s) m = slots.Stands tells s m
Stands tells (Log l) m = IsInStep l × logs.Stands tells l m

-- what it stands for is a state of the machine
abbrev pub machine_is : (tells : Bool) (v : StoreValue) (m : Machine Value) → Stands tells v m → IsMachine IsValue m
machine_is tells (Slots s) m is = is.machine
machine_is tells (Log l) m is = let store = (is.1).store in store.machine

-- ---- images

-- the header of an image, by its layout
abbrev pub AnyHeader : Type 0
AnyHeader = Engine Header Roots

-- the image stands for this history with these floors
abbrev pub IsImageOf : AnyHeader → Image → History Value → (ℕ → ℕ) → Type 0
IsImageOf (Slots header) image h floors = slot_images.IsImageOf header image h floors
IsImageOf (Log roots) image h floors = log_images.IsImageOf roots image h floors

-- the machine on such an image: a group has at most as many commits as the layout allows
abbrev pub opened_as : AnyHeader → History Value → (ℕ → ℕ) → Machine Value
opened_as (Slots header) h floors = opened h floors
opened_as (Log roots) h floors = opened_by 1024 h floors

-- and that of a store
abbrev pub opened_in : StoreValue → History Value → (ℕ → ℕ) → Machine Value
opened_in (Slots s) h floors = opened h floors
opened_in (Log l) h floors = opened_by 1024 h floors

-- ---- views

-- what a view needs of its store: that it is its own, and where the disk tells its bytes that they hold its runs
abbrev pub ViewReads : Bool → StoreValue → ViewValue → History Value → (ℕ → ℕ) → Type 0
ViewReads tells v view h floors = OfEngine (λ s. slot_homes.ViewReads tells s view h floors) (λ l. logs.ViewReads tells l view h floors) v

-- the store has gone on: its views are its own still, and no byte of its runs is written
abbrev pub GoesOn : Bool → StoreValue → StoreValue → Type 0
GoesOn tells old new = ByEngine (λ s s'. slot_homes.GoesOn tells s s') (λ l l'. logs.GoesOn tells l l') old new

-- no call changes its layout
abbrev pub LayoutStays : Type 0
LayoutStays = (tells : Bool) (old new : StoreValue) → GoesOn tells old new → is_log new ≡ is_log old
