-- A view carries the mark of its store, in either layout, and no store changes its own.
use Rattle.std.proofs.Common.{◌≡◌, ℕ, Bool, refl}
use Rattle.history.specs.Histories.{History}
use Rattle.law_image.specs.Values.{Value}
use Rattle.timequery.specs.View.{ViewValue}
use Rattle.any_store.specs.declared.engine.Engine.TheVariants.{Slots, Log}
use Rattle.any_store.specs.Values.{StoreValue, is_log, commits_of}
use Rattle.law_any_store.specs.Standing.{ViewReads, GoesOn}

pub view-mark : (tells : Bool) (v : StoreValue) (view : ViewValue) (h : History Value) (floors : ℕ → ℕ) → ViewReads tells v view h floors
    → view.mark ≡ (commits_of v).mark
view-mark tells (Slots s) view h floors reads = reads.mark
view-mark tells (Log l) view h floors reads = reads.mark

pub layout-stays : (tells : Bool) (old new : StoreValue) → GoesOn tells old new → is_log new ≡ is_log old
layout-stays tells (Slots s) (Slots s') goes = refl
layout-stays tells (Slots s) (Log l') goes = absurd goes
layout-stays tells (Log l) (Slots s') goes = absurd goes
layout-stays tells (Log l) (Log l') goes = refl
