-- The way from one root to the other, with what each of them claims of heap and archive.
use Rattle.std.proofs.Common.{ℕ, Bool, List, [], ◌∷◌, sym, subst, Result, ⊎_elim, inl, inr}
use Rattle.disk.specs.declared.area.Area.TheVariants.{Status}
use Rattle.disk.specs.declared.area.DeviceFault.{DeviceFault}
use Rattle.disk.specs.Areas.{AreaState, Areas, MayLeave}
use Rattle.law_log_layout.specs.Roots.{turn_place, root_place, other, turn_byte, Stage, Writing, Syncing, Turning, Settling, Done}
use Rattle.law_log_layout.specs.Roots.{IsCallOf, MayBe, MayBecome}
use Rattle.law_log_layout.specs.Beside.{AreOthersSame, RootBeside}
use Rattle.law_log_layout.proofs.Beside.{write-leaves-others, sync-leaves-others}
use Rattle.law_log_layout.proofs.RootGoes.{goes}

-- where both have met their claims, so has the one that is
both-before : (stage : Stage) (A B X Y : Type 0) → X → Y → MayBe stage A B → MayBe stage (A × X) (B × Y)
both-before Writing A B X Y x y is = (is, x)
both-before Syncing A B X Y x y is = (is, x)
both-before Turning A B X Y x y is = (is, x)
both-before Settling A B X Y x y is = ⊎_elim (λ a. inl (a, x)) (λ b. inr (b, y)) is
both-before Done A B X Y x y is = (is, y)

both-within : (stage : Stage) (A B X Y : Type 0) → X → Y → MayBecome stage A B → MayBecome stage (A × X) (B × Y)
both-within Writing A B X Y x y is = (is, x)
both-within Syncing A B X Y x y is = (is, x)
both-within Turning A B X Y x y is = ⊎_elim (λ a. inl (a, x)) (λ b. inr (b, y)) is
both-within Settling A B X Y x y is = ⊎_elim (λ a. inl (a, x)) (λ b. inr (b, y)) is
both-within Done A B X Y x y is = (is, y)

-- the calls are calls of the status area
root-others : (turned : Bool) (root : List ℕ) (stage : Stage) (result : Result (Unit {0}) DeviceFault) (areas next : Areas)
    → IsCallOf turned root stage result areas next → AreOthersSame Status areas next
root-others turned root Writing result areas next call = write-leaves-others Status (root_place (other turned)) root result areas next call
root-others turned root Syncing result areas next call = sync-leaves-others Status result areas next call
root-others turned root Turning result areas next call = write-leaves-others Status turn_place (turn_byte (other turned) ∷ []) result areas next call
root-others turned root Settling result areas next call = sync-leaves-others Status result areas next call
root-others turned root Done result areas next call = absurd call

pub root-beside : (Old New : List ℕ → List ℕ → Type 0) → RootBeside Old New
root-beside Old New header turned old new stage areas apart old_long new_long sound olds news at =
    let way = goes header turned old new apart old_long new_long areas sound stage at in
    record {
      before = λ image left.
          both-before stage _ _ (Old image.heap image.archive) (New image.heap image.archive) (olds image.heap image.archive left.heap left.archive)
          (news image.heap image.archive left.heap left.archive) (way.before image.status left.status);
      within = λ result next image call left.
          let same = root-others turned new stage result areas next call in
          let heap : MayLeave areas.heap image.heap = subst (λ (a : AreaState). MayLeave a image.heap) (sym same.0) left.heap in
          let archive : MayLeave areas.archive image.archive = subst (λ (a : AreaState). MayLeave a image.archive) (sym same.1) left.archive in
          both-within stage _ _ (Old image.heap image.archive) (New image.heap image.archive) (olds image.heap image.archive heap archive)
          (news image.heap image.archive heap archive) (way.within result next image call left);
      leads = way.leads;
    }
