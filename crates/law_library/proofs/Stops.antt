-- What a stop may leave of the host's areas at each moment.
use Rattle.std.proofs.Common.{◌≡◌, ℕ, ◌<◌, ◌≤◌, ◌+◌, true, List, length, Option, MatchOption, Ok, refl, sym, ◌∙◌, subst, inl, inr, arith}
use Rattle.std.specs.Prelude.{slice_index}
use Rattle.disk.specs.Areas.{Areas, AreaState, AreSound, IsApart, Image, MayLeave, LeavesImage, LeavesNoMore, loosened, while_written}
use Rattle.disk.specs.Calls.{Writes, Tears}
use Rattle.disk.specs.Within.{LeavesWithin}
use Rattle.disk.specs.declared.area.Area.{Area}
use Rattle.disk.specs.declared.area.Area.TheVariants.{Status, Heap, Archive}
use Rattle.disk.proofs.Stops.{Tears-written}
use Rattle.disk.proofs.Within.{within-write}
use Rattle.any_store.specs.Values.{disk_of}
use Rattle.run.specs.Moments.{Moment}
use Rattle.run.specs.Promise.{Survives}
use Rattle.run.proofs.Survival.{moment-leaves}
use Rattle.c_engine.specs.Engines.{due_in, due_call}
use Rattle.c_engine.specs.HostCalls.{HostCall, made}
use Rattle.c_engine.specs.HostCalls as host
use Rattle.c_engine.specs.declared.engine.EngineState.{EngineState}
use Rattle.c_engine.specs.declared.engine.EngineState.TheVariants.{Settled, Asks, Failed}
use Rattle.law_library.specs.Hosts.{IsRefusedIn}
use Rattle.law_library.specs.Moments.{HostMoment, HostSurvives, HostLeaves, WasBefore, IsDue, IsAtStage, IsHostMoment}
use Rattle.law_library.specs.Promise.{MomentLeaves}

-- ---- a write that was made in part

torn-leaves : (a : AreaState) (at n : ℕ) (torn c : List ℕ) → a.firm ≤ length a.bytes
    → ((i : ℕ) → i < length a.bytes → IsApart i (i + 1) (at, n) → slice_index torn i ≡ slice_index a.bytes i) → MayLeave (loosened at n torn a) c
    → MayLeave (loosened at n a.bytes a) c
torn-leaves a at n torn c firm elsewhere left = record {
  no_shorter = left.no_shorter;
  kept = λ i low untouched. left.kept i low untouched ∙ elsewhere i (omega (arith, low, firm)) untouched.0;
  settled = λ none. absurd cc;
  are_bytes = left.are_bytes;
}

-- whatever a stop leaves of it, it might have left while the write was made
torn-images : (area : Area) (at n : ℕ) (old new : Areas) → AreSound old → Tears area at n old new → LeavesNoMore (while_written area at n old) new
torn-images Status at n old new sound tears = record {
  each = λ image left.
      let l = subst (λ (a : Areas). LeavesImage a image) tears.areas left in
      record { status = torn-leaves old.status at n _ image.status (sound Status).firm tears.torn.elsewhere l.status; heap = l.heap; archive = l.archive };
}
torn-images Heap at n old new sound tears = record {
  each = λ image left.
      let l = subst (λ (a : Areas). LeavesImage a image) tears.areas left in
      record { status = l.status; heap = torn-leaves old.heap at n _ image.heap (sound Heap).firm tears.torn.elsewhere l.heap; archive = l.archive };
}
torn-images Archive at n old new sound tears = record {
  each = λ image left.
      let l = subst (λ (a : Areas). LeavesImage a image) tears.areas left in
      record { status = l.status; heap = l.heap; archive = torn-leaves old.archive at n _ image.archive (sound Archive).firm tears.torn.elsewhere l.archive };
}

-- and so, where a call was refused, what a stop leaves is what it might have left within it
pub refused-leaves : (call : HostCall) (old new : Areas) → AreSound old → IsRefusedIn call old new → (image : Image) → LeavesImage new image
    → LeavesWithin old (made call old) image
refused-leaves (host.Writes area at bytes) old new sound (inl same) image left = inl (subst (λ (a : Areas). LeavesImage a image) same left)
refused-leaves (host.Writes area at bytes) old new sound (inr tears) image left =
    let whole : Writes area at bytes (Ok tt) old (made (host.Writes area at bytes) old) =
    record { written = refl; in_part = inr (Tears-written area at bytes old) } in
    inr ((within-write area at bytes old (made (host.Writes area at bytes) old) sound whole).each image
    ((torn-images area at (length bytes) old new sound tears).each image left))
refused-leaves (host.Syncs area) old new sound same image left = inl (subst (λ (a : Areas). LeavesImage a image) same left)

-- ---- moments

-- the store within survives
at-survives : (m : HostMoment) (is : IsHostMoment m) (image : Image) → LeavesImage (disk_of m.host.engine.store).areas image → HostSurvives m image
at-survives m is image left =
    inl (moment-leaves true m.host.engine.store is.held m.at is.is refl image (subst (λ v. LeavesImage (disk_of v).areas image) (sym is.is.store) left))

-- and so does what it was before its step
was-survives : (m : HostMoment) (b : Moment) → WasBefore m b → (image : Image) → LeavesImage (disk_of b.store).areas image → HostSurvives m image
was-survives m b was image left =
    inr (subst (λ (o : Option Moment). MatchOption o ⊥ (λ before. Survives true before image)) (sym was.is_before)
    (moment-leaves true b.store was.held b was.was refl image left))

-- within the call of a step
within-survives : (m : HostMoment) (is : IsHostMoment m) (b : Moment) → WasBefore m b → (image : Image)
    → LeavesWithin (disk_of b.store).areas (disk_of m.host.engine.store).areas image → HostSurvives m image
within-survives m is b was image (inl left) = was-survives m b was image left
within-survives m is b was image (inr left) = at-survives m is image left

leaves-at : (s : EngineState) (m : HostMoment) → IsHostMoment m → IsAtStage s m → HostLeaves m
leaves-at Settled m is st image left = at-survives m is image (subst (λ (a : Areas). LeavesImage a image) st.areas left)
leaves-at (Asks step) m is st image left = was-survives m st.before st.was image (subst (λ (a : Areas). LeavesImage a image) st.areas left)
leaves-at Failed m is st image left = within-survives m is st.before st.was image (st.left image left)

-- while the host makes a call
abbrev WithinCall : HostMoment → Option HostCall → Type 0
WithinCall m due = MatchOption due (Unit {0}) (λ call. (image : Image) → LeavesWithin m.host.areas (made call m.host.areas) image → HostSurvives m image)

due-within : (m : HostMoment) (is : IsHostMoment m) (st : IsDue m) (image : Image) → LeavesWithin m.host.areas (made st.call m.host.areas) image
    → HostSurvives m image
due-within m is st image (inl left) = was-survives m st.before st.was image (subst (λ (a : Areas). LeavesImage a image) st.areas left)
due-within m is st image (inr left) = at-survives m is image (subst (λ (a : Areas). LeavesImage a image) (sym st.leads) left)

within-at : (s : EngineState) (m : HostMoment) → m.host.engine.state ≡ s → IsHostMoment m → IsAtStage s m
    → WithinCall m (due_call (due_in m.host.engine.state) (disk_of m.host.engine.store).areas)
within-at Settled m same is st = subst (λ (x : EngineState). WithinCall m (due_call (due_in x) (disk_of m.host.engine.store).areas)) (sym same) tt
within-at (Asks step) m same is st = subst (λ (o : Option HostCall). WithinCall m o) (sym st.due) (λ image left. due-within m is st image left)
within-at Failed m same is st = subst (λ (x : EngineState). WithinCall m (due_call (due_in x) (disk_of m.host.engine.store).areas)) (sym same) tt

pub moment-keeps : MomentLeaves
moment-keeps m is = (leaves-at m.host.engine.state m is is.stage, within-at m.host.engine.state m refl is is.stage)
