-- The beginning of a growth, and its device calls.
use Rattle.std.proofs.Common.{◌≡◌, ◌≢◌, ℕ, zero, suc, ◌+◌, ◌<◌, ◌≤◌, ◌==◌, ◌||◌, nat_lt, cond, Bool, true, false, IsTrue, is_some, List, length, take, Option}
use Rattle.std.proofs.Common.{None, Some, Result, Err, MatchOption, refl, sym, ap, subst, ◌∙◌, inl, inr, arith}
use Rattle.std.proofs.lemmas.Bool.Decides.{nat_tests}
use Rattle.std.proofs.lemmas.List.{length-take, get_or-take, ext_get_or}
use Rattle.std.proofs.lemmas.List.Elements.{All-take}
use Rattle.disk.specs.Areas.{AreaState, Image, MayLeave, LeavesImage, AreSound}
use Rattle.disk.specs.declared.area.Area.TheVariants.{Status, Heap, Archive}
use Rattle.disk.proofs.Stops.{MayLeave-read, LeavesImage-read}
use Rattle.history.specs.Floors.{Raising}
use Rattle.history.specs.Fronts.{OnFront, OnOpened, OnRaised}
use Rattle.history.specs.Machine.{Machine, Gate, Shut, Due, MayBeOpen, OfGroup, OfFloor}
use Rattle.law_image.specs.Values.{Value}
use Rattle.status.specs.declared.header.Header.{Header}
use Rattle.status.specs.declared.growth.GrowthStage.TheVariants as growths
use Rattle.status.specs.Header.{total, HasNumbers}
use Rattle.status.specs.Log.{slot_start}
use Rattle.status.specs.Rules.{is_built}
use Rattle.status.specs.Growth.{next_piece}
use Rattle.status.specs.GrowthState.{GrowthState}
use Rattle.status.specs.Pieces.{MayGrow}
use Rattle.status.specs.TurnState.{LogState}
use Rattle.law_layout.specs.Growing.{IsGrowing}
use Rattle.law_layout.proofs.Growing.{growth_leaves}
use Rattle.store.specs.Jobs.{growing}
use Rattle.store.specs.Growths.{StartsGrowth, BeginsPiece}
use Rattle.store.specs.Values.{StoreValue}
use Rattle.store.specs.declared.job.Job.{Job}
use Rattle.store.specs.declared.job.StartFault.{StartFault}
use Rattle.store.specs.declared.job.StartFault.TheVariants as start
use Rattle.law_refinement.specs.OnDisk.{IsImageOf}
use Rattle.law_refinement.specs.Stands.{Stands, StandsStill, StandsGrowing, GrowsBeside, without_growth}
use Rattle.law_refinement.proofs.Growing.{as-growing, by-kind, front-map, header-stays}
use Rattle.law_refinement.proofs.GrowingCalls.{bars, busy-job, kept}
use Rattle.law_refinement.proofs.Working.{none-there}

-- ---- the piece that comes next

-- what is known of it
record ComesNext (log : LogState) (growth : GrowthState) : Type 0 where
  pub later : log.profile ≢ 1
  pub room : log.slots + 256 ≤ 65536
  pub is : growth ≡ record { slots = log.slots; piece = log.pieces; stage = growths.Zeroing 0 }

comes-next : (log : LogState) (growth : GrowthState) → next_piece log ≡ Some growth → ComesNext log growth
comes-next log growth is = by-test ((log.profile == 1) || nat_lt 65536 (log.slots + 256)) refl is
  where
    by-test : (b : Bool) → ((log.profile == 1) || nat_lt 65536 (log.slots + 256)) ≡ b
        → cond b None (Some (record { slots = log.slots; piece = log.pieces; stage = growths.Zeroing 0 })) ≡ Some growth → ComesNext log growth
    by-test true test is = absurd cc
    by-test false test is = record {
      later = (let no : (log.profile == 1) ≡ false = grind (arith, nat_tests) in grind (arith, nat_tests));
      room = grind (arith, nat_tests);
      is = (let same : record { slots = log.slots; piece = log.pieces; stage = growths.Zeroing 0 } ≡ growth = cc in sym same);
    }

-- a built profile that is not the first has pieces
has-pieces : (profile : ℕ) → IsTrue (is_built profile 1) → profile ≢ 1 → 1 < profile
has-pieces zero built later = absurd (let no : false ≡ true = built in cc)
has-pieces (suc zero) built later = absurd (later refl)
has-pieces (suc (suc n)) built later = omega arith

-- ---- the beginning

-- what holds of every front holds
front-any : (R : Type 0) (m : Machine Value) → OnFront (λ h floors. R) m → R
front-any R m (inl r) = r
front-any R m (inr o) = by-gate m.gate o
  where
    by-raised : (r : Option Raising) → OnRaised (λ h floors. R) m r → R
    by-raised None none = absurd none
    by-raised (Some r) is = is

    by-gate : (g : Gate) → OnOpened (λ h floors. R) m g → R
    by-gate Shut none = absurd none
    by-gate (Due change) none = absurd none
    by-gate (MayBeOpen OfGroup) is = is
    by-gate (MayBeOpen OfFloor) is = by-raised m.raising is

module _ (tells : Bool) (v : StoreValue) (m : Machine Value) (s : StandsStill tells v m) (works : m.failed ≡ false) (told : IsTrue tells) where
  abbrev header : Header
  header = (s.disk told).header

  abbrev status : AreaState
  status = v.disk.areas.status

  sound : AreSound v.disk.areas
  sound = ((s.disk told).works works).sound

  -- the shortest content that a stop may leave
  abbrev shortest : List ℕ
  shortest = take v.disk.areas.status.firm v.disk.areas.status.bytes

  short-long : length shortest ≡ v.disk.areas.status.firm
  short-long = let f = sound Status in omega (arith, length-take v.disk.areas.status.firm v.disk.areas.status.bytes, f.firm)

  short-left : MayLeave v.disk.areas.status shortest
  short-left =
      let f = sound Status in record {
        no_shorter = omega (arith, short-long);
        kept = λ i low untouched. get_or-take v.disk.areas.status.firm v.disk.areas.status.bytes i 0 low;
        settled = λ none. ext_get_or 0 shortest v.disk.areas.status.bytes (short-long ∙ f.settled none)
            (λ i low. get_or-take v.disk.areas.status.firm v.disk.areas.status.bytes i 0 (omega (arith, low, short-long, f.settled none)));
        are_bytes = All-take (λ (b : ℕ). b < 256) v.disk.areas.status.firm v.disk.areas.status.bytes f.are_bytes;
      }

  -- so the header's slots lie in front of the end at the last sync
  room-firm : slot_start (total header) ≤ v.disk.areas.status.firm
  room-firm =
      let image : Image = record { status = shortest; heap = v.disk.areas.heap.bytes; archive = v.disk.areas.archive.bytes } in
      let left : LeavesImage v.disk.areas image =
      record { status = short-left; heap = MayLeave-read v.disk.areas.heap (sound Heap); archive = MayLeave-read v.disk.areas.archive (sound Archive) } in
      let front = (s.disk told).leaves image left in
      let room : slot_start (total header) ≤ length shortest =
      front-any (slot_start (total header) ≤ length shortest) m
      (front-map (IsImageOf header image) (λ h floors. slot_start (total header) ≤ length shortest) m (λ h floors is. is.held.log.header_is.room) front) in
      omega (arith, room, short-long)

  numbers : HasNumbers header
  numbers =
      let image : Image = record { status = v.disk.areas.status.bytes; heap = v.disk.areas.heap.bytes; archive = v.disk.areas.archive.bytes } in
      let front = (s.disk told).leaves image (LeavesImage-read v.disk.areas sound) in
      front-any (HasNumbers header) m
      (front-map (IsImageOf header image) (λ h floors. HasNumbers header) m (λ h floors is. is.held.log.header_is.front.numbers) front)

  module _ (growth : GrowthState) (next : ComesNext v.log growth) where
    may-grow : MayGrow header
    may-grow = record {
      pieces = has-pieces header.profile (s.disk told).profile_built (λ one. next.later ((s.disk told).profile ∙ one));
      room = omega (arith, next.room, (s.disk told).slots);
    }

    -- nothing is made of the piece: the calm area is the area
    none-made : IsGrowing header growth.stage v.disk.areas.status v.disk.areas.status
    none-made =
        let first : IsGrowing header (growths.Zeroing 0) v.disk.areas.status v.disk.areas.status = record {
          beside = record {
            gate_low = omega (arith, may-grow.room, numbers.some);
            room = room-firm;
            firm = room-firm;
            same = λ k low other. refl;
            loose = λ k low other untouched. untouched;
          };
          at = (
            record { same = refl; loose = λ untouched. untouched },
            omega arith,
            record { long = (let f = sound Status in omega (arith, room-firm, f.firm)); zeros = λ k low high. absurd (omega (arith, low, high)) },
          );
        } in
        subst (λ (g : GrowthState). IsGrowing header g.stage v.disk.areas.status v.disk.areas.status) (sym next.is) first

-- the growth has begun: without it the store is what it was
begun-grows : (tells : Bool) (v new : StoreValue) (m : Machine Value) (growth : GrowthState) → StandsStill tells v m → m.failed ≡ false → v.job ≡ None
    → ComesNext v.log growth → new ≡ record v { job = Some (growing growth) } → Stands tells new m
begun-grows tells v new m growth s works free next is =
    let made : StoreValue = record v { job = Some (growing growth) } in
    let still : StandsStill tells (without_growth made v.disk.areas.status) m = subst (λ (o : Option Job). StandsStill tells (record v { job = o }) m) free s in
    let grows : StandsGrowing tells growth made m = record {
      job = refl;
      slots = ap (λ (g : GrowthState). g.slots) next.is;
      piece = ap (λ (g : GrowthState). g.piece) next.is;
      calm = v.disk.areas.status;
      still = still;
      beside = λ told.
          let d = s.disk told in
          let sound = (d.works works).sound in
          let none = none-made tells v m s works told growth next in
          subst (λ (h : Header). GrowsBeside h growth v.disk.areas.status made m)
          (sym (header-stays v (without_growth made v.disk.areas.status) m m d (still.disk told) refl refl refl)) (record {
            may = may-grow tells v m s works told growth next;
            sound = sound Status;
            real = sound;
            growing = λ _. none;
            left = λ content left. growth_leaves d.header growth.stage v.disk.areas.status v.disk.areas.status content none (sound Status) left;
          });
    } in
    subst (λ (x : StoreValue). Stands tells x m) (sym is) (as-growing tells growth made m grows)

pub grow-start-stands : (tells : Bool) (old new : StoreValue) (answer : Result (Unit {0}) StartFault) (m : Machine Value) → Stands tells old m
    → StartsGrowth old answer new → Stands tells new m
grow-start-stands tells old new answer m stands starts =
    by-kind tells old m (Stands tells new m) stands of-still
    (λ growth s. kept tells old new m stands
    (bars (BeginsPiece old (next_piece old.log) answer new) old.transactions.failed (is_some old.job) None answer old new (busy-job tells growth old m s)
    starts).0)
  where
    same : new ≡ old → Stands tells new m
    same is = kept tells old new m stands is

    by-piece : StandsStill tells old m → old.transactions.failed ≡ false → old.job ≡ None → (o : Option GrowthState) → next_piece old.log ≡ o
        → BeginsPiece old o answer new → Stands tells new m
    by-piece s works free None none said = same said.1
    by-piece s works free (Some growth) is said = begun-grows tells old new m growth s (sym s.memory.failed ∙ works) free (comes-next old.log growth is) said.1

    by-tests : StandsStill tells old m → (failed : Bool) → old.transactions.failed ≡ failed → (busy : Bool) → is_some old.job ≡ busy
        → MatchOption (cond failed (Some start.Failed) (cond busy (Some start.JobBusy) None)) (BeginsPiece old (next_piece old.log) answer new) (λ why. (answer
        ≡ Err why) × (new ≡ old)) → Stands tells new m
    by-tests s true failed busy is said = same said.1
    by-tests s false works true is said = same said.1
    by-tests s false works false is said = by-piece s works (none-there old.job is) (next_piece old.log) refl said

    of-still : StandsStill tells old m → Stands tells new m
    of-still s = by-tests s old.transactions.failed refl (is_some old.job) refl starts
