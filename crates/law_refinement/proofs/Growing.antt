-- A store in which a piece of slots is being made stands for what it stands for without that.
use Rattle.std.proofs.Common.{◌≡◌, ◌≢◌, ◌⊎◌, ◌||◌, ℕ, ◌+◌, ◌<◌, Bool, false, IsTrue, is_some, List, Option, None, Some, MatchOption, refl, sym, ap, subst, ◌∙◌}
use Rattle.std.proofs.Common.{inl, inr, arith}
use Rattle.law_image.specs.Log.{is_in_heap}
use Rattle.law_refinement.proofs.Jobs.{built-slots}
use Rattle.std.specs.Prelude.{slice_index}
use Rattle.std.proofs.lemmas.Bool.{cases_eq}
use Rattle.std.proofs.lemmas.List.{get_or-take}
use Rattle.disk.specs.Areas.{AreaState, Areas, Image, MayLeave, LeavesImage, AreSound}
use Rattle.history.specs.Floors.{Raising}
use Rattle.history.specs.Fronts.{OnFront, OnOpened, OnRaised}
use Rattle.history.specs.Histories.{History}
use Rattle.history.specs.Machine.{Machine, Gate, Shut, Due, MayBeOpen, OfGroup, OfFloor}
use Rattle.law_image.specs.Values.{Value}
use Rattle.law_image.specs.Plans.{with_piece}
use Rattle.law_image.proofs.PieceStep.{piece-stands_for}
use Rattle.floors.specs.Floors.{FloorsValue}
use Rattle.status.specs.declared.header.Header.{Header}
use Rattle.status.specs.Header.{total}
use Rattle.status.specs.Growth.{grown, may_be_open}
use Rattle.status.specs.GrowthState.{GrowthState}
use Rattle.status.specs.Pieces.{next_gate, MayGrow, IsBeside, HasZeros, piece_length}
use Rattle.status.specs.TurnState.{LogState}
use Rattle.law_layout.specs.Growing.{IsGrowing, LeftBeside}
use Rattle.law_layout.proofs.Grown.{piece_laid, shut_holds, open_holds}
use Rattle.chains.specs.KeyWrites.{KeyWrites}
use Rattle.store.specs.Jobs.{growing}
use Rattle.store.specs.Values.{StoreValue, IsInStep, IsOnItsWay, HasRest, turn_of, lent_to}
use Rattle.store.specs.declared.job.Job.{Job}
use Rattle.store.specs.declared.job.JobWork.{JobWork}
use Rattle.store.specs.declared.job.JobWork.TheVariants.{Archive, Reclaim, Floor, Grow}
use Rattle.law_refinement.specs.Homes.{HasPlace, JobHasPlace, RunsStand}
use Rattle.law_refinement.specs.OnDisk.{IsImageOf, StandsOnDisk}
use Rattle.law_refinement.specs.Stands.{HasGate, RaisesFloor, gate_of, raising_of, KeepsWork, KeepsJobOf, Stands, StandsStill, StandsGrowing, StandsBy}
use Rattle.law_refinement.specs.Stands.{GrowsBeside, LeavesFront, without_growth, growth_in, growth_of, may_have_grown}
use Rattle.law_refinement.proofs.Working.{gate-beside}

-- a header is known by its profile, its slots in all and its pieces
pub one-header : (a b : Header) → a.profile ≡ b.profile → total a ≡ total b → a.pieces ≡ b.pieces → a ≡ b
one-header a b profile all pieces =
    let slots : a.slots ≡ b.slots = omega (arith, all, pieces) in
    λ i. record { profile = profile i; slots = slots i; pieces = pieces i }

-- ---- fronts

-- what holds of all that P holds of
pub front-map : (P Q : History Value → (ℕ → ℕ) → Type 0) (m : Machine Value) → ((h : History Value) (floors : ℕ → ℕ) → P h floors → Q h floors) → OnFront P m
    → OnFront Q m
front-map P Q m to (inl p) = inl (to m.published m.floors p)
front-map P Q m to (inr o) = inr (by-gate m.gate o)
  where
    by-raised : (r : Option Raising) → OnRaised P m r → OnRaised Q m r
    by-raised None none = absurd none
    by-raised (Some r) p = to _ _ p

    by-gate : (g : Gate) → OnOpened P m g → OnOpened Q m g
    by-gate Shut none = absurd none
    by-gate (Due change) none = absurd none
    by-gate (MayBeOpen OfGroup) p = to _ _ p
    by-gate (MayBeOpen OfFloor) p = by-raised m.raising p

-- the gate of the next piece is shut in what holds a log of the header
gate-shut : (header : Header) (image : Image) (h : History Value) (floors : ℕ → ℕ) → MayGrow header → IsImageOf header image h floors
    → slice_index image.status (next_gate header) ≢ 0xC7
gate-shut header image h floors may is is_open =
    let numbers = is.held.log.header_is.front.numbers in
    let low : header.pieces < 255 = omega (arith, may.room, numbers.some) in
    is.held.log.pieces_closed header.pieces (omega arith) low (get_or-take 512 image.status (next_gate header) 0 (omega (arith, low)) ∙ is_open)

-- an image beside one that stands for a history stands for it too
module _ (header : Header) (image : Image) (calm : List ℕ) (may : MayGrow header) (beside : IsBeside header calm image.status) where
  image-shut : slice_index image.status (next_gate header) ≢ 0xC7 → (h : History Value) (floors : ℕ → ℕ)
      → IsImageOf header (record image { status = calm }) h floors → IsImageOf header image h floors
  image-shut shut h floors is = record {
    layout = is.layout;
    reading = is.reading;
    laid = is.laid;
    held = shut_holds header is.layout image calm may is.held beside shut;
    stands = is.stands;
    profile_built = is.profile_built;
    built = is.built;
  }

  image-opens : HasZeros header piece_length image.status → slice_index image.status (next_gate header) ≡ 0xC7 → (h : History Value) (floors : ℕ → ℕ)
      → IsImageOf header (record image { status = calm }) h floors
      → IsImageOf (grown header) image h floors
  image-opens zeros is_open h floors is = record {
    layout = is.layout;
    reading = with_piece is.reading;
    laid = piece_laid header is.layout is.reading is.laid;
    held = open_holds header is.layout image calm may is.held beside zeros is_open;
    stands = piece-stands_for is.reading h floors is.stands
        (λ first. absurd (omega (arith, first, is.laid.heap.profile_is, may.pieces)))
        (ap is_in_heap is.laid.heap.profile_is ∙ built-slots header.profile is.profile_built)
        (omega (arith, may.room, is.laid.heap.slots_are, is.laid.heap.pieces_are));
    profile_built = is.profile_built;
    built = is.built;
  }

  same-shut : (h : History Value) (floors : ℕ → ℕ) → slice_index image.status (next_gate header) ≡ slice_index calm (next_gate header)
      → IsImageOf header (record image { status = calm }) h floors → IsImageOf header image h floors
  same-shut h floors same is = image-shut (λ is_open. gate-shut header (record image { status = calm }) h floors may is (sym same ∙ is_open)) h floors is

-- what is left beside what stands for a front
pub front-beside : (header : Header) (stage : Bool) (image : Image) (m : Machine Value) (calm : AreaState) → MayGrow header
    → (l : LeftBeside header (IsTrue stage) calm image.status) → OnFront (IsImageOf header (record image { status = l.calm_content })) m
    → LeavesFront header stage image m
front-beside header stage image m calm may l front = by-gate l.gate
  where
    by-gate : (slice_index image.status (next_gate header) ≡ slice_index l.calm_content (next_gate header))
        ⊎ (IsTrue stage × HasZeros header piece_length image.status) → LeavesFront header stage image m
    by-gate (inl same) = record {
      found = header;
      is_found = inl refl;
      front = front-map (IsImageOf header (record image { status = l.calm_content })) (IsImageOf header image) m
          (λ h floors is. same-shut header image l.calm_content may l.beside h floors same is) front;
    }
    by-gate (inr opened) = elim (cases_eq (slice_index image.status (next_gate header)) 0xC7) [
      | inl is_open ↦ record {
        found = grown header;
        is_found = inr (opened.0, refl);
        front = front-map (IsImageOf header (record image { status = l.calm_content })) (IsImageOf (grown header) image) m
            (λ h floors is. image-opens header image l.calm_content may l.beside opened.1 is_open h floors is) front;
      }
      | inr shut ↦ record {
        found = header;
        is_found = inl refl;
        front = front-map (IsImageOf header (record image { status = l.calm_content })) (IsImageOf header image) m
            (λ h floors is. image-shut header image l.calm_content may l.beside shut h floors is) front;
      }
    ]

-- ---- a store in which no piece is being made

none-grows : (o : Option Job) (archived last : ℕ) (opened : List (Option ℕ)) (pending : Option (List KeyWrites)) (versions : List KeyWrites)
    (standing : FloorsValue) → KeepsJobOf o archived last opened pending versions standing → growth_of o ≡ None
none-grows None archived last opened pending versions standing keeps = refl
none-grows (Some job) archived last opened pending versions standing keeps = by-work job.work keeps
  where
    by-work : (work : JobWork) → KeepsWork work job.stage archived last opened pending versions standing → growth_in work ≡ None
    by-work (Archive run writer) keeps = refl
    by-work (Reclaim anchors source written) keeps = refl
    by-work (Floor scope floor floors) keeps = refl
    by-work (Grow growth) keeps = absurd keeps

pub as-still : (tells : Bool) (v : StoreValue) (m : Machine Value) → StandsStill tells v m → Stands tells v m
as-still tells v m s =
    let none : growth_of v.job ≡ None = none-grows v.job _ _ _ _ _ _ s.job in
    record {
      memory = s.memory;
      machine = s.machine;
      order = s.order;
      in_step = s.in_step;
      gate = s.gate;
      raises = s.raises;
      marks = s.marks;
      place = s.place;
      runs = s.runs;
      disk = λ told.
          let d = s.disk told in
          record {
            header = d.header;
            profile = d.profile;
            slots = d.slots;
            pieces = d.pieces;
            leaves = λ image left. record { found = d.header; is_found = inl refl; front = d.leaves image left };
          };
      by = subst (λ (o : Option GrowthState). StandsBy tells o v m) (sym none) s;
    }

-- ---- a store in which one is

module _ (tells : Bool) (growth : GrowthState) (v : StoreValue) (m : Machine Value) (s : StandsGrowing tells growth v m) where
  grows-in-step : IsInStep v
  grows-in-step = let was = s.still.in_step in record {
    slots = was.slots ∙ ap (λ (o : Option Job). v.transactions.slots + lent_to o) (sym s.job);
    used = was.used;
    turns = λ on.
        let t = was.turns on in record {
          turning = t.turning;
          writing = t.writing ∙ ap (λ (o : Option Job). is_some v.turn || is_some (turn_of o)) (sym s.job);
          turn = t.turn;
          job = subst (λ (o : Option Job). MatchOption (turn_of o) (Unit {0}) (λ t. (t.number ≡ v.log.used) × IsOnItsWay t.stage
              × (v.turn ≡ None))) (sym s.job) tt;
        };
  }

  grows-gate : HasGate v m
  grows-gate = λ on. s.still.gate on ∙ gate-beside v.turn None (Some (growing growth)) refl refl ∙ ap (λ (o : Option Job). gate_of v.turn o) (sym s.job)

  grows-raises : RaisesFloor v m
  grows-raises = record { is = s.still.raises.is ∙ ap raising_of (sym s.job); scope = s.still.raises.scope; of_profile = s.still.raises.of_profile }

  grows-place : JobHasPlace v m
  grows-place = subst (λ (o : Option Job). MatchOption o (Unit {0}) (λ job. HasPlace job.work v m)) (sym s.job) tt

  grows-runs : IsTrue tells → RunsStand v m
  grows-runs told = let r =
      s.still.runs told in record {
        lists = r.lists;
        held = r.held;
        ends = r.ends;
        mark = r.mark;
        marks = r.marks;
        by_last = r.by_last;
        archived = r.archived;
        right = r.right;
        near = r.near;
      }

  grows-leaves : (told : IsTrue tells) (image : Image) → LeavesImage v.disk.areas image
      → LeavesFront (s.still.disk told).header (may_be_open growth.stage) image m
  grows-leaves told image left =
      let b = s.beside told in
      let l = b.left image.status left.status in
      front-beside (s.still.disk told).header (may_be_open growth.stage) image m s.calm b.may l
      ((s.still.disk told).leaves (record image { status = l.calm_content }) (record { status = l.left; heap = left.heap; archive = left.archive }))

  pub as-growing : Stands tells v m
  as-growing = record {
    memory = s.still.memory;
    machine = s.still.machine;
    order = s.still.order;
    in_step = grows-in-step;
    gate = grows-gate;
    raises = grows-raises;
    marks = s.still.marks;
    place = grows-place;
    runs = grows-runs;
    disk = λ told.
        let d = s.still.disk told in record {
          header = d.header;
          profile = d.profile;
          slots = d.slots;
          pieces = d.pieces;
          leaves = λ image left. subst (λ (o : Option Job). LeavesFront d.header (may_have_grown (growth_of o)) image m) (sym s.job)
              (grows-leaves told image left);
        };
    by = subst (λ (o : Option Job). StandsBy tells (growth_of o) v m) (sym s.job) s;
  }

-- ---- either

pub by-kind : (tells : Bool) (v : StoreValue) (m : Machine Value) (G : Type 0) → Stands tells v m → (StandsStill tells v m → G)
    → ((growth : GrowthState) → StandsGrowing tells growth v m → G) → G
by-kind tells v m G s still grows = by-growth (growth_of v.job) s.by
  where
    by-growth : (o : Option GrowthState) → StandsBy tells o v m → G
    by-growth None is = still is
    by-growth (Some growth) is = grows growth is

-- ---- a call that makes no device call

pub rest-without : (old new : StoreValue) (calm : AreaState) → HasRest old new → HasRest (without_growth old calm) (without_growth new calm)
rest-without old new calm rest = record {
  log = rest.log;
  turn = rest.turn;
  disk = λ i. record (rest.disk i) { areas = record (rest.disk i).areas { status = calm } };
  job = record { job = refl; archived = rest.job.archived; runs_end = rest.job.runs_end; archive = rest.job.archive };
}

-- the header of a log is one
pub header-stays : (old new : StoreValue) (m m' : Machine Value) (d : StandsOnDisk old m) (d' : StandsOnDisk new m') → new.log.profile ≡ old.log.profile
    → new.log.slots ≡ old.log.slots → new.log.pieces ≡ old.log.pieces → d'.header ≡ d.header
header-stays old new m m' d d' profile slots pieces =
    one-header d'.header d.header (sym d'.profile ∙ profile ∙ d.profile) (sym d'.slots ∙ slots ∙ d.slots) (sym d'.pieces ∙ pieces ∙ d.pieces)

-- the areas are what they were, and the log has as many slots
pub still-growing : (tells : Bool) (growth : GrowthState) (old new : StoreValue) (m m' : Machine Value) → (s : StandsGrowing tells growth old m) → new.job
    ≡ old.job → new.log ≡ old.log → new.disk.areas ≡ old.disk.areas → (m'.failed ≡ false → m.failed ≡ false)
    → StandsStill tells (without_growth new s.calm) m' → StandsGrowing tells growth new m'
still-growing tells growth old new m m' s job log areas on still = record {
  job = job ∙ s.job;
  slots = s.slots ∙ ap (λ (l : LogState). l.slots) (sym log);
  piece = s.piece ∙ ap (λ (l : LogState). l.pieces) (sym log);
  calm = s.calm;
  still = still;
  beside = λ told.
      let d = s.still.disk told in
      let d' = still.disk told in
      let b = s.beside told in
      let same : d'.header ≡ d.header =
      header-stays (without_growth old s.calm) (without_growth new s.calm) m m' d d' (ap (λ (l : LogState). l.profile) log)
      (ap (λ (l : LogState). l.slots) log) (ap (λ (l : LogState). l.pieces) log) in
      subst (λ (h : Header). GrowsBeside h growth s.calm new m') (sym same) (record {
        may = b.may;
        sound = b.sound;
        real = subst AreSound (sym areas) b.real;
        growing = λ works. subst (λ (a : Areas). IsGrowing d.header growth.stage s.calm a.status) (sym areas) (b.growing (on works));
        left = λ content left. b.left content (subst (λ (a : Areas). MayLeave a.status content) areas left);
      });
}
