-- What each device call on the way from one root to the other leaves, and where it leads.
use Rattle.std.proofs.Common.{◌≡◌, ℕ, ◌+◌, ◌≤◌, Bool, true, false, List, [], ◌∷◌, length, sym, ap, subst, arith, Result, Ok, ⊎_elim, ◌⊎◌}
use Rattle.std.proofs.Common.{inl, inr}
use Rattle.disk.specs.declared.area.Area.TheVariants.{Status}
use Rattle.disk.specs.declared.area.DeviceFault.{DeviceFault}
use Rattle.disk.specs.Areas.{AreaState, Areas, Image, AreSound, IsSound, LeavesImage, MayLeave, written, loosened, synced}
use Rattle.disk.specs.Calls.{Writes, Syncs}
use Rattle.disk.specs.Parts.{HoldsPart, KeepsPart, AreApart, IsLoosened}
use Rattle.disk.proofs.Parts.{synced_part, kept_by_sync, written_part, kept_by_write}
use Rattle.disk.proofs.Stops.{left_by_write, left_by_sync}
use Rattle.law_layout.proofs.Extents.{loosened_is, written_is}
use Rattle.law_log_layout.specs.Turns.{KeepsAll, gate_part, AreApartFrom}
use Rattle.law_log_layout.specs.Roots.{turn_place, root_place, other, turn_byte, IsTurned, KeepsTurned, NamesRoot, IsHeaderApart, Stage, Writing, Syncing}
use Rattle.law_log_layout.specs.Roots.{Turning, Settling, Done, IsCallOf, stage_after, Rests, IsWritten, IsSynced, IsTurning, IsAt, MayBe, MayBecome}
use Rattle.law_log_layout.specs.Laws.{IsRootWay}
use Rattle.law_log_layout.proofs.Parts.{all-kept, closed-kept, all-left, closed-left, all-still, closed-still, gate-either}
use Rattle.log_writer.specs.Turns.{open_gate, Part}

-- ---- the gate, by which root counts

turned-left : (turned : Bool) (a : AreaState) (content : List ℕ) → KeepsTurned turned a → MayLeave a content → IsTurned turned content
turned-left true a content keeps left = keeps.left content left
turned-left false a content keeps left = closed-left turn_place a content keeps left

turned-still : (turned : Bool) (a : AreaState) → IsSound a → KeepsTurned turned a → KeepsTurned turned (synced a)
turned-still true a sound keeps = kept_by_sync turn_place (open_gate ∷ []) a sound keeps
turned-still false a sound keeps = closed-still turn_place a sound keeps

turned-kept : (turned : Bool) (root : List ℕ) (old new : AreaState) → length root ≡ 4 → IsSound old
    → IsLoosened (root_place (other turned)) (length root) old new → KeepsTurned turned old → KeepsTurned turned new
turned-kept true root old new four sound loose keeps = kept_by_write 20 (length root) turn_place (open_gate ∷ []) old new sound keeps (inl (omega arith)) loose
turned-kept false root old new four sound loose keeps =
    closed-kept (record { place = 24; bytes = root }) turn_place old new sound (inl (omega arith)) loose keeps

turned-firm : (turned : Bool) (a : AreaState) → KeepsTurned turned a → turn_place + 1 ≤ a.firm
turned-firm true a keeps = keeps.firm
turned-firm false a keeps = let k = keeps.kept in k.firm

-- whichever byte is at the gate's place, one of the two counts
turned-either : (turned : Bool) (content : List ℕ) → turn_place + 1 ≤ length content → IsTurned turned content ⊎ IsTurned (other turned) content
turned-either true content inside = ⊎_elim (λ closed. inr closed) (λ opened. inl opened) (gate-either turn_place content inside)
turned-either false content inside = ⊎_elim (λ closed. inl closed) (λ opened. inr opened) (gate-either turn_place content inside)

-- what was written turns it
turned-synced : (turned : Bool) (a : AreaState) → HoldsPart turn_place (turn_byte turned ∷ []) a.bytes → KeepsTurned turned (synced a)
turned-synced true a held = synced_part turn_place (open_gate ∷ []) a held
turned-synced false a held = record { gate = 0; closed = λ no. absurd (omega (arith, no)); kept = synced_part turn_place (0 ∷ []) a held }

-- the roots lie apart from each other and from the gate
roots-apart : (turned : Bool) (old new : List ℕ) → length old ≡ 4 → length new ≡ 4
    → AreApart (root_place turned) (length old) (root_place (other turned)) (length new)
roots-apart true old new a b = inr (omega (arith, a, b))
roots-apart false old new a b = inl (omega (arith, a, b))

gate-apart : (turned : Bool) (root : List ℕ) → length root ≡ 4 → AreApart (root_place turned) (length root) turn_place 1
gate-apart true root four = inr (omega arith)
gate-apart false root four = inr (omega arith)

apart-same : (place : ℕ) (a b : List ℕ) (parts : List Part) → length a ≡ length b → AreApartFrom (record { place = place; bytes = a }) parts
    → AreApartFrom (record { place = place; bytes = b }) parts
apart-same place a b [] same apart = tt
apart-same place a b (p ∷ parts) same apart =
    (subst (λ (n : ℕ). AreApart p.place (length p.bytes) place n) same apart.0, apart-same place a b parts same apart.1)

module _ (header : List Part) (turned : Bool) (old new : List ℕ) (apart : IsHeaderApart header) (old_long : length old ≡ 4) (new_long : length new
    ≡ 4) (areas : Areas) (sound : AreSound areas) where
  root-part : Part
  root-part = record { place = root_place (other turned); bytes = new }

  names-left : (a : AreaState) (content : List ℕ) → Rests header turned old a → MayLeave a content → NamesRoot header turned old content
  names-left a content rests left =
      record {
        rest = all-left header a content rests.rest left;
        is = (let k = rests.is in k.left content left);
        counts = turned-left turned a content rests.counts left;
      }

  either-left : (a : AreaState) (content : List ℕ) → KeepsAll header a → KeepsPart (root_place turned) old a → KeepsPart (root_place (other turned)) new a
      → turn_place + 1 ≤ a.firm → MayLeave a content
      → NamesRoot header turned old content ⊎ NamesRoot header (other turned) new content
  either-left a content rest is written inside left =
      ⊎_elim
      (λ counts. inl (record { rest = all-left header a content rest left; is = is.left content left; counts = counts }))
      (λ counts. inr (record { rest = all-left header a content rest left; is = written.left content left; counts = counts }))
      (turned-either turned content (let long = left.no_shorter in omega (arith, inside, long)))

  before-call : (stage : Stage) (content : List ℕ) → IsAt header turned old new stage areas.status → MayLeave areas.status content
      → MayBe stage (NamesRoot header turned old content) (NamesRoot header (other turned) new content)
  before-call Writing content at left = names-left areas.status content at left
  before-call Syncing content at left = names-left areas.status content at.rests left
  before-call Turning content at left = names-left areas.status content at.rests left
  before-call Settling content at left = either-left areas.status content at.rest at.is at.written at.inside left
  before-call Done content at left =
      record {
        rest = all-left header areas.status content at.rest left;
        is = (let k = at.is in k.left content left);
        counts = turned-left (other turned) areas.status content at.counts left;
      }

  -- a write of the other root keeps what counts
  rests-kept : (a : AreaState) → IsLoosened (root_place (other turned)) (length new) areas.status a → Rests header turned old areas.status
      → Rests header turned old a
  rests-kept a loose rests = record {
    rest = all-kept (record { place = root_place (other turned); bytes = new }) header areas.status a (sound Status)
        (apart-same (root_place (other turned)) (0 ∷ 0 ∷ 0 ∷ 0 ∷ []) new header (sym new_long) (apart.roots (other turned))) loose rests.rest;
    is = kept_by_write (root_place (other turned)) (length new) (root_place turned) old areas.status a (sound Status) rests.is
        (roots-apart turned old new old_long new_long) loose;
    counts = turned-kept turned new areas.status a new_long (sound Status) loose rests.counts;
  }

  turning-kept : (a : AreaState) → IsLoosened turn_place 1 areas.status a → IsSynced header turned old new areas.status
      → KeepsAll header a × KeepsPart (root_place turned) old a × KeepsPart (root_place (other turned)) new a × (turn_place + 1 ≤ a.firm)
  turning-kept a loose at = (
    all-kept (gate_part turn_place 0) header areas.status a (sound Status) apart.gate loose (at.rests).rest,
    kept_by_write turn_place 1 (root_place turned) old areas.status a (sound Status) (at.rests).is (gate-apart turned old old_long) loose,
    kept_by_write turn_place 1 (root_place (other turned)) new areas.status a (sound Status) at.written (gate-apart (other turned) new new_long) loose,
    rw loose.firm (turned-firm turned areas.status (at.rests).counts),
  )

  within-write : (q : Part) (result : Result (Unit {0}) DeviceFault) (next : Areas) (image : Image) → Writes Status q.place q.bytes result areas next
      → LeavesImage next image
      → MayLeave (loosened q.place (length q.bytes) (areas.status).bytes areas.status) image.status
  within-write q result next image writes left = let no_more = left_by_write Status q.place q.bytes result areas next writes sound in let l =
      no_more.each image left in l.status

  within-sync : (result : Result (Unit {0}) DeviceFault) (next : Areas) (image : Image) → Syncs Status result areas next → LeavesImage next image
      → MayLeave areas.status image.status
  within-sync result next image syncs left = let no_more = left_by_sync Status result areas next syncs sound in let l = no_more.each image left in l.status

  within-call : (stage : Stage) (result : Result (Unit {0}) DeviceFault) (next : Areas) (image : Image) → IsAt header turned old new stage areas.status
      → IsCallOf turned new stage result areas next → LeavesImage next image
      → MayBecome stage (NamesRoot header turned old image.status) (NamesRoot header (other turned) new image.status)
  within-call Writing result next image at call left =
      let a : AreaState = loosened (root_place (other turned)) (length new) (areas.status).bytes areas.status in
      names-left a image.status (rests-kept a (loosened_is (root_place (other turned)) (length new) areas.status) at)
      (within-write (record { place = root_place (other turned); bytes = new }) result next image call left)
  within-call Syncing result next image at call left = names-left areas.status image.status at.rests (within-sync result next image call left)
  within-call Turning result next image at call left =
      let a : AreaState = loosened turn_place 1 (areas.status).bytes areas.status in
      let kept = turning-kept a (loosened_is turn_place 1 areas.status) at in
      either-left a image.status kept.0 kept.1 kept.2 kept.3 (within-write (gate_part turn_place (turn_byte (other turned))) result next image call left)
  within-call Settling result next image at call left =
      either-left areas.status image.status at.rest at.is at.written at.inside (within-sync result next image call left)
  within-call Done result next image at call left = absurd call

  status-written : (q : Part) (next : Areas) → Writes Status q.place q.bytes (Ok tt) areas next → next.status ≡ written q.place q.bytes areas.status
  status-written q next writes = ap (λ (a : Areas). a.status) writes.written

  status-synced : (next : Areas) → Syncs Status (Ok tt) areas next → next.status ≡ synced areas.status
  status-synced next syncs = ap (λ (a : Areas). a.status) syncs.synced

  leads-on : (stage : Stage) (next : Areas) → IsAt header turned old new stage areas.status → IsCallOf turned new stage (Ok tt) areas next
      → IsAt header turned old new (stage_after stage) next.status
  leads-on Writing next at call =
      subst (IsWritten header turned old new) (sym (status-written (record { place = root_place (other turned); bytes = new }) next call)) (record {
        rests = rests-kept (written (root_place (other turned)) new areas.status) (written_is (root_place (other turned)) new areas.status (sound Status)) at;
        written = written_part (root_place (other turned)) new (areas.status).bytes;
      })
  leads-on Syncing next at call =
      let r = at.rests in
      subst (IsSynced header turned old new) (sym (status-synced next call)) (record {
        rests = record {
          rest = all-still header areas.status (sound Status) r.rest;
          is = kept_by_sync (root_place turned) old areas.status (sound Status) r.is;
          counts = turned-still turned areas.status (sound Status) r.counts;
        };
        written = synced_part (root_place (other turned)) new areas.status at.written;
      })
  leads-on Turning next at call =
      let a : AreaState = written turn_place (turn_byte (other turned) ∷ []) areas.status in
      let kept = turning-kept a (written_is turn_place (turn_byte (other turned) ∷ []) areas.status (sound Status)) at in
      subst (IsTurning header turned old new) (sym (status-written (gate_part turn_place (turn_byte (other turned))) next call)) (record {
        rest = kept.0;
        is = kept.1;
        written = kept.2;
        inside = kept.3;
        gate = written_part turn_place (turn_byte (other turned) ∷ []) (areas.status).bytes;
      })
  leads-on Settling next at call =
      subst (Rests header (other turned) new) (sym (status-synced next call)) (record {
        rest = all-still header areas.status (sound Status) at.rest;
        is = kept_by_sync (root_place (other turned)) new areas.status (sound Status) at.written;
        counts = turned-synced (other turned) areas.status at.gate;
      })
  leads-on Done next at call = absurd call

  pub goes : (stage : Stage) → IsAt header turned old new stage areas.status → IsRootWay header turned old new stage areas
  goes stage at = record {
    before = λ content left. before-call stage content at left;
    within = λ result next image call left. within-call stage result next image at call left;
    leads = λ next call. leads-on stage next at call;
  }
