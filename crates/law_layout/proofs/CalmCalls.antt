-- A slot that is written while a piece of slots is being made is written in the same way in the calm area.
use Rattle.std.proofs.Common.{◌≡◌, ◌≢◌, ℕ, ◌+◌, ◌-◌, ◌*◌, ◌<◌, ◌≤◌, List, [], ◌∷◌, length, refl, sym, ap, ◌∙◌, subst, inl, inr, arith}
use Rattle.std.specs.Prelude.{slice_index, IsTrue, Result, Ok, Err, OnOk}
use Rattle.std.proofs.lemmas.Bool.{cases_lt}
use Rattle.std.proofs.lemmas.List.{get_or_default}
use Rattle.disk.specs.Areas.{AreaState, Areas, MayLeave, IsApart, IsSound, AreSound, AreBytes, loosened, written, synced, overlaid}
use Rattle.disk.specs.Calls.{Writes, Syncs}
use Rattle.disk.specs.declared.area.Area.TheVariants.{Status}
use Rattle.disk.specs.declared.area.DeviceFault.{DeviceFault}
use Rattle.disk.proofs.Parts.{length-overlaid}
use Rattle.law_layout.proofs.Overlays.{overlaid-elsewhere, overlaid-above, overlaid-within}
use Rattle.disk.proofs.Stops.{IsTorn-overlaid, IsTorn-same, AreBytes-overlaid, Tears-written}
use Rattle.status.specs.declared.header.Header.{Header}
use Rattle.status.specs.declared.growth.GrowthStage.{GrowthStage}
use Rattle.status.specs.declared.growth.GrowthStage.TheVariants.{Zeroing, ZerosSynced, GateWritten}
use Rattle.status.specs.Header.{total}
use Rattle.status.specs.Log.{slot_start}
use Rattle.status.specs.Growth.{may_be_open}
use Rattle.status.specs.Pieces.{next_gate, HasZeros}
use Rattle.status.specs.SlotCalls.{SlotStage, IsSlotCall}
use Rattle.status.specs.SlotCalls as slots
use Rattle.law_layout.specs.Growing.{IsBesideArea, GateStands, KeepsZeros, IsGrowthAt, IsGrowing, LeftBeside, IsCalmCall}
use Rattle.law_layout.proofs.Growing.{growth_leaves, zeros-torn, growing-synced, sound-synced, alone-in-part, alone-synced, torn-leaves, synced-leaves}

-- what is written is bytes, if what is read then is
bytes-of : (file : List ℕ) (at : ℕ) (bytes : List ℕ) → AreBytes (overlaid file at bytes) → AreBytes bytes
bytes-of file at bytes all = λ i d lt.
    let place : at + i - at ≡ i = omega arith in
    let is = overlaid-within file at bytes (at + i) (omega arith) (omega (arith, lt)) ∙ ap (λ (k : ℕ). slice_index bytes k) place
    ∙ get_or_default bytes i 0 d lt in
    subst (λ (b : ℕ). b < 256) is (all (at + i) 0 (omega (arith, lt, length-overlaid file at bytes)))

-- a write is the same one in the calm area
record WritesCalm (header : Header) (growth : GrowthStage) (calm : AreaState) (at : ℕ) (bytes : List ℕ) (result : Result (Unit {0}) DeviceFault)
    (old new : Areas) : Type 0 where
  pub next : AreaState
  pub call : Writes Status at bytes result (record old { status = calm }) (record old { status = next })
  pub sound : IsSound next
  pub goes : OnOk result (IsGrowing header growth next new.status)
  pub leaves : (content : List ℕ) → MayLeave new.status content → LeftBeside header (IsTrue (may_be_open growth)) next content

module _ (header : Header) (growth : GrowthStage) (calm : AreaState) (old : Areas) (growing : IsGrowing header growth calm old.status)
    (sound-calm : IsSound calm) (sound : AreSound old)
    (at : ℕ) (bytes : List ℕ) (behind : 512 ≤ at) (within : at + length bytes ≤ slot_start (total header)) where
  abbrev a : AreaState
  a = old.status

  long : slot_start (total header) ≤ length old.status.bytes
  long = let s = sound Status in omega (arith, growing.beside.firm, s.firm)

  long-calm : slot_start (total header) ≤ length calm.bytes
  long-calm = omega (arith, growing.beside.room, sound-calm.firm)

  gate-apart : IsApart (next_gate header) (next_gate header + 1) (at, length bytes)
  gate-apart = inl (omega (arith, growing.beside.gate_low, behind))

  zeros-apart : (k : ℕ) → slot_start (total header) ≤ k → IsApart k (k + 1) (at, length bytes)
  zeros-apart k high = inr (omega (arith, within))

  -- ---- made

  same-written : (k : ℕ) → k < slot_start (total header) → k ≢ next_gate header → slice_index (overlaid old.status.bytes at bytes) k
      ≡ slice_index (overlaid calm.bytes at bytes) k
  same-written k low other = elim (cases_lt k at) [
    | inl before ↦
        overlaid-elsewhere old.status.bytes at bytes k (omega (arith, low, long)) (inl (omega arith))
        ∙ growing.beside.same k low other
        ∙ sym (overlaid-elsewhere calm.bytes at bytes k (omega (arith, low, long-calm)) (inl (omega arith)))
    | inr from ↦ elim (cases_lt k (at + length bytes)) [
      | inl inside ↦ overlaid-within old.status.bytes at bytes k from inside ∙ sym (overlaid-within calm.bytes at bytes k from inside)
      | inr past ↦ overlaid-above old.status.bytes at bytes k past ∙ growing.beside.same k low other ∙ sym (overlaid-above calm.bytes at bytes k past)
    ]
  ]

  beside-written : IsBesideArea header (written at bytes calm) (written at bytes old.status)
  beside-written = record {
    gate_low = growing.beside.gate_low;
    room = growing.beside.room;
    firm = growing.beside.firm;
    same = same-written;
    loose = λ k low other untouched. (untouched.0, growing.beside.loose k low other untouched.1);
  }

  gate-written : GateStands header calm old.status → GateStands header (written at bytes calm) (written at bytes old.status)
  gate-written stands = record {
    same =
        overlaid-elsewhere old.status.bytes at bytes (next_gate header) (omega (arith, growing.beside.gate_low, long)) gate-apart
        ∙ stands.same
        ∙ sym (overlaid-elsewhere calm.bytes at bytes (next_gate header) (omega (arith, growing.beside.gate_low, long-calm)) gate-apart);
    loose = λ untouched. (untouched.0, stands.loose untouched.1);
  }

  zeros-written : (many : ℕ) → HasZeros header many old.status.bytes → HasZeros header many (overlaid old.status.bytes at bytes)
  zeros-written many has = record {
    long = omega (arith, length-overlaid old.status.bytes at bytes, has.long);
    zeros = λ k low high. overlaid-above old.status.bytes at bytes k (omega (arith, within, low)) ∙ has.zeros k low high;
  }

  keeps-written : KeepsZeros header old.status → KeepsZeros header (written at bytes old.status)
  keeps-written keeps =
      zeros-torn header calm old.status (sound Status) at (length bytes) (overlaid old.status.bytes at bytes) (IsTorn-overlaid old.status.bytes at bytes)
      zeros-apart keeps

  at-written : (stage : GrowthStage) → IsGrowthAt header stage calm old.status → IsGrowthAt header stage (written at bytes calm) (written at bytes old.status)
  at-written (Zeroing parts) is = (gate-written is.0, is.1, zeros-written (8192 * parts) is.2)
  at-written ZerosSynced is = (gate-written is.0, keeps-written is.1)
  at-written GateWritten is =
      (overlaid-elsewhere old.status.bytes at bytes (next_gate header) (omega (arith, growing.beside.gate_low, long)) gate-apart ∙ is.0, keeps-written is.1)

  growing-written : IsGrowing header growth (written at bytes calm) (written at bytes old.status)
  growing-written = record { beside = beside-written; at = at-written growth growing.at }

  sound-written : AreBytes bytes → IsSound (written at bytes calm)
  sound-written are = record {
    firm = omega (arith, sound-calm.firm, length-overlaid calm.bytes at bytes);
    settled = λ none. absurd cc;
    are_bytes = AreBytes-overlaid calm.bytes at bytes sound-calm.are_bytes are;
  }

  -- ---- refused

  beside-loosened : IsBesideArea header (loosened at (length bytes) calm.bytes calm) (loosened at (length bytes) old.status.bytes old.status)
  beside-loosened = record {
    gate_low = growing.beside.gate_low;
    room = growing.beside.room;
    firm = growing.beside.firm;
    same = growing.beside.same;
    loose = λ k low other untouched. (untouched.0, growing.beside.loose k low other untouched.1);
  }

  gate-loosened : GateStands header calm old.status
      → GateStands header (loosened at (length bytes) calm.bytes calm) (loosened at (length bytes) old.status.bytes old.status)
  gate-loosened stands = record { same = stands.same; loose = λ untouched. (untouched.0, stands.loose untouched.1) }

  keeps-loosened : KeepsZeros header old.status → KeepsZeros header (loosened at (length bytes) old.status.bytes old.status)
  keeps-loosened keeps = record { firm = keeps.firm; zeros = keeps.zeros; untouched = λ k low high. (zeros-apart k low, keeps.untouched k low high) }

  at-loosened : (stage : GrowthStage) → IsGrowthAt header stage calm old.status
      → IsGrowthAt header stage (loosened at (length bytes) calm.bytes calm) (loosened at (length bytes) old.status.bytes old.status)
  at-loosened (Zeroing parts) is = (gate-loosened is.0, is.1, record { long = is.2.long; zeros = is.2.zeros })
  at-loosened ZerosSynced is = (gate-loosened is.0, keeps-loosened is.1)
  at-loosened GateWritten is = (is.0, keeps-loosened is.1)

  growing-loosened : IsGrowing header growth (loosened at (length bytes) calm.bytes calm) (loosened at (length bytes) old.status.bytes old.status)
  growing-loosened = record { beside = beside-loosened; at = at-loosened growth growing.at }

  sound-loosened : IsSound (loosened at (length bytes) calm.bytes calm)
  sound-loosened = record { firm = sound-calm.firm; settled = λ none. absurd cc; are_bytes = sound-calm.are_bytes }

  -- ---- by the answer

  write-is-calm : (result : Result (Unit {0}) DeviceFault) (new : Areas) → AreSound new → Writes Status at bytes result old new
      → WritesCalm header growth calm at bytes result old new
  write-is-calm (Ok done) new sound-new call =
      let is : new.status ≡ written at bytes old.status = ap (λ (x : Areas). x.status) call.written in
      let are : AreBytes (overlaid old.status.bytes at bytes) = subst (λ (s : AreaState). AreBytes s.bytes) is (let s = sound-new Status in s.are_bytes) in
      let next-sound = sound-written (bytes-of old.status.bytes at bytes are) in
      record {
        next = written at bytes calm;
        call = record { written = refl; in_part = inr (Tears-written Status at bytes (record old { status = calm })) };
        sound = next-sound;
        goes = subst (λ (s : AreaState). IsGrowing header growth (written at bytes calm) s) (sym is) growing-written;
        leaves = λ content left. growth_leaves header growth (written at bytes calm) (written at bytes old.status) content growing-written next-sound
            (subst (λ (s : AreaState). MayLeave s content) is left);
      }
  write-is-calm (Err fault) new sound-new call = record {
    next = loosened at (length bytes) calm.bytes calm;
    call = record { written = tt; in_part = inr (record { torn = IsTorn-same at (length bytes) calm.bytes; areas = refl }) };
    sound = sound-loosened;
    goes = tt;
    leaves = λ content left.
        growth_leaves header growth (loosened at (length bytes) calm.bytes calm) (loosened at (length bytes) old.status.bytes old.status) content
        growing-loosened sound-loosened
        (torn-leaves at (length bytes) old new content (sound Status) call.in_part left);
  }

-- ---- the calls of a slot

module _ (header : Header) (growth : GrowthStage) (calm : AreaState) (number : ℕ) (body : List ℕ) (old new : Areas)
    (growing : IsGrowing header growth calm old.status) (sound-calm : IsSound calm) (sound : AreSound old) (sound-new : AreSound new)
    (among : number < total header) where
  sync-is-calm : (stage : SlotStage) (result : Result (Unit {0}) DeviceFault)
      → ((from to : Areas) → Syncs Status result from to → IsSlotCall number body stage result from to) → Syncs Status result old new
      → IsCalmCall header growth calm number body stage result old new
  sync-is-calm stage (Ok done) is call = record {
    next = synced calm;
    call = is (record old { status = calm }) (record old { status = synced calm }) (record { synced = refl; same = tt });
    sound = sound-synced calm sound-calm;
    alone = alone-synced (Ok done) old new call;
    goes = subst (λ (x : Areas). IsGrowing header growth (synced calm) x.status) (sym call.synced)
        (growing-synced header growth calm old.status sound-calm (sound Status) growing);
    leaves = λ content left.
        growth_leaves header growth (synced calm) (synced old.status) content (growing-synced header growth calm old.status sound-calm (sound Status) growing)
        (sound-synced calm sound-calm)
        (subst (λ (x : Areas). MayLeave x.status content) call.synced left);
  }
  sync-is-calm stage (Err fault) is call = record {
    next = calm;
    call = is (record old { status = calm }) (record old { status = calm }) (record { synced = tt; same = refl });
    sound = sound-calm;
    alone = alone-synced (Err fault) old new call;
    goes = tt;
    leaves = λ content left. growth_leaves header growth calm old.status content growing sound-calm
        (synced-leaves (Err fault) old new content (sound Status) call left);
  }

  write-is : (stage : SlotStage) (result : Result (Unit {0}) DeviceFault) (at : ℕ) (bytes : List ℕ) → 512 ≤ at → at + length bytes ≤ slot_start (total header)
      → ((from to : Areas) → Writes Status at bytes result from to → IsSlotCall number body stage result from to) → Writes Status at bytes result old new
      → IsCalmCall header growth calm number body stage result old new
  write-is stage result at bytes behind within is call =
      let w = write-is-calm header growth calm old growing sound-calm sound at bytes behind within result new sound-new call in
      record {
        next = w.next;
        call = is (record old { status = calm }) (record old { status = w.next }) w.call;
        sound = w.sound;
        alone = alone-in-part at (length bytes) old new call.in_part;
        goes = w.goes;
        leaves = w.leaves;
      }

  pub slot_is_calm : (stage : SlotStage) (result : Result (Unit {0}) DeviceFault) → (stage ≡ slots.Begun → length body ≡ 511)
      → IsSlotCall number body stage result old new → IsCalmCall header growth calm number body stage result old new
  slot_is_calm slots.Begun result whole call =
      write-is slots.Begun result (slot_start number + 1) body (omega arith) (omega (arith, whole refl, among)) (λ from to w. w) call
  slot_is_calm slots.BodyWritten result whole call = sync-is-calm slots.BodyWritten result (λ from to s. s) call
  slot_is_calm slots.BodySynced result whole call =
      write-is slots.BodySynced result (slot_start number) (0xC7 ∷ []) (omega arith) (omega (arith, among)) (λ from to w. w) call
  slot_is_calm slots.GateWritten result whole call = sync-is-calm slots.GateWritten result (λ from to s. s) call
  slot_is_calm slots.Opened result whole call = absurd call
