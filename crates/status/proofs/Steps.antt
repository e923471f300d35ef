-- What the reading of one slot says of the area.
use Rattle.std.proofs.Common.{◌≡◌, inl, inr, ℕ, ◌+◌, ◌*◌, ◌<◌, ◌≤◌, Bool, true, false, List, [], ◌∷◌, ◌++◌, length, drop, sym, ap, ◌∙◌, arith}
use Rattle.std.specs.Prelude.{slice_index, slice_range}
use Rattle.std.proofs.lemmas.List.{length_push}
use Rattle.disk.specs.Parts.{HoldsPart}
use Rattle.wire.specs.Spelling.{IsSpelled}
use Rattle.wire.specs.declared.slot.Slot.{Slot}
use Rattle.status.specs.declared.header.Header.{Header}
use Rattle.status.specs.declared.fault.LogFault.{LogFault}
use Rattle.status.specs.declared.fault.LogFault.TheVariants.{NotAStore, Damaged, Device, NoMemory}
use Rattle.status.specs.Header.{total}
use Rattle.status.specs.Log.{slot_start, gate_at, body_at, IsOpen, HasRoom, OpensWith}
use Rattle.status.specs.Rules.{KeepsRules}
use Rattle.status.specs.Reading.{IsLogFault}
use Rattle.status.specs.Walking.{Takes, IsTakeFault, Goes}
use Rattle.status.proofs.Walks.{gate_of, body_of}
use Rattle.status.proofs.Agreement.{slice_get-push}

pub opens_with_none : (header : Header) (bytes : List ℕ) → HasRoom header bytes → OpensWith header bytes []
opens_with_none header bytes room = record { has_room = room; fits = omega arith; each_open = λ n slot is. absurd cc; each_spelled = λ n slot is. absurd cc }

one_more : (header : Header) (bytes : List ℕ) (slots : List Slot) (slot : Slot) → length slots < total header → OpensWith header bytes slots
    → IsOpen bytes (length slots) → IsSpelled header.profile (length slots) (body_at bytes (length slots)) slot → OpensWith header bytes (slots ++ slot ∷ [])
one_more header bytes slots slot within opens is_open spelled = record {
  has_room = opens.has_room;
  fits = omega (arith, length_push slots slot);
  each_open = λ m other is. elim (slice_get-push slots slot other m is) [
    | inl earlier ↦ opens.each_open m other earlier
    | inr last ↦ rw last.0 is_open
  ];
  each_spelled = λ m other is. elim (slice_get-push slots slot other m is) [
    | inl earlier ↦ opens.each_spelled m other earlier
    | inr last ↦ rw (last.0, ← last.1) spelled
  ];
}

-- slot m of the bytes, which is the part, comes behind these slots
module _ (header : Header) (profile : ℕ) (profile_is : header.profile ≡ profile) (bytes part : List ℕ) (before : List Slot) (m : ℕ) (m_is : m ≡ length before)
    (within : m < total header)
    (gate_is : slice_index part 0 ≡ gate_at bytes m) (body_is : drop 1 part ≡ body_at bytes m) where
  gate_here : slice_index part 0 ≡ gate_at bytes (length before)
  gate_here = gate_is ∙ ap (gate_at bytes) m_is

  body_here : drop 1 part ≡ body_at bytes (length before)
  body_here = body_is ∙ ap (body_at bytes) m_is

  spelled_here : (slot : Slot) → IsSpelled profile (length before) (drop 1 part) slot
      → IsSpelled header.profile (length before) (body_at bytes (length before)) slot
  spelled_here slot spelled = rw (profile_is, ← body_here) spelled

  spelled_there : (n : ℕ) (slot : Slot) → n ≡ length before → IsSpelled header.profile n (body_at bytes n) slot → IsSpelled profile n (drop 1 part) slot
  spelled_there n slot n_is spelled = rw (← profile_is, body_here, ← n_is) spelled

  pub takes_goes : (on : Bool) (after : List Slot) → Takes profile before part on after → OpensWith header bytes before → Goes header bytes on after
  takes_goes false after takes opens = rw takes.1 (opens, λ is_open. takes.0 (gate_here ∙ is_open))
  takes_goes true after takes opens =
      rw takes.1.2 (one_more header bytes before (takes.1.0) (omega (arith, within, m_is)) opens (sym gate_here ∙ takes.0) (spelled_here (takes.1.0) takes.1.1))

  pub fault_here : (fault : LogFault) → IsTakeFault profile before part fault → KeepsRules profile before → OpensWith header bytes before
      → IsLogFault header bytes fault
  fault_here NotAStore bad rules opens = absurd bad
  fault_here (Damaged n) bad rules opens = record {
    before = before;
    number = sym bad.0;
    within = omega (arith, within, m_is, bad.0);
    opens = opens;
    rules = rw profile_is rules;
    bad = record {
      is_open = rw bad.0 (sym gate_here ∙ bad.1);
      no_slot = λ slot spelled may. bad.2 slot (spelled_there n slot bad.0 spelled) (rw (← profile_is) may);
    };
  }
  fault_here Device bad rules opens = absurd bad
  fault_here NoMemory bad rules opens = tt

-- ---- slot i of a chunk

module _ (header : Header) (profile now : ℕ) (profile_is : header.profile ≡ profile) (now_is : now ≡ profile) (bytes chunk : List ℕ) (first before : List Slot)
    (count i : ℕ)
    (fits : length first + count ≤ total header) (held : HoldsPart (slot_start (length first)) chunk bytes) (whole : length chunk ≡ 512 * count)
    (len : length before ≡ length first + i) (lt : i < count) where
  part : List ℕ
  part = slice_range chunk (512 * i) (512 * i + 512)

  inside : 512 * i + 512 ≤ length chunk
  inside = omega arith

  gate : slice_index part 0 ≡ gate_at bytes (length first + i)
  unfolding part
  gate = gate_of bytes chunk (length first) held i inside

  body : drop 1 part ≡ body_at bytes (length first + i)
  unfolding part
  body = body_of bytes chunk (length first) held i inside

  pub chunk_goes : (on : Bool) (after : List Slot) → Takes now before (slice_range chunk (512 * i) (512 * i + 512)) on after → OpensWith header bytes before
      → Goes header bytes on after
  unfolding part
  chunk_goes on after takes opens =
      takes_goes header now (profile_is ∙ sym now_is) bytes part before (length first + i) (sym len) (omega arith) gate body on after takes opens

  pub chunk_fault : (fault : LogFault) → IsTakeFault now before (slice_range chunk (512 * i) (512 * i + 512)) fault → KeepsRules now before
      → OpensWith header bytes before → IsLogFault header bytes fault
  unfolding part
  chunk_fault fault bad rules opens =
      fault_here header now (profile_is ∙ sym now_is) bytes part before (length first + i) (sym len) (omega arith) gate body fault bad rules opens

pub takes_one : (profile : ℕ) (before : List Slot) (bytes : List ℕ) (after : List Slot) → Takes profile before bytes true after
    → length after ≡ length before + 1
takes_one profile before bytes after takes = ap length takes.1.2 ∙ length_push before takes.1.0
