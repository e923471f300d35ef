-- One slot more, and the parts of a chunk of slots.
use Rattle.std.proofs.Common.{◌≡◌, inl, inr, ℕ, ◌+◌, ◌*◌, ◌-◌, ◌<◌, ◌≤◌, List, [], ◌∷◌, ◌++◌, length, get_or, drop, sym, ap, ◌∙◌, arith}
use Rattle.std.specs.Prelude.{slice_range, slice_index}
use Rattle.std.proofs.lemmas.List.{take-append-le, take_at, length-take, length-drop, get_or-take, get_or-drop, ext_get_or}
use Rattle.std.proofs.lemmas.List.Edits.{get_or-between}
use Rattle.std.proofs.lemmas.Option.{slice_get_within}
use Rattle.disk.specs.Parts.{HoldsPart}
use Rattle.wire.specs.Spelling.{IsSpelled}
use Rattle.wire.specs.declared.slot.Slot.{Slot}
use Rattle.status.specs.declared.log_end.LogEnd.{LogEnd}
use Rattle.status.specs.Log.{slot_start, gate_at, body_at}
use Rattle.status.specs.Rules.{MayFollow, KeepsRules}
use Rattle.status.specs.Walking.{EndsAt, IsWalk}
use Rattle.status.proofs.Agreement.{slice_get-push}

rules_more : (profile : ℕ) (slots : List Slot) (slot : Slot) → KeepsRules profile slots → MayFollow profile slots slot → KeepsRules profile (slots ++ slot ∷ [])
rules_more profile slots slot rules may n other is = elim (slice_get-push slots slot other n is) [
  | inl earlier ↦
      let within : n < length slots = slice_get_within slots n other earlier in
      rw (take-append-le n slots (slot ∷ []) (omega arith)) (rules n other earlier)
  | inr last ↦ rw (take_at slots (slot ∷ []) n (sym last.0), ← last.1) may
]

pub walk_more : (profile : ℕ) (slots : List Slot) (slot : Slot) (end now : LogEnd) (n : ℕ) (body : List ℕ) → IsWalk profile slots end → n ≡ length slots
    → IsSpelled profile n body slot
    → MayFollow profile slots slot → EndsAt (slots ++ slot ∷ []) now → IsWalk profile (slots ++ slot ∷ []) now
walk_more profile slots slot end now n body walk n_is spelled may ends = record {
  are_slots = record {
    own = λ m other is. elim (slice_get-push slots slot other m is) [
      | inl earlier ↦ walk.are_slots.own m other earlier
      | inr last ↦ rw (← last.1) (spelled.own ∙ n_is ∙ sym last.0)
    ];
    in_range = λ m other is. elim (slice_get-push slots slot other m is) [
      | inl earlier ↦ walk.are_slots.in_range m other earlier
      | inr last ↦ rw (← last.1) spelled.in_range
    ];
    rules = rules_more profile slots slot walk.are_slots.rules may;
  };
  ends = ends;
}

-- slot i of a chunk that begins with slot n
module _ (bytes chunk : List ℕ) (n : ℕ) (held : HoldsPart (slot_start n) chunk bytes) (i : ℕ) (whole : 512 * i + 512 ≤ length chunk) where
  byte_of : (k : ℕ) → k < 512 → get_or (slice_range chunk (512 * i) (512 * i + 512)) k 0 ≡ get_or bytes (slot_start (n + i) + k) 0
  byte_of k lt =
      let within : slot_start n + (512 * i + k) < slot_start n + length chunk = omega arith in
      let place : slot_start n + (512 * i + k) ≡ slot_start (n + i) + k = omega arith in
      get_or-between chunk (512 * i) (512 * i + 512) k 0 (omega arith)
      ∙ sym (ap (λ (xs : List ℕ). get_or xs (512 * i + k) 0) held.is)
      ∙ get_or-between bytes (slot_start n) (slot_start n + length chunk) (512 * i + k) 0 within
      ∙ ap (λ (m : ℕ). get_or bytes m 0) place

  pub gate_of : slice_index (slice_range chunk (512 * i) (512 * i + 512)) 0 ≡ gate_at bytes (n + i)
  gate_of = let place : slot_start (n + i) + 0 ≡ slot_start (n + i) = omega arith in byte_of 0 (omega arith) ∙ ap (λ (m : ℕ). get_or bytes m 0) place

  pub body_of : drop 1 (slice_range chunk (512 * i) (512 * i + 512)) ≡ body_at bytes (n + i)
  body_of =
      let part = slice_range chunk (512 * i) (512 * i + 512) in
      let part_long : length part ≡ 512 = omega (arith, length-take (512 * i + 512 - 512 * i) (drop (512 * i) chunk), length-drop (512 * i) chunk) in
      let inside = held.inside in
      let body_long : length (body_at bytes (n + i)) ≡ 511 =
      omega (arith, length-take 511 (drop (slot_start (n + i) + 1) bytes), length-drop (slot_start (n + i) + 1) bytes) in
      ext_get_or 0 (drop 1 part) (body_at bytes (n + i)) (omega (arith, length-drop 1 part)) (λ k lt.
      let small : k < 511 = omega (arith, length-drop 1 part) in
      let place : slot_start (n + i) + (1 + k) ≡ slot_start (n + i) + 1 + k = omega arith in
      get_or-drop 1 part k 0
      ∙ byte_of (1 + k) (omega arith)
      ∙ ap (λ (m : ℕ). get_or bytes m 0) place
      ∙ sym (get_or-drop (slot_start (n + i) + 1) bytes k 0)
      ∙ sym (get_or-take 511 (drop (slot_start (n + i) + 1) bytes) k 0 small))
