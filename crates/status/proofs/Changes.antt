-- What the writes of a slot's body and of its gate make of a log.
use Rattle.std.proofs.Common.{◌≡◌, inl, inr, ℕ, ◌+◌, ◌<◌, List, [], ◌∷◌, ◌++◌, length, sym, ◌∙◌, arith}
use Rattle.std.proofs.lemmas.Bool.{cases_eq}
use Rattle.disk.specs.Parts.{Agrees}
use Rattle.disk.proofs.Parts.{Agrees-wider}
use Rattle.wire.specs.Spelling.{IsSpelled}
use Rattle.wire.specs.declared.slot.Slot.{Slot}
use Rattle.status.specs.declared.header.Header.{Header}
use Rattle.status.specs.Header.{total}
use Rattle.status.specs.Log.{slot_start, gate_at, body_at, IsLog, IsOldOrNew}
use Rattle.status.proofs.Agreement.{same_part, still_old, then_new}

module _ (header : Header) (slots : List Slot) (within : length slots < total header) (old new : List ℕ) (log : IsLog header old slots) where
  -- the body may change behind its closed gate
  pub body_changes : Agrees (slot_start (length slots) + 1) 511 old new → IsLog header new slots
  body_changes agrees =
      still_old header slots old new log (Agrees-wider (slot_start (length slots) + 1) 511 (slot_start (length slots)) 512 old new (omega arith)
      (omega arith) agrees)
      (λ _ is_open. log.closed (length slots) (omega arith) within
      (sym (agrees.same (slot_start (length slots)) (omega (arith, log.header_is.room)) (inl (omega arith))) ∙ is_open))

  body_same : Agrees (slot_start (length slots)) 1 old new → body_at new (length slots) ≡ body_at old (length slots)
  body_same agrees =
      same_part (slot_start (length slots) + 1) 511 old new (omega (arith, log.header_is.room)) agrees.no_shorter
      (λ k low high. agrees.same k (omega (arith, log.header_is.room)) (inr (omega arith)))

  -- whatever the gate is, the log is the old one or has the slot
  pub gate_changes : (slot : Slot) → IsSpelled header.profile (length slots) (body_at old (length slots)) slot → Agrees (slot_start (length slots)) 1 old new
      → IsOldOrNew header slots slot new
  gate_changes slot spelled agrees =
      let wide = Agrees-wider (slot_start (length slots)) 1 (slot_start (length slots)) 512 old new (omega arith) (omega arith) agrees in
      elim (cases_eq (gate_at new (length slots)) 0xC7) [
        | inl is_open ↦ inr (then_new header slots old new log wide slot within is_open (rw (body_same agrees) spelled))
        | inr shut ↦ inl (still_old header slots old new log wide (λ _. shut))
      ]

  -- with the gate open it has the slot
  pub gate_opens : (slot : Slot) → IsSpelled header.profile (length slots) (body_at old (length slots)) slot → Agrees (slot_start (length slots)) 1 old new
      → gate_at new (length slots) ≡ 0xC7
      → IsLog header new (slots ++ slot ∷ [])
  gate_opens slot spelled agrees is_open =
      let wide = Agrees-wider (slot_start (length slots)) 1 (slot_start (length slots)) 512 old new (omega arith) (omega arith) agrees in
      then_new header slots old new log wide slot within is_open (rw (body_same agrees) spelled)
