-- There is one log, and what answers its reading.
use Rattle.std.proofs.Common.{◌≡◌, inl, inr, ℕ, zero, suc, ◌^◌, ◌<◌, List, [], ◌∷◌, length, take, Some, Result, Ok, Err, refl, sym, ap, ◌∙◌, subst, arith}
use Rattle.std.specs.Prelude.{slice_get, IfOk, IfErr, Vec}
use Rattle.std.specs.declared.alloc.Global.{Global}
use Rattle.std.proofs.lemmas.Bool.{cases_order}
use Rattle.std.proofs.lemmas.Option.{slice_get_within}
use Rattle.wire.specs.Spelling.{IsSpelled}
use Rattle.wire.specs.declared.slot.Slot.{Slot}
use Rattle.status.specs.declared.header.Header.{Header}
use Rattle.status.specs.declared.fault.LogFault.{LogFault}
use Rattle.status.specs.declared.fault.LogFault.TheVariants.{NotAStore, Damaged, Device, NoMemory}
use Rattle.status.specs.Log.{body_at, OpensWith}
use Rattle.status.specs.Rules.{MayFollow}
use Rattle.status.specs.Reading.{HoldsLog, IsLogFault, AnswersLog}

-- bytes are at most one slot of a number
abbrev pub OneSpelling : Type 0
OneSpelling = (profile number : ℕ) (bytes : List ℕ) (a b : Slot) → number < 2 ^ 32 → IsSpelled profile number bytes a → IsSpelled profile number bytes b → a ≡ b

-- a slot at each place below the length
has_slot : (slots : List Slot) (n : ℕ) → n < length slots → (slot : Slot) × (slice_get slots n ≡ Some slot)
has_slot [] n lt = absurd (omega arith)
has_slot (slot ∷ slots) zero lt = (slot, refl)
has_slot (slot ∷ slots) (suc n) lt = has_slot slots n (omega arith)

-- slots that agree as far as the shorter ones go
same_front : (a b : List Slot) → length a < length b → ((n : ℕ) (x y : Slot) → slice_get a n ≡ Some x → slice_get b n ≡ Some y → x ≡ y) → take (length a) b ≡ a
same_front [] b long same = refl
same_front (x ∷ a) [] long same = absurd (omega arith)
same_front (x ∷ a) (y ∷ b) long same =
    let first : y ≡ x = sym (same 0 x y refl refl) in
    let others : take (length a) b ≡ a = same_front a b (omega arith) (λ n. same (suc n)) in
    λ i. first i ∷ others i

same_slots : (a b : List Slot) → length a ≡ length b → ((n : ℕ) (x y : Slot) → slice_get a n ≡ Some x → slice_get b n ≡ Some y → x ≡ y) → a ≡ b
same_slots [] [] long same = refl
same_slots [] (y ∷ b) long same = absurd (omega arith)
same_slots (x ∷ a) [] long same = absurd (omega arith)
same_slots (x ∷ a) (y ∷ b) long same =
    let first : x ≡ y = same 0 x y refl refl in
    let others : a ≡ b = same_slots a b (omega arith) (λ n. same (suc n)) in
    λ i. first i ∷ others i

module _ (one_spelling : OneSpelling) (header : Header) (bytes : List ℕ) where
  agree : (a b : List Slot) → OpensWith header bytes a → OpensWith header bytes b → (n : ℕ) (x y : Slot) → slice_get a n ≡ Some x → slice_get b n ≡ Some y
      → x ≡ y
  agree a b opens_a opens_b n x y is_x is_y =
      let within : n < length a = slice_get_within a n x is_x in
      one_spelling header.profile n (body_at bytes n) x y (omega (arith, opens_a.fits, opens_a.has_room.few)) (opens_a.each_spelled n x is_x)
      (opens_b.each_spelled n y is_y)

  -- where other slots open, there is none behind the end of the log
  no_longer : (slots others : List Slot) → HoldsLog header bytes slots → OpensWith header bytes others → length slots < length others → ⊥
  no_longer slots others log opens lt =
      let slot = has_slot others (length slots) lt in
      log.ended (omega (arith, opens.fits)) (opens.each_open (length slots) slot.0 slot.1)

  pub one_log : (slots others : List Slot) → HoldsLog header bytes slots → HoldsLog header bytes others → others ≡ slots
  one_log slots others log other = elim (cases_order (length slots) (length others)) [
    | inl long ↦ same_slots others slots (sym long) (agree others slots other.opens log.opens)
    | inr (inl lt) ↦ absurd (no_longer slots others log other.opens lt)
    | inr (inr gt) ↦ absurd (no_longer others slots other log.opens gt)
  ]

  -- a log has no bad slot
  no_fault : (slots : List Slot) → HoldsLog header bytes slots → (fault : LogFault) → IsLogFault header bytes fault → AnswersLog slots (Err fault)
  no_fault slots log NotAStore bad = bad log.opens.has_room
  no_fault slots log Device bad = tt
  no_fault slots log NoMemory bad = tt
  no_fault slots log (Damaged n) bad = elim (cases_order (length slots) n) [
    | inl here ↦ log.ended (omega (arith, here, bad.within)) (rw here bad.bad.is_open)
    | inr (inl before) ↦ no_longer slots bad.before log bad.opens (omega (arith, bad.number))
    | inr (inr within) ↦
        let slot = has_slot slots n within in
        let front : take (length bad.before) slots ≡ bad.before =
        same_front bad.before slots (omega (arith, bad.number)) (agree bad.before slots bad.opens log.opens) in
        let may = log.rules n slot.0 slot.1 in
        bad.bad.no_slot slot.0 (log.opens.each_spelled n slot.0 slot.1) (subst (λ (before : List Slot). MayFollow header.profile before slot.0)
        (sym (ap (λ (m : ℕ). take m slots) bad.number) ∙ front) may)
  ]

  pub only_log : (r : Result (Vec Slot Global) LogFault) (slots : List Slot)
      → IfOk r (λ found. HoldsLog header bytes found.items) → IfErr r (IsLogFault header bytes) → HoldsLog header bytes slots → AnswersLog slots r
  only_log (Ok found) slots ok err log = one_log slots found.items log ok
  only_log (Err fault) slots ok err log = no_fault slots log fault err
