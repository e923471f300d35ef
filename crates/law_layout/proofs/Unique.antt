-- The bytes of an extent say what it is, and so those of a heap which chain begins at an extent.
use Rattle.std.proofs.Common.{◌≡◌, ℕ, zero, suc, inl, inr, Some, ◌+◌, ◌-◌, ◌^◌, ◌<◌, List, [], ◌∷◌, ◌++◌, length, take, drop, replicate, refl, sym, ap, ◌∙◌}
use Rattle.std.proofs.Common.{arith}
use Rattle.std.specs.Prelude.{slice_range, slice_get}
use Rattle.std.proofs.lemmas.Bool.{cases_lt, cases_order}
use Rattle.std.proofs.lemmas.Option.{slice_get-get_or}
use Rattle.wire.specs.declared.slot.Slot.{Slot}
use Rattle.wire.proofs.Again.{one_slot}
use Rattle.status.specs.Log.{body_at, IsOpen, OpensWith, IsLog}
use Rattle.disk.specs.Areas.{Image}
use Rattle.history.specs.Histories.{History}
use Rattle.law_image.specs.Values.{Value}
use Rattle.law_layout.specs.Layouts.{ImageStandsFor}
use Rattle.std.specs.List.{AllByRecursion}
use Rattle.std.proofs.lemmas.List.{take_at, same_lists}
use Rattle.byteorder.specs.Endian.{little_from}
use Rattle.byteorder.specs.Numbers.{little_from-bytes}
use Rattle.wire.specs.Spelling.{u32_bytes, IsSpelled}
use Rattle.law_layout.specs.Extents.{Extent, IsExtent, IsChain, AreLinked, HoldsExtent, first_of, extent_start, extent_bytes}
use Rattle.law_layout.proofs.Extents.{extent-length}
use Rattle.status.specs.declared.header.Header.{Header}
use Rattle.status.specs.Header.{total}

number_of : List ℕ → ℕ
number_of bytes = little_from 0 4 bytes

number_is : (n : ℕ) (rest : List ℕ) → n < 2 ^ 32 → number_of (u32_bytes n ++ rest) ≡ n
unfolding number_of u32_bytes
number_is n rest lt = little_from-bytes 4 0 n rest ∙ omega arith

-- the parts of an extent's bytes
first_word : (e : Extent) → e.number < 2 ^ 32 → number_of (extent_bytes e) ≡ e.number
unfolding number_of u32_bytes extent_bytes
first_word e lt = number_is e.number (drop 4 (extent_bytes e)) lt

second_word : (e : Extent) → e.next < 2 ^ 32 → number_of (drop 4 (extent_bytes e)) ≡ e.next
unfolding number_of u32_bytes extent_bytes
second_word e lt = number_is e.next (drop 8 (extent_bytes e)) lt

third_word : (e : Extent) → length e.body < 2 ^ 32 → number_of (drop 8 (extent_bytes e)) ≡ length e.body
unfolding number_of u32_bytes extent_bytes
third_word e lt = number_is (length e.body) (drop 12 (extent_bytes e)) lt

body_part : (e : Extent) → take (length e.body) (drop 16 (extent_bytes e)) ≡ e.body
unfolding u32_bytes extent_bytes
body_part e = take_at e.body (replicate (8176 - length e.body) 0) (length e.body) refl

same_extent : (e f : Extent) → e.number ≡ f.number → e.next ≡ f.next → e.body ≡ f.body → e ≡ f
same_extent e f p q r = λ i. record { number = p i; next = q i; body = r i }

-- two extents of the same bytes are one
pub one_extent : (e f : Extent) → IsExtent e → IsExtent f → e.next < 2 ^ 32 → f.next < 2 ^ 32 → extent_bytes e ≡ extent_bytes f → e ≡ f
one_extent e f is_e is_f next_e next_f same =
    let number : e.number ≡ f.number = sym (first_word e (omega (arith, is_e.high))) ∙ ap number_of same ∙ first_word f (omega (arith, is_f.high)) in
    let next : e.next ≡ f.next = sym (second_word e next_e) ∙ ap (λ (b : List ℕ). number_of (drop 4 b)) same ∙ second_word f next_f in
    let long : length e.body ≡ length f.body =
    sym (third_word e (omega (arith, is_e.fits))) ∙ ap (λ (b : List ℕ). number_of (drop 8 b)) same ∙ third_word f (omega (arith, is_f.fits)) in
    let body : e.body ≡ f.body =
    sym (body_part e) ∙ ap (λ (n : ℕ). take n (drop 16 (extent_bytes e))) long ∙ ap (λ (b : List ℕ). take (length f.body) (drop 16 b)) same ∙ body_part f in
    same_extent e f number next body

-- a part of one length at one place is one
held_once : (heap : List ℕ) (e f : Extent) → IsExtent e → IsExtent f → e.number ≡ f.number → HoldsExtent heap e → HoldsExtent heap f → extent_bytes e
    ≡ extent_bytes f
held_once heap e f is_e is_f number held_e held_f =
    let long : length (extent_bytes e) ≡ length (extent_bytes f) = extent-length e is_e ∙ sym (extent-length f is_f) in
    sym held_e.is
    ∙ ap (λ (n : ℕ). slice_range heap (extent_start n) (extent_start n + length (extent_bytes e))) number
    ∙ ap (λ (n : ℕ). slice_range heap (extent_start f.number) (extent_start f.number + n)) long
    ∙ held_f.is

first-range : (chain : List Extent) → AllByRecursion IsExtent chain → first_of chain < 2 ^ 32
first-range [] each = omega arith
first-range (e ∷ chain) each = let high = (each.0).high in omega arith

chains_once : (heap : List ℕ) (a b : List Extent) → first_of a ≡ first_of b → length a ≡ length b → AreLinked a → AreLinked b → AllByRecursion IsExtent a
    → AllByRecursion IsExtent b
    → AllByRecursion (HoldsExtent heap) a → AllByRecursion (HoldsExtent heap) b → a ≡ b
chains_once heap [] [] first long link_a link_b each_a each_b held_a held_b = refl
chains_once heap [] (f ∷ b) first long link_a link_b each_a each_b held_a held_b = absurd (omega arith)
chains_once heap (e ∷ a) [] first long link_a link_b each_a each_b held_a held_b = absurd (omega arith)
chains_once heap (e ∷ a) (f ∷ b) first long link_a link_b each_a each_b held_a held_b =
    let next_e : e.next < 2 ^ 32 = let range = first-range a each_a.1 in omega (arith, link_a.0) in
    let next_f : f.next < 2 ^ 32 = let range = first-range b each_b.1 in omega (arith, link_b.0) in
    let same : e ≡ f = one_extent e f each_a.0 each_b.0 next_e next_f (held_once heap e f each_a.0 each_b.0 first held_a.0 held_b.0) in
    let onward : first_of a ≡ first_of b = sym link_a.0 ∙ ap (λ (g : Extent). g.next) same ∙ link_b.0 in
    let rest : a ≡ b = chains_once heap a b onward (omega arith) link_a.1 link_b.1 each_a.1 each_b.1 held_a.1 held_b.1 in
    λ i. same i ∷ rest i

pub one_chain : (heap : List ℕ) (first extents records records' : ℕ) (a b : List Extent) (list list' : List (List ℕ))
    → IsChain first extents records a list → IsChain first extents records' b list' → AllByRecursion (HoldsExtent heap) a → AllByRecursion (HoldsExtent heap) b
    → a ≡ b
one_chain heap first extents records records' a b list list' is_a is_b held_a held_b =
    chains_once heap a b (is_a.first_is ∙ sym is_b.first_is) (is_a.extents_are ∙ sym is_b.extents_are) is_a.linked is_b.linked is_a.each is_b.each held_a held_b

-- ---- the log

pub slot_within : (slots : List Slot) (n : ℕ) → n < length slots → (slot : Slot) × (slice_get slots n ≡ Some slot)
slot_within [] n lt = absurd (omega arith)
slot_within (s ∷ slots) zero lt = (s, refl)
slot_within (s ∷ slots) (suc n) lt = slot_within slots n (omega arith)

no_longer : (header : Header) (bytes : List ℕ) (a b : List Slot) → (length a < total header → ¬ IsOpen bytes (length a)) → OpensWith header bytes b
    → length a < length b → ⊥
no_longer header bytes a b ended opens shorter =
    let there = slot_within b (length a) shorter in
    ended (let fits = opens.fits in omega arith) (opens.each_open (length a) there.0 there.1)

-- slots that open, where the gate behind them is closed, are the only ones
pub only_slots : (header : Header) (bytes : List ℕ) (a b : List Slot) → OpensWith header bytes a → OpensWith header bytes b
    → (length a < total header → ¬ IsOpen bytes (length a)) → (length b < total header → ¬ IsOpen bytes (length b)) → a ≡ b
only_slots header bytes a b opens_a opens_b ended_a ended_b = elim (cases_order (length a) (length b)) [
  | inl long ↦ same_lists a b long (λ n d within.
      let fits = opens_a.fits in
      let few = opens_a.has_room.few in
      one_slot header.profile n (body_at bytes n) _ _ (omega arith) (opens_a.each_spelled n _ (slice_get-get_or a n d within))
      (opens_b.each_spelled n _ (slice_get-get_or b n d (omega arith))))
  | inr (inl shorter) ↦ absurd (no_longer header bytes a b ended_a opens_b shorter)
  | inr (inr longer) ↦ absurd (no_longer header bytes b a ended_b opens_a longer)
]

pub one_log : (header : Header) (bytes : List ℕ) (a b : List Slot) → IsLog header bytes a → IsLog header bytes b → a ≡ b
one_log header bytes a b log_a log_b =
    only_slots header bytes a b log_a.opens log_b.opens (log_a.closed (length a) (omega arith)) (log_b.closed (length b) (omega arith))

-- ---- what stands for nothing

no_log : (header : Header) (n : ℕ) (bytes : List ℕ) (slots : List Slot) → n < total header → IsOpen bytes n
    → ((slot : Slot) → ¬ IsSpelled header.profile n (body_at bytes n) slot) → ¬ IsLog header bytes slots
no_log header n bytes slots within is_open none log = elim (cases_lt n (length slots)) [
  | inl named ↦ let there = slot_within slots n named in none there.0 (log.opens.each_spelled n there.0 there.1)
  | inr behind ↦ log.closed n behind within is_open
]

pub torn_is_none : (header : Header) (n : ℕ) (image : Image) (h : History Value) (floors : ℕ → ℕ) → n < total header → IsOpen image.status n
    → ((slot : Slot) → ¬ IsSpelled header.profile n (body_at image.status n) slot)
    → ¬ ImageStandsFor header image h floors
torn_is_none header n image h floors within is_open none stands =
    no_log header n image.status stands.reads_as.layout.slots within is_open none stands.reads_as.held.log
