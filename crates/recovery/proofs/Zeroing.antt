-- Zeros that are written behind the front of the status area.
use Rattle.std.proofs.Common.{◌≡◌, inl, inr, ℕ, ◌+◌, ◌-◌, ◌<◌, ◌≤◌, List, ◌∷◌, length, get_or, refl, sym, ap, ◌∙◌, arith}
use Rattle.std.specs.Prelude.{slice_index}
use Rattle.std.proofs.lemmas.Bool.{cases_lt}
use Rattle.std.proofs.lemmas.List.Edits.{get_or-between}
use Rattle.disk.specs.declared.area.Area.TheVariants.{Status}
use Rattle.disk.specs.Areas.{AreaState, Areas, IsSound, overlaid, written, loosened}
use Rattle.disk.specs.Calls.{MadeInPart, IsTorn}
use Rattle.disk.proofs.Stops.{IsTorn-overlaid, slice_range-overlaid_same}
use Rattle.disk.proofs.Parts.{length-overlaid}
use Rattle.recovery.specs.Format.{KeepsBefore, IsZeroed, KeepsFront}

-- a write behind the place, in full or in part
pub kept_torn : (from at n : ℕ) (old a new : AreaState) → from ≤ at → KeepsBefore from old a → IsTorn at n a.bytes new.bytes → new.firm ≡ a.firm → new.loose
    ≡ (at, n) ∷ a.loose → KeepsBefore from old new
kept_torn from at n old a new behind keeps torn firm loose = record {
  firm = firm ∙ keeps.firm;
  no_shorter = let long = keeps.no_shorter in let more = torn.no_shorter in omega arith;
  same = λ k below inside. torn.elsewhere k (let long = keeps.no_shorter in omega arith) (inl (omega arith)) ∙ keeps.same k below inside;
  untouched = λ k below was. rw loose (inl (omega arith), keeps.untouched k below was);
}

pub kept_in_part : (from at n : ℕ) (old : AreaState) (areas new : Areas) → from ≤ at → KeepsBefore from old areas.status → MadeInPart Status at n areas new
    → KeepsBefore from old new.status
kept_in_part from at n old areas new behind keeps (inl same) = rw same keeps
kept_in_part from at n old areas new behind keeps (inr tears) =
    kept_torn from at n old areas.status new.status behind keeps tears.torn (ap (λ (b : Areas). b.status.firm) tears.areas)
    (ap (λ (b : Areas). b.status.loose) tears.areas)

-- and the other areas stay
pub others_in_part : (at n : ℕ) (old areas new : Areas) → areas ≡ record old { status = areas.status } → MadeInPart Status at n areas new → new
    ≡ record old { status = new.status }
others_in_part at n old areas new others (inl same) = rw same others
others_in_part at n old areas new others (inr tears) =
    tears.areas ∙ ap (λ (b : Areas). record b { status = loosened at n new.status.bytes areas.status }) others
    ∙ ap (λ (a : AreaState). record old { status = a }) (sym (ap (λ (b : Areas). b.status) tears.areas))

-- what stands where bytes were written
overlaid-in : (file : List ℕ) (at : ℕ) (bytes : List ℕ) (k : ℕ) → at ≤ k → k < at + length bytes → slice_index (overlaid file at bytes) k
    ≡ slice_index bytes (k - at)
overlaid-in file at bytes k low high =
    let new : List ℕ = overlaid file at bytes in
    let place : at + (k - at) ≡ k = omega arith in
    let within : at + (k - at) < at + length bytes = omega arith in
    sym (ap (λ (i : ℕ). get_or new i 0) place)
    ∙ sym (get_or-between new at (at + length bytes) (k - at) 0 within)
    ∙ ap (λ (xs : List ℕ). get_or xs (k - at) 0) (slice_range-overlaid_same file at bytes)

module _ (from at : ℕ) (old : AreaState) (areas new : Areas) (bytes : List ℕ) (behind : from ≤ at) (zeroed : IsZeroed from at old areas.status)
    (some : 0 < length bytes)
    (zeros : (k : ℕ) → k < length bytes → slice_index bytes k ≡ 0) (now : new ≡ record areas { status = written at bytes areas.status }) where
  torn : IsTorn at (length bytes) areas.status.bytes (overlaid areas.status.bytes at bytes)
  torn = IsTorn-overlaid areas.status.bytes at bytes

  zeros_at : (k : ℕ) → from ≤ k → k < at + length bytes → slice_index (overlaid areas.status.bytes at bytes) k ≡ 0
  zeros_at k low high = elim (cases_lt k at) [
    | inl before ↦ torn.elsewhere k (let long = zeroed.long (omega arith) in omega arith) (inl (omega arith)) ∙ zeroed.zeros k low before
    | inr within ↦ overlaid-in areas.status.bytes at bytes k within high ∙ zeros (k - at) (omega arith)
  ]

  pub zeroed_more : IsZeroed from (at + length bytes) old new.status
  zeroed_more = rw now (record {
    before = kept_torn from at (length bytes) old areas.status (written at bytes areas.status) behind zeroed.before torn refl refl;
    long = λ more. omega (arith, length-overlaid areas.status.bytes at bytes);
    zeros = zeros_at;
  })

-- what a stop leaves of the front, where nothing was written in it
pub front_kept : (old new : AreaState) → IsSound old → KeepsBefore 512 old new → KeepsFront old new
front_kept old new sound keeps = record {
  left = λ content k may below firm was.
      may.kept k (let same = keeps.firm in omega arith) (keeps.untouched k below was) ∙ keeps.same k below (let s = sound.firm in omega arith);
}
