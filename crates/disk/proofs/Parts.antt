-- What holds a part, and what keeps it.
use Rattle.std.proofs.Common.{◌≡◌, ℕ, ◌+◌, ◌-◌, ◌<◌, ◌≤◌, List, length, max, sym, ◌∙◌, inl, inr, arith}
use Rattle.std.specs.Prelude.{slice_index, slice_range}
use Rattle.std.proofs.lemmas.List.{length-append, length-replicate, length-take, length-drop, ext_get_or}
use Rattle.std.proofs.lemmas.List.Edits.{length-between, get_or-between}
use Rattle.disk.specs.Areas.{AreaState, MayLeave, IsSound, IsApart, synced, overlaid, loosened}
use Rattle.disk.proofs.Stops.{MayLeave-read, MayLeave-synced, slice_range-overlaid, slice_range-overlaid_same, left_before_write, IsTorn-overlaid}
use Rattle.disk.specs.Parts.{HoldsPart, KeepsPart, AreApart, IsOutside, Agrees, IsSettled, IsLoosened}

-- contents that agree on some places have the same bytes there
pub same_slice : (old new : List ℕ) (from to : ℕ) → from ≤ to → to ≤ length old → to ≤ length new
    → ((k : ℕ) → from ≤ k → k < to → slice_index new k ≡ slice_index old k) → slice_range new from to ≡ slice_range old from to
same_slice old new from to order in_old in_new same =
    let long_old : length (slice_range old from to) ≡ to - from = length-between old from to in_old in
    let long_new : length (slice_range new from to) ≡ to - from = length-between new from to in_new in
    ext_get_or 0 (slice_range new from to) (slice_range old from to) (omega arith) (λ i lt.
    let within : from + i < to = omega arith in
    get_or-between new from to i 0 within
    ∙ same (from + i) (omega arith) within
    ∙ sym (get_or-between old from to i 0 within))

-- FRAME: contents that agree on the places of a part hold the same part
pub held_again : (at : ℕ) (part old new : List ℕ) → at + length part ≤ length new
    → ((k : ℕ) → at ≤ k → k < at + length part → slice_index new k ≡ slice_index old k) → HoldsPart at part old → HoldsPart at part new
held_again at part old new inside same held = record {
  inside = inside;
  is = same_slice old new at (at + length part) (omega arith) held.inside inside same ∙ held.is;
}

-- what is kept is read
pub read_part : (at : ℕ) (part : List ℕ) (a : AreaState) → IsSound a → KeepsPart at part a → HoldsPart at part a.bytes
read_part at part a sound keeps = keeps.left a.bytes (MayLeave-read a sound)

-- what is read is kept by a sync
pub synced_part : (at : ℕ) (part : List ℕ) (a : AreaState) → HoldsPart at part a.bytes → KeepsPart at part (synced a)
synced_part at part a held = record {
  firm = held.inside;
  left = λ content left. rw (MayLeave-synced a content left) held;
}

-- what is kept outlasts a sync
pub kept_by_sync : (at : ℕ) (part : List ℕ) (a : AreaState) → IsSound a → KeepsPart at part a → KeepsPart at part (synced a)
kept_by_sync at part a sound keeps = synced_part at part a (read_part at part a sound keeps)

pub length-overlaid : (file : List ℕ) (at : ℕ) (bytes : List ℕ) → length (overlaid file at bytes) ≡ max (length file) (at + length bytes)
length-overlaid file at bytes = simp (length-append, length-take, length-drop, length-replicate) (omega arith)

-- what is written is read
pub written_part : (at : ℕ) (part file : List ℕ) → HoldsPart at part (overlaid file at part)
written_part at part file = record {
  inside = omega (arith, length-overlaid file at part);
  is = slice_range-overlaid_same file at part;
}

-- and what lies apart from it is read as before
pub part_beside : (at from : ℕ) (bytes part file : List ℕ) → AreApart from (length part) at (length bytes) → HoldsPart from part file
    → HoldsPart from part (overlaid file at bytes)
part_beside at from bytes part file apart held = record {
  inside = omega (arith, length-overlaid file at bytes, held.inside);
  is = slice_range-overlaid file at bytes from (from + length part) held.inside apart ∙ held.is;
}

apart_at : (from m at n k : ℕ) → AreApart from m at n → from ≤ k → k < from + m → IsApart k (k + 1) (at, n)
apart_at from m at n k (inl before) low high = inl (omega arith)
apart_at from m at n k (inr after) low high = inr (omega arith)

-- a write, in full or in part, keeps what lies apart from it
pub kept_by_write : (at n from : ℕ) (part : List ℕ) (old new : AreaState) → IsSound old → KeepsPart from part old → AreApart from (length part) at n
    → IsLoosened at n old new → KeepsPart from part new
kept_by_write at n from part old new sound keeps apart is = record {
  firm = rw is.firm keeps.firm;
  left = λ content left.
      let may = is.left content left in
      let before = left_before_write old at n content sound may in
      held_again from part (before.0) content (let firm = keeps.firm in let long = may.no_shorter in omega arith)
      (λ k low high. before.2 k (let firm = keeps.firm in omega arith) (apart_at from (length part) at n k apart low high)) (keeps.left (before.0) before.1);
}

-- ---- agreement

pub Agrees-wider : (at n at' n' : ℕ) (old new : List ℕ) → at' ≤ at → at + n ≤ at' + n' → Agrees at n old new → Agrees at' n' old new
Agrees-wider at n at' n' old new low high agrees = record {
  no_shorter = agrees.no_shorter;
  same = λ k lt out. agrees.same k lt (narrower k out);
}
  where
    narrower : (k : ℕ) → IsOutside at' n' k → IsOutside at n k
    narrower k (inl below) = inl (omega arith)
    narrower k (inr behind) = inr (omega arith)

outside_is_apart : (at n k : ℕ) → IsOutside at n k → IsApart k (k + 1) (at, n)
outside_is_apart at n k (inl below) = inl (omega arith)
outside_is_apart at n k (inr behind) = inr behind

-- what a stop leaves while a settled area is written agrees outside the write
pub loosened_agrees : (at n : ℕ) (a : AreaState) (content : List ℕ) → IsSettled a → MayLeave (loosened at n a.bytes a) content → Agrees at n a.bytes content
loosened_agrees at n a content rest may = record {
  no_shorter = rw (← rest.firm) may.no_shorter;
  same = λ k lt out. may.kept k (rw rest.firm lt) (outside_is_apart at n k out, rw rest.loose tt);
}

-- so does what a read gives after it
pub overlaid_agrees : (at : ℕ) (bytes file : List ℕ) → Agrees at (length bytes) file (overlaid file at bytes)
overlaid_agrees at bytes file = let torn = IsTorn-overlaid file at bytes in record {
  no_shorter = torn.no_shorter;
  same = λ k lt out. torn.elsewhere k lt (outside_is_apart at (length bytes) k out);
}
