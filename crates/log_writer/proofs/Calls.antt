-- The calls of a chain in the writing.
use Rattle.std.proofs.Common.{◌≡◌, ℕ, ◌+◌, ◌<◌, ◌≤◌, zero, suc, List, [], ◌∷◌, ◌++◌, map, length, take, drop, refl, sym, ap, subst, ◌∙◌, arith, Result}
use Rattle.std.proofs.lemmas.List.{nil_from_length, length-drop}
use Rattle.deltas.specs.Extents.{extent_start}
use Rattle.disk.specs.Areas.{Areas}
use Rattle.disk.specs.Calls.{Writes}
use Rattle.disk.specs.declared.area.Area.TheVariants.{Heap}
use Rattle.disk.specs.declared.area.DeviceFault.{DeviceFault}
use Rattle.log_extents.specs.Chains.{chain_to, chain_of}
use Rattle.log_writer.specs.Turns.{Part, open_gate, written_parts, extent_part, Stage, Writing, Syncing, IsCallOf, stage_after}
use Rattle.log_writer.specs.Writer.{WriterState, turn, stage_of, did}
use Rattle.log_writer.specs.declared.writer.Step.{Step}
use Rattle.log_writer.specs.declared.writer.Step.TheVariants as step
use Rattle.log_writer.specs.declared.writer.Wrote.TheVariants as wrote

-- ---- how many parts there are

parts-many : (link : ℕ) (numbers content : List ℕ) → length (written_parts (chain_of open_gate link numbers content)) ≡ length numbers
parts-many link [] content = refl
parts-many link (n ∷ ns) content = ap (λ (k : ℕ). suc k) (others-many ns (drop 8168 content))
  where
    others-many : (numbers content : List ℕ) → length (map extent_part (chain_to 0 0 0 numbers content)) ≡ length numbers
    others-many [] content = refl
    others-many (n ∷ ns) content = ap (λ (k : ℕ). suc k) (others-many ns (drop 8168 content))

-- ---- the stage of a writer that is at a step

pub stage-is : (v w : WriterState) (s : Step) → v.stage ≡ stage_of (turn v).parts s → v ≡ w → stage_of (turn w).parts s ≡ w.stage
stage-is v w s at same = subst (λ (x : WriterState). stage_of (turn x).parts s ≡ x.stage) same (sym at)

-- ---- a part that is to be written

no-part : Part
no-part = record { place = 0; bytes = [] }

pub record IsNext (parts : List Part) (written : ℕ) : Type 0 where
  pub part : Part
  pub rest : List Part
  pub are : drop written parts ≡ part ∷ rest
  pub behind : drop (written + 1) parts ≡ rest
  pub front : take (written + 1) parts ≡ take written parts ++ part ∷ []

next-of : (parts : List Part) (written : ℕ) → written < length parts → IsNext parts written
next-of [] written lt = absurd (omega (arith, lt))
next-of (p ∷ ps) zero lt = record { part = p; rest = ps; are = refl; behind = refl; front = refl }
next-of (p ∷ ps) (suc k) lt =
    let n = next-of ps k (omega (arith, lt)) in
    let more : suc k + 1 ≡ suc (k + 1) = omega arith in
    record {
      part = n.part;
      rest = n.rest;
      are = n.are;
      behind = ap (λ (i : ℕ). drop i (p ∷ ps)) more ∙ n.behind;
      front = ap (λ (i : ℕ). take i (p ∷ ps)) more ∙ ap (λ (l : List Part). p ∷ l) n.front;
    }

pub next-part : (w : WriterState) (written : ℕ) → written < length w.numbers → IsNext (turn w).parts written
next-part w written lt = next-of (turn w).parts written (omega (arith, parts-many w.link w.numbers w.content, lt))

pub call-more : (w : WriterState) (written : ℕ) (next : IsNext (turn w).parts written) (answer : Result (Unit {0}) DeviceFault) (old new : Areas)
    → stage_of (turn w).parts (step.Writing written) ≡ w.stage
    → ((p : Part) (rest : List Part) → drop written (turn w).parts ≡ p ∷ rest → Writes Heap p.place p.bytes answer old new)
    → IsCallOf (turn w) w.stage answer old new
call-more w written next answer old new at call =
    subst (λ (s : Stage). IsCallOf (turn w) s answer old new) at
    (subst (λ (l : List Part). IsCallOf (turn w) (Writing (take written (turn w).parts) l) answer old new) (sym next.are) (call next.part next.rest next.are))

pub leads-more : (w : WriterState) (written : ℕ) (next : IsNext (turn w).parts written) → stage_of (turn w).parts (step.Writing written) ≡ w.stage
    → (stage_of (turn w).parts (step.Writing (written + 1)) ≡ stage_after w.stage) × (wrote.Extent ≡ did w.stage)
leads-more w written next at =
    let is : Writing (take written (turn w).parts) (next.part ∷ next.rest) ≡ w.stage = ap (Writing (take written (turn w).parts)) (sym next.are) ∙ at in (
      (λ i. Writing (next.front i) (next.behind i)) ∙ ap stage_after is,
      ap did is,
    )

-- ---- all parts are written

all-written : (w : WriterState) (written : ℕ) → length w.numbers ≤ written → stage_of (turn w).parts (step.Writing written) ≡ w.stage
    → Writing (take written (turn w).parts) [] ≡ w.stage
all-written w written le at =
    let none : drop written (turn w).parts ≡ [] =
    nil_from_length (drop written (turn w).parts) (omega (arith, length-drop written (turn w).parts, parts-many w.link w.numbers w.content, le)) in
    ap (Writing (take written (turn w).parts)) (sym none) ∙ at

pub call-last : (v w : WriterState) (written : ℕ) (answer : Result (Unit {0}) DeviceFault) (old new : Areas) → length w.numbers ≤ written
    → stage_of (turn w).parts (step.Writing written) ≡ w.stage
    → v ≡ w → Writes Heap (extent_start v.link) (0 ∷ []) answer old new → IsCallOf (turn w) w.stage answer old new
call-last v w written answer old new le at same call =
    subst (λ (s : Stage). IsCallOf (turn w) s answer old new) (all-written w written le at)
    (subst (λ (x : WriterState). Writes Heap (extent_start x.link) (0 ∷ []) answer old new) same call)

pub leads-last : (w : WriterState) (written : ℕ) → length w.numbers ≤ written → stage_of (turn w).parts (step.Writing written) ≡ w.stage
    → (Syncing ≡ stage_after w.stage) × (wrote.ClosedGate ≡ did w.stage)
leads-last w written le at = (ap stage_after (all-written w written le at), ap did (all-written w written le at))
