-- What the archive and memory have of a relation, merged.
use Rattle.std.proofs.Common.{◌≡◌, ◌⊎◌, ℕ, ◌<◌, ◌≤◌, List, ◌++◌, ap, sym, ◌∙◌, subst, arith, ⊎_elim}
use Rattle.std.specs.Prelude.{Result, Ok, Err, IfOk}
use Rattle.std.specs.List.Sorted.{IsNonDecreasingBy}
use Rattle.history.specs.declared.time.Version.{Version}
use Rattle.history.specs.declared.key.Key.{Key}
use Rattle.history.specs.Key.{key_of}
use Rattle.history.specs.Versions.{versions}
use Rattle.law_image.specs.Values.{Value}
use Rattle.floors.specs.Floors.{floor_at}
use Rattle.archive.specs.declared.run.RunEntry.{RunEntry}
use Rattle.archive.specs.declared.fault.ArchiveFault.{ArchiveFault}
use Rattle.archive.specs.declared.fault.ArchiveFault.TheVariants.{Device, NoMemory, Damaged}
use Rattle.archive.specs.Answers.{rows_of}
use Rattle.archive.specs.Searches.{IsFaultIn}
use Rattle.chains.specs.KeyWrites.{IsOrdered, writes_of}
use Rattle.chains.specs.Rows.{rows_in, scanned_rows}
use Rattle.timequery.specs.Faults.{query_fault}
use Rattle.timequery.specs.declared.fault.QueryFault.{QueryFault}
use Rattle.timequery.specs.Homes.{merged, scanned_after, rows_after, recent_rows, RefusesRuns, RefusesAt, RefusesRows, Answers}
use Rattle.timequery.specs.View.{ViewValue, mark_of, IsInView}
use Rattle.timequery.proofs.Parts.{after-cut}
use Rattle.timequery.proofs.Scanned.{Row, AreInOrder, in-order, order-is, scanned-order, scanned-rows_of, after-order, after-rows_of}
use Rattle.timequery.proofs.Merging.{merged-order, merged-rows_of}

-- what the reader is refused with
pub refused-runs : (time : ℕ) (runs : List RunEntry) (why : ArchiveFault) → IsFaultIn time runs why → RefusesRuns time runs (query_fault why)
refused-runs time runs Device is = tt
refused-runs time runs NoMemory is = tt
refused-runs time runs (Damaged start) is = is

-- and so a query below the reclaim mark
pub refused-at : (v : ViewValue) (relation time : ℕ) (why : ArchiveFault) → floor_at v.floors relation ≤ time → time ≤ v.last → time < v.reclaimed
    → IsFaultIn time v.runs why → RefusesAt v relation time (query_fault why)
refused-at v relation time Device from upto below is = (from, upto, below)
refused-at v relation time NoMemory from upto below is = (from, upto)
refused-at v relation time (Damaged start) from upto below is = (from, upto, below, is)

pub refused-rows : (v : ViewValue) (relation a b : ℕ) (why : ArchiveFault) → IsInView v relation a b → a < v.reclaimed → IsFaultIn a v.runs why
    → RefusesRows v relation a b (query_fault why)
refused-rows v relation a b Device inside below is = (inside, below)
refused-rows v relation a b NoMemory inside below is = inside
refused-rows v relation a b (Damaged start) inside below is = (inside, below, is)

-- an answer that is two things is a third
pub answers-third : {T : Type 0} (result : Result T QueryFault) (P Q R : T → Type 0) → IfOk result P → Answers result Q
    → ((found : T) → P found → Q found → R found) → Answers result R
answers-third (Ok found) P Q R first second third = third found first second
answers-third (Err why) P Q R first second third = second

-- an interval that is not empty is looked for
pub read-some : {a b : ℕ} {None Some : Type 0} → a < b → ((b ≤ a) × None) ⊎ ((a < b) × Some) → Some
read-some {a} {b} {None} {Some} less either =
    ⊎_elim (λ (none : (b ≤ a) × None). let late = none.0 in absurd (omega (arith, less, late))) (λ (some : (a < b) × Some). some.1) either

-- the rows of a key that the archive and memory have
pub joined-rows : (v : ViewValue) (key : Key) (a b end : ℕ) (archived shared memory found : List (Version Value)) → shared ≡ archived
    → memory ≡ rows_in v.state a end key → found ≡ shared ++ rows_after (mark_of v.runs) a b memory
    → b ≤ end → mark_of v.runs < end → found ≡ archived ++ recent_rows v a b key
joined-rows v key a b end archived shared memory found shared_are memory_are found_are later past =
    found_are
    ∙ ap (λ (vs : List (Version Value)). vs ++ rows_after (mark_of v.runs) a b memory) shared_are
    ∙ ap (λ (vs : List (Version Value)). archived ++ rows_after (mark_of v.runs) a b vs) memory_are
    ∙ ap (λ (vs : List (Version Value)). archived ++ vs) (after-cut (mark_of v.runs) a b end (versions (writes_of v.state key)) later past)

module _ (v : ViewValue) (relation a b end : ℕ) (archived rows recent found : List Row) (ordered : IsOrdered v.state)
    (up : IsNonDecreasingBy (λ (row : Row). row.0) archived)
    (rows_are : rows ≡ scanned_rows relation a end v.state) (recent_are : recent ≡ scanned_after (mark_of v.runs) a b rows)
    (found_are : found ≡ merged archived recent) where
  mark : ℕ
  mark = mark_of v.runs

  memory : List Row
  memory = scanned_after mark a b (scanned_rows relation a end v.state)

  memory-order : AreInOrder memory
  unfolding memory mark
  memory-order = after-order (mark_of v.runs) a b (scanned_rows relation a end v.state) (scanned-order relation a end v.state ordered)

  merged-is : found ≡ merged archived memory
  unfolding memory mark
  merged-is = found_are ∙ ap (λ (qs : List Row). merged archived qs) (recent_are ∙ ap (λ (qs : List Row). scanned_after (mark_of v.runs) a b qs) rows_are)

  pub found-order : AreInOrder found
  found-order = subst AreInOrder (sym merged-is) (merged-order archived memory (in-order archived up) memory-order)

  pub found-up : IsNonDecreasingBy (λ (row : Row). row.0) found
  found-up = order-is found found-order

  pub found-rows : b ≤ end → mark_of v.runs < end → (number : ℕ) → rows_of number found ≡ rows_of number archived ++ recent_rows v a b (key_of relation number)
  unfolding memory mark
  found-rows later past number =
      let key = key_of relation number in
      ap (λ (rs : List Row). rows_of number rs) merged-is
      ∙ merged-rows_of number archived memory (in-order archived up) memory-order
      ∙ ap (λ (vs : List (Version Value)). rows_of number archived ++ vs)
      (after-rows_of (mark_of v.runs) a b number (scanned_rows relation a end v.state)
      ∙ ap (λ (vs : List (Version Value)). rows_after (mark_of v.runs) a b vs) (scanned-rows_of relation a end v.state number ordered)
      ∙ after-cut (mark_of v.runs) a b end (versions (writes_of v.state key)) later past)
