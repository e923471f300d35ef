-- The records of anchors, told from their bytes.
use Rattle.std.proofs.Common.{◌≡◌, ℕ, ◌^◌, ◌<◌, ◌≤◌, Bool, List, [], ◌∷◌, ◌++◌, length, map, refl, sym, ◌∙◌, ap, subst, arith}
use Rattle.std.specs.Prelude.{flat_map}
use Rattle.std.specs.List.{AllByRecursion}
use Rattle.std.proofs.lemmas.List.{append-nil}
use Rattle.deltas.specs.declared.«record».Record.{Record}
use Rattle.deltas.specs.declared.chain.Kinds.TheVariants.{OfAnchors}
use Rattle.deltas.specs.Records.{spelling, IsRecord}
use Rattle.deltas.specs.Chains.{IsPermitted, AreRecordsOf}
use Rattle.deltas.specs.Reading.{record_at, behind_record}
use Rattle.deltas.proofs.RecordsRead.{record_again}
use Rattle.log_entries.specs.Items.{HasFewer}
use Rattle.log_entries.proofs.Lists.{IsCode, counted_list}
use Rattle.log_recovery.specs.Anchored.{IsAnchorRecord, AreAnchorsIn, HasNoAnchorsIn}

pub anchor_code : (mark : ℕ) → IsCode spelling (IsAnchorRecord mark)
anchor_code mark a b r s is_a is_b same =
    let first = record_again a r is_a.0 in
    let second = record_again b s is_b.0 in
    (sym first.is ∙ ap record_at same ∙ second.is, sym first.behind ∙ ap behind_record same ∙ second.behind)

-- records in their range, of the kind that anchors have
pub all_anchors : (mark : ℕ) (records : List Record) → AreRecordsOf (OfAnchors mark) records → AllByRecursion (IsAnchorRecord mark) records
all_anchors mark records are = both records are.each are.permitted
  where
    both : (rs : List Record) → AllByRecursion IsRecord rs → AllByRecursion (λ r. IsPermitted (OfAnchors mark) r.content) rs
        → AllByRecursion (IsAnchorRecord mark) rs
    both [] each permitted = tt
    both (r ∷ rs) each permitted = ((each.0, permitted.0), both rs each.1 permitted.1)

pub each_anchor : (mark : ℕ) (records : List Record) → AllByRecursion (IsAnchorRecord mark) records → AllByRecursion IsRecord records
each_anchor mark [] are = tt
each_anchor mark (r ∷ rs) are = (are.0.0, each_anchor mark rs are.1)

pub each_permitted : (mark : ℕ) (records : List Record) → AllByRecursion (IsAnchorRecord mark) records
    → AllByRecursion (λ r. IsPermitted (OfAnchors mark) r.content) records
each_permitted mark [] are = tt
each_permitted mark (r ∷ rs) are = (are.0.1, each_permitted mark rs are.1)

-- fewer than so many records are no anchors
pub none_in : (mark count : ℕ) (bytes : List ℕ) → HasFewer spelling (IsAnchorRecord mark) count bytes → HasNoAnchorsIn mark count bytes
none_in mark count bytes fewer = λ records are.
    fewer records [] (all_anchors mark records are.are) are.count_is (are.bytes_are ∙ sym (append-nil (flat_map spelling records)))

-- so many records that stand at the front are those of all that say the same
pub same_anchors : (mark count : ℕ) (bytes rest : List ℕ) (found records : List Record) → AllByRecursion (IsAnchorRecord mark) found → length found ≡ count
    → bytes ≡ flat_map spelling found ++ rest → AreAnchorsIn mark count bytes records → (found ≡ records) × (rest ≡ [])
same_anchors mark count bytes rest found records each count_is bytes_are are =
    counted_list spelling (IsAnchorRecord mark) (anchor_code mark) found records rest [] each (all_anchors mark records are.are)
    (count_is ∙ sym are.count_is) (sym bytes_are ∙ are.bytes_are ∙ sym (append-nil (flat_map spelling records)))
