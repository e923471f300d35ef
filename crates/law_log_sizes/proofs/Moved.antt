-- The number behind a member, told by the values of its keys before and behind it.
use Rattle.std.proofs.Common.{◌≡◌, ℕ, ◌+◌, ◌-◌, true, false, List, [], ◌∷◌, Option, Some, refl, ap, sym, subst, ◌∙◌}
use Rattle.std.specs.Prelude.{unwrap_or}
use Rattle.std.specs.List.{AllByRecursion}
use Rattle.std.specs.List.Sorted.{IsStrictlySortedBy}
use Rattle.history.specs.declared.key.Key.{Key}
use Rattle.history.specs.declared.key.KeyWrite.{KeyWrite}
use Rattle.history.specs.Key.{key_cmp, same_key, write_in}
use Rattle.history.specs.Queries.{values_after}
use Rattle.history.specs.Histories.{Commit}
use Rattle.law_image.specs.Values.{Value}
use Rattle.law_image.specs.Reading.{Member}
use Rattle.law_image.specs.Facts.{commit_read}
use Rattle.law_log_sizes.specs.Sizes.{old_len, len_behind, len_moved, AreCounted, AreMovable, HasRisingKeys}
use Rattle.law_log_sizes.specs.Laws.{IsMoved}
use Rattle.law_log_sizes.proofs.Putting.{AreAbove, same-itself}
use Rattle.law_log_sizes.proofs.Commits.{keys_written, less-differs}
use Rattle.law_log_sizes.proofs.Walking.{written-keys, rising-written}

-- each of these writes is what the others do to its key
abbrev AreOwn : List (KeyWrite Value) → List (KeyWrite Value) → Type 0
AreOwn all ws = AllByRecursion (λ (w : KeyWrite Value). write_in all w.key ≡ Some w.write) ws

-- also with an earlier key in front
own-behind : (w : KeyWrite Value) (all ws : List (KeyWrite Value)) → AreAbove w.key (keys_written ws) → AreOwn all ws → AreOwn (w ∷ all) ws
own-behind w all [] above own = tt
own-behind w all (v ∷ ws) above own =
    let other : same_key w.key v.key ≡ false = less-differs w.key v.key above.0 in
    (rw other own.0, own-behind w all ws above.1 own.1)

own-writes : (ws : List (KeyWrite Value)) → IsStrictlySortedBy key_cmp (keys_written ws) → AreOwn ws ws
unfolding IsStrictlySortedBy
own-writes [] rising = tt
own-writes (w ∷ ws) rising =
    let same : same_key w.key w.key ≡ true = same-itself w.key in
    (rw same refl, own-behind w ws ws rising.0 (own-writes ws rising.1))

module _ (before : Key → Option Value) (c : Commit Value) where
  left : (w : KeyWrite Value) → write_in c.writes w.key ≡ Some w.write → old_len w.write ≡ old_len (values_after before c w.key)
  left w own = sym (ap (λ o. old_len (unwrap_or o (before w.key))) own)

  moved-len : (len : ℕ) (ws : List (KeyWrite Value)) → AreOwn c.writes ws
      → len_behind len before ws ≡ len_moved len before (values_after before c) (keys_written ws)
  moved-len len [] own = refl
  moved-len len (w ∷ ws) own =
      ap (λ (n : ℕ). len_behind ((len - old_len (before w.key)) + n) before ws) (left w own.0)
      ∙ moved-len ((len - old_len (before w.key)) + old_len (values_after before c w.key)) ws own.1

  moved-counted : (len : ℕ) (ws : List (KeyWrite Value)) → AreOwn c.writes ws → AreCounted len before ws
      → AreMovable len before (values_after before c) (keys_written ws)
  moved-counted len [] own counted = tt
  moved-counted len (w ∷ ws) own counted = (
    counted.0,
    moved-counted ((len - old_len (before w.key)) + old_len (values_after before c w.key)) ws own.1
        (subst (λ (n : ℕ). AreCounted ((len - old_len (before w.key)) + n) before ws) (left w own.0) counted.1),
  )

pub member-moved : (len : ℕ) (before : Key → Option Value) (m : Member) → HasRisingKeys m
    → IsMoved len before (values_after before (commit_read before m)) m
member-moved len before m rising =
    let c = commit_read before m in
    let after = values_after before c in
    let own = own-writes c.writes (rising-written before m rising) in
    let keys = written-keys before m.records in
    record {
      len_is = moved-len before c len c.writes own ∙ ap (len_moved len before after) keys;
      counted = λ counted. subst (AreMovable len before after) keys (moved-counted before c len c.writes own counted);
    }
