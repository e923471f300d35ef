-- The laws, told of bytes.
use Rattle.std.proofs.Common.{◌≡◌, ℕ, ◌<◌, ◌≤◌, ◌^◌, List, ◌∷◌, ◌++◌, Option, ap, sym, subst, ◌∙◌, arith, ◌↔◌}
use Rattle.std.specs.List.{AllByRecursion}
use Rattle.history.specs.declared.key.Key.{Key}
use Rattle.law_image.specs.Values.{Value}
use Rattle.law_image.specs.Reading.{Member, OldRecord, Reading}
use Rattle.law_image.specs.Facts.{values_at_mark, values_now}
use Rattle.law_image.specs.Plans.{with_group}
use Rattle.log_extents.specs.Chains.{count_of}
use Rattle.law_log_layout.specs.HeapLog.{AreAnchorsAt}
use Rattle.law_log_sizes.specs.Sizes.{len_from, len_upto, lens_behind, greatest, AreAllCounted, IsOrdered, anchors_len, sizes, size_at}
use Rattle.law_log_sizes.specs.Sizes.{size_most, size_now, HasAnchors}
use Rattle.law_log_sizes.specs.Laws.{GrowsBy}
use Rattle.law_log_sizes.proofs.Putting.{olds_len}
use Rattle.law_log_sizes.proofs.Sizes.{rises, walked, some-anchors, only-anchors, one-len, all-states, counted, lens-append, from-append}
use Rattle.law_log_sizes.proofs.Sizes.{greatest-append, greatest-within, all-within, counted-append, left-now}
use Rattle.law_log_sizes.proofs.Bytes.{bytes-len}

module _ (mark : ℕ) (reading : Reading) (ordered : IsOrdered mark reading) where
  pub state-size : (time : ℕ) (olds : List OldRecord) → mark ≤ time → time < 2 ^ 63 → AreAnchorsAt time reading olds → anchors_len olds ≡ size_at time reading
  state-size time olds le lt are =
      bytes-len olds
      ∙ one-len mark reading ordered time olds le lt are
      ∙ ap (λ (n : ℕ). len_upto time n (values_at_mark reading) reading.members) (sym (bytes-len reading.anchors))

  pub state-anchors : (time : ℕ) → mark ≤ time → time < 2 ^ 63 → HasAnchors time reading (size_at time reading)
  state-anchors time le lt =
      let are = some-anchors mark reading ordered time le lt in
      record {
        list = (walked mark reading ordered time).list;
        are = are;
        only = λ olds others. only-anchors mark reading ordered time olds le lt others;
        len_is = state-size time (walked mark reading ordered time).list le lt are;
      }

  pub bounds-same : (bound : ℕ) → ((time : ℕ) (olds : List OldRecord) → mark ≤ time → AreAnchorsAt time reading olds → count_of (anchors_len olds) ≤ bound)
      ↔ AllByRecursion (λ n. count_of n ≤ bound) (sizes reading)
  bounds-same bound =
      let P : ℕ → Type 0 = λ n. count_of n ≤ bound in
      let both = all-states mark reading ordered P (omega arith) in
      let start : anchors_len reading.anchors ≡ olds_len reading.anchors = bytes-len reading.anchors in
      let numbers : ℕ → List ℕ = λ n. n ∷ lens_behind n (values_at_mark reading) reading.members in (
        λ each. subst (λ (n : ℕ). AllByRecursion P (numbers n)) (sym start)
            (both.0 (λ time olds le are. subst P (bytes-len olds) (each time olds le are))),
        λ all time olds le are. subst P (sym (bytes-len olds)) (both.1 (subst (λ (n : ℕ). AllByRecursion P (numbers n)) start all) time olds le are),
      )

  pub most-bound : (bound : ℕ) → ((time : ℕ) (olds : List OldRecord) → mark ≤ time → AreAnchorsAt time reading olds → count_of (anchors_len olds) ≤ bound)
      ↔ (count_of (size_most reading) ≤ bound)
  most-bound bound =
      let n = anchors_len reading.anchors in
      let ns = lens_behind n (values_at_mark reading) reading.members in
      let both = bounds-same bound in (
        λ each. greatest-within bound n ns (both.0 each),
        λ within. both.1 (all-within bound n ns within),
      )

  pub group-grows : (group : List Member) → GrowsBy reading group
  group-grows group =
      let n = anchors_len reading.anchors in
      let f = values_at_mark reading in
      let up = rises mark reading ordered in
      let lens : lens_behind n f (reading.members ++ group) ≡ lens_behind n f reading.members ++ lens_behind (size_now reading) (values_now reading) group =
      lens-append mark n f reading.members group up
      ∙ ap (λ (v : Key → Option Value). lens_behind n f reading.members ++ lens_behind (size_now reading) v group) (left-now reading) in
      record {
        sizes_are = ap (λ l. n ∷ l) lens;
        last_is =
            from-append mark n f reading.members group up ∙ ap (λ (v : Key → Option Value). len_from (size_now reading) v group) (left-now reading);
        most_is = ap (greatest n) lens ∙ greatest-append n (lens_behind n f reading.members) (lens_behind (size_now reading) (values_now reading) group);
      }

  pub sizes-counted : AreAllCounted (anchors_len reading.anchors) (values_at_mark reading) reading.members
  sizes-counted =
      subst (λ (n : ℕ). AreAllCounted n (values_at_mark reading) reading.members) (sym (bytes-len reading.anchors)) (counted mark reading ordered)

pub group-counted : (mark : ℕ) (reading : Reading) (group : List Member) → IsOrdered mark reading → IsOrdered mark (with_group reading group)
    → AreAllCounted (size_now reading) (values_now reading) group
group-counted mark reading group ordered more =
    let n = anchors_len reading.anchors in
    let f = values_at_mark reading in
    subst (λ (v : Key → Option Value). AreAllCounted (size_now reading) v group) (left-now reading)
    (counted-append mark n f reading.members group (rises mark reading ordered) (sizes-counted mark (with_group reading group) more))
