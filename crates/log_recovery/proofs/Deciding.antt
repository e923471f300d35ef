-- Where the log ends: what was read of it decides whether it ends right.
use Rattle.std.proofs.Common.{◌≡◌, ◌≢◌, ℕ, ◌+◌, ◌*◌, ◌/◌, ◌<◌, ◌≤◌, ◌↔◌, max, Bool, false, List, [], ◌∷◌, ◌++◌, length, map, refl, sym, ◌∙◌, ap, subst, arith}
use Rattle.std.specs.Prelude.{flat_map, nat_lt, replicate}
use Rattle.std.specs.List.{AllByRecursion}
use Rattle.law_image.specs.Reading.{Slot}
use Rattle.law_image.specs.Log.{archive_mark, told_time, last_time_after}
use Rattle.law_log.specs.Chains.{LogChain, told, told_from, last_commit, MayAllFollow}
use Rattle.law_log.proofs.Telling.{tells-all}
use Rattle.law_layout.proofs.Lists.{all_of_front, all_of_back}
use Rattle.deltas.specs.Extents.{extent_start}
use Rattle.log_extents.specs.Chains.{count_of, IsNumberOf, IsNew}
use Rattle.law_log_layout.specs.HeapLog.{PlacedChain, PlacedAnchors, run_span, chains_told, AreSpansApart, KeepsShares}
use Rattle.law_log_sizes.specs.Sizes.{anchors_len, greatest, lens_behind}
use Rattle.log_space.specs.Uses.{IsFree, all_used}
use Rattle.log_space.proofs.Uses.{others_are_free, used_in_turn}
use Rattle.log_recovery.specs.Chains.{numbers_of, uses_of}
use Rattle.log_recovery.specs.Rules.{LogState, no_log, roll_part, state_behind, state_from, mark_of, MayAllComeBehind}
use Rattle.log_recovery.specs.Following.{Says, IsEndOf}
use Rattle.log_recovery.specs.Members.{values_of, members_of_all}
use Rattle.log_recovery.specs.Ends.{EndsRight, open_of, counted_in, AreBasesSmall, unread_log, unread_reading, IsEnd}
use Rattle.log_recovery.specs.Opening.{HoldsAnchors}
use Rattle.log_recovery.specs.declared.rules.LogEnd.{LogEnd}
use Rattle.log_recovery.proofs.Walking.{all_joined}
use Rattle.log_recovery.proofs.Sized.{follow-all, unread-share}

-- ---- what is told

told_is : (mark : ℕ) (s : LogState) (chains : List PlacedChain) → told_from mark s.told (chains_told [] chains) ≡ (state_from mark s chains).told
told_is mark s [] = refl
told_is mark s (c ∷ chains) = told_is mark (state_behind mark s c.entry) chains

last_is : (mark : ℕ) (s : LogState) (chains : List PlacedChain) → last_commit s.last (chains_told [] chains) ≡ (state_from mark s chains).last
last_is mark s [] = refl
last_is mark s (c ∷ chains) = last_is mark (state_behind mark s c.entry) chains

-- the end says whether all is archived
open_is : (chains : List PlacedChain) (end : LogEnd) → IsEndOf (mark_of chains) chains end
    → open_of (archive_mark (told (chains_told [] chains))) (told_time (told (chains_told [] chains))) ≡ open_of end.archived (max end.mark end.last)
open_is chains end is =
    let mark : ℕ = mark_of chains in
    let log : List Slot = told (chains_told [] chains) in
    let same : log ≡ (state_from mark no_log chains).told = told_is mark no_log chains in
    let archived : archive_mark log ≡ end.archived = ap archive_mark same ∙ sym is.says.archived_is in
    let so = tells-all (chains_told [] chains) (follow-all mark no_log chains is.keeps) in
    let time : told_time log ≡ max end.mark end.last =
    so.telling ∙ ap (max mark) (last_is mark no_log chains ∙ sym is.says.last_is) ∙ ap (λ (m : ℕ). max m end.last) (sym is.says.mark_is) in
    λ i. open_of (archived i) (time i)

-- ---- the extents

new_turned : (n : ℕ) (xs ys : List ℕ) → IsNew n (xs ++ ys) → IsNew n (ys ++ xs)
new_turned n xs ys new =
    all_joined (λ m. m ≢ n) ys xs (all_of_back (λ m. m ≢ n) xs ys new) (all_of_front (λ m. m ≢ n) xs ys new)

-- an extent that is free is of no live chain, and the other way round
free_is_new : (most next : ℕ) (chains : List PlacedChain) (a : PlacedAnchors) → IsNumberOf most next
    → AllByRecursion (IsNumberOf most) (numbers_of chains ++ a.numbers)
    → IsFree (all_used (uses_of most chains) a.numbers) next ↔ IsNew next (a.numbers ++ numbers_of chains)
free_is_new most next chains a number range =
    let all = used_in_turn (replicate most false) (numbers_of chains) a.numbers in
    let both = others_are_free most (numbers_of chains ++ a.numbers) next range in (
      λ free. new_turned next (numbers_of chains) a.numbers (both.0 (subst (λ (u : List Bool). IsFree u next) (sym all) free)).1,
      λ new. subst (λ (u : List Bool). IsFree u next) all (both.1 (number, new_turned next a.numbers (numbers_of chains) new)),
    )

-- ---- the end

pub end_decides : (most root : ℕ) (heap : List ℕ) (chains : List PlacedChain) (next : ℕ) (a : PlacedAnchors) (end : LogEnd) (flags : List Bool)
    (greatest_len : ℕ)
    → HoldsAnchors most root heap chains next a → IsNumberOf most next → AllByRecursion (IsNumberOf most) (numbers_of chains ++ a.numbers)
    → IsEndOf (mark_of chains) chains end → flags ≡ all_used (uses_of most chains) a.numbers
    → greatest_len ≡ greatest (anchors_len a.records) (lens_behind (anchors_len a.records) (values_of a.records) (members_of_all (mark_of chains) chains))
    → IsEnd most (length heap) next flags end chains greatest_len ↔ EndsRight most heap chains next a
end_decides most root heap chains next a end flags greatest_len holds number range is flags_are len_is =
    let mark : ℕ = mark_of chains in
    let told_same = told_is mark no_log chains in
    let free = free_is_new most next chains a number range in
    let share = unread-share most root heap chains next a holds ((3 * most) / 16) in
    let open_same = open_is chains end is in (
      λ ends. record {
        number = number;
        within = ends.seen.within;
        apart = free.0 (subst (λ (u : List Bool). IsFree u next) flags_are ends.seen.free);
        archived = subst (λ (m : ℕ). mark ≤ m) is.says.archived_is (subst (λ (m : ℕ). m ≤ end.archived) is.says.mark_is ends.seen.archived);
        spans = rw (sym is.runs_are, sym is.rolls_are) ends.seen.spans;
        shares = record {
          log = omega (arith, ends.log, open_same);
          anchors = share.1 (subst (λ (n : ℕ). count_of n ≤ (3 * most) / 16) len_is ends.anchors);
          base = ends.base;
        };
      },
      λ right. record {
        seen = record {
          within = right.within;
          free = subst (λ (u : List Bool). IsFree u next) (sym flags_are) (free.1 right.apart);
          archived = subst (λ (m : ℕ). m ≤ end.archived) (sym is.says.mark_is) (subst (λ (m : ℕ). mark ≤ m) (sym is.says.archived_is) right.archived);
          spans = rw (is.runs_are, is.rolls_are) right.spans;
        };
        log = (let log = right.shares.log in omega (arith, log, open_same));
        anchors = subst (λ (n : ℕ). count_of n ≤ (3 * most) / 16) (sym len_is) (share.0 right.shares.anchors);
        base = right.shares.base;
      },
    )
