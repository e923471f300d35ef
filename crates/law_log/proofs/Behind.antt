-- A group that comes behind the log.
use Rattle.std.proofs.Common.{◌≡◌, ℕ, ◌+◌, ◌<◌, ◌≤◌, max, nat_lt, true, List, [], ◌∷◌, ◌++◌, map, length, refl, ap, sym, subst, ◌∙◌, arith, append_assoc}
use Rattle.std.specs.Prelude.{filter, flat_map}
use Rattle.std.proofs.Math.Nat.{le-max_left, le-max_right}
use Rattle.std.proofs.lemmas.List.{append-nil}
use Rattle.std.proofs.lemmas.List.Elements.{filter-append}
use Rattle.std.proofs.lemmas.Grind.{flat_map-append}
use Rattle.history.proofs.Orders.{is_lt}
use Rattle.law_image.specs.Reading.{Head, Slot, Commits, Member}
use Rattle.law_image.specs.Log.{last_time_after, last_time, archive_mark_after, archive_mark, reclaim_mark, told_time, AreRisingAfter}
use Rattle.law_image.proofs.GroupStep.{length-map}
use Rattle.law_image.proofs.Logs.{archive_mark-append, told-is_last}
use Rattle.law_log.specs.Chains.{LogChain, OfBase, OfGroup, OfRun, OfFloor, commits_slot, later_heads, heads_in, told_behind, told_from, told, reclaimed_by}
use Rattle.law_log.specs.Chains.{commits_in, last_commit, MayFollow, MayAllFollow, KeepsChainRules, members_in, members_of, IsWithGroup}
use Rattle.law_log.proofs.Telling.{tells-all, commits-marks, last-rises}
use Rattle.law_log.proofs.Based.{told-split, last-above, rising-lower}

reclaimed-same : (chains : List LogChain) (members : List Member) → reclaimed_by (chains ++ OfGroup members ∷ []) ≡ reclaimed_by chains
reclaimed-same [] members = refl
reclaimed-same (OfBase b ∷ chains) members = refl
reclaimed-same (OfGroup ms ∷ chains) members = refl
reclaimed-same (OfRun upto runs ∷ chains) members = refl
reclaimed-same (OfFloor f ∷ chains) members = refl

all-later : (mark t : ℕ) (heads : List Head) → mark ≤ t → AreRisingAfter t heads → later_heads mark heads ≡ heads
all-later mark t [] le up = refl
all-later mark t (head ∷ heads) le up = let late : nat_lt mark head.time ≡ true =
    is_lt (omega (arith, le, up.0)) in rw late (ap (λ l. head ∷ l) (all-later mark head.time heads (omega (arith, le, up.0)) up.2))

all-kept : (mark t : ℕ) (members : List Member) → mark ≤ t → AreRisingAfter t (heads_in members) → filter (λ (m : Member). nat_lt mark m.head.time) members
    ≡ members
all-kept mark t [] le up = refl
all-kept mark t (m ∷ ms) le up = let late : nat_lt mark m.head.time ≡ true =
    is_lt (omega (arith, le, up.0)) in rw late (ap (λ l. m ∷ l) (all-kept mark m.head.time ms (omega (arith, le, up.0)) up.2))

may-more : (mark last : ℕ) (before : List Slot) (chains : List LogChain) (members : List Member) → MayAllFollow mark last before chains
    → MayFollow mark (last_commit last chains) (told_from mark before chains) (OfGroup members) → MayAllFollow mark last before (chains ++ OfGroup members ∷ [])
may-more mark last before [] members may next = (next, tt)
may-more mark last before (chain ∷ chains) members may next =
    (may.0, may-more mark (last_time_after last (commits_in chain)) (told_behind mark before chain) chains members may.1 next)

some-slot : (heads : List Head) → 0 < length heads → commits_slot heads ≡ Commits heads ∷ []
some-slot [] some = absurd (omega (arith, some))
some-slot (head ∷ heads) some = refl

pub comes-behind : (chains : List LogChain) (members : List Member) → KeepsChainRules chains → reclaimed_by chains ≤ last_time (told chains)
    → 0 < length members → length members ≤ 1024 → AreRisingAfter (last_time (told chains)) (heads_in members)
    → IsWithGroup chains members
comes-behind chains members rules le some few up =
    let mark = reclaimed_by chains in
    let last = last_commit 0 chains in
    let so = tells-all chains rules.each in
    let same = reclaimed-same chains members in
    let many : 0 < length (heads_in members) = omega (arith, some, length-map (λ (m : Member). m.head) members) in
    let time : max mark last ≡ last_time (told chains) =
    sym so.telling ∙ told-is_last (last_time (told chains)) (reclaim_mark (told chains)) (omega (arith, so.reclaimed, le)) in
    let early : last ≤ last_time (told chains) = omega (arith, le-max_right mark last, time) in
    let rising : AreRisingAfter last (heads_in members) = rising-lower last (last_time (told chains)) (heads_in members) early up in
    let above : last_time (told chains) < last_time_after (last_time (told chains)) (heads_in members) =
    last-above (last_time (told chains)) (heads_in members) many up in
    let ends : last_time_after last (heads_in members) ≡ last_time_after (last_time (told chains)) (heads_in members) =
    one-end last (last_time (told chains)) (heads_in members) many in
    let follows : MayFollow mark last (told chains) (OfGroup members) = (some, few, rising, omega (arith, le, above, ends)) in
    let all : MayAllFollow mark 0 [] (chains ++ OfGroup members ∷ []) = may-more mark 0 [] chains members rules.each follows in
    let heads : later_heads mark (heads_in members) ≡ heads_in members = all-later mark (last_time (told chains)) (heads_in members) le up in
    let tells : told (chains ++ OfGroup members ∷ []) ≡ told chains ++ Commits (heads_in members) ∷ [] =
    ap (λ (r : ℕ). told_from r [] (chains ++ OfGroup members ∷ [])) same
    ∙ told-split mark [] chains (OfGroup members ∷ [])
    ∙ ap (λ (l : List Head). told chains ++ commits_slot l) heads
    ∙ ap (λ (l : List Slot). told chains ++ l) (some-slot (heads_in members) many) in
    record {
      rules = record {
        each = subst (λ (r : ℕ). MayAllFollow r 0 [] (chains ++ OfGroup members ∷ [])) (sym same) all;
        archived = omega (arith, same, rules.archived, ap archive_mark tells, archive_mark-append 0 (told chains) (Commits (heads_in members) ∷ []));
      };
      tells = tells;
      has =
          ap (λ (r : ℕ). filter (λ (m : Member). nat_lt r m.head.time) (flat_map members_in (chains ++ OfGroup members ∷ []))) same
          ∙ ap (filter (λ (m : Member). nat_lt mark m.head.time)) (flat_map-append members_in chains (OfGroup members ∷ [])
          ∙ ap (λ l. flat_map members_in chains ++ l) (append-nil members))
          ∙ filter-append (λ (m : Member). nat_lt mark m.head.time) (flat_map members_in chains) members
          ∙ ap (λ l. members_of chains ++ l) (all-kept mark (last_time (told chains)) members le up);
    }
  where
    one-end : (s t : ℕ) (heads : List Head) → 0 < length heads → last_time_after s heads ≡ last_time_after t heads
    one-end s t [] some = absurd (omega (arith, some))
    one-end s t (head ∷ heads) some = refl
