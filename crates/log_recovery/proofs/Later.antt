-- The members of a log rise, where its chains keep the rules.
use Rattle.std.proofs.Common.{◌≡◌, ℕ, ◌^◌, ◌<◌, ◌≤◌, ◌⊎◌, inl, inr, true, false, max, List, [], ◌∷◌, ◌++◌, length, map, refl, sym, ◌∙◌, ap, subst, arith}
use Rattle.std.specs.Prelude.{filter, flat_map, nat_lt}
use Rattle.std.specs.List.{AllByRecursion}
use Rattle.std.proofs.lemmas.Bool.{cases_lt}
use Rattle.std.proofs.lemmas.Bool.Decides.{nat_tests}
use Rattle.std.proofs.lemmas.List.{map-append}
use Rattle.history.proofs.Orders.{is_lt, not_lt}
use Rattle.law_image.specs.Reading.{Head, Member}
use Rattle.law_image.specs.Log.{AreRisingAfter, last_time_after}
use Rattle.law_log.specs.Chains.{LogChain, OfBase, OfGroup, OfRun, OfFloor, members_in, commits_in, heads_in}
use Rattle.log_entries.specs.declared.entry.Entry.{Entry}
use Rattle.log_entries.specs.declared.entry.Entry.TheVariants.{Group, Archived, Floor}
use Rattle.log_entries.specs.declared.entry.Entry.TheVariants as entries
use Rattle.law_log_layout.specs.HeapLog.{PlacedChain, chain_told, member_told}
use Rattle.log_recovery.specs.Rules.{LogState, MayComeBehind, state_behind, MayAllComeBehind}
use Rattle.log_recovery.specs.Members.{heads_told, later_than, later_in, members_later, members_of_all}
use Rattle.log_recovery.proofs.Facts.{rising_more, last_more}

-- what is later than the mark rises after the mark and the time before it
pub record RisesLater (mark t : ℕ) (ms : List Member) : Type 0 where
  pub rising : AreRisingAfter (max mark t) (heads_told (later_than mark ms))
  pub last_is : last_time_after (max mark t) (heads_told (later_than mark ms)) ≡ max mark (last_time_after t (heads_told ms))

max_later : (mark t u : ℕ) → t < u → u ≤ mark → max mark t ≡ max mark u
max_later mark t u lt le = grind (arith, nat_tests, lt, le)

max_behind : (mark u : ℕ) → mark < u → max mark u ≡ u
max_behind mark u lt = grind (arith, nat_tests, lt)

pub later_rises : (mark t : ℕ) (ms : List Member) → AreRisingAfter t (heads_told ms) → RisesLater mark t ms
later_rises mark t [] rising = record { rising = tt; last_is = refl }
later_rises mark t (m ∷ ms) rising = elim (cases_lt mark m.head.time) [
  | inl late ↦
      let rest : RisesLater mark m.head.time ms = later_rises mark m.head.time ms rising.2 in
      let same : max mark m.head.time ≡ m.head.time = max_behind mark m.head.time late in
      let kept : later_than mark (m ∷ ms) ≡ m ∷ later_than mark ms = rw (is_lt late) refl in
      record {
        rising = rw kept (
          grind (arith, nat_tests, late, rising.0),
          rising.1,
          subst (λ (n : ℕ). AreRisingAfter n (heads_told (later_than mark ms))) same rest.rising,
        );
        last_is = ap (λ (l : List Member). last_time_after (max mark t) (heads_told l)) kept
            ∙ ap (λ (n : ℕ). last_time_after n (heads_told (later_than mark ms))) (sym same) ∙ rest.last_is;
      }
  | inr early ↦
      let rest : RisesLater mark m.head.time ms = later_rises mark m.head.time ms rising.2 in
      let same : max mark t ≡ max mark m.head.time = max_later mark t m.head.time rising.0 early in
      let left : later_than mark (m ∷ ms) ≡ later_than mark ms = rw (not_lt early) refl in
      record {
        rising = rw (left, same) rest.rising;
        last_is = ap (λ (l : List Member). last_time_after (max mark t) (heads_told l)) left
            ∙ ap (λ (n : ℕ). last_time_after n (heads_told (later_than mark ms))) same ∙ rest.last_is;
      }
]

-- so it is of the members of a chain that may come behind others
entry_rises : (mark : ℕ) (s : LogState) (e : Entry) → MayComeBehind mark s e → RisesLater mark s.last (members_in (chain_told [] e))
entry_rises mark s (Group members) may = later_rises mark s.last (map member_told members) may.rule.2
entry_rises mark s (Archived archive) may = record { rising = tt; last_is = refl }
entry_rises mark s (Floor floor) may = record { rising = tt; last_is = refl }
entry_rises mark s (entries.Base base) may = record { rising = tt; last_is = refl }

last_behind : (mark : ℕ) (s : LogState) (e : Entry) → last_time_after s.last (heads_told (members_in (chain_told [] e))) ≡ (state_behind mark s e).last
last_behind mark s (Group members) = refl
last_behind mark s (Archived archive) = refl
last_behind mark s (Floor floor) = refl
last_behind mark s (entries.Base base) = refl

-- and of those of all chains
pub members_rise : (mark : ℕ) (s : LogState) (chains : List PlacedChain) → MayAllComeBehind mark s chains
    → AreRisingAfter (max mark s.last) (heads_told (members_of_all mark chains))
members_rise mark s [] may = tt
members_rise mark s (c ∷ chains) may =
    let now : RisesLater mark s.last (members_in (chain_told [] c.entry)) = entry_rises mark s c.entry may.0 in
    let rest = members_rise mark (state_behind mark s c.entry) chains may.1 in
    rw (map-append (λ (m : Member). m.head) (members_later mark c) (members_of_all mark chains))
    (rising_more (max mark s.last) (heads_told (members_later mark c)) (heads_told (members_of_all mark chains)) now.rising
    (subst (λ (n : ℕ). AreRisingAfter n (heads_told (members_of_all mark chains)))
    (sym (now.last_is ∙ ap (max mark) (last_behind mark s c.entry))) rest))
