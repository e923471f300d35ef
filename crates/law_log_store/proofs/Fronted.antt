-- The front of the log as a reclaim reads it off the chains in memory, also where a group is on its way behind the log.
use Rattle.std.proofs.Common.{◌≡◌, ℕ, zero, suc, ◌<◌, ◌≤◌, Bool, true, false, cond, List, [], ◌∷◌, ◌++◌, length, map, take, drop, refl}
use Rattle.std.proofs.Common.{arith, ap, sym}
use Rattle.std.proofs.Common.{◌∙◌, append-nil}
use Rattle.std.proofs.lemmas.Grind.{flat_map-append}
use Rattle.std.proofs.lemmas.List.Concat.{flat_map-cons}
use Rattle.history.proofs.Orders.{is_lt}
use Rattle.log_entries.specs.declared.entry.Entry.{Entry}
use Rattle.log_entries.specs.declared.entry.Entry.TheVariants.{Group, Archived, Floor}
use Rattle.log_entries.specs.declared.entry.Entry.TheVariants as entries
use Rattle.log_extents.specs.Chains.{first_or}
use Rattle.log_base.specs.Bases.{front_len, is_later, mark_at, mark_of}
use Rattle.log_recovery.specs.Live.{LiveChainValue, live_of, part_of}
use Rattle.log_recovery.specs.Read.{all_archives, archives_named}
use Rattle.log_recovery.specs.declared.live.LivePart.TheVariants.{Commits}
use Rattle.law_log_layout.specs.HeapLog.{AreChained, PlacedChain}
use Rattle.log_store.specs.Reclaims.{archives_at, archives_in, head_or}
use Rattle.law_log_store.proofs.Queues.{drop-more, take-more}

-- ---- what is behind the log

-- a group whose last commit is later than the mark, and which begins where the log ends
pub record IsLateGroup (mark next : ℕ) (c : LiveChainValue) : Type 0 where
  pub time : ℕ
  pub part : c.part ≡ Commits time
  pub later : mark < time
  pub head : first_or 0 c.numbers ≡ next

-- nothing, or such a group
abbrev pub IsBehindLog : ℕ → ℕ → List LiveChainValue → Type 0
IsBehindLog mark next [] = Unit {0}
IsBehindLog mark next (c ∷ []) = IsLateGroup mark next c
IsBehindLog mark next (c ∷ d ∷ cs) = ⊥

-- ---- the front

-- it is no longer than the log
pub front-within : (mark : ℕ) (xs : List LiveChainValue) → front_len mark xs ≤ length xs
front-within mark [] = omega arith
front-within mark (c ∷ cs) = by-test (is_later mark c.part) (front-within mark cs)
  where
    by-test : (b : Bool) → front_len mark cs ≤ length cs → cond b zero (suc (front_len mark cs)) ≤ suc (length cs)
    by-test true rest = omega arith
    by-test false rest = omega (arith, rest)

-- what is behind does not count
front-same : (mark next : ℕ) (xs extra : List LiveChainValue) → IsBehindLog mark next extra → front_len mark (xs ++ extra) ≡ front_len mark xs
front-same mark next [] [] is = refl
front-same mark next [] (c ∷ []) is =
    ap (λ (b : Bool). cond b zero (suc zero)) (ap (is_later mark) is.part ∙ is_lt is.later)
front-same mark next [] (c ∷ d ∷ cs) is = absurd is
front-same mark next (c ∷ cs) extra is = ap (λ (n : ℕ). cond (is_later mark c.part) zero (suc n)) (front-same mark next cs extra is)

-- the head of these chains, or where the log ends
abbrev pub first-of : ℕ → List PlacedChain → ℕ
first-of next [] = next
first-of next (c ∷ cs) = first_or 0 c.numbers

module _ (mark next : ℕ) (chains : List PlacedChain) (extra live : List LiveChainValue) (are : live ≡ map live_of chains ++ extra)
    (behind : IsBehindLog mark next extra) where
  abbrev count : ℕ
  count = front_len mark (map live_of chains)

  pub count-is : front_len mark live ≡ count
  count-is = ap (front_len mark) are ∙ front-same mark next (map live_of chains) extra behind

  pub front-are : take (front_len mark live) live ≡ take count (map live_of chains)
  front-are =
      (λ i. take (count-is i) (are i)) ∙ take-more count (map live_of chains) extra (front-within mark (map live_of chains))

  drop-map : (n : ℕ) (cs : List PlacedChain) → drop n (map live_of cs) ≡ map live_of (drop n cs)
  drop-map zero cs = refl
  drop-map (suc n) [] = refl
  drop-map (suc n) (c ∷ cs) = drop-map n cs

  pub back-are : drop (front_len mark live) live ≡ map live_of (drop count chains) ++ extra
  back-are =
      (λ i. drop (count-is i) (are i)) ∙ drop-more count (map live_of chains) extra (front-within mark (map live_of chains))
      ∙ ap (λ (cs : List LiveChainValue). cs ++ extra) (drop-map count chains)

  -- the mark of the base that stands
  pub mark-same : mark_of live ≡ mark_of (map live_of chains)
  mark-same = ap mark_of are ∙ by-chains chains extra behind
    where
      by-chains : (cs : List PlacedChain) (more : List LiveChainValue) → IsBehindLog mark next more
          → mark_of (map live_of cs ++ more) ≡ mark_of (map live_of cs)
      by-chains [] [] is = refl
      by-chains [] (c ∷ []) is = ap mark_at is.part
      by-chains [] (c ∷ d ∷ more) is = absurd is
      by-chains (c ∷ cs) more is = refl

  -- what stays names these archives
  named-one : (e : Entry) → archives_at (part_of e) ≡ archives_named e
  named-one (Group members) = refl
  named-one (Archived a) = refl
  named-one (Floor f) = refl
  named-one (entries.Base b) = refl

  named-chains : (cs : List PlacedChain) → archives_in (map live_of cs) ≡ all_archives cs
  named-chains [] = refl
  named-chains (c ∷ cs) =
      flat_map-cons (λ (d : LiveChainValue). archives_at d.part) (live_of c) (map live_of cs)
      ∙ (λ i. named-one c.entry i ++ named-chains cs i)
      ∙ sym (flat_map-cons (λ (d : PlacedChain). archives_named d.entry) c cs)

  named-extra : (more : List LiveChainValue) → IsBehindLog mark next more → archives_in more ≡ []
  named-extra [] is = refl
  named-extra (c ∷ []) is =
      flat_map-cons (λ (d : LiveChainValue). archives_at d.part) c [] ∙ append-nil (archives_at c.part) ∙ ap archives_at is.part
  named-extra (c ∷ d ∷ cs) is = absurd is

  pub named-behind : archives_in (drop (front_len mark live) live) ≡ all_archives (drop count chains)
  named-behind =
      ap archives_in back-are
      ∙ flat_map-append (λ (d : LiveChainValue). archives_at d.part) (map live_of (drop count chains)) extra
      ∙ (λ i. named-chains (drop count chains) i ++ named-extra extra behind i)
      ∙ append-nil (all_archives (drop count chains))

  pub link-is : (ends : ℕ) → (extra ≡ [] → ends ≡ next) → head_or ends (drop (front_len mark live) live) ≡ first-of next (drop count chains)
  link-is ends same = ap (head_or ends) back-are ∙ by-chains (drop count chains) extra behind same
    where
      by-chains : (cs : List PlacedChain) (more : List LiveChainValue) → IsBehindLog mark next more → (more ≡ [] → ends ≡ next)
          → head_or ends (map live_of cs ++ more) ≡ first-of next cs
      by-chains [] [] is same = same refl
      by-chains [] (c ∷ []) is same = is.head
      by-chains [] (c ∷ d ∷ more) is same = absurd is
      by-chains (c ∷ cs) more is same = refl

-- the chains that stay begin there
pub chained-behind : (root next n : ℕ) (chains : List PlacedChain) → AreChained root chains next
    → AreChained (first-of next (drop n chains)) (drop n chains) next
chained-behind root next zero [] is = refl
chained-behind root next zero (c ∷ cs) is = (refl, is.1)
chained-behind root next (suc n) [] is = refl
chained-behind root next (suc n) (c ∷ cs) is = chained-behind c.link next n cs is.1
