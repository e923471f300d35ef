-- The search by halves.
use Rattle.std.proofs.Common.{ℕ, zero, suc, ◌≡◌, ◌⊎◌, inl, inr, ◌+◌, ◌-◌, ◌/◌, ◌≤◌, ◌<◌, nat_lt, Bool, true, false, List, length, refl, sym, ◌∙◌}
use Rattle.std.proofs.Common.{ap, subst, arith}
use Rattle.std.specs.Prelude.{Option, Some, None, if◌then◌else◌}
use Rattle.std.proofs.lemmas.Bool.Decides.{nat_tests}
use Rattle.archive.specs.Digits.{digits_in, digits}
use Rattle.log_entries.specs.declared.entry.Roll.{Roll}
use Rattle.log_names.specs.declared.name.Name.{Name}
use Rattle.log_names.specs.Standing.{name_at, name_count, roll_end, is_in_time, halved, first_in}

-- ---- digits

no_more : (f g m n : ℕ) → m ≤ n → m ≤ f → n ≤ g → digits_in f m ≤ digits_in g n
no_more zero g m n le mf ng = omega arith
no_more (suc f) g zero n le mf ng = omega arith
no_more (suc f) zero (suc m) n le mf ng = absurd (omega arith)
no_more (suc f) (suc g) (suc m) zero le mf ng = absurd (omega arith)
no_more (suc f) (suc g) (suc m) (suc n) le mf ng =
    let rest = no_more f g (suc m / 2) (suc n / 2) (omega arith) (omega arith) (omega arith) in omega (arith, rest)

-- what is at most half of a number has fewer digits
pub digits_half : (m n : ℕ) → 0 < n → m ≤ n / 2 → digits m + 1 ≤ digits n
unfolding digits
digits_half m zero some half = absurd (omega arith)
digits_half m (suc n) some half = let rest = no_more m n m (suc n / 2) half (omega arith) (omega arith) in omega (arith, rest)

-- ---- the steps

-- a search that has come to these two places finds what the whole one does
pub record IsHalfway (area : List ℕ) (upto label : ℕ) (roll : Roll) (low high : ℕ) : Type 0 where
  pub steps : ℕ
  pub enough : high - low ≤ steps
  pub same : halved (name_at area roll.start) upto label steps low high ≡ first_in area upto label roll

pub half_begins : (area : List ℕ) (upto label : ℕ) (roll : Roll) → IsHalfway area upto label roll 0 (name_count roll)
half_begins area upto label roll = record { steps = name_count roll; enough = omega arith; same = refl }

module _ (area : List ℕ) (upto label : ℕ) (roll : Roll) (low high : ℕ) (half : IsHalfway area upto label roll low high) where
  -- the name that is read between them
  abbrev middle : Name
  middle = name_at area roll.start (low + (high - low) / 2)

  abbrev found : Option ℕ
  found = first_in area upto label roll

  -- one step less
  stepped : low < high → (steps : ℕ) × (high - low ≤ suc steps)
      × (halved (name_at area roll.start) upto label (suc steps) low high ≡ found)
  stepped less = by half.steps half.enough half.same where
    by : (steps : ℕ) → high - low ≤ steps → halved (name_at area roll.start) upto label steps low high ≡ found
        → (steps : ℕ) × (high - low ≤ suc steps) × (halved (name_at area roll.start) upto label (suc steps) low high ≡ found)
    by zero enough same = absurd (omega arith)
    by (suc steps) enough same = (steps, enough, same)

  going : (below : Bool) → low < high → is_in_time upto middle ≡ true → nat_lt middle.label label ≡ below
      → (steps : ℕ) × (high - low ≤ suc steps)
      × (halved (name_at area roll.start) upto label steps (if below then low + (high - low) / 2 + 1 else low)
      (if below then high else low + (high - low) / 2) ≡ found)
  going below less timed test =
      let step = stepped less in
      let first : nat_lt low high ≡ true = grind (arith, nat_tests) in
      let gone : halved (name_at area roll.start) upto label (suc step.0) low high
      ≡ halved (name_at area roll.start) upto label step.0 (if below then low + (high - low) / 2 + 1 else low)
      (if below then high else low + (high - low) / 2) =
      λ i. if first i
      then (if timed i
      then halved (name_at area roll.start) upto label step.0 (if test i then low + (high - low) / 2 + 1 else low)
      (if test i then high else low + (high - low) / 2)
      else None)
      else Some low in
      (step.0, step.1, sym gone ∙ step.2)

  pub half_below : (name : Name) → low < high → name ≡ middle → is_in_time upto name ≡ true → nat_lt name.label label ≡ true
      → IsHalfway area upto label roll (low + (high - low) / 2 + 1) high
  half_below name less is timed test =
      let gone = going true less (ap (is_in_time upto) (sym is) ∙ timed) (ap (λ (n : Name). nat_lt n.label label) (sym is) ∙ test) in
      record { steps = gone.0; enough = omega (arith, gone.1); same = gone.2 }

  pub half_above : (name : Name) → low < high → name ≡ middle → is_in_time upto name ≡ true → nat_lt name.label label ≡ false
      → IsHalfway area upto label roll low (low + (high - low) / 2)
  half_above name less is timed test =
      let gone = going false less (ap (is_in_time upto) (sym is) ∙ timed) (ap (λ (n : Name). nat_lt n.label label) (sym is) ∙ test) in
      record { steps = gone.0; enough = omega (arith, gone.1); same = gone.2 }

  pub half_broken : low < high → is_in_time upto middle ≡ false → found ≡ None
  half_broken less late =
      let step = stepped less in
      let below = nat_lt middle.label label in
      let first : nat_lt low high ≡ true = grind (arith, nat_tests) in
      let gone : halved (name_at area roll.start) upto label (suc step.0) low high ≡ None =
      λ i. if first i
      then (if late i
      then halved (name_at area roll.start) upto label step.0 (if below then low + (high - low) / 2 + 1 else low)
      (if below then high else low + (high - low) / 2)
      else None)
      else Some low in
      sym step.2 ∙ gone

  pub half_ends : high ≤ low → found ≡ Some low
  half_ends past = by half.steps half.same where
    by : (steps : ℕ) → halved (name_at area roll.start) upto label steps low high ≡ found → found ≡ Some low
    by zero same = sym same
    by (suc steps) same =
        let below = nat_lt middle.label label in
        let first : nat_lt low high ≡ false = grind (arith, nat_tests) in
        let gone : halved (name_at area roll.start) upto label (suc steps) low high ≡ Some low =
        λ i. if first i
        then (if is_in_time upto middle
        then halved (name_at area roll.start) upto label steps (if below then low + (high - low) / 2 + 1 else low)
        (if below then high else low + (high - low) / 2)
        else None)
        else Some low in
        sym same ∙ gone

  -- a name that is read at another moment, from the same bytes
  module _ (later : List ℕ) (same : later ≡ area) where
    pub here_below : (name : Name) → low < high → (name ≡ name_at later roll.start (low + (high - low) / 2)) × (is_in_time upto name ≡ true)
        → name.label < label → IsHalfway area upto label roll (low + (high - low) / 2 + 1) high
    here_below name less is lesser =
        let test : nat_lt name.label label ≡ true = grind (arith, nat_tests) in
        half_below name less (is.0 ∙ ap (λ (a : List ℕ). name_at a roll.start (low + (high - low) / 2)) same) is.1 test

    pub here_above : (name : Name) → low < high → (name ≡ name_at later roll.start (low + (high - low) / 2)) × (is_in_time upto name ≡ true)
        → label ≤ name.label → IsHalfway area upto label roll low (low + (high - low) / 2)
    here_above name less is greater =
        let test : nat_lt name.label label ≡ false = grind (arith, nat_tests) in
        half_above name less (is.0 ∙ ap (λ (a : List ℕ). name_at a roll.start (low + (high - low) / 2)) same) is.1 test

    pub here_broken : low < high
        → (length later < roll_end roll) ⊎ (is_in_time upto (name_at later roll.start (low + (high - low) / 2)) ≡ false)
        → (length area < roll_end roll) ⊎ (first_in area upto label roll ≡ None)
    here_broken less (inl short) = inl (subst (λ (a : List ℕ). length a < roll_end roll) same short)
    here_broken less (inr late) =
        inr (half_broken less (subst (λ (a : List ℕ). is_in_time upto (name_at a roll.start (low + (high - low) / 2)) ≡ false) same late))
