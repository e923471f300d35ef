-- A commit in a history: its time is its own, and what it wrote stands until a later one writes the key.
use Rattle.std.proofs.Common.{◌≡◌, ◌≤◌, ◌<◌, ⊎_elim, ℕ, true, false, cond, nat_le, [], ◌∷◌, Option, Some, None, refl, ap, sym, ◌∙◌, arith}
use Rattle.std.specs.Prelude.{Contains, option_map}
use Rattle.std.specs.List.{cons_option}
use Rattle.std.proofs.lemmas.Bool.Decides.{nat_tests}
use Rattle.history.specs.declared.key.Key.{Key}
use Rattle.history.specs.Key.{write_in}
use Rattle.history.specs.Time.{value_after}
use Rattle.history.specs.Histories.{Commit, History, last_after, writes_of, HasRisingTimes}
use Rattle.history.proofs.Members.{Contains-cons_cases, Contains-head, Contains-tail, Contains-nil}
use Rattle.history.proofs.Orders.{is_le}
use Rattle.history.proofs.Histories.{rising-from_following}
use Rattle.law_image.specs.Values.{IsValue}
use Rattle.run.specs.Laws.{CommitHasItsTime, WriteStands}

-- every commit is later than what the times rise from, and not later than the last
pub commit-later : {V : Type 0} (t : ℕ) (h : History V) (c : Commit V) → HasRisingTimes t h → Contains h c → t < c.time
commit-later t [] c up has = absurd (Contains-nil c has)
commit-later t (x ∷ xs) c up has =
    ⊎_elim (λ (is : x ≡ c). omega (arith, ap (λ y. y.time) is, up.0)) (λ (more : Contains xs c). omega (
      arith,
      commit-later x.time xs c up.2 more,
      up.0,
    )) (Contains-cons_cases x xs c has)

pub last-later : {V : Type 0} (t : ℕ) (h : History V) → HasRisingTimes t h → t ≤ last_after t h
last-later t [] up = omega arith
last-later t (x ∷ xs) up = omega (arith, up.0, last-later x.time xs up.2)

pub commit-by_last : {V : Type 0} (t : ℕ) (h : History V) (c : Commit V) → HasRisingTimes t h → Contains h c → c.time ≤ last_after t h
commit-by_last t [] c up has = absurd (Contains-nil c has)
commit-by_last t (x ∷ xs) c up has =
    ⊎_elim (λ (is : x ≡ c). omega (
      arith,
      ap (λ y. y.time) is,
      last-later x.time xs up.2,
    )) (λ (more : Contains xs c). commit-by_last x.time xs c up.2 more) (Contains-cons_cases x xs c has)

-- one commit alone has its time
pub commit-one : {V : Type 0} (t : ℕ) (h : History V) (c d : Commit V) → HasRisingTimes t h → Contains h c → Contains h d → c.time ≡ d.time → c ≡ d
commit-one t [] c d up has_c has_d same = absurd (Contains-nil c has_c)
commit-one {V} t (x ∷ xs) c d up has_c has_d same =
    ⊎_elim
    (λ (c_is : x ≡ c). ⊎_elim (λ (d_is : x ≡ d). sym c_is
    ∙ d_is) (λ (d_in : Contains xs d). absurd (omega (arith, ap (λ (y : Commit V). y.time) c_is, commit-later x.time xs d up.2 d_in, same)))
    (Contains-cons_cases x xs d has_d))
    (λ (c_in : Contains xs c). ⊎_elim (λ (d_is : x
    ≡ d). absurd (omega (arith, ap (λ (y : Commit V). y.time) d_is, commit-later x.time xs c up.2 c_in, same)))
    (λ (d_in : Contains xs d). commit-one x.time xs c d up.2 c_in d_in same) (Contains-cons_cases x xs d has_d))
    (Contains-cons_cases x xs c has_c)

pub commit-has-its-time : CommitHasItsTime
commit-has-its-time h c d history has_c has_d same = commit-one 0 h c d (rising-from_following IsValue [] h history) has_c has_d same

-- ---- what it wrote

-- a value stands where no commit up to the time writes the key
value-stays : {V : Type 0} (o : Option V) (h : History V) (key : Key) (time : ℕ)
    → ((d : Commit V) → Contains h d → d.time ≤ time → write_in d.writes key ≡ None) → value_after o (writes_of h key) time ≡ o
value-stays o [] key time none = refl
value-stays {V} o (x ∷ xs) key time none =
    let rest : value_after o (writes_of xs key) time ≡ o = value-stays o xs key time (λ d has early. none d (Contains-tail x xs d has) early) in
    let Goal : Option (Option V) → Type 0 =
    λ w. write_in x.writes key ≡ w
    → value_after o (cons_option (option_map (λ (y : Option V). record { time = x.time; write = y }) w) (writes_of xs key)) time ≡ o in
    elim (write_in x.writes key) as Goal [
      | None ↦ λ is. rest
      | Some w ↦ λ is. elim (nat_le x.time time) as (λ b. nat_le x.time time ≡ b → value_after (cond b w o) (writes_of xs key) time ≡ o) [
        | true ↦ λ early.
            let low : x.time ≤ time = grind (arith, nat_tests, early) in
            let no : Path (Option (Option V)) (Some w) None = sym is ∙ none x (Contains-head x xs x refl) low in
            absurd cc
        | false ↦ λ late. rest
      ] refl
    ] refl

value-written : {V : Type 0} (o : Option V) (t : ℕ) (h : History V) (c : Commit V) (key : Key) (write : Option V) (time : ℕ) → HasRisingTimes t h → Contains h c
    → write_in c.writes key ≡ Some write → c.time ≤ time
    → ((d : Commit V) → Contains h d → c.time < d.time → d.time ≤ time → write_in d.writes key ≡ None) → value_after o (writes_of h key) time ≡ write
value-written o t [] c key write time up has is low none = absurd (Contains-nil c has)
value-written {V} o t (x ∷ xs) c key write time up has is low none =
    ⊎_elim
    (λ (same : x ≡ c).
    let here : write_in x.writes key ≡ Some write = ap (λ (y : Commit V). write_in y.writes key) same ∙ is in
    let at : x.time ≡ c.time = ap (λ (y : Commit V). y.time) same in
    let le : nat_le x.time time ≡ true = is_le (omega (arith, at, low)) in
    rw here (rw le (value-stays write xs key time
    (λ d more early. none d (Contains-tail x xs d more) (omega (arith, at, commit-later x.time xs d up.2 more)) early))))
    (λ (more : Contains xs c).
    let rest : (p : Option V) → value_after p (writes_of xs key) time ≡ write =
    λ p. value-written p x.time xs c key write time up.2 more is low (λ d there later early. none d (Contains-tail x xs d there) later early) in
    elim (write_in x.writes key) as
    (λ w. value_after o (cons_option (option_map (λ (y : Option V). record { time = x.time; write = y }) w) (writes_of xs key)) time
    ≡ write) [ None ↦ rest o | Some w ↦ rest (cond (nat_le x.time time) w o) ])
    (Contains-cons_cases x xs c has)

pub write-stands : WriteStands
write-stands h c key write time history has is low none = value-written None 0 h c key write time (rising-from_following IsValue [] h history) has is low none
