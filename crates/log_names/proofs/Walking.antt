-- The walk forward.
use Rattle.std.proofs.Common.{ℕ, zero, suc, ◌≡◌, ◌≢◌, ◌⊎◌, inl, inr, ◌+◌, ◌-◌, ◌≤◌, ◌<◌, ◌==◌, Bool, true, false, List, [], ◌∷◌, ◌++◌, length, refl}
use Rattle.std.proofs.Common.{sym, ◌∙◌, ap, subst, arith}
use Rattle.std.proofs.Common.{append_assoc}
use Rattle.std.specs.Prelude.{Option, Some, None, option_map, option_and_then, if◌then◌else◌, ◌&&◌}
use Rattle.std.proofs.lemmas.List.{append-nil}
use Rattle.std.proofs.lemmas.Bool.Decides.{nat_tests}
use Rattle.log_entries.specs.declared.entry.Roll.{Roll}
use Rattle.log_names.specs.declared.name.Name.{Name}
use Rattle.log_names.specs.Standing.{name_at, name_count, roll_end, is_in_time, may_follow, walked, times_behind, first_in, times_there, times_in_all}
use Rattle.log_names.specs.Standing.{IsBroken, PastEnd, BadName, IsFirstBroken}

-- a walk from the first place that has come to the n-th name, has read this last and has found these times
pub record IsWalking (area : List ℕ) (upto label : ℕ) (roll : Roll) (first n : ℕ) (last : Option Name) (old into : List ℕ) : Type 0 where
  pub times : List ℕ
  pub pushed : into ≡ old ++ times
  pub same : option_map (λ (more : List ℕ). times ++ more) (walked (name_at area roll.start) upto label (name_count roll - n) n last)
      ≡ times_behind area upto label roll first

-- what a walk found
abbrev pub IsWalkOf : List ℕ → ℕ → ℕ → Roll → ℕ → List ℕ → List ℕ → Type 0
IsWalkOf area upto label roll first old into =
    (times : List ℕ) × (times_behind area upto label roll first ≡ Some times) × (into ≡ old ++ times)

nothing-more : (found : Option (List ℕ)) → option_map (λ (more : List ℕ). [] ++ more) found ≡ found
nothing-more None = refl
nothing-more (Some more) = refl

one-more : (times : List ℕ) (time : ℕ) (found : Option (List ℕ))
    → option_map (λ (more : List ℕ). (times ++ time ∷ []) ++ more) found
    ≡ option_map (λ (more : List ℕ). times ++ more) (option_map (λ (more : List ℕ). time ∷ more) found)
one-more times time None = refl
one-more times time (Some more) = ap Some (append_assoc times (time ∷ []) more)

pub walk_begins : (area : List ℕ) (upto label : ℕ) (roll : Roll) (first : ℕ) (old : List ℕ) → IsWalking area upto label roll first first None old old
walk_begins area upto label roll first old = record {
  times = [];
  pushed = sym (append-nil old);
  same = nothing-more (times_behind area upto label roll first);
}

module _ (area : List ℕ) (upto label : ℕ) (roll : Roll) (first n : ℕ) (last : Option Name) (old into : List ℕ)
    (walking : IsWalking area upto label roll first n last old into) where
  abbrev here : Name
  here = name_at area roll.start n

  abbrev found : Option (List ℕ)
  found = times_behind area upto label roll first

  -- with one name to read
  one-left : n < name_count roll
      → option_map (λ (more : List ℕ). walking.times ++ more) (walked (name_at area roll.start) upto label (suc (name_count roll - (n + 1))) n last) ≡ found
  one-left less =
      let left : name_count roll - n ≡ suc (name_count roll - (n + 1)) = omega arith in
      subst (λ (k : ℕ). option_map (λ (more : List ℕ). walking.times ++ more) (walked (name_at area roll.start) upto label k n last) ≡ found) left walking.same

  -- a walk whose next name may stand there
  sound-goes : (both : Bool) (own : Bool) → (is_in_time upto here && may_follow last here) ≡ both → (here.label == label) ≡ own
      → walked (name_at area roll.start) upto label (suc (name_count roll - (n + 1))) n last
      ≡ (if both
      then (if own
      then option_map (λ (times : List ℕ). here.time ∷ times) (walked (name_at area roll.start) upto label (name_count roll - (n + 1)) (n + 1) (Some here))
      else Some [])
      else None)
  sound-goes both own sound test =
      λ i. if sound i
      then (if test i
      then option_map (λ (times : List ℕ). here.time ∷ times) (walked (name_at area roll.start) upto label (name_count roll - (n + 1)) (n + 1) (Some here))
      else Some [])
      else None

  both-true : (a b : Bool) → a ≡ true → b ≡ true → (a && b) ≡ true
  both-true a b e f = ap (λ x. x && b) e ∙ f

  first-false : (a b : Bool) → a ≡ false → (a && b) ≡ false
  first-false a b e = ap (λ x. x && b) e

  second-false : (a b : Bool) → b ≡ false → (a && b) ≡ false
  second-false true b e = e
  second-false false b e = refl

  pub walk_goes : (name : Name) → n < name_count roll → name ≡ here → is_in_time upto name ≡ true → may_follow last name ≡ true → (name.label == label) ≡ true
      → IsWalking area upto label roll first (n + 1) (Some name) old (into ++ name.time ∷ [])
  walk_goes name less is timed follows own =
      let sound = both-true (is_in_time upto here) (may_follow last here) (ap (is_in_time upto) (sym is) ∙ timed) (ap (may_follow last) (sym is) ∙ follows) in
      let test : (here.label == label) ≡ true = ap (λ (m : Name). m.label == label) (sym is) ∙ own in
      let rest = walked (name_at area roll.start) upto label (name_count roll - (n + 1)) (n + 1) (Some here) in
      let gone : option_map (λ (more : List ℕ). (walking.times ++ here.time ∷ []) ++ more) rest ≡ found =
      one-more walking.times here.time rest
      ∙ ap (option_map (λ (more : List ℕ). walking.times ++ more)) (sym (sound-goes true true sound test))
      ∙ one-left less in
      record {
        times = walking.times ++ name.time ∷ [];
        pushed = ap (λ (l : List ℕ). l ++ name.time ∷ []) walking.pushed ∙ append_assoc old walking.times (name.time ∷ []);
        same = subst (λ (m : Name). option_map (λ (more : List ℕ). (walking.times ++ m.time ∷ []) ++ more)
            (walked (name_at area roll.start) upto label (name_count roll - (n + 1)) (n + 1) (Some m)) ≡ found) (sym is) gone;
      }

  pub walk_past : name_count roll ≤ n → IsWalkOf area upto label roll first old into
  walk_past past =
      let none : name_count roll - n ≡ 0 = omega arith in (
        walking.times,
        sym walking.same
            ∙ ap (λ (k : ℕ). option_map (λ (more : List ℕ). walking.times ++ more) (walked (name_at area roll.start) upto label k n last)) none
            ∙ ap Some (append-nil walking.times),
        walking.pushed,
      )

  pub walk_ends : (name : Name) → n < name_count roll → name ≡ here → is_in_time upto name ≡ true → may_follow last name ≡ true → (name.label == label) ≡ false
      → IsWalkOf area upto label roll first old into
  walk_ends name less is timed follows other =
      let sound = both-true (is_in_time upto here) (may_follow last here) (ap (is_in_time upto) (sym is) ∙ timed) (ap (may_follow last) (sym is) ∙ follows) in
      let test : (here.label == label) ≡ false = ap (λ (m : Name). m.label == label) (sym is) ∙ other in (
        walking.times,
        sym (one-left less)
            ∙ ap (option_map (λ (more : List ℕ). walking.times ++ more)) (sound-goes true false sound test)
            ∙ ap Some (append-nil walking.times),
        walking.pushed,
      )

  broken-goes : n < name_count roll → (is_in_time upto here && may_follow last here) ≡ false → found ≡ None
  broken-goes less broken =
      sym (one-left less) ∙ ap (option_map (λ (more : List ℕ). walking.times ++ more)) (sound-goes false (here.label == label) broken refl)

  pub walk_late : n < name_count roll → is_in_time upto here ≡ false → found ≡ None
  walk_late less late = broken-goes less (first-false (is_in_time upto here) (may_follow last here) late)

  pub walk_broken : (name : Name) → n < name_count roll → name ≡ here → may_follow last name ≡ false → found ≡ None
  walk_broken name less is broken =
      broken-goes less (second-false (is_in_time upto here) (may_follow last here) (ap (may_follow last) (sym is) ∙ broken))

  -- a name that is read at another moment, from the same bytes
  module _ (later : List ℕ) (same : later ≡ area) where
    pub here_goes : (name : Name) → n < name_count roll → (name ≡ name_at later roll.start n) × (is_in_time upto name ≡ true) → may_follow last name ≡ true
        → name.label ≡ label → IsWalking area upto label roll first (n + 1) (Some name) old (into ++ name.time ∷ [])
    here_goes name less is follows own =
        let test : (name.label == label) ≡ true = grind (arith, nat_tests) in
        walk_goes name less (is.0 ∙ ap (λ (a : List ℕ). name_at a roll.start n) same) is.1 follows test

    pub here_ends : (name : Name) → n < name_count roll → (name ≡ name_at later roll.start n) × (is_in_time upto name ≡ true) → may_follow last name ≡ true
        → name.label ≢ label → IsWalkOf area upto label roll first old into
    here_ends name less is follows other =
        let test : (name.label == label) ≡ false = grind (arith, nat_tests) in
        walk_ends name less (is.0 ∙ ap (λ (a : List ℕ). name_at a roll.start n) same) is.1 follows test

    pub here_late : n < name_count roll → (length later < roll_end roll) ⊎ (is_in_time upto (name_at later roll.start n) ≡ false)
        → (length area < roll_end roll) ⊎ (times_behind area upto label roll first ≡ None)
    here_late less (inl short) = inl (subst (λ (a : List ℕ). length a < roll_end roll) same short)
    here_late less (inr late) = inr (walk_late less (subst (λ (a : List ℕ). is_in_time upto (name_at a roll.start n) ≡ false) same late))

    pub here_apart : (name : Name) → n < name_count roll → (name ≡ name_at later roll.start n) × (is_in_time upto name ≡ true) → may_follow last name ≡ false
        → (length area < roll_end roll) ⊎ (times_behind area upto label roll first ≡ None)
    here_apart name less is broken = inr (walk_broken name less (is.0 ∙ ap (λ (a : List ℕ). name_at a roll.start n) same) broken)

-- ---- one roll

module _ (area : List ℕ) (upto label : ℕ) (roll : Roll) where
  pub there_from : (first : ℕ) (times : Option (List ℕ)) → first_in area upto label roll ≡ Some first → times_behind area upto label roll first ≡ times
      → times_there area upto label roll ≡ times
  unfolding times_there
  there_from first times at is = ap (option_and_then (times_behind area upto label roll)) at ∙ is

  pub there_none : first_in area upto label roll ≡ None → times_there area upto label roll ≡ None
  unfolding times_there
  there_none none = ap (option_and_then (times_behind area upto label roll)) none

  -- where the search for the first name, or the walk, met what breaks a rule
  pub first_broken : (length area < roll_end roll) ⊎ (first_in area upto label roll ≡ None) → IsBroken area upto label roll
  first_broken (inl short) = PastEnd short
  first_broken (inr none) = BadName (there_none none)

  pub walk_fails : (first : ℕ) → first_in area upto label roll ≡ Some first → (later : List ℕ) → later ≡ area
      → (length later < roll_end roll) ⊎ (times_behind later upto label roll first ≡ None) → IsBroken area upto label roll
  walk_fails first at later same (inl short) = PastEnd (subst (λ (a : List ℕ). length a < roll_end roll) same short)
  walk_fails first at later same (inr none) =
      BadName (there_from first None at (subst (λ (a : List ℕ). times_behind a upto label roll first ≡ None) same none))

  pub walk_finds : (first : ℕ) (old into : List ℕ) → first_in area upto label roll ≡ Some first → (later : List ℕ) → later ≡ area
      → IsWalkOf later upto label roll first old into
      → (times : List ℕ) × (times_there area upto label roll ≡ Some times) × (into ≡ old ++ times)
  walk_finds first old into at later same walk =
      (walk.0, there_from first (Some walk.0) at (subst (λ (a : List ℕ). times_behind a upto label roll first ≡ Some walk.0) same walk.1), walk.2)

-- ---- several rolls

all-front : (times : List ℕ) (found : Option (List ℕ)) (more : List ℕ)
    → option_map (λ (rest : List ℕ). times ++ rest) (option_map (λ (rest : List ℕ). rest ++ more) found)
    ≡ option_map (λ (rest : List ℕ). rest ++ more) (option_map (λ (rest : List ℕ). times ++ rest) found)
all-front times None more = refl
all-front times (Some rest) more = ap Some (sym (append_assoc times rest more))

-- with one roll more
pub all_more : (area : List ℕ) (upto label : ℕ) (rolls : List Roll) (roll : Roll) (times more : List ℕ) → times_in_all area upto label rolls ≡ Some times
    → times_there area upto label roll ≡ Some more → times_in_all area upto label (rolls ++ roll ∷ []) ≡ Some (times ++ more)
all_more area upto label rolls roll times more is there =
    split rolls ∙ ap (option_map (λ (rest : List ℕ). rest ++ more)) is
  where
    split : (rs : List Roll) → times_in_all area upto label (rs ++ roll ∷ []) ≡ option_map (λ (rest : List ℕ). rest ++ more) (times_in_all area upto label rs)
    split [] =
        ap (option_and_then (λ (ts : List ℕ). option_map (λ (rest : List ℕ). ts ++ rest) (Some []))) there ∙ ap Some (append-nil more)
    split (r ∷ rs) =
        let rest = split rs in
        step (times_there area upto label r) rest
      where
        step : (found : Option (List ℕ))
            → times_in_all area upto label (rs ++ roll ∷ []) ≡ option_map (λ (rest : List ℕ). rest ++ more) (times_in_all area upto label rs)
            → option_and_then (λ (ts : List ℕ). option_map (λ (rest : List ℕ). ts ++ rest) (times_in_all area upto label (rs ++ roll ∷ []))) found
            ≡ option_map (λ (rest : List ℕ). rest ++ more)
            (option_and_then (λ (ts : List ℕ). option_map (λ (rest : List ℕ). ts ++ rest) (times_in_all area upto label rs)) found)
        step None rest = refl
        step (Some ts) rest = ap (option_map (λ (l : List ℕ). ts ++ l)) rest ∙ all-front ts (times_in_all area upto label rs) more

-- the next roll is broken
pub all_broken : (area : List ℕ) (upto label : ℕ) (rolls done : List Roll) (roll : Roll) (behind : List Roll) (times : List ℕ) (start : ℕ)
    → rolls ≡ done ++ roll ∷ behind → times_in_all area upto label done ≡ Some times → start ≡ roll.start → (later : List ℕ) → later ≡ area
    → IsBroken later upto label roll → IsFirstBroken area upto label rolls start
all_broken area upto label rolls done roll behind times start among found here later same broken = record {
  before = done;
  roll = roll;
  behind = behind;
  among = among;
  times = times;
  found = found;
  here = here;
  broken = subst (λ (a : List ℕ). IsBroken a upto label roll) same broken;
}

-- with the next roll
pub all_goes : (area : List ℕ) (upto label : ℕ) (rolls done : List Roll) (roll : Roll) (behind : List Roll) (old into : List ℕ)
    → rolls ≡ done ++ roll ∷ behind → times_in_all area upto label done ≡ Some old → (later : List ℕ) → later ≡ area
    → (times : List ℕ) × (times_there later upto label roll ≡ Some times) × (into ≡ old ++ times)
    → (more : List Roll) × (rolls ≡ more ++ behind) × (times_in_all area upto label more ≡ Some into)
all_goes area upto label rolls done roll behind old into among found later same there = (
  done ++ roll ∷ [],
  among ∙ sym (append_assoc done (roll ∷ []) behind),
  all_more area upto label done roll old there.0 found (subst (λ (a : List ℕ). times_there a upto label roll ≡ Some there.0) same there.1)
      ∙ ap Some (sym there.2),
)
