-- Times of commits in memory and in a history.
use Rattle.std.proofs.Common.{◌≡◌, ℕ, List, [], ◌∷◌, ◌++◌, ◌<◌, ◌^◌, length, take, map, refl, ap, subst, ◌∙◌}
use Rattle.history.specs.Histories.{History, last_after, HasRisingTimes}
use Rattle.law_image.specs.Values.{Value}
use Rattle.group.specs.CommitOrder.{last_time_after, IsRisingAfter}
use Rattle.group.specs.declared.commit_order.CommitHead.{CommitHead}
use Rattle.law_refinement.specs.Standing.{Name, name_of, name_at}

pub last-named : (t : ℕ) (heads : List CommitHead) (h : History Value) → map name_at heads ≡ map name_of h → last_time_after t heads ≡ last_after t h
last-named t [] [] same = refl
last-named t [] (c ∷ cs) same = absurd cc
last-named t (x ∷ xs) [] same = absurd cc
last-named t (x ∷ xs) (c ∷ cs) same =
    let first : name_at x ≡ name_of c = cc in
    let rest : map name_at xs ≡ map name_of cs = cc in
    let time : x.time ≡ c.time = ap (λ (n : Name). n.time) first in
    ap (λ (s : ℕ). last_time_after s xs) time ∙ last-named c.time xs cs rest

pub front-named : (heads : List CommitHead) (h later : History Value) → map name_at heads ≡ map name_of (h ++ later) → map name_at (take (length h) heads)
    ≡ map name_of h
front-named heads [] later same = refl
front-named [] (c ∷ cs) later same = absurd cc
front-named (x ∷ xs) (c ∷ cs) later same =
    let first : name_at x ≡ name_of c = cc in
    let rest : map name_at xs ≡ map name_of (cs ++ later) = cc in
    let more = front-named xs cs later rest in
    ap (λ (n : Name). n ∷ map name_at (take (length cs) xs)) first ∙ ap (λ (ns : List Name). name_of c ∷ ns) more

pub rising-named : (t : ℕ) (heads : List CommitHead) (h : History Value) → map name_at heads ≡ map name_of h → IsRisingAfter t heads → HasRisingTimes t h
rising-named t [] [] same rising = tt
rising-named t [] (c ∷ cs) same rising = absurd cc
rising-named t (x ∷ xs) [] same rising = absurd cc
rising-named t (x ∷ xs) (c ∷ cs) same rising =
    let first : name_at x ≡ name_of c = cc in
    let rest : map name_at xs ≡ map name_of cs = cc in
    let time : x.time ≡ c.time = ap (λ (n : Name). n.time) first in (
      subst (λ (s : ℕ). t < s) time rising.0,
      subst (λ (s : ℕ). s < 2 ^ 63) time rising.1,
      subst (λ (s : ℕ). HasRisingTimes s cs) time (rising-named x.time xs cs rest rising.2),
    )
