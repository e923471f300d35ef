-- One key's writes in branches: those of a fork, from the branch on in which a time lies.
use Rattle.std.proofs.Common.{◌≡◌, ℕ, zero, suc, ◌+◌, ◌-◌, ◌<◌, ◌≤◌, List, [], ◌∷◌, ◌++◌, length, get_or, take, drop, Option, None, Some, refl, ap, sym, subst}
use Rattle.std.proofs.Common.{◌∙◌, arith, append_assoc, append-nil, length-append}
use Rattle.std.specs.Prelude.{find}
use Rattle.std.proofs.lemmas.List.{take-append-drop, drop_more}
use Rattle.history.specs.declared.time.Version.{Version}
use Rattle.history.specs.Time.{IsRisingAfter, value_after, value_at}
use Rattle.history.specs.Versions.{first_time, rows, ends_after}
use Rattle.history.proofs.Values.{value_after-append, value_after-later}
use Rattle.chains.specs.Branches.{BeginBy, BeginAfter, BeginByBehind, AreLaterBehind, IsFrom, IsFork}
use Rattle.chains.specs.Shapes.{all_of, highest}
use Rattle.chains.specs.Found.{Versions, IsPartFrom, IsFound}
use Rattle.chains.specs.Rows.{first_time_or, versions_upto, IsFront}
use Rattle.chains.specs.Shapes.{Shape}
use Rattle.chains.specs.Writes.{Value, Write, kept_after, last_time, is_after}
use Rattle.chains.proofs.Bounds.{find-found, find-past}
use Rattle.chains.proofs.Endings.{none-chunk}
use Rattle.chains.proofs.Found.{found-front, found-behind}
use Rattle.chains.proofs.Nexts.{none-before}
use Rattle.chains.proofs.Parts.{rising-back, kept-front, last_time-back}
use Rattle.chains.proofs.Chunks.{later-chunk, value-behind, kept-behind}
use Rattle.chains.proofs.Rising.{kept_after-rising}
use Rattle.chains.proofs.RowParts.{rows-append, versions-append, first-chunk, no-rows_chunk, no-rows_from}
use Rattle.chains.proofs.Shapes.{all_of-append, highest-append, at_low, behind, before, last-of, rest_is, chunks_are, first_low}
use Rattle.chains.proofs.RowWalks.{front-earlier, front-later, first-front, first-upto, last-before}

-- ---- the branches from the last one on that begins by a time

-- branches that begin after a time have later writes alone
later-all : (time : ℕ) (bs : List (Shape Write)) → BeginAfter time bs → IsRisingAfter 0 (all_of bs) → IsRisingAfter time (all_of bs)
later-all time [] after up = tt
later-all time (b ∷ bs) after up = later-chunk time b.chunks (all_of bs) after.0 after.1 up

later-drop : (time n : ℕ) (bs : List (Shape Write)) → BeginAfter time (drop (suc n) bs) → IsRisingAfter 0 (all_of bs) → AreLaterBehind time (drop n bs)
later-drop time zero [] after up = tt
later-drop time (suc n) [] after up = tt
later-drop time zero (b ∷ bs) after up = later-all time bs after (rising-back 0 b.chunks (all_of bs) up)
later-drop time (suc n) (b ∷ bs) after up = later-drop time n bs after (rising-back 0 b.chunks (all_of bs) up)

behind-any : (time : ℕ) (front rest : List (Shape Write)) → BeginBy time rest → BeginByBehind time front rest
behind-any time [] rest by = tt
behind-any time (b ∷ bs) rest by = by

from-all : (time : ℕ) (bs : List (Shape Write)) → BeginAfter time bs → IsRisingAfter 0 (all_of bs) → IsFrom time bs bs
from-all time [] after up = record { front = []; parts = refl; begun = tt; later = tt }
from-all time (b ∷ bs) after up =
    record { front = []; parts = refl; begun = tt; later = rising-back time b.chunks (all_of bs) (later-all time (b ∷ bs) after up) }

from-begun : (time n : ℕ) (bs : List (Shape Write)) → BeginBy time (drop n bs) → BeginAfter time (drop (suc n) bs) → IsRisingAfter 0 (all_of bs)
    → IsFrom time bs (drop n bs)
from-begun time n bs before after up = record {
  front = take n bs;
  parts = sym (take-append-drop n bs);
  begun = behind-any time (take n bs) (drop n bs) before;
  later = later-drop time n bs after up;
}

is-from-begun : (time n m : ℕ) (bs : List (Shape Write)) → m ≡ n - 1 → (0 < n → BeginBy time (drop m bs)) → BeginAfter time (drop n bs)
    → IsRisingAfter 0 (all_of bs) → IsFrom time bs (drop m bs)
is-from-begun time zero m bs is before after up = let none : m ≡ 0 = omega (arith, is) in rw none (from-all time bs after up)
is-from-begun time (suc n) m bs is before after up =
    let same : n ≡ m = omega (arith, is) in
    from-begun time m bs (before (omega arith)) (rw same at after) up

pub is-from : (time n m : ℕ) (bs : List (Shape Write)) → m ≡ n - 1 → (0 < n → BeginBy time (drop (n - 1) bs)) → BeginAfter time (drop n bs)
    → IsRisingAfter 0 (all_of bs) → IsFrom time bs (drop m bs)
is-from time n m bs is before after up = is-from-begun time n m bs is (λ h. subst (λ (k : ℕ). BeginBy time (drop k bs)) (sym is) (before h)) after up

-- the branch of a number, and those behind it
from-number : (time n : ℕ) (bs : List (Shape Write)) (b : Shape Write) → 0 < n → n ≤ length bs → b ≡ get_or bs (n - 1) b
    → (0 < n → BeginBy time (drop (n - 1) bs)) → BeginAfter time (drop n bs) → IsRisingAfter 0 (all_of bs) → IsFrom time bs (b ∷ drop n bs)
from-number time n bs b some within is begun after up =
    let next : n - 1 + 1 ≡ n = omega (arith, some) in
    let here : drop (n - 1) bs ≡ b ∷ drop n bs =
    drop_more bs (n - 1) b (omega (arith, some, within)) ∙ ap (λ (x : Shape Write). x ∷ drop (n - 1 + 1) bs) (sym is)
    ∙ ap (λ (k : ℕ). b ∷ drop k bs) next in
    subst (λ (rest : List (Shape Write)). IsFrom time bs rest) here (is-from time n (n - 1) bs refl begun after up)

-- ---- what lies before them says nothing of the time

value-front : (t : ℕ) (front : List (Shape Write)) (b : Shape Write) (bs : List (Shape Write)) → BeginByBehind t front (b ∷ bs)
    → value_after None (all_of front ++ (b.chunks ++ all_of bs)) t ≡ value_after (value_at b.chunks t) (all_of bs) t
value-front t [] b bs begun = value_after-append None b.chunks (all_of bs) t
value-front t (f ∷ fs) b bs begun = value-behind None t (all_of (f ∷ fs)) b.chunks (all_of bs) begun.0 begun.1

ending-front : (t end : ℕ) (front rest : List (Shape Write)) → BeginByBehind t front rest → IsRisingAfter 0 (all_of front ++ all_of rest)
    → find (ends_after t) (versions_upto (first_time_or end (all_of rest)) (all_of front)) ≡ None
ending-front t end [] rest begun up = refl
ending-front t end (f ∷ fs) [] begun up = absurd (omega (arith, begun))
ending-front t end (f ∷ fs) (b ∷ bs) begun up =
    ap (λ (n : ℕ). find (ends_after t) (versions_upto n (all_of (f ∷ fs)))) (first-chunk end b.chunks (all_of bs) begun.0)
    ∙ none-chunk t (all_of (f ∷ fs)) b.chunks (all_of bs) begun.0 begun.1 up

next-front : (t : ℕ) (front rest : List (Shape Write)) → BeginByBehind t front rest → IsRisingAfter 0 (all_of front ++ all_of rest)
    → find (is_after t) (all_of front) ≡ None
next-front t [] rest begun up = refl
next-front t (f ∷ fs) [] begun up = absurd (omega (arith, begun))
next-front t (f ∷ fs) (b ∷ bs) begun up = none-before t (all_of (f ∷ fs)) b.chunks (all_of bs) begun.0 begun.1 up

rows-front : (t end upto : ℕ) (front rest : List (Shape Write)) → BeginByBehind t front rest → IsRisingAfter 0 (all_of front ++ all_of rest)
    → rows (versions_upto (first_time_or end (all_of rest)) (all_of front)) t upto ≡ []
rows-front t end upto [] rest begun up = refl
rows-front t end upto (f ∷ fs) [] begun up = absurd (omega (arith, begun))
rows-front t end upto (f ∷ fs) (b ∷ bs) begun up =
    ap (λ (n : ℕ). rows (versions_upto n (all_of (f ∷ fs))) t upto) (first-chunk end b.chunks (all_of bs) begun.0)
    ∙ no-rows_chunk t upto (all_of (f ∷ fs)) b.chunks (all_of bs) begun.0 begun.1 up

kept-behind_front : (t : ℕ) (front : List (Shape Write)) (b : Shape Write) (bs : List (Shape Write)) → BeginByBehind t front (b ∷ bs)
    → IsRisingAfter 0 (all_of front ++ (b.chunks ++ all_of bs))
    → kept_after t (all_of front ++ (b.chunks ++ all_of bs)) ≡ kept_after t (b.chunks ++ all_of bs)
kept-behind_front t [] b bs begun up = refl
kept-behind_front t (f ∷ fs) b bs begun up = kept-behind t (all_of (f ∷ fs)) b.chunks (all_of bs) begun.0 begun.1 up

front-behind : (t end upto : ℕ) (front : List (Shape Write)) (b : Shape Write) (bs : List (Shape Write)) (part : Versions) → BeginByBehind t front (b ∷ bs)
    → IsRisingAfter 0 (all_of front ++ (b.chunks ++ all_of bs))
    → IsFront t upto (versions_upto end (b.chunks ++ all_of bs)) part → IsFront t upto (versions_upto end (all_of front ++ (b.chunks ++ all_of bs))) part
front-behind t end upto [] b bs part begun up front = front
front-behind t end upto (f ∷ fs) b bs part begun up front =
    let place = first-front b.chunks (all_of bs) begun.0 in
    front-later (all_of (f ∷ fs)) (b.chunks
    ++ all_of bs) (some-front b.chunks (all_of bs) begun.0) up end t upto part (subst (λ (n : ℕ). n ≤ t) (sym place) begun.1) front
  where
    some-front : (ps ys : List Write) → 0 < length ps → 0 < length (ps ++ ys)
    some-front [] ys some = absurd (omega arith)
    some-front (p ∷ ps) ys some = omega arith

-- of the first of them and the later ones
front-first : (t end upto : ℕ) (ps ys : List Write) (part : Versions) → IsRisingAfter 0 (ps ++ ys) → IsRisingAfter t ys → upto ≤ first_time_or end ys
    → IsFront t upto (versions_upto (first_time_or end ys) ps) part
    → IsFront t upto (versions_upto end (ps ++ ys)) part
front-first t end upto ps [] part up later by front = subst (λ (ws : List Write). IsFront t upto (versions_upto end ws) part) (sym (append-nil ps)) front
front-first t end upto ps (y ∷ ys) part up later by front = front-earlier ps (y ∷ ys) (omega arith) up end t upto part later.0 by front

last-first : (t end : ℕ) (xs ps ys : List Write) → IsRisingAfter 0 (ps ++ ys) → last_time (xs ++ (ps ++ ys)) ≤ end → last_time ps ≤ first_time_or end ys
last-first t end xs [] ys up by = omega arith
last-first t end xs (p ∷ ps) [] up by =
    let same : last_time (xs ++ ((p ∷ ps) ++ [])) ≡ last_time (p ∷ ps) =
    last_time-back 0 xs ((p ∷ ps) ++ []) (omega arith) ∙ ap (λ (ws : List Write). last_time ws) (append-nil (p ∷ ps)) in
    omega (arith, same, by)
last-first t end xs (p ∷ ps) (y ∷ ys) up by = last-before 0 (p ∷ ps) (y ∷ ys) (omega arith) up

later-first : (t end : ℕ) (ys : List Write) → IsRisingAfter t ys → t < end → t < first_time_or end ys
later-first t end [] later before = before
later-first t end (y ∷ ys) later before = later.0

upto-first : (t end : ℕ) (xs ps ys : List Write) → IsRisingAfter t ys → last_time (xs ++ (ps ++ ys)) ≤ end → first_time_or end ys ≤ end
upto-first t end xs ps [] later by = omega arith
upto-first t end xs ps (y ∷ ys) later by =
    let same : last_time (xs ++ (ps ++ y ∷ ys)) ≡ last_time (y ∷ ys) =
    last_time-back 0 xs (ps ++ y ∷ ys) (omega (arith, length-append ps (y ∷ ys))) ∙ last_time-back 0 ps (y ∷ ys) (omega arith) in
    first-upto end t (y ∷ ys) later (omega (arith, same, by))

module _ {t : ℕ} {all rest : List (Shape Write)} (from : IsFrom t all rest) where
  pub parted : all_of all ≡ all_of from.front ++ all_of rest
  parted = ap all_of from.parts ∙ all_of-append from.front rest

  pub low_from : highest rest ≤ highest all
  low_from = rw from.parts (highest-append from.front rest)

  pub rising_from : IsRisingAfter 0 (all_of all) → IsRisingAfter 0 (all_of rest)
  rising_from rising = rising-back 0 (all_of from.front) (all_of rest) (rw parted at rising)

  pub ending_from : (end : ℕ) → IsRisingAfter 0 (all_of all) → find (ends_after t) (versions_upto end (all_of rest))
      ≡ find (ends_after t) (versions_upto end (all_of all))
  ending_from end rising =
      let F = all_of from.front in
      sym (
      ap (λ (ws : List Write). find (ends_after t) (versions_upto end ws)) parted
      ∙ ap (λ (vs : List (Version Value)). find (ends_after t) vs) (versions-append end F (all_of rest))
      ∙ find-past (ends_after t) (versions_upto (first_time_or end (all_of rest)) F) (versions_upto end (all_of rest))
      (ending-front t end from.front rest from.begun (rw parted at rising)))

  pub found_from : (end : ℕ) (o : Option Versions) → IsRisingAfter 0 (all_of all) → IsFound t (versions_upto end (all_of rest)) o
      → IsFound t (versions_upto end (all_of all)) o
  found_from end o rising found =
      let F = all_of from.front in
      subst (λ (vs : Versions). IsFound t vs o) (sym (ap (λ (ws : List Write). versions_upto end ws) parted ∙ versions-append end F (all_of rest)))
      (found-behind t (versions_upto (first_time_or end (all_of rest)) F) (versions_upto end (all_of rest)) o
      (ending-front t end from.front rest from.begun (rw parted at rising)) found)

  pub next_from : IsRisingAfter 0 (all_of all) → find (is_after t) (all_of rest) ≡ find (is_after t) (all_of all)
  next_from rising =
      sym (ap (λ (ws : List Write). find (is_after t) ws) parted
      ∙ find-past (is_after t) (all_of from.front) (all_of rest) (next-front t from.front rest from.begun (rw parted at rising)))

  pub rows_from : (end upto : ℕ) → IsRisingAfter 0 (all_of all) → rows (versions_upto end (all_of rest)) t upto ≡ rows (versions_upto end (all_of all)) t upto
  rows_from end upto rising =
      let F = all_of from.front in
      sym (
      ap (λ (ws : List Write). rows (versions_upto end ws) t upto) parted
      ∙ ap (λ (vs : Versions). rows vs t upto) (versions-append end F (all_of rest))
      ∙ rows-append t upto (versions_upto (first_time_or end (all_of rest)) F) (versions_upto end (all_of rest))
      ∙ ap (λ (l : Versions). l ++ rows (versions_upto end (all_of rest)) t upto) (rows-front t end upto from.front rest from.begun (rw parted at rising)))

module _ {t : ℕ} {all : List (Shape Write)} {b : Shape Write} {bs : List (Shape Write)} (from : IsFrom t all (b ∷ bs)) where
  pub value_from : value_at (all_of all) t ≡ value_at b.chunks t
  value_from =
      ap (λ (ws : List Write). value_at ws t) (parted from)
      ∙ value-front t from.front b bs from.begun
      ∙ value_after-later (value_at b.chunks t) (all_of bs) t from.later

  pub kept_from : IsRisingAfter 0 (all_of all) → kept_after t (all_of all) ≡ kept_after t b.chunks ++ all_of bs
  kept_from rising =
      ap (λ (ws : List Write). kept_after t ws) (parted from)
      ∙ kept-behind_front t from.front b bs from.begun (rw (parted from) at rising)
      ∙ kept-front t b.chunks (all_of bs) from.later

  pub front_from : (end upto : ℕ) (part : Versions) → IsRisingAfter 0 (all_of all) → upto ≤ first_time_or end (all_of bs)
      → IsFront t upto (versions_upto (first_time_or end (all_of bs)) b.chunks) part
      → IsFront t upto (versions_upto end (all_of all)) part
  front_from end upto part rising by front =
      subst (λ (ws : List Write). IsFront t upto (versions_upto end ws) part) (sym (parted from))
      (front-behind t end upto from.front b bs part from.begun (rw (parted from) at rising)
      (front-first t end upto b.chunks (all_of bs) part (rising_from from rising) from.later by front))

  pub last_from : (end : ℕ) → IsRisingAfter 0 (all_of all) → last_time (all_of all) ≤ end → last_time b.chunks ≤ first_time_or end (all_of bs)
  last_from end rising by =
      last-first t end (all_of from.front) b.chunks (all_of bs) (rising_from from rising) (subst (λ (ws : List Write). last_time ws ≤ end) (parted from) by)

  pub later_from : (end : ℕ) → t < end → t < first_time_or end (all_of bs)
  later_from end before = later-first t end (all_of bs) from.later before

  pub upto_from : (end : ℕ) → last_time (all_of all) ≤ end → first_time_or end (all_of bs) ≤ end
  upto_from end by = upto-first t end (all_of from.front) b.chunks (all_of bs) from.later (subst (λ (ws : List Write). last_time ws ≤ end) (parted from) by)

-- where as many are left, all are
pub same_from : {t : ℕ} {all rest : List (Shape Write)} → IsFrom t all rest → length rest ≡ length all → all ≡ rest
same_from {t} {all} {rest} from same = equal from.front from.parts
  where
    equal : (front : List (Shape Write)) → all ≡ front ++ rest → all ≡ rest
    equal [] is = is
    equal (f ∷ fs) is = let long : length all ≡ length (f ∷ fs ++ rest) =
        ap (λ (l : List (Shape Write)). length l) is in absurd (omega (arith, long, same, length-append fs rest))

-- ---- the first of some branches, and those behind it

module _ (rest : List (Shape Write)) {b : Shape Write} (some : 1 ≤ length rest) (is : b ≡ get_or rest 0 b) where
  versions_are : (end : ℕ) → versions_upto end (all_of rest) ≡ versions_upto (first_time_or end (all_of (behind rest))) b.chunks
      ++ versions_upto end (all_of (behind rest))
  versions_are end = ap (λ (ws : List Write). versions_upto end ws) (chunks_are rest some is) ∙ versions-append end b.chunks (all_of (behind rest))

  pub ending_first : (t end : ℕ) (v : Version Value) → find (ends_after t) (versions_upto (first_time_or end (all_of (behind rest))) b.chunks) ≡ Some v
      → find (ends_after t) (versions_upto end (all_of rest)) ≡ Some v
  ending_first t end v e =
      ap (λ (vs : Versions). find (ends_after t) vs) (versions_are end)
      ∙ find-found (ends_after t) (versions_upto (first_time_or end (all_of (behind rest))) b.chunks) (versions_upto end (all_of (behind rest))) v e

  pub ending_behind : (t end : ℕ) → find (ends_after t) (versions_upto (first_time_or end (all_of (behind rest))) b.chunks) ≡ None
      → find (ends_after t) (versions_upto end (all_of (behind rest))) ≡ find (ends_after t) (versions_upto end (all_of rest))
  ending_behind t end e =
      sym (ap (λ (vs : Versions). find (ends_after t) vs) (versions_are end)
      ∙ find-past (ends_after t) (versions_upto (first_time_or end (all_of (behind rest))) b.chunks) (versions_upto end (all_of (behind rest))) e)

  pub found_first : (t end : ℕ) (ps : Versions) → IsPartFrom t (versions_upto (first_time_or end (all_of (behind rest))) b.chunks) ps
      → IsPartFrom t (versions_upto end (all_of rest)) ps
  found_first t end ps part =
      subst (λ (vs : Versions). IsPartFrom t vs ps) (sym (versions_are end))
      (found-front t (versions_upto (first_time_or end (all_of (behind rest))) b.chunks) (versions_upto end (all_of (behind rest))) ps part)

  pub found_later : (t end : ℕ) (o : Option Versions) → find (ends_after t) (versions_upto (first_time_or end (all_of (behind rest))) b.chunks) ≡ None
      → IsFound t (versions_upto end (all_of (behind rest))) o
      → IsFound t (versions_upto end (all_of rest)) o
  found_later t end o none found =
      subst (λ (vs : Versions). IsFound t vs o) (sym (versions_are end))
      (found-behind t (versions_upto (first_time_or end (all_of (behind rest))) b.chunks) (versions_upto end (all_of (behind rest))) o none found)

  pub rows_first : (end a upto : ℕ) → rows (versions_upto end (all_of rest)) a upto
      ≡ rows (versions_upto (first_time_or end (all_of (behind rest))) b.chunks) a upto ++ rows (versions_upto end (all_of (behind rest))) a upto
  rows_first end a upto =
      ap (λ (vs : Versions). rows vs a upto) (versions_are end)
      ∙ rows-append a upto (versions_upto (first_time_or end (all_of (behind rest))) b.chunks) (versions_upto end (all_of (behind rest)))

  pub no_rows_late : (end a upto : ℕ) → IsRisingAfter 0 (all_of rest) → 0 < length b.chunks → upto ≤ first_time b.chunks
      → rows (versions_upto end (all_of rest)) a upto ≡ []
  no_rows_late end a upto rising long late =
      let place : first_time_or end (all_of rest) ≡ first_time b.chunks =
      ap (λ (ws : List Write). first_time_or end ws) (chunks_are rest some is) ∙ first-chunk end b.chunks (all_of (behind rest)) long in
      no-rows_from end a upto 0 (all_of rest) rising (subst (λ (n : ℕ). upto ≤ n) (sym place) late)

  pub behind_rising : IsRisingAfter 0 (all_of rest) → IsRisingAfter 0 (all_of (behind rest))
  behind_rising rising = rising-back 0 b.chunks (all_of (behind rest)) (rw (chunks_are rest some is) at rising)

-- where none is left, there is no version
pub none_left : (t end : ℕ) (rest : List (Shape Write)) → length rest < 1 → find (ends_after t) (versions_upto end (all_of rest)) ≡ None
none_left t end [] none = refl
none_left t end (b ∷ bs) none = absurd (omega (arith, none))

-- ---- a fork's branches, from the one on in which a time lies

module _ {self : Shape Write} {bs : List (Shape Write)} (fork : IsFork self bs) {t : ℕ} {rest : List (Shape Write)} (from : IsFrom t bs rest) where
  pub rest_low : highest rest < self.height
  rest_low = omega (arith, low_from from, fork.height)

  pub rest_rising : IsRisingAfter 0 (all_of rest)
  rest_rising = rising_from from fork.rising

  pub rest_next : find (is_after t) (all_of rest) ≡ find (is_after t) self.chunks
  rest_next = next_from from fork.rising ∙ ap (λ (ws : List Write). find (is_after t) ws) fork.writes

  pub rest_ending : (end : ℕ) → find (ends_after t) (versions_upto end (all_of rest)) ≡ find (ends_after t) (versions_upto end self.chunks)
  rest_ending end = ending_from from end fork.rising ∙ ap (λ (ws : List Write). find (ends_after t) (versions_upto end ws)) fork.writes

  pub rest_found : (end : ℕ) (o : Option Versions) → IsFound t (versions_upto end (all_of rest)) o → IsFound t (versions_upto end self.chunks) o
  rest_found end o found = subst (λ (ws : List Write). IsFound t (versions_upto end ws) o) fork.writes (found_from from end o fork.rising found)

  pub rest_rows : (end upto : ℕ) → rows (versions_upto end (all_of rest)) t upto ≡ rows (versions_upto end self.chunks) t upto
  rest_rows end upto = rows_from from end upto fork.rising ∙ ap (λ (ws : List Write). rows (versions_upto end ws) t upto) fork.writes

  module _ {b : Shape Write} (some : 1 ≤ length rest) (is : b ≡ get_or rest 0 b) where
    from-first : IsFrom t bs (b ∷ behind rest)
    from-first = subst (λ (l : List (Shape Write)). IsFrom t bs l) (rest_is rest some is) from

    pub lower : {h : ℕ} → h < b.height → h < self.height
    lower below = omega (arith, first_low rest some is, rest_low, below)

    pub fork_kept : kept_after t self.chunks ≡ kept_after t b.chunks ++ all_of (behind rest)
    fork_kept = ap (λ (ws : List Write). kept_after t ws) (sym fork.writes) ∙ kept_from from-first fork.rising

    pub fork_front : (end upto : ℕ) (part : Versions) → upto ≤ first_time_or end (all_of (behind rest))
        → IsFront t upto (versions_upto (first_time_or end (all_of (behind rest))) b.chunks) part
        → IsFront t upto (versions_upto end self.chunks) part
    fork_front end upto part by front =
        subst (λ (ws : List Write). IsFront t upto (versions_upto end ws) part) fork.writes (front_from from-first end upto part fork.rising by front)

    pub fork_last : (end : ℕ) → last_time self.chunks ≤ end → last_time b.chunks ≤ first_time_or end (all_of (behind rest))
    fork_last end by = last_from from-first end fork.rising (subst (λ (ws : List Write). last_time ws ≤ end) (sym fork.writes) by)

    pub fork_later : (end : ℕ) → t < end → t < first_time_or end (all_of (behind rest))
    fork_later end before = later_from from-first end before

    pub fork_upto : (end : ℕ) → last_time self.chunks ≤ end → first_time_or end (all_of (behind rest)) ≤ end
    fork_upto end by = upto_from from-first end (subst (λ (ws : List Write). last_time ws ≤ end) (sym fork.writes) by)

    -- where as many are left as there are, all are
    pub fork_whole : length rest ≡ length bs → self.chunks ≡ b.chunks ++ all_of (behind rest)
    fork_whole same = sym fork.writes ∙ ap all_of (same_from from same) ∙ (chunks_are rest some is)

    pub kept_rising : IsRisingAfter 0 (kept_after t b.chunks ++ all_of (behind rest))
    kept_rising = subst (IsRisingAfter 0) fork_kept (kept_after-rising 0 t self.chunks (subst (IsRisingAfter 0) fork.writes fork.rising))

-- ---- a fork's branches, and a chunk behind them

module _ {self : Shape Write} {bs : List (Shape Write)} (fork : IsFork self bs) (t n : ℕ) (after : BeginAfter t (drop n bs)) where
  pub none_begun : n ≡ 0 → value_at self.chunks t ≡ None
  none_begun none =
      ap (λ (ws : List Write). value_at ws t) (sym fork.writes)
      ∙ value_after-later None (all_of bs) t (later-all t bs (subst (λ (k : ℕ). BeginAfter t (drop k bs)) none after) fork.rising)

  module _ {b : Shape Write} (some : 0 < n) (within : n ≤ length bs) (is : b ≡ get_or bs (n - 1) b) where
    pub begun_lower : {h : ℕ} → h < b.height → h < self.height
    begun_lower below = omega (arith, fork.height, at_low bs (n - 1) b (omega (arith, some, within)) is, below)

    pub begun_value : (0 < n → BeginBy t (drop (n - 1) bs)) → value_at self.chunks t ≡ value_at b.chunks t
    begun_value begun = ap (λ (ws : List Write). value_at ws t) (sym fork.writes) ∙ value_from (from-number t n bs b some within is begun after fork.rising)

module _ {self : Shape Write} {bs : List (Shape Write)} (fork : IsFork self bs) (p : List Write) where
  -- beside the last
  pub later_writes : (later : List Write) → later ≡ p → all_of bs ++ later ≡ self.chunks ++ p
  later_writes later is = ap (λ (ws : List Write). all_of bs ++ ws) is ∙ ap (λ (ws : List Write). ws ++ p) fork.writes

  module _ {last : Shape Write} (some : 1 ≤ length bs) (is : last ≡ get_or bs (length bs - 1) last) where
    pub last_lower : {h : ℕ} → h < last.height → h < self.height
    last_lower below = omega (arith, fork.height, at_low bs (length bs - 1) last (omega (arith, some)) is, below)

    whole : self.chunks ++ p ≡ all_of (before bs) ++ (last.chunks ++ p)
    whole =
        ap (λ (ws : List Write). ws ++ p) (sym fork.writes ∙ ap all_of (last-of bs last some is) ∙ all_of-append (before bs) (last ∷ [])
        ∙ ap (λ (ws : List Write). all_of (before bs) ++ ws) (append-nil last.chunks))
        ∙ append_assoc (all_of (before bs)) last.chunks p

    pub last_rising : IsRisingAfter 0 (self.chunks ++ p) → IsRisingAfter 0 (last.chunks ++ p)
    last_rising rising = rising-back 0 (all_of (before bs)) (last.chunks ++ p) (subst (IsRisingAfter 0) whole rising)

    -- in the last
    pub longer_writes : (longer : List Write) → longer ≡ last.chunks ++ p → all_of (before bs) ++ longer ≡ self.chunks ++ p
    longer_writes longer same = ap (λ (ws : List Write). all_of (before bs) ++ ws) same ∙ sym whole
