-- What a search of rolls that are right finds.
use Rattle.std.proofs.Common.{ℕ, zero, suc, ◌≡◌, ◌≢◌, ◌⊎◌, inl, inr, ◌+◌, ◌-◌, ◌*◌, ◌/◌, ◌^◌, ◌≤◌, ◌<◌, ◌==◌, ◌&&◌, nat_lt, nat_le, Bool, true, false, cond}
use Rattle.std.proofs.Common.{List, [], ◌∷◌, ◌++◌, length, map, take, drop, refl, sym, ◌∙◌, ap, subst, arith, length-append}
use Rattle.std.specs.Prelude.{Option, Some, None, option_map, option_and_then, if◌then◌else◌, filter, flat_map}
use Rattle.std.specs.List.{AllByRecursion, slice_range}
use Rattle.std.proofs.Math.Seq.{take-append_seam, drop-append_seam}
use Rattle.std.proofs.lemmas.List.{length-drop, take-take, drop-take, drop-drop}
use Rattle.std.proofs.lemmas.Bool.{cases_lt, cases_eq}
use Rattle.std.proofs.lemmas.Bool.Decides.{nat_tests}
use Rattle.byteorder.specs.Endian.{little_bytes, little_number}
use Rattle.byteorder.specs.Numbers.{little_from-bytes}
use Rattle.wire.specs.Numbers.{u64_bytes}
use Rattle.disk.specs.Parts.{HoldsPart}
use Rattle.law_image.specs.Reading.{Head}
use Rattle.archive.specs.declared.fault.ArchiveFault.{ArchiveFault}
use Rattle.archive.specs.declared.fault.ArchiveFault.TheVariants.{Device, NoMemory, Damaged}
use Rattle.archive.specs.Searches.{IsRefusal}
use Rattle.archive.specs.Damages.{IfDamaged}
use Rattle.log_entries.specs.declared.entry.Roll.{Roll}
use Rattle.law_layout.proofs.Lists.{both}
use Rattle.law_log_layout.specs.HeapLog.{name_bytes, IsName, IsNamedBefore, AreNamedInOrder}
use Rattle.log_names.specs.declared.name.Name.{Name}
use Rattle.log_names.specs.Standing.{name_in, name_at, name_count, roll_end, is_in_time, may_follow, halved, walked, first_in, times_behind}
use Rattle.log_names.specs.Standing.{times_there, IsBroken}
use Rattle.log_names.specs.Standing.{PastEnd, BadName}
use Rattle.log_names.specs.Rolls.{times_named, AreUpTo, HoldsNames}

-- ---- what stands there

-- a commit's name as a reader has it
abbrev pub name_of : Head → Name
name_of head = record { label = head.label; time = head.time }

-- these names stand there from the n-th on
abbrev pub AreRead : (ℕ → Name) → ℕ → List Head → Type 0
AreRead names n [] = Unit {0}
AreRead names n (head ∷ heads) = (names n ≡ name_of head) × AreRead names (n + 1) heads

number_8 : (n : ℕ) (rest : List ℕ) → n < 2 ^ 64 → little_number 8 (little_bytes 8 n ++ rest) ≡ n
number_8 n rest lt = little_from-bytes 8 0 n rest ∙ omega arith

name-again : (head : Head) → IsName head → name_in (name_bytes head) ≡ name_of head
unfolding name_in u64_bytes
name-again head is =
    let label : little_number 8 (little_bytes 8 head.label ++ little_bytes 8 head.time) ≡ head.label = number_8 head.label (little_bytes 8 head.time) is.0 in
    let time : little_number 8 (little_bytes 8 head.time ++ []) ≡ head.time = number_8 head.time [] (omega (arith, is.2)) in
    λ i. record { label = label i; time = time i }

name-long : (head : Head) → length (name_bytes head) ≡ 16
unfolding u64_bytes
name-long head = refl

pub names-long : (heads : List Head) → length (flat_map name_bytes heads) ≡ 16 * length heads
names-long [] = refl
names-long (head ∷ heads) =
    omega (arith, length-append (name_bytes head) (flat_map name_bytes heads), name-long head, names-long heads)

-- the front of a part, and its rest
part-front : (start : ℕ) (xs ys area : List ℕ) → HoldsPart start (xs ++ ys) area → slice_range area start (start + length xs) ≡ xs
part-front start xs ys area held =
    let long = length-append xs ys in
    let front : start + length xs - start ≡ length xs = omega arith in
    let whole : start + length (xs ++ ys) - start ≡ length (xs ++ ys) = omega arith in
    ap (λ (k : ℕ). take k (drop start area)) front
    ∙ sym (take-take (length xs) (length (xs ++ ys)) (drop start area) (omega (arith, long)))
    ∙ ap (λ (k : ℕ). take (length xs) (take k (drop start area))) (sym whole)
    ∙ ap (take (length xs)) held.is
    ∙ take-append_seam xs ys

part-rest : (start : ℕ) (xs ys area : List ℕ) → HoldsPart start (xs ++ ys) area → HoldsPart (start + length xs) ys area
part-rest start xs ys area held =
    let long = length-append xs ys in
    let rest : start + length xs + length ys - (start + length xs) ≡ length ys = omega arith in
    let whole : start + length (xs ++ ys) - start ≡ length xs + length ys = omega (arith, long) in
    record {
      inside = omega (arith, held.inside, long);
      is = ap (λ (k : ℕ). take k (drop (start + length xs) area)) rest
          ∙ ap (take (length ys)) (sym (drop-drop (length xs) start area))
          ∙ sym (drop-take (length xs) (length ys) (drop start area))
          ∙ ap (λ (k : ℕ). drop (length xs) (take k (drop start area))) (sym whole)
          ∙ ap (drop (length xs)) held.is
          ∙ drop-append_seam xs ys;
    }

are-read : (area : List ℕ) (start n : ℕ) (heads : List Head) → AllByRecursion IsName heads → HoldsPart (start + 16 * n) (flat_map name_bytes heads) area
    → AreRead (name_at area start) n heads
unfolding name_at
are-read area start n [] are held = tt
are-read area start n (head ∷ heads) are held =
    let long = name-long head in
    let rest = flat_map name_bytes heads in
    let front : slice_range area (start + 16 * n) (start + 16 * n + 16) ≡ name_bytes head =
    ap (λ (k : ℕ). slice_range area (start + 16 * n) (start + 16 * n + k)) (sym long) ∙ part-front (start + 16 * n) (name_bytes head) rest area held in
    let next : start + 16 * n + length (name_bytes head) ≡ start + 16 * (n + 1) = omega (arith, long) in (
      ap name_in front ∙ name-again head are.0,
      are-read area start (n + 1) heads are.1
          (subst (λ (k : ℕ). HoldsPart k rest area) next (part-rest (start + 16 * n) (name_bytes head) rest area held)),
    )

read-drop : (names : ℕ → Name) (k n : ℕ) (heads : List Head) → AreRead names n heads → AreRead names (n + k) (drop k heads)
read-drop names zero n heads are = let same : n ≡ n + 0 = omega arith in subst (λ (m : ℕ). AreRead names m heads) same are
read-drop names (suc k) n [] are = tt
read-drop names (suc k) n (head ∷ heads) are =
    let same : n + 1 + k ≡ n + suc k = omega arith in
    subst (λ (m : ℕ). AreRead names m (drop k heads)) same (read-drop names k (n + 1) heads are.1)

all-drop : (P : Head → Type 0) (k : ℕ) (heads : List Head) → AllByRecursion P heads → AllByRecursion P (drop k heads)
all-drop P zero heads all = all
all-drop P (suc k) [] all = tt
all-drop P (suc k) (head ∷ heads) all = all-drop P k heads all.1

order-drop : (k : ℕ) (heads : List Head) → AreNamedInOrder heads → AreNamedInOrder (drop k heads)
order-drop zero heads up = up
order-drop (suc k) [] up = tt
order-drop (suc k) (head ∷ heads) up = order-drop k heads up.1

-- ---- what is so at each place

-- a time of a commit, no later than this one
abbrev IsTimed : ℕ → Head → Type 0
IsTimed upto head = (0 < head.time) × (head.time ≤ upto)

timed-name : (upto : ℕ) (head : Head) → IsTimed upto head → is_in_time upto (name_of head) ≡ true
timed-name upto head is = let low = is.0 in let high = is.1 in grind (arith, nat_tests)

-- what holds of each of these names holds at each place
at-place : (names : ℕ → Name) (P : Name → Type 0) (heads : List Head) (n : ℕ) → AreRead names n heads → AllByRecursion (λ (head : Head). P (name_of head)) heads
    → (i : ℕ) → n ≤ i → i < n + length heads → P (names i)
at-place names P [] n are all i le less = absurd (omega arith)
at-place names P (head ∷ heads) n are all i le less =
    elim (cases_eq i n) [
      | inl same ↦ subst (λ (k : ℕ). P (names k)) (sym same) (subst P (sym are.0) all.0)
      | inr other ↦ at-place names P heads (n + 1) are.1 all.1 i (omega (arith, other)) (omega arith)
    ]

-- and so the other way round
of-place : (names : ℕ → Name) (P : Name → Type 0) (heads : List Head) (n : ℕ) → AreRead names n heads
    → ((i : ℕ) → n ≤ i → i < n + length heads → P (names i)) → AllByRecursion (λ (head : Head). P (name_of head)) heads
of-place names P [] n are at = tt
of-place names P (head ∷ heads) n are at = (
  subst P are.0 (at n (omega arith) (omega arith)),
  of-place names P heads (n + 1) are.1 (λ i le less. at i (omega arith) (omega arith)),
)

label-above : (head : Head) (heads : List Head) → AllByRecursion (IsNamedBefore head) heads
    → AllByRecursion (λ (other : Head). head.label ≤ (name_of other).label) heads
label-above head [] all = tt
label-above head (other ∷ heads) all = (by all.0, label-above head heads all.1) where
  by : IsNamedBefore head other → head.label ≤ other.label
  by (inl less) = omega arith
  by (inr same) = omega (arith, same.0)

labels-rise : (names : ℕ → Name) (heads : List Head) (n : ℕ) → AreRead names n heads → AreNamedInOrder heads
    → (i j : ℕ) → n ≤ i → i ≤ j → j < n + length heads → (names i).label ≤ (names j).label
labels-rise names [] n are up i j low le less = absurd (omega arith)
labels-rise names (head ∷ heads) n are up i j low le less =
    elim (cases_eq i n) [
      | inl first ↦
          elim (cases_eq j n) [
            | inl same ↦ let e : (names i).label ≡ (names j).label = ap (λ (k : ℕ). (names k).label) (first ∙ sym same) in omega (arith, e)
            | inr other ↦
                let e : (names i).label ≡ head.label = ap (λ (k : ℕ). (names k).label) first ∙ ap (λ (m : Name). m.label) are.0 in
                let far = at-place names (λ (m : Name). head.label ≤ m.label) heads (n + 1) are.1 (label-above head heads up.0) j (omega (arith, other))
                (omega arith) in
                omega (arith, e, far)
          ]
      | inr other ↦ labels-rise names heads (n + 1) are.1 up.1 i j (omega (arith, other)) le (omega arith)
    ]

-- ---- the search

-- all names before this place have a lesser label, and no other has
pub record IsFirst (names : ℕ → Name) (label count n : ℕ) : Type 0 where
  pub within : n ≤ count
  pub below : (i : ℕ) → i < n → (names i).label < label
  pub above : (i : ℕ) → n ≤ i → i < count → label ≤ (names i).label

module _ (names : ℕ → Name) (upto label count : ℕ) (timed : (i : ℕ) → i < count → is_in_time upto (names i) ≡ true)
    (rise : (i j : ℕ) → i ≤ j → j < count → (names i).label ≤ (names j).label) where
  step : (steps low high : ℕ) (below : Bool) → low < high → high ≤ count → nat_lt (names (low + (high - low) / 2)).label label ≡ below
      → halved names upto label (suc steps) low high
      ≡ halved names upto label steps (if below then low + (high - low) / 2 + 1 else low) (if below then high else low + (high - low) / 2)
  step steps low high below less within test =
      let first : nat_lt low high ≡ true = grind (arith, nat_tests) in
      let sound : is_in_time upto (names (low + (high - low) / 2)) ≡ true = timed (low + (high - low) / 2) (omega arith) in
      λ i. if first i
      then (if sound i
      then halved names upto label steps (if test i then low + (high - low) / 2 + 1 else low) (if test i then high else low + (high - low) / 2)
      else None)
      else Some low

  ended : (steps low high : ℕ) → high ≤ low → halved names upto label steps low high ≡ Some low
  ended zero low high past = refl
  ended (suc steps) low high past =
      let below = nat_lt (names (low + (high - low) / 2)).label label in
      let first : nat_lt low high ≡ false = grind (arith, nat_tests) in
      λ i. if first i
      then (if is_in_time upto (names (low + (high - low) / 2))
      then halved names upto label steps (if below then low + (high - low) / 2 + 1 else low) (if below then high else low + (high - low) / 2)
      else None)
      else Some low

  at-end : (steps low high : ℕ) → low ≤ high → high ≤ count → high ≤ low → ((i : ℕ) → i < low → (names i).label < label)
      → ((i : ℕ) → high ≤ i → i < count → label ≤ (names i).label) → (n : ℕ) × (halved names upto label steps low high ≡ Some n) × IsFirst names label count n
  at-end steps low high order within past below above = (
    low,
    ended steps low high past,
    record {
      within = omega arith;
      below = below;
      above = λ i le less. above i (omega arith) less;
    },
  )

  halves : (steps low high : ℕ) → low ≤ high → high ≤ count → high - low ≤ steps → ((i : ℕ) → i < low → (names i).label < label)
      → ((i : ℕ) → high ≤ i → i < count → label ≤ (names i).label) → (n : ℕ) × (halved names upto label steps low high ≡ Some n) × IsFirst names label count n
  halves zero low high order within enough below above = at-end zero low high order within (omega arith) below above
  halves (suc steps) low high order within enough below above =
      elim (cases_lt low high) [
        | inl less ↦
            let middle = low + (high - low) / 2 in
            elim (cases_lt (names middle).label label) [
              | inl lesser ↦
                  let test : nat_lt (names middle).label label ≡ true = grind (arith, nat_tests) in
                  let rest = halves steps (middle + 1) high (omega arith) within (omega arith)
                  (λ i small. let up = rise i middle (omega arith) (omega arith) in omega (arith, up, lesser)) above in
                  (rest.0, step steps low high true less within test ∙ rest.1, rest.2)
              | inr greater ↦
                  let test : nat_lt (names middle).label label ≡ false = grind (arith, nat_tests) in
                  let rest = halves steps low middle (omega arith) (omega arith) (omega arith) below
                  (λ i le small. let up = rise middle i le small in omega (arith, up, greater)) in
                  (rest.0, step steps low high false less within test ∙ rest.1, rest.2)
            ]
        | inr past ↦ at-end (suc steps) low high order within past below above
      ]

-- ---- the walk

-- the first of these may follow what was read last
abbrev MayGoOn : Option Name → List Head → Type 0
MayGoOn last [] = Unit {0}
MayGoOn last (head ∷ heads) = may_follow last (name_of head) ≡ true

next-follows : (head other : Head) → IsNamedBefore head other → may_follow (Some (name_of head)) (name_of other) ≡ true
next-follows head other (inl less) = grind (arith, nat_tests)
next-follows head other (inr same) = let label = same.0 in let time = same.1 in grind (arith, nat_tests)

goes-on : (head : Head) (heads : List Head) → AllByRecursion (IsNamedBefore head) heads → MayGoOn (Some (name_of head)) heads
goes-on head [] all = tt
goes-on head (other ∷ heads) all = next-follows head other all.0

-- one name more
named-own : (label : ℕ) (head : Head) (heads : List Head) → head.label ≡ label → times_named label (head ∷ heads) ≡ head.time ∷ times_named label heads
named-own label head heads is =
    let test : (head.label == label) ≡ true = grind (arith, nat_tests) in
    λ i. map (λ (h : Head). h.time) (cond (test i) (head ∷ filter (λ (h : Head). h.label == label) heads) (filter (λ (h : Head). h.label == label) heads))

named-other : (label : ℕ) (head : Head) (heads : List Head) → head.label ≢ label → times_named label (head ∷ heads) ≡ times_named label heads
named-other label head heads other =
    let test : (head.label == label) ≡ false = grind (arith, nat_tests) in
    λ i. map (λ (h : Head). h.time) (cond (test i) (head ∷ filter (λ (h : Head). h.label == label) heads) (filter (λ (h : Head). h.label == label) heads))

none-above : (label least : ℕ) (heads : List Head) → label < least → AllByRecursion (λ (head : Head). least ≤ (name_of head).label) heads
    → times_named label heads ≡ []
none-above label least [] less all = refl
none-above label least (head ∷ heads) less all =
    named-other label head heads (λ e. absurd (omega (arith, e, all.0, less))) ∙ none-above label least heads less all.1

none-below : (names : ℕ → Name) (label : ℕ) (k n : ℕ) (heads : List Head) → AreRead names n heads → ((i : ℕ) → i < n + k → (names i).label < label)
    → times_named label heads ≡ times_named label (drop k heads)
none-below names label zero n heads are below = refl
none-below names label (suc k) n [] are below = refl
none-below names label (suc k) n (head ∷ heads) are below =
    let small = below n (omega arith) in
    let same : (names n).label ≡ head.label = ap (λ (m : Name). m.label) are.0 in
    named-other label head heads (λ e. absurd (omega (arith, e, small, same)))
    ∙ none-below names label k (n + 1) heads are.1 (λ i less. below i (omega arith))

module _ (names : ℕ → Name) (upto label : ℕ) where
  passed : (head : Head) (last : Option Name) (n : ℕ) → names n ≡ name_of head → IsTimed upto head → may_follow last (name_of head) ≡ true
      → (is_in_time upto (names n) && may_follow last (names n)) ≡ true
  passed head last n is timed follows =
      ap (λ (m : Name). is_in_time upto m && may_follow last m) is
      ∙ ap (λ (b : Bool). b && may_follow last (name_of head)) (timed-name upto head timed) ∙ follows

  goes : (left n : ℕ) (last : Option Name) (own : Bool) → (is_in_time upto (names n) && may_follow last (names n)) ≡ true → ((names n).label == label) ≡ own
      → walked names upto label (suc left) n last
      ≡ (if own then option_map (λ (times : List ℕ). (names n).time ∷ times) (walked names upto label left (n + 1) (Some (names n))) else Some [])
  goes left n last own sound test =
      λ i. if sound i
      then (if test i then option_map (λ (times : List ℕ). (names n).time ∷ times) (walked names upto label left (n + 1) (Some (names n))) else Some [])
      else None

  walks : (heads : List Head) (n : ℕ) (last : Option Name) → AreRead names n heads → AllByRecursion (IsTimed upto) heads → AreNamedInOrder heads
      → AllByRecursion (λ (head : Head). label ≤ (name_of head).label) heads → MayGoOn last heads
      → walked names upto label (length heads) n last ≡ Some (times_named label heads)
  walks [] n last are timed up above on = refl
  walks (head ∷ heads) n last are timed up above on =
      elim (cases_eq head.label label) [
        | inl same ↦
            let test : ((names n).label == label) ≡ true = ap (λ (m : Name). m.label == label) are.0 ∙ (grind (arith, nat_tests)) in
            let rest = walks heads (n + 1) (Some (name_of head)) are.1 timed.1 up.1 above.1 (goes-on head heads up.0) in
            goes (length heads) n last true (passed head last n are.0 timed.0 on) test
            ∙ ap (λ (m : Name). option_map (λ (times : List ℕ). m.time ∷ times) (walked names upto label (length heads) (n + 1) (Some m))) are.0
            ∙ ap (option_map (λ (times : List ℕ). head.time ∷ times)) rest
            ∙ ap Some (sym (named-own label head heads same))
        | inr other ↦
            let test : ((names n).label == label) ≡ false = ap (λ (m : Name). m.label == label) are.0 ∙ (grind (arith, nat_tests)) in
            let greater : label < head.label = omega (arith, other, above.0) in
            let none = none-above label head.label heads greater (label-above head heads up.0) in
            goes (length heads) n last false (passed head last n are.0 timed.0 on) test
            ∙ ap Some (sym (named-other label head heads other ∙ none))
      ]

-- ---- one roll

all-timed : (upto : ℕ) (heads : List Head) → AllByRecursion IsName heads → AreUpTo upto heads → AllByRecursion (IsTimed upto) heads
all-timed upto heads are early = both IsName (λ (head : Head). head.time ≤ upto) (IsTimed upto) heads (λ head is le. (is.1, le)) are early

timed-names : (upto : ℕ) (heads : List Head) → AllByRecursion (IsTimed upto) heads
    → AllByRecursion (λ (head : Head). is_in_time upto (name_of head) ≡ true) heads
timed-names upto [] all = tt
timed-names upto (head ∷ heads) all = (timed-name upto head all.0, timed-names upto heads all.1)

starts : (heads : List Head) → MayGoOn None heads
starts [] = tt
starts (head ∷ heads) = refl

module _ (area : List ℕ) (upto label : ℕ) (roll : Roll) (heads : List Head) (holds : HoldsNames area upto roll heads) where
  abbrev names : ℕ → Name
  names = name_at area roll.start

  many : name_count roll ≡ length heads
  many = omega (arith, holds.stored.length_is)

  read : AreRead names 0 heads
  read =
      let start : roll.start ≡ roll.start + 16 * 0 = omega arith in
      are-read area roll.start 0 heads holds.stored.each (subst (λ (k : ℕ). HoldsPart k (flat_map name_bytes heads) area) start holds.held)

  timed : AllByRecursion (IsTimed upto) heads
  timed = all-timed upto heads holds.stored.each holds.early

  first : (n : ℕ) × (first_in area upto label roll ≡ Some n) × IsFirst names label (name_count roll) n
  first =
      halves names upto label (name_count roll)
      (λ i less. at-place names (λ (m : Name). is_in_time upto m ≡ true) heads 0 read (timed-names upto heads timed) i (omega arith)
      (omega (arith, many, less)))
      (λ i j le less. labels-rise names heads 0 read holds.stored.in_order i j (omega arith) le (omega (arith, many, less)))
      (name_count roll) 0 (name_count roll) (omega arith) (omega arith) (omega arith)
      (λ i less. absurd (omega arith)) (λ i le less. absurd (omega arith))

  behind : (n : ℕ) → IsFirst names label (name_count roll) n → times_behind area upto label roll n ≡ Some (times_named label heads)
  behind n is =
      let rest = drop n heads in
      let left : name_count roll - n ≡ length rest = omega (arith, length-drop n heads, many) in
      let there = read-drop names n 0 heads read in
      let at_n : 0 + n ≡ n = omega arith in
      let are : AreRead names n rest = subst (λ (k : ℕ). AreRead names k rest) at_n there in
      let above = of-place names (λ (m : Name). label ≤ m.label) rest n are
      (λ i le less. is.above i le (omega (arith, less, length-drop n heads, many, is.within))) in
      ap (λ (k : ℕ). walked names upto label k n None) left
      ∙ walks names upto label rest n None are (all-drop (IsTimed upto) n heads timed) (order-drop n heads holds.stored.in_order) above (starts rest)
      ∙ ap Some (sym (none-below names label n 0 heads read (λ i less. is.below i (omega (arith, less)))))

  -- the search finds the times of the label
  pub right_finds : times_there area upto label roll ≡ Some (times_named label heads)
  unfolding times_there
  right_finds = ap (option_and_then (times_behind area upto label roll)) (first).1 ∙ behind (first).0 (first).2

  -- and meets nothing that breaks a rule
  pub right_whole : IsBroken area upto label roll → ⊥
  right_whole (PastEnd short) = omega (arith, short, holds.held.inside, names-long heads, holds.stored.length_is)
  right_whole (BadName none) = let no : Some (times_named label heads) ≡ None = sym right_finds ∙ none in cc

-- a fault where nothing is damaged is a refusal
pub refused : {P : ℕ → Type 0} (fault : ArchiveFault) → ((start : ℕ) → P start → ⊥) → IfDamaged P fault → IsRefusal fault
refused Device never is = tt
refused NoMemory never is = tt
refused (Damaged start) never is = never start is

-- what was found is what the roll has
pub found_right : (area : List ℕ) (upto label : ℕ) (roll : Roll) (heads : List Head) (times old into : List ℕ) → HoldsNames area upto roll heads
    → times_there area upto label roll ≡ Some times → into ≡ old ++ times → into ≡ old ++ times_named label heads
found_right area upto label roll heads times old into holds there is =
    let same : Some times ≡ Some (times_named label heads) = sym there ∙ right_finds area upto label roll heads holds in
    let equal : times ≡ times_named label heads = cc in
    is ∙ ap (λ (l : List ℕ). old ++ l) equal
