-- The times of a label are those of the history.
use Rattle.std.proofs.Common.{◌≡◌, ℕ, ◌==◌, ◌<◌, ◌≤◌, nat_lt, nat_le, zero, suc, Bool, true, false, cond, List, [], ◌∷◌, ◌++◌, map, filter, Result}
use Rattle.std.proofs.Common.{Ok, Err, refl}
use Rattle.std.proofs.Common.{arith, ap, sym, subst, append-nil, ◌∙◌}
use Rattle.std.specs.Prelude.{IsTrue}
use Rattle.std.specs.List.{AllByRecursion}
use Rattle.std.specs.declared.alloc.Global.{Global}
use Rattle.std.specs.declared.vec.Vec.{Vec}
use Rattle.std.proofs.lemmas.Bool.Decides.{nat_tests}
use Rattle.std.proofs.lemmas.List.{map-append}
use Rattle.std.proofs.lemmas.List.Elements.{filter-append}
use Rattle.history.specs.Answers as answers
use Rattle.history.specs.Histories.{Commit, History, HasRisingTimes}
use Rattle.history.specs.Machine.{Machine}
use Rattle.history.proofs.Filters.{filter-filter}
use Rattle.history.proofs.Orders.{not_le, not_lt}
use Rattle.law_image.specs.Values.{Value}
use Rattle.law_image.specs.Reading.{Head}
use Rattle.law_image.specs.StandsFor.{head_of}
use Rattle.law_image.proofs.Standing.{heads-rising}
use Rattle.law_log.specs.Chains.{later_heads}
use Rattle.law_log.proofs.Based.{parted}
use Rattle.timequery.specs.declared.fault.QueryFault.{QueryFault}
use Rattle.timequery.specs.declared.fault.QueryFault.TheVariants.{BeforeKept, NotYet, EmptyInterval, Device, NoMemory, Damaged, NeedsDisk, Stranger}
use Rattle.log_names.specs.Rolls.{times_named}
use Rattle.log_store.specs.Names.{AnswersTimes, early_times, late_times, names_mark}
use Rattle.log_store.specs.Values.{LogStoreValue}
use Rattle.law_commits.proofs.Tickets.{late-times}
use Rattle.law_refinement.proofs.RunsKept.{machine-rises}
use Rattle.law_log_queries.specs.Archive.{NamesStand, Stands}
use Rattle.law_log_queries.specs.Names.{AreTimesFrom, SaysTimes}

-- ---- lists of names

-- the times of a label in a history are those of its commits' names
times-named : (label : ℕ) (h : History Value) → answers.times_of h label ≡ times_named label (map head_of h)
times-named label [] = refl
times-named label (c ∷ cs) = by-label (c.label == label) (times-named label cs)
  where
    by-label : (b : Bool) → answers.times_of cs label ≡ times_named label (map head_of cs)
        → map (λ (d : Commit Value). d.time) (cond b (c ∷ filter (λ (d : Commit Value). d.label == label) cs)
        (filter (λ (d : Commit Value). d.label == label) cs))
        ≡ map (λ (head : Head). head.time) (cond b (head_of c ∷ filter (λ (head : Head). head.label == label) (map head_of cs))
        (filter (λ (head : Head). head.label == label) (map head_of cs)))
    by-label true rest = ap (λ (l : List ℕ). c.time ∷ l) rest
    by-label false rest = rest

times-append : (label : ℕ) (xs ys : List Head) → times_named label (xs ++ ys) ≡ times_named label xs ++ times_named label ys
times-append label xs ys =
    ap (map (λ (head : Head). head.time)) (filter-append (λ (head : Head). head.label == label) xs ys)
    ∙ map-append (λ (head : Head). head.time) (filter (λ (head : Head). head.label == label) xs) (filter (λ (head : Head). head.label == label) ys)

-- those times of a label that pass a test are those of the names that pass it
picked-named : (test : ℕ → Bool) (label : ℕ) (heads : List Head)
    → filter test (times_named label heads) ≡ times_named label (filter (λ (head : Head). test head.time) heads)
picked-named test label [] = refl
picked-named test label (x ∷ xs) = by-both (x.label == label) (test x.time) refl refl (picked-named test label xs)
  where
    by-both : (own passes : Bool) → (x.label == label) ≡ own → test x.time ≡ passes
        → filter test (times_named label xs) ≡ times_named label (filter (λ (head : Head). test head.time) xs)
        → filter test (times_named label (x ∷ xs)) ≡ times_named label (filter (λ (head : Head). test head.time) (x ∷ xs))
    by-both true true own passes rest = rw (own, passes) (rw own (ap (λ (l : List ℕ). x.time ∷ l) rest))
    by-both true false own passes rest = rw (own, passes) rest
    by-both false true own passes rest = rw (own, passes) (rw own rest)
    by-both false false own passes rest = rw (own, passes) rest

early-named : (from label : ℕ) (heads : List Head)
    → filter (λ (time : ℕ). nat_le time from) (times_named label heads) ≡ times_named label (filter (λ (head : Head). nat_le head.time from) heads)
early-named from label heads = picked-named (λ (time : ℕ). nat_le time from) label heads

late-named : (from label : ℕ) (heads : List Head) → filter (nat_lt from) (times_named label heads) ≡ times_named label (later_heads from heads)
late-named from label heads = picked-named (nat_lt from) label heads

-- none of these is so early
none-early : (from mark : ℕ) (heads : List Head) → from ≤ mark → AllByRecursion (λ (head : Head). mark < head.time) heads
    → filter (λ (head : Head). nat_le head.time from) heads ≡ []
none-early from mark [] low late = refl
none-early from mark (x ∷ xs) low late =
    let test : nat_le x.time from ≡ false = not_le (omega (arith, low, late.0)) in
    rw test (none-early from mark xs low late.1)

-- all commits of a history are later than 0
late-commits : (t label : ℕ) (h : History Value) → HasRisingTimes t h → filter (nat_lt 0) (answers.times_of h label) ≡ answers.times_of h label
late-commits t label [] rising = refl
late-commits t label (c ∷ cs) rising = by-label (c.label == label) (late-commits c.time label cs rising.2)
  where
    late : nat_lt 0 c.time ≡ true
    late = let later = rising.0 in let some : 0 < c.time = omega (arith, later) in grind (arith, nat_tests)

    by-label : (b : Bool)
        → filter (nat_lt 0) (map (λ (d : Commit Value). d.time) (filter (λ (d : Commit Value). d.label == label) cs))
        ≡ map (λ (d : Commit Value). d.time) (filter (λ (d : Commit Value). d.label == label) cs)
        → filter (nat_lt 0) (map (λ (d : Commit Value). d.time)
        (cond b (c ∷ filter (λ (d : Commit Value). d.label == label) cs) (filter (λ (d : Commit Value). d.label == label) cs)))
        ≡ map (λ (d : Commit Value). d.time)
        (cond b (c ∷ filter (λ (d : Commit Value). d.label == label) cs) (filter (λ (d : Commit Value). d.label == label) cs))
    by-label true rest = rw late (ap (λ (l : List ℕ). c.time ∷ l) rest)
    by-label false rest = rest

-- ---- what is told

-- commits that rise are those up to a time, and then the later ones
all-parted : (from label : ℕ) (h : History Value) → HasRisingTimes 0 h
    → filter (λ (time : ℕ). nat_le time from) (answers.times_of h label) ++ filter (nat_lt from) (answers.times_of h label) ≡ answers.times_of h label
all-parted from label h up =
    let heads = map head_of h in
    let whole = times-named label h in
    (λ i. filter (λ (time : ℕ). nat_le time from) (whole i) ++ filter (nat_lt from) (whole i))
    ∙ (λ i. early-named from label heads i ++ late-named from label heads i)
    ∙ sym (times-append label (filter (λ (head : Head). nat_le head.time from) heads) (later_heads from heads))
    ∙ ap (times_named label) (parted from 0 heads (heads-rising 0 h up))
    ∙ sym whole

module _ (tells : Bool) (v : LogStoreValue) (m : Machine Value) (label : ℕ) (stands : Stands tells v m) where
  abbrev from : ℕ
  from = v.commits.reclaimed

  -- memory has the later ones
  memory : late_times v label ≡ filter (nat_lt from) (answers.times_of m.published label)
  memory = late-times v.commits m label (stands.store).memory

  rises : HasRisingTimes 0 m.published
  rises = machine-rises m (stands.store).machine

  -- the names of the rolls, and then those in memory
  all-times : (n : NamesStand v m.published) → early_times v (times_named label n.names) ++ late_times v label ≡ answers.times_of m.published label
  all-times n =
      let whole : answers.times_of m.published label ≡ times_named label n.names ++ times_named label n.others =
      times-named label m.published ∙ ap (times_named label) n.are ∙ times-append label n.names n.others in
      let others : filter (λ (time : ℕ). nat_le time from) (times_named label n.others) ≡ [] =
      early-named from label n.others ∙ ap (times_named label) (none-early from (names_mark v) n.others ((stands.store).marks).base n.late) in
      let first : early_times v (times_named label n.names) ≡ filter (λ (time : ℕ). nat_le time from) (answers.times_of m.published label) =
      sym (append-nil (early_times v (times_named label n.names)))
      ∙ ap (λ (l : List ℕ). early_times v (times_named label n.names) ++ l) (sym others)
      ∙ sym (filter-append (λ (time : ℕ). nat_le time from) (times_named label n.names) (times_named label n.others))
      ∙ ap (filter (λ (time : ℕ). nat_le time from)) (sym whole) in
      (λ i. first i ++ memory i) ∙ all-parted from label m.published rises

  -- what is told behind earlier ones are the later ones, whatever those are
  told-from : (early found : List ℕ) → AllByRecursion (λ (time : ℕ). (0 < time) × (time ≤ from)) early → found ≡ early ++ late_times v label
      → AreTimesFrom from found (answers.times_of m.published label)
  told-from early found bound is = by-mark from refl
    where
      none-past : (n : ℕ) (ts : List ℕ) → AllByRecursion (λ (time : ℕ). (0 < time) × (time ≤ n)) ts → filter (nat_lt n) ts ≡ []
      none-past n [] all = refl
      none-past n (t ∷ ts) all = let test : nat_lt n t ≡ false = not_lt all.0.1 in rw test (none-past n ts all.1)

      none-at : (n : ℕ) → n ≡ 0 → (ts : List ℕ) → AllByRecursion (λ (time : ℕ). (0 < time) × (time ≤ n)) ts → ts ≡ []
      none-at n none [] all = refl
      none-at n none (t ∷ ts) all = absurd (let some = all.0.0 in let low = all.0.1 in omega (arith, none, some, low))

      late : filter (nat_lt from) found ≡ filter (nat_lt from) (answers.times_of m.published label)
      late =
          ap (filter (nat_lt from)) is
          ∙ filter-append (nat_lt from) early (late_times v label)
          ∙ (λ i. none-past from early bound i ++ filter (nat_lt from) (memory i))
          ∙ filter-filter (nat_lt from) (nat_lt from) (answers.times_of m.published label) (λ t test. test)

      by-mark : (n : ℕ) → from ≡ n → AreTimesFrom n found (answers.times_of m.published label)
      by-mark zero none =
          is ∙ ap (λ (l : List ℕ). l ++ late_times v label) (none-at from none early bound) ∙ memory
          ∙ ap (λ (k : ℕ). filter (nat_lt k) (answers.times_of m.published label)) none
          ∙ late-commits 0 label m.published rises
      by-mark (suc n) some =
          subst (λ (k : ℕ). filter (nat_lt k) found ≡ filter (nat_lt k) (answers.times_of m.published label)) some late

  pub times-answered : (new : LogStoreValue) (answer : Result (Vec ℕ Global) QueryFault) → AnswersTimes tells v label answer new
      → SaysTimes tells true from (answers.times_of m.published label) answer
  times-answered new (Ok found) says = (
    λ told. let n = stands.names (told refl) in says.only n.rolls n.names (told refl) n.lie ∙ all-times n,
    told-from (says.late).0 found.items (says.late).1 (says.late).2,
  )
  times-answered new (Err (BeforeKept floor)) says = says.refused
  times-answered new (Err (NotYet last)) says = says.refused
  times-answered new (Err EmptyInterval) says = says.refused
  times-answered new (Err Device) says = refl
  times-answered new (Err NoMemory) says = tt
  times-answered new (Err (Damaged start)) says = (refl, λ told. let n = stands.names told in says.only n.rolls n.names told n.lie)
  times-answered new (Err NeedsDisk) says = says.refused
  times-answered new (Err Stranger) says = says.refused
