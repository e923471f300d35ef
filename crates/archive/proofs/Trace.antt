-- What queries read, one look after another.
use Rattle.std.proofs.Common.{◌≡◌, inl, inr, ℕ, ◌+◌, ◌≤◌, ◌<◌, Bool, true, false, IsTrue, cond, List, [], ◌∷◌, ◌++◌, length, Option, Some, None, refl, sym, ◌∙◌}
use Rattle.std.proofs.Common.{ap, subst, arith, append_assoc}
use Rattle.std.specs.Prelude.{Result, Ok, Err, MatchResult}
use Rattle.std.specs.List.{slice_get}
use Rattle.std.proofs.lemmas.List.{append-nil}
use Rattle.std.proofs.lemmas.Option.{slice_get_within}
use Rattle.std.proofs.lemmas.Bool.{cases_lt}
use Rattle.std.proofs.lemmas.Bool.Decides.{nat_tests}
use Rattle.history.specs.declared.key.Key.{Key}
use Rattle.history.specs.declared.time.Version.{Version}
use Rattle.law_image.specs.Values.{Value}
use Rattle.archive.specs.declared.run.RunEntry.{RunEntry}
use Rattle.archive.specs.declared.head.Head.{Head}
use Rattle.archive.specs.declared.head.Placed.{Placed}
use Rattle.archive.specs.declared.wanted.Wanted.{Wanted}
use Rattle.archive.specs.declared.fault.ArchiveFault.{ArchiveFault}
use Rattle.archive.specs.declared.fault.ArchiveFault.TheVariants.{Device, NoMemory, Damaged}
use Rattle.archive.specs.Answers.{precedes, follows, is_wanted, skip_to}
use Rattle.archive.specs.Searches.{Answers, is_before, may_follow, may_follow_last, IsFaultOf}
use Rattle.archive.specs.Damages.{placed_at, IsHeadSound, IsHeadBroken, IsValueBroken, IfDamaged}
use Rattle.archive.specs.Traces.{nth_head, last_of, high_of, IsSearched, IsFoundIn, IsFindBroken, NoneBefore, IsFindDamaged, HasPart, GivesRow, GoesOn, Beside}
use Rattle.archive.specs.Traces.{Skips, IsSkipBroken, StandsAt, IsWalk, joined, IsWalkedTo, IsWalked, IsWalkBroken, AtNext, AtItsValue, BehindIt, AreWalked}
use Rattle.archive.specs.Traces.{IsOfRuns, IsDamagedRun}
use Rattle.archive.proofs.Walking.{out_behind, skip_cases}

-- what a fault tells of a run that is damaged
pub map_damaged : {P Q : ℕ → Type 0} (fault : ArchiveFault) → ((start : ℕ) → P start → Q start) → IfDamaged P fault → IfDamaged Q fault
map_damaged Device goes is = tt
map_damaged NoMemory goes is = tt
map_damaged (Damaged start) goes is = goes start is

pub map_answer : {T : Type 0} {P Q : T → Type 0} {A B : ℕ → Type 0} (result : Result T ArchiveFault) → ((x : T) → P x → Q x) → ((start : ℕ) → A start → B start)
    → MatchResult result P (IfDamaged A) → MatchResult result Q (IfDamaged B)
map_answer (Ok x) goes breaks is = goes x is
map_answer (Err fault) goes breaks is = map_damaged fault breaks is

pub map_found : {T : Type 0} {P Q : T → Type 0} (result : Result T ArchiveFault) → ((x : T) → P x → Q x) → Answers result P → Answers result Q
map_found (Ok x) goes is = goes x is
map_found (Err fault) goes is = is

-- what was read later was there before
pub sound_there : (area later : List ℕ) (run : RunEntry) (last other : Option Placed) (n : ℕ) (placed : Placed) → later ≡ area → last ≡ other
    → (placed ≡ placed_at later run n) × IsHeadSound later run last n → (placed ≡ placed_at area run n) × IsHeadSound area run other n
sound_there area later run last other n placed same same_last is =
    subst (λ (xs : List ℕ). (placed ≡ placed_at xs run n) × IsHeadSound xs run other n) same
    (subst (λ (o : Option Placed). (placed ≡ placed_at later run n) × IsHeadSound later run o n) same_last is)

pub broken_there : (area later : List ℕ) (run : RunEntry) (last other : Option Placed) (n : ℕ) → later ≡ area → last ≡ other
    → IsHeadBroken later run last n → IsHeadBroken area run other n
broken_there area later run last other n same same_last is =
    subst (λ (xs : List ℕ). IsHeadBroken xs run other n) same (subst (λ (o : Option Placed). IsHeadBroken later run o n) same_last is)

pub placed_again : (area later : List ℕ) (run : RunEntry) (n : ℕ) (placed : Placed) → later ≡ area → placed ≡ placed_at area run n → placed
    ≡ placed_at later run placed.number
placed_again area later run n placed same is =
    let number : placed.number ≡ n = ap (λ (p : Placed). p.number) is in
    subst (λ (k : ℕ). placed ≡ placed_at later run k) (sym number) (subst (λ (xs : List ℕ). placed ≡ placed_at xs run n) (sym same) is)

-- ---- one version

-- the first that doesn't precede was read, and it said so
first_fails : (area : List ℕ) (run : RunEntry) (key : Key) (time : ℕ) (read : List ℕ) (n : ℕ) → n ≡ high_of area run key time read → n < run.slot.records
    → precedes key time (nth_head area run n) ≡ false
first_fails area run key time [] n is less = absurd (omega arith)
first_fails area run key time (m ∷ read) n is less =
    by_test (λ before. first_fails area run key time read n before less) (precedes key time (nth_head area run m)) refl where
      by_test : (n ≡ high_of area run key time read → precedes key time (nth_head area run n) ≡ false) → (b : Bool)
          → precedes key time (nth_head area run m) ≡ b
          → precedes key time (nth_head area run n) ≡ false
      by_test rest true test = rest (is ∙ ap (λ (b : Bool). cond b (high_of area run key time read) m) test)
      by_test rest false test = let same : n ≡ m =
          is ∙ ap (λ (b : Bool). cond b (high_of area run key time read) m) test in ap (λ (k : ℕ). precedes key time (nth_head area run k)) same ∙ test

not_over : (key : Key) (time : ℕ) (head : Head) → precedes key time head ≡ false → head.key ≡ key → time < head.to
not_over key time head fails same =
    let relation : head.key.relation ≡ key.relation = ap (λ (k : Key). k.relation) same in
    let number : head.key.record ≡ key.record = ap (λ (k : Key). k.record) same in
    grind (arith, nat_tests)

pub not_ended : {area : List ℕ} {run : RunEntry} {key : Key} {time : ℕ} {read : List ℕ} {n : ℕ} → IsSearched area run key time read n → n < run.slot.records
    → (nth_head area run n).key ≡ key → time < (nth_head area run n).to
not_ended {area} {run} {key} {time} {read} {n} searched less same =
    not_over key time (nth_head area run n) (first_fails area run key time read n searched.high less) same

module _ (area : List ℕ) (runs : List RunEntry) (key : Key) (time i : ℕ) (run : RunEntry) (at : slice_get runs i
    ≡ Some run) (before : NoneBefore area runs key time i) where
  pub none_more : (time < run.slot.upto → IsFoundIn area run key time None) → NoneBefore area runs key time (i + 1)
  none_more here n other less at_n beyond = elim (cases_lt n i) [
    | inl lower ↦ before n other lower at_n beyond
    | inr upper ↦
        let same : n ≡ i = omega arith in
        let found : slice_get runs i ≡ Some other = subst (λ (k : ℕ). slice_get runs k ≡ Some other) same at_n in
        let one : run ≡ other = cc in
        subst (λ (r : RunEntry). IsFoundIn area r key time None) one (here (subst (λ (r : RunEntry). time < r.slot.upto) (sym one) beyond))
  ]

  pub find_damaged : (fault : ArchiveFault) → time < run.slot.upto → IsFaultOf run fault → IfDamaged (λ _. IsFindBroken area run key time) fault
      → IfDamaged (IsFindDamaged area runs key time) fault
  find_damaged Device beyond of is = tt
  find_damaged NoMemory beyond of is = tt
  find_damaged (Damaged start) beyond of is = record { number = i; run = run; before = before; at = at; beyond = beyond; here = of; broken = is }

-- ---- the walk over the records of a run

begun : (area : List ℕ) (run : RunEntry) (n : ℕ) {last : Option Placed} → IsHeadSound area run last n → (nth_head area run n).from < (nth_head area run n).to
begun area run n sound = let range = sound.in_range in grind (arith, nat_tests)

-- the next of one that is wanted doesn't precede
next_not_before : (w : Wanted) (p q : Placed) → q.number ≡ p.number + 1 → q.head.from < q.head.to → IsTrue (may_follow p q) → IsTrue (is_wanted w p.head)
    → precedes w.first w.a q.head ≡ false
next_not_before w p q next stands behind wanted =
    let before : is_before p.head q.head ≡ true = grind (arith, nat_tests) in
    let not_before : precedes w.first w.a p.head ≡ false = grind (arith, nat_tests) in
    grind (arith, nat_tests)

-- nor does the first that it doesn't skip
skip_not_before : (w : Wanted) (p q : Head) (key : Key) → skip_to w p ≡ Some key → IsTrue (is_wanted w p) → precedes key w.a q ≡ false → precedes w.first w.a q
    ≡ false
skip_not_before w p q key skips wanted behind =
    let not_before : precedes w.first w.a p ≡ false = grind (arith, nat_tests) in
    elim (skip_cases w p key skips) [
      | inl ended ↦
          let relation : p.key.relation ≡ key.relation = ap (λ (k : Key). k.relation) ended.1 in
          let number : p.key.record ≡ key.record = ap (λ (k : Key). k.record) ended.1 in
          grind (arith, nat_tests)
      | inr lasts ↦
          let relation : p.key.relation ≡ key.relation = ap (λ (k : Key). k.relation) lasts.1 in
          let number : p.key.record + 1 ≡ key.record = ap (λ (k : Key). k.record) lasts.1 in
          grind (arith, nat_tests)
    ]

-- a head that is sound beside another is sound
pub sound_alone : {area : List ℕ} {run : RunEntry} {last : Option Placed} {n : ℕ} → IsHeadSound area run last n → IsHeadSound area run None n
sound_alone sound = record { few = sound.few; there = sound.there; place = sound.place; in_range = sound.in_range; follows = refl }

module _ {R : Type 0} where
  module _ (shown : ℕ → Version Value → R) (area : List ℕ) (w : Wanted) (run : RunEntry) (old : List R) where
    -- a walk meets none that precedes: so one that isn't wanted is behind those that are
    walk_behind : (n : ℕ) (last : Option Placed) (rows : List R) → IsWalkedTo shown area w run n last rows → IsHeadSound area run last n
        → is_wanted w (nth_head area run n) ≡ false → IsTrue (follows w.last w.b (nth_head area run n))
    walk_behind n last rows way sound out = out_behind w (nth_head area run n) (not_before way.met way.stands way.walk) out where
      not_before : (met : List (ℕ × List R)) → StandsAt area w run way.read way.first met n last → IsWalk shown area w run way.read way.first met
          → precedes w.first w.a (nth_head area run n) ≡ false
      not_before [] stands walk = first_fails area run w.first w.a way.read n (stands.0 ∙ way.searched.high) sound.few
      not_before (m ∷ before) (Beside none next is) walk =
          next_not_before w (placed_at area run m.0) (placed_at area run n) next (begun area run n sound)
          (subst (λ (o : Option Placed). IsTrue (may_follow_last o (placed_at area run n))) is sound.follows) walk.1
      not_before (m ∷ before) (Skips key read skips searched is) walk =
          skip_not_before w (nth_head area run m.0) (nth_head area run n) key skips walk.1 (first_fails area run key w.a (read ++ m.0
          ∷ []) n searched.high sound.few)

    -- rows that a walk has given so far, behind those of before it
    pub record IsWalking (last : Option Placed) (number : ℕ) (rows : List R) : Type 0 where
      pub found : List R
      pub walked : IsWalkedTo shown area w run number last found
      pub are : rows ≡ old ++ found

    pub walking_first : (last : Option Placed) (number : ℕ) → (read : List ℕ) × IsSearched area run w.first w.a read number × (last ≡ last_of area run read)
        → IsWalking last number old
    walking_first last number bound = record {
      found = [];
      walked = record { read = bound.0; first = number; searched = bound.1; met = []; walk = tt; stands = (refl, bound.2); are = refl };
      are = sym (append-nil old);
    }

    module _ (last : Option Placed) (n : ℕ) (rows : List R) (way : IsWalking last n rows) where
      pub walking_past : run.slot.records ≡ n → (found : List R) × IsWalked shown area w run found × (rows ≡ old ++ found)
      walking_past past = (way.found, record { number = n; last = last; walked = way.walked; end = inl past }, way.are)

      pub walking_head : (later : List ℕ) (fault : ArchiveFault) → later ≡ area → n < run.slot.records → IfDamaged (λ _. IsHeadBroken later run last n) fault
          → IfDamaged (λ _. IsWalkBroken shown area w run) fault
      walking_head later fault same less =
          map_damaged fault (λ start is. AtNext n last way.found way.walked less (broken_there area later run last last n same refl is))

      -- the next head is there
      module _ (later : List ℕ) (placed : Placed) (same : later ≡ area) (is : (placed ≡ placed_at later run n) × IsHeadSound later run last n) where
        in_area : (placed ≡ placed_at area run n) × IsHeadSound area run last n
        in_area = sound_there area later run last last n placed same refl is

        number_is : placed.number ≡ n
        number_is = ap (λ (p : Placed). p.number) in_area.0

        pub walking_at : (then : List ℕ) → then ≡ area → (placed ≡ placed_at then run placed.number) × IsHeadSound then run last placed.number
        walking_at then same_then = (
          placed_again area then run n placed same_then in_area.0,
          subst (λ (k : ℕ). IsHeadSound then run last k) (sym number_is) (subst (λ (xs : List ℕ). IsHeadSound xs run last n) (sym same_then) in_area.1),
        )

        pub walking_ends : is_wanted w placed.head ≡ false → (found : List R) × IsWalked shown area w run found × (rows ≡ old ++ found)
        walking_ends out = (
          way.found,
          record {
            number = n;
            last = last;
            walked = way.walked;
            end = inr (in_area.1, walk_behind n last way.found way.walked in_area.1 (subst (λ (p : Placed). is_wanted w p.head ≡ false) in_area.0 out));
          },
          way.are,
        )

        pub walking_value : (then : List ℕ) (fault : ArchiveFault) → then ≡ area → IsTrue (is_wanted w placed.head)
            → IfDamaged (λ _. HasPart w placed.head × IsValueBroken then run placed.number) fault → IfDamaged (λ _. IsWalkBroken shown area w run) fault
        walking_value then fault same_then wanted = map_damaged fault (λ start broken.
            AtItsValue n last way.found way.walked in_area.1
            (subst (λ (p : Placed). IsTrue (is_wanted w p.head)) in_area.0 wanted)
            (subst (λ (p : Placed). HasPart w p.head) in_area.0 broken.0)
            (subst (λ (k : ℕ). IsValueBroken area run k) number_is (subst (λ (xs : List ℕ). IsValueBroken xs run placed.number) same_then broken.1)))

        -- and its row
        module _ (then : List ℕ) (row : List R) (same_then : then
            ≡ area) (wanted : IsTrue (is_wanted w placed.head)) (gives : GivesRow shown then w run placed.number row) where
          wanted_there : IsTrue (is_wanted w (nth_head area run n))
          wanted_there = subst (λ (p : Placed). IsTrue (is_wanted w p.head)) in_area.0 wanted

          gives_there : GivesRow shown area w run n row
          gives_there =
              subst (λ (k : ℕ). GivesRow shown area w run k row) number_is (subst (λ (xs : List ℕ). GivesRow shown xs w run placed.number row) same_then gives)

          pub walking_more : (after : List ℕ) (next : ℕ) (behind : Option Placed) (new : List R) → after ≡ area → GoesOn after w run placed.number next behind
              → new ≡ rows ++ row → IsWalking behind next new
          walking_more after next behind new same_after goes grown = record {
            found = way.found ++ row;
            walked = record {
              read = way.walked.read;
              first = way.walked.first;
              searched = way.walked.searched;
              met = (n, row) ∷ way.walked.met;
              walk = ((last, way.walked.stands, in_area.1), wanted_there, gives_there, way.walked.walk);
              stands = subst (λ (k : ℕ). GoesOn area w run k next behind) number_is
                  (subst (λ (xs : List ℕ). GoesOn xs w run placed.number next behind) same_after goes);
              are = ap (λ (xs : List R). xs ++ row) way.walked.are;
            };
            are = grown ∙ ap (λ (xs : List R). xs ++ row) way.are ∙ append_assoc old way.found row;
          }

          pub walking_skip : (after : List ℕ) (fault : ArchiveFault) → after ≡ area → IfDamaged (λ _. IsSkipBroken after w run placed.number) fault
              → IfDamaged (λ _. IsWalkBroken shown area w run) fault
          walking_skip after fault same_after = map_damaged fault (λ start broken.
              BehindIt n last way.found row way.walked in_area.1 wanted_there gives_there
              (subst (λ (k : ℕ). IsSkipBroken area w run k) number_is (subst (λ (xs : List ℕ). IsSkipBroken xs w run placed.number) same_after broken)))

  -- ---- the runs of a log

  -- the rows of the first runs
  pub record IsThrough (Gives : RunEntry → List R → Type 0) (time : ℕ) (runs : List RunEntry) (i : ℕ) (rows : List R) : Type 0 where
    pub parts : List (List R)
    pub each : AreWalked Gives time runs parts
    pub count : length parts ≡ i
    pub are : rows ≡ joined parts

  few_parts : (Gives : RunEntry → List R → Type 0) (time : ℕ) (runs : List RunEntry) (parts : List (List R)) → AreWalked Gives time runs parts
      → length parts ≤ length runs
  few_parts Gives time runs [] each = omega arith
  few_parts Gives time runs (part ∷ parts) each = omega (arith, slice_get_within runs (length parts) each.0.0 each.0.1)

  module _ (Gives : RunEntry → List R → Type 0) (time : ℕ) (runs : List RunEntry) (i : ℕ) (rows : List R) (way : IsThrough Gives time runs i rows) where
    pub through_done : length runs ≤ i → IsOfRuns Gives time runs rows
    through_done past = record {
      parts = way.parts;
      each = way.each;
      all = omega (arith, past, way.count, few_parts Gives time runs way.parts way.each);
      are = way.are;
    }

    module _ (run : RunEntry) (at : slice_get runs i ≡ Some run) where
      there : slice_get runs (length way.parts) ≡ Some run
      there = subst (λ (k : ℕ). slice_get runs k ≡ Some run) (sym way.count) at

      pub through_past : run.slot.upto ≤ time → IsThrough Gives time runs (i + 1) rows
      through_past past = record {
        parts = [] ∷ way.parts;
        each = ((run, there, inl (past, refl)), way.each);
        count = omega (arith, way.count);
        are = way.are ∙ sym (append-nil (joined way.parts));
      }

      pub through_more : (found new : List R) → time < run.slot.upto → Gives run found → new ≡ rows ++ found → IsThrough Gives time runs (i + 1) new
      through_more found new beyond gives grown = record {
        parts = found ∷ way.parts;
        each = ((run, there, inr (beyond, gives)), way.each);
        count = omega (arith, way.count);
        are = grown ∙ ap (λ (xs : List R). xs ++ found) way.are;
      }

      pub through_broken : (Breaks : RunEntry → Type 0) (fault : ArchiveFault) → time < run.slot.upto → IsFaultOf run fault → IfDamaged (λ _. Breaks run) fault
          → IfDamaged (IsDamagedRun Gives Breaks time runs) fault
      through_broken Breaks Device beyond of is = tt
      through_broken Breaks NoMemory beyond of is = tt
      through_broken Breaks (Damaged start) beyond of is =
          record { parts = way.parts; each = way.each; run = run; at = there; beyond = beyond; here = of; broken = is }
