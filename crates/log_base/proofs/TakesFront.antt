-- The base that is computed takes the place of the front.
use Rattle.std.proofs.Common.{◌≡◌, ℕ, ◌^◌, ◌<◌, ◌≤◌, max, nat_le, List, [], ◌∷◌, ◌++◌, map, take, drop, Option, refl, ap, sym, subst, ◌∙◌, arith}
use Rattle.std.specs.Prelude.{filter}
use Rattle.std.specs.List.{AllByRecursion}
use Rattle.std.proofs.lemmas.Bool.Decides.{nat_tests}
use Rattle.std.proofs.lemmas.List.{map-append, take-map, take-append-drop}
use Rattle.floors.specs.declared.floors.OwnFloor.{OwnFloor}
use Rattle.floors.specs.Floors.{AreRising}
use Rattle.law_image.specs.Reading.{Head, Slot}
use Rattle.law_image.specs.Log.{heads_of, last_time_after, last_time, archive_mark, reclaim_mark, floor_of, AreRisingAfter, AllCome, MayComeInHeap}
use Rattle.law_image.specs.HeapPlans.{marks_of}
use Rattle.law_image.proofs.Logs.{AreTold, told-all}
use Rattle.law_log.specs.Chains.{LogChain, Base, told, told_behind, told_from, reclaimed_by, commits_in, AreMarksTo, AreFloorsTo, KeepsChainRules, IsBase}
use Rattle.law_log.specs.Chains.{IsUpTo, TakesPlace, MayAllFollow}
use Rattle.law_log.proofs.Telling.{tells-all}
use Rattle.log_entries.specs.declared.entry.AnchorName.{AnchorName}
use Rattle.log_entries.specs.declared.entry.Archive.{Archive}
use Rattle.log_entries.specs.declared.entry.Roll.{Roll}
use Rattle.law_log_layout.specs.HeapLog.{PlacedChain, floor_told, base_told, chain_told, chains_told}
use Rattle.log_recovery.specs.Live.{LiveChainValue, live_of}
use Rattle.log_base.specs.Bases.{front_len, runs_from, own_from, relation_floor, base_on}
use Rattle.log_base.proofs.Fronts.{front-early, rest-late, rest-no_base}
use Rattle.log_base.proofs.RunsLeft.{marks-left, marks-rise}
use Rattle.log_base.proofs.FloorsLeft.{base-floors, floors-left, floors-rise, floors-told, floors-to, are-floors}
use Rattle.log_base.proofs.NamesTold.{heads-rise, rising-filtered, last-filtered}

-- ---- the log in two parts

pub parts-told : (names : List Head) (n : ℕ) (chains : List PlacedChain)
    → chains_told names (take n chains) ++ chains_told names (drop n chains) ≡ chains_told names chains
parts-told names n chains =
    let f = λ (c : PlacedChain). chain_told names c.entry in
    sym (map-append f (take n chains) (drop n chains)) ∙ ap (map f) (take-append-drop n chains)

may-front : (mark last : ℕ) (before : List Slot) (front back : List LogChain) → MayAllFollow mark last before (front ++ back)
    → MayAllFollow mark last before front
may-front mark last before [] back may = tt
may-front mark last before (chain ∷ chains) back may =
    (may.0, may-front mark (last_time_after last (commits_in chain)) (told_behind mark before chain) chains back may.1)

any-relation : (own : List OwnFloor) → AllByRecursion (λ (o : OwnFloor). 0 ≤ o.relation) own
any-relation [] = tt
any-relation (o ∷ own) = (omega arith, any-relation own)

told-none : AreTold []
told-none = record { archived = omega arith; floors = λ relation. omega arith; last = omega arith; reclaimed = omega arith }

below-both : (a b c n : ℕ) → a ≤ max b c → b < n → c < n → a < n
below-both a b c n le left right = grind (arith, nat_tests)

module _ (names new : List Head) (chains : List PlacedChain) (upto : ℕ) (anchors : AnchorName) (roll : Option Roll)
    (rules : KeepsChainRules (chains_told names chains)) (mark_is : upto ≡ archive_mark (told (chains_told names chains))) (some : 0 < upto)
    (new_is : new ≡ filter (λ (head : Head). nat_le head.time upto) (heads_of (told (chains_told names chains)))) where
  abbrev all : List LogChain
  all = chains_told names chains

  abbrev n : ℕ
  n = front_len upto (map live_of chains)

  abbrev front : List PlacedChain
  front = take n chains

  abbrev live : List LiveChainValue
  live = map live_of front

  abbrev old : ℕ
  old = reclaimed_by all

  le : old ≤ upto
  le = omega (arith, rules.archived, mark_is)

  so : AllCome MayComeInHeap [] (told all)
  so = (tells-all all rules.each).each

  up : AllByRecursion (IsUpTo upto) (chains_told names front)
  up = front-early upto old 0 [] names chains rules.each

  may : MayAllFollow old 0 [] (chains_told names front)
  may =
      may-front old 0 [] (chains_told names front) (chains_told names (drop n chains))
      (subst (MayAllFollow old 0 []) (sym (parts-told names n chains)) rules.each)

  marks : marks_of (told_from old [] (chains_told names front)) ≡ map (λ (a : Archive). a.upto) (runs_from [] live)
  marks = marks-left old [] [] names front refl

  rise : AreMarksTo upto 0 (map (λ (a : Archive). a.upto) (runs_from [] live))
  rise = subst (AreMarksTo upto 0) marks (marks-rise upto old 0 [] (chains_told names front) le (omega arith) up may tt)

  abbrev own : List OwnFloor
  own = own_from [] live

  own-up : AreRising own
  own-up = floors-rise [] front tt

  floors : AreFloorsTo upto 0 (map floor_told (map relation_floor own))
  floors = are-floors upto 0 own own-up (any-relation own) (floors-to upto old 0 [] [] names front le (omega arith) up may tt)

  abbrev base : Base
  base = base_told new (base_on live upto anchors roll)

  in-range : IsBase base
  in-range =
      let heads = heads_of (told all) in
      let tells = told-all [] (told all) told-none so in
      record {
        some = some;
        most = subst (λ (t : ℕ). t < 2 ^ 63) (sym mark_is)
            (below-both (archive_mark (told all)) (last_time (told all)) (reclaim_mark (told all)) (2 ^ 63) tells.archived tells.last tells.reclaimed);
        rising = subst (AreRisingAfter 0) (sym new_is) (rising-filtered (λ (head : Head). nat_le head.time upto) 0 heads (heads-rise [] (told all) so));
        named = subst (λ (l : List Head). last_time_after 0 l ≤ upto) (sym new_is) (last-filtered upto 0 heads (omega arith));
        marks = rise;
        floors = floors;
      }

  pub takes-front : TakesPlace (chains_told names front) (chains_told names (drop n chains)) base
  takes-front =
      let parts = parts-told names n chains in
      record {
        upto = mark_is ∙ ap (λ (cs : List LogChain). archive_mark (told cs)) (sym parts);
        front_ends = up;
        back_begins = rest-late upto names chains;
        no_base = rest-no_base upto names chains rules.each;
        names = new_is ∙ ap (λ (cs : List LogChain). filter (λ (head : Head). nat_le head.time upto) (heads_of (told cs))) (sym parts);
        marks = sym marks ∙ ap (λ (cs : List LogChain). marks_of (told_from (reclaimed_by cs) [] (chains_told names front))) (sym parts);
        floors = λ relation.
            ap (λ (f : ℕ → ℕ). f relation) (base-floors (λ q. 0) base)
            ∙ floors-told (λ q. 0) own relation own-up
            ∙ ap (λ (f : ℕ → ℕ). f relation) (floors-left old [] [] names front refl)
            ∙ ap (λ (cs : List LogChain). floor_of (told_from (reclaimed_by cs) [] (chains_told names front)) relation) (sym parts);
        in_range = in-range;
      }

  -- so it is with the chains as memory keeps them
  pub takes-live : TakesPlace (chains_told names front) (chains_told names (drop n chains))
      (base_told new (base_on (take n (map live_of chains)) upto anchors roll))
  takes-live =
      subst (λ (cs : List LiveChainValue). TakesPlace (chains_told names front) (chains_told names (drop n chains))
      (base_told new (base_on cs upto anchors roll))) (sym (take-map live_of n chains)) takes-front
