-- A base in the place of the log's front: the image then reads as after a reclaim.
use Rattle.std.proofs.Common.{◌≡◌, ℕ, ◌≤◌, Bool, true, false, List, [], ◌∷◌, ◌++◌, map, refl, sym, ap, subst, ◌∙◌, arith}
use Rattle.std.specs.Prelude.{filter, flat_map, nat_lt}
use Rattle.std.specs.List.{AllByRecursion}
use Rattle.std.proofs.lemmas.List.{append-nil, map-append}
use Rattle.std.proofs.lemmas.List.Elements.{filter-append}
use Rattle.std.proofs.lemmas.Grind.{flat_map-append}
use Rattle.std.proofs.lemmas.Bool.Decides.{nat_tests}
use Rattle.history.proofs.Filters.{filter-filter}
use Rattle.history.proofs.Orders.{is_lt, not_lt}
use Rattle.history.specs.Histories.{History}
use Rattle.law_image.specs.Values.{Value}
use Rattle.law_image.specs.Reading.{Head, Reading, Member, Slot}
use Rattle.law_image.specs.Log.{last_time, reclaim_mark, archive_mark, is_in_heap}
use Rattle.law_image.specs.StandsFor.{StandsFor, IsHeapLog}
use Rattle.law_image.specs.Plans.{IsReclaimPlan}
use Rattle.law_image.specs.HeapPlans.{with_base, IsBased}
use Rattle.law_image.proofs.Forms.{in-heap}
use Rattle.law_image.proofs.HeapSteps.{base-stands_for}
use Rattle.law_log.specs.Chains.{OfBase, OfGroup, OfRun, OfFloor, LogChain, told, reclaimed_by, KeepsChainRules, members_in, members_of, reading_of}
use Rattle.law_log.specs.Chains.{IsUpTo, IsNoBase}
use Rattle.law_log.proofs.Telling.{tells-all}
use Rattle.law_log.proofs.Based.{base-placed}
use Rattle.law_layout.specs.Runs.{StoredRun}
use Rattle.law_layout.proofs.Lists.{all_of_back}
use Rattle.wire.specs.declared.slot.Run.{Run}
use Rattle.law_log_layout.specs.HeapLog.{KeepsShares}
use Rattle.log_extents.specs.Chains.{first_or}
use Rattle.log_entries.specs.declared.entry.Roll.{Roll}
use Rattle.log_entries.specs.declared.entry.Entry.{Entry}
use Rattle.log_entries.specs.declared.entry.Entry.TheVariants as entries
use Rattle.law_log_layout.specs.HeapLog.{PlacedChain, HeapLog, IsPlaced, base_told, chain_told, chains_told, runs_from, rolls_in, IsLogOf}
use Rattle.law_log_layout.specs.Reclaims.{NewBase, with_new_base, MayTakePlace, based_reading}
use Rattle.law_log_layout.proofs.GroupJoins.{runs-split}

-- ---- the chains that stay

-- none of them is a base, so they tell the same whatever the rolls name
same-told : (a b : List Head) (chains : List PlacedChain) → AllByRecursion IsNoBase (chains_told a chains) → chains_told b chains ≡ chains_told a chains
same-told a b [] none = refl
same-told a b (c ∷ chains) none = λ i. one c.entry none.0 i ∷ same-told a b chains none.1 i
  where
    one : (e : Entry) → IsNoBase (chain_told a e) → chain_told b e ≡ chain_told a e
    one (entries.Group members) none = refl
    one (entries.Archived archive) none = refl
    one (entries.Floor floor) none = refl
    one (entries.Base base) none = absurd none

-- and they name no rolls
no-rolls : (a : List Head) (chains : List PlacedChain) → AllByRecursion IsNoBase (chains_told a chains)
    → flat_map (λ (c : PlacedChain). rolls_in c.entry) chains ≡ []
no-rolls a [] none = refl
no-rolls a (c ∷ chains) none = ap (λ l. l ++ flat_map (λ (d : PlacedChain). rolls_in d.entry) chains) (one c.entry none.0) ∙ no-rolls a chains none.1
  where
    one : (e : Entry) → IsNoBase (chain_told a e) → rolls_in e ≡ []
    one (entries.Group members) none = refl
    one (entries.Archived archive) none = refl
    one (entries.Floor floor) none = refl
    one (entries.Base base) none = absurd none

-- ---- the members that stay

abbrev later : ℕ → Member → Bool
later mark m = nat_lt mark m.head.time

front-members : (mark : ℕ) (chains : List LogChain) → AllByRecursion (IsUpTo mark) chains → filter (later mark) (flat_map members_in chains) ≡ []
front-members mark [] ends = refl
front-members mark (c ∷ chains) ends =
    filter-append (later mark) (members_in c) (flat_map members_in chains)
    ∙ ap (λ l. l ++ filter (later mark) (flat_map members_in chains)) (one c ends.0)
    ∙ front-members mark chains ends.1
  where
    each : (members : List Member) → AllByRecursion (λ (head : Head). head.time ≤ mark) (map (λ m. m.head) members) → filter (later mark) members ≡ []
    each [] all = refl
    each (m ∷ members) all = let low : nat_lt mark m.head.time ≡ false = not_lt all.0 in rw low (each members all.1)

    one : (d : LogChain) → IsUpTo mark d → filter (later mark) (members_in d) ≡ []
    one (OfBase b) up = refl
    one (OfGroup members) up = each members up
    one (OfRun upto runs) up = refl
    one (OfFloor f) up = refl

members-based : (mark : ℕ) (front back : List LogChain) → reclaimed_by (front ++ back) ≤ mark → AllByRecursion (IsUpTo mark) front
    → filter (later mark) (members_of (front ++ back)) ≡ filter (later mark) (flat_map members_in back)
members-based mark front back le ends =
    filter-filter (later mark) (later (reclaimed_by (front ++ back))) (flat_map members_in (front ++ back))
    (λ m e. is_lt (grind (arith, nat_tests, le, e)))
    ∙ ap (filter (later mark)) (flat_map-append members_in front back)
    ∙ filter-append (later mark) (flat_map members_in front) (flat_map members_in back)
    ∙ ap (λ l. l ++ filter (later mark) (flat_map members_in back)) (front-members mark front ends)

-- ---- the log

pub base-is_log : (most root : ℕ) (l : HeapLog) (reading : Reading) (h : History Value) (floors : ℕ → ℕ) (front back : List PlacedChain) (n : NewBase)
    (is : IsLogOf most root l reading)
    → StandsFor reading h floors → MayTakePlace most l is.names front back n → IsReclaimPlan reading (n.anchors).records
    → KeepsShares most (with_new_base l n back) (based_reading reading is.names n back)
    → IsLogOf most (first_or 0 n.numbers) (with_new_base l n back) (based_reading reading is.names n back)
    × StandsFor (based_reading reading is.names n back) h floors
base-is_log most root l reading h floors front back n is stands may plan shares =
    let all = chains_told is.names l.chains in
    let first = chains_told is.names front in
    let rest = chains_told is.names back in
    let b = base_told n.names n.base in
    let place = may.place in
    let parts : all ≡ first ++ rest =
    ap (chains_told is.names) may.split ∙ map-append (λ (c : PlacedChain). chain_told is.names c.entry) front back in
    let log_is : reading.log ≡ told all = ap (λ (r : Reading). r.log) is.reading_is in
    let heap : is_in_heap reading.profile ≡ true = ap (λ (r : Reading). is_in_heap r.profile) is.reading_is in
    let form : IsHeapLog reading = in-heap reading heap stands.opens.reads.form in
    let so = tells-all all (is.rules).each in
    let le : reclaimed_by all ≤ last_time (told all) = omega (arith, so.reclaimed, ap reclaim_mark log_is, ap last_time log_is, (form.log).published) in
    let rules : KeepsChainRules (first ++ rest) = subst KeepsChainRules parts is.rules in
    let so_placed = base-placed first rest b rules (subst (λ (cs : List LogChain). reclaimed_by cs ≤ last_time (told cs)) parts le) place in
    let told_is : told (first ++ rest) ≡ reading.log = sym (log_is ∙ ap told parts) in
    let upto_is : b.upto ≡ archive_mark reading.log = place.upto ∙ ap archive_mark told_is in
    let based : IsBased (archive_mark reading.log) reading.log (told (OfBase b ∷ rest)) =
    subst (λ (log : List Slot). IsBased (archive_mark reading.log) log (told (OfBase b ∷ rest))) told_is
    (subst (λ (mark : ℕ). IsBased mark (told (first ++ rest)) (told (OfBase b ∷ rest))) upto_is so_placed.1) in
    let same : chains_told n.names back ≡ rest = same-told is.names n.names back place.no_base in
    let members : filter (later (archive_mark (told all))) (members_of all) ≡ filter (later b.upto) (flat_map members_in rest) =
    ap (λ (mark : ℕ). filter (later mark) (members_of all)) (sym (upto_is ∙ ap archive_mark log_is))
    ∙ ap (λ (cs : List LogChain). filter (later b.upto) (members_of cs)) parts
    ∙ members-based b.upto first rest (omega (arith, rules.archived, place.upto)) place.front_ends in
    let olds = (n.anchors).records in
    let runs = map (λ (s : StoredRun). s.records) l.runs in (
      record {
        placed = (
          may.placed,
          all_of_back (IsPlaced most) front back (subst (λ (cs : List PlacedChain). AllByRecursion (IsPlaced most) cs) may.split is.placed),
        );
        chained = (refl, may.chained);
        anchors = may.anchors;
        next = is.next;
        apart = may.apart;
        anchors_named = may.anchors_named;
        rolls_named = may.rolls_named
            ∙ sym (append-nil (n.base).rolls) ∙ ap (λ (rs : List Roll). (n.base).rolls ++ rs) (sym (no-rolls is.names back place.no_base));
        runs_named = is.runs_named ∙ ap (runs_from []) may.split ∙ runs-split [] front back ∙ ap (λ (rs : List Run). runs_from rs back) (sym may.runs_named);
        each_run = is.each_run;
        each_roll = may.each_roll;
        archive_apart = may.archive_apart;
        archives_in_row = may.archives_in_row;
        rolls_in_row = may.rolls_in_row;
        shares = shares;
        names = n.names;
        are_names = may.are_names;
        rules = subst (λ (cs : List LogChain). KeepsChainRules (OfBase b ∷ cs)) (sym same) so_placed.0;
        reading_is =
            ap (λ (r : Reading). with_base r olds (told (OfBase b ∷ rest))) is.reading_is
            ∙ ap (λ (ms : List Member). record {
              profile = 4;
              slots = most;
              pieces = 0;
              log = told (OfBase b ∷ rest);
              members = ms;
              anchors = olds;
              runs = runs;
            })
            members
            ∙ ap (λ (cs : List LogChain). reading_of most (OfBase b ∷ cs) olds runs) (sym same);
      },
      base-stands_for reading h floors olds (told (OfBase b ∷ rest)) stands heap plan based,
    )
