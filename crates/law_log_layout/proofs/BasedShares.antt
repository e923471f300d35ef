-- A base in the place of the log's front leaves the log within its shares.
use Rattle.std.proofs.Common.{◌≡◌, ℕ, ◌≤◌, true, List, ◌∷◌, ◌++◌, map, length, length-append, sym, ap, subst, ◌∙◌, arith}
use Rattle.std.specs.Prelude.{filter, flat_map, nat_lt, if◌then◌else◌}
use Rattle.std.specs.List.{AllByRecursion}
use Rattle.std.proofs.lemmas.List.{map-append}
use Rattle.std.proofs.lemmas.List.Elements.{filter-append}
use Rattle.std.proofs.lemmas.Grind.{flat_map-append}
use Rattle.std.proofs.lemmas.Bool.Decides.{nat_tests}
use Rattle.history.specs.declared.key.Key.{Key}
use Rattle.history.specs.declared.time.Version.{Version}
use Rattle.history.specs.declared.time.TimedWrite.{TimedWrite}
use Rattle.history.specs.Time.{writes_after}
use Rattle.history.specs.Versions.{versions, stands_at, as_write, ends_after}
use Rattle.history.specs.Histories.{Commit, History, writes_of, commits_after}
use Rattle.history.proofs.Filters.{filter-filter}
use Rattle.history.proofs.Values.{versions-since}
use Rattle.history.proofs.Histories.{writes_of-commits_after}
use Rattle.law_image.specs.Values.{Value}
use Rattle.law_image.specs.Reading.{Head, Slot, OldRecord, Reading}
use Rattle.law_image.specs.Log.{last_time_after, last_time, archive_mark, reclaim_mark, told_time, is_in_heap}
use Rattle.law_image.specs.Facts.{old_writes, heap_commits, heap_facts, heap_versions}
use Rattle.law_image.specs.StandsFor.{StandsFor, IsHeapLog, archived_upto, reclaimed_upto}
use Rattle.law_image.specs.Plans.{IsReclaimPlan}
use Rattle.law_image.specs.HeapPlans.{with_base, IsBased}
use Rattle.law_image.proofs.Forms.{in-heap}
use Rattle.law_image.proofs.FactsOf.{old_writes-past}
use Rattle.law_image.proofs.HeapRuns.{last_mark, last_mark-is}
use Rattle.law_image.proofs.HeapSteps.{base-stands_for}
use Rattle.law_image.proofs.Logs.{told-is_last}
use Rattle.law_image.proofs.Standing.{marked, archived-range, last-range, facts-rise}
use Rattle.law_log.specs.Chains.{LogChain, OfBase, told, reclaimed_by, KeepsChainRules}
use Rattle.law_log.proofs.Telling.{tells-all}
use Rattle.law_log.proofs.Based.{base-placed}
use Rattle.law_layout.proofs.Lists.{all_of_back}
use Rattle.log_extents.specs.Chains.{first_or}
use Rattle.log_entries.specs.declared.entry.Entry.TheVariants as entries
use Rattle.law_log_layout.specs.HeapLog.{PlacedChain, HeapLog, base_told, chain_told, chains_told, AreNamesOf, counted_of, AreAnchorsAt, IsBaseSmall}
use Rattle.law_log_layout.specs.HeapLog.{KeepsShares, IsLogOf}
use Rattle.law_log_layout.specs.Reclaims.{NewBase, with_new_base, MayTakePlace, based_reading}
use Rattle.law_log_layout.proofs.BaseJoins.{base-is_log}
use Rattle.law_log_layout.proofs.OneReading.{names-same}

-- ---- what stands from the archive mark on

stands-ends : {V : Type 0} (mark time : ℕ) (v : Version V) → mark ≤ time → stands_at time v ≡ true → ends_after mark v ≡ true
stands-ends mark time v le stands = grind (arith, nat_tests)

later_lt : (early late n : ℕ) → early ≤ late → nat_lt late n ≡ true → nat_lt early n ≡ true
later_lt early late n le h = grind (arith, nat_tests)

-- the versions of an image whose base has the anchors of a plan are those that end after its mark
module _ (reading : Reading) (h : History Value) (floors : ℕ → ℕ) (olds : List OldRecord) (after : List Slot) (stands : StandsFor reading h floors)
    (plan : IsReclaimPlan reading olds) (based : StandsFor (with_base reading olds after) h floors)
    (reclaimed : reclaim_mark after ≡ archived_upto reading) where
  based-commits : heap_commits (with_base reading olds after) ≡ commits_after (archived_upto reading) (heap_commits reading)
  based-commits =
      let a = archived_upto reading in
      let r = reclaimed_upto reading in
      based.opens.write_sets
      ∙ ap (λ (m : ℕ). commits_after m h) reclaimed
      ∙ sym (filter-filter (λ (c : Commit Value). nat_lt a c.time) (λ (c : Commit Value). nat_lt r c.time) h (λ c e. later_lt r a c.time stands.homes.marks e))
      ∙ ap (commits_after a) (sym stands.opens.write_sets)

  based-facts : (key : Key) → heap_facts (with_base reading olds after) key
      ≡ map as_write (filter (stands_at (archived_upto reading)) (heap_versions reading key)) ++ writes_after (archived_upto reading) (heap_facts reading key)
  based-facts key =
      let a = archived_upto reading in
      ap (λ l. l ++ writes_of (heap_commits (with_base reading olds after)) key) (plan.each key)
      ∙ ap (λ l. map as_write (filter (stands_at a) (heap_versions reading key)) ++ l) (
      ap (λ c. writes_of c key) based-commits
      ∙ writes_of-commits_after a (heap_commits reading) key
      ∙ ap (λ l. l ++ writes_after a (writes_of (heap_commits reading) key))
      (sym (old_writes-past (reclaimed_upto reading) a reading.anchors key stands.homes.marks stands.opens.reads.anchor_times))
      ∙ sym (filter-append (λ (w : TimedWrite Value). nat_lt a w.time) (old_writes reading.anchors key) (writes_of (heap_commits reading) key)))

  based-versions : (key : Key) → heap_versions (with_base reading olds after) key ≡ filter (ends_after (archived_upto reading)) (heap_versions reading key)
  based-versions key =
      ap versions (based-facts key)
      ∙ versions-since 0 (archived_upto reading) (heap_facts reading key)
      (omega (arith, archived-range reading h floors stands, last-range reading h floors stands)) (facts-rise reading h floors stands key)

  -- so the anchors of a state from the mark on are those that they were
  pub anchors-based : (time : ℕ) (anchors : List OldRecord) → archived_upto reading ≤ time → AreAnchorsAt time (with_base reading olds after) anchors
      → AreAnchorsAt time reading anchors
  anchors-based time anchors le are = record {
    each = λ key.
        let vs = heap_versions reading key in
        are.each key
        ∙ ap (λ l. map as_write (filter (stands_at time) l)) (based-versions key)
        ∙ ap (map as_write)
        (filter-filter (stands_at time) (ends_after (archived_upto reading)) vs (λ v e. stands-ends (archived_upto reading) time v le e));
    rising = are.rising;
  }

-- ---- what the log tells by the names of its rolls

pub record TellsBy (l : HeapLog) (reading : Reading) (names : List Head) : Type 0 where
  pub rules : KeepsChainRules (chains_told names l.chains)
  pub log_is : reading.log ≡ told (chains_told names l.chains)
  pub reclaimed : reclaimed_by (chains_told names l.chains) ≤ last_time (told (chains_told names l.chains))
  pub heap : is_in_heap reading.profile ≡ true

pub tells-by : (most root : ℕ) (l : HeapLog) (reading : Reading) (h : History Value) (floors : ℕ → ℕ) (names : List Head) → IsLogOf most root l reading
    → StandsFor reading h floors → AreNamesOf l.rolls names → TellsBy l reading names
tells-by most root l reading h floors names is stands are =
    let chains = chains_told is.names l.chains in
    let log_is : reading.log ≡ told chains = ap (λ (r : Reading). r.log) is.reading_is in
    let heap : is_in_heap reading.profile ≡ true = ap (λ (r : Reading). is_in_heap r.profile) is.reading_is in
    let form : IsHeapLog reading = in-heap reading heap stands.opens.reads.form in
    let so = tells-all chains (is.rules).each in
    subst (TellsBy l reading) (names-same l.rolls is.names names is.are_names are) (record {
      rules = is.rules;
      log_is = log_is;
      reclaimed = omega (arith, so.reclaimed, ap reclaim_mark log_is, ap last_time log_is, (form.log).published);
      heap = heap;
    })

-- the log of the base in its place
pub record IsInPlace (reading : Reading) (names : List Head) (back : List PlacedChain) (n : NewBase) : Type 0 where
  pub rules : KeepsChainRules (OfBase (base_told n.names n.base) ∷ chains_told names back)
  pub based : IsBased (archive_mark reading.log) reading.log (told (OfBase (base_told n.names n.base) ∷ chains_told names back))

pub in-place : (most : ℕ) (l : HeapLog) (reading : Reading) (names : List Head) (front back : List PlacedChain) (n : NewBase) → TellsBy l reading names
    → MayTakePlace most l names front back n → IsInPlace reading names back n
in-place most l reading names front back n tells may =
    let first = chains_told names front in
    let rest = chains_told names back in
    let b = base_told n.names n.base in
    let place = may.place in
    let parts : chains_told names l.chains ≡ first ++ rest =
    ap (chains_told names) may.split ∙ map-append (λ (c : PlacedChain). chain_told names c.entry) front back in
    let rules : KeepsChainRules (first ++ rest) = subst KeepsChainRules parts tells.rules in
    let placed = base-placed first rest b rules (subst (λ (cs : List LogChain). reclaimed_by cs ≤ last_time (told cs)) parts tells.reclaimed) place in
    let told_is : told (first ++ rest) ≡ reading.log = sym (tells.log_is ∙ ap told parts) in
    let upto_is : b.upto ≡ archive_mark reading.log = place.upto ∙ ap archive_mark told_is in
    record {
      rules = placed.0;
      based = subst (λ (log : List Slot). IsBased (archive_mark reading.log) log (told (OfBase b ∷ rest))) told_is
          (subst (λ (mark : ℕ). IsBased mark (told (first ++ rest)) (told (OfBase b ∷ rest))) upto_is placed.1);
    }

-- ---- the shares

-- the front's extents fall away
counted-less : (front back : List PlacedChain) → length (flat_map (λ (c : PlacedChain). counted_of c.numbers c.entry) back)
    ≤ length (flat_map (λ (c : PlacedChain). counted_of c.numbers c.entry) (front ++ back))
counted-less front back =
    let f = λ (c : PlacedChain). counted_of c.numbers c.entry in
    omega (arith, ap (λ (ns : List ℕ). length ns) (flat_map-append f front back), length-append (flat_map f front) (flat_map f back))

-- one extent more, where not all is archived
abbrev more : ℕ → ℕ → ℕ
more mark time = if nat_lt mark time then 1 else 0

module _ (most root : ℕ) (l : HeapLog) (reading : Reading) (h : History Value) (floors : ℕ → ℕ) (names : List Head) (front back : List PlacedChain)
    (n : NewBase) (is : IsLogOf most root l reading) (stands : StandsFor reading h floors) (are : AreNamesOf l.rolls names)
    (may : MayTakePlace most l names front back n) (plan : IsReclaimPlan reading (n.anchors).records) where
  tells : TellsBy l reading names
  tells = tells-by most root l reading h floors names is stands are

  place : IsInPlace reading names back n
  place = in-place most l reading names front back n tells may

  pub based-stands : StandsFor (based_reading reading names n back) h floors
  based-stands =
      base-stands_for reading h floors (n.anchors).records (told (OfBase (base_told n.names n.base) ∷ chains_told names back)) stands (tells).heap plan
      (place).based

  -- the same time is told, and the same is archived
  same-more : more (archive_mark (based_reading reading names n back).log) (told_time (based_reading reading names n back).log)
      ≡ more (archive_mark reading.log) (told_time reading.log)
  same-more =
      let after = (based_reading reading names n back).log in
      let based : IsBased (archive_mark reading.log) reading.log after = (place).based in
      let form : IsHeapLog reading = in-heap reading (tells).heap stands.opens.reads.form in
      let mark : archive_mark after ≡ archive_mark reading.log = last_mark-is 0 after ∙ ap (last_mark 0) based.marks ∙ sym (last_mark-is 0 reading.log) in
      let last : last_time after ≡ last_time reading.log = ap (last_time_after 0) based.heads in
      let low = (marked reading h floors stands).archived in
      let time : told_time after ≡ told_time reading.log =
      told-is_last (last_time after) (reclaim_mark after) (omega (arith, last, based.reclaimed, low))
      ∙ last ∙ sym (told-is_last (last_time reading.log) (reclaim_mark reading.log) (form.log).published) in
      λ i. more (mark i) (time i)

  pub shares-based : IsBaseSmall most (entries.Base n.base) → KeepsShares most (with_new_base l n back) (based_reading reading names n back)
  shares-based small =
      let after = (based_reading reading names n back).log in
      let reclaimed : reclaim_mark after ≡ archived_upto reading = (place).based.reclaimed in
      let less = counted-less front back in
      let whole = ap (λ (cs : List PlacedChain). length (flat_map (λ (c : PlacedChain). counted_of c.numbers c.entry) cs)) may.split in
      let shares = is.shares in
      record {
        log = omega (arith, less, whole, same-more, shares.log);
        anchors = λ time olds from at. shares.anchors time olds (omega (arith, from, reclaimed, stands.homes.marks))
            (anchors-based reading h floors (n.anchors).records after stands plan based-stands reclaimed time olds (omega (arith, from, reclaimed)) at);
        base = (
          small,
          all_of_back (λ (c : PlacedChain). IsBaseSmall most c.entry) front back
              (subst (λ (cs : List PlacedChain). AllByRecursion (λ (c : PlacedChain). IsBaseSmall most c.entry) cs) may.split shares.base),
        );
      }

  -- so it is a log
  pub small-base : IsBaseSmall most (entries.Base n.base) → IsLogOf most (first_or 0 n.numbers) (with_new_base l n back) (based_reading reading names n back)
      × StandsFor (based_reading reading names n back) h floors
  small-base small =
      let same = names-same l.rolls names is.names are is.are_names in
      let whole : (ns : List Head) → names ≡ ns → MayTakePlace most l ns front back n
      × KeepsShares most (with_new_base l n back) (based_reading reading ns n back) =
      λ ns e. (
        subst (λ (l' : List Head). MayTakePlace most l l' front back n) e may,
        subst (λ (l' : List Head). KeepsShares most (with_new_base l n back) (based_reading reading l' n back)) e (shares-based small),
      ) in
      let now = whole is.names same in
      subst (λ (ns : List Head). IsLogOf most (first_or 0 n.numbers) (with_new_base l n back) (based_reading reading ns n back)
      × StandsFor (based_reading reading ns n back) h floors) (sym same)
      (base-is_log most root l reading h floors front back n is stands now.0 plan now.1)
