-- What a reclaim that begins is to make may take the place of the front, and its extents are free.
use Rattle.std.proofs.Common.{◌≡◌, ℕ, ◌+◌, ◌*◌, ◌/◌, ◌^◌, ◌<◌, ◌≤◌, Bool, true, false, List, [], ◌∷◌, ◌++◌, length, map, take, drop}
use Rattle.std.proofs.Common.{suc, None, ◌⊎◌, inl, inr, refl, arith, ap, sym, subst, ◌∙◌, length-append, take-append-drop}
use Rattle.std.proofs.lemmas.Grind.{flat_map-append}
use Rattle.std.proofs.lemmas.List.{length-map}
use Rattle.history.proofs.Filters.{AllByRecursion-append}
use Rattle.std.specs.Prelude.{filter, flat_map, option_to_list, IfSome, if◌then◌else◌}
use Rattle.std.specs.List.{AllByRecursion}
use Rattle.std.proofs.lemmas.Bool.Decides.{nat_tests}
use Rattle.std.proofs.lemmas.List.Concat.{flat_map-cons}
use Rattle.history.specs.Histories.{History}
use Rattle.wire.specs.Numbers.{u64_bytes}
use Rattle.law_image.specs.Values.{Value}
use Rattle.law_image.specs.Reading.{Head, OldRecord, Reading}
use Rattle.law_image.specs.Log.{heads_of, reclaim_mark}
use Rattle.law_image.specs.StandsFor.{archived_upto, head_of, reclaimed_upto}
use Rattle.law_image.specs.Plans.{IsReclaimPlan}
use Rattle.law_image.proofs.Standing.{archived-range, last-range}
use Rattle.law_layout.specs.Records.{IsOldRecord, old_bytes}
use Rattle.law_layout.proofs.Lists.{all_of_back, all_of_front}
use Rattle.law_log.specs.Chains.{reclaimed_by, told}
use Rattle.law_log.proofs.Telling.{tells-all}
use Rattle.deltas.specs.Records.{old_record_of, spelling}
use Rattle.deltas.specs.declared.«record».Record.{Record}
use Rattle.deltas.proofs.Left.{length-spelling}
use Rattle.vacuum.specs.Anchors as anchors
use Rattle.log_entries.specs.declared.entry.AnchorName.{AnchorName}
use Rattle.log_entries.specs.declared.entry.Base.{Base}
use Rattle.log_entries.specs.declared.entry.Entry.TheVariants as entries
use Rattle.log_entries.specs.Lengths.{length-mark}
use Rattle.log_entries.specs.Ranges.{AreNone, AreSome, IsEntry, IsRoll}
use Rattle.log_entries.specs.Spelling.{base_bytes, entry_bytes, mark_bytes, roll_bytes, archive_bytes, floor_bytes}
use Rattle.log_extents.specs.Chains.{count_of, first_or, AreDistinct, IsNew, IsNumberOf}
use Rattle.log_base.specs.Bases.{anchors_at, anchors_of, base_on, front_len}
use Rattle.log_base.specs.Laws.{is_named_between, told_upto, AnchorsStay, MayBeAnchors}
use Rattle.log_base.specs.Names.{name_of, named_between, AreNamesBetween}
use Rattle.log_base.proofs.BaseEntries.{is-live_base}
use Rattle.log_base.proofs.RollNames.{roll-whole}
use Rattle.log_base.proofs.RunsLeft.{anchors-stay, mark-is}
use Rattle.log_recovery.specs.Live.{LiveChainValue, live_of}
use Rattle.log_roots.specs.Roots.{root_of}
use Rattle.log_writer.specs.Turns.{open_gate}
use Rattle.log_writer.specs.Whole.{whole_parts}
use Rattle.law_log_layout.specs.HeapLog.{AreNamed, ArePlaced, IsName, PlacedAnchors, PlacedChain, chains_told, live_numbers, name_bytes}
use Rattle.law_log_layout.specs.Reclaims.{MayTakePlace, NewBase}
use Rattle.law_log_layout.proofs.Places.{AreNew, distinct-parts, new-back, new-front}
use Rattle.log_store.specs.Reclaims.{IsReclaimBegun, anchor_bytes, anchor_name, back, base_len, base_with, front_count, head_or}
use Rattle.log_store.specs.Reclaims.{makes, reclaimed, roll_left, roll_of}
use Rattle.log_store.specs.Reclaims.{named_then as log-named}
use Rattle.log_store.specs.Values.{LogStoreValue, ReclaimValue}
use Rattle.log_store.specs.declared.reclaim.ReclaimStage.TheVariants.{Writing}
use Rattle.law_log_store.specs.Calls.{HoldsUnreclaimed}
use Rattle.law_log_store.specs.Reclaiming.{EndsBy, HasMadeAt, IsBaseOf, IsReclaiming, RollWaits, numbers_of, plan_of, written_of}
use Rattle.law_log_store.specs.Standing.{StandsOnHeap}
use Rattle.law_log_store.proofs.Anchored.{anchored-plan, anchored-range, own-plan}
use Rattle.law_log_store.proofs.BaseEntry.{length-named}
use Rattle.law_log_store.proofs.Behind.{HasChains, apart-then, has-chains}
use Rattle.law_log_store.proofs.Flags.{distinct-join}
use Rattle.law_log_store.proofs.Fronted.{IsBehindLog, count-is, first-of, front-are, front-within, link-is, mark-same, named-behind}
use Rattle.law_log_store.proofs.Opened.{new-flip}
use Rattle.law_log_store.proofs.Queues.{length-taken}
use Rattle.law_log_store.proofs.ReclaimBegins.{begun-stands, fresh-here, made-none}
use Rattle.law_log_store.proofs.ReclaimMakes.{anchors-stand, anchors_by, none-written, numbers-written, olds-spelled, parts-written, written-free}
use Rattle.law_log_store.proofs.Taking.{may-take, named-then, roll-behind, roll-names-in_range, roll_placed}
use Rattle.law_log_store.proofs.Used.{used-are}

-- ---- the anchors as a base names them

-- each record has some bytes
bytes-many : (rs : List Record) → length rs ≤ length (flat_map spelling rs)
bytes-many [] = omega arith
bytes-many (r ∷ rs) =
    let one = length-spelling r in
    let rest = bytes-many rs in
    let whole = ap (λ (bytes : List ℕ). length bytes) (flat_map-cons spelling r rs) ∙ length-append (spelling r) (flat_map spelling rs) in
    omega (arith, one, rest, whole)

-- anchors that keep their share have numbers that a base may name
may-name : (most : ℕ) (made : List ℕ) (rs : List Record) → most ≤ 1048576 → AllByRecursion (IsNumberOf most) made
    → length made ≡ count_of (length (flat_map spelling rs)) → count_of (length (flat_map spelling rs)) ≤ (3 * most) / 16
    → MayBeAnchors most (record { first = first_or 0 made; extents = length made; «records» = length rs })
may-name most made rs size range many share =
    let few = bytes-many rs in
    record {
      first = small made range;
      extents = omega (arith, many, share, size);
      «records» = omega (arith, few, share, size);
      place = by-numbers made range many;
    }
  where
    small : (ns : List ℕ) → AllByRecursion (IsNumberOf most) ns → first_or 0 ns < 2 ^ 32
    small [] range = omega arith
    small (n ∷ ns) range = let high = (range.0).1 in omega (arith, high, size)

    some-olds : (xs : List Record) → 0 < count_of (length (flat_map spelling xs)) → 0 < length xs
    some-olds [] some = absurd (omega (arith, some))
    some-olds (x ∷ xs) some = omega arith

    by-numbers : (ns : List ℕ) → AllByRecursion (IsNumberOf most) ns → length ns ≡ count_of (length (flat_map spelling rs))
        → AreNone (record { first = first_or 0 ns; extents = length ns; «records» = length rs })
        ⊎ AreSome most (record { first = first_or 0 ns; extents = length ns; «records» = length rs })
    by-numbers [] range many = inl (record { first = refl; extents = refl; «records» = let few = bytes-many rs in omega (arith, few, many) })
    by-numbers (n ∷ ns) range many = inr (record {
      first_low = (range.0).0;
      first_high = (range.0).1;
      extents_low = omega arith;
      extents_high = omega (arith, many, share);
      «records» = some-olds rs (omega (arith, many));
    })

-- ---- the roll

roll-may : (place : ℕ) (bytes : List ℕ) (names : List Head) → bytes ≡ flat_map name_bytes names → place + length bytes < 2 ^ 63
    → IfSome (roll_of place bytes) IsRoll
roll-may place [] names are fits = tt
roll-may place (b ∷ bytes) names are fits = roll-whole place names (b ∷ bytes) are (omega arith) fits

-- it waits, and ends where all ends that the log then names
roll-waits : (place : ℕ) (names : List Head) → RollWaits (roll_placed place names) (roll_left place (flat_map name_bytes names))
unfolding u64_bytes
roll-waits place [] = tt
roll-waits place (x ∷ xs) = (refl, refl)

roll-ends : (place : ℕ) (names : List Head) → EndsBy place (place + length (flat_map name_bytes names)) (roll_placed place names)
roll-ends place [] = omega arith
roll-ends place (x ∷ xs) = (omega arith, omega arith)

-- ---- the bytes of the base

base-some : (b : Base) → 0 < length (base_bytes b)
unfolding base_bytes
base-some b =
    let rs = flat_map roll_bytes b.rolls in
    let xs = flat_map archive_bytes b.archives in
    let fs = flat_map floor_bytes b.floors in
    omega (
      arith,
      length-append (mark_bytes b.upto b.anchors ++ rs ++ xs) fs,
      length-append (mark_bytes b.upto b.anchors ++ rs) xs,
      length-append (mark_bytes b.upto b.anchors) rs,
      length-mark b.upto b.anchors,
    )

base-spelled : (b : Base) → entry_bytes (entries.Base b) ≡ base_bytes b
unfolding entry_bytes
base-spelled b = refl

-- ---- numbers that are new

news : (most : ℕ) (those ns : List ℕ) → AllByRecursion (λ (k : ℕ). IsNumberOf most k × IsNew k those) ns → AreNew ns those
news most those [] all = tt
news most those (n ∷ ns) all = ((all.0).1, news most those ns all.1)

ranges : (most : ℕ) (those ns : List ℕ) → AllByRecursion (λ (k : ℕ). IsNumberOf most k × IsNew k those) ns → AllByRecursion (IsNumberOf most) ns
ranges most those [] all = tt
ranges most those (n ∷ ns) all = ((all.0).0, ranges most those ns all.1)

news-front : (ns xs ys : List ℕ) → AreNew ns (xs ++ ys) → AreNew ns xs
news-front [] xs ys all = tt
news-front (n ∷ ns) xs ys all = (new-front n xs ys all.0, news-front ns xs ys all.1)

news-back : (ns xs ys : List ℕ) → AreNew ns (xs ++ ys) → AreNew ns ys
news-back [] xs ys all = tt
news-back (n ∷ ns) xs ys all = (new-back n xs ys all.0, news-back ns xs ys all.1)

-- those of a base are apart from all that stays and from the anchors of the log, where they are free of the log
kept-apart : (next : ℕ) (anchors : List ℕ) (front back : List PlacedChain) (chains : List PlacedChain) (numbers : List ℕ) → chains ≡ front ++ back
    → AreDistinct (next ∷ anchors ++ flat_map (λ (c : PlacedChain). c.numbers) chains) → AreDistinct numbers
    → AreNew numbers (next ∷ anchors ++ flat_map (λ (c : PlacedChain). c.numbers) chains)
    → AreDistinct (next ∷ anchors ++ (numbers ++ flat_map (λ (c : PlacedChain). c.numbers) back))
kept-apart next anchors front back chains numbers split apart own new =
    let before : List ℕ = flat_map (λ (c : PlacedChain). c.numbers) front in
    let stay : List ℕ = flat_map (λ (c : PlacedChain). c.numbers) back in
    let same : flat_map (λ (c : PlacedChain). c.numbers) chains ≡ before ++ stay =
    ap (λ (cs : List PlacedChain). flat_map (λ (c : PlacedChain). c.numbers) cs) split ∙ flat_map-append (λ (c : PlacedChain). c.numbers) front back in
    let whole = distinct-parts (next ∷ anchors) (before ++ stay) (subst (λ (ns : List ℕ). AreDistinct (next ∷ anchors ++ ns)) same apart) in
    let parts = distinct-parts before stay whole.back in
    let here : AreNew numbers (next ∷ anchors ++ (before ++ stay)) = subst (λ (ns : List ℕ). AreNew numbers (next ∷ anchors ++ ns)) same new in
    distinct-join (next ∷ anchors) (numbers ++ stay) whole.front
    (distinct-join numbers stay own parts.back
    (new-flip stay numbers (news-back numbers before stay (news-back numbers (next ∷ anchors) (before ++ stay) here))))
    (AllByRecursion-append (λ (k : ℕ). IsNew k (next ∷ anchors)) numbers stay (news-front numbers (next ∷ anchors) (before ++ stay) here)
    (all_of_back (λ (k : ℕ). IsNew k (next ∷ anchors)) before stay whole.new))

-- what is read of the anchors' name off the chains in memory is that of the log
name-same : (mark next : ℕ) (chains : List PlacedChain) (extra live : List LiveChainValue) → live ≡ map live_of chains ++ extra
    → IsBehindLog mark next extra → anchors_of live ≡ anchors_of (map live_of chains)
name-same mark next chains extra live are behind = ap anchors_of are ∙ by-chains chains extra behind
  where
    by-chains : (cs : List PlacedChain) (more : List LiveChainValue) → IsBehindLog mark next more
        → anchors_of (map live_of cs ++ more) ≡ anchors_of (map live_of cs)
    by-chains [] [] is = refl
    by-chains [] (c ∷ []) is = ap anchors_at is.part
    by-chains [] (c ∷ d ∷ more) is = absurd is
    by-chains (c ∷ cs) more is = refl

-- ---- the anchors, made or kept

-- What a base needs of the anchors that it names.
record MayAnchor (most next : ℕ) (reading : Reading) (name : AnchorName) (a : PlacedAnchors) (numbers stay : List ℕ) : Type 0 where
  placed : ArePlaced most a
  named : AreNamed (name ∷ []) a
  may : MayBeAnchors most name
  plan : IsReclaimPlan reading a.records
  apart : AreDistinct (next ∷ a.numbers ++ (numbers ++ stay))

module _ (v : LogStoreValue) (h queue : History Value) (floors : ℕ → ℕ) (s : StandsOnHeap v h queue floors) (none : v.job ≡ None)
    (no-reclaim : v.reclaim ≡ None) (some : 0 < v.named.upto) (holds : HoldsUnreclaimed v s.reading h) (new : LogStoreValue)
    (begun : IsReclaimBegun v new) where
  abbrev most : ℕ
  most = v.roots.extents

  abbrev place : ℕ
  place = v.named.end

  abbrev upto : ℕ
  upto = v.named.upto

  abbrev names : List Head
  names = (s.is_log).names

  abbrev added : List Head
  added = (begun.names_are).names

  -- ---- the log, and what memory has of it

  chains : HasChains v s.l
  chains = has-chains v h queue floors s none

  abbrev count : ℕ
  count = front_len upto (map live_of s.l.chains)

  abbrev front-part : List PlacedChain
  front-part = take count s.l.chains

  abbrev back-part : List PlacedChain
  back-part = drop count s.l.chains

  abbrev stay : List ℕ
  stay = flat_map (λ (c : PlacedChain). c.numbers) back-part

  size : most ≤ 1048576
  size = ((s.status).in_range).size.most

  used : length v.room.used ≡ most
  used = used-are v h queue floors s

  upto-is : upto ≡ archived_upto s.reading
  upto-is = (s.named).upto

  upto-range : upto < 2 ^ 63
  upto-range =
      let low = archived-range s.reading h floors s.stands in
      let high = last-range s.reading h floors s.stands in
      omega (arith, upto-is, low, high)

  mark-same-here : reclaimed v ≡ reclaimed_by (chains_told names s.l.chains)
  mark-same-here =
      mark-same upto s.l.next s.l.chains (chains).extra v.live.chains (chains).are (chains).behind ∙ mark-is names s.l.chains

  log-is : s.reading.log ≡ told (chains_told names s.l.chains)
  log-is = ap (λ (r : Reading). r.log) (s.is_log).reading_is

  reclaimed-is : reclaimed_upto s.reading ≡ reclaimed v
  reclaimed-is =
      ap reclaim_mark log-is ∙ (tells-all (chains_told names s.l.chains) ((s.is_log).rules).each).reclaimed ∙ sym mark-same-here

  -- ---- the names of the roll

  heads-told : heads_of (told (chains_told names s.l.chains)) ≡ map head_of h
  heads-told = sym (ap heads_of log-is) ∙ s.stands.opens.commits

  in-memory : map name_of (named_between (reclaimed_by (chains_told names s.l.chains)) upto v.commits.heads)
      ≡ filter (is_named_between (reclaimed_by (chains_told names s.l.chains)) upto) (heads_of (told (chains_told names s.l.chains)))
  in-memory =
      subst (λ (m : ℕ). map name_of (named_between m upto v.commits.heads)
      ≡ filter (is_named_between m upto) (heads_of (told (chains_told names s.l.chains)))) mark-same-here
      (holds.heads ∙ ap (filter (is_named_between (reclaimed v) upto)) (sym heads-told))

  added-are : AreNamesBetween (reclaimed_by (chains_told names s.l.chains)) upto v.commits.heads added
  added-are = subst (λ (m : ℕ). AreNamesBetween m upto v.commits.heads added) mark-same-here (begun.names_are).are

  each-name : AllByRecursion IsName added
  each-name = roll-names-in_range h (reclaimed v) upto v.commits.heads added s.stands.opens.history holds.heads (begun.names_are).are

  -- ---- the extents

  abbrev live : List ℕ
  live = s.l.next ∷ live_numbers s.l

  taken : AllByRecursion (λ (k : ℕ). IsNumberOf most k × IsNew k live) (begun.made ++ begun.numbers)
  taken = (fresh-here v h queue floors s none no-reclaim new begun).0

  own : AreDistinct (begun.made ++ begun.numbers)
  own = (fresh-here v h queue floors s none no-reclaim new begun).1

  taken-new : AreNew (begun.made ++ begun.numbers) live
  taken-new = news most live (begun.made ++ begun.numbers) taken

  in-range : AllByRecursion (IsNumberOf most) (begun.made ++ begun.numbers)
  in-range = ranges most live (begun.made ++ begun.numbers) taken

  split-here : s.l.chains ≡ front-part ++ back-part
  split-here = sym (take-append-drop count s.l.chains)

  -- ---- the anchors

  abbrev old-records : List OldRecord
  old-records = anchors.anchors_of upto v.commits.versions

  abbrev placed-by : Bool → PlacedAnchors
  placed-by m = anchors_by m s.l begun.made old-records

  abbrev olds-by : Bool → List Record
  olds-by m = if m then anchors.olds_of upto v.commits.versions else []

  abbrev name-by : Bool → AnchorName
  name-by m =
      if m then record { first = first_or 0 begun.made; extents = length begun.made; «records» = length (olds-by m) } else anchors_of v.live.chains

  stands-yet : AnchorsStay most s.l.chains s.l.anchors
  stands-yet = anchors-stay most names s.l.chains s.l.anchors ((s.is_log).rules).each (s.is_log).placed (s.is_log).anchors_named

  name-stays : anchors_of v.live.chains ≡ anchors_of (map live_of s.l.chains)
  name-stays = name-same upto s.l.next s.l.chains (chains).extra v.live.chains (chains).are (chains).behind

  length-mapped : (rs : List OldRecord) → length (map old_record_of rs) ≡ length rs
  length-mapped [] = refl
  length-mapped (r ∷ rs) = ap suc (length-mapped rs)

  anchors-may : (m : Bool) → makes v ≡ m → length begun.made ≡ count_of (length (flat_map spelling (olds-by m)))
      → count_of (length (flat_map spelling (olds-by m))) ≤ (3 * most) / 16
      → MayAnchor most s.l.next s.reading (name-by m) (placed-by m) begun.numbers stay
  anchors-may true is many share =
      record {
        placed = record {
          count = many ∙ ap (λ (bytes : List ℕ). count_of (length bytes)) (olds-spelled old-records);
          in_range = all_of_front (IsNumberOf most) begun.made begun.numbers in-range;
          each = anchored-range v.commits.versions holds.in_memory upto s.reading h floors s.stands old-each upto-range holds.same;
        };
        named = (refl, refl, sym (length-mapped old-records));
        may = may-name most begun.made (anchors.olds_of upto v.commits.versions) size (all_of_front (IsNumberOf most) begun.made begun.numbers in-range) many
            share;
        plan = anchored-plan v.commits.versions holds.in_memory upto s.reading (sym upto-is) holds.same;
        apart = apart-then s.l front-part back-part begun.made begun.numbers split-here
            (distinct-join live (begun.made ++ begun.numbers) (s.is_log).apart own taken-new);
      }
    where
      old-each : AllByRecursion IsOldRecord s.reading.anchors
      old-each =
          subst (AllByRecursion IsOldRecord) (sym (ap (λ (r : Reading). r.anchors) (s.is_log).reading_is)) ((s.is_log).anchors).each
  anchors-may false is many share =
      record {
        placed = (s.is_log).anchors;
        named = subst (λ (name : AnchorName). AreNamed (name ∷ []) s.l.anchors) (sym name-stays) (stands-yet).named;
        may = subst (MayBeAnchors most) (sym name-stays) (stands-yet).may;
        plan = subst (IsReclaimPlan s.reading) (ap (λ (r : Reading). r.anchors) (s.is_log).reading_is) (own-plan s.reading h floors s.stands same-marks);
        apart = kept-apart s.l.next s.l.anchors.numbers front-part back-part s.l.chains begun.numbers split-here (s.is_log).apart
            (distinct-parts begun.made begun.numbers own).back
            (all_of_back (λ (k : ℕ). IsNew k live) begun.made begun.numbers taken-new);
      }
    where
      same-marks : archived_upto s.reading ≡ reclaimed_upto s.reading
      same-marks =
          let low : upto ≤ reclaimed v = grind (arith, nat_tests) in
          let high = s.stands.homes.marks in
          omega (arith, low, high, upto-is, reclaimed-is)

  many-made : length begun.made ≡ count_of (length (flat_map spelling (olds-by (makes v))))
  many-made = begun.made_many

  share-made : count_of (length (flat_map spelling (olds-by (makes v)))) ≤ (3 * most) / 16
  share-made = let share = (begun.shares).anchors in omega (arith, share, used)

  anchors-here : MayAnchor most s.l.next s.reading (name-by (makes v)) (placed-by (makes v)) begun.numbers stay
  anchors-here = anchors-may (makes v) refl many-made share-made

  -- ---- the base

  abbrev base : Base
  base = base_on (take count (map live_of s.l.chains)) upto (anchor_name v begun.made) (roll_of place (flat_map name_bytes added))

  abbrev n : NewBase
  n = record {
    numbers = begun.numbers;
    link = first-of s.l.next back-part;
    base = base;
    anchors = placed-by (makes v);
    rolls = s.l.rolls ++ option_to_list (roll_placed place added);
    names = told_upto upto names s.l.chains;
  }

  base-is : base ≡ base_with v begun.names begun.made
  base-is =
      λ i. base_on
      (sym (front-are upto s.l.next s.l.chains (chains).extra v.live.chains (chains).are (chains).behind) i)
      upto (anchor_name v begun.made) (roll_of place (sym (begun.names_are).bytes_are i))

  len-is : base_len v begun.names ≡ length (base_bytes base)
  len-is =
      length-named upto (anchor_name v []) (anchor_name v begun.made) (base_with v begun.names []).rolls (base_with v begun.names []).archives
      (base_with v begun.names []).floors
      ∙ ap (λ (b : Base). length (base_bytes b)) (sym base-is)

  entry-len : length (entry_bytes (entries.Base base)) ≡ base_len v begun.names
  entry-len = ap (λ (bytes : List ℕ). length bytes) (base-spelled base) ∙ sym len-is

  entry-may : IsEntry most (entries.Base base)
  entry-may =
      is-live_base most upto count s.l.chains (anchor_name v begun.made) (roll_of place (flat_map name_bytes added)) (s.is_log).placed some upto-range
      (anchors-here).may
      (roll-may place (flat_map name_bytes added) added refl
      (let fits = begun.fits in let same = ap (λ (bytes : List ℕ). length bytes) (begun.names_are).bytes_are in omega (arith, fits, same)))

  number-some : 0 < length begun.numbers
  number-some = let many = begun.many in let long = base-some base in omega (arith, many, len-is, long)

  may : MayTakePlace most s.l names front-part back-part n
  may =
      may-take most (root_of v.roots) s.l s.reading h floors s.is_log s.stands upto upto-is some place (s.named).end added each-name v.commits.heads
      in-memory added-are (anchor_name v begun.made) begun.numbers (placed-by (makes v)) entry-may number-some
      (begun.many ∙ ap count_of (sym entry-len)) (all_of_back (IsNumberOf most) begun.made begun.numbers in-range) (anchors-here).placed (anchors-here).named
      (anchors-here).apart

  -- ---- the reclaim

  abbrev r : ReclaimValue
  r = record {
    front = front_count v;
    base = base_with v begun.names begun.made;
    numbers = begun.numbers;
    anchors = if makes v then begun.made else v.live.anchors;
    makes = makes v;
    named = log-named v (base_with v begun.names begun.made) begun.names;
    roll = roll_left v.named.end begun.names;
    stage = Writing
        (record { numbers = begun.made; left = whole_parts 0 0 begun.made (anchor_bytes v) })
        (record {
          numbers = begun.numbers;
          left = whole_parts open_gate (head_or v.room.next (back v)) begun.numbers (base_bytes (base_with v begun.names begun.made));
        });
  }

  numbers-by : (m : Bool) → (placed-by m).numbers ≡ (if m then begun.made else v.live.anchors)
  numbers-by true = refl
  numbers-by false = sym (chains).anchors

  front-long : length front-part ≡ front_count v
  front-long =
      length-taken count s.l.chains
      (let within = front-within upto (map live_of s.l.chains) in let same = length-map s.l.chains live_of in omega (arith, within, same))
      ∙ sym (count-is upto s.l.next s.l.chains (chains).extra v.live.chains (chains).are (chains).behind)

  base-made : IsBaseOf most s.l s.reading (plan_of r)
  base-made = record {
    n = n;
    more = roll_placed place added;
    names = names;
    front = front-part;
    back = back-part;
    base_is = base-is;
    numbers_are = refl;
    anchors_are = numbers-by (makes v);
    rolls_are = refl;
    many = front-long;
    are_names = (s.is_log).are_names;
    may = may;
    reclaims = (anchors-here).plan;
    small =
        let share = (begun.shares).base in
        let same = entry-len in
        omega (arith, share, same, used);
    free = written-free most (makes v) s.l n (anchors-here).placed (may).placed (s.is_log).next (s.is_log).apart
        (subst AreDistinct numbers-are own)
        (subst (AllByRecursion (λ (k : ℕ). IsNumberOf most k × IsNew k live)) numbers-are taken);
    stand = anchors-stand (makes v) s.l begun.made old-records n refl;
    behind =
        roll-behind most (root_of v.roots) s.l s.reading h floors s.is_log s.stands upto upto-is some place (s.named).end added each-name v.commits.heads
        in-memory added-are (anchor_name v begun.made) begun.numbers (placed-by (makes v));
    named = named-then most (root_of v.roots) s.l s.reading h floors s.is_log s.stands upto upto-is some place (s.named).end added each-name v.commits.heads
        in-memory added-are (anchor_name v begun.made) begun.numbers (placed-by (makes v))
        (log-named v (base_with v begun.names begun.made) begun.names)
        (λ i. (sym base-is i).archives ++ named-behind upto s.l.next s.l.chains (chains).extra v.live.chains (chains).are (chains).behind i)
        (ap (λ (b : Base). b.rolls) (sym base-is)) refl
        (ap (λ (bytes : List ℕ). place + length bytes) (begun.names_are).bytes_are) may;
  }
    where
      numbers-are : begun.made ++ begun.numbers ≡ numbers_of (written_of (makes v) n)
      numbers-are = numbers-written (makes v) s.l begun.made old-records n refl (made-none v h queue floors s none no-reclaim new begun)

  begun-made : HasMadeAt v.roots (first_or 0 begun.numbers) (written_of (makes v) n) (roll_placed place added) r.roll r.stage v.disk.areas.heap
      v.disk.areas.archive
  begun-made =
      let bytes = begun.names_are.bytes_are in (
        none-written _ _ v.disk.areas.heap
            (ap (λ (link : ℕ). whole_parts 0 0 begun.made (anchor_bytes v)
            ++ whole_parts open_gate link begun.numbers (base_bytes (base_with v begun.names begun.made)))
            (link-is upto s.l.next s.l.chains (chains).extra v.live.chains (chains).are (chains).behind v.room.next (chains).ends)
            ∙ parts-written (makes v) s.l begun.made old-records n (anchor_bytes v) (base_bytes (base_with v begun.names begun.made)) refl
            (made-none v h queue floors s none no-reclaim new begun) spelled
            (ap base_bytes (sym base-is) ∙ sym (base-spelled base))),
        subst (λ (b : List ℕ). RollWaits (roll_placed place added) (roll_left place b)) (sym bytes) (roll-waits place added),
      )
    where
      spelled : makes v ≡ true → anchor_bytes v ≡ flat_map old_bytes old-records
      spelled e =
          ap (λ (b : Bool). flat_map spelling (if b then anchors.olds_of upto v.commits.versions else [])) e ∙ olds-spelled old-records

  pub reclaiming : IsReclaiming v.roots v.job place v.disk.areas.heap v.disk.areas.archive s.l s.reading (plan_of r) r.roll r.stage
  unfolding base-made
  reclaiming = record {
    alone = none;
    base = base-made;
    made = begun-made;
    ends = subst (λ (b : List ℕ). EndsBy place (place + length b) (roll_placed place added)) (sym (begun.names_are).bytes_are) (roll-ends place added);
  }

  pub reclaim-begins : StandsOnHeap new h queue floors
  reclaim-begins = begun-stands v h queue floors s none no-reclaim new begun reclaiming
