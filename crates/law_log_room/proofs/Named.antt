-- What a base names of the log's front: no more than the log names.
use Rattle.std.proofs.Common.{◌≡◌, ℕ, zero, suc, ◌+◌, ◌-◌, ◌<◌, ◌≤◌, List, [], ◌∷◌, ◌++◌, length, map, take, drop}
use Rattle.std.proofs.Common.{None, refl, arith, ap, sym, subst, ◌∙◌, inl, length-append}
use Rattle.std.specs.Prelude.{flat_map}
use Rattle.std.specs.List.{AllByRecursion}
use Rattle.std.proofs.lemmas.Grind.{flat_map-append}
use Rattle.std.proofs.lemmas.List.{append-nil}
use Rattle.std.proofs.lemmas.List.Concat.{flat_map-cons}
use Rattle.history.specs.Histories.{History}
use Rattle.law_image.specs.Values.{Value}
use Rattle.law_image.specs.Reading.{Reading}
use Rattle.law_image.specs.Log.{floor_of}
use Rattle.law_log.specs.Chains.{reclaimed_by}
use Rattle.floors.specs.Floors.{AreRising, floor_at, floor_or}
use Rattle.floors.specs.declared.floors.OwnFloor.{OwnFloor}
use Rattle.log_entries.specs.declared.entry.Archive.{Archive}
use Rattle.log_entries.specs.declared.entry.Entry.{Entry}
use Rattle.log_entries.specs.declared.entry.Entry.TheVariants.{Group, Archived, Floor}
use Rattle.log_entries.specs.declared.entry.Entry.TheVariants as entries
use Rattle.log_entries.specs.declared.entry.Roll.{Roll}
use Rattle.log_entries.specs.Ranges.{IsFloor}
use Rattle.log_base.specs.Bases.{no_anchors, own_from, own_behind, relation_floor, rolls_at, rolls_of, runs_behind, runs_from}
use Rattle.log_base.specs.Laws.{MayBeAnchors}
use Rattle.log_base.proofs.BaseEntries.{is-base}
use Rattle.log_base.proofs.FloorsLeft.{floors-left, floors-rise}
use Rattle.log_recovery.specs.Live.{LiveChainValue, live_of, part_of}
use Rattle.log_recovery.specs.Read.{all_archives, archives_named}
use Rattle.log_recovery.specs.declared.live.LivePart.{LivePart}
use Rattle.log_recovery.specs.declared.live.LivePart.TheVariants.{Commits}
use Rattle.log_recovery.specs.declared.live.LivePart.TheVariants as parts
use Rattle.law_log_layout.specs.HeapLog.{IsPlaced, PlacedChain, chains_told, rolls_in}
use Rattle.log_store.specs.Reclaims.{archives_at, archives_in}
use Rattle.log_store.specs.Values.{LogStoreValue}
use Rattle.law_log_store.specs.Standing.{StandsOnHeap}
use Rattle.law_log_store.proofs.Behind.{HasChains, has-chains}
use Rattle.law_log_store.proofs.Fronted.{IsBehindLog}
use Rattle.law_log_room.proofs.Floors.{as-many, front-fewer}

-- ---- rolls

rolls-front : (n : ℕ) (cs : List LiveChainValue) → length (rolls_of (take n cs)) ≤ length (rolls_of cs)
rolls-front zero cs = omega arith
rolls-front (suc n) [] = omega arith
rolls-front (suc n) (c ∷ cs) = omega arith

rolls-one : (e : Entry) → rolls_at (part_of e) ≡ rolls_in e
rolls-one (Group members) = refl
rolls-one (Archived archive) = refl
rolls-one (Floor floor) = refl
rolls-one (entries.Base base) = refl

-- ---- archives

taken : {X : Type 0} (n : ℕ) (xs : List X) → length (take n xs) ≤ length xs
taken zero xs = omega arith
taken (suc n) [] = omega arith
taken (suc n) (x ∷ xs) = let rest = taken n xs in omega (arith, rest)

runs-one : (before : List Archive) (part : LivePart) → length (runs_behind before part) ≤ length before + length (archives_at part)
runs-one before (Commits last) = omega arith
runs-one before (parts.Archived archive) =
    let kept = take (length before - archive.runs) before in
    let long = length-append kept (Rattle.log_base.specs.Bases.in_base archive ∷ []) in
    let few = taken (length before - archive.runs) before in
    omega (arith, long, few)
runs-one before (parts.Floor floor) = omega arith
runs-one before (parts.Base base) = let long = length-append before base.archives in omega (arith, long)

-- of the front, beside those that the chains behind it name
pub runs-split : (n : ℕ) (before : List Archive) (cs : List LiveChainValue)
    → length (runs_from before (take n cs)) + length (archives_in (drop n cs)) ≤ length before + length (archives_in cs)
runs-split zero before cs = omega arith
runs-split (suc n) before [] = omega arith
runs-split (suc n) before (c ∷ cs) =
    let one = runs-one before c.part in
    let rest = runs-split n (runs_behind before c.part) cs in
    let whole : length (archives_in (c ∷ cs)) ≡ length (archives_at c.part) + length (archives_in cs) =
    ap (λ (xs : List Archive). length xs) (flat_map-cons (λ (d : LiveChainValue). archives_at d.part) c cs)
    ∙ length-append (archives_at c.part) (archives_in cs) in
    omega (arith, one, rest, whole)

archives-one : (e : Entry) → archives_at (part_of e) ≡ archives_named e
archives-one (Group members) = refl
archives-one (Archived archive) = refl
archives-one (Floor floor) = refl
archives-one (entries.Base base) = refl

archives-all : (cs : List PlacedChain) → archives_in (map live_of cs) ≡ all_archives cs
archives-all [] = refl
archives-all (c ∷ cs) =
    flat_map-cons (λ (d : LiveChainValue). archives_at d.part) (live_of c) (map live_of cs)
    ∙ (λ i. archives-one c.entry i ++ archives-all cs i)
    ∙ sym (flat_map-cons (λ (d : PlacedChain). archives_named d.entry) c cs)

-- ---- a group on its way names nothing

module _ (mark next : ℕ) where
  none-archived : (extra : List LiveChainValue) → IsBehindLog mark next extra → archives_in extra ≡ []
  none-archived [] is = refl
  none-archived (c ∷ []) is =
      flat_map-cons (λ (d : LiveChainValue). archives_at d.part) c [] ∙ append-nil (archives_at c.part) ∙ ap archives_at is.part
  none-archived (c ∷ d ∷ cs) is = absurd is

  -- neither rolls
  rolls-same : (cs : List PlacedChain) (extra : List LiveChainValue) → IsBehindLog mark next extra
      → rolls_of (map live_of cs ++ extra) ≡ rolls_of (map live_of cs)
  rolls-same [] [] is = refl
  rolls-same [] (c ∷ []) is = ap rolls_at is.part
  rolls-same [] (c ∷ d ∷ more) is = absurd is
  rolls-same (c ∷ cs) extra is = refl

  -- nor floors
  own-same : (own : List OwnFloor) (cs : List PlacedChain) (extra : List LiveChainValue) → IsBehindLog mark next extra
      → own_from own (map live_of cs ++ extra) ≡ own_from own (map live_of cs)
  own-same own [] [] is = refl
  own-same own [] (c ∷ []) is = ap (own_behind own) is.part
  own-same own [] (c ∷ d ∷ more) is = absurd is
  own-same own (c ∷ cs) extra is = own-same (own_behind own (part_of c.entry)) cs extra is

-- ---- floors

positive : (own : List OwnFloor) → AllByRecursion IsFloor (map relation_floor own) → AllByRecursion (λ (o : OwnFloor). 0 < o.floor) own
positive [] all = tt
positive (o ∷ own) all = ((all.0).low, positive own all.1)

placed-positive : (most : ℕ) (cs : List PlacedChain) → AllByRecursion (IsPlaced most) cs
    → AllByRecursion (λ (o : OwnFloor). 0 < o.floor) (own_from [] (map live_of cs))
placed-positive most cs placed =
    positive (own_from [] (map live_of cs)) (is-base most 1 cs no_anchors None placed (omega arith) (omega arith) none tt).parts.floors
  where
    none : MayBeAnchors most no_anchors
    none = record {
      first = omega arith;
      extents = omega arith;
      «records» = omega arith;
      place = inl (record { first = refl; extents = refl; «records» = refl });
    }

-- ---- a base in the place of so many chains

-- It names no more than all of the chains do.
pub record NamesFew (chains : List LiveChainValue) (n : ℕ) : Type 0 where
  pub rolls : length (rolls_of (take n chains)) ≤ length (rolls_of chains)
  pub archives : length (runs_from [] (take n chains)) ≤ length (archives_in chains)
  pub floors : length (own_from [] (take n chains)) ≤ length (own_from [] chains)

pub names-few : (chains : List LiveChainValue) (n : ℕ) → NamesFew chains n
names-few chains n = record {
  rolls = rolls-front n chains;
  archives = let few = runs-split n [] chains in omega (arith, few);
  floors = front-fewer n [] chains;
}

-- ---- what memory counts

module _ (v : LogStoreValue) (h queue : History Value) (floors : ℕ → ℕ) (s : StandsOnHeap v h queue floors) (free : v.job ≡ None)
    (same : (relation : ℕ) → floor_at v.commits.floors relation ≡ floors relation) where
  chains : HasChains v s.l
  chains = has-chains v h queue floors s free

  pub rolls-few : length (rolls_of v.live.chains) ≤ length v.named.rolls
  rolls-few =
      let memory : length v.named.rolls ≡ length (flat_map (λ (c : PlacedChain). rolls_in c.entry) s.l.chains) =
      ap (λ (rs : List Roll). length rs) (s.named.rolls ∙ (s.is_log).rolls_named) in
      let live : length (rolls_of v.live.chains) ≡ length (rolls_of (map live_of s.l.chains)) =
      ap (λ (rs : List Roll). length rs)
      (ap rolls_of (chains).are ∙ rolls-same v.named.upto s.l.next s.l.chains (chains).extra (chains).behind) in
      let some = first-of-all s.l.chains in
      omega (arith, memory, live, some)
    where
      first-of-all : (cs : List PlacedChain) → length (rolls_of (map live_of cs)) ≤ length (flat_map (λ (c : PlacedChain). rolls_in c.entry) cs)
      first-of-all [] = omega arith
      first-of-all (c ∷ cs) =
          let whole : length (flat_map (λ (d : PlacedChain). rolls_in d.entry) (c ∷ cs))
          ≡ length (rolls_in c.entry) + length (flat_map (λ (d : PlacedChain). rolls_in d.entry) cs) =
          ap (λ (rs : List Roll). length rs) (flat_map-cons (λ (d : PlacedChain). rolls_in d.entry) c cs)
          ∙ length-append (rolls_in c.entry) (flat_map (λ (d : PlacedChain). rolls_in d.entry) cs) in
          let one : length (rolls_at (part_of c.entry)) ≡ length (rolls_in c.entry) = ap (λ (rs : List Roll). length rs) (rolls-one c.entry) in
          omega (arith, whole, one)

  pub archives-are : archives_in v.live.chains ≡ v.named.archives
  archives-are =
      ap archives_in (chains).are
      ∙ flat_map-append (λ (d : LiveChainValue). archives_at d.part) (map live_of s.l.chains) (chains).extra
      ∙ (λ i. archives-all s.l.chains i ++ none-archived v.named.upto s.l.next (chains).extra (chains).behind i)
      ∙ append-nil (all_archives s.l.chains)
      ∙ sym s.named.archives

  abbrev own : List OwnFloor
  own = own_from [] (map live_of s.l.chains)

  own-are : own_from [] v.live.chains ≡ own
  own-are = ap (own_from []) (chains).are ∙ own-same v.named.upto s.l.next [] s.l.chains (chains).extra (chains).behind

  own-told : (relation : ℕ) → floor_or 0 own relation ≡ floor_at v.commits.floors relation
  own-told relation =
      let names = (s.is_log).names in
      ap (λ (f : ℕ → ℕ). f relation) (floors-left (reclaimed_by (chains_told names s.l.chains)) [] [] names s.l.chains refl)
      ∙ sym (ap (λ (r : Reading). floor_of r.log relation) (s.is_log).reading_is)
      ∙ s.stands.opens.floors_given relation
      ∙ sym (same relation)

  -- the floors of the log rise, and are those in memory
  pub own-rising : AreRising (own_from [] v.live.chains)
  own-rising = subst AreRising (sym own-are) (floors-rise [] s.l.chains tt)

  pub told-same : (relation : ℕ) → floor_or 0 (own_from [] v.live.chains) relation ≡ floor_at v.commits.floors relation
  told-same relation = ap (λ (os : List OwnFloor). floor_or 0 os relation) own-are ∙ own-told relation

  pub floors-few : length (own_from [] v.live.chains) ≤ length v.commits.floors.own
  floors-few =
      let few = as-many own v.commits.floors (floors-rise [] s.l.chains tt) (placed-positive v.roots.extents s.l.chains (s.is_log).placed) own-told in
      let len = ap (λ (os : List OwnFloor). length os) own-are in
      omega (arith, few, len)
