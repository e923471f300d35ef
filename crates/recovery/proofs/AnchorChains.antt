-- The chain of the anchors that is read, and the one that the heap holds.
use Rattle.std.proofs.Common.{◌≡◌, ℕ, ◌^◌, ◌<◌, ◌≤◌, Bool, true, false, cond, List, [], ◌∷◌, ◌++◌, map, length, replicate, Some, None, refl, sym, ap, subst}
use Rattle.std.proofs.Common.{◌∙◌, append_assoc, arith}
use Rattle.std.specs.Prelude.{find}
use Rattle.std.specs.List.{AllByRecursion, cons_option}
use Rattle.std.specs.List.Sorted.{IsStrictlySortedBy}
use Rattle.std.specs.declared.cmp.Ordering.TheVariants.{Less}
use Rattle.std.proofs.lemmas.Bool.Decides.{nat_tests}
use Rattle.wire.specs.declared.slot.Anchors.{Anchors}
use Rattle.history.specs.declared.key.Key.{Key}
use Rattle.history.specs.declared.time.TimedWrite.{TimedWrite}
use Rattle.history.specs.Key.{IsKey, key_cmp, key_lt, same_key}
use Rattle.history.proofs.Keys.{key_lt-from_less}
use Rattle.law_image.specs.Values.{Value}
use Rattle.law_image.specs.Reading.{OldRecord}
use Rattle.law_image.specs.Facts.{old_writes}
use Rattle.law_image.specs.StandsFor.{IsAnchorUpto}
use Rattle.chains.specs.KeyWrites.{KeyWrites, is_of, AllAbove, IsOrdered, writes_in, writes_of, latest}
use Rattle.chains.proofs.Order.{ordered-front}
use Rattle.extents.specs.declared.usage.Usage.{Usage}
use Rattle.extents.specs.declared.usage.Usage.TheVariants.{Free}
use Rattle.extents.specs.Usages.{IsFree}
use Rattle.deltas.specs.declared.«record».Content.{Content}
use Rattle.deltas.specs.declared.«record».Content.TheVariants.{Anchor, Delta, Gone, Old}
use Rattle.deltas.specs.declared.«record».Record.{Record}
use Rattle.deltas.specs.declared.chain.ChainName.{ChainName}
use Rattle.deltas.specs.declared.chain.Kinds.TheVariants.{OfAnchors}
use Rattle.deltas.specs.Records as deltas
use Rattle.deltas.specs.Records.{spelling, from_of, value_of, old_record, old_record_of}
use Rattle.deltas.specs.Chains.{IsPermitted}
use Rattle.law_layout.specs.Records.{old_bytes, IsOldRecord}
use Rattle.law_layout.specs.Extents.{Extent, IsExtent, IsChain, HoldsExtent, first_of}
use Rattle.law_layout.specs.Opening.{HasAnchors}
use Rattle.law_layout.proofs.Lists.{both}
use Rattle.recovery.specs.declared.records.ReadRecords.{ReadRecords}
use Rattle.recovery.specs.declared.recovered.HeapRead.{HeapRead}
use Rattle.recovery.specs.Walk.{extent_at, numbers_at, IsThere, claimed, AreClaimable}
use Rattle.recovery.specs.Chains.{numbers_named, HasRecords, HasNoRecords, AreReadRecords}
use Rattle.recovery.specs.HeapReads.{numbers_in}
use Rattle.recovery.specs.Anchored.{anchors_name, anchor_writes, HoldsAnchors, HasNoAnchors}
use Rattle.recovery.proofs.Claims.{IsNumbered, free_all, claimable_distinct, distinct_claimable}
use Rattle.recovery.proofs.RightChains.{StandsAt, numbered_of, walk_is, walk_finds, stands_held, there_held, held_all, images_all}

-- ---- records

old_content : (mark : ℕ) (c : Content) → IsPermitted (OfAnchors mark) c → Old (from_of c) (value_of c) ≡ c
old_content mark (Anchor value) ok = absurd ok
old_content mark (Delta mask changed) ok = absurd ok
old_content mark Gone ok = absurd ok
old_content mark (Old from value) ok = refl

pub old_again : (mark : ℕ) (r : Record) → IsPermitted (OfAnchors mark) r.content → old_record_of (old_record r) ≡ r
old_again mark r ok = let content = old_content mark r.content ok in λ i. record { key = r.key; content = content i }

abbrev pub ArePermitted : ℕ → List Record → Type 0
ArePermitted mark rs = AllByRecursion (λ r. IsPermitted (OfAnchors mark) r.content) rs

pub spelled_again : (mark : ℕ) (rs : List Record) → ArePermitted mark rs → map old_bytes (map old_record rs) ≡ map spelling rs
unfolding old_bytes
spelled_again mark [] ok = refl
spelled_again mark (r ∷ rs) ok =
    let first = old_again mark r ok.0 in
    let rest = spelled_again mark rs ok.1 in
    λ i. spelling (first i) ∷ rest i

pub spelled_of : (olds : List OldRecord) → map spelling (map old_record_of olds) ≡ map old_bytes olds
unfolding old_bytes
spelled_of [] = refl
spelled_of (o ∷ olds) = ap (λ l. spelling (old_record_of o) ∷ l) (spelled_of olds)

old_in_range : (mark : ℕ) (key : Key) (c : Content) → mark < 2 ^ 63 → IsKey key → IsPermitted (OfAnchors mark) c → deltas.IsContent c
    → IsOldRecord (record { key = key; from = from_of c; value = value_of c })
old_in_range mark key (Anchor value) low is ok range = absurd ok
old_in_range mark key (Delta mask changed) low is ok range = absurd ok
old_in_range mark key Gone low is ok range = absurd ok
old_in_range mark key (Old from value) low is ok range = let upto = ok.1 in record { key = is; from = omega arith; value = range.1 }

pub each_again : (mark : ℕ) (rs : List Record) → mark < 2 ^ 63 → ArePermitted mark rs → AllByRecursion deltas.IsRecord rs
    → AllByRecursion IsOldRecord (map old_record rs)
each_again mark [] low ok each = tt
each_again mark (r ∷ rs) low ok each = (old_in_range mark r.key r.content low (each.0).key ok.0 (each.0).content, each_again mark rs low ok.1 each.1)

pub each_of : (olds : List OldRecord) → AllByRecursion IsOldRecord olds → AllByRecursion deltas.IsRecord (map old_record_of olds)
each_of [] each = tt
each_of (o ∷ olds) each = let from = (each.0).from in (record { key = (each.0).key; content = (omega arith, (each.0).value) }, each_of olds each.1)

old_upto : (mark : ℕ) (c : Content) → IsPermitted (OfAnchors mark) c → (0 < from_of c) × (from_of c ≤ mark)
old_upto mark (Anchor value) ok = absurd ok
old_upto mark (Delta mask changed) ok = absurd ok
old_upto mark Gone ok = absurd ok
old_upto mark (Old from value) ok = let low = ok.0 in (omega arith, ok.1)

pub times_again : (mark : ℕ) (rs : List Record) → ArePermitted mark rs → AllByRecursion (IsAnchorUpto mark) (map old_record rs)
times_again mark [] ok = tt
times_again mark (r ∷ rs) ok = (old_upto mark r.content ok.0, times_again mark rs ok.1)

pub permitted_of : (mark : ℕ) (olds : List OldRecord) → AllByRecursion (IsAnchorUpto mark) olds → ArePermitted mark (map old_record_of olds)
permitted_of mark [] upto = tt
permitted_of mark (o ∷ olds) upto = let low = (upto.0).0 in ((omega arith, (upto.0).1), permitted_of mark olds upto.1)

pub keys_again : (rs : List Record) → map (λ (o : OldRecord). o.key) (map old_record rs) ≡ map (λ (r : Record). r.key) rs
keys_again [] = refl
keys_again (r ∷ rs) = ap (λ l. r.key ∷ l) (keys_again rs)

pub keys_of : (olds : List OldRecord) → map (λ (r : Record). r.key) (map old_record_of olds) ≡ map (λ (o : OldRecord). o.key) olds
keys_of [] = refl
keys_of (o ∷ olds) = ap (λ l. o.key ∷ l) (keys_of olds)

-- ---- the writes of each key

above_anchors : (key : Key) (rs : List Record) → AllByRecursion (λ k. key_cmp key k ≡ Less) (map (λ (r : Record). r.key) rs)
    → AllAbove key (map anchor_writes rs)
above_anchors key [] above = tt
above_anchors key (r ∷ rs) above = (key_lt-from_less key r.key above.0, above_anchors key rs above.1)

pub ordered_anchors : (rs : List Record) → IsStrictlySortedBy key_cmp (map (λ (r : Record). r.key) rs) → IsOrdered (map anchor_writes rs)
unfolding IsStrictlySortedBy
ordered_anchors [] rising = tt
ordered_anchors (r ∷ rs) rising = (above_anchors r.key rs rising.0, ordered_anchors rs rising.1)

pub latest_anchors : (mark : ℕ) (rs : List Record) → ArePermitted mark rs → latest (map anchor_writes rs) ≤ mark
latest_anchors mark [] ok = omega arith
latest_anchors mark (r ∷ rs) ok = let first = (old_upto mark r.content ok.0).1 in let rest = latest_anchors mark rs ok.1 in omega arith

none_beyond : (k key : Key) (rs : List Record) → same_key k key ≡ true → AllByRecursion (λ y. key_cmp k y ≡ Less) (map (λ (r : Record). r.key) rs)
    → old_writes (map old_record rs) key ≡ []
none_beyond k key [] same above = refl
none_beyond k key (r ∷ rs) same above =
    let lt : key_lt k r.key ≡ true = key_lt-from_less k r.key above.0 in
    let other : same_key r.key key ≡ false = grind (arith, nat_tests) in
    rw other (none_beyond k key rs same above.1)

pub anchored_writes : (rs : List Record) (key : Key) → IsStrictlySortedBy key_cmp (map (λ (r : Record). r.key) rs) → writes_of (map anchor_writes rs) key
    ≡ old_writes (map old_record rs) key
unfolding IsStrictlySortedBy
anchored_writes [] key rising = refl
anchored_writes (r ∷ rs) key rising =
    let write : TimedWrite Value = record { time = from_of r.content; write = Some (value_of r.content) } in
    let Goal : Bool → Type 0 =
    λ b. same_key r.key key ≡ b → writes_in (cond b (Some (anchor_writes r)) (find (is_of key) (map anchor_writes rs)))
    ≡ cons_option (cond b (Some write) None) (old_writes (map old_record rs) key) in
    let all : (b : Bool) → Goal b =
    λ b. elim b as Goal [
      | true ↦ λ same. ap (λ (l : List (TimedWrite Value)). write ∷ l) (sym (none_beyond r.key key rs same rising.0))
      | false ↦ λ other. anchored_writes rs key rising.1
    ] in
    all (same_key r.key key) refl

-- ---- the chain

-- what is read is the anchors' chain, and these are its extents
pub record IsFoundAnchors (heap : List ℕ) (anchors : Anchors) (records : List Record) : Type 0 where
  pub has : HasAnchors heap anchors.upto anchors
  pub olds_are : has.olds ≡ map old_record records
  pub numbers : numbers_named heap (anchors_name anchors) ≡ numbers_in has.chain

free_each : (es : List Extent) → AllByRecursion IsNumbered es → AllByRecursion (λ e. IsFree (replicate 65536 Free) e.number) es
free_each [] numbered = tt
free_each (e ∷ es) numbered = (free_all e.number (numbered.0).0 (numbered.0).1, free_each es numbered.1)

module _ (heap : List ℕ) (anchors : Anchors) where
  pub anchors_found : (records : List Record) → anchors.upto < 2 ^ 63
      → HasRecords heap (length heap) (replicate 65536 Free) (anchors_name anchors) (OfAnchors anchors.upto) records → IsFoundAnchors heap anchors records
  anchors_found records low right =
      let held = right.held in
      let chain : List Extent = held.chain in
      let is_chain = held.is_chain in
      let are = held.are_records in
      let walked = walk_finds heap anchors.first anchors.extents chain is_chain.first_is is_chain.extents_are is_chain.linked is_chain.each held.images_are in
      let can : AreClaimable (length heap) (replicate 65536 Free) (numbers_in chain) =
      subst (AreClaimable (length heap) (replicate 65536 Free)) walked.0 right.claimable in
      record {
        has = record {
          chain = chain;
          olds = map old_record records;
          are = record {
            is_chain = record {
              is_chain = subst (IsChain anchors.first anchors.extents anchors.records chain) (sym (spelled_again anchors.upto records are.permitted)) is_chain;
              each = each_again anchors.upto records low are.permitted are.each;
            };
            held = held_all heap (replicate 65536 Free) chain is_chain.each can walked.1;
            apart = claimable_distinct (length heap) (replicate 65536 Free) chain can;
            rising = subst (IsStrictlySortedBy key_cmp) (sym (keys_again records)) are.rising;
            times = times_again anchors.upto records are.permitted;
          };
        };
        olds_are = refl;
        numbers = walked.0;
      }

  pub anchors_right : HasAnchors heap anchors.upto anchors → (records : List Record)
      × HasRecords heap (length heap) (replicate 65536 Free) (anchors_name anchors) (OfAnchors anchors.upto) records
  anchors_right has =
      let chain : List Extent = has.chain in
      let live = has.are in
      let is_chain = live.is_chain.is_chain in
      let stands : AllByRecursion (StandsAt heap) chain = both IsExtent (HoldsExtent heap) (StandsAt heap) chain (stands_held heap) is_chain.each live.held in
      let there : AllByRecursion (λ e. IsThere (length heap) e.number) chain =
      both IsExtent (HoldsExtent heap) (λ e. IsThere (length heap) e.number) chain (there_held heap) is_chain.each live.held in
      let walked : numbers_at heap anchors.first anchors.extents ≡ numbers_in chain =
      subst (λ (n : ℕ). numbers_at heap n anchors.extents ≡ numbers_in chain) is_chain.first_is
      (subst (λ (n : ℕ). numbers_at heap (first_of chain) n
      ≡ numbers_in chain) is_chain.extents_are (walk_is heap chain is_chain.linked is_chain.each stands)) in
      let can : AreClaimable (length heap) (replicate 65536 Free) (numbers_in chain) =
      distinct_claimable (length heap) (replicate 65536 Free) chain there (free_each chain (numbered_of chain is_chain.each)) live.apart in (
        map old_record_of has.olds,
        record {
          claimable = subst (AreClaimable (length heap) (replicate 65536 Free)) (sym walked) can;
          held = record {
            chain = chain;
            is_chain = subst (IsChain anchors.first anchors.extents anchors.records chain) (sym (spelled_of has.olds)) is_chain;
            images_are = ap (λ l. map (extent_at heap) l) walked ∙ images_all heap chain stands;
            are_records = record {
              each = each_of has.olds live.is_chain.each;
              permitted = permitted_of anchors.upto has.olds live.times;
              rising = subst (IsStrictlySortedBy key_cmp) (sym (keys_of has.olds)) live.rising;
            };
          };
        },
      )

-- ---- what is read

pub none_left : {X : Type 0} (xs : List X) → length xs ≡ 0 → xs ≡ []
none_left [] none = refl
none_left (x ∷ xs) none = absurd (omega arith)

-- one anchor more is behind the others
pub next_ordered : (chains : List KeyWrites) (all : List Record) (r : Record) (rs : List Record) → chains ++ map anchor_writes (r ∷ rs) ≡ map anchor_writes all
    → IsStrictlySortedBy key_cmp (map (λ (r : Record). r.key) all)
    → IsOrdered (chains ++ anchor_writes r ∷ [])
next_ordered chains all r rs are rising =
    ordered-front (chains ++ anchor_writes r ∷ []) (map anchor_writes rs)
    (subst IsOrdered (sym (append_assoc chains (anchor_writes r ∷ []) (map anchor_writes rs) ∙ are)) (ordered_anchors all rising))

module _ (heap : List ℕ) (len : ℕ) (anchors : Anchors) (usages : List Usage) (name : ChainName) (whole : len ≡ length heap) (all_free : usages
    ≡ replicate 65536 Free) (named : name ≡ anchors_name anchors) where
  pub anchors_held : (new : List Usage) (read : ReadRecords) (out : HeapRead) → anchors.upto < 2 ^ 63
      → AreReadRecords heap len usages name (OfAnchors anchors.upto) new read → out.extents ≡ new → out.live.items ≡ []
      → out.chains ≡ map anchor_writes read.records.items → out.last ≡ anchors.upto → HoldsAnchors heap anchors out
  anchors_held new read out low are extents live chains last_is =
      let kinds = OfAnchors anchors.upto in
      let has : HasRecords heap (length heap) (replicate 65536 Free) (anchors_name anchors) kinds read.records.items =
      subst (λ (n : ℕ). HasRecords heap n (replicate 65536 Free) (anchors_name anchors) kinds read.records.items) whole
      (subst (λ (us : List Usage). HasRecords heap len us (anchors_name anchors) kinds read.records.items) all_free
      (subst (λ (n : ChainName). HasRecords heap len usages n kinds read.records.items) named are.has)) in
      let found = anchors_found heap anchors read.records.items low has in
      record {
        has = found.has;
        extents =
            extents ∙ are.kept
            ∙ ap (λ (us : List Usage). claimed us (numbers_named heap name)) all_free
            ∙ ap (λ (n : ChainName). claimed (replicate 65536 Free) (numbers_named heap n)) named
            ∙ ap (λ (ns : List ℕ). claimed (replicate 65536 Free) ns) found.numbers;
        live = live;
        writes = λ key.
            ap (λ (m : List KeyWrites). writes_of m key) chains
            ∙ anchored_writes read.records.items key has.held.are_records.rising
            ∙ ap (λ (olds : List OldRecord). old_writes olds key) (sym found.olds_are);
        last_is = last_is;
      }

  pub anchors_missing : HasNoRecords heap len usages name (OfAnchors anchors.upto) → HasNoAnchors heap anchors
  anchors_missing none has =
      let kinds = OfAnchors anchors.upto in
      let right = anchors_right heap anchors has in
      none right.0
      (subst (λ (n : ℕ). HasRecords heap n usages name kinds right.0) (sym whole)
      (subst (λ (us : List Usage). HasRecords heap (length heap) us name kinds right.0) (sym all_free)
      (subst (λ (n : ChainName). HasRecords heap (length heap) (replicate 65536 Free) n kinds right.0) (sym named) right.1)))
