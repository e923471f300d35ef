-- The chain that is read of a commit, and the member that the heap holds.
use Rattle.std.proofs.Common.{◌≡◌, ℕ, suc, zero, ◌+◌, ◌^◌, ◌<◌, ◌≤◌, List, [], ◌∷◌, map, length, replicate, drop, Option, refl, sym, ap, subst, ◌∙◌, arith}
use Rattle.std.specs.Prelude.{slice_range}
use Rattle.std.specs.List.{AllByRecursion}
use Rattle.std.specs.List.Sorted.{IsStrictlySortedBy}
use Rattle.byteorder.specs.Numbers.{little_from-bytes}
use Rattle.wire.specs.Numbers.{u32_bytes}
use Rattle.wire.specs.Spelling.{IsMember}
use Rattle.wire.specs.declared.slot.Member.{Member}
use Rattle.history.specs.declared.key.Key.{Key}
use Rattle.history.specs.Key.{key_cmp}
use Rattle.law_image.specs.Values.{Value}
use Rattle.law_image.specs.Reading as readings
use Rattle.law_image.specs.Facts.{IsStored}
use Rattle.status.specs.Rules.{head_of}
use Rattle.extents.specs.declared.usage.Usage.{Usage}
use Rattle.extents.specs.declared.usage.Usage.TheVariants.{Free, Kept}
use Rattle.extents.specs.Usages.{with_usage}
use Rattle.deltas.specs.declared.«record».Record.{Record}
use Rattle.deltas.specs.declared.chain.Kinds.TheVariants.{OfCommit}
use Rattle.deltas.specs.Records as deltas
use Rattle.deltas.specs.Records.{spelling, record_of, content_of, heap_content, heap_record}
use Rattle.deltas.specs.Reading.{next_of}
use Rattle.deltas.specs.Chains.{IsPermitted}
use Rattle.deltas.proofs.OneList.{one_packing}
use Rattle.law_layout.specs.Records.{record_bytes, IsRecord}
use Rattle.law_layout.specs.Extents.{Extent, IsExtent, IsChain, AreLinked, AreDistinct, HoldsExtent, first_of, extent_start, extent_bytes}
use Rattle.law_layout.specs.Layouts.{StoredMember}
use Rattle.law_layout.specs.Opening.{IsLiveMember, HasMember}
use Rattle.law_layout.proofs.Extents.{extent-length}
use Rattle.law_layout.proofs.Lists.{weaker, both, distinct_parts, distinct_join, cross_turned}
use Rattle.recovery.specs.Walk.{extent_at, numbers_at, IsThere, claimed, AreClaimable}
use Rattle.recovery.specs.Chains.{numbers_of, chain_name, HasRecords, IsRightChain}
use Rattle.recovery.specs.HeapReads.{numbers_in}
use Rattle.recovery.proofs.Stored.{content_again}
use Rattle.recovery.proofs.Claims.{IsNumbered, kept_all, claimable_distinct, claimable_cross, distinct_claimable, cross_free}

-- ---- records

record_again : (r : Record) → IsPermitted OfCommit r.content → record_of (heap_record r) ≡ r
record_again r ok = let content = content_again r.content ok in λ i. record { key = r.key; content = content i }

heap_content_again : (content : readings.Content) → heap_content (content_of content) ≡ content
heap_content_again (readings.Anchor value) = refl
heap_content_again (readings.Delta mask changed) = refl
heap_content_again readings.Gone = refl

heap_records_again : (rs : List readings.HeapRecord) → map heap_record (map record_of rs) ≡ rs
heap_records_again [] = refl
heap_records_again (r ∷ rs) =
    let content = heap_content_again r.content in
    let rest = heap_records_again rs in
    λ i. record { key = r.key; content = content i } ∷ rest i

spelled_again : (rs : List Record) → AllByRecursion (λ r. IsPermitted OfCommit r.content) rs → map record_bytes (map heap_record rs) ≡ map spelling rs
unfolding record_bytes
spelled_again [] ok = refl
spelled_again (r ∷ rs) ok =
    let first = record_again r ok.0 in
    let rest = spelled_again rs ok.1 in
    λ i. spelling (first i) ∷ rest i

spelled_of : (rs : List readings.HeapRecord) → map spelling (map record_of rs) ≡ map record_bytes rs
unfolding record_bytes
spelled_of [] = refl
spelled_of (r ∷ rs) = ap (λ l. spelling (record_of r) ∷ l) (spelled_of rs)

each_again : (rs : List Record) → AllByRecursion (λ r. IsPermitted OfCommit r.content) rs → AllByRecursion deltas.IsRecord rs
    → AllByRecursion IsRecord (map heap_record rs)
each_again [] ok each = tt
each_again (r ∷ rs) ok each = (subst deltas.IsRecord (sym (record_again r ok.0)) each.0, each_again rs ok.1 each.1)

each_of : (rs : List readings.HeapRecord) → AllByRecursion IsRecord rs → AllByRecursion deltas.IsRecord (map record_of rs)
each_of [] each = tt
each_of (r ∷ rs) each = (each.0, each_of rs each.1)

permitted_content : (content : readings.Content) → IsPermitted OfCommit (content_of content)
permitted_content (readings.Anchor value) = tt
permitted_content (readings.Delta mask changed) = tt
permitted_content readings.Gone = tt

permitted_of : (rs : List readings.HeapRecord) → AllByRecursion (λ r. IsPermitted OfCommit r.content) (map record_of rs)
permitted_of [] = tt
permitted_of (r ∷ rs) = (permitted_content r.content, permitted_of rs)

keys_again : (rs : List Record) → map (λ (r : readings.HeapRecord). r.key) (map heap_record rs) ≡ map (λ (r : Record). r.key) rs
keys_again [] = refl
keys_again (r ∷ rs) = ap (λ l. r.key ∷ l) (keys_again rs)

keys_of : (rs : List readings.HeapRecord) → map (λ (r : Record). r.key) (map record_of rs) ≡ map (λ (r : readings.HeapRecord). r.key) rs
keys_of [] = refl
keys_of (r ∷ rs) = ap (λ l. r.key ∷ l) (keys_of rs)

count_again : (rs : List Record) → length (map heap_record rs) ≡ length rs
count_again [] = refl
count_again (r ∷ rs) = ap suc (count_again rs)

count_spelled : (rs : List Record) → length (map spelling rs) ≡ length rs
count_spelled [] = refl
count_spelled (r ∷ rs) = ap suc (count_spelled rs)

-- ---- extents

pub numbered_of : (es : List Extent) → AllByRecursion IsExtent es → AllByRecursion IsNumbered es
numbered_of es each = weaker IsExtent IsNumbered es (λ e is. let low = is.low in (omega arith, is.high)) each

next_again : (e : Extent) → e.next < 2 ^ 32 → next_of (extent_bytes e) ≡ e.next
unfolding next_of extent_bytes u32_bytes
next_again e lt = little_from-bytes 4 0 e.next (drop 8 (extent_bytes e)) ∙ omega arith

first-high : (es : List Extent) → AllByRecursion IsExtent es → first_of es < 2 ^ 32
first-high [] each = omega arith
first-high (e ∷ es) each = let high = (each.0).high in omega arith

-- the heap's bytes at an extent's place are those of the extent
abbrev pub StandsAt : List ℕ → Extent → Type 0
StandsAt heap e = extent_at heap e.number ≡ extent_bytes e

head_bytes : (x y : List ℕ) (xs ys : List (List ℕ)) → x ∷ xs ≡ y ∷ ys → x ≡ y
head_bytes x y xs ys same = cc

tail_bytes : (x y : List ℕ) (xs ys : List (List ℕ)) → x ∷ xs ≡ y ∷ ys → xs ≡ ys
tail_bytes x y xs ys same = cc

onward : (heap : List ℕ) (n : ℕ) (e : Extent) (es : List Extent) → extent_at heap n ≡ extent_bytes e → AreLinked (e ∷ es) → AllByRecursion IsExtent es
    → next_of (extent_at heap n) ≡ first_of es
onward heap n e es stands linked each =
    let high = first-high es each in
    ap next_of stands ∙ next_again e (omega (arith, linked.0)) ∙ linked.0

-- the walk over a chain that stands there
pub walk_is : (heap : List ℕ) (es : List Extent) → AreLinked es → AllByRecursion IsExtent es → AllByRecursion (StandsAt heap) es
    → numbers_at heap (first_of es) (length es) ≡ numbers_in es
walk_is heap [] linked each stands = refl
walk_is heap (e ∷ es) linked each stands =
    ap (λ (n : ℕ). e.number ∷ numbers_at heap n (length es)) (onward heap e.number e es stands.0 linked each.1)
    ∙ ap (λ l. e.number ∷ l) (walk_is heap es linked.1 each.1 stands.1)

-- and what stands there is what was walked over
pub walk_finds : (heap : List ℕ) (first n : ℕ) (es : List Extent) → first_of es ≡ first → length es ≡ n → AreLinked es → AllByRecursion IsExtent es
    → map (extent_at heap) (numbers_at heap first n) ≡ map extent_bytes es
    → (numbers_at heap first n ≡ numbers_in es) × AllByRecursion (StandsAt heap) es
walk_finds heap first zero [] from long linked each are = (refl, tt)
walk_finds heap first (suc n) [] from long linked each are = absurd (omega arith)
walk_finds heap first zero (e ∷ es) from long linked each are = absurd (omega arith)
walk_finds heap first (suc n) (e ∷ es) from long linked each are =
    let here : extent_at heap first ≡ extent_bytes e =
    head_bytes (extent_at heap first) (extent_bytes e) (map (extent_at heap) (numbers_at heap (next_of (extent_at heap first)) n)) (map extent_bytes es) are in
    let behind : map (extent_at heap) (numbers_at heap (next_of (extent_at heap first)) n) ≡ map extent_bytes es =
    tail_bytes (extent_at heap first) (extent_bytes e) (map (extent_at heap) (numbers_at heap (next_of (extent_at heap first)) n)) (map extent_bytes es) are in
    let rest = walk_finds heap (next_of (extent_at heap first)) n es (sym (onward heap first e es here linked each.1)) (omega arith) linked.1 each.1 behind in
    let numbers = rest.0 in
    let from' = sym from in (
      (λ i. from' i ∷ numbers i),
      (ap (extent_at heap) from ∙ here, rest.1),
    )

pub stands_held : (heap : List ℕ) (e : Extent) → IsExtent e → HoldsExtent heap e → StandsAt heap e
unfolding extent_at
stands_held heap e is held = ap (λ (n : ℕ). slice_range heap (extent_start e.number) (extent_start e.number + n)) (sym (extent-length e is)) ∙ held.is

held_stands : (heap : List ℕ) (e : Extent) → IsExtent e → IsThere (length heap) e.number → StandsAt heap e → HoldsExtent heap e
unfolding extent_at
held_stands heap e is there stands =
    let long = extent-length e is in
    let inside = there.inside in
    let low = is.low in
    record { inside = omega arith; is = ap (λ (n : ℕ). slice_range heap (extent_start e.number) (extent_start e.number + n)) long ∙ stands }

pub there_held : (heap : List ℕ) (e : Extent) → IsExtent e → HoldsExtent heap e → IsThere (length heap) e.number
there_held heap e is held =
    let long = extent-length e is in
    let inside = held.inside in
    let low = is.low in
    record { low = omega arith; high = is.high; inside = omega arith }

pub held_all : (heap : List ℕ) (usages : List Usage) (es : List Extent) → AllByRecursion IsExtent es → AreClaimable (length heap) usages (numbers_in es)
    → AllByRecursion (StandsAt heap) es → AllByRecursion (HoldsExtent heap) es
held_all heap usages [] each can stands = tt
held_all heap usages (e ∷ es) each can stands =
    (held_stands heap e each.0 can.0 stands.0, held_all heap (with_usage usages e.number Kept) es each.1 can.2 stands.1)

pub images_all : (bytes : List ℕ) (es : List Extent) → AllByRecursion (StandsAt bytes) es → map (extent_at bytes) (numbers_in es) ≡ map extent_bytes es
images_all bytes [] stands = refl
images_all bytes (e ∷ es) stands =
    let first = stands.0 in
    let rest = images_all bytes es stands.1 in
    λ i. first i ∷ rest i

-- ---- from the chain to the member

unfoldable pub member_of : Member → List Extent → List Record → StoredMember
member_of entry extents records = record { entry = entry; member = record { head = head_of entry; records = map heap_record records }; extents = extents }

-- what is right and read is the member's chain, and these are its extents
pub record IsFound (heap : List ℕ) (taken : List Extent) (before : Key → Option Value) (entry : Member) (records : List Record) : Type 0 where
  pub extents : List Extent
  pub live : IsLiveMember heap taken before (member_of entry extents records)
  pub numbers : numbers_of heap entry ≡ numbers_in extents

some_records : (m n k : ℕ) → 0 < m → m ≤ n → k ≡ n → 0 < k
some_records m n k some most same = omega arith

module _ (heap : List ℕ) (taken : List Extent) (before : Key → Option Value) (entry : Member)
    (ranges : IsMember entry) (distinct : AreDistinct taken) (numbered : AllByRecursion IsNumbered taken) where
  pub right_found : (records : List Record) → IsRightChain heap (length heap) (claimed (replicate 65536 Free) (numbers_in taken)) before entry records
      → IsFound heap taken before entry records
  unfolding member_of
  right_found records right =
      let usages : List Usage = claimed (replicate 65536 Free) (numbers_in taken) in
      let held = right.has.held in
      let chain : List Extent = held.chain in
      let is_chain = held.is_chain in
      let are = held.are_records in
      let walked = walk_finds heap entry.first entry.extents chain is_chain.first_is is_chain.extents_are is_chain.linked is_chain.each held.images_are in
      let can : AreClaimable (length heap) usages (numbers_in chain) = subst (AreClaimable (length heap) usages) walked.0 right.has.claimable in
      let count : length (map heap_record records) ≡ entry.records = count_again records ∙ sym (count_spelled records) ∙ is_chain.records_are in
      record {
        extents = chain;
        live = record {
          stored = record {
            head_is = refl;
            chain = subst (IsChain entry.first entry.extents entry.records chain) (sym (spelled_again records are.permitted)) is_chain;
            each = each_again records are.permitted are.each;
          };
          rules = record {
            rising = subst (IsStrictlySortedBy key_cmp) (sym (keys_again records)) are.rising;
            some = some_records entry.extents entry.records (length (map heap_record records)) ranges.extents_low ranges.extents_high count;
            few = subst (λ (n : ℕ). n ≤ 1024) (sym count) ranges.records;
          };
          held = held_all heap usages chain is_chain.each can walked.1;
          apart = distinct_join taken chain distinct (claimable_distinct (length heap) usages chain can)
              (claimable_cross (length heap) usages taken chain (kept_all (replicate 65536 Free) taken numbered) can);
          spellings = right.stored;
        };
        numbers = walked.0;
      }

-- where the records that were read are not stored so, there is no right chain
pub no_writes : (heap : List ℕ) (len : ℕ) (usages : List Usage) (before : Key → Option Value) (entry : Member) (found : List Record)
    → HasRecords heap len usages (chain_name entry) OfCommit found
    → ¬ AllByRecursion (IsStored before) (map heap_record found) → (records : List Record) → ¬ IsRightChain heap len usages before entry records
no_writes heap len usages before entry found has none records right =
    let same : records ≡ found =
    one_packing (chain_name entry) (chain_name entry) OfCommit OfCommit (map (extent_at heap) (numbers_of heap entry)) records found right.has.held has.held
    in
    none (subst (λ (l : List Record). AllByRecursion (IsStored before) (map heap_record l)) same right.stored)

-- ---- and back

module _ (heap : List ℕ) (taken : List Extent) (before : Key → Option Value) (entry : Member) (numbered : AllByRecursion IsNumbered taken) where
  pub live_right : HasMember heap taken before entry → (records : List Record)
      × IsRightChain heap (length heap) (claimed (replicate 65536 Free) (numbers_in taken)) before entry records
  live_right has =
      let usages : List Usage = claimed (replicate 65536 Free) (numbers_in taken) in
      let s : StoredMember = has.found in
      let rs = s.member.records in
      let live = has.is in
      let is_chain : IsChain entry.first entry.extents entry.records s.extents (map record_bytes rs) =
      subst (λ (e : Member). IsChain e.first e.extents e.records s.extents (map record_bytes rs)) has.entry_is live.stored.chain in
      let stands : AllByRecursion (StandsAt heap) s.extents =
      both IsExtent (HoldsExtent heap) (StandsAt heap) s.extents (stands_held heap) is_chain.each live.held in
      let there : AllByRecursion (λ e. IsThere (length heap) e.number) s.extents =
      both IsExtent (HoldsExtent heap) (λ e. IsThere (length heap) e.number) s.extents (there_held heap) is_chain.each live.held in
      let walked : numbers_at heap entry.first entry.extents ≡ numbers_in s.extents =
      subst (λ (n : ℕ). numbers_at heap n entry.extents ≡ numbers_in s.extents) is_chain.first_is
      (subst (λ (n : ℕ). numbers_at heap (first_of s.extents) n
      ≡ numbers_in s.extents) is_chain.extents_are (walk_is heap s.extents is_chain.linked is_chain.each stands)) in
      let parts = distinct_parts taken s.extents live.apart in
      let can : AreClaimable (length heap) usages (numbers_in s.extents) =
      distinct_claimable (length heap) usages s.extents there
      (cross_free taken s.extents numbered (numbered_of s.extents is_chain.each) (cross_turned taken s.extents parts.2)) parts.1 in (
        map record_of rs,
        record {
          has = record {
            claimable = subst (AreClaimable (length heap) usages) (sym walked) can;
            held = record {
              chain = s.extents;
              is_chain = subst (IsChain entry.first entry.extents entry.records s.extents) (sym (spelled_of rs)) is_chain;
              images_are = ap (λ l. map (extent_at heap) l) walked ∙ images_all heap s.extents stands;
              are_records = record {
                each = each_of rs live.stored.each;
                permitted = permitted_of rs;
                rising = subst (IsStrictlySortedBy key_cmp) (sym (keys_of rs)) live.rules.rising;
              };
            };
          };
          stored = subst (AllByRecursion (IsStored before)) (sym (heap_records_again rs)) live.spellings;
        },
      )
