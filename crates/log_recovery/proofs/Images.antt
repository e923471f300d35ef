-- Reading a chain from the heap, one extent after the other.
use Rattle.std.proofs.Common.{◌≡◌, ◌≢◌, ℕ, zero, suc, ◌+◌, ◌-◌, ◌*◌, ◌^◌, ◌<◌, ◌≤◌, ◌↔◌, Bool, true, List, [], ◌∷◌, ◌++◌, length, map, refl, sym, ◌∙◌}
use Rattle.std.proofs.Common.{ap, subst, arith}
use Rattle.std.specs.Prelude.{slice_range, take, drop}
use Rattle.std.specs.List.{AllByRecursion}
use Rattle.std.proofs.lemmas.List.{append_assoc, length-take}
use Rattle.disk.specs.Parts.{HoldsPart}
use Rattle.deltas.specs.Extents.{extent_start}
use Rattle.log_extents.specs.Extents.{LinkedExtent, linked_bytes}
use Rattle.log_extents.specs.Chains.{count_of, first_or, chain_of, chain_to, IsNumberOf}
use Rattle.log_extents.specs.Taking.{ChainState, head_of, images_of, gate_of, IsChainFrom, EachChain, BeginsWith, IsMore, IsWhole}
use Rattle.log_extents.specs.declared.chain_reader.ChainKind.{ChainKind}
use Rattle.log_extents.specs.declared.chain_reader.ChainParts.{ChainParts}
use Rattle.law_log_layout.proofs.Places.{linked-length}
use Rattle.log_space.specs.Uses.{IsFree, with_use, all_used, used_count}
use Rattle.log_space.proofs.Uses.{is_one_more, used_at_most}
use Rattle.log_recovery.specs.Taking.{images_of_chain, HoldsImages, IsHeldChain, AreClaimable, IsTakenChain, HasNoChain}

-- ---- lists

-- the flags of extents that are taken one after the other
pub used_behind : (flags : List Bool) (ns ms : List ℕ) → all_used flags (ns ++ ms) ≡ all_used (all_used flags ns) ms
used_behind flags [] ms = refl
used_behind flags (n ∷ ns) ms = used_behind (with_use flags n true) ns ms

pub claimable_more : (flags : List Bool) (ns : List ℕ) (n : ℕ) → AreClaimable flags ns → IsFree (all_used flags ns) n → AreClaimable flags (ns ++ n ∷ [])
claimable_more flags [] n are free = (free, tt)
claimable_more flags (m ∷ ns) n are free = (are.0, claimable_more (with_use flags m true) ns n are.1 free)

pub claimable_at : (flags : List Bool) (ns : List ℕ) (n : ℕ) (ms : List ℕ) → AreClaimable flags (ns ++ n ∷ ms) → IsFree (all_used flags ns) n
claimable_at flags [] n ms are = are.0
claimable_at flags (m ∷ ns) n ms are = claimable_at (with_use flags m true) ns n ms are.1

-- one image more
pub images_more : (heap : List ℕ) (ns : List ℕ) (images : List (List ℕ)) (n : ℕ) (image : List ℕ) → HoldsImages heap ns images
    → HoldsPart (extent_start n) image heap → HoldsImages heap (ns ++ n ∷ []) (images ++ image ∷ [])
images_more heap [] [] n image held one = (one, tt)
images_more heap [] (i ∷ is) n image held one = absurd held
images_more heap (m ∷ ns) [] n image held one = absurd held
images_more heap (m ∷ ns) (i ∷ is) n image held one = (held.0, images_more heap ns is n image held.1 one)

-- ---- the images of a chain

fits : (content : List ℕ) → length (take 8168 content) ≤ 8168
fits content = omega (arith, length-take 8168 content)

-- each has 8,192 bytes
abbrev AreWhole : List (List ℕ) → Type 0
AreWhole images = AllByRecursion (λ (image : List ℕ). length image ≡ 8192) images

whole_images : (end gate link : ℕ) (numbers content : List ℕ) → AreWhole (map linked_bytes (chain_to end gate link numbers content))
whole_images end gate link [] content = tt
whole_images end gate link (n ∷ ns) content = (
  linked-length (record { gate = gate; number = n; next = first_or end ns; link = link; body = take 8168 content }) (fits content),
  whole_images end 0 0 ns (drop 8168 content),
)

-- the image behind others, which has 8,192 bytes
pub record HasNext (heap : List ℕ) (n : ℕ) (rest : List (List ℕ)) : Type 0 where
  pub image : List ℕ
  pub others : List (List ℕ)
  pub rest_is : rest ≡ image ∷ others
  pub held : HoldsPart (extent_start n) image heap
  pub whole : length image ≡ 8192

image_behind : (heap : List ℕ) (ns : List ℕ) (images : List (List ℕ)) (n : ℕ) (ms : List ℕ) (rest : List (List ℕ)) → HoldsImages heap ns images
    → HoldsImages heap (ns ++ n ∷ ms) (images ++ rest) → AreWhole (images ++ rest) → HasNext heap n rest
image_behind heap [] [] n ms [] before held whole = absurd held
image_behind heap [] [] n ms (image ∷ others) before held whole =
    record { image = image; others = others; rest_is = refl; held = held.0; whole = whole.0 }
image_behind heap [] (i ∷ is) n ms rest before held whole = absurd before
image_behind heap (m ∷ ns) [] n ms rest before held whole = absurd before
image_behind heap (m ∷ ns) (i ∷ is) n ms rest before held whole = image_behind heap ns is n ms rest before.1 held.1 whole.1

-- ---- the reading

-- a chain of this kind, whose extents and images begin with those that were read
pub record BeginsAs (s : ChainState) (numbers : List ℕ) (images : List (List ℕ)) : Type 0 where
  pub others : List ℕ
  pub rest : List (List ℕ)
  pub numbers_are : numbers ≡ s.numbers ++ s.next ∷ others
  pub images_are : images ≡ images_of s ++ rest

-- so much was read of a chain, and the extent that comes next is this one
pub record IsReading (kind : ChainKind) (most number : ℕ) (heap : List ℕ) (old now : List Bool) (s : ChainState) (next : ℕ) : Type 0 where
  pub kind_is : s.kind ≡ kind
  pub most_is : s.most ≡ most
  pub head_is : head_of s ≡ number
  pub next_is : s.next ≡ next
  pub images : HoldsImages heap s.numbers (images_of s)
  pub free : AreClaimable old s.numbers
  pub taken : now ≡ all_used old s.numbers
  pub each : (numbers : List ℕ) (link : ℕ) (content : List ℕ) → IsHeldChain kind most number heap numbers link content
      → BeginsAs s numbers (images_of_chain kind numbers link content)

-- the state before the first extent
abbrev pub none_read : ChainKind → ℕ → ℕ → ChainState
none_read kind most number = record { kind = kind; most = most; numbers = []; next = number; link = 0; content = [] }

front_is : (numbers : List ℕ) (number : ℕ) → 0 < length numbers → first_or 0 numbers ≡ number → numbers ≡ number ∷ drop 1 numbers
front_is [] number some first = absurd (omega (arith, some))
front_is (n ∷ ns) number some first = ap (λ (x : ℕ). x ∷ ns) first

pub reading_starts : (kind : ChainKind) (most number : ℕ) (heap : List ℕ) (old : List Bool)
    → IsReading kind most number heap old old (none_read kind most number) number
reading_starts kind most number heap old = record {
  kind_is = refl;
  most_is = refl;
  head_is = refl;
  next_is = refl;
  images = tt;
  free = tt;
  taken = refl;
  each = λ numbers link content held.
      let chain = held.chain.chain in
      record {
        others = drop 1 numbers;
        rest = images_of_chain kind numbers link content;
        numbers_are = front_is numbers number (omega (arith, chain.some, chain.count)) held.chain.first;
        images_are = refl;
      };
}

-- the next image of a chain that the heap has
next_image : (kind : ChainKind) (most number : ℕ) (heap : List ℕ) (old now : List Bool) (s : ChainState) (next : ℕ)
    → IsReading kind most number heap old now s next → (numbers : List ℕ) (link : ℕ) (content : List ℕ)
    → (held : IsHeldChain kind most number heap numbers link content) → (b : BeginsAs s numbers (images_of_chain kind numbers link content))
    → HasNext heap s.next b.rest
next_image kind most number heap old now s next is numbers link content held b =
    image_behind heap s.numbers (images_of s) s.next b.others b.rest is.images
    (subst (λ (ns : List ℕ). HoldsImages heap ns (images_of s ++ b.rest)) b.numbers_are
    (subst (HoldsImages heap numbers) b.images_are held.held))
    (subst AreWhole b.images_are (whole_images 0 (gate_of kind) link numbers content))

-- where the next extent can't be taken there is no such chain
pub reading_ends : (kind : ChainKind) (most number : ℕ) (heap : List ℕ) (old now : List Bool) (s : ChainState) (next heap_len : ℕ)
    → IsReading kind most number heap old now s next → heap_len ≡ length heap → ((next * 8192 ≤ heap_len) × IsFree now next → ⊥)
    → HasNoChain kind most number heap old
reading_ends kind most number heap old now s next heap_len is len_is cannot = λ numbers link content held claimable.
    let b = is.each numbers link content held in
    let at : HasNext heap s.next b.rest = next_image kind most number heap old now s next is numbers link content held b in
    let free : IsFree (all_used old s.numbers) s.next =
    claimable_at old s.numbers s.next b.others (subst (AreClaimable old) b.numbers_are claimable) in
    let inside = at.held.inside in
    let here : IsFree now next = subst (IsFree now) is.next_is (subst (λ (u : List Bool). IsFree u s.next) (sym is.taken) free) in
    let low = here.low in
    cannot (omega (arith, inside, at.whole, len_is, low, is.next_is), here)

-- what was read in an extent is the image that the heap has there
image_is : (heap image other : List ℕ) (n : ℕ) → other ≡ slice_range heap (extent_start n) (extent_start n + 8192) → length image ≡ 8192
    → HoldsPart (extent_start n) image heap → image ≡ other
image_is heap image other n read whole held =
    sym held.is ∙ ap (λ (m : ℕ). slice_range heap (extent_start n) (extent_start n + m)) whole ∙ sym read

-- a chain that the heap has goes on with the image that was read
goes_on : (kind : ChainKind) (most number : ℕ) (heap : List ℕ) (old now : List Bool) (s : ChainState) (next : ℕ) (image : List ℕ)
    → (is : IsReading kind most number heap old now s next) → image ≡ slice_range heap (extent_start next) (extent_start next + 8192)
    → (numbers : List ℕ) (link : ℕ) (content : List ℕ) (held : IsHeldChain kind most number heap numbers link content)
    → (b : BeginsAs s numbers (images_of_chain kind numbers link content)) (at : HasNext heap s.next b.rest)
    → images_of_chain kind numbers link content ≡ (images_of s ++ image ∷ []) ++ at.others
goes_on kind most number heap old now s next image is read numbers link content held b at =
    let there : image ≡ slice_range heap (extent_start s.next) (extent_start s.next + 8192) =
    subst (λ (n : ℕ). image ≡ slice_range heap (extent_start n) (extent_start n + 8192)) (sym is.next_is) read in
    b.images_are ∙ ap (λ (l : List (List ℕ)). images_of s ++ l) at.rest_is
    ∙ ap (λ (i : List ℕ). images_of s ++ i ∷ at.others) (image_is heap at.image image s.next there at.whole at.held)
    ∙ sym (append_assoc (images_of s) (image ∷ []) at.others)

-- so it is one of those that the images so far begin
from_images : (kind : ChainKind) (most number : ℕ) (heap : List ℕ) (old now : List Bool) (s : ChainState) (next : ℕ) (image : List ℕ)
    → (is : IsReading kind most number heap old now s next) → image ≡ slice_range heap (extent_start next) (extent_start next + 8192)
    → (numbers : List ℕ) (link : ℕ) (content : List ℕ) (held : IsHeldChain kind most number heap numbers link content)
    → (b : BeginsAs s numbers (images_of_chain kind numbers link content)) (at : HasNext heap s.next b.rest)
    → IsChainFrom s.kind s.most (head_of s) numbers link content ((images_of s ++ image ∷ []) ++ at.others)
from_images kind most number heap old now s next image is read numbers link content held b at =
    subst (λ (k : ChainKind). IsChainFrom k s.most (head_of s) numbers link content ((images_of s ++ image ∷ []) ++ at.others)) (sym is.kind_is)
    (subst (λ (m : ℕ). IsChainFrom kind m (head_of s) numbers link content ((images_of s ++ image ∷ []) ++ at.others)) (sym is.most_is)
    (subst (λ (n : ℕ). IsChainFrom kind most n numbers link content ((images_of s ++ image ∷ []) ++ at.others)) (sym is.head_is)
    (subst (IsChainFrom kind most number numbers link content)
    (goes_on kind most number heap old now s next image is read numbers link content held b at) held.chain)))

-- where the image that comes next is none there is no such chain
pub reading_fails : (kind : ChainKind) (most number : ℕ) (heap : List ℕ) (old now : List Bool) (s : ChainState) (next : ℕ) (image : List ℕ)
    → IsReading kind most number heap old now s next → image ≡ slice_range heap (extent_start next) (extent_start next + 8192)
    → EachChain s (images_of s ++ image ∷ []) (λ numbers link content rest. ⊥) → HasNoChain kind most number heap old
reading_fails kind most number heap old now s next image is read none = λ numbers link content held claimable.
    let b = is.each numbers link content held in
    let at : HasNext heap s.next b.rest = next_image kind most number heap old now s next is numbers link content held b in
    none numbers link content at.others (from_images kind most number heap old now s next image is read numbers link content held b at)

-- the heap has the image that was read
part_read : (heap image : List ℕ) (n : ℕ) → length image ≡ 8192 → 0 < n → n * 8192 ≤ length heap
    → image ≡ slice_range heap (extent_start n) (extent_start n + 8192) → HoldsPart (extent_start n) image heap
part_read heap image n whole low inside read = record {
  inside = omega (arith, whole, low, inside);
  is = ap (λ (m : ℕ). slice_range heap (extent_start n) (extent_start n + m)) whole ∙ sym read;
}

-- one extent more
pub reading_goes_on : (kind : ChainKind) (most number : ℕ) (heap : List ℕ) (old now : List Bool) (s t : ChainState) (next another : ℕ) (image : List ℕ)
    → IsReading kind most number heap old now s next → length image ≡ 8192 → next * 8192 ≤ length heap → IsFree now next
    → image ≡ slice_range heap (extent_start next) (extent_start next + 8192) → IsMore s t image another
    → IsReading kind most number heap old (with_use now next true) t another
reading_goes_on kind most number heap old now s t next another image is whole inside free read more = record {
  kind_is = more.same.kind ∙ is.kind_is;
  most_is = more.same.most ∙ is.most_is;
  head_is = more.same.head ∙ is.head_is;
  next_is = more.next;
  images = subst (λ (ns : List ℕ). HoldsImages heap ns (images_of t)) (sym more.numbers)
      (subst (HoldsImages heap (s.numbers ++ s.next ∷ [])) (sym more.images)
      (subst (λ (n : ℕ). HoldsImages heap (s.numbers ++ n ∷ []) (images_of s ++ image ∷ [])) (sym is.next_is)
      (images_more heap s.numbers (images_of s) next image is.images (part_read heap image next whole free.low inside read))));
  free = rw (more.numbers, is.next_is) (claimable_more old s.numbers next is.free (subst (λ (u : List Bool). IsFree u next) is.taken free));
  taken = rw (more.numbers, is.next_is) (ap (λ (u : List Bool). with_use u next true) is.taken ∙ sym (used_behind old s.numbers (next ∷ [])));
  each = λ numbers link content held.
      let b = is.each numbers link content held in
      let at : HasNext heap s.next b.rest = next_image kind most number heap old now s next is numbers link content held b in
      let begins : BeginsWith t numbers link content =
      more.each numbers link content at.others (from_images kind most number heap old now s next image is read numbers link content held b at) in
      record {
        others = begins.others;
        rest = at.others;
        numbers_are = begins.numbers_are;
        images_are = goes_on kind most number heap old now s next image is read numbers link content held b at
            ∙ ap (λ (l : List (List ℕ)). l ++ at.others) (sym more.images);
      };
}

-- the last extent
pub reading_is_whole : (kind : ChainKind) (most number : ℕ) (heap : List ℕ) (old now : List Bool) (s t : ChainState) (next : ℕ) (image : List ℕ)
    → (parts : ChainParts) → parts.numbers.items ≡ t.numbers → parts.link ≡ t.link → parts.content.items ≡ t.content
    → IsReading kind most number heap old now s next → length image ≡ 8192 → next * 8192 ≤ length heap → IsFree now next
    → image ≡ slice_range heap (extent_start next) (extent_start next + 8192) → IsWhole s t image
    → IsTakenChain kind most number heap old (with_use now next true) parts
reading_is_whole kind most number heap old now s t next image parts numbers_are link_is content_is is whole inside free read last =
    let chain = last.is_chain in
    let kind_is : t.kind ≡ kind = last.same.kind ∙ is.kind_is in
    let images : images_of t ≡ images_of_chain kind t.numbers t.link t.content =
    ap (λ (n : ℕ). map linked_bytes (chain_to n (gate_of t.kind) t.link t.numbers t.content)) last.next
    ∙ ap (λ (k : ChainKind). images_of_chain k t.numbers t.link t.content) kind_is in
    let from : IsChainFrom kind most number t.numbers t.link t.content (images_of_chain kind t.numbers t.link t.content) =
    subst (λ (k : ChainKind). IsChainFrom k most number t.numbers t.link t.content (images_of_chain kind t.numbers t.link t.content)) is.kind_is
    (subst (λ (m : ℕ). IsChainFrom s.kind m number t.numbers t.link t.content (images_of_chain kind t.numbers t.link t.content)) is.most_is
    (subst (λ (n : ℕ). IsChainFrom s.kind s.most n t.numbers t.link t.content (images_of_chain kind t.numbers t.link t.content)) is.head_is
    (subst (IsChainFrom s.kind s.most (head_of s) t.numbers t.link t.content) (sym last.images ∙ images) chain))) in
    let held : HoldsImages heap t.numbers (images_of_chain kind t.numbers t.link t.content) =
    subst (HoldsImages heap t.numbers) images (subst (λ (ns : List ℕ). HoldsImages heap ns (images_of t)) (sym last.numbers)
    (subst (HoldsImages heap (s.numbers ++ s.next ∷ [])) (sym last.images)
    (subst (λ (n : ℕ). HoldsImages heap (s.numbers ++ n ∷ []) (images_of s ++ image ∷ [])) (sym is.next_is)
    (images_more heap s.numbers (images_of s) next image is.images (part_read heap image next whole free.low inside read))))) in
    record {
      held = rw (numbers_are, link_is, content_is) (record { chain = from; held = held });
      free = rw (numbers_are, last.numbers, is.next_is)
          (claimable_more old s.numbers next is.free (subst (λ (u : List Bool). IsFree u next) is.taken free));
      taken = rw (numbers_are, last.numbers, is.next_is)
          (ap (λ (u : List Bool). with_use u next true) is.taken ∙ sym (used_behind old s.numbers (next ∷ [])));
    }

-- one extent more is taken, and one fewer is free
pub fewer_free : (flags : List Bool) (n : ℕ) → IsFree flags n
    → length (with_use flags n true) - used_count (with_use flags n true) < length flags - used_count flags
fewer_free flags n free =
    let more = is_one_more flags n free in
    omega (arith, more.count, more.len, used_at_most (with_use flags n true))
