-- A chain that is read: what may come next, and what comes next in a chain.
use Rattle.std.proofs.Common.{◌≡◌, ◌≢◌, ℕ, zero, suc, ◌+◌, ◌-◌, ◌*◌, ◌^◌, ◌<◌, ◌≤◌, List, [], ◌∷◌, ◌++◌, length, map, take, drop, refl, sym, ◌∙◌, ap, subst}
use Rattle.std.proofs.Common.{arith, append_assoc, length-append}
use Rattle.std.specs.List.{AllByRecursion}
use Rattle.std.proofs.lemmas.List.{append-nil, map-append, nil_from_length, length-take, length-drop, take_all, take-append-le, drop-append-le}
use Rattle.std.proofs.lemmas.List.{take-append-drop}
use Rattle.log_extents.specs.declared.chain_reader.ChainKind.{ChainKind}
use Rattle.log_extents.specs.declared.chain_reader.ChainKind.TheVariants.{Log, Anchors}
use Rattle.log_extents.specs.Extents.{LinkedExtent, linked_bytes}
use Rattle.log_extents.specs.Chains.{first_or, chain_to, IsNumberOf, IsNew, AreDistinct}
use Rattle.log_extents.specs.Taking.{gate_of, IsLinkOf, IsChainFrom, ChainState, state_of, head_of, images_of, IsLinkAfter, IsTaking, IsPlaced, Fits}
use Rattle.log_extents.specs.Taking.{link_after, behind, EachChain, BeginsWith, CanBeWhole, IsIt, told_by, Takes}
use Rattle.log_extents.proofs.Bytes.{small_linked, same_extent}
use Rattle.log_extents.proofs.Numbers.{cons_some, small_numbers, first_most, no_first, all_push, distinct_push, first_push, all_behind, new_behind}
use Rattle.log_extents.proofs.Agreeing.{at_front, at_front-none, agree}

-- ---- one extent more

chain_more : (ms : List ℕ) (end gate link n : ℕ) (a b : List ℕ) → length a ≡ 8168 * length ms → length b ≤ 8168
    → chain_to end gate link (ms ++ n ∷ []) (a ++ b) ≡ chain_to n gate link ms a
    ++ record { gate = at_front ms gate; number = n; next = end; link = at_front ms link; body = b } ∷ []
chain_more [] end gate link n a b full fits =
    let none : a ≡ [] = nil_from_length a (omega (arith, full)) in
    ap (λ (l : List ℕ). record { gate = gate; number = n; next = end; link = link; body = l } ∷ []) (ap (λ (l : List ℕ). take 8168 (l ++ b)) none
    ∙ take_all 8168 b fits)
chain_more (m ∷ ms) end gate link n a b full fits =
    let long : 8168 ≤ length a = omega (arith, full) in
    let rest = chain_more ms end 0 0 n (drop 8168 a) b (omega (arith, length-drop 8168 a, full)) fits in
    let tail : chain_to end 0 0 (ms ++ n ∷ []) (drop 8168 (a ++ b)) ≡ chain_to n 0 0 ms (drop 8168 a)
    ++ record { gate = 0; number = n; next = end; link = 0; body = b } ∷ [] =
    ap (λ (l : List ℕ). chain_to end 0 0 (ms ++ n ∷ []) l) (drop-append-le 8168 a b long)
    ∙ rest
    ∙ ap (λ x. chain_to n 0 0 ms (drop 8168 a) ++ record { gate = x; number = n; next = end; link = at_front ms 0; body = b } ∷ []) (at_front-none ms)
    ∙ ap (λ x. chain_to n 0 0 ms (drop 8168 a) ++ record { gate = 0; number = n; next = end; link = x; body = b } ∷ []) (at_front-none ms) in
    let next = first_push end n ms in
    let body = take-append-le 8168 a b long in
    λ i. record { gate = gate; number = m; next = next i; link = link; body = body i } ∷ tail i

images_more : (kind : ChainKind) (most : ℕ) (numbers : List ℕ) (next link : ℕ) (content : List ℕ) (e : LinkedExtent)
    → length content ≡ 8168 * length numbers → length e.body ≤ 8168 → e.number ≡ next → IsPlaced kind most numbers e
    → images_of (behind (state_of kind most numbers next link content) e) ≡ images_of (state_of kind most numbers next link content) ++ linked_bytes e ∷ []
images_more kind most [] next link content e full fits own placed =
    ap (λ (l : List LinkedExtent). map linked_bytes l) (chain_more [] e.next (gate_of kind) e.link e.number content e.body full fits)
    ∙ ap (λ g. linked_bytes (record { gate = g; number = e.number; next = e.next; link = e.link; body = e.body }) ∷ []) (sym placed.0)
images_more kind most (n ∷ ns) next link content e full fits own placed =
    let front : List (List ℕ) = map linked_bytes (chain_to next (gate_of kind) link (n ∷ ns) content) in
    ap (λ (l : List LinkedExtent). map linked_bytes l) (chain_more (n ∷ ns) e.next (gate_of kind) link e.number content e.body full fits)
    ∙ map-append linked_bytes (chain_to e.number (gate_of kind) link (n ∷ ns) content) (record {
      gate = 0;
      number = e.number;
      next = e.next;
      link = 0;
      body = e.body;
    } ∷ [])
    ∙ ap (λ x. map linked_bytes (chain_to x (gate_of kind) link (n ∷ ns) content)
    ++ linked_bytes (record { gate = 0; number = e.number; next = e.next; link = 0; body = e.body }) ∷ []) own
    ∙ ap (λ g. front ++ linked_bytes (record { gate = g; number = e.number; next = e.next; link = 0; body = e.body }) ∷ []) (sym placed.0)
    ∙ ap (λ l. front ++ linked_bytes (record { gate = e.gate; number = e.number; next = e.next; link = l; body = e.body }) ∷ []) (sym placed.1)

link_most : (kind : ChainKind) (most link : ℕ) → IsLinkOf kind most link → link ≤ most
link_most Log most link is = is.1
link_most Anchors most link is = omega (arith, is)

link_made : (kind : ChainKind) (most : ℕ) (numbers : List ℕ) (link : ℕ) (e : LinkedExtent) → IsLinkAfter kind most numbers link → IsPlaced kind most numbers e
    → IsLinkOf kind most (link_after numbers link e.link)
link_made kind most [] link e before placed = placed.1
link_made kind most (n ∷ ns) link e before placed = before

link_pushed : (kind : ChainKind) (most x : ℕ) (numbers : List ℕ) (link : ℕ) → IsLinkOf kind most link → IsLinkAfter kind most (numbers ++ x ∷ []) link
link_pushed kind most x [] link is = is
link_pushed kind most x (n ∷ ns) link is = is

link_small : (most : ℕ) (numbers : List ℕ) (link own : ℕ) → link < 2 ^ 32 → own < 2 ^ 32 → link_after numbers link own < 2 ^ 32
link_small most [] link own small own_small = own_small
link_small most (n ∷ ns) link own small own_small = small

inner_placed : (kind : ChainKind) (most x : ℕ) (numbers : List ℕ) (e : LinkedExtent) → e.gate ≡ 0 → e.link ≡ 0 → IsPlaced kind most (numbers ++ x ∷ []) e
inner_placed kind most x [] e gate link = (gate, link)
inner_placed kind most x (n ∷ ns) e gate link = (gate, link)

-- the next extent's number is new
new_next : (most : ℕ) (numbers : List ℕ) (next : ℕ) → (numbers ≢ [] → next ≢ 0 → IsNumberOf most next × IsNew next numbers) → next ≢ 0 → IsNew next numbers
new_next most [] next is some = tt
new_next most (n ∷ ns) next is some = (is (cons_some n ns) some).1

module _ (s : ChainState) (is : IsTaking s) (e : LinkedExtent) (fits : Fits s e) where
  next_some : s.next ≢ 0
  next_some none = let low = fits.linked.number_low in let own = fits.own in omega (arith, low, own, none)

  number_new : IsNew e.number s.numbers
  number_new = subst (λ x. IsNew x s.numbers) (sym fits.own) (new_next s.most s.numbers s.next is.next next_some)

  full : length s.content ≡ 8168 * length s.numbers
  full = is.full next_some

  pub more_images : images_of (behind s e) ≡ images_of s ++ linked_bytes e ∷ []
  more_images = images_more s.kind s.most s.numbers s.next s.link s.content e full fits.linked.fits fits.own fits.placed

  numbers_in : AllByRecursion (IsNumberOf s.most) (s.numbers ++ e.number ∷ [])
  numbers_in = all_push (IsNumberOf s.most) s.numbers e.number is.in_range (fits.linked.number_low, fits.linked.number_high)

  numbers_apart : AreDistinct (s.numbers ++ e.number ∷ [])
  numbers_apart = distinct_push s.numbers e.number is.distinct number_new

  link_is : IsLinkOf s.kind s.most (link_after s.numbers s.link e.link)
  link_is = link_made s.kind s.most s.numbers s.link e is.link fits.placed

  pub head_same : head_of (behind s e) ≡ head_of s
  head_same = first_push e.next e.number s.numbers ∙ ap (λ x. first_or x s.numbers) fits.own

  pub more_taking : IsTaking (behind s e)
  more_taking = record {
    most = is.most;
    next_fits = let few = is.most in let high = fits.linked.next in omega (arith, few, high);
    link_fits = link_small s.most s.numbers s.link e.link is.link_fits (let few = is.most in let high = fits.linked.link in omega (arith, few, high));
    in_range = numbers_in;
    distinct = numbers_apart;
    link = link_pushed s.kind s.most e.number s.numbers (link_after s.numbers s.link e.link) link_is;
    full = λ some. let on = (fits.goes_on some).0 in omega (arith, on, full, length-append s.content e.body, length-append s.numbers (e.number ∷ []));
    next = λ all some. let on = fits.goes_on some in ((omega (arith, some), fits.linked.next), all_push (λ n. n ≢ e.next) s.numbers e.number on.2 on.1);
  }

  pub whole_chain : e.next ≡ 0
      → IsChainFrom s.kind s.most (head_of s) (behind s e).numbers (behind s e).link (behind s e).content (images_of s ++ linked_bytes e ∷ [])
  whole_chain last =
      let some = fits.linked.some in
      let short = fits.linked.fits in
      let len : length (s.content ++ e.body) ≡ 8168 * length s.numbers + length e.body = omega (arith, length-append s.content e.body, full) in
      record {
        first = first_push 0 e.number s.numbers ∙ ap (λ x. first_or x s.numbers) fits.own;
        link_is = link_is;
        chain = record {
          some = omega (arith, len, some);
          count = omega (arith, len, some, short, length-append s.numbers (e.number ∷ []));
          in_range = numbers_in;
          distinct = numbers_apart;
          images_are =
              sym more_images ∙ ap (λ x. map linked_bytes (chain_to x (gate_of s.kind) (behind s e).link (behind s e).numbers (behind s e).content)) last;
        };
      }

-- one extent more, which is the last, behind a state
last_extent : ℕ → LinkedExtent
last_extent number = record { gate = 0; number = number; next = 0; link = 0; body = 0 ∷ [] }

pub can_be_whole : (s : ChainState) (is : IsTaking s) (e : LinkedExtent) (fits : Fits s e) → e.next ≢ 0 → CanBeWhole s (images_of s ++ linked_bytes e ∷ [])
unfolding last_extent
can_be_whole s is e fits some =
    let t : ChainState = behind s e in
    let taking : IsTaking t = more_taking s is e fits in
    let f : LinkedExtent = last_extent e.next in
    let high = fits.linked.next in
    let follows : Fits t f = record {
      linked = record {
        gate = omega arith;
        number_low = omega (arith, some);
        number_high = high;
        next = omega arith;
        link = omega arith;
        some = omega arith;
        fits = omega arith;
      };
      own = refl;
      placed = inner_placed s.kind s.most e.number s.numbers f refl refl;
      goes_on = λ more. absurd (more refl);
    } in
    let whole = whole_chain t taking f follows refl in
    record {
      numbers = (behind t f).numbers;
      link = (behind t f).link;
      content = (behind t f).content;
      rest = linked_bytes f ∷ [];
      is_chain =
          subst (λ (l : List (List ℕ)). IsChainFrom s.kind s.most (head_of s) (behind t f).numbers (behind t f).link (behind t f).content (l ++ linked_bytes f
          ∷ [])) (more_images s is e fits)
          (subst (λ n. IsChainFrom s.kind s.most n (behind t f).numbers (behind t f).link (behind t f).content (images_of t ++ linked_bytes f
          ∷ [])) (head_same s is e fits) whole);
    }

-- ---- what comes next in a chain

pub record NextOf (s : ChainState) (numbers : List ℕ) (link : ℕ) (content image : List ℕ) (rest : List (List ℕ)) : Type 0 where
  pub others : List ℕ
  pub extent : LinkedExtent
  pub bytes : List ℕ
  pub fits : Fits s extent
  pub image_is : image ≡ linked_bytes extent
  pub numbers_are : numbers ≡ s.numbers ++ s.next ∷ others
  pub others_in : AllByRecursion (IsNumberOf s.most) others
  pub next_is : extent.next ≡ first_or 0 others
  pub link_is : link ≡ link_after s.numbers s.link extent.link
  pub content_is : content ≡ (s.content ++ extent.body) ++ bytes
  pub rest_is : rest ≡ map linked_bytes (chain_to 0 0 0 others bytes)
  pub last : others ≡ [] → bytes ≡ []

gate_small : (kind : ChainKind) (numbers : List ℕ) → at_front numbers (gate_of kind) < 256
gate_small Log [] = omega arith
gate_small Anchors [] = omega arith
gate_small kind (n ∷ ns) = omega arith

front_most : (most : ℕ) (numbers : List ℕ) (link : ℕ) → link ≤ most → at_front numbers link ≤ most
front_most most [] link few = few
front_most most (n ∷ ns) link few = omega arith

front_placed : (kind : ChainKind) (most : ℕ) (numbers : List ℕ) (link number next : ℕ) (body : List ℕ) → IsLinkOf kind most link
    → IsPlaced kind most numbers (record { gate = at_front numbers (gate_of kind); number = number; next = next; link = at_front numbers link; body = body })
front_placed kind most [] link number next body is = (refl, is)
front_placed kind most (n ∷ ns) link number next body is = (refl, refl)

front_goes_on : (ms : List ℕ) (x : ℕ) (others body : List ℕ) → AreDistinct (ms ++ x ∷ others) → (0 < length others → length body ≡ 8168)
    → first_or 0 others ≢ 0 → (length body ≡ 8168) × (x ≢ first_or 0 others) × IsNew (first_or 0 others) ms
front_goes_on ms x [] body apart long some = absurd (some refl)
front_goes_on ms x (o ∷ os) body apart long some = let new = new_behind ms x o os apart in (long (omega arith), new.0, new.1)

front_link : (ms : List ℕ) (link before : ℕ) → (ms ≢ [] → link ≡ before) → link ≡ link_after ms before (at_front ms link)
front_link [] link before same = refl
front_link (n ∷ ns) link before same = same (cons_some n ns)

pub next_of_chain : (s : ChainState) (numbers : List ℕ) (link : ℕ) (content image : List ℕ) (rest : List (List ℕ)) → IsTaking s
    → IsChainFrom s.kind s.most (head_of s) numbers link content (images_of s ++ image ∷ rest) → NextOf s numbers link content image rest
next_of_chain s numbers link content image rest is from =
    let few = is.most in
    let link_few = link_most s.kind s.most link from.link_is in
    let found = agree s.numbers numbers s.next (gate_of s.kind) link (gate_of s.kind) s.link s.content content image rest
    (small_numbers s.most s.numbers is.most is.in_range) (small_numbers s.most numbers is.most from.chain.in_range)
    is.next_fits (omega (arith, few, link_few)) is.link_fits from.first (sym from.chain.images_are) in
    let others : List ℕ = found.others in
    let each =
    all_behind (IsNumberOf s.most) s.numbers (s.next
    ∷ others) (subst (λ (l : List ℕ). AllByRecursion (IsNumberOf s.most) l) found.numbers_are from.chain.in_range) in
    let apart = subst (λ (l : List ℕ). AreDistinct l) found.numbers_are from.chain.distinct in
    let low = each.0.0 in
    let full = is.full (λ none. omega (arith, low, none)) in
    let k : ℕ = 8168 * length s.numbers in
    let left : List ℕ = drop k content in
    let body : List ℕ = take 8168 left in
    let bytes : List ℕ = drop 8168 left in
    let some = from.chain.some in
    let count = from.chain.count in
    let many : length numbers ≡ length s.numbers + (1 + length others) =
    omega (arith, ap (λ (l : List ℕ). length l) found.numbers_are, length-append s.numbers (s.next ∷ others)) in
    let least : k + 8168 * length others < length content = omega (arith, some, count, many) in
    let most : length content ≤ k + 8168 + 8168 * length others = omega (arith, some, count, many) in
    let left_len : length left ≡ length content - k = length-drop k content in
    let body_len = length-take 8168 left in
    let e : LinkedExtent =
    record { gate = at_front s.numbers (gate_of s.kind); number = s.next; next = first_or 0 others; link = at_front s.numbers link; body = body } in
    let rest_is = found.rest_is in
    record {
      others = others;
      extent = e;
      bytes = bytes;
      fits = record {
        linked = record {
          gate = gate_small s.kind s.numbers;
          number_low = low;
          number_high = each.0.1;
          next = first_most s.most others each.1;
          link = front_most s.most s.numbers link link_few;
          some = omega (arith, body_len, left_len, least);
          fits = omega (arith, body_len);
        };
        own = refl;
        placed = front_placed s.kind s.most s.numbers link s.next (first_or 0 others) body from.link_is;
        goes_on = front_goes_on s.numbers s.next others body apart (λ more. omega (arith, body_len, left_len, least, more));
      };
      image_is = cc;
      numbers_are = found.numbers_are;
      others_in = each.1;
      next_is = refl;
      link_is = front_link s.numbers link s.link found.link_is;
      content_is =
          sym (take-append-drop k content)
          ∙ ap (λ (l : List ℕ). l ++ left) (found.bytes_are ∙ take_all k s.content (omega (arith, full)))
          ∙ ap (λ (l : List ℕ). s.content ++ l) (sym (take-append-drop 8168 left))
          ∙ sym (append_assoc s.content body bytes);
      rest_is = cc;
      last = λ none. nil_from_length bytes (omega (arith, length-drop 8168 left, left_len, most, ap (λ (l : List ℕ). length l) none));
    }

-- ---- what `take` answers

-- a chain that begins with one image more
next_of : (s : ChainState) (numbers : List ℕ) (link : ℕ) (content image : List ℕ) (rest : List (List ℕ)) → IsTaking s
    → IsChainFrom s.kind s.most (head_of s) numbers link content ((images_of s ++ image ∷ []) ++ rest) → NextOf s numbers link content image rest
next_of s numbers link content image rest is from =
    next_of_chain s numbers link content image rest is
    (subst (λ (l : List (List ℕ)). IsChainFrom s.kind s.most (head_of s) numbers link content l) (append_assoc (images_of s) (image ∷ []) rest) from)

pub is_bad : (s : ChainState) (image : List ℕ) → IsTaking s → ((e : LinkedExtent) → Fits s e → image ≢ linked_bytes e)
    → EachChain s (images_of s ++ image ∷ []) (λ numbers link content rest. ⊥)
is_bad s image is none numbers link content rest from = let next = next_of s numbers link content image rest is from in none next.extent next.fits next.image_is

some_first : (others : List ℕ) (m : ℕ) → first_or 0 others ≡ m → m ≢ 0 → others ≡ m ∷ drop 1 others
some_first [] m is some = absurd (some (sym is))
some_first (o ∷ os) m is some = ap (λ x. x ∷ os) is

module _ (s : ChainState) (is : IsTaking s) (e : LinkedExtent) (fits : Fits s e) (image : List ℕ) (image_is : image ≡ linked_bytes e) where
  same_next : (numbers : List ℕ) (link : ℕ) (content : List ℕ) (rest : List (List ℕ)) (next : NextOf s numbers link content image rest) → next.extent ≡ e
  same_next numbers link content rest next =
      same_extent next.extent e (small_linked s.most next.extent is.most next.fits.linked) (small_linked s.most e is.most fits.linked) (sym next.image_is
      ∙ image_is)

  images : images_of (behind s e) ≡ images_of s ++ image ∷ []
  images = more_images s is e fits ∙ ap (λ (l : List ℕ). images_of s ++ l ∷ []) (sym image_is)

  whole_each : e.next ≡ 0 → EachChain s (images_of s ++ image ∷ []) (λ numbers link content rest. IsIt (behind s e) numbers link content rest)
  whole_each last numbers link content rest from =
      let next = next_of s numbers link content image rest is from in
      let one : next.extent ≡ e = same_next numbers link content rest next in
      let none : next.others ≡ [] = no_first s.most next.others next.others_in (sym next.next_is ∙ ap (λ x. x.next) one ∙ last) in
      record {
        numbers_are = next.numbers_are ∙ ap (λ (l : List ℕ). s.numbers ++ s.next ∷ l) none ∙ ap (λ x. s.numbers ++ x ∷ []) (sym fits.own);
        link_is = next.link_is ∙ ap (λ x. link_after s.numbers s.link x.link) one;
        content_is =
            next.content_is ∙ ap (λ (l : List ℕ). (s.content ++ next.extent.body) ++ l) (next.last none) ∙ append-nil (s.content ++ next.extent.body)
            ∙ ap (λ x. s.content ++ x.body) one;
        none = next.rest_is ∙ ap (λ (l : List ℕ). map linked_bytes (chain_to 0 0 0 l next.bytes)) none;
      }

  more_each : e.next ≢ 0 → EachChain s (images_of s ++ image ∷ []) (λ numbers link content rest. BeginsWith (behind s e) numbers link content)
  more_each some numbers link content rest from =
      let next = next_of s numbers link content image rest is from in
      let one : next.extent ≡ e = same_next numbers link content rest next in
      let first : next.others ≡ e.next ∷ drop 1 next.others = some_first next.others e.next (sym next.next_is ∙ ap (λ x. x.next) one) some in
      record {
        others = drop 1 next.others;
        bytes = next.bytes;
        numbers_are = next.numbers_are
            ∙ ap (λ (l : List ℕ). s.numbers ++ s.next ∷ l) first
            ∙ ap (λ x. s.numbers ++ x ∷ e.next ∷ drop 1 next.others) (sym fits.own)
            ∙ sym (append_assoc s.numbers (e.number ∷ []) (e.next ∷ drop 1 next.others));
        link_is = next.link_is ∙ ap (λ x. link_after s.numbers s.link x.link) one;
        content_is = next.content_is ∙ ap (λ x. (s.content ++ x.body) ++ next.bytes) one;
      }

  answer : (next : ℕ) → e.next ≡ next → Takes s (behind s e) image (told_by next)
  answer zero last = record {
    same = record { kind = refl; most = refl; head = head_same s is e fits };
    numbers = ap (λ x. s.numbers ++ x ∷ []) fits.own;
    next = last;
    images = images;
    is_chain =
        subst (λ (l : List ℕ). IsChainFrom s.kind s.most (head_of s) (behind s e).numbers (behind s e).link (behind s e).content (images_of s ++ l
        ∷ [])) (sym image_is) (whole_chain s is e fits last);
    each = whole_each last;
  }
  answer (suc n) more =
      let some : e.next ≢ 0 = λ none. omega (arith, none, more) in
      let high = fits.linked.next in
      record {
        same = record { kind = refl; most = refl; head = head_same s is e fits };
        numbers = ap (λ x. s.numbers ++ x ∷ []) fits.own;
        next = more;
        in_range = (omega arith, omega (arith, high, more));
        images = images;
        can_be_whole = subst (λ (l : List ℕ). CanBeWhole s (images_of s ++ l ∷ [])) (sym image_is) (can_be_whole s is e fits some);
        each = more_each some;
      }

  pub takes : (t : ChainState) → t ≡ behind s e → Takes s t image (told_by e.next)
  takes t same = subst (λ (u : ChainState). Takes s u image (told_by e.next)) (sym same) (answer e.next refl)

-- the same of a state that was put together from its parts
pub taking_made : (s : ChainState) (is : IsTaking s) (e : LinkedExtent) (fits : Fits s e) (numbers : List ℕ) (link : ℕ) (content : List ℕ)
    → numbers ≡ s.numbers ++ e.number ∷ [] → link ≡ link_after s.numbers s.link e.link → content ≡ s.content ++ e.body
    → IsTaking (state_of s.kind s.most numbers e.next link content)
taking_made s is e fits numbers link content numbers_are link_is content_is = rw (numbers_are, link_is, content_is) (more_taking s is e fits)
