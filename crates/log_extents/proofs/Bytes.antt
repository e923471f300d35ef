-- The bytes of extents.
use Rattle.std.proofs.Common.{◌≡◌, ℕ, ◌-◌, ◌^◌, ◌<◌, ◌≤◌, min, List, [], ◌∷◌, ◌++◌, length, take, drop, replicate, sym, ◌∙◌, ap, arith, length-append}
use borrow.Rule.Slice.PartMut.{put_mid, post_of}
use Rattle.std.proofs.lemmas.List.{append-nil, nil_from_length, drop_at, length-take, length-drop, length-replicate}
use Rattle.std.proofs.Math.Seq.{take-append_seam}
use Rattle.byteorder.specs.Endian.{little_bytes, little_number}
use Rattle.byteorder.specs.Numbers.{little_from-bytes}
use Rattle.wire.specs.Numbers.{u32_bytes}
use Rattle.log_extents.specs.Extents.{LinkedExtent, linked_bytes, IsLinked}
use Rattle.log_extents.specs.Reading.{body_at, linked_at}

number_4 : (n : ℕ) (rest : List ℕ) → n < 2 ^ 32 → little_number 4 (little_bytes 4 n ++ rest) ≡ n
number_4 n rest lt = little_from-bytes 4 0 n rest ∙ omega arith

-- its numbers are those of four bytes, and its body fits
pub record HasSmall (e : LinkedExtent) : Type 0 where
  pub number : e.number < 2 ^ 32
  pub next : e.next < 2 ^ 32
  pub link : e.link < 2 ^ 32
  pub fits : length e.body ≤ 8168

pub small_linked : (most : ℕ) (e : LinkedExtent) → most < 2 ^ 32 → IsLinked most e → HasSmall e
small_linked most e few is = record {
  number = omega (arith, few, is.number_high);
  next = omega (arith, few, is.next);
  link = omega (arith, few, is.link);
  fits = is.fits;
}

-- what the bytes of an extent say is the extent
pub linked_again : (e : LinkedExtent) → HasSmall e → linked_at (linked_bytes e) ≡ e
unfolding linked_at body_at linked_bytes u32_bytes
linked_again e small =
    let body : List ℕ = e.body in
    let fits : length body ≤ 8168 = small.fits in
    let zeros : List ℕ = replicate (8168 - length body) 0 in
    let behind_link : List ℕ = little_bytes 4 0 ++ (body ++ zeros) in
    let behind_used : List ℕ = little_bytes 4 e.link ++ behind_link in
    let behind_next : List ℕ = little_bytes 4 (length body) ++ behind_used in
    let number = number_4 e.number (little_bytes 4 e.next ++ behind_next) small.number in
    let next = number_4 e.next behind_next small.next in
    let used = number_4 (length body) behind_used (omega (arith, fits)) in
    let link = number_4 e.link behind_link small.link in
    let least : min (little_number 4 behind_next) 8168 ≡ length body = ap (λ n. min n 8168) used ∙ omega (arith, fits) in
    let body_is : take (min (little_number 4 behind_next) 8168) (body ++ zeros) ≡ body = ap (λ n. take n (body ++ zeros)) least ∙ take-append_seam body zeros in
    λ i. record { gate = e.gate; number = number i; next = next i; link = link i; body = body_is i }

pub same_extent : (e f : LinkedExtent) → HasSmall e → HasSmall f → linked_bytes e ≡ linked_bytes f → e ≡ f
same_extent e f small_e small_f same = sym (linked_again e small_e) ∙ ap linked_at same ∙ linked_again f small_f

pub one_extent : (most : ℕ) (e f : LinkedExtent) → most < 2 ^ 32 → IsLinked most e → IsLinked most f → linked_bytes e ≡ linked_bytes f → e ≡ f
one_extent most e f few is_e is_f same = same_extent e f (small_linked most e few is_e) (small_linked most f few is_f) same

pub extent_length : (most : ℕ) (e : LinkedExtent) → IsLinked most e → length (linked_bytes e) ≡ 8192
unfolding linked_bytes u32_bytes
extent_length most e is =
    let fits = is.fits in
    omega (arith, length-append e.body (replicate {A = ℕ} (8168 - length e.body) 0), length-replicate {A = ℕ} (8168 - length e.body) 0, fits)

-- ---- an extent as it is written

-- what is written behind the head stands there
behind_head : (image part : List ℕ) → length image ≡ 8192 → drop 24 (put_mid 24 8168 image part) ≡ part
behind_head image part len =
    let front : length (take 24 image) ≡ 24 = omega (arith, length-take 24 image) in
    let behind : post_of 24 8168 image ≡ [] = nil_from_length (post_of 24 8168 image) (omega (arith, length-drop 8168 (drop 24 image), length-drop 24 image)) in
    drop_at (take 24 image) (part ++ post_of 24 8168 image) 24 front ∙ ap (λ (l : List ℕ). part ++ l) behind ∙ append-nil part

-- the head in front of the bytes and the zeros
pub head_in_front : (number next link used : ℕ) (old part image body : List ℕ) → length old ≡ 8192 → used ≡ length body → part ≡ body
    ++ replicate (8168 - length body) 0
    → image ≡ 0 ∷ 0 ∷ 0 ∷ 0 ∷ (u32_bytes number ++ u32_bytes next ++ u32_bytes used ++ u32_bytes link ++ u32_bytes 0 ++ drop 24 (put_mid 24 8168 old part))
    → image ≡ linked_bytes (record { gate = 0; number = number; next = next; link = link; body = body })
unfolding linked_bytes u32_bytes
head_in_front number next link used old part image body len used_is part_is image_is =
    image_is
    ∙ ap (λ (l : List ℕ). 0 ∷ 0 ∷ 0 ∷ 0
    ∷ (u32_bytes number ++ u32_bytes next ++ u32_bytes used ++ u32_bytes link ++ u32_bytes 0 ++ l)) (behind_head old part len ∙ part_is)
    ∙ ap (λ n. 0 ∷ 0 ∷ 0 ∷ 0
    ∷ (u32_bytes number ++ u32_bytes next ++ u32_bytes n ++ u32_bytes link ++ u32_bytes 0 ++ (body ++ replicate (8168 - length body) 0))) used_is

-- what the bytes of an extent of the heap say
pub linked_read : (most : ℕ) (e : LinkedExtent) (image : List ℕ) → most < 2 ^ 32 → IsLinked most e → image ≡ linked_bytes e → linked_at image ≡ e
linked_read most e image few is image_is = ap linked_at image_is ∙ linked_again e (small_linked most e few is)
