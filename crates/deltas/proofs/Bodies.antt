-- The records of one extent, in the memory of its image.
use Rattle.std.proofs.Common.{◌≡◌, ℕ, ◌+◌, ◌-◌, ◌≤◌, List, [], ◌++◌, length, take, drop, replicate, sym, ◌∙◌, ap, subst, arith, length-append, length-drop}
use borrow.Rule.Slice.PartMut.{mid_of, put_mid, post_of}
use Rattle.std.proofs.lemmas.List.{append-nil, nil_from_length, length-take, length-replicate, take_all, drop_all, drop_at, drop-drop, drop-replicate}
use Rattle.std.proofs.lemmas.List.{take-append-drop}
use Rattle.wire.specs.Numbers.{u32_bytes}
use Rattle.deltas.specs.Extents.{extent_bytes}
use Rattle.deltas.specs.Images.{IsBegun, IsSameFrom, records_in}

-- no record yet
pub none_begun : (bytes before : List ℕ) (n : ℕ) → bytes ≡ take 8192 before ++ replicate (8192 - n) 0 → before ≡ [] → n ≡ 0 → IsBegun bytes 0
none_begun bytes before n is none zero =
    let all : bytes ≡ replicate 8192 0 = is ∙ ap (λ (l : List ℕ). take 8192 l ++ replicate (8192 - n) 0) none ∙ ap (λ m. replicate (8192 - m) 0) zero in
    record {
      len = ap (λ (l : List ℕ). length l) all ∙ length-replicate {A = ℕ} 8192 0;
      fits = omega arith;
      zeros = ap (λ (l : List ℕ). drop 16 l) all ∙ drop-replicate {X = ℕ} 16 8192 0;
    }

-- so many bytes of records are so many
pub length-records : (bytes : List ℕ) (used : ℕ) → IsBegun bytes used → length (records_in bytes used) ≡ used
length-records bytes used is =
    let len = is.len in
    let fits = is.fits in
    omega (arith, length-take used (drop 16 bytes), length-drop 16 bytes, len, fits)

-- what is written behind the header stands there
pub behind_header : (image part : List ℕ) → length image ≡ 8192 → drop 16 (put_mid 16 8176 image part) ≡ part
behind_header image part len =
    let front : length (take 16 image) ≡ 16 = omega (arith, length-take 16 image) in
    let behind : post_of 16 8176 image ≡ [] = nil_from_length (post_of 16 8176 image) (omega (arith, length-drop 8176 (drop 16 image), length-drop 16 image)) in
    drop_at (take 16 image) (part ++ post_of 16 8176 image) 16 front ∙ ap (λ (l : List ℕ). part ++ l) behind ∙ append-nil part

-- all bytes are written again
pub written_whole : (n : ℕ) (written old : List ℕ) → n ≡ length old → length old ≡ 8192 → length written ≡ 8192
    → take n (written ++ drop (length written) old) ≡ written
written_whole n written old n_is len same =
    let none : drop (length written) old ≡ [] = drop_all (length written) old (omega arith) in
    ap (λ (l : List ℕ). take n (written ++ l)) none ∙ ap (λ (l : List ℕ). take n l) (append-nil written) ∙ take_all n written (omega arith)

-- one more record: its bytes stand behind the others, and zeros behind them
pub record IsMore (old new : List ℕ) (used end : ℕ) (bytes : List ℕ) : Type 0 where
  pub begun : IsBegun new end
  pub records : records_in new end ≡ records_in old used ++ bytes

more : (old new part bytes : List ℕ) (used end : ℕ) → IsBegun old used → length new ≡ 8192 → drop 16 new ≡ part → used ≤ end → end ≤ 8176
    → take end part ≡ take used (drop 16 old) ++ bytes → IsSameFrom end (drop 16 old) part
    → IsMore old new used end bytes
more old new part bytes used end is len there later fits front same =
    let whole : end ≡ used + (end - used) = omega (arith, later) in
    let left : (8176 - used) - (end - used) ≡ 8176 - end = omega (arith, later, fits) in
    let zeros : drop end (drop 16 old) ≡ replicate (8176 - end) 0 =
    ap (λ n. drop n (drop 16 old)) whole
    ∙ sym (drop-drop (end - used) used (drop 16 old))
    ∙ ap (λ (l : List ℕ). drop (end - used) l) is.zeros
    ∙ drop-replicate {X = ℕ} (end - used) (8176 - used) 0
    ∙ ap (λ n. replicate n 0) left in
    record {
      begun = record { len = len; fits = fits; zeros = ap (λ (l : List ℕ). drop end l) there ∙ same end (omega arith) ∙ zeros };
      records = ap (λ (l : List ℕ). take end l) there ∙ front;
    }

-- the same of a part of the bytes that was written and put back
pub pushed : (old now part bytes : List ℕ) (n used end : ℕ) → IsBegun old used → n ≡ length old → now ≡ old → end ≡ used + length bytes
    → used + length bytes ≤ 8176
    → take end part ≡ take used (mid_of 16 (length now - 16) now) ++ bytes → IsSameFrom end (mid_of 16 (length now - 16) now) part
    → length part ≡ length (mid_of 16 (length now - 16) now)
    → IsMore old (take n (put_mid 16 (length now - 16) now part ++ drop (length (put_mid 16 (length now - 16) now part)) old)) used end bytes
pushed old now part bytes n used end is n_is now_is end_is fits front same len =
    let old_len = is.len in
    let k : length now - 16 ≡ 8176 = ap (λ (l : List ℕ). length l - 16) now_is ∙ omega (arith, old_len) in
    let mid : mid_of 16 (length now - 16) now ≡ drop 16 old =
    ap (λ m. mid_of 16 m now) k ∙ ap (λ (l : List ℕ). mid_of 16 8176 l) now_is ∙ take_all 8176 (drop 16 old) (omega (arith, length-drop 16 old, old_len)) in
    let put : put_mid 16 (length now - 16) now part ≡ put_mid 16 8176 old part =
    ap (λ m. put_mid 16 m now part) k ∙ ap (λ (l : List ℕ). put_mid 16 8176 l part) now_is in
    let part_len : length part ≡ 8176 = len ∙ ap (λ (l : List ℕ). length l) mid ∙ omega (arith, length-drop 16 old, old_len) in
    let put_len : length (put_mid 16 8176 old part) ≡ 8192 =
    omega (
      arith,
      part_len,
      old_len,
      length-append (take 16 old) (part ++ post_of 16 8176 old),
      length-append part (post_of 16 8176 old),
      length-take 16 old,
      length-drop 8176 (drop 16 old),
      length-drop 16 old,
    ) in
    let all : take n (put_mid 16 (length now - 16) now part ++ drop (length (put_mid 16 (length now - 16) now part)) old) ≡ put_mid 16 8176 old part =
    ap (λ (l : List ℕ). take n (l ++ drop (length l) old)) put ∙ written_whole n (put_mid 16 8176 old part) old n_is old_len put_len in
    subst (λ (l : List ℕ). IsMore old l used end bytes) (sym all)
    (more old (put_mid 16 8176 old part) part bytes used end is put_len (behind_header old part old_len) (omega (arith, end_is)) (omega (arith, end_is, fits))
    (subst (λ (l : List ℕ). take end part ≡ take used l ++ bytes) mid front)
    (subst (λ (l : List ℕ). IsSameFrom end l part) mid same))

-- the header is written in front of the records and the zeros
pub sealed : (number next used n : ℕ) (bytes now written : List ℕ) → IsBegun bytes used → n ≡ length bytes → now ≡ bytes
    → written ≡ u32_bytes number ++ u32_bytes next ++ u32_bytes used ++ u32_bytes 0 ++ drop 16 now
    → take n (written ++ drop (length written) bytes) ≡ extent_bytes (record { number = number; next = next; body = records_in bytes used })
unfolding extent_bytes u32_bytes
sealed number next used n bytes now written is n_is now_is written_is =
    let body : List ℕ = records_in bytes used in
    let len = is.len in
    let used_is : used ≡ length body = sym (length-records bytes used is) in
    let parts : drop 16 now ≡ body ++ replicate (8176 - length body) 0 =
    ap (λ (l : List ℕ). drop 16 l) now_is ∙ sym (take-append-drop used (drop 16 bytes)) ∙ ap (λ (l : List ℕ). body ++ l) is.zeros
    ∙ ap (λ n. body ++ replicate (8176 - n) 0) used_is in
    let written_len : length written ≡ 8192 =
    ap (λ (l : List ℕ). length l) written_is ∙ omega (arith, length-drop 16 now, ap (λ (l : List ℕ). length l) now_is, len) in
    written_whole n written bytes n_is len written_len
    ∙ written_is
    ∙ ap (λ (l : List ℕ). u32_bytes number ++ u32_bytes next ++ u32_bytes used ++ u32_bytes 0 ++ l) parts
    ∙ ap (λ n. u32_bytes number ++ u32_bytes next ++ u32_bytes n ++ u32_bytes 0 ++ (body ++ replicate (8176 - length body) 0)) used_is
