-- Rows that are laid one behind the other.
use Rattle.std.proofs.Common.{◌≡◌, ◌↔◌, ◌∙◌, ◌+◌, ◌<◌, ◌≤◌, ℕ, List, [], ◌∷◌, ◌++◌, length, take, min, IsTrue, sym, ap, length-append, refl, arith}
use Rattle.std.proofs.Math.Seq.{take-append-add}
use Rattle.std.proofs.lemmas.List.{append-nil, length-take-le, take-take}
use Rattle.std.proofs.lemmas.Grind.{flat_map-append}
use Rattle.std.proofs.lemmas.Slice.{take-put_mid}
use borrow.Rule.Slice.PartMut.{put_mid}
use Rattle.wire.specs.Values.{value_bytes}
use Rattle.disk.specs.Calls.{top}
use Rattle.c_engine.specs.declared.code.Row.{Row}
use Rattle.c_engine.specs.declared.rows.Copying.{Copying}
use Rattle.c_engine.specs.Rows.{Shown, bytes_of, row_at, rows_from, AreLaid, IsPlaced, HasRoomAt}

-- the values with one more
pub bytes_of-more : (shown : List Shown) (s : Shown) → bytes_of (shown ++ s ∷ []) ≡ bytes_of shown ++ value_bytes s.value
bytes_of-more shown s =
    flat_map-append (λ (x : Shown). value_bytes x.value) shown (s ∷ []) ∙ ap (λ (t : List ℕ). bytes_of shown ++ t) (append-nil (value_bytes s.value))

length-bytes_of-more : (shown : List Shown) (s : Shown) → length (bytes_of (shown ++ s ∷ [])) ≡ length (bytes_of shown) + length (value_bytes s.value)
length-bytes_of-more shown s = ap (λ (t : List ℕ). length t) (bytes_of-more shown s) ∙ length-append (bytes_of shown) (value_bytes s.value)

-- the rows with one more
pub rows_from-more : (at : ℕ) (shown : List Shown) (s : Shown) → rows_from at (shown ++ s ∷ []) ≡ rows_from at shown ++ row_at (at + length (bytes_of shown)) s
    ∷ []
rows_from-more at [] s = let same : at ≡ at + 0 = omega arith in ap (λ (n : ℕ). row_at n s ∷ []) same
rows_from-more at (x ∷ xs) s =
    let n : ℕ = at + length (value_bytes x.value) in
    let len : length (value_bytes x.value ++ bytes_of xs) ≡ length (value_bytes x.value) + length (bytes_of xs) =
    length-append (value_bytes x.value) (bytes_of xs) in
    let same : n + length (bytes_of xs) ≡ at + length (value_bytes x.value ++ bytes_of xs) = omega (arith, len) in
    ap (λ (l : List Row). row_at at x ∷ l) (rows_from-more n xs s ∙ ap (λ (k : ℕ). rows_from n xs ++ row_at k s ∷ []) same)

-- bytes at the front of a part, behind what stands before the part
pub put_behind : (a k : ℕ) (xs ys zs : List ℕ) → a ≤ length xs → length zs ≤ length ys → take (length zs) ys ≡ zs → take (a + length zs) (put_mid a k xs ys)
    ≡ take a xs ++ zs
put_behind a k xs ys zs within fits is =
    let le : a + length zs ≤ a + length ys = omega arith in
    let len : length (take a xs) ≡ a = length-take-le a xs within in
    sym (take-take (a + length zs) (a + length ys) (put_mid a k xs ys) le)
    ∙ ap (λ (l : List ℕ). take (a + length zs) l) (take-put_mid a k xs ys (a + length ys) refl within)
    ∙ ap (λ (m : ℕ). take (m + length zs) (take a xs ++ ys)) (sym len)
    ∙ take-append-add (take a xs) ys (length zs)
    ∙ ap (λ (l : List ℕ). take a xs ++ l) is

-- one row more is laid
pub laid_more : (shown : List Shown) (s : Shown) (c new : Copying) (rows new_rows : List Row) (out new_out : List ℕ)
    → length out ≤ top → AreLaid shown c rows out → length new_rows ≡ length rows → length new_out ≡ length out
    → new.rows ≡ c.rows + 1 → new.bytes ≡ min (c.bytes + length (value_bytes s.value)) top
    → (IsTrue new.fits ↔ HasRoomAt c s.value rows out) → (IsTrue new.fits → IsPlaced c s rows out new_rows new_out)
    → AreLaid (shown ++ s ∷ []) new new_rows new_out
laid_more shown s c new rows new_rows out new_out small laid same_rows same_out one_row one_value room placed =
    let n : ℕ = length (value_bytes s.value) in
    let b : ℕ = length (bytes_of shown) in
    let many : length (shown ++ s ∷ []) ≡ length shown + 1 = length-append shown (s ∷ []) in
    let long : length (bytes_of (shown ++ s ∷ [])) ≡ b + n = length-bytes_of-more shown s in
    let count : c.rows ≡ length shown = laid.count in
    let bytes : c.bytes ≡ min b top = laid.bytes in record {
      count = omega (arith, many, count);
      bytes = omega (arith, long, bytes);
      room = (
        λ t.
            let h = room.0 t in
            let old = laid.room.0 h.0 in
            let fewer : c.rows < length rows = h.1 in
            let within : c.bytes + n ≤ length out = h.2 in
            let before : b ≤ length out = old.1 in (omega (arith, many, count), omega (arith, long, bytes)),
        λ h.
            let fewer : length (shown ++ s ∷ []) ≤ length new_rows = h.0 in
            let within : length (bytes_of (shown ++ s ∷ [])) ≤ length new_out = h.1 in
            room.1 (laid.room.1 (omega (arith, many), omega (arith, long)), omega (arith, many, count), omega (arith, long, bytes)),
      );
      laid = λ t.
          let fits = (room.0 t).0 in
          let old = laid.laid fits in
          let before : b ≤ length out = (laid.room.0 fits).1 in
          let at : c.bytes ≡ 0 + b = omega (arith, bytes) in
          let is : IsPlaced c s rows out new_rows new_out = placed t in
          let sum : new.bytes ≡ c.bytes + n = omega (arith, (room.0 t).2) in (
            ap (λ (k : ℕ). take k new_rows) one_row ∙ is.row_is ∙ ap (λ (l : List Row). l ++ row_at c.bytes s ∷ []) old.0
                ∙ ap (λ (k : ℕ). rows_from 0 shown ++ row_at k s ∷ []) at ∙ sym (rows_from-more 0 shown s),
            ap (λ (k : ℕ). take k new_out) sum ∙ is.value_is ∙ ap (λ (l : List ℕ). l ++ value_bytes s.value) old.1 ∙ sym (bytes_of-more shown s),
          );
    }
