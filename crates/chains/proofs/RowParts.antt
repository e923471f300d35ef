-- The rows of one key's writes as those of two lists, one behind the other, and where there are none.
use Rattle.std.proofs.Common.{◌≡◌, ℕ, ◌^◌, ◌<◌, ◌≤◌, Bool, true, false, cond, List, [], ◌∷◌, ◌++◌, length, Option, None, Some, refl, ap, sym, ◌∙◌, arith}
use Rattle.std.proofs.Common.{append_assoc}
use Rattle.std.specs.Prelude.{Result, Ok, Err, OnOk}
use Rattle.std.proofs.lemmas.Bool.Decides.{nat_tests}
use Rattle.history.specs.declared.time.Version.{Version}
use Rattle.history.specs.Time.{IsRisingAfter}
use Rattle.history.specs.Versions.{first_time, version_of, versions, cut, lasts, rows}
use Rattle.chains.specs.Writes.{Value, Write}
use Rattle.chains.specs.Rows.{first_time_or, versions_upto}
use Rattle.chains.proofs.Parts.{below}

pub rows-append : {V : Type 0} (a b : ℕ) (xs ys : List (Version V)) → rows (xs ++ ys) a b ≡ rows xs a b ++ rows ys a b
rows-append a b [] ys = refl
rows-append {V} a b (x ∷ xs) ys =
    let rest = rows-append a b xs ys in
    elim (lasts (cut a b x)) as (λ (c : Bool). cond c (cut a b x ∷ rows (xs ++ ys) a b) (rows (xs ++ ys) a b) ≡ cond c (cut a b x ∷ rows xs a b) (rows xs a b)
    ++ rows ys a b) [
      | true ↦ ap (λ (l : List (Version V)). cut a b x ∷ l) rest
      | false ↦ rest
    ]

-- ---- versions of two lists

pub first-of : (end : ℕ) (xs ys : List Write) → first_time_or end (xs ++ ys) ≡ first_time_or (first_time_or end ys) xs
first-of end [] ys = refl
first-of end (x ∷ xs) ys = refl

pub versions-append : (end : ℕ) (xs ys : List Write) → versions_upto end (xs ++ ys) ≡ versions_upto (first_time_or end ys) xs ++ versions_upto end ys
versions-append end [] ys = refl
versions-append end (x ∷ xs) ys =
    rw (
      first-of end xs ys,
      versions-append end xs ys,
    )
    (sym (append_assoc (version_of x.time (first_time_or (first_time_or end ys) xs) x.write) (versions_upto (first_time_or end ys) xs)
    (versions_upto end ys)))

pub first-endless : (ws : List Write) → first_time_or (2 ^ 63) ws ≡ first_time ws
first-endless [] = refl
first-endless (w ∷ ws) = refl

-- a last version that nothing has replaced
pub versions-endless : (ws : List Write) → versions_upto (2 ^ 63) ws ≡ versions ws
versions-endless [] = refl
versions-endless (w ∷ ws) = rw (first-endless ws, versions-endless ws) refl

pub versions-parts : (xs ys : List Write) → versions (xs ++ ys) ≡ versions_upto (first_time ys) xs ++ versions ys
versions-parts xs ys =
    sym (versions-endless (xs ++ ys)) ∙ versions-append (2 ^ 63) xs ys
    ∙ ap (λ (n : ℕ). versions_upto n xs ++ versions_upto (2 ^ 63) ys) (first-endless ys)
    ∙ ap (λ (vs : List (Version Value)). versions_upto (first_time ys) xs ++ vs) (versions-endless ys)

-- ---- where there are no rows

pub no-row_early : (from to a b : ℕ) (o : Option Value) → to ≤ a → rows (version_of from to o) a b ≡ []
no-row_early from to a b None early = refl
no-row_early from to a b (Some v) early =
    let none : lasts (cut a b (record { from = from; to = to; value = v })) ≡ false = grind (arith, nat_tests) in
    rw none refl

no-row_late : (from to a b : ℕ) (o : Option Value) → b ≤ from → rows (version_of from to o) a b ≡ []
no-row_late from to a b None late = refl
no-row_late from to a b (Some v) late =
    let none : lasts (cut a b (record { from = from; to = to; value = v })) ≡ false = grind (arith, nat_tests) in
    rw none refl

pub first-low : (s : ℕ) (xs : List Write) (w : Write) (ys : List Write) → IsRisingAfter s (xs ++ w ∷ ys) → first_time_or w.time xs ≤ w.time
first-low s [] w ys up = omega arith
first-low s (x ∷ xs) w ys up = let later = below x.time xs w ys up.2 in omega arith

-- no version of the writes before this one lasts beyond it
pub no-rows_before : (a b s : ℕ) (xs : List Write) (w : Write) (ys : List Write) → IsRisingAfter s (xs ++ w ∷ ys) → w.time ≤ a
    → rows (versions_upto w.time xs) a b ≡ []
no-rows_before a b s [] w ys up early = refl
no-rows_before a b s (x ∷ xs) w ys up early =
    let low = first-low x.time xs w ys up.2 in
    rows-append a b (version_of x.time (first_time_or w.time xs) x.write) (versions_upto w.time xs)
    ∙ rw (no-row_early x.time (first_time_or w.time xs) a b x.write (omega arith)) (no-rows_before a b x.time xs w ys up.2 early)

no-rows_after : (end a b s : ℕ) (ys : List Write) → b ≤ s → IsRisingAfter s ys → rows (versions_upto end ys) a b ≡ []
no-rows_after end a b s [] late up = refl
no-rows_after end a b s (y ∷ ys) late up =
    rows-append a b (version_of y.time (first_time_or end ys) y.write) (versions_upto end ys)
    ∙ rw (no-row_late y.time (first_time_or end ys) a b y.write (omega (arith, up.0))) (no-rows_after end a b y.time ys (omega (arith, up.0)) up.2)

-- none begins before the first of the writes
pub no-rows_from : (end a b s : ℕ) (ys : List Write) → IsRisingAfter s ys → b ≤ first_time_or end ys → rows (versions_upto end ys) a b ≡ []
no-rows_from end a b s [] up late = refl
no-rows_from end a b s (y ∷ ys) up late =
    rows-append a b (version_of y.time (first_time_or end ys) y.write) (versions_upto end ys)
    ∙ rw (no-row_late y.time (first_time_or end ys) a b y.write late) (no-rows_after end a b y.time ys late up.2)

-- the writes before a chunk end where it begins
pub first-chunk : (end : ℕ) (ps ys : List Write) → 0 < length ps → first_time_or end (ps ++ ys) ≡ first_time ps
first-chunk end [] ys some = absurd (omega arith)
first-chunk end (p ∷ ps) ys some = refl

-- no version of the writes before a chunk lasts beyond its beginning
pub no-rows_chunk : (a b : ℕ) (xs ps ys : List Write) → 0 < length ps → first_time ps ≤ a → IsRisingAfter 0 (xs ++ (ps ++ ys))
    → rows (versions_upto (first_time ps) xs) a b ≡ []
no-rows_chunk a b xs [] ys some early up = absurd (omega arith)
no-rows_chunk a b xs (p ∷ ps) ys some early up = no-rows_before a b 0 xs p (ps ++ ys) up early

pub on-ok : {A E : Type 0} {P Q : Type 0} (r : Result A E) → (P → Q) → OnOk r P → OnOk r Q
on-ok (Ok x) f p = f p
on-ok (Err e) f p = tt
