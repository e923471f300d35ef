-- The rows that a walk goes over: those of a chunk's writes, and behind them those from the time at which its last version ends.
use Rattle.std.proofs.Common.{◌≡◌, ℕ, ◌^◌, ◌<◌, ◌≤◌, max, min, false, List, [], ◌∷◌, ◌++◌, length, filter, Option, None, Some, refl, ap, sym, subst, ◌∙◌, arith}
use Rattle.std.proofs.Common.{append_assoc, append-nil}
use Rattle.std.proofs.lemmas.Bool.Decides.{nat_tests}
use Rattle.history.specs.declared.time.Version.{Version}
use Rattle.history.specs.Time.{IsRisingAfter}
use Rattle.history.specs.Versions.{first_time, version_of, versions, cut, lasts, rows}
use Rattle.chains.specs.Rows.{first_time_or, versions_upto, IsFront}
use Rattle.chains.specs.Writes.{Value, Write, last_time, last_time_after}
use Rattle.chains.proofs.Parts.{rising-back}
use Rattle.chains.proofs.RowParts.{rows-append, versions-append, versions-endless, no-row_early, no-rows_before}

-- ---- where there are no rows

-- in an interval that has no time
pub no-rows_empty : (vs : List (Version Value)) (a b : ℕ) → b ≤ a → rows vs a b ≡ []
no-rows_empty [] a b empty = refl
no-rows_empty (v ∷ vs) a b empty =
    let none : lasts (cut a b v) ≡ false = grind (arith, nat_tests) in
    rw none (no-rows_empty vs a b empty)

last-from : (s : ℕ) (ws : List Write) → IsRisingAfter s ws → s ≤ last_time_after s ws
last-from s [] up = omega arith
last-from s (w ∷ ws) up = omega (arith, up.0, last-from w.time ws up.2)

pub first-upto : (end s : ℕ) (ws : List Write) → IsRisingAfter s ws → last_time_after s ws ≤ end → first_time_or end ws ≤ end
first-upto end s [] up by = omega arith
first-upto end s (w ∷ ws) up by = omega (arith, last-from w.time ws up.2, by)

-- behind the end of the last version
pub no-rows_ended : (end a b s : ℕ) (ws : List Write) → IsRisingAfter s ws → last_time_after s ws ≤ end → end ≤ a → rows (versions_upto end ws) a b ≡ []
no-rows_ended end a b s [] up by early = refl
no-rows_ended end a b s (w ∷ ws) up by early =
    let low = first-upto end w.time ws up.2 by in
    rows-append a b (version_of w.time (first_time_or end ws) w.write) (versions_upto end ws)
    ∙ rw (no-row_early w.time (first_time_or end ws) a b w.write (omega (arith, low, early))) (no-rows_ended end a b w.time ws up.2 by early)

-- of the writes before those that begin by then
no-rows_front : (a b : ℕ) (xs zs : List Write) → 0 < length zs → IsRisingAfter 0 (xs ++ zs) → first_time zs ≤ a → rows (versions_upto (first_time zs) xs) a b
    ≡ []
no-rows_front a b xs [] some up early = absurd (omega arith)
no-rows_front a b xs (z ∷ zs) some up early = no-rows_before a b 0 xs z zs up early

-- ---- from where on rows are cut says nothing of versions that begin later

row-later : (from to a c b : ℕ) (o : Option Value) → a ≤ from → c ≤ from → rows (version_of from to o) a b ≡ rows (version_of from to o) c b
row-later from to a c b None p q = refl
row-later from to a c b (Some v) p q =
    let same : max from a ≡ max from c = grind (arith, nat_tests) in
    ap (λ (n : ℕ). filter lasts (record { from = n; to = min to b; value = v } ∷ [])) same

rows-later : (end a c b s : ℕ) (ws : List Write) → IsRisingAfter s ws → a ≤ s → c ≤ s → rows (versions_upto end ws) a b ≡ rows (versions_upto end ws) c b
rows-later end a c b s [] up p q = refl
rows-later end a c b s (w ∷ ws) up p q =
    let here = row-later w.time (first_time_or end ws) a c b w.write (omega (arith, up.0, p)) (omega (arith, up.0, q)) in
    let behind = rows-later end a c b w.time ws up.2 (omega (arith, up.0, p)) (omega (arith, up.0, q)) in
    rows-append a b (version_of w.time (first_time_or end ws) w.write) (versions_upto end ws)
    ∙ (λ i. here i ++ behind i)
    ∙ sym (rows-append c b (version_of w.time (first_time_or end ws) w.write) (versions_upto end ws))

rows-from_first : (end a c b : ℕ) (zs : List Write) → 0 < length zs → IsRisingAfter 0 zs → a ≤ first_time zs → c ≤ first_time zs
    → rows (versions_upto end zs) a b ≡ rows (versions_upto end zs) c b
rows-from_first end a c b [] some up p q = absurd (omega arith)
rows-from_first end a c b (z ∷ zs) some up p q =
    let here = row-later z.time (first_time_or end zs) a c b z.write p q in
    let behind = rows-later end a c b z.time zs up.2 p q in
    rows-append a b (version_of z.time (first_time_or end zs) z.write) (versions_upto end zs)
    ∙ (λ i. here i ++ behind i)
    ∙ sym (rows-append c b (version_of z.time (first_time_or end zs) z.write) (versions_upto end zs))

-- ---- writes of which the later ones begin with a chunk

first_or-some : (end : ℕ) (zs : List Write) → 0 < length zs → first_time_or end zs ≡ first_time zs
first_or-some end [] some = absurd (omega arith)
first_or-some end (z ∷ zs) some = refl

pub last-before : (s : ℕ) (xs zs : List Write) → 0 < length zs → IsRisingAfter s (xs ++ zs) → last_time_after s xs ≤ first_time zs
last-before s xs [] some up = absurd (omega arith)
last-before s [] (z ∷ zs) some up = omega (arith, up.0)
last-before s (x ∷ xs) (z ∷ zs) some up = last-before x.time xs (z ∷ zs) some up.2

module _ (xs zs : List Write) (some : 0 < length zs) (rising : IsRisingAfter 0 (xs ++ zs)) where
  rows_parts : (end a b : ℕ) → rows (versions_upto end (xs ++ zs)) a b ≡ rows (versions_upto (first_time zs) xs) a b ++ rows (versions_upto end zs) a b
  rows_parts end a b =
      ap (λ (vs : List (Version Value)). rows vs a b) (versions-append end xs zs)
      ∙ ap (λ (n : ℕ). rows (versions_upto n xs ++ versions_upto end zs) a b) (first_or-some end zs some)
      ∙ rows-append a b (versions_upto (first_time zs) xs) (versions_upto end zs)

  -- from the first of the later ones on there are their rows alone
  past : (end a b : ℕ) → first_time zs ≤ a → rows (versions_upto end (xs ++ zs)) a b ≡ rows (versions_upto end zs) a b
  past end a b by = rows_parts end a b ∙ ap (λ (l : List (Version Value)). l ++ rows (versions_upto end zs) a b) (no-rows_front a b xs zs some rising by)

  pub front-later : (end time upto : ℕ) (part : List (Version Value)) → first_time zs ≤ time → IsFront time upto (versions_upto end zs) part
      → IsFront time upto (versions_upto end (xs ++ zs)) part
  front-later end time upto part by front = record {
    later = front.later;
    rows_are = λ b.
        past end time b by ∙ front.rows_are b
        ∙ ap (λ (l : List (Version Value)). rows part time b ++ l) (sym (past end upto b (omega (arith, by, front.later))));
  }

  pub front-earlier : (end time upto : ℕ) (part : List (Version Value)) → time < first_time zs → upto ≤ first_time zs
      → IsFront time upto (versions_upto (first_time zs) xs) part
      → IsFront time upto (versions_upto end (xs ++ zs)) part
  front-earlier end time upto part before by front = record {
    later = front.later;
    rows_are = λ b.
        rows_parts end time b
        ∙ ap (λ (l : List (Version Value)). l ++ rows (versions_upto end zs) time b) (front.rows_are b)
        ∙ append_assoc (rows part time b) (rows (versions_upto (first_time zs) xs) upto b) (rows (versions_upto end zs) time b)
        ∙ ap (λ (l : List (Version Value)). rows part time b
        ++ (rows (versions_upto (first_time zs) xs) upto b
        ++ l)) (rows-from_first end time upto b zs some (rising-back 0 xs zs rising) (omega (arith, before)) by)
        ∙ ap (λ (l : List (Version Value)). rows part time b ++ l) (sym (rows_parts end upto b));
  }

-- all of some writes are a front where their last version ends
pub front-whole : (time end : ℕ) (ws : List Write) → IsRisingAfter 0 ws → last_time ws ≤ end → time < end
    → IsFront time end (versions_upto end ws) (versions_upto end ws)
front-whole time end ws up by later = record {
  later = later;
  rows_are = λ b.
      sym (append-nil (rows (versions_upto end ws) time b))
      ∙ ap (λ (l : List (Version Value)). rows (versions_upto end ws) time b ++ l) (sym (no-rows_ended end end b 0 ws up by (omega arith)));
}

-- ---- those of a node

pub first-front : (ps ys : List Write) → 0 < length ps → first_time (ps ++ ys) ≡ first_time ps
first-front [] ys some = absurd (omega arith)
first-front (p ∷ ps) ys some = refl

-- ---- those of a chain

last-below : (s : ℕ) (ws : List Write) → s ≤ 2 ^ 63 → IsRisingAfter s ws → last_time_after s ws ≤ 2 ^ 63
last-below s [] low up = low
last-below s (w ∷ ws) low up = last-below w.time ws (omega (arith, up.1)) up.2

module _ (older last : List Write) (some : 0 < length last) (rising : IsRisingAfter 0 (older ++ last)) where
  pub last_older : last_time older ≤ first_time last
  last_older = last-before 0 older last some rising

  pub no_rows_endless : (time : ℕ) → 2 ^ 63 ≤ time → (b : ℕ) → rows (versions (older ++ last)) time b ≡ []
  no_rows_endless time by b =
      ap (λ (vs : List (Version Value)). rows vs time b) (sym (versions-endless (older ++ last)))
      ∙ no-rows_ended (2 ^ 63) time b 0 (older ++ last) rising (last-below 0 (older ++ last) (omega arith) rising) by

  pub front_older : (time upto : ℕ) (part : List (Version Value)) → time < first_time last → upto ≤ first_time last
      → IsFront time upto (versions_upto (first_time last) older) part
      → IsFront time upto (versions (older ++ last)) part
  front_older time upto part later by front =
      subst (λ (vs : List (Version Value)). IsFront time upto vs part) (versions-endless (older ++ last))
      (front-earlier older last some rising (2 ^ 63) time upto part later by front)

  front_last : (time : ℕ) → time < 2 ^ 63 → IsFront time (2 ^ 63) (versions_upto (2 ^ 63) last) (versions_upto (2 ^ 63) last)
  front_last time later =
      let up = rising-back 0 older last rising in
      front-whole time (2 ^ 63) last up (last-below 0 last (omega arith) up) later

  pub front_recent : (time : ℕ) → time < 2 ^ 63 → first_time last ≤ time → IsFront time (2 ^ 63) (versions (older ++ last)) (versions_upto (2 ^ 63) last)
  front_recent time later by =
      subst (λ (vs : List (Version Value)). IsFront time (2 ^ 63) vs (versions_upto (2 ^ 63) last)) (versions-endless (older ++ last))
      (front-later older last some rising (2 ^ 63) time (2 ^ 63) (versions_upto (2 ^ 63) last) by (front_last time later))

  pub front_only : (time : ℕ) → time < 2 ^ 63 → older ≡ [] → IsFront time (2 ^ 63) (versions (older ++ last)) (versions_upto (2 ^ 63) last)
  front_only time later none =
      subst (λ (ws : List Write). IsFront time (2 ^ 63) (versions (ws ++ last)) (versions_upto (2 ^ 63) last)) (sym none)
      (subst (λ (vs : List (Version Value)). IsFront time (2 ^ 63) vs (versions_upto (2 ^ 63) last)) (versions-endless last) (front_last time later))
