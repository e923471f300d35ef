-- What a walk over the records of a run has shown.
use Rattle.std.proofs.Common.{◌≡◌, ◌⊎◌, inl, inr, nat_le, nat_lt, ◌||◌, ℕ, zero, suc, ◌+◌, ◌<◌, ◌≤◌, Bool, true, false, IsTrue, not, cond, ◌&&◌, max, min, List}
use Rattle.std.proofs.Common.{[], ◌∷◌, ◌++◌, take, map, filter, Some, None, refl, sym, ◌∙◌, ap, subst, arith, append_assoc}
use Rattle.std.specs.List.{slice_get, flat_map, cons_option}
use Rattle.std.proofs.lemmas.List.{append-nil, map-append}
use Rattle.std.proofs.lemmas.List.Elements.{filter-append}
use Rattle.std.proofs.lemmas.Option.{slice_get_within}
use Rattle.std.proofs.lemmas.Bool.{cases_lt}
use Rattle.std.proofs.lemmas.Bool.Decides.{nat_tests}
use Rattle.history.specs.declared.key.Key.{Key}
use Rattle.history.specs.declared.time.Version.{Version}
use Rattle.history.specs.Key.{key_of, same_key}
use Rattle.history.specs.Versions.{cut, lasts, rows}
use Rattle.law_image.specs.Values.{Value}
use Rattle.law_image.specs.Reading.{ArchiveRecord}
use Rattle.law_image.specs.Facts.{run_versions}
use Rattle.archive.specs.declared.run.RunEntry.{RunEntry}
use Rattle.archive.specs.Laid.{IsBefore, IsLaidRun}
use Rattle.archive.specs.declared.head.Head.{Head}
use Rattle.archive.specs.declared.wanted.Wanted.{Wanted}
use Rattle.archive.specs.Answers.{versions_in, head_of, precedes, follows, of_key, is_wanted, skip_to, alone, row_of, rows_in}
use Rattle.archive.specs.Searches.{IsBound, AreSkipped}
use Rattle.archive.specs.Traces.{IsOneKey, HasPart}
use Rattle.archive.proofs.Orders.{places_before}

-- ---- lists that each item adds to

module _ {X Y : Type 0} (f : X → List Y) where
  pub more : (xs : List X) (n : ℕ) (x : X) → slice_get xs n ≡ Some x → flat_map f (take (n + 1) xs) ≡ flat_map f (take n xs) ++ f x
  more [] n x is = cc
  more (y ∷ ys) zero x is = let same : y ≡ x = cc in append-nil (f y) ∙ ap f same
  more (y ∷ ys) (suc n) x is =
      let next : suc n + 1 ≡ suc (n + 1) = omega arith in
      ap (λ (k : ℕ). flat_map f (take k (y ∷ ys))) next
      ∙ ap (λ (zs : List Y). f y ++ zs) (more ys n x is)
      ∙ sym (append_assoc (f y) (flat_map f (take n ys)) (f x))

  pub none_before : (xs : List X) (n : ℕ) → ((i : ℕ) (x : X) → i < n → slice_get xs i ≡ Some x → f x ≡ []) → flat_map f (take n xs) ≡ []
  none_before [] zero none = refl
  none_before [] (suc n) none = refl
  none_before (y ∷ ys) zero none = refl
  none_before (y ∷ ys) (suc n) none =
      ap (λ (zs : List Y). zs ++ flat_map f (take n ys)) (none zero y (omega arith) refl)
      ∙ none_before ys n (λ i x less at. none (suc i) x (omega arith) at)

  pub none_within : (xs : List X) (m k : ℕ) → m ≤ k → ((i : ℕ) (x : X) → m ≤ i → i < k → slice_get xs i ≡ Some x → f x ≡ []) → flat_map f (take k xs)
      ≡ flat_map f (take m xs)
  none_within [] zero zero order none = refl
  none_within [] zero (suc k) order none = refl
  none_within [] (suc m) zero order none = absurd (omega arith)
  none_within [] (suc m) (suc k) order none = refl
  none_within (y ∷ ys) zero zero order none = refl
  none_within (y ∷ ys) zero (suc k) order none = none_before (y ∷ ys) (suc k) (λ i x less at. none i x (omega arith) less at)
  none_within (y ∷ ys) (suc m) zero order none = absurd (omega arith)
  none_within (y ∷ ys) (suc m) (suc k) order none =
      ap (λ (zs : List Y). f y ++ zs) (none_within ys m k (omega arith) (λ i x from less at. none (suc i) x (omega arith) (omega arith) at))

  pub none_after : (xs : List X) (n : ℕ) → ((i : ℕ) (x : X) → n ≤ i → slice_get xs i ≡ Some x → f x ≡ []) → flat_map f (take n xs) ≡ flat_map f xs
  none_after [] zero none = refl
  none_after [] (suc n) none = refl
  none_after (y ∷ ys) zero none =
      sym (ap (λ (zs : List Y). zs ++ flat_map f ys) (none zero y (omega arith) refl)
      ∙ sym (none_after ys zero (λ i x from at. none (suc i) x (omega arith) at)))
  none_after (y ∷ ys) (suc n) none = ap (λ (zs : List Y). f y ++ zs) (none_after ys n (λ i x from at. none (suc i) x (omega arith) at))

-- ---- the rows of a key

pub rows-append : (vs ws : List (Version Value)) (a b : ℕ) → rows (vs ++ ws) a b ≡ rows vs a b ++ rows ws a b
rows-append vs ws a b = ap (filter lasts) (map-append (cut a b) vs ws) ∙ filter-append lasts (map (cut a b) vs) (map (cut a b) ws)

-- tests that agree of what lasts
pub where_lasting : (x y last : Bool) → (last ≡ true → x ≡ y) → (x && last) ≡ (y && last)
where_lasting x y last same =
    elim last as (λ t. (t ≡ true → x ≡ y) → (x && t)
    ≡ (y && t)) [ true ↦ (λ same. ap (λ (z : Bool). z && true) (same refl)) | false ↦ (λ same. by_false x ∙ sym (by_false y)) ] same where
      by_false : (z : Bool) → (z && false) ≡ false
      by_false true = refl
      by_false false = refl

module _ (key : Key) (a b : ℕ) where
  of_this_key : (r : ArchiveRecord) → lasts (cut a b r.version) ≡ true → is_wanted (of_key key a b) (head_of r) ≡ same_key r.key key
  of_this_key r long =
      let begins : r.version.from < b = grind (arith, nat_tests) in
      let ends : a < r.version.to = grind (arith, nat_tests) in
      grind (arith, nat_tests)

  row_alone : (r : ArchiveRecord) (rest : List ArchiveRecord) → row_of alone (of_key key a b) r ++ rows (run_versions key rest) a b
      ≡ rows (run_versions key (r ∷ rest)) a b
  row_alone r rest =
      let part = cut a b r.version in
      let later = run_versions key rest in
      let behind = rows later a b in
      let own = same_key r.key key in
      let Shown : Bool → Type 0 = λ t. rows (cons_option (cond t (Some r.version) None) later) a b ≡ cond t (cond (lasts part) (part ∷ behind) behind) behind in
      let shown : Shown own = elim own as Shown [ true ↦ refl | false ↦ refl ] in
      let Goal : Bool → Bool → Type 0 = λ s t. cond (s && t) (part ∷ []) [] ++ behind ≡ cond s (cond t (part ∷ behind) behind) behind in
      let all : (s t : Bool) → Goal s t =
      λ s t. elim s as (λ s. Goal s t) [ true ↦ elim t as (λ t. Goal true t) [ true ↦ refl | false ↦ refl ] | false ↦ refl ] in
      ap (λ (c : Bool). cond {A = List (Version Value)} c (part ∷ []) [] ++ behind) (where_lasting _ own (lasts part) (of_this_key r))
      ∙ all own (lasts part)
      ∙ sym shown

  run_alone : (records : List ArchiveRecord) → rows_in alone (of_key key a b) records ≡ rows (run_versions key records) a b
  run_alone [] = refl
  run_alone (r ∷ rs) = ap (λ (vs : List (Version Value)). row_of alone (of_key key a b) r ++ vs) (run_alone rs) ∙ row_alone r rs

  -- one run after another
  pub rows_alone : (lists : List (List ArchiveRecord)) → flat_map (rows_in alone (of_key key a b)) lists ≡ rows (versions_in key lists) a b
  rows_alone [] = refl
  rows_alone (rs ∷ lists) =
      ap (λ (vs : List (Version Value)). vs ++ flat_map (rows_in alone (of_key key a b)) lists) (run_alone rs)
      ∙ ap (λ (vs : List (Version Value)). rows (run_versions key rs) a b ++ vs) (rows_alone lists)
      ∙ sym (rows-append (run_versions key rs) (versions_in key lists) a b)

pub no_interval : (vs : List (Version Value)) (a b : ℕ) → b ≤ a → rows vs a b ≡ []
no_interval [] a b none = refl
no_interval (v ∷ vs) a b none =
    let short : min v.to b ≤ max v.from a = omega arith in
    let test : lasts (cut a b v) ≡ false = grind (arith, nat_tests) in
    ap (λ (c : Bool). cond c (cut a b v ∷ rows vs a b) (rows vs a b)) test ∙ no_interval vs a b none

-- each version of one key that is wanted has a part in the interval
pub one_key : (w : Wanted) (head : Head) → IsOneKey w → IsTrue (is_wanted w head) → head.from < head.to → HasPart w head
one_key w head one wanted stands =
    let relation : w.first.relation ≡ w.last.relation = ap (λ (k : Key). k.relation) one.0 in
    let number : w.first.record ≡ w.last.record = ap (λ (k : Key). k.record) one.0 in
    let some = one.1 in
    let begins : head.from < w.b = grind (arith, nat_tests) in
    let ends : w.a < head.to = grind (arith, nat_tests) in
    omega arith

-- ---- what a walk skips

pub skip_cases : (w : Wanted) (h : Head) (key : Key) → skip_to w h ≡ Some key
    → ((h.to ≤ w.a) × (h.key ≡ key)) ⊎ ((w.b ≤ h.to) × (key_of h.key.relation (h.key.record + 1) ≡ key))
skip_cases w h key is = by_tests (nat_lt h.key.record w.last.record) (nat_le h.to w.a) (nat_le w.b h.to) refl refl is where
  by_tests : (x y z : Bool) → nat_le h.to w.a ≡ y → nat_le w.b h.to ≡ z
      → cond (x && (y || z)) (Some (cond y h.key (key_of h.key.relation (h.key.record + 1)))) None ≡ Some key
      → ((h.to ≤ w.a) × (h.key ≡ key)) ⊎ ((w.b ≤ h.to) × (key_of h.key.relation (h.key.record + 1) ≡ key))
  by_tests false y z early late e = absurd (cc)
  by_tests true true z early late e = inl (grind (arith, nat_tests), cc)
  by_tests true false true early late e = inr (grind (arith, nat_tests), cc)
  by_tests true false false early late e = absurd (cc)

-- what is skipped has no part in the interval
pub skipped_short : (w : Wanted) (r s : ArchiveRecord) (key : Key) → skip_to w (head_of r) ≡ Some key → IsBefore r s → precedes key w.a (head_of s) ≡ true
    → min s.version.to w.b ≤ max s.version.from w.a
skipped_short w r s key skips before precedes_key = elim (skip_cases w (head_of r) key skips) [
  | inl ended ↦
      let relation : r.key.relation ≡ key.relation = ap (λ (k : Key). k.relation) ended.1 in
      let number : r.key.record ≡ key.record = ap (λ (k : Key). k.record) ended.1 in
      let over : s.version.to ≤ w.a = grind (arith, nat_tests) in
      omega arith
  | inr lasts ↦
      let relation : r.key.relation ≡ key.relation = ap (λ (k : Key). k.relation) lasts.1 in
      let number : r.key.record + 1 ≡ key.record = ap (λ (k : Key). k.record) lasts.1 in
      let end = lasts.0 in
      let out : (s.version.to ≤ w.a) ⊎ (w.b ≤ s.version.from) = grind (arith, nat_tests) in
      elim out [ inl over ↦ omega arith | inr later ↦ omega arith ]
]

-- ---- the records of a run

-- what is behind one that follows does too
follows_later : (key : Key) (time : ℕ) (r s : ArchiveRecord) → IsBefore r s → r.version.from < r.version.to → follows key time (head_of r) ≡ true
    → follows key time (head_of s) ≡ true
follows_later key time r s before stands holds = grind (arith, nat_tests)

pub out_behind : (w : Wanted) (head : Head) → precedes w.first w.a head ≡ false → is_wanted w head ≡ false → follows w.last w.b head ≡ true
out_behind w head not_before out = by_test (precedes w.first w.a head) (follows w.last w.b head) not_before out where
  by_test : (p f : Bool) → p ≡ false → (not p && not f) ≡ false → f ≡ true
  by_test true f is out = cc
  by_test false true is out = refl
  by_test false false is out = cc

out_before : (w : Wanted) (head : Head) → precedes w.first w.a head ≡ true → is_wanted w head ≡ false
out_before w head before = ap (λ (p : Bool). not p && not (follows w.last w.b head)) before

out_after : (w : Wanted) (head : Head) → follows w.last w.b head ≡ true → is_wanted w head ≡ false
out_after w head after = by_test (precedes w.first w.a head) (follows w.last w.b head) after where
  by_test : (p f : Bool) → f ≡ true → (not p && not f) ≡ false
  by_test true f is = refl
  by_test false true is = refl
  by_test false false is = cc

module _ {R : Type 0} (shown : ℕ → Version Value → R) (w : Wanted) (r : ArchiveRecord) where
  none_where : (is_wanted w (head_of r) && lasts (cut w.a w.b r.version)) ≡ false → row_of shown w r ≡ []
  none_where none = ap (λ (c : Bool). cond {A = List R} c (shown r.key.record (cut w.a w.b r.version) ∷ []) []) none

  row_unwanted : is_wanted w (head_of r) ≡ false → row_of shown w r ≡ []
  row_unwanted out = none_where (ap (λ (t : Bool). t && lasts (cut w.a w.b r.version)) out)

  pub row_short : min r.version.to w.b ≤ max r.version.from w.a → row_of shown w r ≡ []
  row_short short = let test : lasts (cut w.a w.b r.version) ≡ false = grind (arith, nat_tests) in none_where (by_last _ _ test) where
    by_last : (x y : Bool) → y ≡ false → (x && y) ≡ false
    by_last x true is = cc
    by_last true false is = refl
    by_last false false is = refl

  pub row_shown : IsTrue (is_wanted w (head_of r)) → HasPart w (head_of r) → row_of shown w r ≡ shown r.key.record (cut w.a w.b r.version) ∷ []
  row_shown wanted part =
      let test : lasts (cut w.a w.b r.version) ≡ true = grind (arith, nat_tests) in
      ap (λ (c : Bool). cond {A = List R} c (shown r.key.record (cut w.a w.b r.version) ∷ []) []) (by_both _ _ wanted test)
    where
      by_both : (x y : Bool) → IsTrue x → y ≡ true → (x && y) ≡ true
      by_both true y is same = same
      by_both false y is same = is

module _ {R : Type 0} (shown : ℕ → Version Value
    → R) (w : Wanted) (area : List ℕ) (run : RunEntry) (records : List ArchiveRecord) (laid : IsLaidRun area run records) where
  lasting : (n : ℕ) (r : ArchiveRecord) → slice_get records n ≡ Some r → r.version.from < r.version.to
  lasting n r at = (laid.each n r at).lasts

  -- a run that ended by then adds no row
  pub past_rows : run.slot.upto ≤ w.a → rows_in shown w records ≡ []
  past_rows past = sym (none_after (row_of shown w) records 0 (λ i r from at. let by = (laid.each i r at).by_upto in row_short shown w r (omega arith)))

  -- what is skipped adds no row
  pub rows_skip : (n next : ℕ) → n < next → AreSkipped records w n next → flat_map (row_of shown w) (take next records)
      ≡ flat_map (row_of shown w) (take (n + 1) records)
  rows_skip n next less skipped =
      none_within (row_of shown w) records (n + 1) next (omega arith) (λ i r from to at. row_short shown w r (skipped i r (omega arith) to at))

  module _ (n : ℕ) where
    -- where the walk begins
    pub rows_begin : IsBound records w.first w.a n → flat_map (row_of shown w) (take n records) ≡ []
    rows_begin bound = none_before (row_of shown w) records n (λ i r less at. row_unwanted shown w r (out_before w (head_of r) (bound.before i r less at)))

    pub rows_end_past : run.slot.records ≤ n → flat_map (row_of shown w) (take n records) ≡ rows_in shown w records
    rows_end_past past = none_after (row_of shown w) records n (λ i r from at. absurd (omega (arith, slice_get_within records i r at, laid.count)))

    -- where it ends before the last record
    pub rows_end : (r : ArchiveRecord) → slice_get records n ≡ Some r → precedes w.first w.a (head_of r) ≡ false → is_wanted w (head_of r) ≡ false
        → flat_map (row_of shown w) (take n records) ≡ rows_in shown w records
    rows_end r at not_before out = none_after (row_of shown w) records n each where
      behind : follows w.last w.b (head_of r) ≡ true
      behind = out_behind w (head_of r) not_before out

      each : (i : ℕ) (s : ArchiveRecord) → n ≤ i → slice_get records i ≡ Some s → row_of shown w s ≡ []
      each i s from at_s = elim (cases_lt n i) [
        | inl above ↦
            let before = places_before records laid.in_order lasting n i r s above at at_s in
            row_unwanted shown w s (out_after w (head_of s) (follows_later w.last w.b r s before (lasting n r at) behind))
        | inr below ↦
            let same : i ≡ n = omega arith in
            let at_n : slice_get records n ≡ Some s = subst (λ (k : ℕ). slice_get records k ≡ Some s) same at_s in
            let one : r ≡ s = cc in
            row_unwanted shown w s (subst (λ (t : ArchiveRecord). is_wanted w (head_of t) ≡ false) one out)
      ]

-- what a search for where to go on passes is skipped
pub are_skipped : (w : Wanted) (area : List ℕ) (run : RunEntry) (records : List ArchiveRecord) → IsLaidRun area run records
    → (n next : ℕ) (r : ArchiveRecord) (key : Key) → slice_get records n ≡ Some r
    → skip_to w (head_of r) ≡ Some key → IsBound records key w.a next → AreSkipped records w n next
are_skipped w area run records laid n next r key at skips bound i s from to at_s =
    skipped_short w r s key skips (places_before records laid.in_order (λ m t at_t. (laid.each m t at_t).lasts) n i r s from at at_s) (bound.before i s to at_s)
