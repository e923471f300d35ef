-- The lists of writes, versions and rows have exactly what the sets say.
use Rattle.std.proofs.Common.{◌≡◌, ℕ, ◌<◌, ◌≤◌, ◌^◌, ◌↔◌, ◌⊎◌, true, List, [], ◌∷◌, ◌++◌, map, Option, Some, None, refl, ap, sym, subst, ◌∙◌, arith, ⊎_elim}
use Rattle.std.proofs.Common.{inl, inr}
use Rattle.std.specs.Prelude.{Contains, filter_map, option_map}
use Rattle.std.specs.List.{cons_option}
use Rattle.std.proofs.lemmas.Bool.Decides.{nat_tests}
use Rattle.std.proofs.lemmas.List.Elements.{Contains-append_right}
use Rattle.history.specs.declared.key.Key.{Key}
use Rattle.history.specs.declared.time.TimedWrite.{TimedWrite}
use Rattle.history.specs.declared.time.Version.{Version}
use Rattle.history.specs.Key.{write_in}
use Rattle.history.specs.Time.{IsRisingAfter}
use Rattle.history.specs.Versions.{first_time, version_of, versions, cut, lasts, rows}
use Rattle.history.specs.Histories.{Commit, History, timed_write, writes_of}
use Rattle.history.specs.Sets.{Writes, IsSpan, IsRow}
use Rattle.history.proofs.Orders.{is_lt}
use Rattle.history.proofs.Values.{first_time-later}
use Rattle.history.proofs.Members.{Contains-cons_cases, Contains-head, Contains-tail, Contains-nil, Contains-filter, filter-Contains}

-- ---- writes

pub Contains-filter_map : {X Y : Type 0} (f : X → Option Y) (xs : List X) (y : Y) → Contains (filter_map f xs) y ↔ ((x : X) × Contains xs x × (f x ≡ Some y))
Contains-filter_map f [] y = (λ has. absurd (Contains-nil y has), λ some. absurd (Contains-nil some.0 some.1))
Contains-filter_map {X} {Y} f (x ∷ xs) y =
    let rest = Contains-filter_map f xs y in
    let Found : Type 0 = (z : X) × Contains (x ∷ xs) z × (f z ≡ Some y) in
    let more : ((z : X) × Contains xs z × (f z ≡ Some y)) → Found = λ r. (r.0, Contains-tail x xs r.0 r.1, r.2) in
    let To : Option Y → Type 0 = λ o. f x ≡ o → Contains (cons_option o (filter_map f xs)) y → Found in
    let to : (o : Option Y) → To o = λ o. elim o as To [
      | None ↦ λ e has. more (rest.0 has)
      | Some z ↦ λ e has.
          ⊎_elim
          (λ (is : z ≡ y). (x, Contains-head x xs x refl, e ∙ ap (λ v. Some v) is))
          (λ (in_rest : Contains (filter_map f xs) y). more (rest.0 in_rest))
          (Contains-cons_cases z (filter_map f xs) y has)
    ] in
    let From : Option Y → Type 0 = λ o. f x ≡ o → Found → Contains (cons_option o (filter_map f xs)) y in
    let from : (o : Option Y) → From o = λ o. elim o as From [
      | None ↦ λ e found.
          ⊎_elim
          (λ (is : x ≡ found.0). absurd (let none : None ≡ Some y = sym e ∙ ap f is ∙ found.2 in cc))
          (λ (in_rest : Contains xs found.0). rest.1 (found.0, in_rest, found.2))
          (Contains-cons_cases x xs found.0 found.1)
      | Some z ↦ λ e found.
          ⊎_elim
          (λ (is : x ≡ found.0). let same : Some z ≡ Some y = sym e ∙ ap f is ∙ found.2 in let head : z ≡ y = cc in Contains-head z (filter_map f xs) y head)
          (λ (in_rest : Contains xs found.0). Contains-tail z (filter_map f xs) y (rest.1 (found.0, in_rest, found.2)))
          (Contains-cons_cases x xs found.0 found.1)
    ] in
    (to (f x) refl, from (f x) refl)

timed-is : {V : Type 0} (key : Key) (c : Commit V) (time : ℕ) (write : Option V) → (timed_write key c ≡ Some (record { time = time; write = write }))
    ↔ ((c.time ≡ time) × (write_in c.writes key ≡ Some write))
timed-is {V} key c time write =
    let made : Option V → TimedWrite V = λ w. record { time = c.time; write = w } in
    let To : Option (Option V) → Type 0 = λ o. option_map made o ≡ Some (record { time = time; write = write }) → (c.time ≡ time) × (o ≡ Some write) in
    let to : (o : Option (Option V)) → To o = λ o. elim o as To [
      | None ↦ λ e. absurd cc
      | Some w ↦ λ e. let same : made w ≡ record { time = time; write = write } =
          cc in (ap (λ (t : TimedWrite V). t.time) same, ap (λ (t : TimedWrite V). Some t.write) same)
    ] in (
      to (write_in c.writes key),
      λ is. ap (option_map made) is.1 ∙ ap (λ (t : ℕ). Some (record { time = t; write = write })) is.0,
    )

pub writes-are : {V : Type 0} (h : History V) (key : Key) (time : ℕ) (write : Option V) → Contains (writes_of h key) (record { time = time; write = write })
    ↔ Writes h key time write
writes-are h key time write =
    let found = Contains-filter_map (timed_write key) h (record { time = time; write = write }) in (
      λ has. let c = found.0 has in let is = (timed-is key c.0 time write).0 c.2 in (c.0, c.1, is.0, is.1),
      λ is. found.1 (is.0, is.1, (timed-is key is.0 time write).1 (is.2, is.3)),
    )

-- ---- versions

-- this fact is in the list
abbrev pub IsIn : {V : Type 0} → List (TimedWrite V) → ℕ → Option V → Type 0
IsIn ws time write = Contains ws (record { time = time; write = write })

later-than : {V : Type 0} (t : ℕ) (ws : List (TimedWrite V)) (w : TimedWrite V) → IsRisingAfter t ws → Contains ws w → (t < w.time) × (first_time ws ≤ w.time)
later-than t [] w up has = absurd (Contains-nil w has)
later-than {V} t (u ∷ us) w up has =
    ⊎_elim
    (λ (is : u ≡ w). let same : u.time ≡ w.time = ap (λ (x : TimedWrite V). x.time) is in (omega (arith, same, up.0), omega (arith, same)))
    (λ (more : Contains us w). let rest = later-than u.time us w up.2 more in (omega (arith, rest.0, up.0), omega (arith, rest.0)))
    (Contains-cons_cases u us w has)

in-range : {V : Type 0} (t : ℕ) (ws : List (TimedWrite V)) (w : TimedWrite V) → IsRisingAfter t ws → Contains ws w → w.time < 2 ^ 63
in-range t [] w up has = absurd (Contains-nil w has)
in-range {V} t (u ∷ us) w up has =
    ⊎_elim
    (λ (is : u ≡ w). let same : u.time ≡ w.time = ap (λ (x : TimedWrite V). x.time) is in omega (arith, same, up.1))
    (λ (more : Contains us w). in-range u.time us w up.2 more)
    (Contains-cons_cases u us w has)

-- the first fact of a list that has one
first-in : {V : Type 0} (s : ℕ) (ws : List (TimedWrite V)) → IsRisingAfter s ws → (first_time ws ≡ 2 ^ 63)
    ⊎ ((write : Option V) × IsIn ws (first_time ws) write × (first_time ws < 2 ^ 63))
first-in s [] up = inl refl
first-in s (w ∷ ws) up = inr (w.write, Contains-head w ws w refl, up.1)

-- a span of a list, with one fact before it
span-more : {V : Type 0} (w : TimedWrite V) (ws : List (TimedWrite V)) (v : Version V) → IsRisingAfter w.time ws → IsSpan (IsIn ws) v → IsSpan (IsIn (w ∷ ws)) v
span-more {V} w ws v up span = record {
  written = Contains-tail w ws (record { time = v.from; write = Some v.value }) span.written;
  later = span.later;
  ended = ⊎_elim (λ (endless : v.to ≡ 2 ^ 63). inl endless) (λ (at : (write : Option V) × IsIn ws v.to write). inr (
    at.0,
    Contains-tail w ws (record { time = v.to; write = at.0 }) at.1,
  )) span.ended;
  next = λ time write has after.
      ⊎_elim
      (λ (is : w ≡ record { time = time; write = write }).
      let same : w.time ≡ time = ap (λ (x : TimedWrite V). x.time) is in
      let past = later-than w.time ws (record { time = v.from; write = Some v.value }) up span.written in
      absurd (omega (arith, same, past.0, after)))
      (λ (more : IsIn ws time write). span.next time write more after)
      (Contains-cons_cases w ws (record { time = time; write = write }) has);
}

-- and without it
span-less : {V : Type 0} (w : TimedWrite V) (ws : List (TimedWrite V)) (v : Version V) → IsRisingAfter w.time ws → IsIn ws v.from (Some v.value)
    → IsSpan (IsIn (w ∷ ws)) v → IsSpan (IsIn ws) v
span-less {V} w ws v up written span =
    let past = later-than w.time ws (record { time = v.from; write = Some v.value }) up written in
    record {
      written = written;
      later = span.later;
      ended =
          ⊎_elim
          (λ (endless : v.to ≡ 2 ^ 63). inl endless)
          (λ (at : (write : Option V) × IsIn (w ∷ ws) v.to write).
          ⊎_elim
          (λ (is : w ≡ record { time = v.to; write = at.0 }). let same : w.time ≡ v.to =
          ap (λ (x : TimedWrite V). x.time) is in absurd (omega (arith, same, past.0, span.later)))
          (λ (more : IsIn ws v.to at.0). inr (at.0, more))
          (Contains-cons_cases w ws (record { time = v.to; write = at.0 }) at.1))
          span.ended;
      next = λ time write has after. span.next time write (Contains-tail w ws (record { time = time; write = write }) has) after;
    }

-- the span that begins with the first fact
first-span : {V : Type 0} (s : ℕ) (w : TimedWrite V) (ws : List (TimedWrite V)) (value : V) → IsRisingAfter s (w ∷ ws) → w.write ≡ Some value
    → IsSpan (IsIn (w ∷ ws)) (record { from = w.time; to = first_time ws; value = value })
first-span {V} s w ws value up is = record {
  written = Contains-head w ws (record { time = w.time; write = Some value }) (ap (λ (x : Option V). record { time = w.time; write = x }) is);
  later = first_time-later w.time ws up.1 up.2;
  ended =
      ⊎_elim
      (λ (endless : first_time ws ≡ 2 ^ 63). inl endless)
      (λ (at : (write : Option V) × IsIn ws (first_time ws) write × (first_time ws < 2 ^ 63)). inr (
        at.0,
        Contains-tail w ws (record { time = first_time ws; write = at.0 }) at.1,
      ))
      (first-in w.time ws up.2);
  next = λ time write has after.
      ⊎_elim
      (λ (same : w ≡ record { time = time; write = write }). let at : w.time ≡ time =
      ap (λ (x : TimedWrite V). x.time) same in absurd (omega (arith, at, after)))
      (λ (more : IsIn ws time write). (later-than w.time ws (record { time = time; write = write }) up.2 more).1)
      (Contains-cons_cases w ws (record { time = time; write = write }) has);
}

-- a span that begins with the first fact ends with the next
first-end : {V : Type 0} (s : ℕ) (w : TimedWrite V) (ws : List (TimedWrite V)) (v : Version V) → IsRisingAfter s (w ∷ ws) → w.time ≡ v.from
    → IsSpan (IsIn (w ∷ ws)) v → v.to ≡ first_time ws
first-end {V} s w ws v up at span =
    let next = first_time-later w.time ws up.1 up.2 in
    let upto : v.to ≤ 2 ^ 63 → v.to ≤ first_time ws = λ bound.
    ⊎_elim
    (λ (endless : first_time ws ≡ 2 ^ 63). omega (arith, endless, bound))
    (λ (some : (write : Option V) × IsIn ws (first_time ws) write
    × (first_time ws < 2 ^ 63)). span.next (first_time ws) some.0 (Contains-tail w ws (record { time = first_time ws; write = some.0 }) some.1)
    (omega (arith, at, next)))
    (first-in w.time ws up.2) in
    ⊎_elim
    (λ (endless : v.to ≡ 2 ^ 63).
    let le : v.to ≤ first_time ws = upto (omega (arith, endless)) in
    let bound : first_time ws ≤ 2 ^ 63 =
    ⊎_elim (λ (none : first_time ws ≡ 2 ^ 63). omega (arith, none)) (λ (some : (write : Option V) × IsIn ws (first_time ws) write
    × (first_time ws < 2 ^ 63)). omega (arith, some.2)) (first-in w.time ws up.2) in
    omega (arith, endless, le, bound))
    (λ (some : (write : Option V) × IsIn (w ∷ ws) v.to write).
    ⊎_elim
    (λ (is : w ≡ record { time = v.to; write = some.0 }). let same : w.time ≡ v.to =
    ap (λ (x : TimedWrite V). x.time) is in absurd (omega (arith, same, at, span.later)))
    (λ (more : IsIn ws v.to some.0).
    let past = later-than w.time ws (record { time = v.to; write = some.0 }) up.2 more in
    let range : v.to < 2 ^ 63 = in-range w.time ws (record { time = v.to; write = some.0 }) up.2 more in
    let le : v.to ≤ first_time ws = upto (omega (arith, range)) in
    omega (arith, le, past.1))
    (Contains-cons_cases w ws (record { time = v.to; write = some.0 }) some.1))
    span.ended

pub versions-are_spans : {V : Type 0} (s : ℕ) (ws : List (TimedWrite V)) (v : Version V) → IsRisingAfter s ws → Contains (versions ws) v ↔ IsSpan (IsIn ws) v
versions-are_spans s [] v up = (λ has. absurd (Contains-nil v has), λ span. absurd (Contains-nil (record { time = v.from; write = Some v.value }) span.written))
versions-are_spans {V} s (w ∷ ws) v up =
    let rest = versions-are_spans w.time ws v up.2 in
    let To : Option V → Type 0 = λ o. w.write ≡ o → Contains (version_of w.time (first_time ws) o ++ versions ws) v → IsSpan (IsIn (w ∷ ws)) v in
    let to : (o : Option V) → To o = λ o. elim o as To [
      | None ↦ λ e has. span-more w ws v up.2 (rest.0 has)
      | Some value ↦ λ e has.
          ⊎_elim
          (λ (is : record { from = w.time; to = first_time ws; value = value }
          ≡ v). subst (λ (x : Version V). IsSpan (IsIn (w ∷ ws)) x) is (first-span s w ws value up e))
          (λ (more : Contains (versions ws) v). span-more w ws v up.2 (rest.0 more))
          (Contains-cons_cases (record { from = w.time; to = first_time ws; value = value }) (versions ws) v has)
    ] in
    let From : Option V → Type 0 = λ o. w.write ≡ o → IsSpan (IsIn (w ∷ ws)) v → Contains (version_of w.time (first_time ws) o ++ versions ws) v in
    let behind : (o : Option V) → Contains (versions ws) v → Contains (version_of w.time (first_time ws) o ++ versions ws) v =
    λ o has. Contains-append_right (version_of w.time (first_time ws) o) (versions ws) v has in
    let from : (o : Option V) → From o = λ o e span.
    ⊎_elim
    (λ (is : w ≡ record { time = v.from; write = Some v.value }).
    let at : w.time ≡ v.from = ap (λ (x : TimedWrite V). x.time) is in
    let value : o ≡ Some v.value = sym e ∙ ap (λ (x : TimedWrite V). x.write) is in
    let ends : v.to ≡ first_time ws = first-end s w ws v up at span in
    let same : record { from = w.time; to = first_time ws; value = v.value } ≡ v =
    ap (λ (f : ℕ). record { from = f; to = first_time ws; value = v.value }) at
    ∙ ap (λ (t : ℕ). record { from = v.from; to = t; value = v.value }) (sym ends) in
    subst (λ (p : Option V). Contains (version_of w.time (first_time ws) p
    ++ versions ws) v) (sym value) (Contains-head (record { from = w.time; to = first_time ws; value = v.value }) (versions ws) v same))
    (λ (more : IsIn ws v.from (Some v.value)). behind o (rest.1 (span-less w ws v up.2 more span)))
    (Contains-cons_cases w ws (record { time = v.from; write = Some v.value }) span.written) in
    (to w.write refl, from w.write refl)

-- a span by other facts that are the same
pub span-same : {V : Type 0} (P Q : ℕ → Option V → Type 0) (v : Version V) → ((time : ℕ) (write : Option V) → P time write ↔ Q time write) → IsSpan P v
    → IsSpan Q v
span-same {V} P Q v same span = record {
  written = (same v.from (Some v.value)).0 span.written;
  later = span.later;
  ended = ⊎_elim (λ (endless : v.to ≡ 2 ^ 63). inl endless) (λ (at : (write : Option V) × P v.to write). inr (at.0, (same v.to at.0).0 at.1)) span.ended;
  next = λ time write has after. span.next time write ((same time write).1 has) after;
}

-- ---- rows

rows-filter : {V : Type 0} (vs : List (Version V)) (a b : ℕ) (row : Version V) → Contains (map (cut a b) vs) row
    ↔ ((v : Version V) × Contains vs v × (row ≡ cut a b v))
rows-filter [] a b row = (λ has. absurd (Contains-nil row has), λ some. absurd (Contains-nil some.0 some.1))
rows-filter {V} (v ∷ vs) a b row =
    let rest = rows-filter vs a b row in (
      λ has.
          ⊎_elim
          (λ (is : cut a b v ≡ row). (v, Contains-head v vs v refl, sym is))
          (λ (more : Contains (map (cut a b) vs) row). let r = rest.0 more in (r.0, Contains-tail v vs r.0 r.1, r.2))
          (Contains-cons_cases (cut a b v) (map (cut a b) vs) row has),
      λ some.
          ⊎_elim
          (λ (is : v ≡ some.0). Contains-head (cut a b v) (map (cut a b) vs) row (ap (cut a b) is ∙ sym some.2))
          (λ (more : Contains vs some.0). Contains-tail (cut a b v) (map (cut a b) vs) row (rest.1 (some.0, more, some.2)))
          (Contains-cons_cases v vs some.0 some.1),
    )

lasting : {V : Type 0} (row : Version V) → lasts row ≡ true → row.from < row.to
lasting row e = grind (arith, nat_tests)

pub rows-are : {V : Type 0} (vs : List (Version V)) (a b : ℕ) (row : Version V) → Contains (rows vs a b) row ↔ IsRow (Contains vs) a b row
rows-are {V} vs a b row = (
  λ has.
      let found = filter-Contains lasts (map (cut a b) vs) row has in
      let of = (rows-filter vs a b row).0 found.0 in
      record { version = of.0; is_in = of.1; part = of.2; lasts = lasting row found.1 },
  λ is. Contains-filter lasts (map (cut a b) vs) row ((rows-filter vs a b row).1 (is.version, is.is_in, is.part)) (is_lt is.lasts),
)
