-- What stands next in a walk over archive records, and what behind it.
use Rattle.std.proofs.Common.{◌≡◌, ℕ, ◌<◌, ◌≤◌, max, nat_le, nat_lt, Bool, true, false, cond, List, [], ◌∷◌, ◌++◌, length, drop, Option, Some, None, refl, ap}
use Rattle.std.proofs.Common.{sym, subst, ◌∙◌, arith, append_assoc}
use Rattle.std.specs.Prelude.{find, option_map}
use Rattle.std.specs.Option.{is_some}
use Rattle.std.specs.List.{slice_get}
use Rattle.history.specs.declared.key.Key.{Key}
use Rattle.history.specs.declared.time.Version.{Version}
use Rattle.history.specs.Time.{IsRisingAfter}
use Rattle.history.specs.Versions.{first_time, versions, ends_after, FollowOneAnotherFrom}
use Rattle.history.proofs.Orders.{is_lt, not_lt}
use Rattle.history.proofs.Values.{versions-apart}
use Rattle.chains.specs.declared.bound.Bound.TheVariants.{From}
use Rattle.chains.specs.Bounds.{is_in}
use Rattle.chains.specs.Found.{IsPartFrom}
use Rattle.chains.specs.KeyWrites.{KeyWrites}
use Rattle.chains.specs.Writes.{Value}
use Rattle.archive.specs.declared.head.Head.{Head}
use Rattle.archive.specs.Answers.{head_of}
use Rattle.law_image.specs.PlansMade.{archive_record}
use Rattle.law_image.specs.Reading.{ArchiveRecord}
use Rattle.vacuum.specs.declared.ahead.Ahead.{Ahead}
use Rattle.vacuum.specs.declared.archive_walk.Place.{Place}
use Rattle.vacuum.specs.declared.archive_walk.Since.{Since}
use Rattle.vacuum.specs.Ahead.{first_record, IsNext, IsAhead, IsBehind, HasMoved}
use Rattle.vacuum.specs.Archives.{since_of, key_records, records_at}
use Rattle.vacuum.proofs.Firsts.{was-le, was-gt, found-after, records-late, records-next}
use Rattle.vacuum.proofs.Keys.{first-from, found-rises}
use Rattle.vacuum.proofs.Records.{next-is}

-- the first of some versions
pub shown-first : (key : Key) (upto : ℕ) (ps : List (Version Value)) → is_some (first_record key upto ps) ≡ true → (v : Version Value)
    × (slice_get ps 0 ≡ Some v) × (v.to ≤ upto) × (first_record key upto ps ≡ Some (archive_record key v))
shown-first key upto [] full = absurd (cc)
shown-first key upto (v ∷ vs) full =
    let Shown : Bool → Type 0 =
    λ b. (x : Version Value) × (Some v ≡ Some x) × (x.to ≤ upto) × (cond b (Some (archive_record key v)) None ≡ Some (archive_record key x)) in
    let Goal : Bool → Type 0 = λ b. nat_le v.to upto ≡ b → is_some (cond b (Some (archive_record key v)) None) ≡ true → Shown b in
    let all : (b : Bool) → Goal b = λ b. elim b as Goal [
      | true ↦ λ e h. (v, refl, was-le e, refl)
      | false ↦ λ e h. absurd (cc)
    ] in
    all (nat_le v.to upto) refl full

module _ (passed upto : ℕ) (c : KeyWrites) (rising : IsRisingAfter 0 c.writes) where
  -- a key has no record where its next version has not ended
  pub none-ahead : (key : Key) (ps : List (Version Value)) → IsPartFrom passed (versions c.writes) ps → is_some (first_record key upto ps) ≡ false
      → key_records passed upto c ≡ []
  none-ahead key [] part empty = absurd (omega (arith, part.some))
  none-ahead key (v ∷ vs) part empty =
      let Goal : Bool → Type 0 = λ b. nat_le v.to upto ≡ b → is_some (cond b (Some (archive_record key v)) None) ≡ false → key_records passed upto c ≡ [] in
      let all : (b : Bool) → Goal b = λ b. elim b as Goal [
        | true ↦ λ e h. absurd (cc)
        | false ↦ λ e h. records-late passed upto c rising v (sym part.first) (was-gt e)
      ] in
      all (nat_le v.to upto) refl empty

  -- else that version has the next one
  pub next-ahead : (key : Key) (ps : List (Version Value)) → key ≡ c.key → IsPartFrom passed (versions c.writes) ps → is_some (first_record key upto ps) ≡ true
      → (r : ArchiveRecord) × (rs : List ArchiveRecord) × (key_records passed upto c ≡ r ∷ rs) × (first_record key upto ps ≡ Some r)
  next-ahead key ps own part full =
      let shown = shown-first key upto ps full in
      let v = shown.0 in
      let next = records-next passed upto c rising v (sym part.first ∙ shown.1) shown.2 in
      (archive_record c.key v, key_records v.to upto c, next, shown.3 ∙ ap (λ (k : Key). Some (archive_record k v)) own)

-- what is ahead has the first record that is left
pub first-left : (since : Since) (upto : ℕ) (place : Place) (m : List KeyWrites) (a : Ahead) → IsNext since upto place m a → first_record a.key upto a.part
    ≡ slice_get (records_at since upto place m) 0
first-left since upto place m a next =
    let c = next.chain in
    let low : ℕ = max place.passed (since_of since c.key.relation) in
    let rises = found-rises (λ (x : KeyWrites). is_in place.bound x.key) m c next.rising next.found in
    let is = next-ahead low upto c rises a.key a.part next.ahead.key next.ahead.part next.ahead.ended in
    let some : 0 < length (key_records low upto c) = omega (arith, ap length is.2) in
    is.3 ∙ sym (next-is since upto m place c next.ordered next.found some ∙ ap (λ (rs : List ArchiveRecord). slice_get rs 0) is.2)

-- ---- one version farther

ends-low : (s : ℕ) (xs : List (Version Value)) (u : Version Value) (ys : List (Version Value)) → FollowOneAnotherFrom s (xs ++ u ∷ ys) → s ≤ u.to
ends-low s [] u ys apart = omega (arith, apart.0, apart.1)
ends-low s (x ∷ xs) u ys apart = let rest = ends-low x.to xs u ys apart.2 in omega (arith, apart.0, apart.1)

-- the first version that ends after another is the next one
next-after : (s : ℕ) (xs : List (Version Value)) (u w : Version Value) (ys : List (Version Value)) → FollowOneAnotherFrom s (xs ++ u ∷ w ∷ ys)
    → find (ends_after u.to) (xs ++ u ∷ w ∷ ys) ≡ Some w
next-after s [] u w ys apart =
    let past : nat_lt u.to u.to ≡ false = not_lt (omega arith) in
    let later : nat_lt u.to w.to ≡ true = is_lt (omega (arith, apart.2.0, apart.2.1)) in
    rw (past, later) refl
next-after s (x ∷ xs) u w ys apart =
    let past : nat_lt u.to x.to ≡ false = not_lt (ends-low x.to xs u (w ∷ ys) apart.2) in
    rw past (next-after x.to xs u w ys apart.2)

part-behind : (passed s : ℕ) (vs ps : List (Version Value)) (v : Version Value) → FollowOneAnotherFrom s vs → IsPartFrom passed vs ps → slice_get ps 0 ≡ Some v
    → 0 < length (drop 1 ps) → IsPartFrom v.to vs (drop 1 ps)
part-behind passed s vs [] v apart part first some = absurd (omega arith)
part-behind passed s vs (u ∷ []) v apart part first some = absurd (omega arith)
part-behind passed s vs (u ∷ w ∷ ws) v apart part first some =
    let same : u ≡ v = cc in
    let found : find (ends_after u.to) vs ≡ Some w =
    rw part.among (next-after s part.before u w (ws ++ part.behind) (subst (FollowOneAnotherFrom s) part.among apart)) in
    record {
      before = part.before ++ u ∷ [];
      behind = part.behind;
      among = part.among ∙ sym (append_assoc part.before (u ∷ []) ((w ∷ ws) ++ part.behind));
      first = sym (subst (λ (x : Version Value). find (ends_after x.to) vs ≡ Some w) same found);
      some = omega arith;
    }

full-some : (key : Key) (upto : ℕ) (ps : List (Version Value)) → is_some (first_record key upto ps) ≡ true → 0 < length ps
full-some key upto [] full = absurd (cc)
full-some key upto (v ∷ vs) full = omega arith

-- behind the first record that is left
pub moved : (since : Since) (upto : ℕ) (place : Place) (m : List KeyWrites) (old new : Ahead) (head : Head) → IsNext since upto place m old
    → option_map head_of (slice_get (records_at since upto place m) 0) ≡ Some head → IsBehind upto old new
    → IsNext since upto (record { bound = From head.key; passed = head.to }) m new
moved since upto place m old new head next is behind =
    let c = next.chain in
    let floor : ℕ = since_of since c.key.relation in
    let low : ℕ = max place.passed floor in
    let rises = found-rises (λ (x : KeyWrites). is_in place.bound x.key) m c next.rising next.found in
    let shown = shown-first old.key upto old.part next.ahead.ended in
    let v = shown.0 in
    let same : Some (head_of (archive_record old.key v)) ≡ Some head =
    ap (λ (o : Option ArchiveRecord). option_map head_of o) (sym shown.3 ∙ first-left since upto place m old next) ∙ is in
    let one : head_of (archive_record old.key v) ≡ head = cc in
    let key : c.key ≡ head.key = sym next.ahead.key ∙ ap (λ (h : Head). h.key) one in
    let left : 0 < length (drop 1 old.part) = subst (λ (ps : List (Version Value)). 0 < length ps) behind.part (full-some new.key upto new.part behind.ended) in
    let part : IsPartFrom v.to (versions c.writes) (drop 1 old.part) =
    part-behind low (first_time c.writes) (versions c.writes) old.part v (versions-apart 0 c.writes rises) next.ahead.part shown.1 left in
    let later : low < v.to = found-after low (versions c.writes) v (sym next.ahead.part.first ∙ shown.1) in
    let last : v.to ≡ max v.to floor = omega (arith, later) in
    let ended : v.to ≡ max head.to floor = last ∙ ap (λ (h : Head). max h.to floor) one in
    record {
      ordered = next.ordered;
      rising = next.rising;
      chain = c;
      found = subst (λ (k : Key). find (λ (x : KeyWrites). is_in (From k) x.key) m ≡ Some c) key (first-from place.bound m c next.ordered next.found);
      ahead = record {
        key = behind.key ∙ next.ahead.key;
        part = subst (λ (ps : List (Version Value)). IsPartFrom (max head.to floor) (versions c.writes) ps) (sym behind.part)
            (subst (λ (t : ℕ). IsPartFrom t (versions c.writes) (drop 1 old.part)) ended part);
        ended = behind.ended;
      };
    }

-- the same, where nothing may be ahead
pub moved-ahead : (since : Since) (upto : ℕ) (place behind : Place) (m : List KeyWrites) (old new : Option Ahead) (head : Head) → behind
    ≡ record { bound = From head.key; passed = head.to } → IsAhead since upto place m old
    → option_map head_of (slice_get (records_at since upto place m) 0) ≡ Some head → HasMoved upto old new → IsAhead since upto behind m new
moved-ahead since upto place behind m None new head place_is ahead is has = absurd has
moved-ahead since upto place behind m (Some a) None head place_is ahead is has = absurd has
moved-ahead since upto place behind m (Some a) (Some b) head place_is ahead is has =
    subst (λ (p : Place). IsNext since upto p m b) (sym place_is) (moved since upto place m a b head ahead is has)

-- a test of what shows one
pub shows-none : {T X : Type 0} (f : T → X) (o : Option T) (x : Option X) → is_some o ≡ false → option_map f o ≡ x → is_some x ≡ false
shows-none f None x none e = subst (λ y. is_some y ≡ false) e refl
shows-none f (Some t) x none e = absurd (cc)
