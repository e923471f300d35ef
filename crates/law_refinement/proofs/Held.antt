-- What memory has of a history answers as the history does, from the reclaim mark and the floor on.
use Rattle.std.proofs.Common.{◌≡◌, ℕ, ◌<◌, ◌≤◌, ◌^◌, nat_le, nat_lt, Bool, true, false, List, [], ◌∷◌, ◌++◌, Option, Some, None, refl, arith, ap, sym, subst}
use Rattle.std.proofs.Common.{◌∙◌, append_assoc, ⊎_elim, cond}
use Rattle.std.specs.Prelude.{filter}
use Rattle.std.specs.List.{AllByRecursion}
use Rattle.std.proofs.lemmas.Bool.{cases_lt}
use Rattle.std.proofs.lemmas.List.Elements.{filter-append}
use Rattle.history.specs.declared.key.Key.{Key}
use Rattle.history.specs.declared.time.TimedWrite.{TimedWrite}
use Rattle.history.specs.Key.{write_in}
use Rattle.history.specs.Time.{IsRisingAfter, value_at, value_after, writes_after}
use Rattle.history.specs.Versions.{versions, ends_after, ends_by, rows}
use Rattle.history.specs.Histories as histories
use Rattle.history.specs.Histories.{Commit, History, HasRisingTimes, last, last_after, state, versions_of, between}
use Rattle.history.specs.Homes.{AreAtHome}
use Rattle.history.proofs.Orders.{not_lt, is_le}
use Rattle.history.proofs.Values.{standing_at-versions, writes_after-all, rising_earlier}
use Rattle.history.proofs.Histories.{writes_of-append, writes_of-rising, last_after-range, last_after-append}
use Rattle.history.proofs.Runs.{last-later}
use Rattle.history.proofs.Views.{at-recent, between-recent}
use Rattle.law_image.specs.Values.{Value}
use Rattle.law_image.specs.Facts.{latest}
use Rattle.law_image.proofs.GroupStep.{versions-more}
use Rattle.chains.specs.KeyWrites.{KeyWrites, writes_of, IsOrdered}
use Rattle.chains.specs.Writes.{last_time, last_time_after, written}
use Rattle.law_refinement.specs.Standing.{HasWrites}

-- ---- lists of writes

abbrev pub Writes : Type 0
Writes = List (TimedWrite Value)

last-of-both : (t : ℕ) (xs ys : Writes) → last_time_after t (xs ++ ys) ≡ last_time_after (last_time_after t xs) ys
last-of-both t [] ys = refl
last-of-both t (x ∷ xs) ys = last-of-both x.time xs ys

pub rising-both : (t : ℕ) (xs ys : Writes) → IsRisingAfter t xs → IsRisingAfter (last_time_after t xs) ys → IsRisingAfter t (xs ++ ys)
rising-both t [] ys up later = later
rising-both t (x ∷ xs) ys up later = (up.0, up.1, rising-both x.time xs ys up.2 later)

after-rising : (mark t : ℕ) (ws : Writes) → IsRisingAfter t ws → IsRisingAfter mark (writes_after mark ws)
after-rising mark t [] up = tt
after-rising mark t (w ∷ ws) up = ⊎_elim
    (λ (later : mark < w.time). subst (λ (l : Writes). IsRisingAfter mark l) (sym (writes_after-all mark (w ∷ ws) (later, up.1, up.2))) (later, up.1, up.2))
    (λ (earlier : w.time ≤ mark). let dropped : nat_lt mark w.time ≡ false = not_lt earlier in rw dropped (after-rising mark w.time ws up.2))
    (cases_lt mark w.time)

abbrev AllUpto : ℕ → Writes → Type 0
AllUpto n ws = AllByRecursion (λ (w : TimedWrite Value). w.time ≤ n) ws

after-upto : (n mark : ℕ) (ws : Writes) → AllUpto n ws → AllUpto n (writes_after mark ws)
after-upto n mark [] upto = tt
after-upto n mark (w ∷ ws) upto = elim (nat_lt mark w.time) as (λ (b : Bool). AllUpto n (cond b (w ∷ writes_after mark ws) (writes_after mark ws))) [
  | true ↦ (upto.0, after-upto n mark ws upto.1)
  | false ↦ after-upto n mark ws upto.1
]

last-upto : (n t : ℕ) (ws : Writes) → t ≤ n → AllUpto n ws → last_time_after t ws ≤ n
last-upto n t [] low upto = low
last-upto n t (w ∷ ws) low upto = last-upto n w.time ws upto.0 upto.1

-- each write of a rising list is made by the time of the last one
upto-last : (t : ℕ) (ws : Writes) → IsRisingAfter t ws → (t ≤ last_time_after t ws) × AllUpto (last_time_after t ws) ws
upto-last t [] up = (omega arith, tt)
upto-last t (w ∷ ws) up = let rest = upto-last w.time ws up.2 in let low = rest.0 in let first = up.0 in (omega arith, (low, rest.1))

-- from the time of the last write on, a key's value stays
value-stays : (before : Option Value) (n t : ℕ) (ws : Writes) → n ≤ t → AllUpto n ws → value_after before ws n ≡ value_after before ws t
value-stays before n t [] low upto = refl
value-stays before n t (w ∷ ws) low upto =
    let first : w.time ≤ n = upto.0 in
    let here : nat_le w.time n ≡ true = is_le first in
    let there : nat_le w.time t ≡ true = is_le (omega arith) in
    rw (here, there) (value-stays w.write n t ws low upto.1)

-- the writes of a history are made by its last commit
written-by : (t s : ℕ) (h : History Value) (key : Key) → HasRisingTimes s h → s ≤ t → last_after s h ≤ t → AllUpto t (histories.writes_of h key)
written-by t s [] key up low high = tt
written-by t s (c ∷ cs) key up low high =
    let first : c.time ≤ t = let later = from-first c.time cs up.2 in omega arith in
    by-write (write_in c.writes key) refl first (written-by t c.time cs key up.2 first high)
  where
    from-first : (b : ℕ) (ds : History Value) → HasRisingTimes b ds → b ≤ last_after b ds
    from-first b [] up = omega arith
    from-first b (d ∷ ds) up = let rest = from-first d.time ds up.2 in let one = up.0 in omega arith

    by-write : (o : Option (Option Value)) → write_in c.writes key ≡ o → c.time ≤ t → AllUpto t (histories.writes_of cs key)
        → AllUpto t (histories.writes_of (c ∷ cs) key)
    by-write None none first rest = rw none rest
    by-write (Some w) some first rest = rw some (first, rest)

-- whether the last write is later than a time does not change with writes up to that time
later-same : (s mark a b : ℕ) (ws : Writes) → IsRisingAfter b ws → mark ≤ s → a ≤ s → b ≤ s → nat_lt s (last_time_after a (writes_after mark ws))
    ≡ nat_lt s (last_time_after b ws)
later-same s mark a b [] up low la lb = not_lt la ∙ sym (not_lt lb)
later-same s mark a b (w ∷ ws) up low la lb = ⊎_elim
    (λ (later : mark < w.time). ap (λ (l : Writes). nat_lt s (last_time_after a l)) (writes_after-all mark (w ∷ ws) (later, up.1, up.2)))
    (λ (earlier : w.time ≤ mark). let dropped : nat_lt mark w.time ≡ false =
    not_lt earlier in rw dropped (later-same s mark a w.time ws up.2 low la (omega arith)))
    (cases_lt mark w.time)

-- a commit's write of a key
pub written-is : (c : Commit Value) (key : Key) → written c.time c.writes key ≡ histories.writes_of (c ∷ []) key
written-is c key = by-write (write_in c.writes key) refl
  where
    by-write : (o : Option (Option Value)) → write_in c.writes key ≡ o → written c.time c.writes key ≡ histories.writes_of (c ∷ []) key
    by-write None none = rw none refl
    by-write (Some w) some = rw some refl

-- ---- one history

module _ {floors : ℕ → ℕ} {reclaimed : ℕ} {versions-in : List KeyWrites} {h : History Value} (has : HasWrites floors reclaimed versions-in h)
    (up : HasRisingTimes 0 h) where
  all-written : (key : Key) → AllUpto (last h) (histories.writes_of h key)
  all-written key = written-by (last h) 0 h key up (omega arith) (omega arith)

  pub rising-held : (key : Key) → IsRisingAfter 0 (writes_of versions-in key)
  rising-held key =
      let early = has.early key in
      subst (λ (l : Writes). IsRisingAfter 0 l) (sym (has.writes key))
      (rising-both 0 (has.before key) (writes_after reclaimed (histories.writes_of h key)) (has.rising key)
      (rising_earlier (last_time (has.before key)) reclaimed (writes_after reclaimed (histories.writes_of h key)) early
      (after-rising reclaimed 0 (histories.writes_of h key) (writes_of-rising 0 h key up))))

  pub last-held : (key : Key) → last_time (writes_of versions-in key) ≤ last h
  last-held key =
      let early = has.early key in
      let marked = has.marked in
      let upto : last_time_after (last_time (has.before key)) (writes_after reclaimed (histories.writes_of h key)) ≤ last h =
      last-upto (last h) (last_time (has.before key)) (writes_after reclaimed (histories.writes_of h key)) (omega arith)
      (after-upto (last h) reclaimed (histories.writes_of h key) (all-written key)) in
      subst (λ (n : ℕ). n ≤ last h) (sym (ap (λ (l : Writes). last_time l) (has.writes key)
      ∙ last-of-both 0 (has.before key) (writes_after reclaimed (histories.writes_of h key)))) upto

  -- it is at home in the heap, with the rest of the history in an archive of its own
  homes-held : AreAtHome h floors reclaimed reclaimed (λ key. versions (writes_of versions-in key)) (λ key. filter (ends_by reclaimed) (versions_of h key))
  homes-held = record { marks = omega arith; in_heap = has.at_home; in_archive = λ key. refl }

  pub state-held : (key : Key) (time : ℕ) → floors key.relation ≤ time → reclaimed ≤ time → time < 2 ^ 63 → value_at (writes_of versions-in key) time
      ≡ state h time key
  state-held key time from recent before =
      sym (standing_at-versions 0 time (writes_of versions-in key) before (rising-held key))
      ∙ at-recent h floors reclaimed reclaimed (λ k. versions (writes_of versions-in k)) (λ k. filter (ends_by reclaimed) (versions_of h k)) homes-held up key
      time from recent before

  pub rows-held : (key : Key) (a b : ℕ) → floors key.relation ≤ a → reclaimed ≤ a → rows (versions (writes_of versions-in key)) a b ≡ between h key a b
  rows-held key a b from recent =
      between-recent h floors reclaimed reclaimed (λ k. versions (writes_of versions-in k)) (λ k. filter (ends_by reclaimed) (versions_of h k)) homes-held up
      key a b from recent

  -- the last value of a key
  pub latest-held : (key : Key) → floors key.relation ≤ last h → latest (writes_of versions-in key) ≡ latest (histories.writes_of h key)
  latest-held key reached =
      let range : last h < 2 ^ 63 = last_after-range 0 h (omega arith) up in
      let upto = upto-last 0 (writes_of versions-in key) (rising-held key) in
      let low = last-held key in
      sym (value-stays None (last h) (2 ^ 63) (writes_of versions-in key) (omega arith)
      (earlier-upto (last_time (writes_of versions-in key)) (last h) (writes_of versions-in key) low upto.1))
      ∙ state-held key (last h) reached has.marked range
      ∙ value-stays None (last h) (2 ^ 63) (histories.writes_of h key) (omega arith) (all-written key)
    where
      earlier-upto : (n m : ℕ) (ws : Writes) → n ≤ m → AllUpto n ws → AllUpto m ws
      earlier-upto n m [] low upto = tt
      earlier-upto n m (w ∷ ws) low upto = (let first = upto.0 in omega arith, earlier-upto n m ws low upto.1)

  -- whether a key was written after a time from the mark on
  pub later-held : (key : Key) (time : ℕ) → reclaimed ≤ time → nat_lt time (last_time (writes_of versions-in key))
      ≡ nat_lt time (last_time (histories.writes_of h key))
  later-held key time recent =
      let early = has.early key in
      ap (λ (l : Writes). nat_lt time (last_time l)) (has.writes key)
      ∙ ap (λ (n : ℕ). nat_lt time n) (last-of-both 0 (has.before key) (writes_after reclaimed (histories.writes_of h key)))
      ∙ later-same time reclaimed (last_time (has.before key)) 0 (histories.writes_of h key) (writes_of-rising 0 h key up) recent (omega arith) (omega arith)

  -- ---- commits more

  pub many-more : (after : List KeyWrites) (next : History Value) → ((relation : ℕ) → floors relation ≤ last h) → HasRisingTimes (last h) next → IsOrdered after
      → ((key : Key) → writes_of after key ≡ writes_of versions-in key ++ histories.writes_of next key) → HasWrites floors reclaimed after (h ++ next)
  many-more after next reached later ordered is = record {
    ordered = ordered;
    marked = let low = has.marked in let more = last-later (last h) next later in let whole = last_after-append 0 h next in omega arith;
    before = has.before;
    rising = has.rising;
    early = has.early;
    writes = λ key.
        is key
        ∙ ap (λ (l : Writes). l ++ histories.writes_of next key) (has.writes key)
        ∙ append_assoc (has.before key) (writes_after reclaimed (histories.writes_of h key)) (histories.writes_of next key)
        ∙ ap (λ (l : Writes). has.before key ++ l)
        (ap (λ (l : Writes). writes_after reclaimed (histories.writes_of h key) ++ l) (sym (kept key))
        ∙ sym (filter-append (λ (w : TimedWrite Value). nat_lt reclaimed w.time) (histories.writes_of h key) (histories.writes_of next key))
        ∙ ap (λ (l : Writes). writes_after reclaimed l) (sym (writes_of-append h next key)));
    at_home = λ key.
        ap (λ (l : Writes). filter (ends_after (floors key.relation)) (versions l)) (is key)
        ∙ versions-more (floors key.relation) reclaimed (last h) (writes_of versions-in key) (histories.writes_of h key) (histories.writes_of next key)
        (reached key.relation) has.marked
        (last_after-range 0 h (omega arith) up) (rising-held key) (writes_of-rising 0 h key up) (writes_of-rising (last h) next key later) (has.at_home key)
        ∙ ap (λ (l : Writes). filter (ends_after (floors key.relation)) (filter (ends_after reclaimed) (versions l))) (sym (writes_of-append h next key));
  }
    where
      kept : (key : Key) → writes_after reclaimed (histories.writes_of next key) ≡ histories.writes_of next key
      kept key =
          let marked = has.marked in
          writes_after-all reclaimed (histories.writes_of next key)
          (rising_earlier reclaimed (last h) (histories.writes_of next key) marked (writes_of-rising (last h) next key later))

-- ---- where nothing is reclaimed

none-before : (ws : Writes) → IsRisingAfter 0 ws → last_time ws ≤ 0 → ws ≡ []
none-before [] up low = refl
none-before (w ∷ ws) up low = let first = (upto-last w.time ws up.2).0 in let later = up.0 in absurd (omega arith)

pub whole : {floors : ℕ → ℕ} {reclaimed : ℕ} {versions-in : List KeyWrites} {h : History Value} → HasWrites floors reclaimed versions-in h → HasRisingTimes 0 h
    → reclaimed ≡ 0 → (key : Key) → writes_of versions-in key ≡ histories.writes_of h key
whole {floors} {reclaimed} {versions-in} {h} has up none key =
    let early = has.early key in
    has.writes key
    ∙ ap (λ (l : Writes). l ++ writes_after reclaimed (histories.writes_of h key)) (none-before (has.before key) (has.rising key) (omega (arith, early, none)))
    ∙ ap (λ (n : ℕ). writes_after n (histories.writes_of h key)) none
    ∙ writes_after-all 0 (histories.writes_of h key) (writes_of-rising 0 h key up)
