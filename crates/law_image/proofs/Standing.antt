-- What follows from standing for a history: the marks are in order, and the facts of each key rise.
use Rattle.std.proofs.Common.{◌≡◌, ℕ, ◌<◌, ◌≤◌, ◌^◌, nat_lt, true, false, [], ◌∷◌, map, refl, ap, sym, subst, ◌∙◌, arith, ⊎_elim}
use Rattle.std.proofs.lemmas.Bool.{cases_lt}
use Rattle.history.specs.declared.key.Key.{Key}
use Rattle.history.specs.Time.{IsRisingAfter}
use Rattle.history.specs.Histories.{History, last_after, last, writes_of, HasRisingTimes, commits_after}
use Rattle.history.proofs.Orders.{is_lt, not_lt}
use Rattle.history.proofs.Histories.{writes_of-rising, rising-from_following, commits_after-all, last_after-range}
use Rattle.law_image.specs.Values.{Value, IsValue}
use Rattle.law_image.specs.Reading.{Reading}
use Rattle.law_image.specs.Log.{last_time_after, last_time, AreRisingAfter}
use Rattle.law_image.specs.Facts.{heap_commits, heap_facts}
use Rattle.law_image.specs.StandsFor.{StandsFor, head_of, reclaimed_upto, archived_upto}
use Rattle.law_image.proofs.Logs.{AreMarked}
use Rattle.law_image.proofs.Forms.{marked-form}
use Rattle.law_image.proofs.FactsOf.{old_writes-rising}

pub last_time-heads : (t : ℕ) (h : History Value) → last_time_after t (map head_of h) ≡ last_after t h
last_time-heads t [] = refl
last_time-heads t (c ∷ cs) = last_time-heads c.time cs

pub heads-rising : (t : ℕ) (h : History Value) → HasRisingTimes t h → AreRisingAfter t (map head_of h)
heads-rising t [] up = tt
heads-rising t (c ∷ cs) up = (up.0, up.1, heads-rising c.time cs up.2)

-- the commits after a mark rise after it
pub rising-commits_after : (t mark : ℕ) (h : History Value) → HasRisingTimes t h → HasRisingTimes mark (commits_after mark h)
rising-commits_after t mark [] up = tt
rising-commits_after t mark (c ∷ cs) up =
    ⊎_elim
    (λ (later : mark < c.time).
    let late : nat_lt mark c.time ≡ true = is_lt later in
    rw (late, commits_after-all mark c.time cs (omega arith) up.2) (later, up.1, up.2))
    (λ (early : c.time ≤ mark).
    let gone : nat_lt mark c.time ≡ false = not_lt early in
    rw gone (rising-commits_after c.time mark cs up.2))
    (cases_lt mark c.time)

module _ (reading : Reading) (h : History Value) (floors : ℕ → ℕ) (stands : StandsFor reading h floors) where
  pub marked : AreMarked reading.log
  marked = marked-form reading stands.opens.reads.form

  pub rises : HasRisingTimes 0 h
  rises = rising-from_following IsValue [] h stands.opens.history

  pub last-is : last_time reading.log ≡ last h
  last-is = ap (last_time_after 0) stands.opens.commits ∙ last_time-heads 0 h

  pub floor-range : (relation : ℕ) → floors relation ≤ last h
  floor-range relation = omega (arith, sym (stands.opens.floors_given relation), (marked).floors relation, last-is)

  pub archived-range : archived_upto reading ≤ last h
  archived-range = omega (arith, (marked).archived, last-is)

  pub last-range : last h < 2 ^ 63
  last-range = last_after-range 0 h (omega arith) rises

  pub recent-rise : HasRisingTimes (reclaimed_upto reading) (heap_commits reading)
  recent-rise = subst (HasRisingTimes (reclaimed_upto reading)) (sym stands.opens.write_sets) (rising-commits_after 0 (reclaimed_upto reading) h rises)

  pub facts-rise : (key : Key) → IsRisingAfter 0 (heap_facts reading key)
  facts-rise key =
      old_writes-rising (reclaimed_upto reading) reading.anchors key (writes_of (heap_commits reading) key)
      (omega (arith, stands.homes.marks, archived-range, last-range)) stands.opens.reads.anchors stands.opens.reads.anchor_times
      (writes_of-rising (reclaimed_upto reading) (heap_commits reading) key recent-rise)
