-- Conflicts in memory are those of the commit order.
use Rattle.std.proofs.Common.{◌≡◌, ℕ, ◌≤◌, ◌&&◌, ◌||◌, nat_lt, Bool, true, false, cond, List, [], ◌∷◌, ◌++◌, take, find, Option, None, Some, refl, arith, ap}
use Rattle.std.proofs.Common.{sym, subst, ◌∙◌}
use Rattle.std.proofs.lemmas.Bool.Decides.{nat_tests}
use Rattle.history.specs.declared.key.Key.{Key}
use Rattle.history.specs.Key.{write_in}
use Rattle.history.specs.Histories as histories
use Rattle.history.specs.Histories.{History, HasRisingTimes, last, last_after}
use Rattle.history.specs.declared.time.TimedWrite.{TimedWrite}
use Rattle.history.specs.Conflicts.{is_written_after, first_conflict}
use Rattle.history.specs.Machine.{Machine}
use Rattle.law_image.specs.Values.{Value}
use Rattle.chains.specs.KeyWrites.{KeyWrites, writes_of, IsOrdered, forgotten}
use Rattle.chains.specs.Writes.{last_time, last_time_after}
use Rattle.chains.proofs.Order.{ordered-forgotten}
use Rattle.chains.proofs.Versions.{writes_of-forgotten}
use Rattle.group.specs.Queued.{QueuedValue}
use Rattle.group.specs.Values.{TransactionsValue, versions_after, mark_after, is_turning}
use Rattle.law_refinement.specs.Standing.{HasWrites, HasForgotten, AllWait, StandsInMemory}
use Rattle.law_refinement.proofs.KeptWrites.{later-kept}
use Rattle.law_refinement.proofs.Held.{later-held, many-more}
use Rattle.law_refinement.proofs.Packed.{wait-front}
use Rattle.law_refinement.proofs.Waiting.{AreRising, kept-behind, ordered-behind, forgot-behind}

-- the last write of a key is later than a time exactly where a commit later than it wrote the key
later-written : (s before : ℕ) (h : History Value) (key : Key) → HasRisingTimes before h → nat_lt s (last_time_after before (histories.writes_of h key))
    ≡ (nat_lt s before || is_written_after h s key)
later-written s before [] key rising = elim (nat_lt s before) as (λ b. b ≡ (b || false)) [ true ↦ refl | false ↦ refl ]
later-written s before (c ∷ cs) key rising =
    by-write (write_in c.writes key) refl (λ up. later-written s before cs key up) (later-written s c.time cs key rising.2)
  where
    lower : (t : ℕ) (h : History Value) → before ≤ t → HasRisingTimes t h → HasRisingTimes before h
    lower t [] le up = tt
    lower t (d ∷ ds) le up = (omega (arith, up.0), up.1, up.2)

    late : (b d r : Bool) → (b ≡ true → d ≡ true) → (d || r) ≡ (b || ((d && true) || r))
    late true true r then = refl
    late true false r then = absurd (let is = then refl in cc)
    late false true r then = refl
    late false false r then = refl

    skip : (b d r : Bool) → (b || r) ≡ (b || ((d && false) || r))
    skip true d r = refl
    skip false true r = refl
    skip false false r = refl

    by-write : (o : Option (Option Value)) → write_in c.writes key ≡ o
        → (HasRisingTimes before cs → nat_lt s (last_time_after before (histories.writes_of cs key)) ≡ (nat_lt s before || is_written_after cs s key))
        → nat_lt s (last_time_after c.time (histories.writes_of cs key)) ≡ (nat_lt s c.time || is_written_after cs s key)
        → nat_lt s (last_time_after before (histories.writes_of (c ∷ cs) key)) ≡ (nat_lt s before || is_written_after (c ∷ cs) s key)
    by-write None none passed met =
        rw none (passed (lower c.time cs (omega (arith, rising.0)) rising.2) ∙ skip (nat_lt s before) (nat_lt s c.time) (is_written_after cs s key))
    by-write (Some w) some passed met =
        let order : nat_lt s before ≡ true → nat_lt s c.time ≡ true = λ early. let up = rising.0 in grind (arith, nat_tests) in
        rw some (met ∙ late (nat_lt s before) (nat_lt s c.time) (is_written_after cs s key) order)

pub key-later : (s : ℕ) (h : History Value) (key : Key) → HasRisingTimes 0 h → nat_lt s (last_time (histories.writes_of h key)) ≡ is_written_after h s key
key-later s h key rising = later-written s 0 h key rising ∙ (let none : nat_lt s 0 ≡ false = grind (arith, nat_tests) in rw none refl)

-- the front of a rising history rises, and so does the rest
pub rising-front : (t : ℕ) (h more : History Value) → HasRisingTimes t (h ++ more) → HasRisingTimes t h
rising-front t [] more up = tt
rising-front t (c ∷ cs) more up = (up.0, up.1, rising-front c.time cs more up.2)

pub rising-behind : (t : ℕ) (h more : History Value) → HasRisingTimes t (h ++ more) → HasRisingTimes (last_after t h) more
rising-behind t [] more up = up
rising-behind t (c ∷ cs) more up = rising-behind c.time cs more up.2

find-same : (p q : Key → Bool) (keys : List Key) → ((key : Key) → p key ≡ q key) → find p keys ≡ find q keys
find-same p q [] same = refl
find-same p q (k ∷ ks) same = rw (same k) (ap (λ (o : Option Key). cond (q k) (Some k) o) (find-same p q ks same))

-- versions that are ordered, and whether one of them was written later than a time from the mark on
pub conflicts-same : (s : ℕ) (floors : ℕ → ℕ) (reclaimed : ℕ) (versions : List KeyWrites) (h : History Value) (keys : List Key) → HasRisingTimes 0 h
    → IsOrdered versions → AreRising versions → HasWrites floors reclaimed (forgotten reclaimed versions) h → reclaimed ≤ s
    → find (λ key. nat_lt s (last_time (writes_of versions key))) keys ≡ first_conflict h s keys
conflicts-same s floors reclaimed versions h keys rising ordered rise has recent =
    find-same (λ key. nat_lt s (last_time (writes_of versions key))) (is_written_after h s) keys
    (λ key.
    sym (later-kept s reclaimed (writes_of versions key) recent (rise key))
    ∙ ap (λ (ws : List (TimedWrite Value)). nat_lt s (last_time ws)) (sym (writes_of-forgotten reclaimed versions key ordered))
    ∙ later-held has rising key s recent
    ∙ key-later s h key rising)

-- what waits adds its writes, where the versions behind it have forgotten what ended by the mark
pub writes-behind : (mark : ℕ) (versions : List KeyWrites) (qs : List QueuedValue) (cs : History Value) (key : Key) → HasForgotten mark versions
    → mark_after mark qs ≡ mark → AllWait mark versions qs cs
    → writes_of (versions_after versions qs) key ≡ writes_of versions key ++ histories.writes_of cs key
writes-behind mark versions qs cs key forgot fresh all =
    sym (subst (λ (n : ℕ). HasForgotten n (versions_after versions qs)) fresh (forgot-behind mark mark versions qs cs forgot all) key)
    ∙ kept-behind mark versions qs cs key all
    ∙ ap (λ (ws : List (TimedWrite Value)). ws ++ histories.writes_of cs key) (forgot key)

-- so does a group whose slot is in the writing
pub behind-group : (v : TransactionsValue) (m : Machine Value) → StandsInMemory v m → is_turning v.stage ≡ true → (key : Key)
    → writes_of (versions_after v.versions (take v.group v.queue)) key ≡ writes_of v.versions key ++ histories.writes_of (take v.group m.queue) key
behind-group v m stands turning key =
    writes-behind v.reclaimed v.versions (take v.group v.queue) (take v.group m.queue) key stands.forgot (stands.fresh turning)
    (wait-front v.group v.reclaimed v.versions v.queue m.queue stands.queue)

-- the versions after some that wait are those of the commits, from the mark on
pub ordered-has : (floors : ℕ → ℕ) (reclaimed : ℕ) (before : History Value) (versions : List KeyWrites) (qs : List QueuedValue) (cs : History Value)
    → HasWrites floors reclaimed versions before → HasForgotten reclaimed versions → AllWait reclaimed versions qs cs
    → HasRisingTimes 0 (before ++ cs) → ((relation : ℕ) → floors relation ≤ last before)
    → HasWrites floors reclaimed (forgotten reclaimed (versions_after versions qs)) (before ++ cs)
ordered-has floors reclaimed before versions qs cs has forgot all rising reached =
    let ordered : IsOrdered (versions_after versions qs) = ordered-behind reclaimed versions qs cs has.ordered all in
    many-more has (rising-front 0 before cs rising) (forgotten reclaimed (versions_after versions qs)) cs reached (rising-behind 0 before cs rising)
    (ordered-forgotten reclaimed (versions_after versions qs) ordered)
    (λ key.
    writes_of-forgotten reclaimed (versions_after versions qs) key ordered
    ∙ kept-behind reclaimed versions qs cs key all
    ∙ ap (λ (ws : List (TimedWrite Value)). ws ++ histories.writes_of cs key) (forgot key))
