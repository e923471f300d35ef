-- Fronts of histories, and what was seen of them.
use Rattle.std.proofs.Common.{◌≡◌, ℕ, ◌≤◌, true, arith, [], ◌∷◌, ◌++◌, refl, sym, ap, ◌∙◌, subst, append_assoc}
use Rattle.std.proofs.lemmas.List.{append-nil}
use Rattle.history.specs.Histories.{Commit, History, last, last_after, IsHistory, HasRisingTimes}
use Rattle.history.proofs.Histories.{last_after-append, rising-from_following, may_follow-front, may_follow-behind}
use Rattle.history.proofs.Runs.{last-later}
use Rattle.law_image.specs.Values.{Value, IsValue}
use Rattle.shared.specs.Seen.{Seen, nothing, order_of, IsFrontOf, IsLater}

pub front-same : (h : History Value) → IsFrontOf h h
front-same h = ([], sym (append-nil h))

pub front-then : (a b c : History Value) → IsFrontOf a b → IsFrontOf b c → IsFrontOf a c
front-then a b c x y = (x.0 ++ y.0, y.1 ∙ ap (λ (l : History Value). l ++ y.0) x.1 ∙ append_assoc a x.0 y.0)

pub later-same : (s : Seen) → IsLater s s
later-same s = record { published = front-same s.published; order = front-same (order_of s); floors = λ relation. omega arith; failed = λ on. on }

pub later-then : (a b c : Seen) → IsLater a b → IsLater b c → IsLater a c
later-then a b c x y = record {
  published = front-then a.published b.published c.published x.published y.published;
  order = front-then (order_of a) (order_of b) (order_of c) x.order y.order;
  floors = λ relation. let first = x.floors relation in let second = y.floors relation in omega (arith, first, second);
  failed = λ on. y.failed (x.failed on);
}

pub later-nothing : (s : Seen) → IsLater nothing s
later-nothing s = record { published = (s.published, refl); order = (order_of s, refl); floors = λ relation. omega arith; failed = λ on. absurd cc }

-- a store that fails
pub later-failed : (s : Seen) → IsLater s (record s { failed = true })
later-failed s = record { published = front-same s.published; order = front-same (order_of s); floors = λ relation. omega arith; failed = λ on. refl }

-- the last time of a front is no later
pub last-front : (front whole : History Value) → IsHistory IsValue whole → IsFrontOf front whole → last front ≤ last whole
last-front front whole legal is =
    let split : IsHistory IsValue (front ++ is.0) = subst (λ (h : History Value). IsHistory IsValue h) is.1 legal in
    let later : last front ≤ last (front ++ is.0) = subst (λ (n : ℕ). last front ≤ n) (sym (last_after-append 0 front is.0))
    (last-later (last front) is.0 (rising-from_following IsValue front is.0 (may_follow-behind IsValue [] front is.0 split))) in
    subst (λ (h : History Value). last front ≤ last h) (sym is.1) later

-- what was seen later has no earlier last time
pub last-seen : (old new : Seen) → IsHistory IsValue (order_of new) → IsLater old new → last old.published ≤ last new.published
last-seen old new legal later = last-front old.published new.published (may_follow-front IsValue [] new.published new.queue legal) later.published

-- ---- two fronts of one history

rising-upto : (t : ℕ) (front rest : History Value) → HasRisingTimes t (front ++ rest) → HasRisingTimes t front
rising-upto t [] rest rising = tt
rising-upto t (c ∷ cs) rest rising = (rising.0, rising.1, rising-upto c.time cs rest rising.2)

front-within : (t : ℕ) (a x b y : History Value) → a ++ x ≡ b ++ y → HasRisingTimes t (a ++ x) → last_after t a ≤ last_after t b → IsFrontOf a b
front-within t [] x b y same rising by = (b, refl)
front-within t (c ∷ cs) x [] y same rising by =
    let later : c.time ≤ last_after c.time cs = last-later c.time cs (rising-upto c.time cs x rising.2) in
    absurd (omega (arith, later, by, rising.0))
front-within t (c ∷ cs) x (d ∷ ds) y same rising by =
    let first : c ≡ d = cc same in
    let behind : cs ++ x ≡ ds ++ y = cc same in
    let found = front-within c.time cs x ds y behind rising.2 (subst (λ (e : Commit Value). last_after c.time cs ≤ last_after e.time ds) (sym first) by) in
    (found.0, cc (first, found.1))

-- of what was seen at two times the one that has no later last time has no other commits
pub front-seen : (early late new : Seen) → IsHistory IsValue (order_of new) → IsLater early new → IsLater late new → last early.published ≤ last late.published
    → IsFrontOf early.published late.published
front-seen early late new legal e l by =
    let rising : HasRisingTimes 0 new.published = rising-from_following IsValue [] new.published (may_follow-front IsValue [] new.published new.queue legal) in
    front-within 0 early.published e.published.0 late.published l.published.0 (sym e.published.1
    ∙ l.published.1) (subst (λ (h : History Value). HasRisingTimes 0 h) e.published.1 rising) by
