-- How high a key's older writes grow.
use Rattle.std.proofs.Common.{◌≡◌, ℕ, zero, suc, ◌+◌, ◌-◌, ◌<◌, ◌≤◌, true, false, Bool, List, [], ◌∷◌, ◌++◌, length, get_or, take, map, refl, ap, sym, subst}
use Rattle.std.proofs.Common.{◌∙◌, arith, length-append, length-take}
use Rattle.std.proofs.lemmas.Bool.{le-ltb, cond-true, cond-false}
use Rattle.std.specs.Prelude.{max, nat_lt, ◌||◌, MatchBool, Result, Ok, Err, IfOk}
use Rattle.chains.specs.Branches.{IsFork}
use Rattle.chains.specs.Growth.{as_branch, branches_of, has_room, forks_with, together_with, IsForkOf, IsAlone, IsRoomTaken, IsHigher, IsLonger}
use Rattle.chains.specs.Shapes.{Shape, all_of, highest, leaf, last_or, last_of}
use Rattle.chains.specs.Writes.{Write}
use Rattle.chains.proofs.Shapes.{all_of-append, at_low, before, last-of, highest-take}

-- ---- the last of several trees

-- one more is no higher than the others
pub push-low : {E : Type 0} (ts : List (Shape E)) (t : Shape E) (n : ℕ) → highest ts ≤ n → t.height ≤ n → highest (ts ++ t ∷ []) ≤ n
push-low [] t n low here = omega (arith, here)
push-low (u ∷ us) t n low here = omega (arith, low, push-low us t n (omega (arith, low)) here)

last-push : {E : Type 0} (t : Shape E) (ts : List (Shape E)) (u : Shape E) → last_or t (ts ++ u ∷ []) ≡ u
last-push t [] u = refl
last-push t (s ∷ ss) u = last-push s ss u

-- the last of those that one was put behind
pub last-put : {E : Type 0} (ts : List (Shape E)) (u : Shape E) → last_of (ts ++ u ∷ []) ≡ u
last-put ts u = last-push (leaf []) ts u

last-is : {E : Type 0} (bs : List (Shape E)) (b : Shape E) → 1 ≤ length bs → b ≡ get_or bs (length bs - 1) b → last_of bs ≡ b
last-is bs b some is = ap last_of (last-of bs b some is) ∙ last-put (before bs) b

-- ---- branches of older writes

pub branch-of-some : (older : Shape Write) → 0 < length older.chunks → branches_of older older.chunks ≡ as_branch older ∷ []
branch-of-some older some = by older.chunks some
  where
    by : (ws : List Write) → 0 < length ws → branches_of older ws ≡ as_branch older ∷ []
    by [] none = absurd (omega (arith, none))
    by (w ∷ ws) long = refl

-- ---- room behind the last branch

-- both are what this branch holds
pub room-alike : (n : ℕ) (b v w : Shape Write) → b ≡ as_branch v → b ≡ as_branch w → has_room n v.together v.forks ≡ has_room n w.together w.forks
room-alike n b v w of-v of-w =
    sym (ap (λ (t : Shape Write). has_room n t.together t.forks) of-v) ∙ ap (λ (t : Shape Write). has_room n t.together t.forks) of-w

full-fork : (n together f : ℕ) (fs : List ℕ) → 32 ≤ f → has_room n together (f ∷ fs) ≡ has_room n together fs
full-fork n together f fs full = ap (λ (b : Bool). b || has_room n together fs) (le-ltb f 32 full)

module _ {self : Shape Write} {bs : List (Shape Write)} (fork : IsFork self bs) {b : Shape Write} (some : 1 ≤ length bs)
    (is : b ≡ get_or bs (length bs - 1) b) where
  forks-are : self.forks ≡ length bs ∷ b.forks
  forks-are = fork.forks ∙ ap (λ (t : Shape Write). length bs ∷ t.forks) (last-is bs b some is)

  together-is : self.together ≡ b.together
  together-is = fork.together ∙ ap (λ (t : Shape Write). t.together) (last-is bs b some is)

  branch-low : b.height ≤ highest bs
  branch-low = at_low bs (length bs - 1) b (omega (arith, some)) is

  -- there is room where it is below, if the fork is full
  pub room-below : (n : ℕ) → 32 ≤ length bs → has_room n self.together self.forks ≡ has_room n b.together b.forks
  room-below n full =
      ap (λ (k : ℕ). has_room n k self.forks) together-is
      ∙ ap (λ (fs : List ℕ). has_room n b.together fs) forks-are
      ∙ full-fork n b.together (length bs) b.forks full

  -- some writes of the last are writes of all
  pub some-writes : 0 < length b.chunks → 0 < length self.chunks
  some-writes long =
      let whole : length self.chunks ≡ length (all_of (before bs) ++ (b.chunks ++ [])) =
      ap (λ (ws : List Write). length ws) (sym fork.writes ∙ ap all_of (last-of bs b some is) ∙ all_of-append (before bs) (b ∷ [])) in
      omega (arith, whole, length-append (all_of (before bs)) (b.chunks ++ []), length-append b.chunks [], long)

  module _ (n : ℕ) (w : Shape Write) (below : b ≡ as_branch w) where
    forks-below : self.forks ≡ length bs ∷ w.forks
    forks-below = forks-are ∙ ap (λ (t : Shape Write). length bs ∷ t.forks) below

    together-below : self.together ≡ w.together
    together-below = together-is ∙ ap (λ (t : Shape Write). t.together) below

    -- what is no higher than the last branch
    low-below : (t : Shape Write) → t.height ≤ w.height → t.height + 1 ≤ highest bs
    low-below t low = let same : b.height ≡ w.height + 1 = ap (λ (t : Shape Write). t.height) below in omega (arith, same, low, branch-low)

    at-below : {X : Type 0} (f : ℕ → List ℕ → X) → f self.together self.forks ≡ f w.together (length bs ∷ w.forks)
    at-below f = ap (λ (k : ℕ). f k self.forks) together-below ∙ ap (λ (fs : List ℕ). f w.together fs) forks-below

    -- the last branch has room, and is longer now
    pub taken-below : (longer new : Shape Write) → has_room n w.together w.forks ≡ true → IsRoomTaken n w longer
        → IsForkOf (before bs ++ as_branch longer ∷ []) new
        → IsRoomTaken n self new
    taken-below longer new room taken shape =
        let put = last-put (before bs) (as_branch longer) in
        let count : length (before bs ++ as_branch longer ∷ []) ≡ length bs =
        omega (arith, length-append (before bs) (as_branch longer ∷ []), length-take (length bs - 1) bs, some) in
        let inner = forks_with n w.together w.forks in
        record {
          forks =
              shape.forks
              ∙ ap (λ (k : ℕ). k ∷ (last_of (before bs ++ as_branch longer ∷ [])).forks) count
              ∙ ap (λ (t : Shape Write). length bs ∷ t.forks) put
              ∙ ap (λ (fs : List ℕ). length bs ∷ fs) taken.forks
              ∙ sym (cond-true (has_room n w.together w.forks) (length bs ∷ inner) ((length bs + 1) ∷ map (λ k. 1) w.forks) room)
              ∙ sym (at-below (forks_with n));
          together =
              shape.together
              ∙ ap (λ (t : Shape Write). t.together) put
              ∙ taken.together
              ∙ sym (cond-true (has_room n w.together w.forks) (together_with n w.together w.forks) n room)
              ∙ sym (at-below (together_with n));
          height =
              omega (
                arith,
                shape.height,
                push-low (before bs) (as_branch longer) (highest bs) (highest-take (length bs - 1) bs) (low-below longer taken.height),
                fork.height,
              );
        }

    -- the last branch has none, and there is one more
    pub taken-here : (later new : Shape Write) → has_room n w.together w.forks ≡ false → IsAlone n w later → IsForkOf (bs ++ as_branch later ∷ []) new
        → IsRoomTaken n self new
    taken-here later new none alone shape =
        let put = last-put bs (as_branch later) in
        let count : length (bs ++ as_branch later ∷ []) ≡ length bs + 1 = omega (arith, length-append bs (as_branch later ∷ [])) in
        record {
          forks =
              shape.forks
              ∙ ap (λ (k : ℕ). k ∷ (last_of (bs ++ as_branch later ∷ [])).forks) count
              ∙ ap (λ (t : Shape Write). (length bs + 1) ∷ t.forks) put
              ∙ ap (λ (fs : List ℕ). (length bs + 1) ∷ fs) alone.forks
              ∙ sym (cond-false (has_room n w.together w.forks) (length bs ∷ forks_with n w.together w.forks) ((length bs + 1) ∷ map (λ k. 1) w.forks) none)
              ∙ sym (at-below (forks_with n));
          together =
              shape.together
              ∙ ap (λ (t : Shape Write). t.together) put
              ∙ alone.together
              ∙ sym (cond-false (has_room n w.together w.forks) (together_with n w.together w.forks) n none)
              ∙ sym (at-below (together_with n));
          height = omega (arith, shape.height, push-low bs (as_branch later) (highest bs) (omega arith) (low-below later alone.height), fork.height);
        }

    -- writes stand alone beside the last branch
    pub alone-below : (inner new : Shape Write) → IsAlone n w inner → IsForkOf (as_branch inner ∷ []) new → IsAlone n self new
    alone-below inner new alone shape = record {
      forks = shape.forks ∙ ap (λ (fs : List ℕ). 1 ∷ fs) alone.forks ∙ sym (ap (λ (fs : List ℕ). map (λ k. 1) fs) forks-below);
      together = shape.together ∙ alone.together;
      height = omega (arith, shape.height, low-below inner alone.height, fork.height);
    }

-- ---- older writes that are longer

-- two are put below a fork above all
higher-with : (n : ℕ) (old alone new : Shape Write) → IsAlone n old alone → IsForkOf (as_branch old ∷ as_branch alone ∷ []) new → IsHigher n old new
higher-with n old alone new is shape = record {
  forks = shape.forks ∙ ap (λ (fs : List ℕ). 2 ∷ fs) is.forks;
  together = shape.together ∙ is.together;
  height = omega (arith, shape.height, is.height);
}

if-false : (b : Bool) (P Q : Type 0) → b ≡ false → Q → MatchBool b P Q
if-false true P Q e q = absurd cc
if-false false P Q e q = q

if-true : (b : Bool) (P Q : Type 0) → b ≡ true → P → MatchBool b P Q
if-true true P Q e p = p
if-true false P Q e p = absurd cc

pub longer-higher : (n : ℕ) (old alone new : Shape Write) (bs : List (Shape Write)) → has_room n old.together old.forks ≡ false → 0 < length old.chunks
    → 0 < length alone.chunks
    → bs ≡ branches_of old old.chunks ++ branches_of alone alone.chunks
    → IsAlone n old alone
    → (0 < length bs → IsForkOf bs new)
    → IsLonger n old new
longer-higher n old alone new bs none some some-alone are is shape =
    let both : bs ≡ as_branch old ∷ as_branch alone ∷ [] = are ∙ (λ i. branch-of-some old some i ++ branch-of-some alone some-alone i) in
    let count : length bs ≡ 2 = ap (λ (l : List (Shape Write)). length l) both in
    if-false (has_room n old.together old.forks) (IsRoomTaken n old new) (IsHigher n old new) none
    (higher-with n old alone new is (subst (λ (l : List (Shape Write)). IsForkOf l new) both (shape (omega (arith, count)))))

pub longer-taken : (n : ℕ) (old new : Shape Write) → has_room n old.together old.forks ≡ true → IsRoomTaken n old new → IsLonger n old new
longer-taken n old new room taken = if-true (has_room n old.together old.forks) (IsRoomTaken n old new) (IsHigher n old new) room taken

-- the first writes of all
pub longer-first : (ws : List Write) (old new : Shape Write) → old ≡ leaf [] → new ≡ leaf ws → IsLonger (length ws) old new
longer-first ws old new none is = rw (none, is) (record { forks = refl; together = omega arith; height = omega arith })

-- what was put before branches is no higher than they, or than it was
pub first-low : (first : Shape Write) (behind bs : List (Shape Write)) (new : Shape Write) → bs ≡ branches_of first first.chunks ++ behind → IsForkOf bs new
    → new.height ≤ max (first.height + 1) (highest behind) + 1
first-low first behind bs new are shape =
    let same : highest bs ≡ highest (branches_of first first.chunks ++ behind) = ap highest are in omega (arith, shape.height, same, by first.chunks)
  where
    by : (ws : List Write) → highest (branches_of first ws ++ behind) ≤ max (first.height + 1) (highest behind)
    by [] = omega arith
    by (w ∷ ws) = omega arith

-- what holds of each value of a result that is there, where something else does
pub ok-map : {T E : Type 0} (r : Result T E) (P Q : T → Type 0) → ((x : T) → P x → Q x) → IfOk r P → IfOk r Q
ok-map (Ok x) P Q f p = f x p
ok-map (Err e) P Q f p = tt
