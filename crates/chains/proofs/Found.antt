-- Versions that lie together: those of the writes on one side of a chunk among all.
use Rattle.std.proofs.Common.{◌≡◌, ℕ, ◌<◌, drop, List, [], ◌∷◌, ◌++◌, length, Option, None, Some, Result, IfOk, refl, ap, sym, subst, ◌∙◌, arith, append_assoc}
use Rattle.std.proofs.Common.{append-nil, take, ◌-◌}
use Rattle.std.specs.Prelude.{find}
use Rattle.std.specs.List.{slice_get}
use Rattle.std.proofs.lemmas.List.{take-append-drop, take_rest}
use Rattle.std.proofs.lemmas.Result.{IfOk-weaker}
use Rattle.history.specs.declared.time.Version.{Version}
use Rattle.history.specs.Versions.{first_time, versions, ends_after}
use Rattle.chains.specs.Found.{IsPartFrom, IsFound}
use Rattle.chains.specs.Rows.{first_time_or, versions_upto}
use Rattle.chains.specs.Writes.{Value, Write}
use Rattle.chains.proofs.Bounds.{find-found, find-past}
use Rattle.chains.proofs.RowParts.{versions-append, versions-parts}

-- those that are found among the first ones
pub found-front : (t : ℕ) (xs ys ps : List (Version Value)) → IsPartFrom t xs ps → IsPartFrom t (xs ++ ys) ps
found-front t xs ys [] part = absurd (omega (arith, part.some))
found-front t xs ys (p ∷ ps) part = record {
  before = part.before;
  behind = part.behind ++ ys;
  among =
      ap (λ (l : List (Version Value)). l ++ ys) part.among
      ∙ append_assoc part.before ((p ∷ ps) ++ part.behind) ys
      ∙ ap (λ (l : List (Version Value)). part.before ++ l) (append_assoc (p ∷ ps) part.behind ys);
  first = sym (find-found (ends_after t) xs ys p (sym part.first));
  some = part.some;
}

-- where none of the first ones ends after the time, those that are found behind them
pub found-behind : (t : ℕ) (xs ys : List (Version Value)) (o : Option (List (Version Value))) → find (ends_after t) xs ≡ None → IsFound t ys o
    → IsFound t (xs ++ ys) o
found-behind t xs ys None none found = find-past (ends_after t) xs ys none ∙ found
found-behind t xs ys (Some ps) none part = record {
  before = xs ++ part.before;
  behind = part.behind;
  among = ap (λ (l : List (Version Value)). xs ++ l) part.among ∙ sym (append_assoc xs part.before (ps ++ part.behind));
  first = part.first ∙ sym (find-past (ends_after t) xs ys none);
  some = part.some;
}

-- those of the older writes, and those of the recent ones
pub found_older : (t : ℕ) (xs ys : List Write) (ps : List (Version Value)) → IsPartFrom t (versions_upto (first_time ys) xs) ps
    → IsPartFrom t (versions (xs ++ ys)) ps
found_older t xs ys ps part =
    subst (λ (vs : List (Version Value)). IsPartFrom t vs ps) (sym (versions-parts xs ys))
    (found-front t (versions_upto (first_time ys) xs) (versions ys) ps part)

pub found_recent : {E : Type 0} (t : ℕ) (xs ys : List Write) (r : Result (Option (List (Version Value))) E)
    → find (ends_after t) (versions_upto (first_time ys) xs) ≡ None
    → IfOk r (IsFound t (versions ys)) → IfOk r (IsFound t (versions (xs ++ ys)))
found_recent t xs ys r none found =
    IfOk-weaker r (IsFound t (versions ys)) (IsFound t (versions (xs ++ ys)))
    (λ o h. subst (λ (vs : List (Version Value)). IsFound t vs o) (sym (versions-parts xs ys))
    (found-behind t (versions_upto (first_time ys) xs) (versions ys) o none h))
    found

-- those from a write on, where the first of them is the one that ends after the time
found-from : (t end : ℕ) (ws : List Write) (n : ℕ) → slice_get (versions_upto end (drop n ws)) 0 ≡ find (ends_after t) (versions_upto end ws)
    → 0 < length (versions_upto end (drop n ws))
    → IsPartFrom t (versions_upto end ws) (versions_upto end (drop n ws))
found-from t end ws n first some = record {
  before = versions_upto (first_time_or end (drop n ws)) (take n ws);
  behind = [];
  among =
      ap (λ (l : List Write). versions_upto end l) (sym (take-append-drop n ws))
      ∙ versions-append end (take n ws) (drop n ws)
      ∙ ap (λ (l : List (Version Value)). versions_upto (first_time_or end (drop n ws)) (take n ws) ++ l) (sym (append-nil (versions_upto end (drop n ws))));
  first = first;
  some = some;
}

pub no-versions : (vs : List (Version Value)) → 0 ≡ length vs → vs ≡ []
no-versions [] none = refl
no-versions (v ∷ vs) none = absurd (omega arith)

-- told of how many versions stand behind those; and where there are none
module _ (t end : ℕ) (ws : List Write) (n values : ℕ) (first : slice_get (versions_upto end (drop n ws)) 0
    ≡ find (ends_after t) (versions_upto end ws)) (counted : values ≡ length (versions_upto end (take (length ws - n) (drop n ws)))) where
  left : values ≡ length (versions_upto end (drop n ws))
  left = counted ∙ ap (λ (l : List Write). length (versions_upto end l)) (take_rest ws n)

  pub found-in : 0 < values → IsPartFrom t (versions_upto end ws) (versions_upto end (drop n ws))
  found-in some = found-from t end ws n first (omega (arith, left))

  pub none-in : values ≡ 0 → find (ends_after t) (versions_upto end ws) ≡ None
  none-in none = sym first ∙ ap (λ (vs : List (Version Value)). slice_get vs 0) (no-versions (versions_upto end (drop n ws)) (sym none ∙ left))
