use Rattle.std.proofs.Common.{◌≡◌, ◌≤◌, ◌+◌, ℕ, length, max, None, Some, List, Option, [], ◌∷◌, ◌++◌, sym, ap, ◌∙◌, arith, subst, length-append}
use Rattle.snapshot.specs.OpenTable.{snapshot_of, least_free, open_count}
use Rattle.snapshot.proofs.Opened.{free-fresh, set-below, pushed-below, pushed-count}
use Rattle.snapshot.proofs.open_table.OpenTable.open.Goals as goal

pub invariant_of-self : goal.invariant_of-self
invariant_of-self c =
    let long = c.self.inside.places.ok.0 in
    set-below c.self.inside.places.items c.least_free-place.result c.args.snapshot (c.least_free-place.ensures.is
    ∙ ap least_free (sym c.self.view_is)) (omega arith)

pub returns-then-place-len-clause-fresh : goal.returns-then-place-len-clause-fresh
returns-then-place-len-clause-fresh c = subst (λ (n : ℕ). snapshot_of n c.args.self.now ≡ None) (sym c.least_free-place.ensures.is) (free-fresh c.args.self.now)

pub invariant_of-self-2 : goal.invariant_of-self-2
invariant_of-self-2 c =
    let long = c.self.inside.places.ok.0 in
    subst (λ (places : List (Option ℕ)). c.least_free-place.result + 1 ≤ least_free places) (sym c.in_ok-push.ensures.items)
    (pushed-below c.self.inside.places.items c.least_free-place.result c.args.snapshot (c.least_free-place.ensures.is
    ∙ ap least_free (sym c.self.view_is)) (omega arith))

pub returns-clause-fresh : goal.returns-clause-fresh
returns-clause-fresh c = subst (λ (n : ℕ). snapshot_of n c.args.self.now ≡ None) (sym c.least_free-place.ensures.is) (free-fresh c.args.self.now)

pub returns-clause-short : goal.returns-clause-short
returns-clause-short c =
    let places : List (Option ℕ) = c.self.inside.places.items in
    let least : c.least_free-place.result ≡ least_free places = c.least_free-place.ensures.is ∙ ap least_free (sym c.self.view_is) in
    let ok = c.self.inside.places.ok.0 in
    let count : open_count (places ++ Some c.args.snapshot ∷ []) ≡ length places + 1 = pushed-count places c.args.snapshot (omega arith) in
    let long = length-append places (Some c.args.snapshot ∷ []) in
    let enough : length (places ++ Some c.args.snapshot ∷ []) ≤ open_count (places ++ Some c.args.snapshot ∷ []) = omega arith in
    let short : length (places ++ Some c.args.snapshot ∷ []) ≤ max (length c.args.self.now) (open_count (places ++ Some c.args.snapshot ∷ [])) = omega (
      arith,
      enough,
    ) in
    subst (λ (after : List (Option ℕ)). length after ≤ max (length c.args.self.now) (open_count after)) (sym c.in_ok-push.ensures.items) short
