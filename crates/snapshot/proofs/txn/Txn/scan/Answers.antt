use Rattle.std.proofs.Common.{◌≡◌, ℕ, List, Result, Ok, Err, IfOk, unwrap_or, sym, ◌∙◌, subst}
use Rattle.history.specs.Key.{write_in}
use Rattle.history.specs.Queries.{IsScan}
use Rattle.law_image.specs.Values.{Value}
use Rattle.chains.specs.Scans.{scanned}
use Rattle.snapshot.specs.Scans.{overlaid}
use Rattle.snapshot.specs.Txn.{TxnValue, at_snapshot, seen_by}
use Rattle.snapshot.proofs.ScanLemmas.{overlaid-is_scan}
use Rattle.snapshot.proofs.StateScans.{scanned-is_scan}
use Rattle.snapshot.proofs.txn.Txn.scan.Goals as goal

if_ok : {T E : Type 0} (P Q : T → Type 0) (r : Result T E) → ((t : T) → P t → Q t) → IfOk r P → IfOk r Q
if_ok P Q (Ok t) f h = f t h
if_ok P Q (Err e) f h = tt

pub returns : goal.returns
returns c =
    let state = c.self.inside.frozen in
    let snapshot = c.self.inside.snapshot in
    let writes = c.self.inside.writes.items in
    let relation = c.args.relation in
    let pairs : c.deref.result.now ≡ scanned relation snapshot state = c.deref.ensures.value ∙ c.in_ok-published.ensures in
    let scan =
    overlaid-is_scan (at_snapshot state snapshot) relation (scanned relation snapshot state) writes
    (scanned-is_scan relation snapshot state c.is_empty-none.ensures.ordered) c.self.invariant.rising in
    if_ok _ _ c.overlay.result
    (λ found is.
    subst (λ (t : TxnValue). IsScan (seen_by t) relation found.items) c.self.view_is
    (subst (λ (l : List (ℕ × Value)). IsScan (λ key. unwrap_or (write_in writes key) (at_snapshot state snapshot key)) relation l) (sym (is
    ∙ (λ i. overlaid relation (pairs i) (c.deref-2.ensures.value i)))) scan))
    c.overlay.ensures
