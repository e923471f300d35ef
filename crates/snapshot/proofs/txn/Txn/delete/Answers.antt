use Rattle.std.proofs.lemmas.Grind.{common_steps}
use Rattle.std.proofs.Common.{◌≡◌, ◌<◌, List, None, length, arith, unwrap_or, cond, ap, sym, ◌∙◌, subst}
use Rattle.history.specs.declared.key.KeyWrite.{KeyWrite}
use Rattle.history.specs.Key.{same_key, write_in}
use Rattle.law_image.specs.Values.{Value}
use Rattle.snapshot.specs.Txn.{TxnValue, AreTxnWrites, at_snapshot, seen_by}
use Rattle.snapshot.proofs.TxnLemmas.{either, still_written, still_without, seen-with_write, seen-without, none_copied, some_copied}
use Rattle.snapshot.proofs.txn.Txn.delete.Goals as goal
use Rattle.snapshot.proofs.txn.Txn.delete.Goals.{in-Ok, in-Err}

pub invariant_of-self : goal.invariant_of-self
invariant_of-self c = rw c.remove_write.ensures (still_without _ _ _ c.args.key c.self.invariant)

pub returns-then-is_none-2-clause-by_key : goal.returns-then-is_none-2-clause-by_key
returns-then-is_none-2-clause-by_key c q =
    let none = none_copied c.at.result _ c.at.ensures c.if-is_none-2.ensures in
    subst (λ (t : TxnValue). unwrap_or (write_in c.remove_write.new.writes.items q) (at_snapshot c.self.inside.frozen c.self.inside.snapshot q)
    ≡ cond (same_key c.args.key q) None (seen_by t q)) c.self.view_is
    (subst (λ (ws : List (KeyWrite Value)). unwrap_or (write_in ws q) (at_snapshot c.self.inside.frozen c.self.inside.snapshot q)
    ≡ cond (same_key c.args.key q) None (unwrap_or (write_in c.self.inside.writes.items q) (at_snapshot c.self.inside.frozen c.self.inside.snapshot q)))
    (sym c.remove_write.ensures)
    (seen-without c.self.inside.frozen c.self.inside.snapshot c.self.inside.writes.items c.args.key q c.self.invariant.rising none))

pub invariant_of-self-2 : goal.invariant_of-self-2
invariant_of-self-2 c =
    let room = subst (λ (ws : List (KeyWrite Value)). write_in ws c.args.key ≡ None → length ws < 1024) c.deref.ensures.value c.in-Some.ensures.full in
    let seen = some_copied c.at.result _ c.at.ensures c.if-is_none-2.ensures in
    either (AreTxnWrites c.self.inside.frozen c.self.inside.snapshot) c.put_at.result c.put_at.new.writes.items _ _ c.put_at.ensures.ok c.put_at.ensures.err
    (still_written _ _ _ _ c.self.invariant room (record { key = record { relation = omega arith; number = omega arith }; value = tt }) (λ h. seen))
    c.self.invariant

pub returns-clause-by_key : goal.returns-clause-by_key
returns-clause-by_key c =
    elim c.match-put_at.branch [
      | in-Ok w ↦
          rw w.result-is (λ q.
          subst (λ (t : TxnValue). unwrap_or (write_in c.put_at.new.writes.items q) (at_snapshot c.self.inside.frozen c.self.inside.snapshot q)
          ≡ cond (same_key c.args.key q) None (seen_by t q)) c.self.view_is
          (ap (λ (ws : List (KeyWrite Value)). unwrap_or (write_in ws q) (at_snapshot c.self.inside.frozen c.self.inside.snapshot q)) w.in-Ok.ensures.ok
          ∙ seen-with_write c.self.inside.writes.items (record {
            key = c.args.key;
            write = None;
          }) q (at_snapshot c.self.inside.frozen c.self.inside.snapshot q)))
      | in-Err w ↦ rw w.result-is tt
    ]

pub returns-then-is_none-clause-ok : goal.returns-then-is_none-clause-ok
returns-then-is_none-clause-ok c = grind (arith, common_steps)

pub returns-then-is_none-clause-missing : goal.returns-then-is_none-clause-missing
returns-then-is_none-clause-missing c = grind (arith, common_steps)
