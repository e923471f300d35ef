use Rattle.std.proofs.Common.{◌≡◌, ◌<◌, List, map, None, Some, length, arith, unwrap_or, cond, ap, ◌∙◌, subst}
use Rattle.history.specs.declared.key.KeyWrite.{KeyWrite}
use Rattle.history.specs.Key.{same_key, write_in}
use Rattle.law_image.specs.Values.{Value}
use Rattle.snapshot.specs.Txn.{TxnValue, AreTxnWrites, at_snapshot, seen_by}
use Rattle.snapshot.proofs.TxnLemmas.{either, still_written, seen-with_write}
use Rattle.snapshot.proofs.txn.Txn.put.Goals as goal
use Rattle.snapshot.proofs.txn.Txn.put.Goals.{in-Ok-put_at, in-Err-put_at}

pub invariant_of-self : goal.invariant_of-self
invariant_of-self c =
    let room = subst (λ (ws : List (KeyWrite Value)). write_in ws c.args.key ≡ None → length ws < 1024) c.deref.ensures.value c.in-Some.ensures.full in
    either (AreTxnWrites c.self.inside.frozen c.self.inside.snapshot) c.put_at.result c.put_at.new.writes.items _ _ c.put_at.ensures.ok c.put_at.ensures.err
    (still_written _ _ _ _ c.self.invariant room (record {
      key = record { relation = omega arith; number = omega arith };
      value = c.in-Ok.ensures.in_range;
    }) (λ h. cc)) c.self.invariant

pub returns-clause-by_key : goal.returns-clause-by_key
returns-clause-by_key c =
    elim c.match-put_at.branch [
      | in-Ok-put_at w ↦
          rw w.result-is (λ q.
          subst (λ (t : TxnValue). unwrap_or (write_in c.put_at.new.writes.items q) (at_snapshot c.self.inside.frozen c.self.inside.snapshot q)
          ≡ cond (same_key c.args.key q) (Some (map (λ field. field.now) c.args.fields.now)) (seen_by t q)) c.self.view_is
          (ap (λ (ws : List (KeyWrite Value)). unwrap_or (write_in ws q) (at_snapshot c.self.inside.frozen c.self.inside.snapshot q)) w.in-Ok-put_at.ensures.ok
          ∙ seen-with_write c.self.inside.writes.items (record {
            key = c.args.key;
            write = Some c.in-Ok.value;
          }) q (at_snapshot c.self.inside.frozen c.self.inside.snapshot q)
          ∙ ap (λ (v : Value). cond (same_key c.args.key q) (Some v)
          (unwrap_or (write_in c.self.inside.writes.items q) (at_snapshot c.self.inside.frozen c.self.inside.snapshot q))) c.in-Ok.ensures.made))
      | in-Err-put_at w ↦ rw w.result-is tt
    ]
