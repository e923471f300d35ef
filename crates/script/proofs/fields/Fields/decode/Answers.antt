use Rattle.script.proofs.FieldLemmas.{all_cons, pushed_more}
use Rattle.script.proofs.fields.Fields.decode.Goals as goal

pub field_bytes-requires : goal.field_bytes-requires
field_bytes-requires c = (all_cons _ _ _ c.in-Some.ensures c.loop-word.invariant.fields).0

pub loop-word-preserved : goal.loop-word-preserved
loop-word-preserved c = record {
  fields = (all_cons _ _ _ c.in-Some.ensures c.loop-word.invariant.fields).1;
  bytes = pushed_more _ c.loop-word.fields.items c.push.new.self.items _ _ _ c.in_ok-field_bytes.field-0 c.loop-word.invariant.bytes c.in-Some.ensures
      c.in_ok-field_bytes.ensures c.in_ok-push.ensures.items;
}
