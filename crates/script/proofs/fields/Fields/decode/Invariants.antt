use Rattle.std.proofs.Common.{◌≡◌, ◌++◌, length, map}
use Rattle.std.specs.Prelude.{IsTrue}
use Rattle.std.specs.List.{list_all}
use Rattle.script.specs.Words as told
use Rattle.script.proofs.fields.Fields.decode.Given as goal

abbrev pub invariant-loop-word : goal.invariant-loop-word
invariant-loop-word l = record {
  fields : IsTrue (list_all told.is_field l.words);
  bytes : map told.field_bytes l.initial.words ≡ map (λ f. f.items) l.fields.items ++ map told.field_bytes l.words;
}

abbrev pub decreases-loop-word : goal.decreases-loop-word
decreases-loop-word l = length l.words
