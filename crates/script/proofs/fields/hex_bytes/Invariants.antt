use Rattle.std.proofs.Common.{◌≡◌, ◌++◌, length}
use Rattle.std.specs.Prelude.{IsTrue}
use Rattle.std.specs.List.{list_all}
use Rattle.script.specs.Words as told
use Rattle.script.proofs.fields.hex_bytes.Given as goal

abbrev pub invariant-loop-rest : goal.invariant-loop-rest
invariant-loop-rest l = record {
  digits : IsTrue (list_all told.is_hex_digit l.rest);
  bytes : told.hex_bytes l.initial.rest ≡ l.bytes.items ++ told.hex_bytes l.rest;
}

abbrev pub decreases-loop-rest : goal.decreases-loop-rest
decreases-loop-rest l = length l.rest
