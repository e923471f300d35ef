use Rattle.std.specs.Str.Parse.{ParsesUnsigned, ExplainsUnsignedError, HasUnsignedDigitsIfOk}
use Rattle.clap.specs.Words.{found_of}
use Rattle.command_line.proofs.Getters.{has_number, has_no_number}
use Rattle.command_line.proofs.read.u64_of.Goals as goal

pub returns : goal.returns
returns c = record {
  some = has_number 64 (found_of c.args.matches.now) c.args.name.now c.get_one.result
      (λ bs r. ParsesUnsigned 64 10 bs r × ExplainsUnsignedError 10 bs r × HasUnsignedDigitsIfOk bs r)
      (λ t n h. h.0) c.get_one.ensures.none c.get_one.ensures.value;
  none = has_no_number 64 (found_of c.args.matches.now) c.args.name.now c.get_one.result
      (λ bs r. ParsesUnsigned 64 10 bs r × ExplainsUnsignedError 10 bs r × HasUnsignedDigitsIfOk bs r)
      (λ t e h. h.0) c.get_one.ensures.value;
}
