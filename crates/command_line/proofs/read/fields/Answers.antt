use Rattle.clap.specs.Words.{found_of}
use Rattle.command_line.proofs.Getters.{has_fields, has_no_fields}
use Rattle.command_line.proofs.read.fields.Goals as goal

pub returns : goal.returns
returns c = record {
  some = has_fields (found_of c.args.matches.now) c.get_raw.result c.get_raw.ensures;
  none = has_no_fields (found_of c.args.matches.now) c.get_raw.result c.get_raw.ensures;
}
