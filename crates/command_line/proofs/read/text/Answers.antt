use Rattle.clap.specs.Words.{found_of}
use Rattle.command_line.proofs.Getters.{has_text, has_no_text}
use Rattle.command_line.proofs.read.text.Goals as goal

pub returns : goal.returns
returns c = record {
  some = has_text (found_of c.args.matches.now) c.args.name.now c.get_str.result c.get_str.ensures;
  none = has_no_text (found_of c.args.matches.now) c.args.name.now c.get_str.result c.get_str.ensures;
}
