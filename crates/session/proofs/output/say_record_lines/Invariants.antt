use Rattle.std.proofs.Common.{take}
use Rattle.std.specs.List.{flat_map}
use Rattle.std.specs.Io.KnownBytes.{Appends}
use Rattle.session.specs.Streams.{text_said}
use Rattle.session.specs.Texts as told
use Rattle.session.proofs.output.say_record_lines.Given as goal

abbrev pub invariant-loop-pair : goal.invariant-loop-pair
invariant-loop-pair g l =
    Appends (text_said g.W.Write.contents l.initial.output) (text_said g.W.Write.contents l.output) (flat_map told.record_text (take l.pair-index l.found))
