-- Names and numbers, as the program has them.
use Rattle.log_facts.specs.Texts as texts
use Rattle.log_facts.specs.declared.lines.Named.{Named}

abbrev pub named_as : Named → texts.Named
named_as n = record { name = n.name.now; number = n.number }
