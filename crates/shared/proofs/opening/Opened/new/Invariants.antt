use Rattle.shared.specs.Seen.{seen_of}
use Rattle.shared.proofs.opening.Opened.new.Given as goal

abbrev pub ghost-publish_next : goal.ghost-publish_next
ghost-publish_next g a = seen_of g.start
