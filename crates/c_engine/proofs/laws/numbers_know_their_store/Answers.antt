use Rattle.c_engine.proofs.Named.{has_tag}
use Rattle.c_engine.proofs.laws.numbers_know_their_store.Goals as goal

pub returns : goal.returns
returns c = λ places number some. has_tag places.tag places.places.items number some
