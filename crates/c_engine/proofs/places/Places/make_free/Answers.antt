use Rattle.std.proofs.Common.{sym, ◌∙◌}
use Rattle.c_engine.proofs.Chaining.{all_taken}
use Rattle.c_engine.proofs.places.Places.make_free.Goals as goal

pub returns-clause-taken : goal.returns-clause-taken
returns-clause-taken c none = all_taken c.args.self.now.places.items c.args.self.now.free c.args.self.now.chained (sym c.has_free.ensures ∙ c.if-has_free.false)
