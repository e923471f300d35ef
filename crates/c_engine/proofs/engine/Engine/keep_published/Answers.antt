use Rattle.std.proofs.Common.{◌≡◌, nat_le, rules}
use Rattle.std.proofs.lemmas.Fn.{filter_same}
use Rattle.c_engine.specs.declared.engine.EngineState.TheVariants.{Failed}
use Rattle.c_engine.proofs.engine.Engine.keep_published.Goals as goal

pub returns-in-Some : goal.returns-in-Some
returns-in-Some c =
    let failed : c.args.self.now.state ≡ Failed = search rules in
    rw (failed, c.in-Some.is) (filter_same _ (λ time. nat_le time c.in-Some.published.last) _ (λ x b f' k. search rules) _ _ c.retain.ensures.filtered)
