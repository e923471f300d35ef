use Rattle.log_store.proofs.formatting.is_log_header.Goals as goal

pub returns-in-None : goal.returns-in-None
returns-in-None c = (λ no. cc, λ any. let is = c.in-None.ensures.only any.0 any.1 in cc)
