use Rattle.std.proofs.Common.{inl, inr}
use Rattle.log_store.proofs.formatting.is_header.Goals as goal

pub returns-in-None : goal.returns-in-None
returns-in-None c = (
  λ yes. inr (c.is_log_header.ensures.0 yes),
  λ any. elim any [ inl h ↦ absurd (c.in-None.ensures.none h.0 h.1) | inr r ↦ c.is_log_header.ensures.1 r ],
)
