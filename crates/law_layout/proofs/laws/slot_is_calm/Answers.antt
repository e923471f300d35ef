use Rattle.law_layout.proofs.CalmCalls.{slot_is_calm}
use Rattle.law_layout.proofs.laws.slot_is_calm.Goals as goal

pub returns : goal.returns
returns c = λ header growth calm number body stage result old new growing sound_calm sound sound_new among whole call.
    slot_is_calm header growth calm number body old new growing sound_calm sound sound_new among stage result whole call
