use Rattle.std.proofs.Common.{string_bytes}
use Rattle.clock.proofs.Texts.{shown_again}
use Rattle.clock.proofs.laws.show_read.Goals as goal

pub returns-in-Ok : goal.returns-in-Ok
returns-in-Ok c =
    shown_again (λ s. string_bytes s) c.show_instant.result c.args.text.now c.in-Ok.t c.in-Ok.ensures.ok c.show_instant.ensures.none c.show_instant.ensures.some

pub returns-in-Err : goal.returns-in-Err
returns-in-Err c = λ t s. let read = c.in-Err.ensures.only t s in cc
