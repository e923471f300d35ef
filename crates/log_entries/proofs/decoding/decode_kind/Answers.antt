use Rattle.std.proofs.Common.{arith}
use Rattle.std.proofs.lemmas.Bool.Decides.{nat_tests}
use Rattle.log_entries.proofs.Decoded.{no_kind, no_bytes}
use Rattle.log_entries.proofs.decoding.decode_kind.Goals as goal

pub returns-then-is_empty : goal.returns-then-is_empty
returns-then-is_empty c = no_bytes c.args.most c.args.bytes.now (grind (arith, nat_tests))

pub returns-in_default : goal.returns-in_default
returns-in_default c = no_kind c.args.most c.args.bytes.now (λ e. omega (arith, e)) (λ e. omega (arith, e)) (λ e. omega (arith, e)) (λ e. omega (arith, e))
