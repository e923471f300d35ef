use Rattle.log_entries.proofs.Decoded.{decoded_ok}
use Rattle.log_entries.proofs.decoding.decode.Goals as goal

pub returns-clause-only : goal.returns-clause-only
returns-clause-only c = λ entry fits same. decoded_ok c.args.most c.args.bytes.now c.decode_kind.result entry c.decode_kind.ensures fits same
