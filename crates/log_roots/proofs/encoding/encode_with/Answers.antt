use Rattle.std.proofs.Common.{refl}
use Rattle.log_roots.proofs.Headers.{header_made}
use Rattle.log_roots.proofs.encoding.encode_with.Goals as goal

pub returns : goal.returns
returns c = header_made c.args.gate c.args.roots.now _ c.put_roots.new.bytes c.put_front.new.bytes refl c.put_roots.ensures c.put_front.ensures
