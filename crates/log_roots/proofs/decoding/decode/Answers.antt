use Rattle.std.proofs.Common.{◌≡◌, Some, sym, ◌∙◌, ap, subst}
use Rattle.std.specs.Prelude.{slice_index}
use Rattle.std.proofs.lemmas.Bool.{false≢true}
use Rattle.log_roots.specs.declared.roots.Roots.{Roots}
use Rattle.log_roots.specs.Roots.{IsRoots, roots_bytes}
use Rattle.log_roots.proofs.Headers.{roots_read, bytes_read}
use Rattle.log_roots.proofs.decoding.decode.Goals as goal

pub returns-then-is_said-clause-found : goal.returns-then-is_said-clause-found
returns-then-is_said-clause-found c = record {
  gate = slice_index c.args.bytes.now 16;
  gate_fits = c.fits-bytes 16;
  turned = c.read_roots-roots.ensures.turned;
  in_range = (c.is_said-is_said.ensures.0 c.if-is_said.true).0;
  bytes_are = (c.is_said-is_said.ensures.0 c.if-is_said.true).1;
}

pub returns-then-is_said-clause-only : goal.returns-then-is_said-clause-only
returns-then-is_said-clause-only c = λ roots has. ap (λ x. Some x) (c.read_roots-roots.ensures.is ∙ roots_read c.args.bytes.now roots has)

pub returns-else-is_said-clause-only : goal.returns-else-is_said-clause-only
returns-else-is_said-clause-only c = λ roots has.
    let same : c.read_roots-roots.result ≡ roots = c.read_roots-roots.ensures.is ∙ roots_read c.args.bytes.now roots has in
    let said =
    c.is_said-is_said.ensures.1 (subst (λ (x : Roots). IsRoots x
    × (c.args.bytes.now ≡ roots_bytes (slice_index c.args.bytes.now 16) x)) (sym same) (has.in_range, bytes_read c.args.bytes.now roots has)) in
    absurd (false≢true (sym c.if-is_said.false ∙ said))
