use Rattle.std.proofs.Common.{rules, ◌≡◌, List, ℕ, take, subst, sym}
use Rattle.log_store.specs.Formats.{IsLogHeader}
use Rattle.log_store.proofs.formatting.has_log_header.Goals as goal

pub returns-clause-has : goal.returns-clause-has
returns-clause-has g c =
    λ told. let bytes : c.read.new.buf ≡ take 512 (g.D.Disk.state c.args.disk.now).areas.status.bytes = search rules in (
      λ yes. record { long = search rules; header = subst (λ (l : List ℕ). IsLogHeader l) bytes (c.is_log_header.ensures.0 yes) },
      λ has. c.is_log_header.ensures.1 (subst (λ (l : List ℕ). IsLogHeader l) (sym bytes) has.header),
    )
