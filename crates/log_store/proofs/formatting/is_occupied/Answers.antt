use Rattle.std.proofs.Common.{rules, ◌≡◌, List, ℕ, take, subst, sym}
use Rattle.log_store.specs.Formats.{IsAnyHeader}
use Rattle.log_store.proofs.formatting.is_occupied.Goals as goal

pub returns-clause-occupied : goal.returns-clause-occupied
returns-clause-occupied g c =
    λ told. let bytes : c.read.new.buf ≡ take 512 (g.D.Disk.state c.args.disk.now).areas.status.bytes = search rules in (
      λ yes. record { long = search rules; header = subst (λ (l : List ℕ). IsAnyHeader l) bytes (c.is_header.ensures.0 yes) },
      λ occupied. c.is_header.ensures.1 (subst (λ (l : List ℕ). IsAnyHeader l) (sym bytes) occupied.header),
    )
