use Rattle.std.proofs.Common.{arith, rules, ◌≡◌}
use Rattle.clock.proofs.Digits.{date_from_reads}
use Rattle.clock.proofs.instant.date_parts.Goals as goal

pub returns-clause-found : goal.returns-clause-found
returns-clause-found c =
    let century : c.from.result ≡ c.in_ok-century.century = search rules in
    let year : c.from-2.result ≡ c.in_ok-year.year = search rules in (
      omega (arith, c.in_ok-century.ensures.found.0, c.in_ok-year.ensures.found.0),
      c.in_ok-month.ensures.found.0,
      c.in_ok-day.ensures.found.0,
      rw (century, year) (date_from_reads c.args.bytes.now c.in_ok-century.century c.in_ok-year.year _ _ (omega arith)
          c.in_ok-year.ensures.found.0 c.in_ok-century.ensures.found.1 c.in_ok-year.ensures.found.1 (omega arith)
          c.in_ok-month.ensures.found.1 (omega arith) c.in_ok-day.ensures.found.1),
    )
