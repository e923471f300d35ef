use Rattle.std.proofs.Common.{arith, FitsSigned, w16, pos, ◌≤ℤ◌, ◌≡◌, ◌/◌, ap}
use Rattle.std.specs.Prelude.{unsigned_abs}
use Rattle.std.proofs.lemmas.Grind.{common_steps}
use Rattle.std.proofs.lemmas.Int.{to_z-of_z}
use Rattle.jiff_core.specs.Calendar.{days_from_civil}
use Rattle.jiff_core.proofs.SignedLemmas.{signed_arith}
use Rattle.clock.proofs.Days.{year-from_1970, back_from_1970}
use Rattle.clock.proofs.instant.moment_at.Goals as goal

pub returns-clause-found : goal.returns-clause-found
returns-clause-found c =
    let d = c.in_ok-date.date in
    let day : days_from_civil d.year d.month d.day ≡ pos (c.args.t / 1000000 / 86400) =
    grind (arith, common_steps, c.from_unix_epoch_day.ensures.value, c.in_ok-date.ensures.value) in
    let zero : pos 0 ≤ℤ days_from_civil d.year d.month d.day = omega (arith, signed_arith) in
    let late = year-from_1970 d.year d.month d.day (d.year_in, d.month_in, d.day_in) zero in
    let fits : FitsSigned w16 d.year = omega (arith, signed_arith, d.year_in) in
    let value : c.unsigned_abs.result ≡ unsigned_abs d.year = simp to_z-of_z at c.unsigned_abs.ensures.value in
    let back = back_from_1970 d.year c.unsigned_abs.result late value in
    let same : d.year ≡ pos c.unsigned_abs.result = back.0 in
    let number : unsigned_abs (days_from_civil (pos c.unsigned_abs.result) d.month d.day) ≡ c.args.t / 1000000 / 86400 = rw (← same) (ap unsigned_abs day) in (
      record {
        year = (back.1, omega (arith, signed_arith, d.year_in, same));
        month = d.month_in;
        day = rw value d.day_in;
        hour = omega arith;
        minute = omega arith;
        second = omega arith;
      },
      rw number (omega arith),
      rw number (omega arith),
    )
