use Rattle.std.proofs.Common.{codes}
use Rattle.clap.specs.Words.{found_of, rows_of}
use Rattle.command_line.proofs.AskLemmas.{may_have, no_profile}
use Rattle.command_line.proofs.read.format.Goals as goal

pub returns-in_err-profile-clause-none : goal.returns-in_err-profile-clause-none
returns-in_err-profile-clause-none c = rw c.from_residual.ensures (no_profile (rows_of (found_of c.args.matches.now)) c.in_err-profile.ensures.none)

pub returns-clause-some : goal.returns-clause-some
returns-clause-some c =
    let rows = rows_of (found_of c.args.matches.now) in (
      c.in_ok-text.ensures.some,
      record {
        profile = c.in_ok-profile.profile;
        slots = c.u32_of-slots.result;
        extents = c.u32_of-extents.result;
        of_profile = c.in_ok-profile.ensures.some;
        of_slots = may_have 32 (codes "slots") rows c.u32_of-slots.result c.u32_of-slots.ensures.some c.u32_of-slots.ensures.none;
        of_extents = may_have 32 (codes "extents") rows c.u32_of-extents.result c.u32_of-extents.ensures.some c.u32_of-extents.ensures.none;
        is = c.layout_of.ensures;
      },
    )
