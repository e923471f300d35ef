use Rattle.std.proofs.Common.{◌≡◌, ◌-◌, ◌+◌, ◌<◌, ◌∙◌, ℕ, List, length, min, take, subst, arith}
use Rattle.std.specs.Prelude.{slice_index}
use Rattle.std.proofs.lemmas.List.{length-take, get_or-take}
use Rattle.recovery.specs.Format.{IsZeroed}
use Rattle.disk.specs.declared.area.Area.TheVariants.{Status}
use Rattle.recovery.proofs.Zeroing.{kept_in_part, others_in_part, zeroed_more, front_kept}
use Rattle.recovery.proofs.Counting.{first_call, first_twice}
use Rattle.recovery.proofs.formatting.zero_slots.Goals as goal

pub returns-in_err-write_at-clause-stop : goal.returns-in_err-write_at-clause-stop
returns-in_err-write_at-clause-stop g c = λ told.
    let sound = g.met.D.Disk.sound c.args.disk.now told Status in
    let zeroed = c.loop-at.invariant.3 told in
    front_kept _ _ sound (kept_in_part 512 _ _ _ _ _ c.loop-at.invariant.0 zeroed.before (c.write_at.ensures.areas told).in_part)

pub returns-in_err-write_at-clause-first : goal.returns-in_err-write_at-clause-first
returns-in_err-write_at-clause-first g c = first_twice _ _ _ c.loop-at.invariant.5 (first_call _ _ _ c.write_at.ensures.counts)

pub loop-at-preserved : goal.loop-at-preserved
loop-at-preserved g c =
    let len : ℕ = c.min-len.result in
    let bytes : List ℕ = take len c.args.zeros.now in
    let min_is : len ≡ min (c.args.end - c.loop-at.at) (length c.args.zeros.now) = c.min-len.ensures in
    let long : length bytes ≡ len = simp length-take (omega arith) in
    let more : c.loop-at.at < c.args.end = c.loop-at-test.true in
    let some : 0 < length bytes = let any = c.requires.some in omega arith in
    let zeros : (k : ℕ) → k < length bytes → slice_index bytes k ≡ 0 = λ k below. get_or-take len c.args.zeros.now k 0 (omega arith) ∙ c.requires.zeros k in (
      omega arith,
      omega arith,
      c.in_ok-write_at.ensures.counts.refused ∙ c.loop-at.invariant.2,
      λ told.
          let written = (c.in_ok-write_at.ensures.areas told).written in
          subst (λ (n : ℕ). IsZeroed 512 (c.loop-at.at + n) (g.D.Disk.state c.args.disk.now).areas.status (g.D.Disk.state c.write_at.new.self).areas.status)
          long
          (zeroed_more 512 c.loop-at.at (g.D.Disk.state c.args.disk.now).areas.status (g.D.Disk.state c.loop-at.disk).areas
          (g.D.Disk.state c.write_at.new.self).areas bytes
          c.loop-at.invariant.0 (c.loop-at.invariant.3 told) some zeros written),
      λ told. others_in_part c.loop-at.at (length bytes) (g.D.Disk.state c.args.disk.now).areas (g.D.Disk.state c.loop-at.disk).areas
          (g.D.Disk.state c.write_at.new.self).areas (c.loop-at.invariant.4 told) (c.write_at.ensures.areas told).in_part,
      first_twice _ _ _ c.loop-at.invariant.5 (first_call _ _ _ c.write_at.ensures.counts),
    )

pub returns-clause-stop : goal.returns-clause-stop
returns-clause-stop g c = λ told.
    let sound = g.met.D.Disk.sound c.args.disk.now told Status in
    front_kept _ _ sound (c.loop-at.invariant.3 told).before
