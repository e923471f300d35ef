use Rattle.std.proofs.Common.{◌*◌, ◌+◌, true, false, rules, arith, ◌∙◌}
use Rattle.std.specs.Prelude.{slice_range}
use Rattle.std.proofs.lemmas.Result.{err_from_is_err_and}
use Rattle.status.proofs.Steps.{chunk_goes, chunk_fault, takes_one}
use Rattle.status.proofs.log.Walk.take_chunk.Goals as goal

pub returns-in_err-take_slot-clause-goes : goal.returns-in_err-take_slot-clause-goes
returns-in_err-take_slot-clause-goes c = λ header bytes profile fits held.
    let so_far = c.loop-place.invariant in
    let p = err_from_is_err_and c.from_residual.result c.from_residual.ensures.1 in
    rw (p.1, p.2) (λ opens.
    chunk_fault header c.args.self.now.profile c.loop-place.self.profile profile so_far.profile bytes c.args.chunk.now c.args.self.now.slots.items
    c.loop-place.self.slots.items c.args.count c.loop-place.place
    fits held c.requires.whole so_far.len c.loop-place-test.true c.in_err-take_slot.field-0.0 c.in_err-take_slot.ensures.fault so_far.walk.are_slots.rules
    (so_far.goes header bytes profile fits held opens))

pub returns-then-not-branch-clause-goes : goal.returns-then-not-branch-clause-goes
returns-then-not-branch-clause-goes c = λ header bytes profile fits held opens.
    let so_far = c.loop-place.invariant in
    chunk_goes header c.args.self.now.profile c.loop-place.self.profile profile so_far.profile bytes c.args.chunk.now c.args.self.now.slots.items
    c.loop-place.self.slots.items c.args.count c.loop-place.place
    fits held c.requires.whole so_far.len c.loop-place-test.true false c.take_slot.new.self.slots.items
    (rw c.if-not-branch.true at c.in_ok-take_slot.ensures.takes) (so_far.goes header bytes profile fits held opens)

pub loop-place-preserved : goal.loop-place-preserved
loop-place-preserved c =
    let so_far = c.loop-place.invariant in
    let takes = rw c.if-not-branch.false at c.in_ok-take_slot.ensures.takes in
    record {
      profile = search rules;
      walk = search rules;
      len = takes_one c.loop-place.self.profile c.loop-place.self.slots.items
          (slice_range c.args.chunk.now (512 * c.loop-place.place) (512 * c.loop-place.place + 512)) c.take_slot.new.self.slots.items takes
          ∙ omega (arith, so_far.len);
      goes = λ header bytes profile fits held opens.
          chunk_goes header c.args.self.now.profile c.loop-place.self.profile profile so_far.profile bytes c.args.chunk.now c.args.self.now.slots.items
          c.loop-place.self.slots.items c.args.count c.loop-place.place
          fits held c.requires.whole so_far.len c.loop-place-test.true true c.take_slot.new.self.slots.items takes
          (so_far.goes header bytes profile fits held opens);
    }
