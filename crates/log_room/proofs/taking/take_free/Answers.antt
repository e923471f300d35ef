use Rattle.std.proofs.Common.{ℕ, ◌∷◌, ◌++◌, [], Bool, List, sym, ap, subst, ◌∙◌, arith, length, true}
use Rattle.std.proofs.lemmas.List.{length-append}
use Rattle.log_space.specs.Uses.{IsLeastFree, used_count, with_use}
use Rattle.log_space.proofs.Uses.{is_one_more}
use Rattle.log_room.proofs.Taken.{free-one, used-push, least-push}
use Rattle.log_room.proofs.taking.take_free.Goals as goal

pub unreachable-requires : goal.unreachable-requires
unreachable-requires c =
    let inv = c.loop.invariant in
    let one = free-one c.loop.space (omega (arith, inv.used, inv.len, c.requires.room, c.loop-test.true)) in
    absurd (c.in-None.ensures.0 one.number one.free)

pub loop-preserved : goal.loop-preserved
loop-preserved c =
    let inv = c.loop.invariant in
    let start = c.args.space.now in
    let n = c.in-Some.number in
    let more = is_one_more c.loop.space n c.in-Some.ensures.0.free in
    let count = ap used_count c.in-Some.ensures.1 in
    let len = ap (λ (u : List Bool). length u) c.in-Some.ensures.1 in
    record {
      taken = inv.taken ++ n ∷ [];
      items = c.push_reserved.ensures.items ∙ ap (λ (xs : List ℕ). xs ++ n ∷ []) inv.items;
      many = omega (arith, length-append inv.taken (n ∷ []), inv.many);
      room = c.push_reserved.ensures.capacity ∙ inv.room;
      least = least-push start inv.taken n inv.least (subst (λ (u : List Bool). IsLeastFree u n) inv.new_is c.in-Some.ensures.0);
      new_is = c.in-Some.ensures.1 ∙ ap (λ (u : List Bool). with_use u n true) inv.new_is ∙ sym (used-push start inv.taken n);
      used = omega (arith, more.count, count, inv.used);
      len = omega (arith, more.len, len, inv.len);
    }
