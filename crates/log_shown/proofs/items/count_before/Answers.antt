use Rattle.std.proofs.Common.{ℕ, ◌+◌, take, sym, ◌∙◌, ap}
use Rattle.log_shown.proofs.Showing.{front_more, front_stops, front_ends}
use Rattle.log_shown.proofs.items.count_before.Goals as goal

pub loop-item-preserved : goal.loop-item-preserved
loop-item-preserved c = (
  ap (λ (n : ℕ). n + 1) c.loop-item.invariant.0,
  front_more c.args.place c.args.items.now c.loop-item.item-index _ c.loop-item-test.true (sym c.begins_at.ensures ∙ c.if-begins_at.false)
      c.loop-item.invariant.1,
)

pub returns-then-begins_at : goal.returns-then-begins_at
returns-then-begins_at c =
    ap (λ (n : ℕ). take n c.args.items.now) c.loop-item.invariant.0
    ∙ front_stops c.args.place c.args.items.now c.loop-item.item-index _ c.loop-item-test.true (sym c.begins_at.ensures ∙ c.if-begins_at.true)
    c.loop-item.invariant.1

pub returns : goal.returns
returns c =
    ap (λ (n : ℕ). take n c.args.items.now) c.loop-item.invariant.0
    ∙ front_ends c.args.place c.args.items.now c.loop-item.item-index c.loop-item-test.false c.loop-item.invariant.1
