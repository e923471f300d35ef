use Rattle.std.proofs.Common.{rules, ◌≡◌, ◌∙◌, ◌++◌, nat_lt, nat_le, filter, IsTrue, List, ℕ, [], ap, sym, subst}
use Rattle.disk.specs.Calls.{DiskState}
use Rattle.law_image.specs.Reading.{Head}
use Rattle.archive.specs.Parts.{IsRight}
use Rattle.archive.specs.Searches as searches
use Rattle.group.specs.CommitOrder.{times_of}
use Rattle.commits.specs.Values.{CommitsValue, order_of}
use Rattle.log_names.specs.Rolls.{HoldRolls, times_named}
use Rattle.log_store.specs.Named.{NamedValue}
use Rattle.log_store.proofs.Times.{answered-search, refused-search}
use Rattle.log_store.proofs.names.times_on.Goals as goal

pub returns-in_err-rolled : goal.returns-in_err-rolled
returns-in_err-rolled g c v named-is mark-is commits-are disk-is =
    let found = c.times_of_rolls.result in
    let after = g.D.Disk.state c.times_of_rolls.new.disk in
    refused-search g.D.Disk.tells v c.args.label c.args.mark c.rolls-rolls.result.now found after (sym mark-is)
    (c.rolls-rolls.ensures ∙ ap (λ (n : NamedValue). n.rolls) (sym named-is))
    (subst (λ (d : DiskState). after ≡ searches.after_query found d) (sym disk-is) c.times_of_rolls.ensures.disk)
    (subst (λ (d : DiskState). (heads : List Head) → IsTrue g.D.Disk.tells → IsRight [] (searches.archive_of d)
    → HoldRolls (searches.archive_of d) c.args.mark c.rolls-rolls.result.now heads
    → searches.Answers found (λ times. times.items ≡ times_named c.args.label heads)) (sym disk-is) c.times_of_rolls.ensures.only)
    c.in_err-rolled.field-0.0 c.from_residual.result c.in_err-rolled.was (search rules)

pub returns : goal.returns
returns g c v named-is mark-is commits-are disk-is =
    let found = c.times_of_rolls.result in
    let after = g.D.Disk.state c.times_of_rolls.new.disk in
    let mark : c.reclaimed-forgotten.result ≡ v.commits.reclaimed =
    c.reclaimed-forgotten.ensures.is ∙ ap (λ (held : CommitsValue). held.reclaimed) (sym commits-are) in
    let early : c.push_early.new.times.items ≡ filter (λ (time : ℕ). nat_le time v.commits.reclaimed) c.in_ok-rolled.rolled.items =
    c.in_ok-push_early.ensures
    ∙ ap (λ (l : List ℕ). l ++ filter (λ (time : ℕ). nat_le time c.reclaimed-forgotten.result) c.as_slice.result.now) c.new-times.ensures.items
    ∙ (λ i. filter (λ (time : ℕ). nat_le time (mark i)) (c.as_slice.ensures.value i)) in
    answered-search g.D.Disk.tells v c.args.label c.args.mark c.rolls-rolls.result.now found after (sym mark-is)
    (c.rolls-rolls.ensures ∙ ap (λ (n : NamedValue). n.rolls) (sym named-is))
    (subst (λ (d : DiskState). after ≡ searches.after_query found d) (sym disk-is) c.times_of_rolls.ensures.disk)
    (subst (λ (d : DiskState). (heads : List Head) → IsTrue g.D.Disk.tells → IsRight [] (searches.archive_of d)
    → HoldRolls (searches.archive_of d) c.args.mark c.rolls-rolls.result.now heads
    → searches.Answers found (λ times. times.items ≡ times_named c.args.label heads)) (sym disk-is) c.times_of_rolls.ensures.only)
    c.in_ok-rolled.rolled c.push_later.new.times c.in_ok-recent.recent c.in_ok-rolled.was
    (c.in_ok-recent.ensures ∙ ap (λ (held : CommitsValue). times_of c.args.label (order_of held)) (sym commits-are))
    (c.in_ok-push_later.ensures ∙ (λ i. early i ++ filter (nat_lt (mark i)) (c.as_slice-2.ensures.value i)))
    c.in_ok-rolled.ensures.within
