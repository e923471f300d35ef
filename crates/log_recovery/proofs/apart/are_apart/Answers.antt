use Rattle.std.proofs.Common.{◌≡◌, List, ◌∷◌, map, refl, sym, ap, subst, inl, inr}
use Rattle.wire.specs.declared.slot.Run.{Run}
use Rattle.log_entries.specs.declared.entry.Roll.{Roll}
use Rattle.recovery.proofs.AnchorChains.{none_left}
use Rattle.law_log_layout.specs.HeapLog.{Span, run_span}
use Rattle.log_recovery.specs.Rules.{roll_part}
use Rattle.log_recovery.proofs.Spans.{AreLeft, left_starts, left_run, left_roll, left_fails, left_ends}
use Rattle.log_recovery.proofs.apart.are_apart.Goals as goal

pub returns-in_default-split_first : goal.returns-in_default-split_first
returns-in_default-split_first c =
    let none = ap (map roll_part) (none_left c.loop-run.rolls_left.now c.in_default-split_first.ensures.cases) in (
      λ yes. left_ends (map run_span c.args.runs.now) (map roll_part c.args.rolls.now) (map run_span c.loop-run.runs_left.now)
          (map roll_part c.loop-run.rolls_left.now) c.requires.runs c.requires.rolls c.loop-run.invariant (inr none),
      λ apart. refl,
    )

pub loop-run-preserved-then-ends_by : goal.loop-run-preserved-then-ends_by
loop-run-preserved-then-ends_by c =
    let runs : List Span = map run_span c.args.runs.now in
    let rolls : List Span = map roll_part c.args.rolls.now in
    let first = c.in-Some.ensures.cases.0 in
    let second = c.in-Some-split_first.ensures.cases.0 in
    let left = subst (λ (l : List Run). AreLeft runs rolls (map run_span l) (map roll_part c.loop-run.rolls_left.now)) first c.loop-run.invariant in
    let both = subst (λ (l : List Roll). AreLeft runs rolls (map run_span (c.in-Some.run'.now ∷ c.in-Some.after_run.now)) (map roll_part l)) second left in
    subst (λ (l : List Roll). AreLeft runs rolls (map run_span c.in-Some.after_run.now) (map roll_part l)) (sym second)
    (left_run runs rolls (run_span c.in-Some.run'.now) (map run_span c.in-Some.after_run.now) (roll_part c.in-Some-split_first.roll.now)
    (map roll_part c.in-Some-split_first.after_roll.now) both (c.if-ends_by.ensures.0 refl))

pub loop-run-preserved : goal.loop-run-preserved
loop-run-preserved c =
    let runs : List Span = map run_span c.args.runs.now in
    let rolls : List Span = map roll_part c.args.rolls.now in
    let first = c.in-Some.ensures.cases.0 in
    let second = c.in-Some-split_first.ensures.cases.0 in
    let left = subst (λ (l : List Run). AreLeft runs rolls (map run_span l) (map roll_part c.loop-run.rolls_left.now)) first c.loop-run.invariant in
    let both = subst (λ (l : List Roll). AreLeft runs rolls (map run_span (c.in-Some.run'.now ∷ c.in-Some.after_run.now)) (map roll_part l)) second left in
    subst (λ (l : List Run). AreLeft runs rolls (map run_span l) (map roll_part c.in-Some-split_first.after_roll.now)) (sym first)
    (left_roll runs rolls (run_span c.in-Some.run'.now) (map run_span c.in-Some.after_run.now) (roll_part c.in-Some-split_first.roll.now)
    (map roll_part c.in-Some-split_first.after_roll.now) both (c.if-ends_by-2.ensures.0 refl))

pub returns-else-ends_by-2 : goal.returns-else-ends_by-2
returns-else-ends_by-2 c =
    let runs : List Span = map run_span c.args.runs.now in
    let rolls : List Span = map roll_part c.args.rolls.now in
    let first = c.in-Some.ensures.cases.0 in
    let second = c.in-Some-split_first.ensures.cases.0 in
    let left = subst (λ (l : List Run). AreLeft runs rolls (map run_span l) (map roll_part c.loop-run.rolls_left.now)) first c.loop-run.invariant in
    let both = subst (λ (l : List Roll). AreLeft runs rolls (map run_span (c.in-Some.run'.now ∷ c.in-Some.after_run.now)) (map roll_part l)) second left in (
      λ no. (let absurdity = no in cc),
      λ apart. absurd (left_fails runs rolls (run_span c.in-Some.run'.now) (map run_span c.in-Some.after_run.now) (roll_part c.in-Some-split_first.roll.now)
          (map roll_part c.in-Some-split_first.after_roll.now) both (λ is. (let absurdity = c.if-ends_by.ensures.1 is in cc))
          (λ is. (let absurdity = c.if-ends_by-2.ensures.1 is in cc)) apart),
    )

pub returns : goal.returns
returns c =
    let none = ap (map run_span) (none_left c.loop-run.runs_left.now c.in_default.ensures.cases) in (
      λ yes. left_ends (map run_span c.args.runs.now) (map roll_part c.args.rolls.now) (map run_span c.loop-run.runs_left.now)
          (map roll_part c.loop-run.rolls_left.now) c.requires.runs c.requires.rolls c.loop-run.invariant (inl none),
      λ apart. refl,
    )
