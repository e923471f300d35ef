use Rattle.std.proofs.Common.{◌≡◌, ℕ, ◌<◌, List, [], ◌∷◌, ◌++◌, length, refl, sym, ◌∙◌, ap, subst, arith}
use Rattle.std.specs.List.{AllByRecursion}
use Rattle.law_image.specs.Reading.{Member as MemberTold}
use Rattle.law_image.specs.Log.{AreRisingAfter, last_time_after}
use Rattle.recovery.proofs.AnchorChains.{none_left}
use Rattle.log_entries.specs.declared.entry.Member.{Member}
use Rattle.log_entries.specs.Ranges.{IsMember}
use Rattle.law_log_layout.specs.HeapLog.{member_told}
use Rattle.log_recovery.specs.Members.{later_of, heads_told}
use Rattle.log_recovery.proofs.Groups.{IsUnderWay, way_goes_on, way_fails, way_ends, later_kept}
use Rattle.log_recovery.proofs.Counting.{IsCountedUpto, count_goes_on, count_ends}
use Rattle.log_recovery.proofs.members_read.MembersRead.with_group.Goals as goal

pub returns-in_default-clause-read : goal.returns-in_default-clause-read
returns-in_default-clause-read c = λ olds before has.
    let mark = c.args.mark in
    let all = later_of mark c.args.members.items in
    let rest = c.next.new.self.rest.items in
    let late : mark < c.in-Some.member.time = omega (arith, c.if-mark-member.true) in
    let same : later_of mark c.loop-member.member-iterator.rest.items ≡ member_told c.in-Some.member ∷ later_of mark rest =
    ap (later_of mark) c.in-Some.ensures.steps.0 ∙ later_kept mark c.in-Some.member rest late in
    let w = subst (λ (l : List MemberTold). IsUnderWay mark olds before all l c.loop-member.read) same (c.loop-member.invariant.3 olds before has) in
    let none = rw c.in_default.is at c.in_ok-next.ensures.read mark olds (before ++ w.done) w.facts in
    way_fails mark olds before all (later_of mark rest) (member_told c.in-Some.member) c.loop-member.read w none

pub loop-member-preserved-then-mark-member : goal.loop-member-preserved-then-mark-member
loop-member-preserved-then-mark-member c =
    let mark = c.args.mark in
    let all = later_of mark c.args.members.items in
    let rest = c.next.new.self.rest.items in
    let late : mark < c.in-Some.member.time = omega (arith, c.if-mark-member.true) in
    let same : later_of mark c.loop-member.member-iterator.rest.items ≡ member_told c.in-Some.member ∷ later_of mark rest =
    ap (later_of mark) c.in-Some.ensures.steps.0 ∙ later_kept mark c.in-Some.member rest late in
    let last_is : c.in-Some-2.next.last ≡ c.in-Some.member.time = rw c.in-Some-2.is at c.in_ok-next.ensures.last in
    let each = subst (AllByRecursion IsMember) c.in-Some.ensures.steps.0 c.loop-member.invariant.0 in
    let rising = subst (λ (l : List MemberTold). AreRisingAfter c.loop-member.read.last (heads_told l)) same c.loop-member.invariant.1 in (
      each.1,
      subst (λ (n : ℕ). AreRisingAfter n (heads_told (later_of mark rest))) (sym last_is) rising.2,
      ap (λ (n : ℕ). last_time_after n (heads_told (later_of mark rest))) last_is
          ∙ sym (ap (λ (l : List MemberTold). last_time_after c.loop-member.read.last (heads_told l)) same) ∙ c.loop-member.invariant.2,
      λ olds before has.
          let w = subst (λ (l : List MemberTold). IsUnderWay mark olds before all l c.loop-member.read) same (c.loop-member.invariant.3 olds before has) in
          let found = rw c.in-Some-2.is at c.in_ok-next.ensures.read mark olds (before ++ w.done) w.facts in
          way_goes_on mark olds before all (later_of mark rest) (member_told c.in-Some.member) c.loop-member.read c.in-Some-2.next w found.0 found.1,
      λ olds before has are.
          let w = subst (λ (l : List MemberTold). IsCountedUpto mark olds before all l c.loop-member.read) same
          (c.loop-member.invariant.4 olds before has are) in
          let found = rw c.in-Some-2.is at c.in_ok-next.ensures.read mark olds (before ++ w.done) w.facts in
          let sizes = rw c.in-Some-2.is at c.in_ok-next.ensures.sizes mark olds (before ++ w.done) w.facts w.sizes in
          count_goes_on mark olds before all (member_told c.in-Some.member ∷ []) (later_of mark rest) c.loop-member.read c.in-Some-2.next w found.1 sizes,
    )

pub returns-clause-read : goal.returns-clause-read
returns-clause-read c = λ olds before has.
    let mark = c.args.mark in
    let nothing = none_left c.loop-member.member-iterator.rest.items (sym c.loop-member.member-iterator.rest.ok.0 ∙ c.in-None.ensures.steps.0) in
    let read =
    way_ends mark olds before (later_of mark c.args.members.items) (later_of mark c.loop-member.member-iterator.rest.items) c.loop-member.read
    (c.loop-member.invariant.3 olds before has) (ap (later_of mark) nothing) in
    (read.stored, read.facts)

pub returns-clause-sizes : goal.returns-clause-sizes
returns-clause-sizes c = λ olds before has are.
    let mark = c.args.mark in
    let nothing = none_left c.loop-member.member-iterator.rest.items (sym c.loop-member.member-iterator.rest.ok.0 ∙ c.in-None.ensures.steps.0) in
    count_ends mark olds before (later_of mark c.args.members.items) (later_of mark c.loop-member.member-iterator.rest.items) c.loop-member.read
    (c.loop-member.invariant.4 olds before has are) (ap (later_of mark) nothing)
