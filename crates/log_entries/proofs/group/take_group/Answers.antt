use Rattle.std.proofs.Common.{◌≡◌, ◌<◌, ◌≤◌, ℕ, List, length, sym, refl, ◌∙◌, ap, subst, arith}
use Rattle.std.proofs.lemmas.List.{nil_from_length}
use Rattle.std.proofs.lemmas.Bool.{false≢true}
use Rattle.std.proofs.lemmas.Bool.Decides.{nat_tests}
use Rattle.log_entries.specs.declared.entry.Member.{Member}
use Rattle.log_entries.proofs.Entries.{one_group, group_read}
use Rattle.log_entries.proofs.group.take_group.Goals as goal

pub returns-then-not-is_empty : goal.returns-then-not-is_empty
returns-then-not-is_empty c = λ members are same.
    let read = c.in_ok-members.ensures in
    let none = (one_group c.in_ok-members.members.items members c.in_ok-members.rest.now read.each are.each read.all (sym read.bytes ∙ same)).1 in
    let len : length c.in_ok-members.rest.now ≡ 0 = ap (λ (l : List ℕ). length l) none in
    grind (arith, nat_tests)

pub returns-then-not-is_count : goal.returns-then-not-is_count
returns-then-not-is_count c = λ members are same.
    let read = c.in_ok-members.ensures in
    let found = (one_group c.in_ok-members.members.items members c.in_ok-members.rest.now read.each are.each read.all (sym read.bytes ∙ same)).0 in
    let slice : members ≡ c.as_slice.result.now = sym (c.as_slice.ensures.value ∙ found) in
    false≢true (c.if-not-is_count.ensures.1 (subst (λ (l : List Member). (0 < length l) × (length l ≤ 1024)) slice (are.some, are.few)))

pub returns : goal.returns
returns c =
    let read = c.in_ok-members.ensures in
    let none = nil_from_length c.in_ok-members.rest.now (grind (arith, nat_tests)) in
    let size = subst (λ (l : List Member). (0 < length l) × (length l ≤ 1024)) c.as_slice.ensures.value (c.if-not-is_count.ensures.0 refl) in
    group_read c.args.bytes.now c.in_ok-members.rest.now c.in_ok-members.members.items c.of.result read.each read.bytes none size c.of.ensures
