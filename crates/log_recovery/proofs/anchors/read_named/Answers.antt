use Rattle.std.proofs.Common.{◌≡◌, sym, ◌∙◌, ap, subst, refl, length, map, arith, List, ℕ}
use Rattle.std.proofs.lemmas.Bool.Decides.{nat_tests}
use Rattle.recovery.specs.Anchored.{anchor_writes}
use Rattle.log_recovery.specs.Anchored.{HasNoAnchorsIn, AreAnchorsIn}
use Rattle.log_recovery.proofs.AnchorChains.{none_held, none_as_long, none_said, anchors_read}
use Rattle.log_recovery.proofs.anchors.read_named.Goals as goal

pub returns-in_default-clause-found : goal.returns-in_default-clause-found
returns-in_default-clause-found g c = λ told.
    let none = rw c.in_default.is at c.in_ok-parts.ensures.found told in
    none_held c.args.heap.most c.args.mark (g.D.Disk.state c.args.disk.now).areas.heap.bytes c.args.space.now c.args.name.now c.requires.some none

pub returns-then-len-name-clause-found : goal.returns-then-len-name-clause-found
returns-then-len-name-clause-found g c = λ told.
    let taken = rw c.in-Some.is at c.in_ok-parts.ensures.found told in
    none_as_long c.args.heap.most c.args.mark (g.D.Disk.state c.args.disk.now).areas.heap.bytes c.args.space.now c.read_chain.new.space c.args.name.now
    c.in-Some.parts c.requires.most c.requires.some taken (λ same. (let len = c.len.ensures in grind (arith, nat_tests)))

pub returns-in_default-2-clause-found : goal.returns-in_default-2-clause-found
returns-in_default-2-clause-found g c = λ told.
    let taken = rw c.in-Some.is at c.in_ok-parts.ensures.found told in
    let none = rw c.in_default-2.is at c.in_ok-records.ensures in
    none_said c.args.heap.most c.args.mark (g.D.Disk.state c.args.disk.now).areas.heap.bytes c.args.space.now c.read_chain.new.space c.args.name.now
    c.in-Some.parts c.requires.most c.requires.some taken
    (subst (HasNoAnchorsIn c.args.mark c.args.name.now.records) c.deref.ensures.value none)

pub returns-clause-found : goal.returns-clause-found
returns-clause-found g c = λ told.
    let taken = rw c.in-Some.is at c.in_ok-parts.ensures.found told in
    let are = rw c.in-Some-2.is at c.in_ok-records.ensures in
    anchors_read c.args.heap.most c.args.mark (g.D.Disk.state c.args.disk.now).areas.heap.bytes c.args.space.now c.read_chain.new.space c.args.name.now
    c.in-Some.parts c.in-Some-2.records.items _ c.requires.mark taken (let len = c.len.ensures in grind (arith, nat_tests))
    (subst (λ (l : List ℕ). AreAnchorsIn c.args.mark c.args.name.now.records l c.in-Some-2.records.items) c.deref.ensures.value are)
    refl (c.len-2.ensures ∙ c.in-Some.parts.content.ok.0)
    (c.in_ok-versions.ensures.is ∙ ap (map anchor_writes) c.deref-2.ensures.value) c.in_ok-versions.ensures.latest
