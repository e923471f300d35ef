use Rattle.std.proofs.Common.{◌≡◌, sym, ◌∙◌, ap, IsTrue}
use Rattle.log_entries.specs.Spelling.{entry_bytes}
use Rattle.log_extents.specs.declared.chain_reader.ChainKind.TheVariants.{Log}
use Rattle.log_recovery.proofs.Walking.{none_of_kind, held_of_log, log_of_held}
use Rattle.log_recovery.proofs.OneChain.{one_held}
use Rattle.log_recovery.proofs.walk.read_log_chain.Goals as goal

pub returns-in_default-clause-found : goal.returns-in_default-clause-found
returns-in_default-clause-found g c = λ told.
    let none = rw c.in_default.is at c.in_ok-parts.ensures.found told in
    none_of_kind c.args.heap.most c.args.number (g.D.Disk.state c.args.disk.now).areas.heap.bytes c.args.space.now none

pub returns-in_default-2-clause-found : goal.returns-in_default-2-clause-found
returns-in_default-2-clause-found g c = λ told other is free.
    let taken = rw c.in-Some.is at c.in_ok-parts.ensures.found told in
    let heap = (g.D.Disk.state c.args.disk.now).areas.heap.bytes in
    let parts = c.in-Some.parts in
    let same =
    one_held Log c.args.heap.most c.args.number heap parts.numbers.items other.numbers parts.link other.link parts.content.items (entry_bytes other.entry)
    c.requires.most taken.held (held_of_log c.args.heap.most c.args.number heap other is) in
    let read = rw c.in_default-2.is at c.in_ok-entry.ensures.only other.entry is.placed.entry (c.deref.ensures.value ∙ same.content_is) in
    let absurdity = read in cc

pub returns-clause-found : goal.returns-clause-found
returns-clause-found g c = λ told.
    let taken = rw c.in-Some.is at c.in_ok-parts.ensures.found told in
    let heap = (g.D.Disk.state c.args.disk.now).areas.heap.bytes in
    let parts = c.in-Some.parts in
    let said = rw c.in-Some-2.is at c.in_ok-entry.ensures.found in
    record {
      is = log_of_held c.args.heap.most c.args.number heap parts.numbers.items parts.link parts.content.items c.in-Some-2.entry taken.held
          (sym c.deref.ensures.value ∙ said.0) said.1;
      free = taken.free;
      taken = taken.taken;
    }
