use Rattle.std.proofs.Common.{sym, subst, ◌∙◌, None}
use Rattle.disk.specs.Areas.{image_of}
use Rattle.chains.specs.KeyWrites.{IsOrdered}
use Rattle.commits.specs.Values.{CommitsValue}
use Rattle.log_store.proofs.Places.{parts-fault, parts-refusals}
use Rattle.log_store.proofs.store.LogStore.open.Goals as goal

pub returns-in-Err-parts_of-clause-err : goal.returns-in-Err-parts_of-clause-err
returns-in-Err-parts_of-clause-err g c =
    let why = c.in-Err-parts_of.fault in
    let old = g.D.Disk.state c.args.disk in
    record {
      fault = λ told. parts-fault (image_of old.areas) c.in-Ok.read why (c.in-Ok.ensures.found told) c.in-Err-parts_of.ensures;
      image = c.in-Ok.ensures.read;
      left = c.in-Ok.ensures.left;
      moments = c.in-Ok.ensures.moments;
      most = c.in-Ok.ensures.most;
      refused = c.in-Ok.ensures.refused ∙ parts-refusals c.in-Ok.read why old.refused c.in-Err-parts_of.ensures;
    }

pub returns-in-Ok-parts_of-clause-ok : goal.returns-in-Ok-parts_of-clause-ok
returns-in-Ok-parts_of-clause-ok g c =
    let parts = c.in-Ok-parts_of.ensures in
    let disk = g.D.Disk.state c.read_log.new.disk in
    record {
      recovered = c.in-Ok.read;
      read = c.in-Ok.ensures.found;
      new_is = λ i. record {
        roots = parts.roots i;
        commits = parts.commits i;
        contents = c.new.ensures.items i;
        room = parts.room i;
        live = parts.live i;
        turn = None;
        job = None;
        reclaim = None;
        named = parts.named i;
        archive = c.in-Ok-parts_of.parts.archive;
        disk = disk;
      };
      archive = parts.archive;
      ordered = subst (λ (cs : CommitsValue). IsOrdered cs.versions) (sym parts.commits) parts.ordered;
      settled = c.in-Ok.ensures.settled;
      left = c.in-Ok.ensures.left;
      moments = c.in-Ok.ensures.moments;
      made = c.in-Ok.ensures.made;
      refused = c.in-Ok.ensures.refused;
    }
