use Rattle.std.proofs.Common.{◌≡◌, ◌+◌, ◌<◌, ◌^◌, length, None, Some, Ok, refl, sym, ◌∙◌, ap, subst, arith}
use Rattle.archive.specs.Pieces.{InWriting}
use Rattle.archive.specs.Runs.{run_bytes}
use Rattle.vacuum.specs.Archives.{records_of, run_of, unwritten}
use Rattle.store.specs.Archives.{StartsArchive, refusal_now, since_now, archive_of}
use Rattle.store.specs.Parts.{parts_of}
use Rattle.store.specs.Values.{StoreValue}
use Rattle.store.specs.declared.job.JobStage.TheVariants.{Writing}
use Rattle.store.specs.declared.job.JobWork.TheVariants.{Archive}
use Rattle.store.proofs.ArchiveStarts.{begun}
use Rattle.store.proofs.store.Store.archive_start.Goals as goal

pub returns-in-Ok-make_place : goal.returns-in-Ok-make_place
returns-in-Ok-make_place g c =
    let s = c.self.inside in
    let v : StoreValue = parts_of s.transactions s.log s.turn s.job s.archived.upto s.archived.runs_end s.archived.archive (g.D.Disk.state s.disk) in
    let upto = c.args.upto in
    let versions_are = c.in-Ok.ensures in
    let since_are : c.in-Ok-since.since ≡ since_now v = c.in-Ok-since.ensures ∙ ap since_now (sym c.self.view_is) in
    let floors_are = c.in-Ok-share.ensures ∙ c.floors.ensures in
    let records_are : records_of c.in-Ok-since.since upto c.in-Ok.versions ≡ archive_of v upto = λ i. records_of (since_are i) upto (versions_are i) in
    let run_is : c.in-Some-archive_run.run' ≡ run_of upto s.archived.runs_end (archive_of v upto) =
    c.in-Some-archive_run.ensures.is.0 ∙ ap (run_of upto s.archived.runs_end) records_are in
    let writer_is : c.in-Some-archive_run.writer ≡ unwritten s.archived.runs_end (archive_of v upto) =
    c.in-Some-archive_run.ensures.is.1 ∙ ap (unwritten s.archived.runs_end) records_are in
    let none : refusal_now v upto ≡ None = ap (λ (x : StoreValue). refusal_now x upto) c.self.view_is ∙ sym c.refusal_now.ensures.is ∙ c.in_default.is in
    let all : length c.in-Some-archive_run.writer.left ≡ length (run_bytes (archive_of v upto)) = ap (λ (w : InWriting). length w.left) writer_is in
    let at : c.in-Some-archive_run.writer.at ≡ s.archived.runs_end = ap (λ (w : InWriting). w.at) writer_is in
    let left_is = c.writer.invariant.0 ∙ ap (λ (w : InWriting). length w.left) c.writer.view_is in
    let at_is = ap (λ (w : InWriting). w.at) c.writer.view_is in
    let fits : s.archived.runs_end + length (run_bytes (archive_of v upto)) < 2 ^ 63 = let below = c.writer.invariant.1 in omega arith in
    let lent = c.lend_slot.ensures in
    let job_is = c.put_in_place.ensures ∙ (λ i. Some (record { work = Archive (run_is i) (writer_is i); stage = Writing })) in
    let placed = c.in-Ok-make_place.ensures.ok in
    let in_range = c.in-Some-archive_run.ensures.in_range c.in_default.ensures.in_range.0 c.in_default.ensures.in_range.1 in
    subst (λ (x : StoreValue). StartsArchive x upto (Ok tt)
    (parts_of c.lend_slot.new.self s.log s.turn c.put_in_place.new.place s.archived.upto s.archived.runs_end c.make_place.new.self
    (g.D.Disk.state s.disk))) c.self.view_is
    (begun v upto c.in-Some-archive_run.run' _ _ none fits in_range run_is refl refl floors_are
    (λ i. parts_of (lent i) s.log s.turn (job_is i) s.archived.upto s.archived.runs_end (placed i) (g.D.Disk.state s.disk)))
