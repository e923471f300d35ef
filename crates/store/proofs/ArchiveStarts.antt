-- An archive begins.
use Rattle.std.proofs.Common.{◌≡◌, ℕ, ◌+◌, ◌<◌, ◌^◌, length, None, Ok, subst, ◌∙◌}
use Rattle.wire.specs.declared.slot.Run.{Run}
use Rattle.archive.specs.declared.run.RunEntry.{RunEntry}
use Rattle.archive.specs.Runs.{run_bytes}
use Rattle.vacuum.specs.Archives.{run_of}
use Rattle.wire.specs.Spelling.{IsRun}
use Rattle.store.specs.Archives.{StartsArchive, refusal_now, archive_of, with_archive}
use Rattle.store.specs.Calls.{floors}
use Rattle.store.specs.Values.{StoreValue}

-- it has begun
pub begun : (v : StoreValue) (upto : ℕ) (run : Run) (entry : RunEntry) (new : StoreValue) → refusal_now v upto ≡ None
    → v.runs_end + length (run_bytes (archive_of v upto)) < 2 ^ 63 → IsRun run → run ≡ run_of upto v.runs_end (archive_of v upto)
    → entry.slot ≡ run → entry.mark ≡ v.archived → entry.floors ≡ floors v → new ≡ with_archive v upto entry → StartsArchive v upto (Ok tt) new
begun v upto run entry new none fits in_range is slot mark floors_are new_is =
    rw none (fits, (λ small. subst IsRun is in_range), record { entry = entry; slot = slot ∙ is; mark = mark; floors_are = floors_are; new_is = new_is })
