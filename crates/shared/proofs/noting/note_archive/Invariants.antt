use Rattle.shared.specs.Archives.{archive_seen}
use Rattle.shared.proofs.noting.note_archive.Given as goal

abbrev pub ghosts-go_on : goal.ghosts-go_on
ghosts-go_on g a = record { archive = archive_seen g.D.Disk.tells a.store.now }
