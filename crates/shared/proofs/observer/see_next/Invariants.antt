use Rattle.shared.proofs.observer.see_next.Given as goal

abbrev pub ghosts-queue : goal.ghosts-queue
ghosts-queue g a = record { next = g.next }
