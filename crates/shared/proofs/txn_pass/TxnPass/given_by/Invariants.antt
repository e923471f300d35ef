use Rattle.shared.proofs.txn_pass.TxnPass.given_by.Given as goal

abbrev pub ghosts-give_out : goal.ghosts-give_out
ghosts-give_out g a = record { token = record { number = a.number; snapshot = a.snapshot } }
