use Rattle.law_layout.proofs.Grown.{piece_laid, shut_holds, open_holds}
use Rattle.law_layout.proofs.laws.piece_keeps_layouts.Goals as goal

pub returns-clause-laid : goal.returns-clause-laid
returns-clause-laid c = λ header layout reading laid. piece_laid header layout reading laid

pub returns-clause-shut : goal.returns-clause-shut
returns-clause-shut c = λ header layout image calm may held beside shut. shut_holds header layout image calm may held beside shut

pub returns-clause-opens : goal.returns-clause-opens
returns-clause-opens c = λ header layout image calm may held beside zeros is_open. open_holds header layout image calm may held beside zeros is_open
