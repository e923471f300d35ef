use Rattle.law_log_layout.proofs.BaseBeside.{base-lies-beside}
use Rattle.law_log_layout.proofs.Beside.{chain-among-others, chain-is-among, chain-leaves-parts, sync-keeps-parts, sync-leaves-chain, sync-leaves-others}
use Rattle.law_log_layout.proofs.Beside.{sync-leaves-parts, write-adds-part, write-leaves-chain, write-leaves-others, write-leaves-parts}
use Rattle.law_log_layout.proofs.laws.chains_beside.Goals as goal

pub returns-clause-chain_by_write : goal.returns-clause-chain_by_write
returns-clause-chain_by_write c = write-leaves-chain

pub returns-clause-chain_by_sync : goal.returns-clause-chain_by_sync
returns-clause-chain_by_sync c = sync-leaves-chain

pub returns-clause-chain_among : goal.returns-clause-chain_among
returns-clause-chain_among c = chain-among-others

pub returns-clause-among : goal.returns-clause-among
returns-clause-among c = chain-is-among

pub returns-clause-base : goal.returns-clause-base
returns-clause-base c = base-lies-beside

pub returns-clause-parts_by_chain : goal.returns-clause-parts_by_chain
returns-clause-parts_by_chain c = chain-leaves-parts

pub returns-clause-parts_by_write : goal.returns-clause-parts_by_write
returns-clause-parts_by_write c = write-leaves-parts

pub returns-clause-part_written : goal.returns-clause-part_written
returns-clause-part_written c = write-adds-part

pub returns-clause-parts_by_sync : goal.returns-clause-parts_by_sync
returns-clause-parts_by_sync c = sync-leaves-parts

pub returns-clause-parts_synced : goal.returns-clause-parts_synced
returns-clause-parts_synced c = sync-keeps-parts

pub returns-clause-others_by_write : goal.returns-clause-others_by_write
returns-clause-others_by_write c = write-leaves-others

pub returns-clause-others_by_sync : goal.returns-clause-others_by_sync
returns-clause-others_by_sync c = sync-leaves-others
