-- The versions in memory may go to another thread.
use denote.Param.Send.{IsSend, IsSync, sendable}
use Rattle.std.proofs.Crossing.{crosses}
use Rattle.chains.proofs.key_node.KeyNode.TheLaws.TheKnot as key_nodes
use Rattle.chains.proofs.older.Branch.TheLaws.TheKnot as branches
use Rattle.chains.proofs.shared_value.SharedValue.TheSendSync as shared_value
use Rattle.chains.specs.contracts.chain.Chain as Chain
use Rattle.chains.specs.contracts.frozen.Frozen as Frozen
use Rattle.chains.specs.contracts.key_node.KeyNode as KeyNode
use Rattle.chains.specs.contracts.keys.Keys as Keys
use Rattle.chains.specs.contracts.older.Older as Older
use Rattle.chains.specs.contracts.chunk.Chunk as Chunk

chunk_send : IsSend Chunk.the_row
chunk_send = search (sendable, crosses, shared_value.the_send, shared_value.the_sync) depth 40

chunk_sync : IsSync Chunk.the_row
chunk_sync = search (sendable, crosses, shared_value.the_send, shared_value.the_sync) depth 40

older_send : IsSend Older.the_row
older_send = search (sendable, crosses, branches.crosses, shared_value.the_send, shared_value.the_sync) depth 40

older_sync : IsSync Older.the_row
older_sync = search (sendable, crosses, branches.crosses, shared_value.the_send, shared_value.the_sync) depth 40

chain_send : IsSend Chain.the_row
chain_send = search (sendable, crosses, older_send, chunk_send) depth 40

chain_sync : IsSync Chain.the_row
chain_sync = search (sendable, crosses, older_sync, chunk_sync) depth 40

key_node_send : IsSend KeyNode.the_row
key_node_send = search (sendable, crosses, key_nodes.crosses, chain_send, chain_sync) depth 40

keys_send : IsSend Keys.the_row
keys_send = search (sendable, crosses, key_node_send) depth 40

pub frozen_send : IsSend Frozen.the_row
frozen_send = search (sendable, crosses, keys_send) depth 12
