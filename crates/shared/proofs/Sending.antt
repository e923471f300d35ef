-- A store may go to another thread where its disk may.
use denote.RattleType.{RattleType}
use denote.Param.Send.{IsSend, IsSync, view_send, sendable}
use denote.Param.SendFields.{declared_send, declared_sync, variants_send}
use Rattle.std.proofs.Crossing.{crosses}
use Rattle.std.proofs.option.Option.TheSendSync as option
use Rattle.std.proofs.sync.Mutex.TheSendSync as mutex
use Rattle.std.proofs.sync.Condvar.TheSendSync as condvar
use Rattle.std.proofs.sync.ledger.Book.TheSendSync as book
use Rattle.std.specs.declared.sync.ledger.Ledger as ledgers
use Rattle.atomic_table.proofs.shared.Seat.TheSendSync as seat
use Rattle.atomic_table.proofs.shared.Shared.TheSendSync as words
use Rattle.crossbeam_utils.proofs.atomic.seq_cell.Wide.TheSendSync as wide
use Rattle.crossbeam_utils.proofs.sync.event_count.EventCount.TheSendSync as event_count
use Rattle.disk.specs.declared.device.Disk as devices
use Rattle.wire.proofs.slot.Run.TheSendSync as run
use Rattle.wire.proofs.slot.Anchors.TheSendSync as anchors
use Rattle.extents.proofs.chain_times.ChainTimes.TheSendSync as chain_times
use Rattle.extents.proofs.extent.Extent.TheSendSync as extent
use Rattle.extents.proofs.extents.Extents.TheSendSync as extents
use Rattle.snapshot.proofs.open_table.OpenTable.TheSendSync as open_table
use Rattle.floors.proofs.floors.Floors.TheSendSync as floors
use Rattle.status.proofs.growth.Growth.TheSendSync as growth
use Rattle.status.proofs.status_log.StatusLog.TheSendSync as status_log
use Rattle.status.proofs.turn.SlotTurn.TheSendSync as slot_turn
use Rattle.group.proofs.commit_order.CommitOrder.TheSendSync as order
use Rattle.group.proofs.queued.StoredExtent.TheSendSync as stored
use Rattle.group.specs.contracts.queued.Queued as Queued
use Rattle.group.proofs.stage.GroupStage.TheSendSync as group_stage
use Rattle.group.specs.contracts.transactions.Transactions as Transactions
use Rattle.group.specs.contracts.transactions.Transactions.TheInside as transactions
use Rattle.archive.proofs.writer.RunWriter.TheSendSync as run_writer
use Rattle.vacuum.proofs.ahead.Ahead.TheSendSync as ahead
use Rattle.vacuum.proofs.archive_walk.Place.TheSendSync as place
use Rattle.vacuum.proofs.archive_walk.Since.TheSendSync as since
use Rattle.chains.proofs.bound.Bound.TheSendSync as bound
use Rattle.vacuum.specs.contracts.anchor_source.AnchorSource as AnchorSource
use Rattle.vacuum.specs.contracts.anchor_source.AnchorSource.TheInside as source
use Rattle.vacuum.specs.contracts.archive_walk.ArchiveWalk as ArchiveWalk
use Rattle.vacuum.specs.contracts.archive_walk.ArchiveWalk.TheInside as walk
use Rattle.store.proofs.job.JobStage.TheSendSync as job_stage
use Rattle.store.proofs.store_archive.Archived.TheSendSync as archived
use Rattle.store.specs.contracts.job.Job as Job
use Rattle.store.specs.contracts.job.JobWork as JobWork
use Rattle.store.specs.contracts.store.Store as SlotStore
use Rattle.store.specs.contracts.store.Store.TheInside as slot_store
use Rattle.timequery.proofs.store_archive.StoreArchive.TheSendSync as store_archive
use Rattle.commits.specs.contracts.commits.Commits as Commits
use Rattle.commits.specs.contracts.commits.Commits.TheInside as commits
use Rattle.commits.specs.contracts.waiting.Waiting as Waiting
use Rattle.log_roots.proofs.roots.Roots.TheSendSync as roots
use Rattle.log_room.proofs.content.Content.TheSendSync as content
use Rattle.log_room.proofs.room.HeapRoom.TheSendSync as room
use Rattle.log_writer.proofs.writer.ChainWriter.TheSendSync as chain_writer
use Rattle.log_store.proofs.job.JobWork.TheSendSync as log_work
use Rattle.log_store.proofs.live.Live.TheSendSync as live
use Rattle.log_store.proofs.named.Named.TheSendSync as named
use Rattle.log_store.proofs.reclaim.Reclaim.TheSendSync as log_reclaim
use Rattle.log_store.specs.contracts.job.Job as LogJob
use Rattle.log_store.specs.contracts.job.JobStage as LogStage
use Rattle.log_store.specs.contracts.store.LogStore as LogStore
use Rattle.log_store.specs.contracts.store.LogStore.TheInside as log_store
use Rattle.any_store.proofs.engine.Engine.TheSendSync as engine
use Rattle.any_store.specs.contracts.any.Store as Store
use Rattle.any_store.specs.contracts.any.Store.TheInside as store
use Rattle.shared.specs.declared.naming.Opening as openings
use Rattle.shared.specs.contracts.latest.KeptView as KeptView
use Rattle.shared.specs.contracts.latest.Latest as Latest
use Rattle.shared.specs.contracts.locked.Locked as Locked
use Rattle.shared.specs.contracts.locked.Locked.TheInside as locked
use Rattle.shared.specs.contracts.shared.SharedStore as SharedStore
use Rattle.shared.proofs.observer.Observer.TheSendSync as observer
use Rattle.shared.proofs.signals.Signals.TheSendSync as signals
use Rattle.shared.proofs.Carrying.{shared_view-send}
use Rattle.shared.proofs.Versions.{frozen_send}
use Rattle.shared.proofs.posts.Posts.TheSendSync as posts

-- ---- the transactions

queued_send : IsSend Queued.the_row
queued_send = search (sendable, crosses, frozen_send, stored.the_send) depth 20

transactions_inside : IsSend transactions.the_row
transactions_inside = declared_send transactions.the_type (
  search sendable,
  (
    search (sendable, open_table.the_send),
    (
      search (sendable, order.the_send),
      (
        search (sendable, frozen_send),
        (
          search (sendable, option.the_send, frozen_send),
          (
            search (sendable, crosses, queued_send),
            (
              search (sendable, extents.the_send),
              (
                search (sendable, chain_times.the_send),
                (
                  search (sendable, crosses, extent.the_send),
                  (
                    search sendable,
                    (
                      search sendable,
                      (
                        search sendable,
                        (
                          search (sendable, group_stage.the_send),
                          (
                            search (sendable, floors.the_send),
                            (
                              search sendable,
                              (
                                search sendable,
                                tt,
                              ),
                            ),
                          ),
                        ),
                      ),
                    ),
                  ),
                ),
              ),
            ),
          ),
        ),
      ),
    ),
  ),
)

transactions_send : IsSend Transactions.the_row
transactions_send = view_send transactions.the_row _ _ _ _ transactions_inside

-- ---- the job

walk_inside : IsSend walk.the_row
walk_inside = declared_send walk.the_type (
  search (sendable, frozen_send),
  (search (sendable, since.the_send), (search sendable, (search (sendable, place.the_send), (search (sendable, option.the_send, ahead.the_send), tt)))),
)

walk_send : IsSend ArchiveWalk.the_row
walk_send = view_send walk.the_row _ _ _ _ walk_inside

source_inside : IsSend source.the_row
source_inside = declared_send source.the_type (search (sendable, frozen_send), (search sendable, (search (sendable, bound.the_send), tt)))

source_send : IsSend AnchorSource.the_row
source_send = view_send source.the_row _ _ _ _ source_inside

work_send : IsSend JobWork.the_row
work_send = variants_send JobWork.enum (
  (search (sendable, run.the_send), (search (sendable, run_writer.the_send, walk_send), tt)),
  (
    (search (sendable, anchors.the_send), (search (sendable, source_send), (search sendable, tt))),
    ((search (sendable, option.the_send), (search sendable, (search (sendable, floors.the_send), tt))), ((search (sendable, growth.the_send), tt), tt)),
  ),
)

job_send : IsSend Job.the_row
job_send = declared_send Job.the_type (search (sendable, work_send), (search (sendable, job_stage.the_send), tt))

-- ---- the job of a log in the heap

log_stage_send : IsSend LogStage.the_row
log_stage_send = variants_send LogStage.enum (
  (search (sendable, run_writer.the_send, walk_send), tt),
  ((search sendable, tt), ((search (sendable, chain_writer.the_send), tt), tt)),
)

log_job_send : IsSend LogJob.the_row
log_job_send = declared_send LogJob.the_type (search (sendable, log_work.the_send), (search (sendable, log_stage_send), tt))

-- ---- its commits

waiting_send : IsSend Waiting.the_row
waiting_send = search (sendable, crosses, frozen_send) depth 20

commits_inside : IsSend commits.the_row
commits_inside = declared_send commits.the_type (
  search sendable,
  (
    search (sendable, open_table.the_send),
    (
      search (sendable, order.the_send),
      (
        search (sendable, frozen_send),
        (
          search (sendable, crosses, waiting_send),
          (search sendable, (search (sendable, floors.the_send), (search sendable, (search sendable, tt)))),
        ),
      ),
    ),
  ),
)

commits_send : IsSend Commits.the_row
commits_send = view_send commits.the_row _ _ _ _ commits_inside

-- ---- the store

module _ (D : RattleType) (disk : devices.Ghosts D.Denot) (crossing : IsSend D) where
  slot_store_inside : IsSend (slot_store.the_row D disk)
  slot_store_inside = declared_send (slot_store.the_type D disk) (
    search (sendable, crosses),
    (
      search (sendable, transactions_send),
      (
        search (sendable, status_log.the_send),
        (
          search (sendable, option.the_send, slot_turn.the_send),
          (
            search (sendable, option.the_send, job_send),
            (
              search (sendable, archived.the_send),
              (search (sendable, crossing), tt),
            ),
          ),
        ),
      ),
    ),
  )

  slot_store_send : IsSend (SlotStore.the_row D disk)
  slot_store_send = view_send (slot_store.the_row D disk) _ _ _ _ slot_store_inside

  log_store_inside : IsSend (log_store.the_row D disk)
  log_store_inside = declared_send (log_store.the_type D disk) (
    search (sendable, crosses),
    (
      search (sendable, roots.the_send),
      (
        search (sendable, commits_send),
        (
          search (sendable, crosses, content.the_send),
          (
            search (sendable, room.the_send),
            (
              search (sendable, live.the_send),
              (
                search (sendable, option.the_send, chain_writer.the_send),
                (
                  search (sendable, option.the_send, log_job_send),
                  (
                    search (sendable, option.the_send, log_reclaim.the_send),
                    (
                      search (sendable, named.the_send),
                      (
                        search (sendable, store_archive.the_send),
                        (search (sendable, crossing), tt),
                      ),
                    ),
                  ),
                ),
              ),
            ),
          ),
        ),
      ),
    ),
  )

  log_store_send : IsSend (LogStore.the_row D disk)
  log_store_send = view_send (log_store.the_row D disk) _ _ _ _ log_store_inside

  store_inside : IsSend (store.the_row D disk)
  store_inside = declared_send (store.the_type D disk) (search (sendable, engine.the_send, slot_store_send, log_store_send), tt)

  store_send : IsSend (Store.the_row D disk)
  store_send = view_send (store.the_row D disk) _ _ _ _ store_inside

  module _ (L : RattleType) (opening : openings.Ghosts L.Denot) (ledger : ledgers.Ghosts L.Denot) where
    locked_inside : IsSend (locked.the_row D L disk opening ledger)
    locked_inside = declared_send (locked.the_type D L disk opening ledger) (
      search (sendable, store_send),
      (
        search (sendable, book.the_send),
        (
          search (sendable, seat.the_send),
          (search (sendable, signals.the_send), tt),
        ),
      ),
    )

    locked_send : IsSend (Locked.the_row D L disk opening ledger)
    locked_send = view_send (locked.the_row D L disk opening ledger) _ _ _ _ locked_inside

-- ---- the view that is kept

module _ (L : RattleType) (opening : openings.Ghosts L.Denot) (ledger : ledgers.Ghosts L.Denot) where
  kept_view_send : IsSend (KeptView.the_row L opening ledger)
  kept_view_send = declared_send (KeptView.the_type L opening ledger) (search (sendable, shared_view-send), (search (sendable, observer.the_send), tt))

  latest_send : IsSend (Latest.the_row L opening ledger)
  latest_send = declared_send (Latest.the_type L opening ledger) (search (sendable, option.the_send, kept_view_send), (search (sendable, crosses), tt))

-- ---- the store under its lock

pub shared-sync : (D L : RattleType) (disk : devices.Ghosts D.Denot) (opening : openings.Ghosts L.Denot) (ledger : ledgers.Ghosts L.Denot) → IsSend D
    → IsSync (SharedStore.the_row D L disk opening ledger)
shared-sync D L disk opening ledger crossing =
    let under = locked_send D disk crossing L opening ledger in
    declared_sync (SharedStore.the_type D L disk opening ledger) (
      search (sendable, crosses) depth 20,
      (
        search (sendable, mutex.the_sync, under),
        (
          search (sendable, mutex.the_sync, posts.the_send),
          (
            search (sendable, mutex.the_sync, latest_send),
            (
              search (sendable, crosses),
              (
                search (sendable, event_count.the_sync),
                (
                  search (sendable, condvar.the_sync),
                  (
                    search (sendable, condvar.the_sync),
                    (
                      search (sendable, condvar.the_sync),
                      (search (sendable, crosses, wide.the_sync, words.the_sync) depth 20, tt),
                    ),
                  ),
                ),
              ),
            ),
          ),
        ),
      ),
    )
