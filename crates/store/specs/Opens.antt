-- What an opened store holds, and why none is opened.
use Rattle.std.specs.Prelude.{ℕ, ◌≡◌, Bool, false, IsTrue, List, [], ◌∷◌, length, map, replicate, None, Err}
use Rattle.disk.specs.Areas.{image_of, settled_on, LeavesNoMore}
use Rattle.disk.specs.Calls.{DiskState}
use Rattle.chains.specs.KeyWrites.{IsOrdered}
use Rattle.status.specs.Header.{total}
use Rattle.status.specs.Rules.{row_end}
use Rattle.recovery.specs.Faults.{IsImageFault}
use Rattle.recovery.specs.Refusals.{refusals_at_opening}
use Rattle.recovery.specs.RunEntries.{runs_named, AreMarkedFrom}
use Rattle.recovery.specs.ReadsImage.{IsReadFrom}
use Rattle.recovery.specs.Settling.{Settles, CountsMore, CountsAtMost}
use Rattle.recovery.specs.declared.fault.OpenFault.{OpenFault}
use Rattle.extents.specs.Times.{with_times}
use Rattle.recovery.specs.declared.recovered.LiveChain.{LiveChain}
use Rattle.recovery.specs.declared.recovered.Recovered.{Recovered}
use Rattle.group.specs.declared.stage.GroupStage.TheVariants.{NoGroup}
use Rattle.store.specs.Heads.{head_as}
use Rattle.archive.specs.declared.run.RunEntry.{RunEntry}
use Rattle.timequery.specs.Archives as archives
use Rattle.store.specs.Values.{ArchiveValue, StoreValue}

-- the extents of each chain of a commit are in the chain of its time
abbrev pub with_live : List ℕ → List LiveChain → List ℕ
with_live times [] = times
with_live times (chain ∷ chains) = with_live (with_times times chain.extents.items chain.time) chains

-- for each extent the time of the commit whose live chain it is in, 0 if it is in none
abbrev pub times_of : List LiveChain → List ℕ
times_of live = with_live (replicate 65536 0) live

-- these are the runs of the log, and nothing of the archive is read
abbrev pub IsUnread : List RunEntry → ArchiveValue → Type 0
IsUnread runs archive = archives.IsUnread runs archive

-- the store on what was read: all commits of the log are published, and nothing waits
abbrev pub opened_on : ℕ → Recovered → ArchiveValue → DiskState → StoreValue
opened_on mark r archive disk = record {
  transactions = record {
    mark = mark;
    opened = [];
    heads = map head_as r.commits.items;
    published = length r.commits.items;
    versions = r.chains;
    pending = None;
    queue = [];
    usages = r.extents;
    times = times_of r.live.items;
    reserved = [];
    slots = total r.header;
    used = r.used;
    group = 0;
    stage = NoGroup;
    floors = r.floors;
    reclaimed = r.reclaimed;
    failed = false;
  };
  log = record { profile = r.header.profile; slots = total r.header; pieces = r.header.pieces; used = r.used; writing = false };
  turn = None;
  job = None;
  archived = r.archived;
  runs_end = row_end 0 (runs_named r.runs.items);
  archive = archive;
  disk = disk;
}

-- the disk is synced and then only read, and the store holds what was read
pub record Opens (tells : Bool) (old : DiskState) (mark : ℕ) (v : StoreValue) : Type 0 where
  pub recovered : Recovered
  pub read : IsTrue tells → IsReadFrom (image_of old.areas) recovered
  pub new_is : v ≡ opened_on mark recovered v.archive v.disk
  pub marked : AreMarkedFrom 0 recovered.runs.items
  pub unread : IsUnread recovered.runs.items v.archive
  pub ordered : IsOrdered v.transactions.versions
  pub settled : IsTrue tells → v.disk.areas ≡ settled_on (image_of old.areas)
  pub left : IsTrue tells → LeavesNoMore old.areas v.disk.areas
  -- it made three syncs and no write, and at each moment a stop leaves nothing that it might not have left before
  pub moments : Settles tells old v.disk
  pub made : CountsMore 3 old v.disk
  pub refused : v.disk.refused ≡ old.refused

-- the disk holds what it held, and a stop leaves nothing that it might not have left before
pub record OpenRefuses (tells : Bool) (old : DiskState) (why : OpenFault) (new : DiskState) : Type 0 where
  pub fault : IsTrue tells → IsImageFault (image_of old.areas) why
  pub image : IsTrue tells → image_of new.areas ≡ image_of old.areas
  pub left : IsTrue tells → LeavesNoMore old.areas new.areas
  -- so it does at each moment of it: it made at most three syncs, and no write
  pub moments : Settles tells old new
  pub most : CountsAtMost 3 old new
  pub refused : new.refused ≡ refusals_at_opening {T = Unit {0}} (Err why) old.refused
