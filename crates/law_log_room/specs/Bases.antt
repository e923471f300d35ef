-- Whether the log leaves room for the base of the next reclaim.
use Rattle.std.specs.Prelude.{ℕ, ◌+◌, ◌*◌, ◌/◌, ◌≤◌, nat_lt, Bool, true, false, List, [], ◌∷◌, ◌++◌, length, drop, Option, None, Some}
use Rattle.log_extents.specs.Chains.{count_of}
use Rattle.log_base.specs.Bases.{mark_of, own_from, rolls_of}
use Rattle.log_recovery.specs.Live.{LiveChainValue, part_of}
use Rattle.log_store.specs.Jobs.{entry_of, is_entering}
use Rattle.log_store.specs.Reclaiming.{base_chain}
use Rattle.log_store.specs.Reclaims.{archives_in}
use Rattle.log_store.specs.Values.{LogStoreValue, ReclaimValue}
use Rattle.log_store.specs.declared.job.Job.{Job}
use Rattle.log_store.specs.declared.job.JobWork.{JobWork}
use Rattle.log_store.specs.declared.job.JobWork.TheVariants.{Floor, Archive}

-- ---- the bytes of a base

-- How many rolls more than the log's a base has room for: one always, and one that the next reclaim adds where commits were archived since the last one.
abbrev pub more_rolls : Bool → ℕ
more_rolls true = 2
more_rolls false = 1

-- the bytes of a base in the place of all of these chains, up to this time, with that room
abbrev pub base_most : List LiveChainValue → ℕ → ℕ
base_most chains upto =
    21 + 17 * (length (rolls_of chains) + more_rolls (nat_lt (mark_of chains) upto)) + 35 * length (archives_in chains) + 11 * length (own_from [] chains)

-- ---- the log once the job that runs is over

-- the entry of a job, where its extent is not taken yet
abbrev pub entry_chain : JobWork → LiveChainValue
entry_chain work = record { numbers = []; part = part_of (entry_of work) }

-- one that is in the writing is the last of the chains already
abbrev pub chains_with : Bool → JobWork → List LiveChainValue → List LiveChainValue
chains_with true work chains = chains
chains_with false work chains = chains ++ entry_chain work ∷ []

-- a reclaim's base takes the place of the front
abbrev pub chains_then : Option ReclaimValue → Option Job → List LiveChainValue → List LiveChainValue
chains_then (Some r) job chains = base_chain r ∷ drop r.front chains
chains_then None (Some job) chains = chains_with (is_entering job.stage) job.work chains
chains_then None None chains = chains

-- the archive mark then
abbrev pub upto_with : JobWork → ℕ → ℕ
upto_with (Floor floor kept) upto = upto
upto_with (Archive archive archives) upto = archive.upto

abbrev pub upto_then : Option ReclaimValue → Option Job → ℕ → ℕ
upto_then (Some r) job upto = r.named.upto
upto_then None (Some job) upto = upto_with job.work upto
upto_then None None upto = upto

-- ---- its share

-- so much room is left for a base in the place of these chains, up to this time: its share of the heap is a sixteenth
abbrev pub HasRoom : List LiveChainValue → ℕ → LogStoreValue → Type 0
HasRoom chains upto v = count_of (base_most chains upto) ≤ length v.room.used / 16

-- The base of the next reclaim has room now, and once the job that runs is over.
abbrev pub LeavesBaseRoom : LogStoreValue → Type 0
LeavesBaseRoom v =
    HasRoom v.live.chains v.named.upto v × HasRoom (chains_then v.reclaim v.job v.live.chains) (upto_then v.reclaim v.job v.named.upto) v
