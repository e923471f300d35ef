-- What is said of the transactions stays where only that changes of which it says nothing.
use Rattle.std.proofs.Common.{ℕ, ◌+◌, ◌≤◌, Bool, List, Option}
use Rattle.history.specs.Floors.{Raising}
use Rattle.history.specs.Machine.{Machine, Gate}
use Rattle.law_image.specs.Values.{Value}
use Rattle.chains.specs.KeyWrites.{KeyWrites}
use Rattle.floors.specs.Floors.{FloorsValue}
use Rattle.extents.specs.declared.usage.Usage.{Usage}
use Rattle.group.specs.Values.{TransactionsValue, claimed}
use Rattle.group.specs.Order.{IsInOrder}
use Rattle.law_refinement.specs.Standing.{StandsInMemory}

pub memory-beside : (v : TransactionsValue) (pending : Option (List KeyWrites)) (usages : List Usage) (reserved : List ℕ) (slots used : ℕ) (m : Machine Value)
    (raising : Option Raising) (gate : Gate) → StandsInMemory v m
    → StandsInMemory (record v { pending = pending; usages = usages; reserved = reserved; slots = slots; used = used }) (record m {
      raising = raising;
      gate = gate;
    })
memory-beside v pending usages reserved slots used m raising gate stands = record {
  names = stands.names;
  rising = stands.rising;
  published = stands.published;
  versions = stands.versions;
  forgot = stands.forgot;
  recent = stands.recent;
  queue = stands.queue;
  fresh = stands.fresh;
  group = stands.group;
  most = stands.most;
  staged = stands.staged;
  snapshots = stands.snapshots;
  floors = stands.floors;
  failed = stands.failed;
}

pub order-beside : (v : TransactionsValue) (opened : List (Option ℕ)) (slots used : ℕ) (floors : FloorsValue) (failed : Bool) → used + claimed v ≤ slots
    → slots ≤ 65536 → IsInOrder v
    → IsInOrder (record v { opened = opened; slots = slots; used = used; floors = floors; failed = failed })
order-beside v opened slots used floors failed room few order = record {
  split = order.split;
  pending = order.pending;
  latest = order.latest;
  group_within = order.group_within;
  group_few = order.group_few;
  stage_fits = order.stage_fits;
  stored = order.stored;
  out = order.out;
  room = room;
  slots_few = few;
}
