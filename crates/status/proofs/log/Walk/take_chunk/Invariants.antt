use Rattle.std.proofs.Common.{◌≡◌, ℕ, ◌+◌, ◌≤◌, List, length}
use Rattle.disk.specs.Parts.{HoldsPart}
use Rattle.status.specs.declared.header.Header.{Header}
use Rattle.status.specs.Header.{total}
use Rattle.status.specs.Log.{slot_start, OpensWith}
use Rattle.status.specs.Walking.{IsWalk}
use Rattle.status.proofs.log.Walk.take_chunk.Given as goal

abbrev pub invariant-loop-place : goal.invariant-loop-place
invariant-loop-place l = record {
  profile : l.self.profile ≡ l.fn.self.profile;
  walk : IsWalk l.self.profile l.self.slots.items l.self.end;
  len : length l.self.slots.items ≡ length l.fn.self.slots.items + l.place;
  goes : (header : Header) (bytes : List ℕ) → header.profile ≡ l.fn.self.profile → length l.fn.self.slots.items + l.count ≤ total header
      → HoldsPart (slot_start (length l.fn.self.slots.items)) l.chunk bytes → OpensWith header bytes l.fn.self.slots.items
      → OpensWith header bytes l.self.slots.items;
}
