-- Areas are sound after a write and after a sync.
use Rattle.std.specs.Prelude.{ℕ, List}
use Rattle.std.proofs.Common.{refl, arith}
use Rattle.disk.specs.Areas.{Areas, AreaState, AreSound, IsSound, AreBytes, area_of, with_area, written, synced}
use Rattle.disk.specs.declared.area.Area.{Area}
use Rattle.disk.specs.declared.area.Area.TheVariants.{Status, Heap, Archive}
use Rattle.disk.proofs.Stops.{AreBytes-overlaid, IsTorn-overlaid}

written_is_sound : (a : AreaState) (at : ℕ) (bytes : List ℕ) → IsSound a → AreBytes bytes → IsSound (written at bytes a)
written_is_sound a at bytes sound are_bytes = record {
  firm = let torn = IsTorn-overlaid a.bytes at bytes in let longer = torn.no_shorter in let within = sound.firm in omega arith;
  settled = λ none. absurd cc;
  are_bytes = AreBytes-overlaid a.bytes at bytes sound.are_bytes are_bytes;
}

synced_is_sound : (a : AreaState) → IsSound a → IsSound (synced a)
synced_is_sound a sound = record { firm = omega arith; settled = λ none. refl; are_bytes = sound.are_bytes }

with_sound : (area : Area) (a : AreaState) (areas : Areas) → AreSound areas → IsSound a → AreSound (with_area area a areas)
with_sound Status a areas sound one Status = one
with_sound Status a areas sound one Heap = sound Heap
with_sound Status a areas sound one Archive = sound Archive
with_sound Heap a areas sound one Status = sound Status
with_sound Heap a areas sound one Heap = one
with_sound Heap a areas sound one Archive = sound Archive
with_sound Archive a areas sound one Status = sound Status
with_sound Archive a areas sound one Heap = sound Heap
with_sound Archive a areas sound one Archive = one

pub sound_after_write : (area : Area) (at : ℕ) (bytes : List ℕ) (areas : Areas) → AreSound areas → AreBytes bytes
    → AreSound (with_area area (written at bytes (area_of areas area)) areas)
sound_after_write area at bytes areas sound are_bytes = with_sound area _ areas sound (written_is_sound (area_of areas area) at bytes (sound area) are_bytes)

pub sound_after_sync : (area : Area) (areas : Areas) → AreSound areas → AreSound (with_area area (synced (area_of areas area)) areas)
sound_after_sync area areas sound = with_sound area _ areas sound (synced_is_sound (area_of areas area) (sound area))
