-- What a disk notes of its areas.
use Rattle.std.proofs.Common.{◌≡◌, ℕ, List, Option, Some, None, refl, sym, ap, ◌∙◌}
use Rattle.std.proofs.Math.Logic.{∥∥₁_map, ∥∥₁_elim}
use Rattle.std.proofs.Props.{props}
use Rattle.disk.specs.Areas.{Areas, Image, settled_on, area_of, with_area, written, synced}
use Rattle.disk.specs.declared.area.Area.{Area}
use Rattle.disk.specs.declared.area.Area.TheVariants.{Status, Heap, Archive}
use Rattle.c_engine.specs.LastWrites.{Noted, noted_in, with_write, last_write, last_writes}
use Rattle.c_engine.proofs.Leading.{last_written}

-- nothing is loose of areas that were synced
pub none_noted : (writes : Noted) (image : Image) → ((area : Area) → noted_in writes area ≡ None) → writes ≡ last_writes (settled_on image)
none_noted writes image none i = record { status = none Status i; heap = none Heap i; archive = none Archive i }

after_write : (area : Area) (at : ℕ) (bytes : List ℕ) (areas : Areas)
    → with_write area (Some (at, bytes)) (last_writes areas) ≡ last_writes (with_area area (written at bytes (area_of areas area)) areas)
after_write Status at bytes areas = ap (λ (w : Option (ℕ × List ℕ)). with_write Status w (last_writes areas)) (sym (last_written areas.status at bytes))
after_write Heap at bytes areas = ap (λ (w : Option (ℕ × List ℕ)). with_write Heap w (last_writes areas)) (sym (last_written areas.heap at bytes))
after_write Archive at bytes areas = ap (λ (w : Option (ℕ × List ℕ)). with_write Archive w (last_writes areas)) (sym (last_written areas.archive at bytes))

-- a write is noted, and so are the areas after it
pub write_noted : (area : Area) (at : ℕ) (bytes : List ℕ) (old new : Noted) (areas : Areas) → ∥ old ≡ last_writes areas ∥₁
    → new ≡ with_write area (Some (at, bytes)) old
    → ∥ new ≡ last_writes (with_area area (written at bytes (area_of areas area)) areas) ∥₁
write_noted area at bytes old new areas noted is = ∥∥₁_map noted
    (λ n. is ∙ ap (λ (w : Noted). with_write area (Some (at, bytes)) w) n ∙ after_write area at bytes areas)

after_sync : (area : Area) (areas : Areas) → with_write area None (last_writes areas) ≡ last_writes (with_area area (synced (area_of areas area)) areas)
after_sync Status areas = refl
after_sync Heap areas = refl
after_sync Archive areas = refl

-- and a sync
pub sync_noted : (area : Area) (old new : Noted) (areas : Areas) → ∥ old ≡ last_writes areas ∥₁ → new ≡ with_write area None old
    → ∥ new ≡ last_writes (with_area area (synced (area_of areas area)) areas) ∥₁
sync_noted area old new areas noted is = ∥∥₁_map noted (λ n. is ∙ ap (λ (w : Noted). with_write area None w) n ∙ after_sync area areas)

in_area : (area : Area) (areas : Areas) → noted_in (last_writes areas) area ≡ last_write (area_of areas area)
in_area Status areas = refl
in_area Heap areas = refl
in_area Archive areas = refl

-- what is noted of an area is its last write
pub noted_is : (area : Area) (writes : Noted) (areas : Areas) → ∥ writes ≡ last_writes areas ∥₁ → noted_in writes area ≡ last_write (area_of areas area)
noted_is area writes areas noted = ∥∥₁_elim noted (Prim.hlevel props) (λ n. ap (λ (w : Noted). noted_in w area) n ∙ in_area area areas)
