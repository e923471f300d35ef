-- That areas are sound is a fact, which has one proof at most.
use Rattle.std.specs.Prelude.{◌≡◌, ◌≤◌, [], length}
use Rattle.std.proofs.Props.{props}
use Rattle.disk.specs.Areas.{AreaState, Areas, IsSound, AreSound, AreBytes, area_of}

-- that no more bytes are firm than there are has one proof at most
firm-prop : (a : AreaState) → IsProp (a.firm ≤ length a.bytes)
firm-prop a = Prim.hlevel props

-- as has that an area with no loose range is firm to its end
settled-prop : (a : AreaState) → IsProp (a.loose ≡ [] → a.firm ≡ length a.bytes)
settled-prop a = Prim.hlevel props

-- as has that its numbers are bytes
are_bytes-prop : (a : AreaState) → IsProp (AreBytes a.bytes)
are_bytes-prop a = Prim.hlevel props

-- as has that one area is sound
IsSound-prop : (a : AreaState) → IsProp (IsSound a)
IsSound-prop a x y i = record {
  firm = firm-prop a x.firm y.firm i;
  settled = settled-prop a x.settled y.settled i;
  are_bytes = are_bytes-prop a x.are_bytes y.are_bytes i;
}

-- as has that all areas are
pub AreSound-prop : (areas : Areas) → IsProp (AreSound areas)
AreSound-prop areas x y i area = IsSound-prop (area_of areas area) (x area) (y area) i
