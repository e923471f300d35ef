-- Where the bytes of fields lie.
use Rattle.wire.specs.Counted.{Counted}
use Rattle.wire.specs.declared.spelled.Place.{Place}
use Rattle.wire.specs.declared.spelled.Place.TheVariants.{Short, Long}

-- what lies in a place
abbrev pub counted_in : Place → Counted
counted_in (Short counted) = counted
counted_in (Long alloc count bytes) = record { count = count; bytes = bytes.value.items }
