-- The tests of a chain's images, one after the other.
use Rattle.std.specs.Prelude.{◌≡◌, ℕ, List, length, map}
use Rattle.std.specs.List.{AllByRecursion}
use Rattle.deltas.specs.declared.«record».Record.{Record}
use Rattle.deltas.specs.declared.chain.ChainName.{ChainName}
use Rattle.deltas.specs.Records.{spelling}
use Rattle.deltas.specs.Packing.{bodies}
use Rattle.deltas.specs.Reading.{number_of}
use Rattle.deltas.specs.Chains.{first_number, images_of, IsNumber}

-- as many images as the name says, the first of them of its number
pub record HasName (name : ChainName) (images : List (List ℕ)) : Type 0 where
  pub first : first_number (map number_of images) ≡ name.first
  pub extents : length images ≡ name.extents
  pub numbered : AllByRecursion IsNumber (map number_of images)

-- the images are those of these records packed, one for each extent that they need, each naming the next
pub record ArePacked (images : List (List ℕ)) (records : List Record) : Type 0 where
  pub extents : length (bodies (map spelling records)) ≡ length images
  pub images_are : images ≡ images_of (map number_of images) (bodies (map spelling records))
