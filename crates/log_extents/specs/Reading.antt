-- What the bytes of an extent say, whatever stands there.
use Rattle.std.specs.Prelude.{ℕ, min, List, take, drop, slice_index}
use Rattle.byteorder.specs.Endian.{little_number}
use Rattle.log_extents.specs.Extents.{LinkedExtent}

-- as many bytes behind the head as are said to be used, if so many are there
unfoldable pub body_at : List ℕ → List ℕ
body_at image = take (min (little_number 4 (drop 12 image)) 8168) (drop 24 image)

-- the numbers at their places, and the bytes behind them
unfoldable pub linked_at : List ℕ → LinkedExtent
linked_at image = record {
  gate = slice_index image 0;
  number = little_number 4 (drop 4 image);
  next = little_number 4 (drop 8 image);
  link = little_number 4 (drop 16 image);
  body = body_at image;
}
