-- The values that records are resolved against.
use Rattle.std.specs.Prelude.{List, Option}
use Rattle.history.specs.declared.key.Key.{Key}
use Rattle.law_image.specs.Values.{Value}
use Rattle.law_image.specs.Facts.{latest}
use Rattle.chains.specs.KeyWrites.{KeyWrites, writes_of}

-- the value that each key has after all of its writes
abbrev pub before_of : List KeyWrites → Key → Option Value
before_of writes key = latest (writes_of writes key)
