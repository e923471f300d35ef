-- Records, extents and runs of worked images, byte for byte.
use Rattle.std.specs.Prelude.{◌≡◌, [], ◌∷◌, ◌++◌, replicate, refl}
use Rattle.wire.specs.Spelling.{u32_bytes, u64_bytes}
use Rattle.law_image.specs.Reading.{Anchor, Delta, Gone}
use Rattle.deltas.specs.Records.{spelling}
use Rattle.law_layout.specs.Records.{u16_bytes, record_bytes, old_bytes, archive_bytes}
use Rattle.law_layout.specs.Extents.{extent_bytes, bodies}
use Rattle.law_layout.specs.Runs.{run_bytes}

anchor : record_bytes (record { key = record { relation = 1; «record» = 7 }; content = Anchor ((0x61 ∷ []) ∷ []) }) ≡ 1 ∷ 1 ∷ 0 ∷ 7 ∷ 0 ∷ 0 ∷ 0 ∷ 0 ∷ 0 ∷ 0 ∷ 0
    ∷ 1 ∷ 1 ∷ 0x61 ∷ []
unfolding record_bytes spelling u16_bytes u64_bytes
anchor = refl

extent_1 : extent_bytes (record { number = 1; next = 0; body = 1 ∷ 1 ∷ 0 ∷ 7 ∷ 0 ∷ 0 ∷ 0 ∷ 0 ∷ 0 ∷ 0 ∷ 0 ∷ 1 ∷ 1 ∷ 0x61 ∷ [] })
    ≡ 1 ∷ 0 ∷ 0 ∷ 0 ∷ 0 ∷ 0 ∷ 0 ∷ 0 ∷ 0x0e ∷ 0 ∷ 0 ∷ 0 ∷ 0 ∷ 0 ∷ 0 ∷ 0 ∷ 1 ∷ 1 ∷ 0 ∷ 7 ∷ 0 ∷ 0 ∷ 0 ∷ 0 ∷ 0 ∷ 0 ∷ 0 ∷ 1 ∷ 1 ∷ 0x61 ∷ replicate 8162 0
unfolding extent_bytes u32_bytes
extent_1 = refl

delta : record_bytes (record { key = record { relation = 1; «record» = 7 }; content = Delta 2 ((0x63 ∷ []) ∷ []) }) ≡ 2 ∷ 1 ∷ 0 ∷ 7 ∷ 0 ∷ 0 ∷ 0 ∷ 0 ∷ 0 ∷ 0 ∷ 0
    ∷ 2 ∷ 0 ∷ 1 ∷ 0x63 ∷ []
unfolding record_bytes spelling u16_bytes u64_bytes
delta = refl

gone : record_bytes (record { key = record { relation = 1; «record» = 7 }; content = Gone }) ≡ 3 ∷ 1 ∷ 0 ∷ 7 ∷ 0 ∷ 0 ∷ 0 ∷ 0 ∷ 0 ∷ 0 ∷ 0 ∷ []
unfolding record_bytes spelling u16_bytes u64_bytes
gone = refl

old : old_bytes (record { key = record { relation = 1; «record» = 7 }; from = 130; value = (0x63 ∷ []) ∷ [] })
    ≡ 4 ∷ 1 ∷ 0 ∷ 7 ∷ 0 ∷ 0 ∷ 0 ∷ 0 ∷ 0 ∷ 0 ∷ 0 ∷ 0x82 ∷ 0 ∷ 0 ∷ 0 ∷ 0 ∷ 0 ∷ 0 ∷ 0 ∷ 1 ∷ 1 ∷ 0x63 ∷ []
unfolding old_bytes spelling u16_bytes u64_bytes
old = refl

run : run_bytes
    (record { key = record { relation = 1; «record» = 7 }; version = record { from = 100; to = 110; value = (0x61 ∷ []) ∷ [] } }
    ∷ record { key = record { relation = 1; «record» = 7 }; version = record { from = 110; to = 120; value = (0x62 ∷ []) ∷ [] } } ∷ [])
    ≡ 1 ∷ 0 ∷ 7 ∷ 0 ∷ 0 ∷ 0 ∷ 0 ∷ 0 ∷ 0 ∷ 0 ∷ 0x64 ∷ 0 ∷ 0 ∷ 0 ∷ 0 ∷ 0 ∷ 0 ∷ 0 ∷ 0x6e ∷ 0 ∷ 0 ∷ 0 ∷ 0 ∷ 0 ∷ 0 ∷ 0 ∷ 1 ∷ 1 ∷ 0x61
    ∷ 1 ∷ 0 ∷ 7 ∷ 0 ∷ 0 ∷ 0 ∷ 0 ∷ 0 ∷ 0 ∷ 0 ∷ 0x6e ∷ 0 ∷ 0 ∷ 0 ∷ 0 ∷ 0 ∷ 0 ∷ 0 ∷ 0x78 ∷ 0 ∷ 0 ∷ 0 ∷ 0 ∷ 0 ∷ 0 ∷ 0 ∷ 1 ∷ 1 ∷ 0x62
    ∷ 0 ∷ 0 ∷ 0 ∷ 0 ∷ 0 ∷ 0 ∷ 0 ∷ 0 ∷ 0x1d ∷ 0 ∷ 0 ∷ 0 ∷ 0 ∷ 0 ∷ 0 ∷ 0 ∷ []
unfolding run_bytes archive_bytes u16_bytes u64_bytes
run = refl

-- two records of 4,108 bytes take two extents, as 8,216 is more than 8,176
two_extents : bodies (replicate 4108 1 ∷ replicate 4108 2 ∷ replicate 10 3 ∷ []) ≡ replicate 4108 1 ∷ (replicate 4108 2 ++ replicate 10 3) ∷ []
two_extents = refl
