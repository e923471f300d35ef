-- An example: an anchor of 22 bytes, and a commit that ends its value and writes one whose anchor has 25.
use Rattle.std.proofs.Common.{◌≡◌, [], ◌∷◌, refl}
use Rattle.history.specs.Key.{key_of}
use Rattle.law_image.specs.Reading.{Anchor, Gone, Member, OldRecord, Reading, Reclaimed, Archived}
use Rattle.law_image.specs.Reading as readings
use Rattle.wire.specs.Numbers.{u16_bytes, u64_bytes}
use Rattle.deltas.specs.Records.{spelling}
use Rattle.law_layout.specs.Records.{old_bytes}
use Rattle.law_log_sizes.specs.Sizes.{sizes, size_at, size_now}

anchor : OldRecord
anchor = record { key = key_of 1 7; from = 5; value = (97 ∷ []) ∷ [] }

member : Member
member = record {
  head = record { time = 10; label = 3 };
  records = record { key = key_of 1 7; content = Gone } ∷ record { key = key_of 1 8; content = Anchor ((98 ∷ 99 ∷ []) ∷ (100 ∷ []) ∷ []) } ∷ [];
}

example : Reading
example = record {
  profile = 4;
  slots = 64;
  pieces = 0;
  log = Reclaimed 6 ∷ Archived 6 ∷ readings.Commits (record { time = 10; label = 3 } ∷ []) ∷ [];
  members = member ∷ [];
  anchors = anchor ∷ [];
  runs = [] ∷ [];
}

numbers : sizes example ≡ 22 ∷ 25 ∷ []
unfolding example member anchor old_bytes spelling u16_bytes u64_bytes
numbers = refl

before : size_at 9 example ≡ 22
unfolding example member anchor old_bytes spelling u16_bytes u64_bytes
before = refl

behind : size_at 10 example ≡ 25
unfolding example member anchor old_bytes spelling u16_bytes u64_bytes
behind = refl

now : size_now example ≡ 25
unfolding example member anchor old_bytes spelling u16_bytes u64_bytes
now = refl
