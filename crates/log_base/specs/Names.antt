-- The names of commits that a roll has.
use Rattle.std.specs.Prelude.{ℕ, ◌≡◌, ◌&&◌, nat_lt, nat_le, Bool, List, length, filter, map, flat_map, Contains, ◌↔◌}
use Rattle.law_image.specs.Reading.{Head}
use Rattle.group.specs.declared.commit_order.CommitHead.{CommitHead}
use Rattle.law_log_layout.specs.HeapLog.{AreNamedInOrder, name_bytes}
use Rattle.log_base.specs.declared.names.Name.{Name}

-- the name of a commit
abbrev pub name_of : CommitHead → Head
name_of h = record { time = h.time; label = h.label }

-- and as it is sorted
abbrev pub head_of : Name → Head
head_of n = record { time = n.time; label = n.label }

-- a commit later than one time, and no later than another
abbrev pub is_between : ℕ → ℕ → CommitHead → Bool
is_between after upto h = nat_lt after h.time && nat_le h.time upto

-- all of these
abbrev pub named_between : ℕ → ℕ → List CommitHead → List CommitHead
named_between after upto heads = filter (is_between after upto) heads

-- These are their names, each once, by rising label and then by rising time.
pub record AreNamesBetween (after upto : ℕ) (heads : List CommitHead) (names : List Head) : Type 0 where
  pub in_order : AreNamedInOrder names
  pub same : (head : Head) → Contains names head ↔ Contains (map name_of (named_between after upto heads)) head
  pub many : length names ≡ length (named_between after upto heads)

-- and these are the bytes of such names
pub record AreBytesBetween (after upto : ℕ) (heads : List CommitHead) (bytes : List ℕ) : Type 0 where
  pub names : List Head
  pub are : AreNamesBetween after upto heads names
  pub bytes_are : bytes ≡ flat_map name_bytes names
