-- What holds of extents and of chains.
use Rattle.std.specs.Prelude.{◌≡◌, ◌≤◌, ◌<◌, ◌^◌, ℕ, ◌+◌, List, length, map}
use Rattle.std.specs.List.{flat_map}
use Rattle.log_extents.specs.Extents.{LinkedExtent, linked_bytes, IsLinked}
use Rattle.log_extents.specs.Chains.{count_of, pieces, chain_of, IsChainOf}

-- an image is at most one extent
abbrev pub OneExtent : Type 0
OneExtent = (most : ℕ) (e f : LinkedExtent) → most < 2 ^ 32 → IsLinked most e → IsLinked most f → linked_bytes e ≡ linked_bytes f → e ≡ f

-- an extent has 8,192 bytes
abbrev pub ExtentLength : Type 0
ExtentLength = (most : ℕ) (e : LinkedExtent) → IsLinked most e → length (linked_bytes e) ≡ 8192

-- the pieces of a content, joined, are the content
abbrev pub PiecesJoined : Type 0
PiecesJoined = (content : List ℕ) → flat_map (λ (piece : List ℕ). piece) (pieces content) ≡ content

-- they are as many as the extents that are counted
abbrev pub PiecesCounted : Type 0
PiecesCounted = (content : List ℕ) → length (pieces content) ≡ count_of (length content)

-- contents joined take no more extents than each of them alone
abbrev pub CountJoined : Type 0
CountJoined = (a b : ℕ) → count_of (a + b) ≤ count_of a + count_of b

-- the extents of a chain hold the pieces of its content
abbrev pub ChainHoldsPieces : Type 0
ChainHoldsPieces =
    (gate link : ℕ) (numbers content : List ℕ) → length numbers ≡ count_of (length content) → map (λ e. e.body) (chain_of gate link numbers content)
    ≡ pieces content

-- images that begin with the same number are one chain at most
pub record IsSameContent (numbers others : List ℕ) (gate other_gate link other_link : ℕ) (a b : List ℕ) : Type 0 where
  pub numbers_are : numbers ≡ others
  pub gate_is : gate ≡ other_gate
  pub link_is : link ≡ other_link
  pub content_is : a ≡ b

-- images are at most one chain of one content
abbrev pub OneChain : Type 0
OneChain = (most gate other_gate link other_link : ℕ) (numbers others a b : List ℕ) (images : List (List ℕ)) → most < 2 ^ 32 → link ≤ most → other_link ≤ most
    → IsChainOf most numbers gate link a images → IsChainOf most others other_gate other_link b images
    → IsSameContent numbers others gate other_gate link other_link a b
