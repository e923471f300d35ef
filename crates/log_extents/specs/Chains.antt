-- The chain of extents that a content is written as.
use Rattle.std.specs.Prelude.{◌≡◌, ◌≢◌, ℕ, zero, suc, ◌+◌, ◌/◌, ◌<◌, ◌≤◌, max, List, [], ◌∷◌, length, take, drop, map}
use Rattle.std.specs.List.{AllByRecursion}
use Rattle.log_extents.specs.Extents.{LinkedExtent, linked_bytes}

-- how many extents hold so many bytes
abbrev pub count_of : ℕ → ℕ
count_of len = (len + 8167) / 8168

-- so many pieces of a content, from its front on, of 8,168 bytes each as far as they go
abbrev pub pieces_by : ℕ → List ℕ → List (List ℕ)
pieces_by zero content = []
pieces_by (suc n) content = take 8168 content ∷ pieces_by n (drop 8168 content)

-- what each extent of a chain has of its content: 8,168 bytes in all but the last
abbrev pub pieces : List ℕ → List (List ℕ)
pieces content = pieces_by (count_of (length content)) content

-- the first of these numbers, or this one where there is none
abbrev pub first_or : ℕ → List ℕ → ℕ
first_or end [] = end
first_or end (n ∷ ns) = n

-- Extents of these numbers, each with its piece of the content. The first has the gate and the link, each names the one behind it,
-- and the last names `end`.
abbrev pub chain_to : ℕ → ℕ → ℕ → List ℕ → List ℕ → List LinkedExtent
chain_to end gate link [] content = []
chain_to end gate link (n ∷ ns) content =
    record { gate = gate; number = n; next = first_or end ns; link = link; body = take 8168 content } ∷ chain_to end 0 0 ns (drop 8168 content)

-- the whole chain of a content: its last extent names none
abbrev pub chain_of : ℕ → ℕ → List ℕ → List ℕ → List LinkedExtent
chain_of gate link numbers content = chain_to 0 gate link numbers content

-- a heap of so many extents has one of this number
abbrev pub IsNumberOf : ℕ → ℕ → Type 0
IsNumberOf most number = (0 < number) × (number ≤ most)

-- this number is not among these
abbrev pub IsNew : ℕ → List ℕ → Type 0
IsNew number numbers = AllByRecursion (λ n. n ≢ number) numbers

-- the numbers behind the first are at most this
abbrev pub AreOthersUpto : ℕ → List ℕ → Type 0
AreOthersUpto most [] = Unit {0}
AreOthersUpto most (n ∷ ns) = AllByRecursion (λ m. m ≤ most) ns

-- a number that they are upto, behind one number more
abbrev pub greatest_after : List ℕ → ℕ → ℕ → ℕ
greatest_after [] greatest own = 0
greatest_after (n ∷ ns) greatest own = max greatest own

-- no number is twice among these
abbrev pub AreDistinct : List ℕ → Type 0
AreDistinct [] = Unit {0}
AreDistinct (n ∷ ns) = IsNew n ns × AreDistinct ns

-- These images are the chain of this content, in the extents of these numbers, with this gate and link at its head.
pub record IsChainOf (most : ℕ) (numbers : List ℕ) (gate link : ℕ) (content : List ℕ) (images : List (List ℕ)) : Type 0 where
  pub some : 0 < length content
  pub count : length numbers ≡ count_of (length content)
  pub in_range : AllByRecursion (IsNumberOf most) numbers
  pub distinct : AreDistinct numbers
  pub images_are : images ≡ map linked_bytes (chain_of gate link numbers content)
