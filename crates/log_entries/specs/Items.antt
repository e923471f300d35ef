-- Items of bytes, each with one spelling.
use Rattle.std.specs.Prelude.{◌≡◌, ◌≢◌, ℕ, List, ◌++◌, length}
use Rattle.std.specs.List.{flat_map, AllByRecursion}

-- no item is spelled at the front of these bytes
abbrev pub HasNone : {X : Type 0} → (X → List ℕ) → (X → Type 0) → List ℕ → Type 0
HasNone {X} bytes_of Is bytes = (x : X) (rest : List ℕ) → Is x → bytes ≢ bytes_of x ++ rest

-- fewer than so many are spelled there, one behind the other
abbrev pub HasFewer : {X : Type 0} → (X → List ℕ) → (X → Type 0) → ℕ → List ℕ → Type 0
HasFewer {X} bytes_of Is count bytes = (xs : List X) (rest : List ℕ) → AllByRecursion Is xs → length xs ≡ count → bytes ≢ flat_map bytes_of xs ++ rest

-- none is spelled by just these bytes
abbrev pub HasNoneAlone : {X : Type 0} → (X → List ℕ) → (X → Type 0) → List ℕ → Type 0
HasNoneAlone {X} bytes_of Is bytes = (x : X) → Is x → bytes ≢ bytes_of x
