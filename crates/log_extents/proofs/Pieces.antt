-- The pieces of a content.
use Rattle.std.proofs.Common.{◌≡◌, ℕ, zero, suc, ◌*◌, ◌≤◌, List, [], ◌∷◌, ◌++◌, length, map, take, drop, refl, sym, ◌∙◌, ap, arith}
use Rattle.std.specs.List.{flat_map}
use Rattle.std.proofs.lemmas.List.{nil_from_length, length-drop, take-append-drop}
use Rattle.log_extents.specs.Chains.{count_of, pieces_by, pieces, chain_to}

abbrev pub flat : List (List ℕ) → List ℕ
flat pieces = flat_map (λ (piece : List ℕ). piece) pieces

pub joined_by : (n : ℕ) (content : List ℕ) → length content ≤ 8168 * n → flat (pieces_by n content) ≡ content
joined_by zero content few = sym (nil_from_length content (omega (arith, few)))
joined_by (suc n) content few =
    ap (λ (l : List ℕ). take 8168 content ++ l) (joined_by n (drop 8168 content) (omega (arith, length-drop 8168 content, few))) ∙ take-append-drop 8168 content

-- so many extents hold so many bytes
pub count_holds : (len : ℕ) → len ≤ 8168 * count_of len
count_holds len = omega arith

pub pieces_joined : (content : List ℕ) → flat (pieces content) ≡ content
pieces_joined content = joined_by (count_of (length content)) content (count_holds (length content))

counted_by : (n : ℕ) (content : List ℕ) → length (pieces_by n content) ≡ n
counted_by zero content = refl
counted_by (suc n) content = ap (λ m. suc m) (counted_by n (drop 8168 content))

pub pieces_counted : (content : List ℕ) → length (pieces content) ≡ count_of (length content)
pieces_counted content = counted_by (count_of (length content)) content

bodies_by : (end gate link : ℕ) (numbers content : List ℕ) → map (λ e. e.body) (chain_to end gate link numbers content) ≡ pieces_by (length numbers) content
bodies_by end gate link [] content = refl
bodies_by end gate link (n ∷ ns) content = ap (λ (l : List (List ℕ)). take 8168 content ∷ l) (bodies_by end 0 0 ns (drop 8168 content))

pub chain_holds : (gate link : ℕ) (numbers content : List ℕ) → length numbers ≡ count_of (length content)
    → map (λ e. e.body) (chain_to 0 gate link numbers content) ≡ pieces content
chain_holds gate link numbers content count = bodies_by 0 gate link numbers content ∙ ap (λ n. pieces_by n content) count
