-- The bytes of a commit.
use Rattle.std.proofs.Common.{◌≡◌, ℕ, suc, List, [], ◌∷◌, ◌++◌, length, refl, sym, ap, ◌∙◌}
use Rattle.std.specs.List.{flat_map}
use Rattle.history.specs.declared.key.KeyWrite.{KeyWrite}
use Rattle.law_image.specs.Values.{Value}
use Rattle.chains.specs.KeyWrites.{KeyWrites}
use Rattle.deltas.specs.Records.{spelling}
use Rattle.log_entries.specs.Spelling.{commit_bytes, member_bytes}
use Rattle.log_room.specs.Contents.{records_over, content_over}

as_many : (versions : List KeyWrites) (writes : List (KeyWrite Value)) → length (records_over versions writes) ≡ length writes
as_many versions [] = refl
as_many versions (w ∷ ws) = ap (λ (n : ℕ). suc n) (as_many versions ws)

pub is_content : (versions : List KeyWrites) (label time : ℕ) (writes : List (KeyWrite Value)) (empty front all : List ℕ) → empty ≡ []
    → front ≡ empty ++ commit_bytes label time (length writes) → all ≡ front ++ flat_map spelling (records_over versions writes)
    → all ≡ content_over versions label time writes
unfolding member_bytes
is_content versions label time writes empty front all none begun is =
    is
    ∙ ap (λ (bytes : List ℕ). bytes ++ flat_map spelling (records_over versions writes))
    (begun ∙ ap (λ (bytes : List ℕ). bytes ++ commit_bytes label time (length writes)) none
    ∙ ap (λ (n : ℕ). commit_bytes label time n) (sym (as_many versions writes)))
