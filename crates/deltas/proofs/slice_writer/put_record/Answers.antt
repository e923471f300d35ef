use Rattle.std.proofs.Common.{◌≡◌, ℕ, List, [], ◌∷◌, ◌++◌, ap, ◌∙◌, append_assoc}
use Rattle.deltas.specs.Records.{spelling}
use Rattle.deltas.proofs.slice_writer.put_record.Goals as goal

-- the kind, the key and the rest, each behind the one before it
one_behind_other : (front kind key rest relation number last : List ℕ) (written is : ℕ) → rest ≡ key ++ last → key ≡ kind ++ relation ++ number
    → kind ≡ front ++ written ∷ [] → written ≡ is
    → rest ≡ front ++ is ∷ (relation ++ number ++ last)
one_behind_other front kind key rest relation number last written is rest_is key_is kind_is same =
    rest_is ∙ ap (λ (l : List ℕ). l ++ last) (key_is ∙ ap (λ (l : List ℕ). l ++ relation ++ number) (kind_is ∙ ap (λ m. front ++ m ∷ []) same))
    ∙ simp append_assoc

pub returns-clause-front : goal.returns-clause-front
unfolding spelling
returns-clause-front c = one_behind_other _ _ _ _ _ _ _ _ _ c.put_rest.ensures.front c.put_key-rest.ensures.front c.put-key.ensures.front c.kind.ensures
