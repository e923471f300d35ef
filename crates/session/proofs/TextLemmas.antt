-- Texts that are written in several calls.
use Rattle.std.proofs.Common.{◌≡◌, ℕ, ◌+◌, ◌<◌, List, [], ◌∷◌, ◌++◌, length, take, get_or, sym, ap, ◌∙◌, Option, append-nil}
use Rattle.std.specs.List.{flat_map}
use Rattle.std.proofs.lemmas.List.{take_more}
use Rattle.std.proofs.lemmas.List.Concat.{flat_map-append}
use Rattle.std.specs.Io.KnownBytes.{Appends}
use Rattle.std.proofs.KnownBytes.{Appends-trans}
use Rattle.session.specs.Texts.{Text}

pub flat_map-more : {X : Type 0} (f : X → Text) (xs : List X) (i : ℕ) (d : X) → i < length xs
    → flat_map f (take (i + 1) xs) ≡ flat_map f (take i xs) ++ f (get_or xs i d)
flat_map-more f xs i d lt =
    ap (flat_map f) (take_more xs i d lt) ∙ flat_map-append f (take i xs) (get_or xs i d ∷ [])
    ∙ ap (λ t. flat_map f (take i xs) ++ t) (append-nil (f (get_or xs i d)))

pub written_more : {X : Type 0} (f : X → Text) (a b c : Option Text) (xs : List X) (i : ℕ) (d : X) (piece : Text) → i < length xs
    → Appends a b (flat_map f (take i xs)) → Appends b c piece → piece ≡ f (get_or xs i d) → Appends a c (flat_map f (take (i + 1) xs))
written_more f a b c xs i d piece lt before here is =
    rw (flat_map-more f xs i d lt) (rw (sym is) (Appends-trans a b c _ piece before here))
