-- Texts of which the writer may refuse the rest.
use Rattle.std.proofs.Common.{◌≡◌, ℕ, ◌+◌, ◌<◌, List, [], ◌++◌, length, take, drop, get_or, refl, sym, ap, ◌∙◌, Option, append_assoc, take-append-drop}
use Rattle.std.specs.List.{flat_map}
use Rattle.std.specs.Io.KnownBytes.{Appends}
use Rattle.std.proofs.KnownBytes.{Appends-nil, Appends-trans}
use Rattle.std.proofs.lemmas.List.Concat.{flat_map-append}
use Rattle.session.specs.Streams.{AppendsFront, Writes}
use Rattle.session.specs.Texts.{Text}
use Rattle.session.proofs.TextLemmas.{flat_map-more}

pub writes-start : (a : Option Text) (text : Text) → Writes a a text text
writes-start a text = ([], refl, Appends-nil a)

pub writes-more : (a b c : Option Text) (text rest left : Text) → Writes a b text rest → Writes b c rest left → Writes a c text left
writes-more a b c text rest left w more =
    (w.0 ++ more.0, w.1 ∙ ap (λ (t : Text). w.0 ++ t) more.1 ∙ sym (append_assoc w.0 more.0 left), Appends-trans a b c w.0 more.0 w.2 more.2)

pub writes-front : (a b c : Option Text) (text rest : Text) → Writes a b text rest → AppendsFront b c rest → AppendsFront a c text
writes-front a b c text rest w front = (
  w.0 ++ front.0,
  (front.1.0, w.1 ∙ ap (λ (t : Text). w.0 ++ t) front.1.1 ∙ sym (append_assoc w.0 front.0 front.1.0)),
  Appends-trans a b c w.0 front.0 w.2 front.2,
)

pub writes-some : (a b : Option Text) (text rest : Text) → Writes a b text rest → AppendsFront a b text
writes-some a b text rest w = (w.0, (rest, w.1), w.2)

-- a front of the second text follows the whole first
front-after : (a b c : Option Text) (x y : Text) → Appends a b x → AppendsFront b c y → AppendsFront a c (x ++ y)
front-after a b c x y first front =
    (x ++ front.0, (front.1.0, ap (λ (t : Text). x ++ t) front.1.1 ∙ sym (append_assoc x front.0 front.1.0)), Appends-trans a b c x front.0 first front.2)

pub front-before : (a b : Option Text) (x y : Text) → AppendsFront a b x → AppendsFront a b (x ++ y)
front-before a b x y front = (front.0, (front.1.0 ++ y, ap (λ (t : Text). t ++ y) front.1.1 ∙ append_assoc front.0 front.1.0 y), front.2)

flat_map-cut : {X : Type 0} (f : X → Text) (xs : List X) (i : ℕ) → flat_map f xs ≡ flat_map f (take i xs) ++ flat_map f (drop i xs)
flat_map-cut f xs i = ap (flat_map f) (sym (take-append-drop i xs)) ∙ flat_map-append f (take i xs) (drop i xs)

-- of several texts some were written, and a front of the next
pub front-among : {X : Type 0} (f : X → Text) (a b c : Option Text) (xs : List X) (i : ℕ) (d : X) (piece : Text) → i < length xs
    → Appends a b (flat_map f (take i xs)) → AppendsFront b c piece → piece ≡ f (get_or xs i d) → AppendsFront a c (flat_map f xs)
front-among f a b c xs i d piece lt before front is =
    let whole : flat_map f xs ≡ (flat_map f (take i xs) ++ piece) ++ flat_map f (drop (i + 1) xs) =
    flat_map-cut f xs (i + 1)
    ∙ ap (λ (t : Text). t ++ flat_map f (drop (i + 1) xs)) (flat_map-more f xs i d lt ∙ ap (λ (t : Text). flat_map f (take i xs) ++ t) (sym is)) in
    rw whole (front-before a c (flat_map f (take i xs) ++ piece) (flat_map f (drop (i + 1) xs)) (front-after a b c (flat_map f (take i xs)) piece before front))
