-- Fields one after another.
use Rattle.std.proofs.Common.{◌≡◌, ℕ, ◌&&◌, Bool, true, false, List, [], ◌∷◌, ◌++◌, map, refl, sym, ap, ◌∙◌, append_assoc, Vec, Global}
use Rattle.std.proofs.lemmas.List.{map-append}
use Rattle.std.specs.Prelude.{IsTrue}
use Rattle.std.specs.List.{list_all}
use Rattle.script.specs.Words.{Text, field_bytes, is_field}

both : (a b : Bool) → IsTrue (a && b) → IsTrue a × IsTrue b
both true true h = (refl, refl)
both true false h = absurd (cc)
both false b h = absurd (cc)

pub all_cons : (words : List Text) (word : Text) (rest : List Text) → words ≡ word ∷ rest → IsTrue (list_all is_field words)
    → IsTrue (is_field word) × IsTrue (list_all is_field rest)
all_cons words word rest e h = both (is_field word) (list_all is_field rest) (rw e at h)

decoded_more : (all done words rest : List Text) (word bytes : Text) → all ≡ done ++ map field_bytes words → words ≡ word ∷ rest
    → bytes ≡ field_bytes word → all ≡ (done ++ bytes ∷ []) ++ map field_bytes rest
decoded_more all done words rest word bytes e cut read =
    e ∙ ap (λ ws. done ++ map field_bytes ws) cut ∙ ap (λ b. done ++ b ∷ map field_bytes rest) (sym read)
    ∙ sym (append_assoc done (bytes ∷ []) (map field_bytes rest))

pub pushed_more : (all : List Text) (before after : List (Vec ℕ Global)) (words rest : List Text) (word : Text) (field : Vec ℕ Global)
    → all ≡ map (λ f. f.items) before ++ map field_bytes words → words ≡ word ∷ rest → field.items ≡ field_bytes word
    → after ≡ before ++ field ∷ [] → all ≡ map (λ f. f.items) after ++ map field_bytes rest
pushed_more all before after words rest word field e cut read pushed =
    decoded_more all (map (λ f. f.items) before) words rest word field.items e cut read
    ∙ ap (λ fs. fs ++ map field_bytes rest) (sym (ap (map (λ f. f.items)) pushed ∙ map-append (λ f. f.items) before (field ∷ [])))
