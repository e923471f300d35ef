-- What the getters of the matches give, by the rows.
use Rattle.std.proofs.Common.{◌≡◌, ℕ, List, Option, Some, None, Result, Ok, Err, sym, refl, ◌∙◌, codes, map, option_map}
use Rattle.std.specs.Prelude.{IfSome, IfNone}
use Rattle.std.specs.Borrow.{Bor}
use Rattle.std.specs.Str.Parse.{ParsesUnsigned}
use Rattle.clap.specs.Words.{ReadsOne, Text, first_of, first_value, matched_of, one_text, raw_values, rows_of}
use Rattle.clap.specs.declared.parser.matches.Found.{Found}
use Rattle.clap.proofs.WalkLemmas.{first_value-rows, one_text-rows, raw_values-rows}
use Rattle.command_line.specs.Asked.{HasFields, HasNumber}
use Rattle.command_line.specs.Questions.{texts}

pub has_text : (f : Found) (id : Text) (r : Option (Bor (List ℕ))) → option_map (λ s. s.now) r ≡ first_value f id
    → IfSome r (λ s. first_of id (rows_of f) ≡ Some s.now)
has_text f id None e = tt
has_text f id (Some s) e = sym (first_value-rows f id) ∙ sym e

pub has_no_text : (f : Found) (id : Text) (r : Option (Bor (List ℕ))) → option_map (λ s. s.now) r ≡ first_value f id
    → IfNone r (first_of id (rows_of f) ≡ None)
has_no_text f id None e = sym (first_value-rows f id) ∙ sym e
has_no_text f id (Some s) e = tt

pub has_number : {E : Type 0} (bits : ℕ) (f : Found) (id : Text) (r : Option ℕ) (gives : List ℕ → Result ℕ E → Type 0)
    → ((t : Text) (n : ℕ) → gives t (Ok n) → ParsesUnsigned {E = ℕ} bits 10 t (Ok n))
    → (one_text f id ≡ None → r ≡ None) → ((t : List ℕ) → one_text f id ≡ Some t → ReadsOne gives t r)
    → IfSome r (HasNumber bits id (rows_of f))
has_number bits f id None gives parses none value = tt
has_number bits f id (Some n) gives parses none value = go (one_text f id) refl
  where
    go : (o : Option Text) → one_text f id ≡ o → HasNumber bits id (rows_of f) n
    go None e = let bad : Some n ≡ None = none e in absurd (cc)
    go (Some t) e = (t, sym (one_text-rows f id) ∙ e, parses t n (value t e))

pub has_no_number : {E : Type 0} (bits : ℕ) (f : Found) (id : Text) (r : Option ℕ) (gives : List ℕ → Result ℕ E → Type 0)
    → ((t : Text) (e : E) → gives t (Err e) → ParsesUnsigned {E = E} bits 10 t (Err e))
    → ((t : List ℕ) → one_text f id ≡ Some t → ReadsOne gives t r)
    → IfNone r ((n : ℕ) → HasNumber bits id (rows_of f) n → ⊥)
has_no_number bits f id None gives parses value = λ n h.
    let bad = value h.0 (one_text-rows f id ∙ h.1) in parses h.0 bad.0 bad.1 h.2.0
has_no_number bits f id (Some n) gives parses value = tt

pub has_fields : (f : Found) (r : Option (Bor (List (Bor Text))))
    → option_map (λ (s : Bor (List (Bor Text))). map (λ (v : Bor Text). v.now) s.now) r ≡ option_map raw_values (matched_of f (codes "FIELD"))
    → IfSome r (HasFields (rows_of f))
has_fields f None e = tt
has_fields f (Some s) e = sym (raw_values-rows f (codes "FIELD")) ∙ sym e

pub has_no_fields : (f : Found) (r : Option (Bor (List (Bor Text))))
    → option_map (λ (s : Bor (List (Bor Text))). map (λ (v : Bor Text). v.now) s.now) r ≡ option_map raw_values (matched_of f (codes "FIELD"))
    → IfNone r ((x : Bor (List (Bor Text))) → HasFields (rows_of f) x → ⊥)
has_no_fields f None e = λ x h. let bad : None ≡ Some (texts x) = e ∙ (raw_values-rows f (codes "FIELD") ∙ h) in absurd (cc)
has_no_fields f (Some s) e = tt
