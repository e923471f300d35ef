-- Lines that are answered in turn.
use Rattle.std.proofs.Common.{◌≡◌, ◌≤◌, ◌∙◌, Bool, true, List, [], ◌∷◌, Bor, arith, length, map, refl, slice_index_or, subst, sym}
use Rattle.std.specs.Prelude.{MatchBool}
use Rattle.script.specs.declared.line.Line.{Line}
use Rattle.session.specs.Texts.{Text}
use Rattle.session.specs.declared.reply.Reply.{Reply}
use Rattle.session.specs.declared.reply.Reply.TheVariants as reply
use Rattle.shell.specs.Vacuums.{is_refusal}
use Rattle.shell.specs.Writing.{AnswersInTurn, AnswersText}

-- the first of the lines is refused, and its answer is the last
pub turn-refused : {M : Type 0} (step : M → Line → Reply → M → Type 0) (before : Reply) (rest : List (Bor Text)) (d : Bor Text) (old new : M) (r : Reply)
    → 1 ≤ length rest → AnswersText step (slice_index_or rest 0 d).now old r new → (b : Bool) → b ≡ is_refusal r → b ≡ true
    → AnswersInTurn step before (map (λ (line : Bor Text). line.now) rest) old r new
turn-refused step before [] d old new r some answers b is refused = absurd (omega (arith, some))
turn-refused step before (line ∷ more) d old new r some answers b is refused = (
  r,
  new,
  answers,
  subst (λ (x : Bool). MatchBool x ((r ≡ r) × (new ≡ new)) (AnswersInTurn step r (map (λ (it : Bor Text). it.now) more) new r new))
      (sym refused ∙ is) (refl, refl),
)

-- five lines are answered, and these are the same five
pub same-lines : {M : Type 0} (step : M → Line → Reply → M → Type 0) (old new : M) (r : Reply) (a b c d e a' b' c' d' e' : Text)
    → a ≡ a' → b ≡ b' → c ≡ c' → d ≡ d' → e ≡ e' → AnswersInTurn step reply.Ok (a ∷ b ∷ c ∷ d ∷ e ∷ []) old r new
    → AnswersInTurn step reply.Ok (a' ∷ b' ∷ c' ∷ d' ∷ e' ∷ []) old r new
same-lines step old new r a b c d e a' b' c' d' e' p q s t u answers =
    subst (λ (x : Text). AnswersInTurn step reply.Ok (x ∷ b' ∷ c' ∷ d' ∷ e' ∷ []) old r new) p
    (subst (λ (x : Text). AnswersInTurn step reply.Ok (a ∷ x ∷ c' ∷ d' ∷ e' ∷ []) old r new) q
    (subst (λ (x : Text). AnswersInTurn step reply.Ok (a ∷ b ∷ x ∷ d' ∷ e' ∷ []) old r new) s
    (subst (λ (x : Text). AnswersInTurn step reply.Ok (a ∷ b ∷ c ∷ x ∷ e' ∷ []) old r new) t
    (subst (λ (x : Text). AnswersInTurn step reply.Ok (a ∷ b ∷ c ∷ d ∷ x ∷ []) old r new) u answers))))
