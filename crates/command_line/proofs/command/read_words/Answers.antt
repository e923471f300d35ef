use Rattle.std.proofs.Common.{◌≡◌, List, ℕ, Bor, map, subst, refl, true, Result, Ok, Err}
use Rattle.std.specs.Prelude.{IfOk}
use Rattle.clap.specs.Words.{App, FailsBy, HasMatchesOf, fault_of, is_simple, is_simple_and_free}
use Rattle.command_line.specs.Commands.{timestore}
use Rattle.command_line.proofs.command.read_words.Goals as goal

if_ok-more : {T E : Type 0} {P Q : T → Type 0} (r : Result T E) → ((x : T) → P x → Q x) → IfOk r P → IfOk r Q
if_ok-more (Ok x) more holds = more x holds
if_ok-more (Err e) more holds = tt

-- no rule of the command line is of a kind that clap's exact function leaves out
is-simple : is_simple timestore ≡ true
is-simple = refl

is-free : is_simple_and_free timestore ≡ true
is-free = refl

pub returns-clause-met : goal.returns-clause-met
returns-clause-met c =
    let words = map {A = Bor (List ℕ)} {B = List ℕ} (λ w. w.now) c.args.words.now in
    if_ok-more c.try_get_matches_from.result (λ m has. (has is-simple).1)
    (subst (λ (app : App). IfOk c.try_get_matches_from.result (HasMatchesOf app words)) c.in_ok-timestore.ensures.0 c.try_get_matches_from.ensures.matches)

pub returns-clause-faults : goal.returns-clause-faults
returns-clause-faults c =
    let words = map {A = Bor (List ℕ)} {B = List ℕ} (λ w. w.now) c.args.words.now in
    subst (λ (app : App). is_simple_and_free app ≡ true → FailsBy (fault_of app words) c.try_get_matches_from.result) c.in_ok-timestore.ensures.0
    c.try_get_matches_from.ensures.kinds is-free
