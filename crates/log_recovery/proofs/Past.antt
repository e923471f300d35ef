-- The first part that does not end within the archive.
use Rattle.std.proofs.Common.{◌≡◌, ℕ, ◌+◌, ◌<◌, ◌≤◌, ◌⊎◌, inl, inr, Option, None, Some, List, [], ◌∷◌, ◌++◌, refl, subst, arith}
use Rattle.std.specs.Prelude.{MatchOption}
use Rattle.std.specs.List.{AllByRecursion}
use Rattle.law_log_layout.specs.HeapLog.{Span}
use Rattle.log_recovery.specs.Opening.{EndsWithin, FailsSpans}
use Rattle.log_recovery.proofs.Walking.{all_joined}

-- what is left of some parts says what all say
pub record IsLeftOf (archive_len : ℕ) (all left : List Span) : Type 0 where
  pub within : AllByRecursion (EndsWithin archive_len) left → AllByRecursion (EndsWithin archive_len) all
  pub fails : (place : ℕ) → FailsSpans archive_len left place → FailsSpans archive_len all place

pub all_left : (archive_len : ℕ) (all : List Span) → IsLeftOf archive_len all all
all_left archive_len all = record { within = λ each. each; fails = λ place is. is }

pub one_within : (archive_len : ℕ) (all : List Span) (s : Span) (left : List Span) → IsLeftOf archive_len all (s ∷ left) → EndsWithin archive_len s
    → IsLeftOf archive_len all left
one_within archive_len all s left is within =
    record { within = λ each. is.within (within, each); fails = λ place fails. is.fails place (inr (within, fails)) }

pub one_past : (archive_len : ℕ) (all : List Span) (s : Span) (left : List Span) → IsLeftOf archive_len all (s ∷ left) → archive_len < s.start + s.len
    → FailsSpans archive_len all s.start
one_past archive_len all s left is past = is.fails s.start (inl (refl, past))

-- the first of some, and then of others
pub fails_front : (archive_len : ℕ) (xs ys : List Span) (place : ℕ) → FailsSpans archive_len xs place → FailsSpans archive_len (xs ++ ys) place
fails_front archive_len [] ys place fails = absurd fails
fails_front archive_len (x ∷ xs) ys place (inl here) = inl here
fails_front archive_len (x ∷ xs) ys place (inr later) = inr (later.0, fails_front archive_len xs ys place later.1)

pub fails_back : (archive_len : ℕ) (xs ys : List Span) (place : ℕ) → AllByRecursion (EndsWithin archive_len) xs → FailsSpans archive_len ys place
    → FailsSpans archive_len (xs ++ ys) place
fails_back archive_len [] ys place within fails = fails
fails_back archive_len (x ∷ xs) ys place within fails = inr (within.0, fails_back archive_len xs ys place within.1 fails)

pub within_joined : (archive_len : ℕ) (xs ys : List Span) → AllByRecursion (EndsWithin archive_len) xs → AllByRecursion (EndsWithin archive_len) ys
    → AllByRecursion (EndsWithin archive_len) (xs ++ ys)
within_joined archive_len xs ys front back = all_joined (EndsWithin archive_len) xs ys front back

pub match_joined : (archive_len : ℕ) (xs ys : List Span) (o : Option ℕ) → AllByRecursion (EndsWithin archive_len) xs
    → MatchOption o (AllByRecursion (EndsWithin archive_len) ys) (FailsSpans archive_len ys)
    → MatchOption o (AllByRecursion (EndsWithin archive_len) (xs ++ ys)) (FailsSpans archive_len (xs ++ ys))
match_joined archive_len xs ys None front back = within_joined archive_len xs ys front back
match_joined archive_len xs ys (Some place) front back = fails_back archive_len xs ys place front back
