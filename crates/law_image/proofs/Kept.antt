-- The versions that an image keeps, put together from both homes: kept queries are answered as the write sets say.
use Rattle.std.proofs.Common.{◌≡◌, ℕ, ◌<◌, ◌≤◌, ◌^◌, [], sym, subst}
use mathlib.Core.Path.{fun_ext}
use Rattle.history.specs.declared.key.Key.{Key}
use Rattle.history.specs.Versions.{standing_at, rows}
use Rattle.history.specs.Histories.{History, state, between, HasRisingTimes}
use Rattle.history.specs.Homes.{AreAtHome}
use Rattle.history.specs.Views.{IsViewOf}
use Rattle.history.proofs.Histories.{rising-from_following}
use Rattle.history.proofs.Views as views
use Rattle.law_image.specs.Values.{Value, IsValue}
use Rattle.law_image.specs.Reading.{Reading}
use Rattle.law_image.specs.Log.{floor_of}
use Rattle.law_image.specs.Facts.{heap_versions, archived_versions}
use Rattle.law_image.specs.StandsFor.{StandsFor, archived_upto, reclaimed_upto, kept_versions}
use Rattle.law_image.specs.Views.{view_of}
use Rattle.law_image.proofs.Standing.{last-is}

module _ (reading : Reading) (h : History Value) (floors : ℕ → ℕ) (stands : StandsFor reading h floors) where
  up : HasRisingTimes 0 h
  up = rising-from_following IsValue [] h stands.opens.history

  pub at-kept : (key : Key) (t : ℕ) → floors key.relation ≤ t → t < 2 ^ 63 → standing_at (kept_versions reading (floors key.relation) key) t ≡ state h t key
  at-kept key t from below =
      views.at-kept h floors (archived_upto reading) (reclaimed_upto reading) (heap_versions reading) (archived_versions reading) stands.homes up key t from
      below

  pub between-kept : (key : Key) (a b : ℕ) → floors key.relation ≤ a → rows (kept_versions reading (floors key.relation) key) a b ≡ between h key a b
  between-kept key a b from =
      views.between-kept h floors (archived_upto reading) (reclaimed_upto reading) (heap_versions reading) (archived_versions reading) stands.homes up key a b
      from

  pub at-recent : (key : Key) (t : ℕ) → floors key.relation ≤ t → reclaimed_upto reading ≤ t → t < 2 ^ 63 → standing_at (heap_versions reading key) t
      ≡ state h t key
  at-recent key t from recent below =
      views.at-recent h floors (archived_upto reading) (reclaimed_upto reading) (heap_versions reading) (archived_versions reading) stands.homes up key t from
      recent below

  pub between-recent : (key : Key) (a b : ℕ) → floors key.relation ≤ a → reclaimed_upto reading ≤ a → rows (heap_versions reading key) a b ≡ between h key a b
  between-recent key a b from recent =
      views.between-recent h floors (archived_upto reading) (reclaimed_upto reading) (heap_versions reading) (archived_versions reading) stands.homes up key a b
      from recent

  -- the log gives these floors
  pub floors-are : floor_of reading.log ≡ floors
  floors-are = fun_ext (λ relation. stands.opens.floors_given relation)

  -- what queries read stands for the history
  pub is-view : IsViewOf (view_of reading) h
  is-view = record {
    newest_is = last-is reading h floors stands;
    homes = subst (λ (f : ℕ
        → ℕ). AreAtHome h f (archived_upto reading) (reclaimed_upto reading) (heap_versions reading) (archived_versions reading)) (sym floors-are) stands.homes;
  }
