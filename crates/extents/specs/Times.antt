-- The time of the commit whose chain has each extent: that of extent n stands at place n - 1.
use Rattle.std.specs.Prelude.{ℕ, zero, suc, ◌-◌, Bool, true, false, nat_le, List, [], ◌∷◌, length, slice_set, if◌then◌else◌}
use Rattle.std.proofs.Math.ListN.{get_or}
use Rattle.extents.specs.declared.usage.Usage.{Usage}
use Rattle.extents.specs.declared.usage.Usage.TheVariants.{Free, Out, Kept}
use Rattle.extents.specs.Usages.{usage_of, with_usage}

-- the time of the commit whose chain has the extent
abbrev pub time_of : List ℕ → ℕ → ℕ
time_of times number = get_or times (number - 1) 0

-- the extent is in the chain of the commit of this time
abbrev pub with_time : List ℕ → ℕ → ℕ → List ℕ
with_time times number time = slice_set times (number - 1) time

-- these are in the chain of one commit
abbrev pub with_times : List ℕ → List ℕ → ℕ → List ℕ
with_times times [] time = times
with_times times (n ∷ ns) time = with_times (with_time times n time) ns time

-- an extent of this usage is kept
abbrev pub is_kept : Usage → Bool
is_kept Free = false
is_kept Out = false
is_kept Kept = true

-- a kept extent becomes free
abbrev pub retired : List Usage → ℕ → List Usage
retired usages number = if is_kept (usage_of usages number) then with_usage usages number Free else usages

-- so do those of the first n extents that are in the chain of a commit of a time up to the mark
abbrev pub retired_by : ℕ → List ℕ → List Usage → ℕ → List Usage
retired_by mark times usages zero = usages
retired_by mark times usages (suc n) =
    if nat_le (time_of times (suc n)) mark then retired (retired_by mark times usages n) (suc n) else retired_by mark times usages n

-- and those of all
abbrev pub all_retired_by : ℕ → List ℕ → List Usage → List Usage
all_retired_by mark times usages = retired_by mark times usages (length usages)
