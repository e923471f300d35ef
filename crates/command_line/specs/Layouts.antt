-- The layout of a store that is to be made.
use Rattle.std.specs.Prelude.{ℕ, ◌==◌, Option, Some, None, unwrap_or, if◌then◌else◌}
use Rattle.command_line.specs.declared.layout.Layout.{Layout}
use Rattle.command_line.specs.declared.layout.Layout.TheVariants as layout

-- profile 3 has slots: so many as are said, or 1024; it has no number of extents
abbrev pub of_slots : (slots extents : Option ℕ) → Option Layout
of_slots slots (Some extents) = None
of_slots slots None = Some (layout.Slots (unwrap_or slots 1024))

-- profile 4 has extents: so many as are said, or 262,144; it has no number of slots
abbrev pub of_extents : (slots extents : Option ℕ) → Option Layout
of_extents (Some slots) extents = None
of_extents None extents = Some (layout.Extents (unwrap_or extents 262_144))

-- the layout of a profile, if it has the sizes that are said
abbrev pub layout_of : ℕ → (slots extents : Option ℕ) → Option Layout
layout_of profile slots extents = if profile == 4 then of_extents slots extents else of_slots slots extents
