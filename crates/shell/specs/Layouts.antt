-- The layouts of stores that are made.
use Rattle.std.specs.Prelude.{ℕ, ◌++◌, ◌%◌, ◌==◌, ◌&&◌, Bool, codes, nat_le}
use Rattle.std.specs.Fmt.{decimal}
use Rattle.any_store.specs.declared.formatting.Layout.{Layout as StoreLayout}
use Rattle.any_store.specs.declared.formatting.Layout.TheVariants as store
use Rattle.session.specs.Texts.{Text}
use Rattle.command_line.specs.declared.layout.Layout.{Layout}
use Rattle.command_line.specs.declared.layout.Layout.TheVariants as layout

-- the layout in the words of the store
abbrev pub store_layout : Layout → StoreLayout
store_layout (layout.Slots slots) = store.Slots slots
store_layout (layout.Extents extents) = store.Log extents

-- how many slots or extents there are
abbrev pub size_of : Layout → ℕ
size_of (layout.Slots slots) = slots
size_of (layout.Extents extents) = extents

-- the line that says that a store of this size was made
abbrev pub formatted_line : ℕ → Text
formatted_line size = codes "formatted " ++ (decimal size ++ codes "\n")

-- a store has this size, or there is none
abbrev pub is_size : Layout → Bool
is_size (layout.Slots slots) = nat_le 16 slots && nat_le slots 65_536
is_size (layout.Extents extents) = nat_le 64 extents && nat_le extents 1_048_576 && (extents % 16 == 0)
