-- Which folder an action needs.
use Rattle.std.specs.Prelude.{◌&&◌, Option, Some, None, is_some, if◌then◌else◌}
use Rattle.std.specs.Borrow.{Bor}
use Rattle.command_line.specs.declared.action.Action.{Action}
use Rattle.command_line.specs.declared.action.Action.TheVariants as action
use Rattle.command_line.specs.declared.layout.Layout.{Layout}
use Rattle.session.specs.Texts.{Text}
use Rattle.shell.specs.Layouts.{is_size}
use Rattle.shell.specs.declared.needs.Need.{Need}
use Rattle.shell.specs.declared.needs.Need.TheVariants as need

-- the folder, where a store is to be made in it that there can be
abbrev pub make_in : Option Layout → Bor Text → Need
make_in None dir = need.Nothing
make_in (Some layout) dir = if is_size layout then need.Make dir else need.Nothing

-- none for the example, for a size that no store has or not one of its profile, and for a time that is none
abbrev pub need_of : Action → Need
need_of action.Example = need.Nothing
need_of (action.Format dir layout) = make_in layout dir
need_of (action.Run dir) = need.Change dir
need_of (action.At dir key time) = if is_some time then need.Change dir else need.Nothing
need_of (action.Between dir key from to) = if is_some from && is_some to then need.Change dir else need.Nothing
need_of (action.Ask dir question style) = if is_some question then need.Change dir else need.Nothing
need_of (action.Write dir write) = need.Change dir
need_of (action.Vacuum dir time) = if is_some time then need.Change dir else need.Nothing
need_of (action.Grow dir) = need.Change dir
need_of (action.Floor dir relation time) = if is_some time then need.Change dir else need.Nothing
need_of (action.Info dir json) = need.Read dir
need_of (action.Dump dir) = need.Read dir
need_of (action.Stress writers readers rounds) = need.Nothing
