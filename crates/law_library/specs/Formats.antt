-- A store that a host has made of what ts_format or ts_format_endless told.
use Rattle.std.specs.Prelude.{◌≡◌, ℕ, List, [], take, replicate}
use Rattle.disk.specs.Areas.{Image, AreBytes, settled_on}
use Rattle.history.specs.Histories.{History}
use Rattle.law_image.specs.Values.{Value}
use Rattle.any_store.specs.declared.formatting.Layout.{Layout}
use Rattle.law_any_store.specs.Formatted.{header_of}
use Rattle.law_any_store.specs.Standing.{AnyHeader, IsImageOf}
use Rattle.c_engine.specs.Engines.{OpensEngine, RefusesEngine}
use Rattle.c_engine.specs.Formats.{FormatsStore}
use Rattle.c_engine.specs.declared.code.Code.{Code}
use Rattle.c_engine.specs.declared.code.Code.TheVariants as code
use Rattle.c_engine.specs.declared.code.Info.{Info}
use Rattle.c_engine.specs.declared.engine.Engine.{Engine}
use Rattle.law_library.specs.Hosts.{Event, Host, HostRun}
use Rattle.law_library.specs.Promise.{HostKeeps}

-- the areas of a host that has made of what it was told what the header asks
abbrev pub new_image : Info → List ℕ → Image
new_image told out = record { status = take told.a out; heap = replicate told.b 0; archive = [] }

-- they are an image of the empty history, in the layout that was asked for
abbrev pub NewStands : Type 0
NewStands = (layout : Layout) (told : Info) (out : List ℕ) → FormatsStore layout code.Ok told out
    → IsImageOf (header_of layout) (new_image told out) [] (λ relation. 0)

-- nothing but want of memory refuses to open an image that stands for a history
abbrev pub MemoryAloneRefuses : Type 0
MemoryAloneRefuses =
    (header : AnyHeader) (image : Image) (h : History Value) (floors : ℕ → ℕ) (said : Code) (info : Info) → IsImageOf header image h floors
    → RefusesEngine image.status image.heap image.archive said info → said ≡ code.NoMemory

-- so the promise holds of each store that is opened on them, for every list of events
abbrev pub NewKeeps : Type 0
NewKeeps = (layout : Layout) (told : Info) (out : List ℕ) (mark : ℕ) (info : Info) (e : Engine) (events : List Event) (host : Host)
    → AreBytes out → FormatsStore layout code.Ok told out → OpensEngine (take told.a out) (replicate told.b 0) [] mark info e
    → HostRun events (record { engine = e; areas = settled_on (new_image told out) }) host
    → HostKeeps (header_of layout) [] (λ relation. 0) events host
