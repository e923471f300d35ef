-- What a handle owns.
use Rattle.std.specs.Prelude.{Option, Some, None}
use Rattle.std.specs.Coded.{Coded, coded_option}
use base.Fml.{Fml, ftrue}
use denote.RawPtr.{Ptr}
use Rattle.std.specs.Box.Ownership.{box_owns}
use Rattle.std.specs.Global.{Global}
use Rattle.std_heap.specs.contracts.GlobalAllocator.TheImpl.{ghosts}
use Rattle.c_engine.specs.contracts.engine.Engine.{the_row}

-- a handle owns the box of its engine, and nothing where it has none
abbrev pub handle_owns : Global → Ptr → Option the_row.Denot → Fml
handle_owns alloc p None = ftrue
handle_owns alloc p (Some engine) = box_owns (ghosts.dealloc_token alloc) the_row p engine

-- how the logic stores what a handle has: an engine, or none
abbrev pub engine_coded : Coded (Option the_row.Denot)
engine_coded = coded_option the_row.coded
