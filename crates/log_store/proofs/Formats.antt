-- What a format leaves.
use Rattle.std.proofs.Common.{Result, Ok, Err}
use Rattle.std.specs.Prelude.{OnErr}

-- what holds in any case holds where a call is refused
pub refused_so : {T E : Type 0} (P : Type 0) (r : Result T E) → P → OnErr r P
refused_so P (Ok x) p = tt
refused_so P (Err e) p = p
