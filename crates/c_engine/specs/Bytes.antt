-- Bytes as a caller gets them.
use Rattle.std.specs.Prelude.{◌≡◌, ℕ, List, length, take, nat_le, MatchBool}
use Rattle.c_engine.specs.declared.code.Code.{Code}
use Rattle.c_engine.specs.declared.code.Code.TheVariants as code
use Rattle.c_engine.specs.declared.code.Info.{Info}

-- these bytes stand in front and their length is told; where there is no room for them, their length alone
abbrev pub AreBytesTold : List ℕ → Code → Info → List ℕ → Type 0
AreBytesTold bytes said info out =
    (info.a ≡ length bytes) × MatchBool (nat_le (length bytes) (length out)) ((said ≡ code.Ok) × (take info.a out ≡ bytes)) (said ≡ code.Small)
