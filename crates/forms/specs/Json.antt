-- What is added to a line of JSON.
use Rattle.std.specs.Prelude.{◌≡◌, List, ◌++◌}
use Rattle.json.specs.Token.{Token}
use Rattle.json.specs.Written.{Written}

-- these tokens are appended, and nothing else changes
abbrev pub Adds : Written → Written → List Token → Type 0
Adds old new tokens = (new.before ≡ old.before) × (new.tokens ≡ old.tokens ++ tokens)
