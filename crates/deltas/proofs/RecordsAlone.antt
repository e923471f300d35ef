-- The record at the front of bytes is the only one that is spelled there.
use Rattle.std.proofs.Common.{◌≡◌, ℕ, List, ◌++◌, sym, ◌∙◌, ap, subst}
use Rattle.deltas.specs.declared.«record».Record.{Record}
use Rattle.deltas.specs.Records.{spelling, IsRecord}
use Rattle.deltas.specs.Reading.{HasRecord, record_at, behind_record}
use Rattle.wire.proofs.Zeros.{AreBytes}
use Rattle.deltas.proofs.RecordsRead.{record_again}
use Rattle.deltas.proofs.RecordsBack.{record_back}

pub has_spelled : (bytes : List ℕ) (r : Record) (rest : List ℕ) → IsRecord r → bytes ≡ spelling r ++ rest → HasRecord bytes
has_spelled bytes r rest is same = subst HasRecord (sym same) (record_again r rest is).has

pub is_spelled : (bytes : List ℕ) (r : Record) (rest : List ℕ) → IsRecord r → bytes ≡ spelling r ++ rest → record_at bytes ≡ r
is_spelled bytes r rest is same = ap record_at same ∙ (record_again r rest is).is

pub spelled_back : (bytes : List ℕ) (r : Record) (rest : List ℕ) → AreBytes bytes → HasRecord bytes → r ≡ record_at bytes
    → rest ≡ behind_record bytes → bytes ≡ spelling r ++ rest
spelled_back bytes r rest small has is behind = sym (record_back bytes small has) ∙ (λ i. spelling (sym is i) ++ sym behind i)
