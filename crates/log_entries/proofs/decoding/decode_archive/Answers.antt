use Rattle.std.proofs.Common.{◌≡◌, ℕ, List, length, ap, arith}
use Rattle.std.proofs.lemmas.List.{nil_from_length}
use Rattle.std.proofs.lemmas.Bool.Decides.{nat_tests}
use Rattle.log_entries.proofs.Decoded.{archive_none, archive_more, archive_alone}
use Rattle.log_entries.proofs.decoding.decode_archive.Goals as goal

pub returns-in_default : goal.returns-in_default
returns-in_default c = λ most. archive_none most c.args.bytes.now c.requires (rw c.in_default.is at c.in_ok-archive.ensures)

pub returns-then-not-is_empty : goal.returns-then-not-is_empty
returns-then-not-is_empty c = λ most.
    archive_more most c.args.bytes.now c.in-Some.rest.now c.in-Some.archive c.requires (rw c.in-Some.is at c.in_ok-archive.ensures)
    (λ none. let len : length c.in-Some.rest.now ≡ 0 = ap (λ (l : List ℕ). length l) none in grind (arith, nat_tests))

pub returns : goal.returns
returns c = λ most.
    archive_alone most c.args.bytes.now c.in-Some.rest.now c.in-Some.archive (rw c.in-Some.is at c.in_ok-archive.ensures)
    (nil_from_length c.in-Some.rest.now (grind (arith, nat_tests)))
