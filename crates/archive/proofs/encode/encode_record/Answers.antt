use Rattle.std.proofs.Common.{◌≡◌, ◌∙◌, ◌++◌, [], ◌∷◌, List, ℕ, length, ap, append_assoc}
use Rattle.wire.specs.Fields.{fields_bytes}
use Rattle.archive.specs.Answers.{record_of}
use Rattle.archive.specs.Records.{head_bytes}
use Rattle.archive.proofs.encode.encode_record.Goals as goal

pub returns-clause-bytes : goal.returns-clause-bytes
unfolding head_bytes
returns-clause-bytes c =
    let head = head_bytes (record_of c.args.head.now c.args.value.now) in
    let fields : c.spelled.result.now ≡ fields_bytes c.args.value.now = c.spelled.ensures.is ∙ ap (λ (v : List (List ℕ)). fields_bytes v) c.fields.ensures in
    c.put.ensures.front
    ∙ ap (λ (xs : List ℕ). xs ++ c.spelled.result.now)
    (c.put-at.ensures.front ∙ ap (λ (xs : List ℕ). xs ++ c.len.result ∷ []) c.encode_head-at.ensures.bytes)
    ∙ ap (λ (n : ℕ). (head ++ n ∷ []) ++ c.spelled.result.now) c.len.ensures.is
    ∙ append_assoc head (length c.args.value.now ∷ []) c.spelled.result.now
    ∙ ap (λ (xs : List ℕ). head ++ length c.args.value.now ∷ xs) fields
