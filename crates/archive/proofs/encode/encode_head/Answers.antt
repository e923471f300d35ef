use Rattle.std.proofs.Common.{◌≡◌, ◌∙◌, ◌++◌, List, ℕ, ap, append_assoc}
use Rattle.wire.specs.Numbers.{u16_bytes, u64_bytes}
use Rattle.archive.specs.Records.{head_bytes}
use Rattle.archive.proofs.encode.encode_head.Goals as goal

regroup : (a b c d : List ℕ) → ((a ++ b) ++ c) ++ d ≡ a ++ (b ++ (c ++ d))
regroup a b c d = simp append_assoc

pub returns-clause-bytes : goal.returns-clause-bytes
unfolding head_bytes
returns-clause-bytes c =
    let relation = u16_bytes c.args.head.now.key.relation in
    let number = u64_bytes c.args.head.now.key.record in
    let from = u64_bytes c.args.head.now.from in
    let to = u64_bytes c.args.head.now.to in
    c.put_u64.ensures.front
    ∙ ap (λ (xs : List ℕ). xs ++ to)
    (c.put_u64-at-2.ensures.front
    ∙ ap (λ (xs : List ℕ). xs ++ from) (c.put_u64-at.ensures.front ∙ ap (λ (xs : List ℕ). xs ++ number) c.put_u16-at.ensures.front))
    ∙ regroup relation number from to
