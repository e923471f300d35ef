use Rattle.std.proofs.Common.{◌≡◌, ℕ, List, ◌++◌, length, drop, replicate, ◌∙◌, ap}
use Rattle.status.specs.Header.{header_front}
use Rattle.status.proofs.NewHeader.{zeros_stay, new_front}
use Rattle.status.proofs.front.encode_header.Goals as goal

pub returns-clause-zeros : goal.returns-clause-zeros
returns-clause-zeros c =
    let front = header_front c.args.profile c.args.slots in
    let is : c.put_front.new.bytes ≡ front ++ drop 16 (replicate 512 0) =
    c.put_front.ensures ∙ ap (λ (xs : List ℕ). xs ++ drop (length xs) (replicate 512 0)) c.first_bytes.ensures in
    λ k behind. rw is (zeros_stay front 512 16 k behind)

pub returns-clause-is : goal.returns-clause-is
returns-clause-is c =
    let front = header_front c.args.profile c.args.slots in
    let is : c.put_front.new.bytes ≡ front ++ drop 16 (replicate 512 0) =
    c.put_front.ensures ∙ ap (λ (xs : List ℕ). xs ++ drop (length xs) (replicate 512 0)) c.first_bytes.ensures in
    λ numbers. rw is (new_front c.args.profile c.args.slots (drop 16 (replicate 512 0)) (zeros_stay front 512 16) numbers)
