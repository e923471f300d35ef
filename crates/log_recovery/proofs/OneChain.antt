-- The heap has one chain of a kind at most from an extent on.
use Rattle.std.proofs.Common.{◌≡◌, ℕ, ◌^◌, ◌<◌, ◌≤◌, List, length, map, refl, sym, ◌∙◌, ap, subst, arith}
use Rattle.disk.specs.Parts.{HoldsPart}
use Rattle.log_extents.specs.Extents.{LinkedExtent, linked_bytes}
use Rattle.log_extents.specs.Chains.{count_of, first_or, chain_of}
use Rattle.log_extents.specs.Laws.{IsSameContent}
use Rattle.log_extents.specs.Taking.{gate_of, IsLinkOf}
use Rattle.log_extents.specs.declared.chain_reader.ChainKind.{ChainKind}
use Rattle.log_extents.specs.declared.chain_reader.ChainKind.TheVariants.{Log, Anchors}
use Rattle.log_extents.proofs.Agreeing.{one_chain}
use Rattle.law_log_layout.proofs.OneLog.{walk}
use Rattle.log_recovery.specs.Taking.{images_of_chain, IsHeldChain}
use Rattle.log_recovery.proofs.Walking.{parts_of_images}

link_most : (kind : ChainKind) (most link : ℕ) → IsLinkOf kind most link → link ≤ most
link_most Log most link is = is.1
link_most Anchors most link is = omega (arith, is)

pub one_held : (kind : ChainKind) (most number : ℕ) (heap ns ms : List ℕ) (k j : ℕ) (xs ys : List ℕ) → most < 2 ^ 32
    → IsHeldChain kind most number heap ns k xs → IsHeldChain kind most number heap ms j ys
    → IsSameContent ns ms (gate_of kind) (gate_of kind) k j xs ys
one_held kind most number heap ns ms k j xs ys few a b =
    let is_a = a.chain.chain in
    let is_b = b.chain.chain in
    let small_k : k ≤ most = link_most kind most k a.chain.link_is in
    let small_j : j ≤ most = link_most kind most j b.chain.link_is in
    let images : images_of_chain kind ns k xs ≡ images_of_chain kind ms j ys =
    walk most heap ns ms (gate_of kind) k (gate_of kind) j xs ys few is_a.in_range is_b.in_range (omega (arith, few, small_k)) (omega (arith, few, small_j))
    (a.chain.first ∙ sym b.chain.first) (parts_of_images heap 0 (gate_of kind) k ns xs a.held) (parts_of_images heap 0 (gate_of kind) j ms ys b.held) in
    one_chain most (gate_of kind) (gate_of kind) k j ns ms xs ys (images_of_chain kind ns k xs) few small_k small_j is_a
    (record { some = is_b.some; count = is_b.count; in_range = is_b.in_range; distinct = is_b.distinct; images_are = images })
