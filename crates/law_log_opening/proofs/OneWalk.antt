-- One walk along the chains of a heap goes as far as any other.
use Rattle.std.proofs.Common.{◌≡◌, ℕ, suc, ◌+◌, ◌-◌, ◌^◌, ◌<◌, ◌≤◌, List, [], ◌∷◌, ◌++◌, length, map, take, drop, refl, sym, ap, subst, ◌∙◌, arith}
use Rattle.std.proofs.lemmas.List.{append_assoc, append-nil, length-take}
use Rattle.deltas.specs.Extents.{extent_start}
use Rattle.log_extents.specs.Extents.{LinkedExtent, linked_bytes}
use Rattle.log_extents.specs.Chains.{first_or, chain_of}
use Rattle.log_extents.specs.Laws.{IsSameContent}
use Rattle.log_extents.specs.Taking.{gate_of}
use Rattle.log_extents.specs.declared.chain_reader.ChainKind.TheVariants.{Log}
use Rattle.log_extents.proofs.Agreeing.{extent_in}
use Rattle.log_entries.specs.Spelling.{entry_bytes}
use Rattle.log_entries.proofs.Entries.{one_entry}
use Rattle.log_writer.specs.Turns.{open_gate, extent_part}
use Rattle.law_log_layout.specs.Turns.{HoldsAll}
use Rattle.law_log_layout.specs.HeapLog.{PlacedChain}
use Rattle.law_log_layout.proofs.Places.{linked-length, distinct-parts}
use Rattle.law_log_layout.proofs.Joining.{opened-bytes}
use Rattle.log_recovery.specs.Chains.{HasOpenGate, IsRightChain, IsLogChain, numbers_of, AreWalked, HoldsChains, FailsChain}
use Rattle.log_recovery.proofs.Walking.{held_of_log}
use Rattle.log_recovery.proofs.OneChain.{one_held}

-- ---- one chain

log-chain : (most : ℕ) (heap taken : List ℕ) (number : ℕ) (c : PlacedChain) → IsRightChain most heap taken number c → IsLogChain most heap number c
log-chain most heap taken number c is =
    record { first = is.first; placed = is.placed; distinct = (distinct-parts taken c.numbers is.apart).back; held = is.held }

-- one right chain at most begins at an extent
pub one-right : (most : ℕ) (heap taken : List ℕ) (number : ℕ) (c d : PlacedChain) → most < 2 ^ 32 → IsRightChain most heap taken number c
    → IsRightChain most heap taken number d → c ≡ d
one-right most heap taken number c d few is_c is_d =
    let same : IsSameContent c.numbers d.numbers (gate_of Log) (gate_of Log) c.link d.link (entry_bytes c.entry) (entry_bytes d.entry) =
    one_held Log most number heap c.numbers d.numbers c.link d.link (entry_bytes c.entry) (entry_bytes d.entry) few
    (held_of_log most number heap c (log-chain most heap taken number c is_c)) (held_of_log most number heap d (log-chain most heap taken number d is_d)) in
    let entry : c.entry ≡ d.entry = one_entry most c.entry d.entry is_c.placed.entry is_d.placed.entry same.content_is in
    λ i. record { numbers = same.numbers_are i; link = same.link_is i; entry = entry i }

take-one : (n : ℕ) (xs : List ℕ) → take 1 (take (suc n) xs) ≡ take 1 xs
take-one n [] = refl
take-one n (x ∷ xs) = refl

fits : (content : List ℕ) → length (take 8168 content) ≤ 8168
fits content = omega (arith, length-take 8168 content)

-- and its gate is open
pub right-opens : (most : ℕ) (heap taken : List ℕ) (number : ℕ) (c : PlacedChain) → IsRightChain most heap taken number c → HasOpenGate heap number
right-opens most heap taken number c is = subst (HasOpenGate heap) is.first (by-numbers c.numbers is.placed.some is.held)
  where
    by-numbers : (numbers : List ℕ) → 0 < length numbers → HoldsAll (map extent_part (chain_of open_gate c.link numbers (entry_bytes c.entry))) heap
        → HasOpenGate heap (first_or 0 numbers)
    by-numbers [] some held = absurd (omega (arith, some))
    by-numbers (n ∷ ns) some held =
        let e : LinkedExtent = extent_in 0 open_gate c.link n ns (entry_bytes c.entry) in
        let p = extent_start n in
        let long = linked-length e (fits (entry_bytes c.entry)) in
        let all : p + length (linked_bytes e) - p ≡ suc 8191 = omega (arith, long) in
        let one : p + 1 - p ≡ 1 = omega arith in
        let part = held.0 in
        let opened : take 1 (drop p heap) ≡ open_gate ∷ [] =
        sym (take-one 8191 (drop p heap)) ∙ sym (ap (λ (k : ℕ). take 1 (take k (drop p heap))) all) ∙ ap (take 1) part.is
        ∙ ap (take 1) (sym (opened-bytes e)) in
        record { inside = omega (arith, long, part.inside); is = ap (λ (k : ℕ). take k (drop p heap)) one ∙ opened }

-- ---- all chains

-- right chains up to an extent where none begins
pub record IsStopped (most : ℕ) (heap taken : List ℕ) (number : ℕ) (chains : List PlacedChain) (end : ℕ) : Type 0 where
  pub walked : AreWalked most heap taken number chains end
  pub none : (c : PlacedChain) → ¬ IsRightChain most heap (taken ++ numbers_of chains) end c

behind-first : (most : ℕ) (heap taken : List ℕ) (number : ℕ) (c : PlacedChain) (chains : List PlacedChain) (end : ℕ)
    → IsStopped most heap taken number (c ∷ chains) end → IsStopped most heap (taken ++ c.numbers) c.link chains end
behind-first most heap taken number c chains end is = record {
  walked = is.walked.1;
  none = λ d right. is.none d (subst (λ (l : List ℕ). IsRightChain most heap l end d) (append_assoc taken c.numbers (numbers_of chains)) right);
}

none-begins : (most : ℕ) (heap taken : List ℕ) (number end : ℕ) → IsStopped most heap taken number [] end → (c : PlacedChain)
    → IsRightChain most heap taken number c → ⊥
none-begins most heap taken number end is c right =
    is.none c (subst (λ (l : List ℕ). IsRightChain most heap l end c) (sym (append-nil taken))
    (subst (λ (n : ℕ). IsRightChain most heap taken n c) is.walked right))

pub stopped-same : (most : ℕ) (heap taken : List ℕ) (number : ℕ) (cs ds : List PlacedChain) (e f : ℕ) → most < 2 ^ 32
    → IsStopped most heap taken number cs e → IsStopped most heap taken number ds f → (cs ≡ ds) × (e ≡ f)
stopped-same most heap taken number [] [] e f few a b = (refl, sym a.walked ∙ b.walked)
stopped-same most heap taken number [] (d ∷ ds) e f few a b = absurd (none-begins most heap taken number e a d b.walked.0)
stopped-same most heap taken number (c ∷ cs) [] e f few a b = absurd (none-begins most heap taken number f b c a.walked.0)
stopped-same most heap taken number (c ∷ cs) (d ∷ ds) e f few a b =
    let one : c ≡ d = one-right most heap taken number c d few a.walked.0 b.walked.0 in
    let rest = stopped-same most heap (taken ++ c.numbers) c.link cs ds e f few (behind-first most heap taken number c cs e a)
    (subst (λ (x : PlacedChain). IsStopped most heap (taken ++ x.numbers) x.link ds f) (sym one) (behind-first most heap taken number d ds f b)) in
    (λ i. one i ∷ rest.0 i, rest.1)

pub holds-stopped : (most root : ℕ) (heap : List ℕ) (chains : List PlacedChain) (next : ℕ) → HoldsChains most root heap chains next
    → IsStopped most heap [] root chains next
holds-stopped most root heap chains next holds =
    record { walked = holds.walked; none = λ c right. holds.ends (right-opens most heap (numbers_of chains) next c right) }

pub fails-stopped : (most root : ℕ) (heap : List ℕ) (place : ℕ) → (f : FailsChain most root heap place) → IsStopped most heap [] root f.front place
fails-stopped most root heap place f = record { walked = f.walked; none = f.none }
