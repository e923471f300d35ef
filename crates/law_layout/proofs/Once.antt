-- What an image opens as is one, and where it opens no check fails.
use Rattle.std.proofs.Common.{◌≡◌, inl, inr, ℕ, ◌+◌, ◌<◌, nat_le, true, false, cond, List, [], ◌∷◌, ◌++◌, map, length, Option, refl, sym, ap, subst, ◌∙◌, arith}
use Rattle.std.proofs.Common.{append_assoc}
use Rattle.std.specs.Prelude.{flat_map}
use Rattle.std.specs.List.{AllByRecursion}
use Rattle.std.proofs.lemmas.Bool.{cases_order}
use Rattle.disk.specs.Areas.{Image}
use Rattle.wire.specs.declared.slot.Member.{Member as Entry}
use Rattle.wire.specs.declared.slot.Anchors.{Anchors}
use Rattle.wire.specs.declared.slot.Slot.{Slot}
use Rattle.status.specs.declared.header.Header.{Header}
use Rattle.status.specs.Header.{IsFront}
use Rattle.history.specs.declared.key.Key.{Key}
use Rattle.law_image.specs.Values.{Value}
use Rattle.law_image.specs.Reading.{HeapRecord, OldRecord, Reading}
use Rattle.law_image.specs.Log.{reclaim_mark}
use Rattle.law_image.specs.StandsFor.{IsAnchorUpto}
use Rattle.law_image.specs.Facts.{latest, old_writes}
use Rattle.law_layout.specs.Records.{record_bytes, old_bytes, IsRecord, IsOldRecord}
use Rattle.law_layout.specs.Extents.{Extent, IsChain, HoldsExtent, bodies_from, bodies}
use Rattle.law_layout.specs.Layouts.{StoredMember, Layout, extents_of, live, entries_of, later_than, anchors_after, no_anchors}
use Rattle.law_layout.specs.Opening.{HoldsLog, Opens, IsLiveMember, values_left, AreLive, FailsAt, HasAnchors, mark_of}
use Rattle.law_layout.proofs.Lists.{all_of_front, all_of_back, distinct_parts}
use Rattle.law_layout.proofs.Live.{live_of_parts}
use Rattle.law_layout.proofs.Unique.{one_chain, only_slots}

-- ---- the header

no_fewer : (h h' : Header) (front : List ℕ) → IsFront h front → IsFront h' front → h.pieces < h'.pieces → ⊥
no_fewer h h' front is is' fewer =
    let few = is'.says.few_pieces in
    is.says.next_piece (omega arith) (is'.says.open_pieces h.pieces fewer)

pub one_header : (h h' : Header) (front : List ℕ) → IsFront h front → IsFront h' front → h ≡ h'
one_header h h' front is is' =
    let pieces : h.pieces ≡ h'.pieces = elim (cases_order h.pieces h'.pieces) [
      | inl same ↦ same
      | inr (inl fewer) ↦ absurd (no_fewer h h' front is is' fewer)
      | inr (inr more) ↦ absurd (no_fewer h' h front is' is more)
    ] in
    let profile : h.profile ≡ h'.profile = sym is.says.profile ∙ is'.says.profile in
    let slots : h.slots ≡ h'.slots = sym is.says.slots ∙ is'.says.slots in
    λ i. record { profile = profile i; slots = slots i; pieces = pieces i }

-- ---- the log

pub one_held_log : (header : Header) (bytes : List ℕ) (a b : List Slot) → HoldsLog header bytes a → HoldsLog header bytes b → a ≡ b
one_held_log header bytes a b log_a log_b = only_slots header bytes a b log_a.opens log_b.opens log_a.ended log_b.ended

-- ---- the records of a chain

joined : List (List ℕ) → List ℕ
joined [] = []
joined (x ∷ xs) = x ++ joined xs

joined-bodies_from : (body : List ℕ) (list : List (List ℕ)) → joined (bodies_from body list) ≡ body ++ joined list
unfolding joined
joined-bodies_from body [] = refl
joined-bodies_from body (r ∷ list) =
    elim (nat_le (length body + length r) 8176) as (λ b. joined (cond b (bodies_from (body ++ r) list) (body ∷ bodies_from r list)) ≡ body
    ++ (r ++ joined list)) [
      | true ↦ joined-bodies_from (body ++ r) list ∙ append_assoc body r (joined list)
      | false ↦ ap (λ l. body ++ l) (joined-bodies_from r list)
    ]

joined-bodies : (list : List (List ℕ)) → joined (bodies list) ≡ joined list
unfolding joined
joined-bodies [] = refl
joined-bodies (r ∷ list) = joined-bodies_from r list

joined-map : {X : Type 0} (f : X → List ℕ) (xs : List X) → joined (map f xs) ≡ flat_map f xs
unfolding joined
joined-map f [] = refl
joined-map f (x ∷ xs) = ap (λ l. f x ++ l) (joined-map f xs)

-- two lists in the same extents have the same bytes
same_bytes : {X : Type 0} (f : X → List ℕ) (first extents records records' : ℕ) (a b : List Extent) (xs ys : List X) → a ≡ b
    → IsChain first extents records a (map f xs) → IsChain first extents records' b (map f ys) → flat_map f xs ≡ flat_map f ys
same_bytes f first extents records records' a b xs ys same is_a is_b =
    sym (joined-map f xs) ∙ sym (joined-bodies (map f xs))
    ∙ ap joined (sym is_a.bodies_are ∙ ap (λ (es : List Extent). map (λ e. e.body) es) same ∙ is_b.bodies_are)
    ∙ joined-bodies (map f ys) ∙ joined-map f ys

-- ---- chains

module _ (records_once : (a b : List HeapRecord) → AllByRecursion IsRecord a → AllByRecursion IsRecord b → flat_map record_bytes a ≡ flat_map record_bytes b → a
    ≡ b)
    (olds_once : (a b : List OldRecord) → AllByRecursion IsOldRecord a → AllByRecursion IsOldRecord b → flat_map old_bytes a ≡ flat_map old_bytes b → a
    ≡ b) where
  same_stored : (s s' : StoredMember) → s.entry ≡ s'.entry → s.extents ≡ s'.extents → s.member.head ≡ s'.member.head → s.member.records ≡ s'.member.records → s
      ≡ s'
  same_stored s s' entry extents head records = λ i. record { entry = entry i; member = record { head = head i; records = records i }; extents = extents i }

  pub one_member : (heap : List ℕ) (taken : List Extent) (before : Key → Option Value) (s s' : StoredMember) → IsLiveMember heap taken before s
      → IsLiveMember heap taken before s' → s.entry ≡ s'.entry → s ≡ s'
  one_member heap taken before s s' is is' entry =
      let chain' : IsChain s.entry.first s.entry.extents s.entry.records s'.extents (map record_bytes s'.member.records) =
      subst (λ (e : Entry). IsChain e.first e.extents e.records s'.extents (map record_bytes s'.member.records)) (sym entry) is'.stored.chain in
      let extents : s.extents ≡ s'.extents =
      one_chain heap s.entry.first s.entry.extents s.entry.records s.entry.records s.extents s'.extents (map record_bytes s.member.records)
      (map record_bytes s'.member.records) is.stored.chain chain' is.held is'.held in
      let records : s.member.records ≡ s'.member.records =
      records_once s.member.records s'.member.records is.stored.each is'.stored.each
      (same_bytes record_bytes s.entry.first s.entry.extents s.entry.records s.entry.records s.extents s'.extents s.member.records s'.member.records extents
      is.stored.chain chain') in
      same_stored s s' entry extents (is.stored.head_is ∙ ap (λ (e : Entry). record { time = e.time; label = e.label }) entry ∙ sym is'.stored.head_is) records

  entries_head : (e e' : Entry) (es es' : List Entry) → e ∷ es ≡ e' ∷ es' → e ≡ e'
  entries_head e e' es es' same = cc

  entries_tail : (e e' : Entry) (es es' : List Entry) → e ∷ es ≡ e' ∷ es' → es ≡ es'
  entries_tail e e' es es' same = cc

  pub one_live : (heap : List ℕ) (taken : List Extent) (before : Key → Option Value) (ms ns : List StoredMember) → AreLive heap taken before ms
      → AreLive heap taken before ns
      → map (λ s. s.entry) ms ≡ map (λ s. s.entry) ns → ms ≡ ns
  one_live heap taken before [] [] a b same = refl
  one_live heap taken before [] (n ∷ ns) a b same = cc
  one_live heap taken before (m ∷ ms) [] a b same = cc
  one_live heap taken before (m ∷ ms) (n ∷ ns) a b same =
      let entry : m.entry ≡ n.entry = entries_head m.entry n.entry (map (λ s. s.entry) ms) (map (λ s. s.entry) ns) same in
      let rest : map (λ s. s.entry) ms ≡ map (λ s. s.entry) ns = entries_tail m.entry n.entry (map (λ s. s.entry) ms) (map (λ s. s.entry) ns) same in
      let first : m ≡ n = one_member heap taken before m n a.0 b.0 entry in
      let behind : AreLive heap (taken ++ m.extents) (values_left before m) ns =
      subst (λ (s : StoredMember). AreLive heap (taken ++ s.extents) (values_left before s) ns) (sym first) b.1 in
      let more : ms ≡ ns = one_live heap (taken ++ m.extents) (values_left before m) ms ns a.1 behind rest in
      λ i. first i ∷ more i

  -- where all members are right, none is the first that is not
  pub none_fails : (heap : List ℕ) (taken : List Extent) (before : Key → Option Value) (ms : List StoredMember) (place : ℕ) → AreLive heap taken before ms
      → ¬ FailsAt heap taken before (map (λ s. s.entry) ms) place
  none_fails heap taken before [] place live fails = fails
  none_fails heap taken before (m ∷ ms) place live (inl fails) = fails.1 (record { found = m; entry_is = refl; is = live.0 })
  none_fails heap taken before (m ∷ ms) place live (inr fails) =
      let same : m ≡ fails.0 = one_member heap taken before m fails.0 live.0 fails.2 (sym fails.1) in
      none_fails heap (taken ++ m.extents) (values_left before m) ms place live.1
      (subst (λ (s : StoredMember). FailsAt heap (taken ++ s.extents) (values_left before s) (map (λ s. s.entry) ms) place) (sym same) fails.3)

  -- the anchors of a heap are one list in one chain
  pub one_anchors : (heap : List ℕ) (mark : ℕ) (anchors : Anchors) (a b : HasAnchors heap mark anchors) → (a.chain ≡ b.chain) × (a.olds ≡ b.olds)
  one_anchors heap mark anchors a b =
      let chains : a.chain ≡ b.chain =
      one_chain heap anchors.first anchors.extents anchors.records anchors.records a.chain b.chain (map old_bytes a.olds) (map old_bytes b.olds)
      a.are.is_chain.is_chain b.are.is_chain.is_chain a.are.held b.are.held in (
        chains,
        olds_once a.olds b.olds a.are.is_chain.each b.are.is_chain.each
            (same_bytes old_bytes anchors.first anchors.extents anchors.records anchors.records a.chain b.chain a.olds b.olds chains a.are.is_chain.is_chain
            b.are.is_chain.is_chain),
      )

  -- what opens holds its heap
  pub opens_heap : (header : Header) (image : Image) (layout : Layout) (reading : Reading) → Opens header image layout reading
      → (has : HasAnchors image.heap (mark_of layout.slots) (anchors_after no_anchors layout.slots)) × (has.chain ≡ layout.anchors)
      × (has.olds ≡ reading.anchors)
      × (map (λ s. s.entry) layout.members ≡ later_than (mark_of layout.slots) (entries_of layout.slots))
      × AreLive image.heap layout.anchors (λ key. latest (old_writes reading.anchors key)) layout.members
  opens_heap header image layout reading opens =
      let log = opens.lays_out.log_is in
      let mark : reclaim_mark reading.log ≡ mark_of layout.slots = ap reclaim_mark (sym log) in (
        record {
          chain = layout.anchors;
          olds = reading.anchors;
          are = record {
            is_chain = opens.lays_out.anchors_are;
            held = all_of_front (HoldsExtent image.heap) layout.anchors (extents_of layout.members) opens.extents;
            apart = (distinct_parts layout.anchors (extents_of layout.members) opens.lays_out.apart).0;
            rising = opens.reads.anchors;
            times = subst (λ (n : ℕ). AllByRecursion (IsAnchorUpto n) reading.anchors) mark opens.reads.anchor_times;
          };
        },
        refl,
        refl,
        opens.lays_out.entries_are ∙ ap (λ (n : ℕ). later_than n (entries_of layout.slots)) mark,
        live_of_parts image.heap layout.anchors (λ key. latest (old_writes reading.anchors key)) layout.members (record {
          stored = opens.lays_out.each_member;
          rules = rw opens.lays_out.members_are opens.reads.each_member;
          held = all_of_back (HoldsExtent image.heap) layout.anchors (extents_of layout.members) opens.extents;
          apart = opens.lays_out.apart;
          spellings = rw opens.lays_out.members_are opens.reads.stored;
        }),
      )
