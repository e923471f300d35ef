-- One member after another, over the anchors.
use Rattle.std.proofs.Common.{◌≡◌, inl, inr, ℕ, ◌^◌, ◌<◌, nat_le, true, cond, List, [], ◌∷◌, ◌++◌, map, length, replicate, Option, Some, None, refl, sym, ap}
use Rattle.std.proofs.Common.{subst, append_assoc, ◌∙◌, arith}
use Rattle.std.specs.Prelude.{option_map, option_to_list, unwrap_or}
use Rattle.std.specs.List.{AllByRecursion, cons_option}
use Rattle.std.proofs.lemmas.List.{append-nil, map-append}
use Rattle.std.proofs.lemmas.Grind.{flat_map-append}
use mathlib.Core.Path.{fun_ext}
use Rattle.wire.specs.Spelling.{IsMember}
use Rattle.wire.specs.declared.slot.Anchors.{Anchors}
use Rattle.wire.specs.declared.slot.Member.{Member}
use Rattle.history.specs.declared.key.Key.{Key}
use Rattle.history.specs.declared.time.TimedWrite.{TimedWrite}
use Rattle.history.specs.Key.{write_in}
use Rattle.history.specs.Time.{value_after}
use Rattle.history.specs.Histories.{Commit, History, HasRisingTimes, last_after, writes_of}
use Rattle.history.specs.Queries.{applied, values_after}
use Rattle.history.proofs.Orders.{is_le}
use Rattle.history.proofs.Values.{value_after-append}
use Rattle.history.proofs.Histories.{writes_of-append, last_after-append, rising-append}
use Rattle.history.proofs.Filters.{AllByRecursion-append}
use Rattle.law_image.specs.Values.{Value}
use Rattle.law_image.specs.Reading as readings
use Rattle.law_image.specs.Reading.{OldRecord}
use Rattle.law_image.specs.Facts.{commit_read, commits_from, latest, old_writes}
use Rattle.law_image.proofs.FactsOf.{commits_from-append}
use Rattle.chains.specs.Writes.{written}
use Rattle.extents.specs.declared.usage.Usage.{Usage}
use Rattle.extents.specs.declared.usage.Usage.TheVariants.{Free}
use Rattle.deltas.specs.declared.«record».Record.{Record}
use Rattle.law_layout.specs.Extents.{Extent, AreDistinct}
use Rattle.law_layout.specs.Layouts.{StoredMember, extents_of}
use Rattle.law_layout.specs.Opening.{HasMember, values_left, AreLive, FailsAt, HasAnchors}
use Rattle.law_layout.proofs.Live.{values_behind, live_more, fails_behind, parts_of_live}
use Rattle.recovery.specs.declared.recovered.HeapRead.{HeapRead}
use Rattle.recovery.specs.Resolving.{before_of}
use Rattle.recovery.specs.Walk.{claimed}
use Rattle.recovery.specs.Chains.{numbers_of, IsRightChain, live_named, AddsChain, HasNoChain}
use Rattle.recovery.specs.HeapReads.{values_of, numbers_in, live_of, commits_of, HoldsMembers, HoldsEntries, FailsChains}
use Rattle.recovery.specs.Anchored.{HoldsAnchors}
use Rattle.recovery.proofs.Walking.{claimed-append}
use Rattle.recovery.proofs.Claims.{IsNumbered}
use Rattle.recovery.proofs.RightChains.{numbered_of, member_of, right_found, live_right}

-- ---- values

-- the last value after commits is what they make of the values before them
pub value_applied : (s : ℕ) (before : Key → Option Value) (h : History Value) (key : Key) → HasRisingTimes s h
    → value_after (before key) (writes_of h key) (2 ^ 63)
    ≡ applied before h key
value_applied s before [] key rising = refl
value_applied s before (c ∷ cs) key rising =
    let early : nat_le c.time (2 ^ 63) ≡ true = is_le (omega (arith, rising.1)) in
    let first : value_after (before key) (writes_of (c ∷ cs) key) (2 ^ 63) ≡ value_after (values_after before c key) (writes_of cs key) (2 ^ 63) =
    elim (write_in c.writes key) as
    (λ (o : Option (Option Value)). value_after (before key)
    (cons_option (option_map (λ (write : Option Value). record { time = c.time; write = write }) o) (writes_of cs key)) (2 ^ 63)
    ≡ value_after (unwrap_or o (before key)) (writes_of cs key) (2 ^ 63)) [
      | None ↦ refl
      | Some w ↦ ap (λ b. value_after (cond b w (before key)) (writes_of cs key) (2 ^ 63)) early
    ] in
    first ∙ value_applied c.time (values_after before c) cs key rising.2

-- the values over the anchors, by the members' commits
abbrev values_over : List OldRecord → List StoredMember → Key → Option Value
values_over olds members key = value_after (values_of olds key) (writes_of (commits_of olds members) key) (2 ^ 63)

-- those that were read are these
before_over : (heap : List ℕ) (mark : ℕ) (chain : List Extent) (olds : List OldRecord) (members : List StoredMember) (read : HeapRead)
    → HoldsMembers heap mark chain olds members read → before_of read.chains ≡ values_over olds members
before_over heap mark chain olds members read holds =
    fun_ext (λ key. ap latest (holds.writes key) ∙ value_after-append None (old_writes olds key) (writes_of (commits_of olds members) key) (2 ^ 63))

-- and they are the values that the members leave
before_is : (heap : List ℕ) (mark : ℕ) (chain : List Extent) (olds : List OldRecord) (members : List StoredMember) (read : HeapRead)
    → HoldsMembers heap mark chain olds members read
    → before_of read.chains ≡ values_behind (values_of olds) members
unfolding values_behind
before_is heap mark chain olds members read holds =
    before_over heap mark chain olds members read holds ∙ fun_ext (λ key. value_applied mark (values_of olds) (commits_of olds members) key holds.rising)

-- ---- extents

pub numbered_live : (heap : List ℕ) (taken : List Extent) (before : Key → Option Value) (members : List StoredMember) → AreLive heap taken before members
    → AllByRecursion IsNumbered (extents_of members)
numbered_live heap taken before [] live = tt
numbered_live heap taken before (m ∷ members) live =
    AllByRecursion-append IsNumbered m.extents (extents_of members) (numbered_of m.extents (live.0).stored.chain.each) (numbered_live heap (taken
    ++ m.extents) (values_left before m) members live.1)

pub numbered_all : (heap : List ℕ) (chain : List Extent) (before : Key → Option Value) (members : List StoredMember) → AllByRecursion IsNumbered chain
    → AreLive heap chain before members → AllByRecursion IsNumbered (chain ++ extents_of members)
numbered_all heap chain before members numbered live =
    AllByRecursion-append IsNumbered chain (extents_of members) numbered (numbered_live heap chain before members live)

distinct_live : (heap : List ℕ) (chain : List Extent) (before : Key → Option Value) (members : List StoredMember) → AreDistinct chain
    → AreLive heap chain before members → AreDistinct (chain ++ extents_of members)
distinct_live heap chain before members distinct live = (parts_of_live heap chain before members distinct live).apart

-- ---- one more

extents-push : (members : List StoredMember) (s : StoredMember) → extents_of (members ++ s ∷ []) ≡ extents_of members ++ s.extents
extents-push members s = flat_map-append (λ (s : StoredMember). s.extents) members (s ∷ []) ∙ ap (λ l. extents_of members ++ l) (append-nil s.extents)

commits-push : (mark : ℕ) (olds : List OldRecord) (members : List StoredMember) (s : StoredMember) → HasRisingTimes mark (commits_of olds members)
    → commits_of olds (members ++ s ∷ []) ≡ commits_of olds members ++ commit_read (values_over olds members) s.member ∷ []
commits-push mark olds members s rising =
    ap (λ (l : List readings.Member). commits_from (values_of olds) l) (map-append (λ (s : StoredMember). s.member) members (s ∷ []))
    ∙ commits_from-append mark (values_of olds) (map (λ (s : StoredMember). s.member) members) (s.member ∷ []) rising

-- what a commit adds to a key's writes
pub written-one : (c : Commit Value) (key : Key) → writes_of (c ∷ []) key ≡ written c.time c.writes key
written-one c key =
    let timed : Option Value → TimedWrite Value = λ write. record { time = c.time; write = write } in
    elim (write_in c.writes key) as (λ (o : Option (Option Value)). cons_option (option_map timed o) [] ≡ option_to_list (option_map timed o)) [
      | None ↦ refl
      | Some w ↦ refl
    ]

module _ (heap : List ℕ) (len mark : ℕ) (chain : List Extent) (olds : List OldRecord) (distinct : AreDistinct chain)
    (numbered : AllByRecursion IsNumbered chain)
    (members : List StoredMember) (read : HeapRead) (entry : Member) (whole : len ≡ length heap) (holds : HoldsMembers heap mark chain olds members read) where
  usages : List Usage
  usages = claimed (replicate 65536 Free) (numbers_in (chain ++ extents_of members))

  before_members : before_of read.chains ≡ values_behind (values_of olds) members
  before_members = before_is heap mark chain olds members read holds

  -- a right chain in terms of the members
  right_of : (records : List Record) → IsRightChain heap len read.extents (before_of read.chains) entry records
      → IsRightChain heap (length heap) usages (values_behind (values_of olds) members) entry records
  unfolding usages
  right_of records right =
      subst (λ (n : ℕ). IsRightChain heap n usages (values_behind (values_of olds) members) entry records) whole
      (subst (λ (us : List Usage). IsRightChain heap len us (values_behind (values_of olds) members) entry records) holds.extents
      (subst (λ (before : Key → Option Value). IsRightChain heap len read.extents before entry records) before_members right))

  of_right : (records : List Record) → IsRightChain heap (length heap) usages (values_behind (values_of olds) members) entry records
      → IsRightChain heap len read.extents (before_of read.chains) entry records
  unfolding usages
  of_right records right =
      subst (λ (n : ℕ). IsRightChain heap n read.extents (before_of read.chains) entry records) (sym whole)
      (subst (λ (us : List Usage). IsRightChain heap (length heap) us (before_of read.chains) entry records) (sym holds.extents)
      (subst (λ (before : Key → Option Value). IsRightChain heap (length heap) usages before entry records) (sym before_members) right))

  numbered_now : AllByRecursion IsNumbered (chain ++ extents_of members)
  numbered_now = numbered_all heap chain (values_of olds) members numbered holds.are

  -- the member is there, and is read
  pub member_added : (next : HeapRead) → IsMember entry → read.last < entry.time → AddsChain heap len entry read next
      → (s : StoredMember) × (s.entry ≡ entry) × HoldsMembers heap mark chain olds (members ++ s ∷ []) next
  unfolding member_of usages
  member_added next ranges later adds =
      let found =
      right_found heap (chain
      ++ extents_of members) (values_behind (values_of olds) members) entry ranges (distinct_live heap chain (values_of olds) members distinct holds.are)
      numbered_now adds.records (right_of adds.records adds.right) in
      let s : StoredMember = member_of entry found.extents adds.records in
      let same : before_of read.chains ≡ values_over olds members = before_over heap mark chain olds members read holds in
      let c : Commit Value = commit_read (values_over olds members) s.member in
      let commits : commits_of olds (members ++ s ∷ []) ≡ commits_of olds members ++ c ∷ [] = commits-push mark olds members s holds.rising in
      let high = ranges.time_high in (
        s,
        refl,
        record {
          are = live_more heap chain (values_of olds) members s holds.are found.live;
          extents =
              adds.extents
              ∙ ap (λ (us : List Usage). claimed us (numbers_of heap entry)) holds.extents
              ∙ ap (λ (ns : List ℕ). claimed (claimed (replicate 65536 Free) (numbers_in (chain ++ extents_of members))) ns) found.numbers
              ∙ sym (claimed-append (replicate 65536 Free) (numbers_in (chain ++ extents_of members)) (numbers_in found.extents))
              ∙ ap (λ (ns : List ℕ). claimed (replicate 65536 Free) ns)
              (sym (map-append (λ (e : Extent). e.number) (chain ++ extents_of members) found.extents))
              ∙ ap (λ (es : List Extent). claimed (replicate 65536 Free) (numbers_in es)) (append_assoc chain (extents_of members) found.extents)
              ∙ ap (λ (es : List Extent). claimed (replicate 65536 Free) (numbers_in (chain ++ es))) (sym (extents-push members s));
          live =
              adds.live
              ∙ ap (λ (ns : List ℕ). map live_named read.live.items ++ (entry.time, ns) ∷ []) found.numbers
              ∙ ap (λ (l : List (ℕ × List ℕ)). l ++ live_of s ∷ []) holds.live
              ∙ sym (map-append live_of members (s ∷ []));
          writes = λ key.
              adds.chains key
              ∙ ap (λ (ws : List (TimedWrite Value)). ws ++ written entry.time (commit_read (before_of read.chains) s.member).writes key) (holds.writes key)
              ∙ append_assoc (old_writes olds key) (writes_of (commits_of olds members) key)
              (written entry.time (commit_read (before_of read.chains) s.member).writes key)
              ∙ ap (λ (b : Key → Option Value). old_writes olds key
              ++ (writes_of (commits_of olds members) key ++ written entry.time (commit_read b s.member).writes key)) same
              ∙ ap (λ (ws : List (TimedWrite Value)). old_writes olds key ++ (writes_of (commits_of olds members) key ++ ws)) (sym (written-one c key))
              ∙ ap (λ (ws : List (TimedWrite Value)). old_writes olds key ++ ws) (sym (writes_of-append (commits_of olds members) (c ∷ []) key))
              ∙ ap (λ (h : History Value). old_writes olds key ++ writes_of h key) (sym commits);
          rising =
              subst (HasRisingTimes mark) (sym commits) (rising-append mark (commits_of olds members) (c
              ∷ []) holds.rising (subst (λ (n : ℕ). n < entry.time) holds.last_is later, high, tt));
          last_is = adds.last ∙ sym (last_after-append mark (commits_of olds members) (c ∷ [])) ∙ ap (λ (h : History Value). last_after mark h) (sym commits);
        },
      )

  -- there is no such member
  pub member_fails : HasNoChain heap len read entry → ¬ HasMember heap (chain ++ extents_of members) (values_behind (values_of olds) members) entry
  unfolding usages
  member_fails none has =
      let right = live_right heap (chain ++ extents_of members) (values_behind (values_of olds) members) entry numbered_now has in
      none right.0 (of_right right.0 right.1)

-- ---- the walk over the entries

pub numbered_anchors : (heap : List ℕ) (mark : ℕ) (anchors : Anchors) (has : HasAnchors heap mark anchors) → AllByRecursion IsNumbered has.chain
numbered_anchors heap mark anchors has = numbered_of has.chain has.are.is_chain.is_chain.each

-- the anchors and the members of some entries are read, and these others are not yet
pub record IsUnderWay (heap : List ℕ) (mark : ℕ) (anchors : Anchors) (entries rest : List Member) (read : HeapRead) : Type 0 where
  pub anchored : HasAnchors heap mark anchors
  pub members : List StoredMember
  pub all : map (λ s. s.entry) members ++ rest ≡ entries
  pub holds : HoldsMembers heap mark anchored.chain anchored.olds members read

pub way_begins : (heap : List ℕ) (anchors : Anchors) (entries : List Member) (read : HeapRead) → HoldsAnchors heap anchors read
    → IsUnderWay heap anchors.upto anchors entries entries read
way_begins heap anchors entries read holds = record {
  anchored = holds.has;
  members = [];
  all = refl;
  holds = record {
    are = tt;
    extents = holds.extents ∙ ap (λ (es : List Extent). claimed (replicate 65536 Free) (numbers_in es)) (sym (append-nil holds.has.chain));
    live = ap (λ l. map live_named l) holds.live;
    writes = λ key. holds.writes key ∙ sym (append-nil (old_writes holds.has.olds key));
    rising = tt;
    last_is = holds.last_is;
  };
}

pub way_goes_on : (heap : List ℕ) (len mark : ℕ) (anchors : Anchors) (entries : List Member) (entry : Member) (rest : List Member) (read next : HeapRead) → len
    ≡ length heap → IsMember entry → read.last < entry.time
    → IsUnderWay heap mark anchors entries (entry ∷ rest) read → AddsChain heap len entry read next → IsUnderWay heap mark anchors entries rest next
way_goes_on heap len mark anchors entries entry rest read next whole ranges later way adds =
    let has = way.anchored in
    let added =
    member_added heap len mark has.chain has.olds has.are.apart (numbered_anchors heap mark anchors has) way.members read entry whole way.holds next ranges
    later adds in
    let same : added.0.entry ≡ entry = added.1 in
    record {
      anchored = has;
      members = way.members ++ added.0 ∷ [];
      all =
          ap (λ l. l ++ rest) (map-append (λ (s : StoredMember). s.entry) way.members (added.0 ∷ []))
          ∙ append_assoc (map (λ (s : StoredMember). s.entry) way.members) (added.0.entry ∷ []) rest
          ∙ ap (λ (e : Member). map (λ (s : StoredMember). s.entry) way.members ++ (e ∷ rest)) same
          ∙ way.all;
      holds = added.2;
    }

pub way_ends : (heap : List ℕ) (mark : ℕ) (anchors : Anchors) (entries : List Member) (read : HeapRead) → IsUnderWay heap mark anchors entries [] read
    → HoldsEntries heap mark anchors entries read
way_ends heap mark anchors entries read way =
    record {
      anchored = way.anchored;
      members = way.members;
      entries_are = sym (append-nil (map (λ (s : StoredMember). s.entry) way.members)) ∙ way.all;
      holds = way.holds;
    }

pub way_fails : (heap : List ℕ) (len mark : ℕ) (anchors : Anchors) (entries : List Member) (entry : Member) (rest : List Member) (read : HeapRead) → len
    ≡ length heap → IsUnderWay heap mark anchors entries (entry ∷ rest) read
    → HasNoChain heap len read entry → FailsChains heap mark anchors entries entry.first
way_fails heap len mark anchors entries entry rest read whole way none =
    let has = way.anchored in
    inr (
      has,
      subst (λ (l : List Member). FailsAt heap has.chain (values_of has.olds) l entry.first) way.all
          (fails_behind heap has.chain (values_of has.olds) way.members (entry ∷ rest) entry.first way.holds.are
          (inl (
            refl,
            member_fails heap len mark has.chain has.olds has.are.apart (numbered_anchors heap mark anchors has) way.members read entry whole
                way.holds none,
          ))),
    )
