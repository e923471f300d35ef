-- The base of a reclaim and its anchors keep their shares, so no reclaim is refused for want of room.
use Rattle.std.proofs.Common.{◌≡◌, ◌≢◌, ℕ, suc, ◌+◌, ◌*◌, ◌/◌, ◌≤◌, nat_lt, Bool, true, false, cond, List, [], ◌∷◌}
use Rattle.std.proofs.Common.{length, Option, None, Some, Result, Ok, Err, refl, arith, ap, sym, subst, ◌∙◌, length-append}
use Rattle.std.specs.Prelude.{filter, flat_map, option_to_list, if◌then◌else◌, IsTrue, MatchBool, MatchOption}
use Rattle.std.proofs.lemmas.Bool.Decides.{nat_tests}
use Rattle.std.proofs.lemmas.List.{length-map}
use Rattle.history.specs.declared.key.Key.{Key}
use Rattle.history.specs.declared.time.TimedWrite.{TimedWrite}
use Rattle.history.specs.declared.time.Version.{Version}
use Rattle.history.specs.Machine.{Machine}
use Rattle.history.specs.Versions.{versions, stands_at, ends_after}
use Rattle.history.proofs.Intervals.{ended-stands}
use Rattle.law_image.specs.Values.{Value}
use Rattle.law_image.specs.Reading.{OldRecord, Reading}
use Rattle.law_image.specs.Facts.{heap_versions}
use Rattle.law_image.specs.Log.{reclaim_mark}
use Rattle.law_image.specs.Plans.{IsReclaimPlan}
use Rattle.law_image.specs.StandsFor.{archived_upto, reclaimed_upto}
use Rattle.law_image.proofs.Standing.{archived-range, last-range}
use Rattle.law_layout.specs.Records.{old_bytes}
use Rattle.law_log.proofs.Telling.{tells-all}
use Rattle.chains.specs.KeyWrites.{writes_of}
use Rattle.chains.proofs.Versions.{versions-kept}
use Rattle.deltas.specs.Records.{spelling}
use Rattle.group.specs.declared.commit_order.CommitHead.{CommitHead}
use Rattle.vacuum.specs.Anchors.{anchors_of, olds_of}
use Rattle.log_entries.proofs.Pushed.{length-base}
use Rattle.log_extents.specs.Chains.{count_of}
use Rattle.log_base.specs.Bases.{own_from, relation_floor, rolls_of}
use Rattle.log_base.specs.Names.{AreBytesBetween, is_between, named_between}
use Rattle.log_base.proofs.RunsLeft.{mark-is}
use Rattle.commits.specs.Calls.{oldest}
use Rattle.log_store.specs.Reclaims.{BeginsReclaim, KeepsBaseShares, StartsReclaim, anchor_bytes, base_len, base_with, front, front_count, has_nothing}
use Rattle.log_store.specs.Reclaims.{makes, reclaim_refusal, reclaimed, refusal_for_use, roll_of}
use Rattle.log_store.specs.Values.{LogStoreValue, is_busy}
use Rattle.log_store.specs.declared.job.StartFault.{StartFault}
use Rattle.log_store.specs.declared.job.StartFault.TheVariants as fault
use Rattle.law_log_layout.specs.HeapLog.{chains_told, name_bytes}
use Rattle.law_log_store.specs.Standing.{StandsOnHeap, StopsOnHeap}
use Rattle.law_log_store.proofs.Anchored.{anchored-plan, own-plan}
use Rattle.law_log_store.proofs.Behind.{HasChains, has-chains}
use Rattle.law_log_store.proofs.Fronted.{mark-same}
use Rattle.law_log_store.proofs.ReclaimMakes.{olds-spelled}
use Rattle.law_log_store.proofs.Used.{used-are}
use Rattle.law_log_steps.specs.Store.{IsStoreOf}
use Rattle.law_log_steps.proofs.ArchiveStarts.{in-memory}
use Rattle.law_log_steps.proofs.ReclaimStarts.{MayReclaim, may-reclaim}
use Rattle.law_log_room.specs.Bases.{LeavesBaseRoom, base_most, more_rolls}
use Rattle.law_log_room.proofs.Named.{NamesFew, names-few}

-- ---- the names of a roll

-- where nothing was archived since the last reclaim there are none
none-between : (after upto : ℕ) (hs : List CommitHead) → upto ≤ after → named_between after upto hs ≡ []
none-between after upto [] low = refl
none-between after upto (h ∷ hs) low =
    let no : is_between after upto h ≡ false = grind (arith, nat_tests, low) in
    ap (λ (b : Bool). cond b (h ∷ named_between after upto hs) (named_between after upto hs)) no ∙ none-between after upto hs low

empty : {X : Type 0} (xs : List X) → length xs ≡ 0 → xs ≡ []
empty [] none = refl
empty (x ∷ xs) none = absurd (omega (arith, none))

no-bytes : (after upto : ℕ) (hs : List CommitHead) (bytes : List ℕ) → upto ≤ after → AreBytesBetween after upto hs bytes → bytes ≡ []
no-bytes after upto hs bytes low are =
    let none = ap (λ (l : List CommitHead). length l) (none-between after upto hs low) in
    are.bytes_are ∙ ap (flat_map name_bytes) (empty are.names (are.are.many ∙ none))

roll-count : (place : ℕ) (bytes : List ℕ) → length (option_to_list (roll_of place bytes)) ≤ 1
roll-count place [] = omega arith
roll-count place (b ∷ bytes) = omega arith

-- so many rolls a base names more than the log
pub rolls-added : (v : LogStoreValue) (names : List ℕ) → AreBytesBetween (reclaimed v) v.named.upto v.commits.heads names
    → suc (length (option_to_list (roll_of v.named.end names))) ≤ more_rolls (makes v)
rolls-added v names are = by-makes (makes v) refl
  where
    by-makes : (b : Bool) → makes v ≡ b → suc (length (option_to_list (roll_of v.named.end names))) ≤ more_rolls b
    by-makes true some = let one = roll-count v.named.end names in omega (arith, one)
    by-makes false none =
        let low : v.named.upto ≤ reclaimed v = grind (arith, nat_tests) in
        let nothing = no-bytes (reclaimed v) v.named.upto v.commits.heads names low are in
        let one : length (option_to_list (roll_of v.named.end names)) ≡ 0 =
        ap (λ (bytes : List ℕ). length (option_to_list (roll_of v.named.end bytes))) nothing in
        omega (arith, one)

-- ---- what stands at a mark is in memory

standing-ends : {V : Type 0} (mark upto : ℕ) (vs : List (Version V)) → mark ≤ upto
    → filter (stands_at upto) (filter (ends_after mark) vs) ≡ filter (stands_at upto) vs
standing-ends mark upto [] low = refl
standing-ends {V} mark upto (v ∷ vs) low = by-end (ends_after mark v) refl (standing-ends mark upto vs low)
  where
    by-end : (b : Bool) → ends_after mark v ≡ b → filter (stands_at upto) (filter (ends_after mark) vs) ≡ filter (stands_at upto) vs
        → filter (stands_at upto) (cond b (v ∷ filter (ends_after mark) vs) (filter (ends_after mark) vs))
        ≡ cond (stands_at upto v) (v ∷ filter (stands_at upto) vs) (filter (stands_at upto) vs)
    by-end true e rest = ap (λ (l : List (Version V)). cond (stands_at upto v) (v ∷ l) l) rest
    by-end false e rest =
        rest ∙ sym (ap (λ b. cond b (v ∷ filter (stands_at upto) vs) (filter (stands_at upto) vs)) (ended-stands mark upto v low e))

module _ (tells : Bool) (v : LogStoreValue) (m : Machine Value) (is : IsStoreOf tells v m) (s : StandsOnHeap v m.published m.queue m.floors)
    (free : v.job ≡ None) where
  abbrev upto : ℕ
  upto = v.named.upto

  upto-is : upto ≡ archived_upto s.reading
  upto-is = s.named.upto

  used : length v.room.used ≡ v.roots.extents
  used = used-are v m.published m.queue m.floors s

  same-standing : (key : Key) → filter (stands_at upto) (versions (writes_of v.commits.versions key))
      ≡ filter (stands_at upto) (heap_versions s.reading key)
  same-standing key =
      let ws = writes_of v.commits.versions key in
      let mark = reclaimed_upto s.reading in
      let order = s.stands.homes.marks in
      let by_last = archived-range s.reading m.published m.floors s.stands in
      let range = last-range s.reading m.published m.floors s.stands in
      sym (standing-ends mark upto (versions ws) (omega (arith, order, upto-is)))
      ∙ ap (filter (stands_at upto))
      (sym (versions-kept 0 mark ws (omega (arith, order, by_last, range)) (s.facts.rising key)))
      ∙ ap (λ (l : List (TimedWrite Value)). filter (stands_at upto) (versions l)) (s.facts.same key)

  -- ---- the anchors

  -- a plan of a reclaim keeps the share of anchors
  plan-fits : (olds : List OldRecord) → IsReclaimPlan s.reading olds → count_of (length (flat_map old_bytes olds)) ≤ (3 * v.roots.extents) / 16
  plan-fits olds plan =
      (s.is_log).shares.anchors (archived_upto s.reading) olds s.stands.homes.marks (record { each = plan.each; rising = plan.rising })

  made-fit : (b : Bool) → count_of (length (flat_map spelling (if b then olds_of upto v.commits.versions else []))) ≤ (3 * length v.room.used) / 16
  made-fit true =
      let olds = anchors_of upto v.commits.versions in
      let share = plan-fits olds (anchored-plan v.commits.versions (in-memory tells v m is) upto s.reading (sym upto-is) same-standing) in
      let same = ap (λ (bytes : List ℕ). length bytes) (olds-spelled olds) in
      omega (arith, share, same, used)
  made-fit false = omega arith

  -- ---- the marks

  chains : HasChains v s.l
  chains = has-chains v m.published m.queue m.floors s free

  reclaimed-is : reclaimed_upto s.reading ≡ reclaimed v
  reclaimed-is =
      let names = (s.is_log).names in
      ap (λ (r : Reading). reclaim_mark r.log) (s.is_log).reading_is
      ∙ (tells-all (chains_told names s.l.chains) ((s.is_log).rules).each).reclaimed
      ∙ sym (mark-same upto s.l.next s.l.chains (chains).extra v.live.chains (chains).are (chains).behind ∙ mark-is names s.l.chains)

  -- the anchors that stand, where none are made
  stand-fit : makes v ≡ false → length v.live.anchors ≤ (3 * length v.room.used) / 16
  stand-fit none =
      let low : upto ≤ reclaimed v = grind (arith, nat_tests) in
      let high = s.stands.homes.marks in
      let same : archived_upto s.reading ≡ reclaimed_upto s.reading = omega (arith, low, high, upto-is, reclaimed-is) in
      let share = plan-fits s.reading.anchors (own-plan s.reading m.published m.floors s.stands same) in
      let records = ap (λ (r : Reading). length (flat_map old_bytes r.anchors)) (s.is_log).reading_is in
      let many = ap (λ (ns : List ℕ). length ns) (chains).anchors ∙ ((s.is_log).anchors).count in
      omega (arith, share, records, many, used)

  -- ---- the base

  few : NamesFew v.live.chains (front_count v)
  few = names-few v.live.chains (front_count v)

  len-fits : (names : List ℕ) → AreBytesBetween (reclaimed v) upto v.commits.heads names → base_len v names + 17 ≤ base_most v.live.chains upto
  len-fits names are =
      let long = length-base (base_with v names []) in
      let rolls = length-append (rolls_of (front v)) (option_to_list (roll_of v.named.end names)) in
      let more = rolls-added v names are in
      let own = length-map (own_from [] (front v)) relation_floor in
      let few-rolls = (few).rolls in
      let few-archives = (few).archives in
      let few-floors = (few).floors in
      omega (arith, long, rolls, more, own, few-rolls, few-archives, few-floors)

  stands-fit : (b : Bool) → makes v ≡ b
      → (if b then count_of (length (anchor_bytes v)) else length v.live.anchors) ≤ (3 * length v.room.used) / 16
  stands-fit true some = made-fit (makes v)
  stands-fit false none = stand-fit none

  -- the shares are kept, whatever the names of the roll
  pub shares-kept : count_of (base_most v.live.chains upto) ≤ length v.room.used / 16 → (names : List ℕ)
      → AreBytesBetween (reclaimed v) upto v.commits.heads names → KeepsBaseShares v names
  shares-kept leaves names are =
      let fits = len-fits names are in
      let stand = stands-fit (makes v) refl in
      record {
        base = omega (arith, leaves, fits);
        anchors = made-fit (makes v);
        standing_few = omega (arith, leaves, fits, stand);
      }

-- ---- no reclaim is refused for want of room

abbrev pub is-full : StartFault → Bool
is-full fault.HeapFull = true
is-full fault.Failed = false
is-full fault.WrongProfile = false
is-full fault.JobBusy = false
is-full fault.NothingToDo = false
is-full (fault.NotYet time) = false
is-full (fault.InUse time) = false
is-full fault.ArchiveFull = false
is-full fault.NoMemory = false

abbrev pub full-in : Option StartFault → Bool
full-in None = false
full-in (Some why) = is-full why

abbrev pub answer-full : Result (Unit {0}) StartFault → Bool
answer-full (Ok done) = false
answer-full (Err why) = is-full why

-- not before its base is counted
use-full : (snapshots : Option ℕ) (mark : ℕ) → full-in (refusal_for_use snapshots mark) ≡ false
use-full None mark = refl
use-full (Some snapshot) mark = by-test (nat_lt snapshot mark)
  where
    by-test : (b : Bool) → full-in (cond b (Some (fault.InUse snapshot)) None) ≡ false
    by-test true = refl
    by-test false = refl

early-full : (v : LogStoreValue) → full-in (reclaim_refusal v) ≡ false
early-full v = by-tests v.commits.failed (is_busy v) (has_nothing v)
  where
    by-tests : (a b c : Bool)
        → full-in (cond a (Some fault.Failed)
        (cond b (Some fault.JobBusy) (cond c (Some fault.NothingToDo) (refusal_for_use (oldest v.commits) v.named.upto)))) ≡ false
    by-tests true b c = refl
    by-tests false true c = refl
    by-tests false false true = refl
    by-tests false false false = use-full (oldest v.commits) v.named.upto

pub reclaim-has-room : (tells : Bool) (v new : LogStoreValue) (m : Machine Value) (answer : Result (Unit {0}) StartFault) → IsTrue tells
    → IsStoreOf tells v m → LeavesBaseRoom v → StartsReclaim v answer new → answer ≢ Err fault.HeapFull
reclaim-has-room tells v new m answer tell is leaves starts full =
    by-refusal (reclaim_refusal v) refl (subst (λ (a : Result (Unit {0}) StartFault). StartsReclaim v a new) full starts)
  where
    stands : MayReclaim v → StandsOnHeap v m.published m.queue m.floors
    stands may =
        subst (λ (failed : Bool). MatchBool failed (StopsOnHeap v m.published m.queue m.floors) (StandsOnHeap v m.published m.queue m.floors)) may.works
        (is.disk tell)

    by-refusal : (o : Option StartFault) → reclaim_refusal v ≡ o
        → MatchOption o (BeginsReclaim v (Err fault.HeapFull) new) (λ why. (Path (Result (Unit {0}) StartFault) (Err fault.HeapFull) (Err why)) × (new ≡ v))
        → ⊥
    by-refusal None none so =
        let may = may-reclaim v none in
        let refused = so.0 in
        refused.2 (shares-kept tells v m is (stands may) may.free leaves.0 refused.0 refused.1)
    by-refusal (Some why) some so =
        let no : true ≡ false = ap answer-full so.0 ∙ sym (ap full-in some) ∙ early-full v in
        cc
