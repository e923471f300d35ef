-- What a reclaim frees, and what stays kept.
use Rattle.std.proofs.Common.{◌≡◌, ◌≢◌, ℕ, zero, suc, ◌-◌, ◌<◌, ◌≤◌, nat_le, nat_lt, Bool, true, false, cond, List, [], ◌∷◌, ◌++◌, length, map, take, drop}
use Rattle.std.proofs.Common.{refl, arith, ap, sym, subst, ◌∙◌}
use Rattle.std.specs.Prelude.{filter}
use Rattle.std.specs.List.{AllByRecursion, flat_map}
use Rattle.std.proofs.lemmas.Bool.Decides.{nat_tests}
use Rattle.std.proofs.lemmas.List.{get_or-set_other, length-set, take-append-drop}
use Rattle.std.proofs.lemmas.List.Concat.{flat_map-append, flat_map-cons}
use Rattle.std.proofs.lemmas.Grind.{get_or-set_at}
use Rattle.extents.specs.declared.usage.Usage.{Usage}
use Rattle.extents.specs.declared.usage.Usage.TheVariants.{Free, Out, Kept}
use Rattle.extents.specs.Usages.{HasUsage, IsOut, IsKept, usage_of, with_usage, with_usages, IsNoneOf, AreDistinct, AreOut}
use Rattle.extents.specs.Times.{time_of, with_time, with_times, is_kept, retired, retired_by, all_retired_by}
use Rattle.extents.proofs.Frames.{other_stays, are_apart, others_stay as frames-stay, list_kept}
use Rattle.history.specs.Histories.{History}
use Rattle.history.specs.Machine.{Machine}
use Rattle.history.proofs.Filters.{AllByRecursion-append, AllByRecursion-filter}
use Rattle.law_image.specs.Values.{Value}
use Rattle.wire.specs.declared.slot.Slot.{Slot}
use Rattle.deltas.specs.Extents.{Extent}
use Rattle.law_layout.specs.Layouts.{Layout, StoredMember, live, extents_of}
use Rattle.law_layout.specs.Jobs.{reclaimed}
use Rattle.law_layout.specs.Turn.{laid_out}
use Rattle.law_layout.proofs.Lists.{weaker, three, all_of_front, all_of_back}
use Rattle.group.specs.Queued.{QueuedValue, numbers_of}
use Rattle.deltas.specs.Chains.{chain_of}
use Rattle.group.specs.Taking.{AreLeastFree}
use Rattle.group.specs.Values.{TransactionsValue}
use Rattle.group.specs.Order.{IsInOrder}
use Rattle.group.specs.Steps.{with_chains, published}
use Rattle.group.specs.Reclaims.{with_reserved, reclaimed_to}
use Rattle.group.proofs.Publishing.{out-front, out-swapped, out-reserved}
use Rattle.group.proofs.Reclaiming.{keeps-reclaimed}
use Rattle.law_refinement.specs.OnDisk.{HasTimes, packed, members_of, group_of}
use Rattle.law_refinement.proofs.Usages.{AllKept, all-taken}

-- ---- what is freed

-- an extent whose usage is another one than the freed one's, or whose number is another, stays what it was
retired-other : (us : List Usage) (n other : ℕ) (usage : Usage) → 1 ≤ n → (usage_of us n ≡ Kept → other ≢ n) → HasUsage usage us other
    → HasUsage usage (retired us n) other
retired-other us n other usage low apart has = by-usage (usage_of us n) refl
  where
    by-usage : (u : Usage) → usage_of us n ≡ u → HasUsage usage (cond (is_kept (usage_of us n)) (with_usage us n Free) us) other
    by-usage Free is = rw is has
    by-usage Out is = rw is has
    by-usage Kept is = rw is (other_stays us n other Free usage low (apart is) has)

-- a kept extent of a later time stays kept
retired-later : (mark : ℕ) (times : List ℕ) (us : List Usage) (n other : ℕ) → mark < time_of times other → IsKept us other
    → IsKept (retired_by mark times us n) other
retired-later mark times us zero other late kept = kept
retired-later mark times us (suc n) other late kept =
    let before = retired-later mark times us n other late kept in
    elim (nat_le (time_of times (suc n)) mark) as (λ (b : Bool). nat_le (time_of times (suc n)) mark ≡ b
    → IsKept (cond b (retired (retired_by mark times us n) (suc n)) (retired_by mark times us n)) other) [
      | true ↦ λ early.
          let by : time_of times (suc n) ≤ mark = grind (arith, nat_tests) in
          retired-other (retired_by mark times us n) (suc n) other Kept (omega arith) (λ is same. let at : time_of times other
          ≡ time_of times (suc n) = ap (time_of times) same in omega (arith, at, by, late)) before
      | false ↦ λ later. before
    ] refl

pub later-stays : (mark : ℕ) (times : List ℕ) (us : List Usage) (other : ℕ) → mark < time_of times other → IsKept us other
    → IsKept (all_retired_by mark times us) other
later-stays mark times us other late kept = retired-later mark times us (length us) other late kept

-- what is not kept stays what it is
retired-others : (mark : ℕ) (times : List ℕ) (us : List Usage) (n other : ℕ) (usage : Usage) → usage ≢ Kept → HasUsage usage us other
    → HasUsage usage (retired_by mark times us n) other
retired-others mark times us zero other usage not has = has
retired-others mark times us (suc n) other usage not has =
    let before = retired-others mark times us n other usage not has in
    elim (nat_le (time_of times (suc n)) mark) as
    (λ (b : Bool). HasUsage usage (cond b (retired (retired_by mark times us n) (suc n)) (retired_by mark times us n)) other) [
      | true ↦ retired-other (retired_by mark times us n) (suc n) other usage (omega arith) (λ is same. not (sym before.is
          ∙ ap (usage_of (retired_by mark times us n)) same ∙ is)) before
      | false ↦ before
    ]

pub others-stay : (mark : ℕ) (times : List ℕ) (us : List Usage) (other : ℕ) (usage : Usage) → usage ≢ Kept → HasUsage usage us other
    → HasUsage usage (all_retired_by mark times us) other
others-stay mark times us other usage not has = retired-others mark times us (length us) other usage not has

-- so does what is out
pub out-stays : (mark : ℕ) (times : List ℕ) (us : List Usage) (n : ℕ) → IsOut us n → IsOut (all_retired_by mark times us) n
out-stays mark times us n out = others-stay mark times us n Out (λ e. cc) out

pub all-out : (mark : ℕ) (times : List ℕ) (us : List Usage) (ns : List ℕ) → AreOut us ns → AreOut (all_retired_by mark times us) ns
all-out mark times us ns out = record { each = each ns out.each; distinct = out.distinct }
  where
    each : (ks : List ℕ) → AllByRecursion (IsOut us) ks → AllByRecursion (IsOut (all_retired_by mark times us)) ks
    each [] all = tt
    each (k ∷ ks) all = (out-stays mark times us k all.0, each ks all.1)

-- ---- a kept extent is none of those that are out

pub none-kept : (us : List Usage) (ns : List ℕ) (n : ℕ) → AllByRecursion (IsOut us) ns → IsKept us n → IsNoneOf n ns
none-kept us [] n out kept = tt
none-kept us (m ∷ ms) n out kept = (are_apart us Out Kept m n (λ e. cc) out.0 kept, none-kept us ms n out.1 kept)

-- ---- once a reclaim is done

-- an extent of a later time stays kept
pub still-kept : (mark : ℕ) (times : List ℕ) (us : List Usage) (reserved : List ℕ) (n : ℕ) → AreOut us reserved → mark < time_of times n → IsKept us n
    → IsKept (with_usages (all_retired_by mark times us) reserved Kept) n
still-kept mark times us reserved n out late kept =
    let after = all_retired_by mark times us in
    let stays = later-stays mark times us n late kept in
    let still = all-out mark times us reserved out in
    frames-stay after reserved Kept Kept n still (none-kept after reserved n still.each stays) stays

-- and those that were out for it are kept
pub reserved-kept : (mark : ℕ) (times : List ℕ) (us : List Usage) (reserved : List ℕ) → AreOut us reserved
    → AllByRecursion (IsKept (with_usages (all_retired_by mark times us) reserved Kept)) reserved
reserved-kept mark times us reserved out = list_kept (all_retired_by mark times us) reserved (all-out mark times us reserved out)

-- ---- times

time-other : (times : List ℕ) (n other time : ℕ) → 1 ≤ n → 1 ≤ other → n ≢ other → time_of (with_time times n time) other ≡ time_of times other
time-other times n other time low low' apart =
    let places : other - 1 ≢ n - 1 = λ e. apart (omega arith) in
    get_or-set_other times (n - 1) (other - 1) time 0 places

-- an extent that is none of these keeps its time
pub times-stay : (times : List ℕ) (ns : List ℕ) (time other : ℕ) → AllByRecursion (λ (n : ℕ). 1 ≤ n) ns → 1 ≤ other → IsNoneOf other ns
    → time_of (with_times times ns time) other ≡ time_of times other
times-stay times [] time other lows low none = refl
times-stay times (n ∷ ns) time other lows low none =
    times-stay (with_time times n time) ns time other lows.1 low none.1 ∙ time-other times n other time lows.0 low none.0

-- the others get the time
pub times-now : (times : List ℕ) (ns : List ℕ) (time : ℕ) → length times ≡ 65536 → AllByRecursion (λ (n : ℕ). (1 ≤ n) × (n ≤ 65536)) ns → AreDistinct ns
    → AllByRecursion (λ (n : ℕ). time_of (with_times times ns time) n ≡ time) ns
times-now times [] time whole each distinct = tt
times-now times (n ∷ ns) time whole each distinct =
    let low = each.0.0 in
    let high = each.0.1 in
    let lows = weaker (λ (m : ℕ). (1 ≤ m) × (m ≤ 65536)) (λ (m : ℕ). 1 ≤ m) ns (λ m is. is.0) each.1 in
    let still : length (with_time times n time) ≡ 65536 = length-set times (n - 1) time ∙ whole in (
      times-stay (with_time times n time) ns time n lows low distinct.0 ∙ get_or-set_at times (n - 1) (n - 1) time 0 refl (omega (arith, whole, low, high)),
      times-now (with_time times n time) ns time still each.1 distinct.1,
    )

pub times-long : (times : List ℕ) (ns : List ℕ) (time : ℕ) → length (with_times times ns time) ≡ length times
times-long times [] time = refl
times-long times (n ∷ ns) time = times-long (with_time times n time) ns time ∙ length-set times (n - 1) time

pub chains-long : (times : List ℕ) (qs : List QueuedValue) → length (with_chains times qs) ≡ length times
chains-long times [] = refl
chains-long times (q ∷ qs) = chains-long (with_times times (numbers_of q) q.entry.time) qs ∙ times-long times (numbers_of q) q.entry.time

-- ---- of members

abbrev AreLow : List ℕ → Type 0
AreLow ns = AllByRecursion (λ (n : ℕ). 1 ≤ n) ns

lows-out : (us : List Usage) (ns : List ℕ) → AllByRecursion (IsOut us) ns → AreLow ns
lows-out us ns out = weaker (IsOut us) (λ (n : ℕ). 1 ≤ n) ns (λ n is. is.low) out

-- the times of kept extents stay where those of others change
module _ (us : List Usage) (times after : List ℕ) (same : (n : ℕ) → IsKept us n → time_of after n ≡ time_of times n) where
  extents-stay : (time : ℕ) (es : List Extent) → AllKept us es → AllByRecursion (λ (e : Extent). time_of times e.number ≡ time) es
      → AllByRecursion (λ (e : Extent). time_of after e.number ≡ time) es
  extents-stay time [] kept has = tt
  extents-stay time (e ∷ es) kept has = (same e.number kept.0 ∙ has.0, extents-stay time es kept.1 has.1)

  members-stay : (ms : List StoredMember) → AllKept us (extents_of ms) → HasTimes times ms → HasTimes after ms
  members-stay [] kept has = tt
  members-stay (s ∷ ms) kept has = (
    extents-stay s.entry.time s.extents (all_of_front (λ (e : Extent). IsKept us e.number) s.extents (extents_of ms) kept) has.0,
    members-stay ms (all_of_back (λ (e : Extent). IsKept us e.number) s.extents (extents_of ms) kept) has.1,
  )

-- ---- what a reclaim leaves of a layout

module _ (us : List Usage) (times reserved : List ℕ) (mark : ℕ) (out : AreOut us reserved) where
  abbrev after : List Usage
  after = with_usages (all_retired_by mark times us) reserved Kept

  by-numbers : (es : List Extent) → AllByRecursion (IsKept after) (map (λ (e : Extent). e.number) es) → AllKept after es
  by-numbers [] kept = tt
  by-numbers (e ∷ es) kept = (kept.0, by-numbers es kept.1)

  of-chain : (chain : List Extent) → map (λ (e : Extent). e.number) chain ≡ reserved → AllKept after chain
  of-chain chain named = by-numbers chain (subst (AllByRecursion (IsKept after)) (sym named) (reserved-kept mark times us reserved out))

  of-member : (time : ℕ) (es : List Extent) → mark < time → AllKept us es → AllByRecursion (λ (e : Extent). time_of times e.number ≡ time) es → AllKept after es
  of-member time [] late kept has = tt
  of-member time (e ∷ es) late kept has =
      let at = has.0 in
      (still-kept mark times us reserved e.number out (omega (arith, at, late)) kept.0, of-member time es late kept.1 has.1)

  of-members : (ms : List StoredMember) → AllKept us (extents_of ms) → HasTimes times ms
      → AllKept after (extents_of (filter (λ (s : StoredMember). nat_lt mark s.entry.time) ms))
  of-members [] kept has = tt
  of-members (s ∷ ms) kept has =
      let rest = of-members ms (all_of_back (λ (e : Extent). IsKept us e.number) s.extents (extents_of ms) kept) has.1 in
      elim (nat_lt mark s.entry.time) as (λ (b : Bool). nat_lt mark s.entry.time ≡ b
      → AllKept after (extents_of (cond b (s
      ∷ filter (λ (x : StoredMember). nat_lt mark x.entry.time) ms) (filter (λ (x : StoredMember). nat_lt mark x.entry.time) ms)))) [
        | true ↦ λ later.
            let late : mark < s.entry.time = grind (arith, nat_tests) in
            AllByRecursion-append (λ (e : Extent). IsKept after e.number) s.extents (extents_of (filter (λ (x : StoredMember). nat_lt mark x.entry.time) ms))
            (of-member s.entry.time s.extents late (all_of_front (λ (e : Extent). IsKept us e.number) s.extents (extents_of ms) kept) has.0) rest
        | false ↦ λ early. rest
      ] refl

  of-layout : (layout : Layout) (slot : Slot) (chain : List Extent) → map (λ (e : Extent). e.number) chain ≡ reserved → AllKept us (live layout)
      → HasTimes times layout.members → AllKept after (live (reclaimed layout slot mark chain))
  of-layout layout slot chain named kept has =
      AllByRecursion-append (λ (e : Extent). IsKept after e.number) chain (extents_of (reclaimed layout slot mark chain).members) (of-chain chain named)
      (of-members layout.members (all_of_back (λ (e : Extent). IsKept us e.number) layout.anchors (extents_of layout.members) kept) has)

-- ---- by the transactions

-- the extents that are out for a job
pub reserved-out : (v : TransactionsValue) → IsInOrder v → AreOut v.usages v.reserved
reserved-out v order = out-front v.usages v.reserved (flat_map numbers_of v.queue) (out-swapped v.usages (flat_map numbers_of v.queue) v.reserved order.out)

-- those of the group
pub group-out : (v : TransactionsValue) → IsInOrder v → AreOut v.usages (flat_map numbers_of (take v.group v.queue))
group-out v order =
    let taken = take v.group v.queue in
    let rest = drop v.group v.queue in
    let split : flat_map numbers_of v.queue ≡ flat_map numbers_of taken ++ flat_map numbers_of rest =
    ap (λ (l : List QueuedValue). flat_map numbers_of l) (sym (take-append-drop v.group v.queue)) ∙ flat_map-append numbers_of taken rest in
    out-front v.usages (flat_map numbers_of taken) (flat_map numbers_of rest)
    (subst (λ (ns : List ℕ). AreOut v.usages ns) split (out-front v.usages (flat_map numbers_of v.queue) v.reserved order.out))

pub reclaimed-order : (v : TransactionsValue) (mark : ℕ) → IsInOrder v → IsInOrder (reclaimed_to v mark)
reclaimed-order v mark order = keeps-reclaimed v mark order (out-stays mark v.times v.usages)

-- all live extents are kept once the reclaim is done
pub reclaimed-kept : (v : TransactionsValue) (mark : ℕ) (layout : Layout) (slot : Slot) (chain : List Extent) → IsInOrder v
    → map (λ (e : Extent). e.number) chain ≡ v.reserved
    → AllKept v.usages (live layout) → HasTimes v.times layout.members → AllKept (reclaimed_to v mark).usages (live (reclaimed layout slot mark chain))
reclaimed-kept v mark layout slot chain order named kept has =
    of-layout v.usages v.times v.reserved mark (reserved-out v order) layout slot chain named kept has

-- and their times are those of their commits
pub reclaimed-times : (v : TransactionsValue) (mark : ℕ) (layout : Layout) (slot : Slot) (chain : List Extent) → IsInOrder v
    → AllKept v.usages (live layout) → HasTimes v.times layout.members → HasTimes (reclaimed_to v mark).times (reclaimed layout slot mark chain).members
reclaimed-times v mark layout slot chain order kept has =
    let out = (reserved-out v order).each in
    let stay =
    λ (n : ℕ) (is : IsKept v.usages n). times-stay v.times v.reserved 0 n (lows-out v.usages v.reserved out) is.low (none-kept v.usages v.reserved n out is)
    in
    AllByRecursion-filter (λ (s : StoredMember). AllByRecursion (λ (e : Extent). time_of (with_times v.times v.reserved 0) e.number
    ≡ s.entry.time) s.extents) (λ (s : StoredMember). nat_lt mark s.entry.time) layout.members
    (members-stay v.usages v.times (with_times v.times v.reserved 0) stay layout.members
    (all_of_back (λ (e : Extent). IsKept v.usages e.number) layout.anchors (extents_of layout.members) kept) has)

-- live extents stay kept where others are reserved, and those reserved before are given back
pub reserved-live : (v : TransactionsValue) (numbers : List ℕ) (es : List Extent) → IsInOrder v → AreLeastFree v.usages numbers → AllKept v.usages es
    → AllKept (with_reserved v numbers).usages es
reserved-live v numbers es order least kept = all es (all-taken v.usages numbers es least kept)
  where
    taken : List Usage
    taken = with_usages v.usages numbers Out

    out : AreOut taken v.reserved
    out = (out-reserved v.usages (flat_map numbers_of v.queue) v.reserved numbers order.out least).0

    all : (fs : List Extent) → AllKept taken fs → AllKept (with_usages taken v.reserved Free) fs
    all [] now = tt
    all (f ∷ fs) now = (frames-stay taken v.reserved Free Kept f.number out (none-kept taken v.reserved f.number out.each now.0) now.0, all fs now.1)

-- ---- what a group publishes

-- of two lists together, those of the first are none of the second
distinct-parts : (xs ys : List ℕ) → AreDistinct (xs ++ ys) → AreDistinct xs × AreDistinct ys × AllByRecursion (λ (x : ℕ). IsNoneOf x ys) xs
distinct-parts [] ys distinct = (tt, distinct, tt)
distinct-parts (x ∷ xs) ys distinct =
    let rest = distinct-parts xs ys distinct.1 in
    ((all_of_front (λ (n : ℕ). n ≢ x) xs ys distinct.0, rest.0), rest.1, (all_of_back (λ (n : ℕ). n ≢ x) xs ys distinct.0, rest.2))

-- an extent that is none of theirs keeps its time
chains-stay : (times : List ℕ) (qs : List QueuedValue) (other : ℕ) → AreLow (flat_map numbers_of qs) → 1 ≤ other → IsNoneOf other (flat_map numbers_of qs)
    → time_of (with_chains times qs) other ≡ time_of times other
chains-stay times [] other lows low none = refl
chains-stay times (q ∷ qs) other lows low none =
    let ns = numbers_of q in
    let rest = flat_map numbers_of qs in
    let lows' : AreLow (ns ++ rest) = subst AreLow (flat_map-cons numbers_of q qs) lows in
    let none' : IsNoneOf other (ns ++ rest) = subst (IsNoneOf other) (flat_map-cons numbers_of q qs) none in
    chains-stay (with_times times ns q.entry.time) qs other (all_of_back (λ (n : ℕ). 1 ≤ n) ns rest lows') low
    (all_of_back (λ (n : ℕ). n ≢ other) ns rest none')
    ∙ times-stay times ns q.entry.time other (all_of_front (λ (n : ℕ). 1 ≤ n) ns rest lows') low (all_of_front (λ (n : ℕ). n ≢ other) ns rest none')

-- what holds of each number holds of each extent of its chain
of-chain-numbers : (P : ℕ → Type 0) (ns : List ℕ) (bs : List (List ℕ)) → AllByRecursion P ns → AllByRecursion (λ (e : Extent). P e.number) (chain_of ns bs)
of-chain-numbers P [] bs all = tt
of-chain-numbers P (n ∷ ns) [] all = tt
of-chain-numbers P (n ∷ ns) (b ∷ bs) all = (all.0, of-chain-numbers P ns bs all.1)

-- the extents of each new member are in the chain of its time
chains-now : (h : History Value) (qs : List QueuedValue) (cs : History Value) (times : List ℕ) → length times ≡ 65536
    → AllByRecursion (λ (n : ℕ). (1 ≤ n) × (n ≤ 65536)) (flat_map numbers_of qs) → AreDistinct (flat_map numbers_of qs)
    → HasTimes (with_chains times qs) (members_of h qs cs)
chains-now h [] cs times whole each distinct = tt
chains-now h (q ∷ qs) [] times whole each distinct = tt
chains-now h (q ∷ qs) (c ∷ cs) times whole each distinct =
    let ns = numbers_of q in
    let rest = flat_map numbers_of qs in
    let time = q.entry.time in
    let each' = subst (AllByRecursion (λ (n : ℕ). (1 ≤ n) × (n ≤ 65536))) (flat_map-cons numbers_of q qs) each in
    let parts = distinct-parts ns rest (subst AreDistinct (flat_map-cons numbers_of q qs) distinct) in
    let own = all_of_front (λ (n : ℕ). (1 ≤ n) × (n ≤ 65536)) ns rest each' in
    let others = all_of_back (λ (n : ℕ). (1 ≤ n) × (n ≤ 65536)) ns rest each' in
    let lows : AreLow rest = weaker (λ (n : ℕ). (1 ≤ n) × (n ≤ 65536)) (λ (n : ℕ). 1 ≤ n) rest (λ n is. is.0) others in
    let now = times-now times ns time whole own parts.0 in
    let stays =
    three (λ (n : ℕ). (1 ≤ n) × (n ≤ 65536)) (λ (n : ℕ). IsNoneOf n rest) (λ (n : ℕ). time_of (with_times times ns time) n
    ≡ time) (λ (n : ℕ). time_of (with_chains (with_times times ns time) qs) n ≡ time) ns
    (λ n is none at. chains-stay (with_times times ns time) qs n lows is.0 none ∙ at) own parts.2 now in (
      of-chain-numbers (λ (n : ℕ). time_of (with_chains (with_times times ns time) qs) n ≡ time) ns (packed h c) stays,
      chains-now (h ++ c ∷ []) qs cs (with_times times ns time) (times-long times ns time ∙ whole) others parts.1,
    )

ranges-out : (us : List Usage) (ns : List ℕ) → AllByRecursion (IsOut us) ns → AllByRecursion (λ (n : ℕ). (1 ≤ n) × (n ≤ 65536)) ns
ranges-out us ns out = weaker (IsOut us) (λ (n : ℕ). (1 ≤ n) × (n ≤ 65536)) ns (λ n is. (is.low, is.high)) out

-- once a group is published the times of all live extents are those of their commits
pub published-times : (v : TransactionsValue) (layout : Layout) (m : Machine Value) → IsInOrder v → length v.times ≡ 65536 → AllKept v.usages (live layout)
    → HasTimes v.times layout.members
    → HasTimes (published v).times (laid_out layout (group_of layout v m)).members
published-times v layout m order whole kept has =
    let taken = take v.group v.queue in
    let out = group-out v order in
    let stay =
    λ (n : ℕ) (is : IsKept v.usages n). chains-stay v.times taken n (lows-out v.usages (flat_map numbers_of taken) out.each) is.low
    (none-kept v.usages (flat_map numbers_of taken) n out.each is) in
    AllByRecursion-append (λ (s : StoredMember). AllByRecursion (λ (e : Extent). time_of (with_chains v.times taken) e.number
    ≡ s.entry.time) s.extents) layout.members (members_of m.published taken (take v.group m.queue))
    (members-stay v.usages v.times (with_chains v.times taken) stay layout.members
    (all_of_back (λ (e : Extent). IsKept v.usages e.number) layout.anchors (extents_of layout.members) kept) has)
    (chains-now m.published taken (take v.group m.queue) v.times whole (ranges-out v.usages (flat_map numbers_of taken) out.each) out.distinct)
