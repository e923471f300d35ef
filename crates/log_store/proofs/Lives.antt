-- The chains of a log in memory: one more behind them, and a base in the place of the first ones.
use Rattle.std.proofs.Common.{◌≡◌, ◌⊎◌, inl, inr, ℕ, zero, suc, ◌+◌, ◌/◌, ◌<◌, ◌≤◌, false, true, List, [], ◌∷◌, ◌++◌, length, drop, replicate, Option}
use Rattle.std.proofs.Common.{None, Some, refl, sym, ap, subst, ◌∙◌}
use Rattle.std.proofs.Common.{◌-◌, take, arith}
use Rattle.std.specs.Prelude.{flat_map}
use Rattle.std.specs.List.{AllByRecursion}
use Rattle.std.proofs.Math.Seq.{take-length}
use Rattle.std.proofs.lemmas.List.{drop-append-le, length-append, length-drop, length-replicate}
use Rattle.std.proofs.lemmas.List.Concat.{flat_map-cons}
use Rattle.history.proofs.Filters.{AllByRecursion-append}
use Rattle.log_space.specs.Uses.{all_used}
use Rattle.log_space.proofs.Uses.{all_used_len}
use Rattle.log_room.specs.Rooms.{RoomValue, IsRoom}
use Rattle.log_room.specs.Reserves.{based_on, with_kept}
use Rattle.log_recovery.specs.Live.{LiveChainValue, counted_at, live_count}
use Rattle.log_recovery.specs.declared.live.LivePart.{LivePart}
use Rattle.log_recovery.specs.declared.live.LivePart.TheVariants.{Commits, Archived, Floor}
use Rattle.log_recovery.specs.declared.live.LivePart.TheVariants as parts
use Rattle.log_store.specs.Live.{LiveValue, with_live, is_base, begins_with_base, IsNoBase, AreNumbers, HasNumbers, AreLive}
use Rattle.log_store.specs.Values.{ReclaimValue, IsReclaiming, IsReclaimBeside}
use Rattle.log_store.specs.Reclaiming.{all_kept, kept_numbers, room_with, live_with, base_chain, MayStand}
use Rattle.log_store.specs.declared.job.Job.{Job}

-- ---- lists

pub all-drop : {X : Type 0} (P : X → Type 0) (xs : List X) (n : ℕ) → AllByRecursion P xs → AllByRecursion P (drop n xs)
all-drop P [] zero all = all
all-drop P [] (suc n) all = all
all-drop P (x ∷ xs) zero all = all
all-drop P (x ∷ xs) (suc n) all = all-drop P xs n all.1

all-behind : {X : Type 0} (P : X → Type 0) (xs : List X) (x : X) (n : ℕ) → n ≤ length xs → AllByRecursion P (drop n xs) → P x
    → AllByRecursion P (drop n (xs ++ x ∷ []))
all-behind P xs x n within all is =
    subst (AllByRecursion P) (sym (drop-append-le n xs (x ∷ []) within)) (AllByRecursion-append P (drop n xs) (x ∷ []) all (is, tt))

-- ---- one chain more

behind-first : (chains : List LiveChainValue) (c : LiveChainValue) → AllByRecursion IsNoBase (drop 1 chains) → IsNoBase c
    → AllByRecursion IsNoBase (drop 1 (chains ++ c ∷ []))
behind-first [] c all none = tt
behind-first (d ∷ ds) c all none = AllByRecursion-append IsNoBase ds (c ∷ []) all (none, tt)

pub live-more : (live : LiveValue) (numbers : List ℕ) (part : LivePart) → AreLive live → AreNumbers numbers → is_base part ≡ false
    → AreLive (with_live live numbers part)
live-more live numbers part are in-range none = record {
  numbers = AllByRecursion-append HasNumbers live.chains (record { numbers = numbers; part = part } ∷ []) are.numbers (in-range, tt);
  behind = behind-first live.chains (record { numbers = numbers; part = part }) are.behind none;
  anchors = are.anchors;
}

reclaiming-more : (job : Option Job) (chains : List LiveChainValue) (c : LiveChainValue) (reserved most : ℕ) (r : ReclaimValue) → IsNoBase c
    → IsReclaiming job chains reserved most r → IsReclaiming job (chains ++ c ∷ []) reserved most r
reclaiming-more job chains c reserved most r none is = record {
  alone = is.alone;
  front = let within = is.front in omega (arith, within, length-append chains (c ∷ []));
  back = all-behind IsNoBase chains c r.front is.front is.back none;
  taken = is.taken;
  share = is.share;
  some = is.some;
  numbers = is.numbers;
  anchors = is.anchors;
  on_its_way = is.on_its_way;
}

-- a reclaim goes on beside it
pub beside-more : (job : Option Job) (chains : List LiveChainValue) (c : LiveChainValue) (old new : RoomValue) (reclaim : Option ReclaimValue) → IsNoBase c
    → new.reserved ≡ old.reserved → length new.used ≡ length old.used → IsReclaimBeside job chains old reclaim
    → IsReclaimBeside job (chains ++ c ∷ []) new reclaim
beside-more job chains c old new None none same len is = same ∙ is
beside-more job chains c old new (Some r) none same len is =
    subst (λ (n : ℕ). IsReclaiming job (chains ++ c ∷ []) n (length new.used) r) (sym same)
    (subst (λ (n : ℕ). IsReclaiming job (chains ++ c ∷ []) old.reserved n r) (sym len)
    (reclaiming-more job chains c old.reserved (length old.used) r none is))

-- beside a job none runs
pub beside-job : (job : Job) (before after : Option Job) (chains more : List LiveChainValue) (old new : RoomValue) (reclaim : Option ReclaimValue)
    → before ≡ Some job → new.reserved ≡ old.reserved → IsReclaimBeside before chains old reclaim → IsReclaimBeside after more new reclaim
beside-job job before after chains more old new None is-job same is = same ∙ is
beside-job job before after chains more old new (Some r) is-job same is =
    absurd (let alone : before ≡ None = is.alone in let no : Some job ≡ None = sym is-job ∙ alone in cc)

-- ---- what stays behind a base

one-count : (part : LivePart) (numbers : List ℕ) → is_base part ≡ false → counted_at part numbers ≡ numbers
one-count (Commits time) numbers none = refl
one-count (Archived archive) numbers none = refl
one-count (Floor floor) numbers none = refl
one-count (parts.Base base) numbers none = absurd (let no : true ≡ false = none in cc)

counted-cons : (c : LiveChainValue) (cs : List LiveChainValue) → live_count (c ∷ cs) ≡ length (counted_at c.part c.numbers) + live_count cs
counted-cons c cs =
    ap (λ (ns : List ℕ). length ns) (flat_map-cons (λ (d : LiveChainValue). counted_at d.part d.numbers) c cs)
    ∙ length-append (counted_at c.part c.numbers) (flat_map (λ (d : LiveChainValue). counted_at d.part d.numbers) cs)

kept-cons : (c : LiveChainValue) (cs : List LiveChainValue) → length (kept_numbers (c ∷ cs)) ≡ length c.numbers + length (kept_numbers cs)
kept-cons c cs =
    ap (λ (ns : List ℕ). length ns) (flat_map-cons (λ (d : LiveChainValue). d.numbers) c cs)
    ∙ length-append c.numbers (kept_numbers cs)

-- where no chain is a base all of their extents count
pub all-count : (chains : List LiveChainValue) → AllByRecursion IsNoBase chains → live_count chains ≡ length (kept_numbers chains)
all-count [] none = refl
all-count (c ∷ cs) none =
    let first : length (counted_at c.part c.numbers) ≡ length c.numbers = ap (λ (ns : List ℕ). length ns) (one-count c.part c.numbers none.0) in
    let rest = all-count cs none.1 in
    omega (arith, first, rest, counted-cons c cs, kept-cons c cs)

-- fewer chains have no more
pub fewer-count : (chains : List LiveChainValue) (n : ℕ) → live_count (drop n chains) ≤ live_count chains
fewer-count [] zero = omega arith
fewer-count [] (suc n) = omega arith
fewer-count (c ∷ cs) zero = omega arith
fewer-count (c ∷ cs) (suc n) = let rest = fewer-count cs n in omega (arith, rest, counted-cons c cs)

-- so the base aside
pub base-counts : (r : ReclaimValue) (chains : List LiveChainValue) → AllByRecursion IsNoBase chains
    → live_count (base_chain r ∷ chains) ≡ length (kept_numbers chains)
base-counts r chains none = let rest = all-count chains none in omega (arith, rest, counted-cons (base_chain r) chains)

-- ---- the room

-- what changes nothing but the flags and the extents that count as the log's
pub record SameRoom (old new : RoomValue) : Type 0 where
  pub len : length new.used ≡ length old.used
  pub next : new.next ≡ old.next
  pub promised : new.promised ≡ old.promised
  pub reserved : new.reserved ≡ old.reserved

pub kept-one : (room : RoomValue) (numbers : List ℕ) → SameRoom room (with_kept room numbers)
kept-one room numbers = record { len = all_used_len room.used numbers; next = refl; promised = refl; reserved = refl }

pub kept-all : (room : RoomValue) (chains : List LiveChainValue) → SameRoom room (all_kept room chains)
kept-all room [] = record { len = refl; next = refl; promised = refl; reserved = refl }
kept-all room (c ∷ cs) =
    let one = kept-one room c.numbers in
    let rest = kept-all (with_kept room c.numbers) cs in
    record {
      len = rest.len ∙ one.len;
      next = rest.next ∙ one.next;
      promised = rest.promised ∙ one.promised;
      reserved = rest.reserved ∙ one.reserved;
    }

pub kept-log : (room : RoomValue) (chains : List LiveChainValue) → (all_kept room chains).log ≡ room.log + length (kept_numbers chains)
kept-log room [] = omega arith
kept-log room (c ∷ cs) = let rest = kept-log (with_kept room c.numbers) cs in omega (arith, rest, kept-cons c cs)

pub based-len : (room : RoomValue) (anchors base : List ℕ) → length (based_on room anchors base).used ≡ length room.used
based-len room anchors base =
    all_used_len (all_used (replicate (length room.used) false) anchors) base
    ∙ all_used_len (replicate (length room.used) false) anchors
    ∙ length-replicate (length room.used) false

-- all of it behind the end of a reclaim
pub record RoomStands (r : ReclaimValue) (live : LiveValue) (old new : RoomValue) : Type 0 where
  pub len : length new.used ≡ length old.used
  pub promised : new.promised ≡ old.promised
  pub reserved : new.reserved ≡ 0
  pub log : new.log ≡ length (kept_numbers (drop r.front live.chains)) + 1

pub room-stands : (r : ReclaimValue) (live : LiveValue) (old : RoomValue) → RoomStands r live old (room_with r live old)
room-stands r live old =
    let based = based_on old r.anchors r.numbers in
    let stay = drop r.front live.chains in
    let all = kept-all based stay in
    let last = kept-one (all_kept based stay) (old.next ∷ []) in
    record {
      len = last.len ∙ all.len ∙ based-len old r.anchors r.numbers;
      promised = last.promised ∙ all.promised;
      reserved = last.reserved ∙ all.reserved;
      log = let log = kept-log based stay in omega (arith, log);
    }

-- one chain more is kept
pub kept-next : (room new all : RoomValue) (rest after : List LiveChainValue) (c : LiveChainValue) → rest ≡ c ∷ after → new ≡ with_kept room c.numbers
    → all_kept room rest ≡ all → all_kept new after ≡ all
kept-next room new all rest after c front is whole =
    ap (λ (x : RoomValue). all_kept x after) is ∙ sym (ap (λ (cs : List LiveChainValue). all_kept room cs) front) ∙ whole

pub kept-half : (room new : RoomValue) (rest after : List LiveChainValue) (c : LiveChainValue) → rest ≡ c ∷ after → new ≡ with_kept room c.numbers
    → room.log + length (kept_numbers rest) + room.promised ≤ length room.used / 2
    → new.log + length (kept_numbers after) + new.promised ≤ length new.used / 2
kept-half room new rest after c front is half =
    let one = kept-one room c.numbers in
    let log : new.log ≡ room.log + length c.numbers = ap (λ (x : RoomValue). x.log) is in
    let promised : new.promised ≡ room.promised = ap (λ (x : RoomValue). x.promised) is in
    let len : length new.used ≡ length room.used = ap (λ (x : RoomValue). length x.used) is ∙ one.len in
    let all : length (kept_numbers rest) ≡ length c.numbers + length (kept_numbers after) =
    ap (λ (cs : List LiveChainValue). length (kept_numbers cs)) front ∙ kept-cons c after in
    omega (arith, half, log, promised, len, all)

pub kept-left : (rest after : List LiveChainValue) (c : LiveChainValue) → rest ≡ c ∷ after → AllByRecursion HasNumbers rest
    → AreNumbers c.numbers × AllByRecursion HasNumbers after
kept-left rest after c front all = subst (AllByRecursion HasNumbers) front all

-- the base and its anchors alone, and then the chains that stay, leave the extent where the log ends its place
module _ (room : RoomValue) (anchors base : List ℕ) (chains : List LiveChainValue) (new kept : RoomValue)
    (half : length (kept_numbers chains) + 1 + room.promised ≤ length room.used / 2) (new_is : new ≡ based_on room anchors base)
    (kept_is : kept ≡ all_kept new chains) where
  based-now : length new.used ≡ length room.used
  based-now = ap (λ (x : RoomValue). length x.used) new_is ∙ based-len room anchors base

  pub chains-half : new.log + length (kept_numbers chains) + new.promised ≤ length new.used / 2
  chains-half =
      let log : new.log ≡ 0 = ap (λ (x : RoomValue). x.log) new_is in
      let promised : new.promised ≡ room.promised = ap (λ (x : RoomValue). x.promised) new_is in
      omega (arith, half, log, promised, based-now)

  pub next-half : kept.log + 1 + kept.promised ≤ length kept.used / 2
  next-half =
      let all = kept-all new chains in
      let all_log = kept-log new chains in
      let all_len = all.len in
      let all_promised = all.promised in
      let none : new.log ≡ 0 = ap (λ (x : RoomValue). x.log) new_is in
      let log : kept.log ≡ (all_kept new chains).log = ap (λ (x : RoomValue). x.log) kept_is in
      let promised : kept.promised ≡ (all_kept new chains).promised = ap (λ (x : RoomValue). x.promised) kept_is in
      let same : new.promised ≡ room.promised = ap (λ (x : RoomValue). x.promised) new_is in
      let len : length kept.used ≡ length (all_kept new chains).used = ap (λ (x : RoomValue). length x.used) kept_is in
      omega (arith, half, all_log, all_len, all_promised, none, log, promised, same, len, based-now)

  pub all-put : (last : RoomValue) → last ≡ with_kept kept (kept.next ∷ [])
      → last ≡ with_kept (all_kept (based_on room anchors base) chains) (room.next ∷ [])
  all-put last is =
      let all = kept-all new chains in
      let next : kept.next ≡ room.next = ap (λ (x : RoomValue). x.next) kept_is ∙ all.next ∙ ap (λ (x : RoomValue). x.next) new_is in
      is ∙ (λ i. with_kept ((kept_is ∙ ap (λ (x : RoomValue). all_kept x chains) new_is) i) (next i ∷ []))

-- what stays has its half of the heap
pub stays-half : (r : ReclaimValue) (live : LiveValue) (room : RoomValue) → MayStand r live room → IsRoom room
    → length (kept_numbers (drop r.front live.chains)) + 1 + room.promised ≤ length room.used / 2
stays-half r live room may is =
    let half = is.half in
    let counted = may.counted in
    let same = all-count (drop r.front live.chains) may.back in
    let fewer = fewer-count live.chains r.front in
    omega (arith, half, counted, same, fewer)

-- ---- the chains

pub live-stands : (r : ReclaimValue) (live : LiveValue) → AreLive live → AreNumbers r.numbers → AreNumbers r.anchors
    → AllByRecursion IsNoBase (drop r.front live.chains) → AreLive (live_with r live)
live-stands r live are numbers anchors back = record {
  numbers = (numbers, all-drop HasNumbers live.chains r.front are.numbers);
  behind = back;
  anchors = anchors;
}

-- ---- the place of a base

-- where none of the chains is given up there is a spare one
pub spare-there : (chains : List LiveChainValue) (front len cap : ℕ) → AllByRecursion IsNoBase (drop front chains)
    → (begins_with_base chains ≡ true) ⊎ (len < cap) → front ≡ 0 → len < cap
spare-there [] front len cap none (inl based) is_zero = absurd (let no : false ≡ true = based in cc)
spare-there (c ∷ cs) front len cap none (inl based) is_zero =
    let first : AllByRecursion IsNoBase (c ∷ cs) = subst (λ (n : ℕ). AllByRecursion IsNoBase (drop n (c ∷ cs))) is_zero none in
    absurd (let no : true ≡ false = sym based ∙ first.0 in cc)
spare-there chains front len cap none (inr room) is_zero = room

-- the rest of them as a slice has it
pub rest-is : {X : Type 0} (xs : List X) (n : ℕ) → take (length xs - n) (drop n xs) ≡ drop n xs
rest-is xs n = ap (λ (m : ℕ). take m (drop n xs)) (sym (length-drop n xs)) ∙ take-length (drop n xs)
