-- What was read of a run, whatever its bytes are.
use Rattle.std.proofs.Common.{◌≡◌, ◌≢◌, ◌⊎◌, inl, inr, ℕ, zero, suc, ◌+◌, ◌-◌, ◌≤◌, ◌<◌, Bool, true, false, cond, IsTrue, List, [], ◌∷◌, ◌++◌, length, Option}
use Rattle.std.proofs.Common.{Some, None, refl, sym, ◌∙◌, ap, subst, arith}
use Rattle.std.specs.Prelude.{Result, Ok, Err, MatchResult}
use Rattle.std.specs.List.{slice_range}
use Rattle.disk.specs.Calls.{DiskState}
use Rattle.law_image.specs.Values.{Value}
use Rattle.wire.specs.Values.{IsValue, value_bytes}
use Rattle.history.specs.declared.key.Key.{Key}
use Rattle.archive.specs.declared.head.Placed.{Placed}
use Rattle.archive.specs.declared.head.Head.{Head}
use Rattle.archive.specs.Answers.{precedes, head_at}
use Rattle.archive.specs.Traces.{nth_head, last_of, low_of, high_of, IsSearch, IsSearched, IsSearchBroken, IsSearchBrokenFrom}
use Rattle.archive.specs.declared.run.RunEntry.{RunEntry}
use Rattle.archive.specs.declared.fault.ArchiveFault.{ArchiveFault}
use Rattle.archive.specs.declared.fault.ArchiveFault.TheVariants.{Device, NoMemory, Damaged}
use Rattle.archive.specs.Parts.{IsRight, Keeps}
use Rattle.archive.specs.Runs.{run_end, RunsEndBy}
use Rattle.archive.specs.Searches.{IsPlace, archive_of, is_in_range, may_follow_last}
use Rattle.archive.specs.Damages.{IsEntryThere, entry_at, head_standing, value_part, placed_at, IsHeadSound, IsHeadBroken, IsValueAt, IsValueBroken, PastEnd}
use Rattle.archive.specs.Damages.{BadEnd, NoValue, IfDamaged}

-- what is kept is right after looks
pub right_again : {tells : Bool} {kept later : List (ℕ × List ℕ)} {state after : DiskState} {end : ℕ}
    → IsTrue tells → IsRight kept (archive_of state) → after ≡ state → Keeps end tells (archive_of state) kept later → IsRight later (archive_of after)
right_again {tells} {kept} {later} {state} {after} {end} told right same keeps =
    subst (λ (s : DiskState). IsRight later (archive_of s)) (sym same) (keeps.right told right)

-- the same, of runs: there is a place by which all of them end
ends_by : (runs : List RunEntry) → (limit : ℕ) × RunsEndBy limit runs
ends_by [] = (0, λ n run at. cc)
ends_by (x ∷ xs) = let rest = ends_by xs in (run_end x + rest.0, by rest) where
  by : (rest : (limit : ℕ) × RunsEndBy limit xs) → RunsEndBy (run_end x + rest.0) (x ∷ xs)
  by rest zero run at = let same : x ≡ run = cc in let end : run_end x ≡ run_end run = ap run_end same in omega (arith, end)
  by rest (suc n) run at = let less = rest.1 n run at in omega (arith, less)

pub right_among : {tells : Bool} {kept later : List (ℕ × List ℕ)} {state after : DiskState} (runs : List RunEntry)
    → IsTrue tells → IsRight kept (archive_of state) → after ≡ state → ((limit : ℕ) → RunsEndBy limit runs → Keeps limit tells (archive_of state) kept later)
    → IsRight later (archive_of after)
right_among {tells} {kept} {later} {state} {after} runs told right same keeps = let ends = ends_by runs in right_again told right same (keeps ends.0 ends.1)

-- the bytes that were read behind a head are those up to the next place
pub value_answer : (area later : List ℕ) (run : RunEntry) (n place end len : ℕ) (result : Result Value ArchiveFault)
    → later ≡ area → place ≡ entry_at area run n → (end ≡ entry_at area run (n + 1)) × IsEntryThere area run (n + 1) → IsPlace run (n + 1) end
    → (place + 28 ≤ end) × (end ≤ place + 4123) → len ≡ end - place - 26
    → MatchResult result (λ value. IsValue value
    × (slice_range later (run.slot.start + (place + 26)) (run.slot.start + (place + 26) + len) ≡ value_bytes value))
    (IfDamaged (λ _. (length later < run_end run)
    ⊎ ((value : List (List ℕ)) → IsValue value
    → slice_range later (run.slot.start + (place + 26)) (run.slot.start + (place + 26) + len) ≢ value_bytes value)))
    → MatchResult result (IsValueAt area run n) (IfDamaged (λ _. IsValueBroken area run n))
value_answer area later run n place end len result same here (next, there) placed room size = by_result result where
  part : slice_range later (run.slot.start + (place + 26)) (run.slot.start + (place + 26) + len) ≡ value_part area run n
  part =
      let to : run.slot.start + (place + 26) + len ≡ run.slot.start + entry_at area run (n + 1) = omega (arith, room.0, size, next) in
      let from : run.slot.start + (place + 26) ≡ run.slot.start + (entry_at area run n + 26) = ap (λ (k : ℕ). run.slot.start + (k + 26)) here in
      ap (λ (xs : List ℕ). slice_range xs (run.slot.start + (place + 26)) (run.slot.start + (place + 26) + len)) same
      ∙ ap (λ (k : ℕ). slice_range area (run.slot.start + (place + 26)) k) to
      ∙ ap (λ (k : ℕ). slice_range area k (run.slot.start + entry_at area run (n + 1))) from

  by_result : (result : Result Value ArchiveFault)
      → MatchResult result (λ value. IsValue value
      × (slice_range later (run.slot.start + (place + 26)) (run.slot.start + (place + 26) + len) ≡ value_bytes value))
      (IfDamaged (λ _. (length later < run_end run)
      ⊎ ((value : List (List ℕ)) → IsValue value
      → slice_range later (run.slot.start + (place + 26)) (run.slot.start + (place + 26) + len) ≢ value_bytes value)))
      → MatchResult result (IsValueAt area run n) (IfDamaged (λ _. IsValueBroken area run n))
  by_result (Ok value) is = record {
    there = there;
    end = subst (IsPlace run (n + 1)) next placed;
    least = omega (arith, room.0, here, next);
    most = omega (arith, room.1, here, next);
    is = is.0;
    spelled = sym part ∙ is.1;
  }
  by_result (Err Device) is = tt
  by_result (Err NoMemory) is = tt
  by_result (Err (Damaged start)) (inl past) = BadEnd (PastEnd (subst (λ (xs : List ℕ). length xs < run_end run) same past))
  by_result (Err (Damaged start)) (inr none) = NoValue (λ value is spelled. none value is (part ∙ spelled))

-- ---- the search by halves

-- what has been read of a search that goes on: what was read last, and how many records precede at least and at most
pub record IsHalfway (area : List ℕ) (run : RunEntry) (key : Key) (time : ℕ) (last : Option Placed) (low high : ℕ) : Type 0 where
  pub read : List ℕ
  pub search : IsSearch area run key time read
  pub last_is : last ≡ last_of area run read
  pub low_is : low ≡ low_of area run key time read
  pub high_is : high ≡ high_of area run key time read

pub halfway_first : (area : List ℕ) (run : RunEntry) (key : Key) (time : ℕ) → IsHalfway area run key time None 0 run.slot.records
halfway_first area run key time = record { read = []; search = tt; last_is = refl; low_is = refl; high_is = refl }

module _ (area later : List ℕ) (run : RunEntry) (key : Key) (time : ℕ) (last : Option Placed) (low high n : ℕ) (same : later
    ≡ area) (before : IsHalfway area run key time last low high) (from : low ≤ n) (to : n < high) where
  -- what was read later was there before
  head_there : (placed : Placed) → (placed ≡ placed_at later run n) × IsHeadSound later run last n → (placed ≡ placed_at area run n)
      × IsHeadSound area run (last_of area run before.read) n
  head_there placed is =
      subst (λ (xs : List ℕ). (placed ≡ placed_at xs run n) × IsHeadSound xs run (last_of area run before.read) n) same
      (subst (λ (o : Option Placed). (placed ≡ placed_at later run n) × IsHeadSound later run o n) before.last_is is)

  searched_more : (placed : Placed) → (placed ≡ placed_at later run n) × IsHeadSound later run last n → IsSearch area run key time (n ∷ before.read)
  searched_more placed is = (
    (head_there placed is).1,
    subst (λ (k : ℕ). k ≤ n) before.low_is from,
    subst (λ (k : ℕ). n < k) before.high_is to,
    before.search,
  )

  test_there : (placed : Placed) (b : Bool) → (placed ≡ placed_at later run n) × IsHeadSound later run last n → precedes key time placed.head ≡ b
      → precedes key time (nth_head area run n) ≡ b
  test_there placed b is test = ap (λ (p : Placed). precedes key time p.head) (sym (head_there placed is).0) ∙ test

  pub halfway_before : (placed : Placed) → (placed ≡ placed_at later run n) × IsHeadSound later run last n → precedes key time placed.head ≡ true
      → IsHalfway area run key time (Some placed) (n + 1) high
  halfway_before placed is test =
      let there = test_there placed true is test in
      record {
        read = n ∷ before.read;
        search = searched_more placed is;
        last_is = ap Some (head_there placed is).0;
        low_is = ap (λ (b : Bool). cond b (n + 1) (low_of area run key time before.read)) (sym there);
        high_is = before.high_is ∙ ap (λ (b : Bool). cond b (high_of area run key time before.read) n) (sym there);
      }

  pub halfway_behind : (placed : Placed) → (placed ≡ placed_at later run n) × IsHeadSound later run last n → precedes key time placed.head ≡ false
      → IsHalfway area run key time (Some placed) low n
  halfway_behind placed is test =
      let there = test_there placed false is test in
      record {
        read = n ∷ before.read;
        search = searched_more placed is;
        last_is = ap Some (head_there placed is).0;
        low_is = before.low_is ∙ ap (λ (b : Bool). cond b (n + 1) (low_of area run key time before.read)) (sym there);
        high_is = ap (λ (b : Bool). cond b (high_of area run key time before.read) n) (sym there);
      }

  pub halfway_broken : (fault : ArchiveFault) → IfDamaged (λ _. IsHeadBroken later run last n) fault → IfDamaged (λ _. IsSearchBroken area run key time) fault
  halfway_broken Device is = tt
  halfway_broken NoMemory is = tt
  halfway_broken (Damaged start) is = record {
    read = before.read;
    search = before.search;
    number = n;
    low = subst (λ (k : ℕ). k ≤ n) before.low_is from;
    high = subst (λ (k : ℕ). n < k) before.high_is to;
    broken = subst (λ (xs : List ℕ). IsHeadBroken xs run (last_of area run before.read) n) same
        (subst (λ (o : Option Placed). IsHeadBroken later run o n) before.last_is is);
  }

-- a search that has ended
pub halfway_done : {area : List ℕ} {run : RunEntry} {key : Key} {time : ℕ} {last : Option Placed} {low high : ℕ} → IsHalfway area run key time last low high
    → low ≡ high
    → (read : List ℕ) × IsSearched area run key time read low × (last ≡ last_of area run read)
halfway_done way met = (way.read, record { search = way.search; low = way.low_is; high = met ∙ way.high_is }, way.last_is)

-- the same of a search that knows of a record from the beginning
pub record IsHalfwayFrom (area : List ℕ) (run : RunEntry) (key : Key) (time m : ℕ) (last : Option Placed) (low high : ℕ) : Type 0 where
  pub way : IsHalfway area run key time last low high
  pub read : List ℕ
  pub from : way.read ≡ read ++ m ∷ []

pub from_first : (area : List ℕ) (run : RunEntry) (key : Key) (time m : ℕ) (placed : Placed) → m < run.slot.records → placed ≡ placed_at area run m
    → IsHeadSound area run None m
    → precedes key time placed.head ≡ true → IsHalfwayFrom area run key time m (Some placed) (m + 1) run.slot.records
unfolding halfway_first halfway_before
from_first area run key time m placed few is sound test = record {
  way = halfway_before area area run key time None 0 run.slot.records m refl (halfway_first area run key time) (omega arith) few placed (is, sound) test;
  read = [];
  from = refl;
}

module _ (area later : List ℕ) (run : RunEntry) (key : Key) (time m : ℕ) (last : Option Placed) (low high n : ℕ) (same : later
    ≡ area) (before : IsHalfwayFrom area run key time m last low high) (from : low ≤ n) (to : n < high) where
  pub from_before : (placed : Placed) → (placed ≡ placed_at later run n) × IsHeadSound later run last n → precedes key time placed.head ≡ true
      → IsHalfwayFrom area run key time m (Some placed) (n + 1) high
  unfolding halfway_before
  from_before placed is test = record {
    way = halfway_before area later run key time last low high n same before.way from to placed is test;
    read = n ∷ before.read;
    from = ap (λ (ns : List ℕ). n ∷ ns) before.from;
  }

  pub from_behind : (placed : Placed) → (placed ≡ placed_at later run n) × IsHeadSound later run last n → precedes key time placed.head ≡ false
      → IsHalfwayFrom area run key time m (Some placed) low n
  unfolding halfway_behind
  from_behind placed is test = record {
    way = halfway_behind area later run key time last low high n same before.way from to placed is test;
    read = n ∷ before.read;
    from = ap (λ (ns : List ℕ). n ∷ ns) before.from;
  }

  pub from_broken : (fault : ArchiveFault) → IfDamaged (λ _. IsHeadBroken later run last n) fault
      → IfDamaged (λ _. IsSearchBrokenFrom area run key time m) fault
  from_broken Device is = tt
  from_broken NoMemory is = tt
  from_broken (Damaged start) is = record {
    broken = record {
      read = before.way.read;
      search = before.way.search;
      number = n;
      low = subst (λ (k : ℕ). k ≤ n) before.way.low_is from;
      high = subst (λ (k : ℕ). n < k) before.way.high_is to;
      broken = subst (λ (xs : List ℕ). IsHeadBroken xs run (last_of area run before.way.read) n) same
          (subst (λ (o : Option Placed). IsHeadBroken later run o n) before.way.last_is is);
    };
    read = before.read;
    from = before.from;
  }

pub from_done : {area : List ℕ} {run : RunEntry} {key : Key} {time m : ℕ} {last : Option Placed} {low high : ℕ}
    → IsHalfwayFrom area run key time m last low high → low ≡ high
    → (read : List ℕ) × IsSearched area run key time (read ++ m ∷ []) low × (last ≡ last_of area run (read ++ m ∷ []))
from_done {area} {run} {key} {time} {m} {last} {low} way met =
    let searched : IsSearched area run key time way.way.read low = record { search = way.way.search; low = way.way.low_is; high = met ∙ way.way.high_is } in (
      way.read,
      subst (λ (ns : List ℕ). IsSearched area run key time ns low) way.from searched,
      subst (λ (ns : List ℕ). last ≡ last_of area run ns) way.from way.way.last_is,
    )

-- a head that was read and passed the tests
pub head_answer : (area later : List ℕ) (run : RunEntry) (last : Option Placed) (n place : ℕ) (bytes : List ℕ) (head : Head)
    → later ≡ area → n < run.slot.records → (place ≡ entry_at area run n) × IsEntryThere area run n → IsPlace run n place
    → bytes ≡ slice_range later (run.slot.start + place) (run.slot.start + place + 26) → head ≡ head_at bytes
    → is_in_range head run ≡ true → may_follow_last last (record { number = n; place = place; head = head }) ≡ true
    → (record { number = n; place = place; head = head } ≡ placed_at area run n) × IsHeadSound area run last n
head_answer area later run last n place bytes head same few entry placed is read in_range follows =
    let head_is : head ≡ head_standing area run (entry_at area run n) =
    read
    ∙ ap head_at (is ∙ ap (λ (xs : List ℕ). slice_range xs (run.slot.start + place) (run.slot.start + place + 26)) same
    ∙ ap (λ (k : ℕ). slice_range area (run.slot.start + k) (run.slot.start + k + 26)) entry.0) in
    let both : record { number = n; place = place; head = head } ≡ placed_at area run n = λ i. record { number = n; place = entry.0 i; head = head_is i } in (
      both,
      record {
        few = few;
        there = entry.1;
        place = subst (IsPlace run n) entry.0 placed;
        in_range = subst (λ (h : Head). is_in_range h run ≡ true) head_is in_range;
        follows = subst (λ (p : Placed). may_follow_last last p ≡ true) both follows;
      },
    )
