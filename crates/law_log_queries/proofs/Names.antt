-- The names in the rolls of a store: what the heap says of them, and that they stay.
use Rattle.std.proofs.Common.{◌≡◌, ◌⊎◌, ℕ, ◌*◌, ◌+◌, ◌<◌, ◌≤◌, nat_lt, Bool, true, false, cond, List, [], ◌∷◌, ◌++◌, length, map, Option, None}
use Rattle.std.proofs.Common.{Some, refl, arith, ap, sym, subst}
use Rattle.std.proofs.Common.{◌∙◌, inl, inr, append_assoc}
use Rattle.std.specs.Prelude.{IsTrue, MatchBool, flat_map}
use Rattle.std.specs.List.{AllByRecursion}
use Rattle.std.proofs.lemmas.Bool.Decides.{nat_tests}
use Rattle.std.proofs.lemmas.List.{map-append}
use Rattle.disk.specs.Parts.{KeepsPart}
use Rattle.disk.specs.declared.area.Area.TheVariants as areas
use Rattle.disk.proofs.Parts.{read_part}
use Rattle.history.proofs.Filters.{AllByRecursion-append}
use Rattle.history.specs.Histories.{Commit, History, HasRisingTimes, last}
use Rattle.history.specs.Machine.{Machine}
use Rattle.law_image.specs.Values.{Value}
use Rattle.law_image.specs.Reading.{Head, Reading}
use Rattle.law_image.specs.Log.{heads_of, reclaim_mark}
use Rattle.law_image.specs.StandsFor.{StandsFor, head_of, archived_upto, reclaimed_upto}
use Rattle.law_image.proofs.Standing.{archived-range}
use Rattle.law_log.specs.Chains.{reclaimed_by, commits_in, later_heads, told}
use Rattle.law_log.proofs.Telling.{tells-all}
use Rattle.archive.specs.Searches.{archive_of}
use Rattle.log_entries.specs.declared.entry.Entry.{Entry}
use Rattle.log_entries.specs.declared.entry.Entry.TheVariants.{Group, Archived}
use Rattle.log_entries.specs.declared.entry.Entry.TheVariants as entries
use Rattle.log_entries.specs.declared.entry.Roll.{Roll}
use Rattle.log_entries.specs.Ranges.{IsEntry, IsRoll}
use Rattle.log_base.specs.Bases.{mark_of}
use Rattle.log_base.proofs.NamesTold.{heads-told, names-rolled, rolled, rolled-early}
use Rattle.log_base.proofs.RollNames.{names-long}
use Rattle.log_base.proofs.RunsLeft.{mark-is}
use Rattle.log_recovery.specs.Live.{LiveChainValue, live_of}
use Rattle.log_writer.specs.Writer.{WriterState}
use Rattle.law_log_layout.specs.HeapLog.{PlacedChain, PlacedRoll, HeapLog, HoldsRoll, IsPlaced, IsStoredRoll, chains_told, name_bytes, placed_group, rolls_in}
use Rattle.log_store.specs.Live.{is_base}
use Rattle.log_store.specs.Names.{NamesLie, names_mark}
use Rattle.log_store.specs.Values.{LogStoreValue}
use Rattle.log_store.specs.declared.job.Job.{Job}
use Rattle.log_store.specs.declared.job.JobStage.{JobStage}
use Rattle.log_store.specs.declared.job.JobStage.TheVariants.{Writing, Ready, Entering}
use Rattle.log_store.specs.declared.job.JobWork.{JobWork}
use Rattle.log_store.specs.declared.job.JobWork.TheVariants.{Floor}
use Rattle.log_store.specs.declared.job.JobWork.TheVariants as works
use Rattle.law_refinement.specs.Homes.{KeepsUpTo}
use Rattle.law_refinement.proofs.RunsKept.{IsLater, last-rises}
use Rattle.law_log_store.specs.Standing.{StandsOnHeap, StopsOnHeap, HasTurn, HasJob, HasStage, placed_entry}
use Rattle.law_log_steps.specs.Store.{IsStoreOf}
use Rattle.law_log_steps.proofs.Pumping.{mark-more}
use Rattle.law_log_queries.specs.Archive.{NamesStand}
use Rattle.law_log_queries.proofs.Leaving.{LeavesArchive, SameNames}

-- ---- what the heap says

later-than : (mark : ℕ) (heads : List Head) → AllByRecursion (λ (head : Head). mark < head.time) (later_heads mark heads)
later-than mark [] = tt
later-than mark (head ∷ heads) =
    (elim (nat_lt mark head.time) as (λ (b : Bool). nat_lt mark head.time ≡ b
    → AllByRecursion (λ (h : Head). mark < h.time) (cond b (head ∷ later_heads mark heads) (later_heads mark heads))) [
      | true ↦ λ e. (grind (arith, nat_tests, e), later-than mark heads)
      | false ↦ λ e. later-than mark heads
    ]) refl

-- the mark in memory is that of the log's chains, whatever chain is in the writing behind them
behind-mark : (chains : List PlacedChain) (c : PlacedChain) (live : List LiveChainValue) → live ≡ map live_of (chains ++ c ∷ [])
    → is_base (live_of c).part ≡ false → mark_of live ≡ mark_of (map live_of chains)
behind-mark chains c live are none =
    ap mark_of (are ∙ map-append live_of chains (c ∷ [])) ∙ mark-more (map live_of chains) (live_of c) none

live-mark : (v : LogStoreValue) (h queue : History Value) (floors : ℕ → ℕ) (s : StandsOnHeap v h queue floors)
    → names_mark v ≡ mark_of (map live_of s.l.chains)
live-mark v h queue floors s = by-turn v.turn s.turn
  where
    no-base : (w : WriterState) (work : JobWork) → is_base (live_of (placed_entry w work)).part ≡ false
    no-base w (Floor floor kept) = refl
    no-base w (works.Archive a archives) = refl

    by-stage : (work : JobWork) (k : JobStage) → HasStage v s.l s.reading s.made work k → names_mark v ≡ mark_of (map live_of s.l.chains)
    by-stage work (Writing writer) has = ap mark_of (has.live).chains
    by-stage work (Ready waited) has = ap mark_of (has.live).chains
    by-stage work (Entering w) has = behind-mark s.l.chains (placed_entry w work) v.live.chains (has.live).chains (no-base w work)

    by-job : (j : Option Job) → HasJob v s.l s.reading s.made j → names_mark v ≡ mark_of (map live_of s.l.chains)
    by-job None has = ap mark_of (has.live).chains
    by-job (Some job) has = by-stage job.work job.stage has

    by-turn : (t : Option WriterState) → HasTurn v queue s.l s.reading s.made h t → names_mark v ≡ mark_of (map live_of s.l.chains)
    by-turn None has = by-job v.job has
    by-turn (Some w) has = behind-mark s.l.chains (placed_group w.numbers w.link has.group) v.live.chains (has.live).chains refl

-- the rolls that a log names are where rolls may be
are-rolls : (most : ℕ) (chains : List PlacedChain) → AllByRecursion (IsPlaced most) chains
    → AllByRecursion IsRoll (flat_map (λ (c : PlacedChain). rolls_in c.entry) chains)
are-rolls most [] placed = tt
are-rolls most (c ∷ cs) placed =
    AllByRecursion-append IsRoll (rolls_in c.entry) (flat_map (λ (d : PlacedChain). rolls_in d.entry) cs) (by-entry c.entry placed.0.entry)
    (are-rolls most cs placed.1)
  where
    by-entry : (e : Entry) → IsEntry most e → AllByRecursion IsRoll (rolls_in e)
    by-entry (Group members) is = tt
    by-entry (Archived archive) is = tt
    by-entry (entries.Floor floor) is = tt
    by-entry (entries.Base base) is = is.parts.rolls

module _ (v : LogStoreValue) (h queue : History Value) (floors : ℕ → ℕ) (s : StandsOnHeap v h queue floors) where
  abbrev l : HeapLog
  l = s.l

  abbrev names : List Head
  names = (s.is_log).names

  abbrev mark : ℕ
  mark = reclaimed_by (chains_told names l.chains)

  mark-same : names_mark v ≡ mark
  mark-same = live-mark v h queue floors s ∙ mark-is names l.chains

  rolled-is : rolled (chains_told names l.chains) ≡ names
  rolled-is = names-rolled names l.rolls l.chains (s.is_log).rolls_named (s.is_log).are_names ((s.is_log).rules).each

  log-is : (s.reading).log ≡ told (chains_told names l.chains)
  log-is = ap (λ (x : Reading). x.log) (s.is_log).reading_is

  abbrev others : List Head
  others = later_heads mark (flat_map commits_in (chains_told names l.chains))

  heads-are : map head_of h ≡ names ++ others
  heads-are =
      sym ((s.stands).opens).commits ∙ ap heads_of log-is ∙ heads-told (chains_told names l.chains) ((s.is_log).rules).each
      ∙ ap (λ (xs : List Head). xs ++ others) rolled-is

  held : (rolls : List PlacedRoll) → AllByRecursion (λ (r : PlacedRoll). KeepsPart r.roll.start (flat_map name_bytes r.names) v.disk.areas.archive) rolls
      → AllByRecursion (HoldsRoll (archive_of v.disk)) rolls
  held [] keeps = tt
  held (r ∷ rs) keeps =
      (read_part r.roll.start (flat_map name_bytes r.names) v.disk.areas.archive ((s.sound) areas.Archive) keeps.0, held rs keeps.1)

  marked : reclaimed_upto s.reading ≡ mark
  marked = ap reclaim_mark log-is ∙ (tells-all (chains_told names l.chains) ((s.is_log).rules).each).reclaimed

  pub names-of-heap : NamesStand v h
  names-of-heap = record {
    rolls = l.rolls;
    names = names;
    lie = record {
      rolls_are = sym (s.named).rolls;
      each = subst (λ (rolls : List Roll). AllByRecursion IsRoll rolls) (sym ((s.named).rolls ∙ (s.is_log).rolls_named))
          (are-rolls v.roots.extents l.chains (s.is_log).placed);
      held = held l.rolls (s.archive).rolls;
      stored = (s.is_log).each_roll;
      are_names = (s.is_log).are_names;
      by_mark = subst (λ (n : ℕ). AllByRecursion (λ (head : Head). head.time ≤ n) names) (sym mark-same)
          (subst (λ (xs : List Head). AllByRecursion (λ (head : Head). head.time ≤ mark) xs) rolled-is
          (rolled-early (chains_told names l.chains) ((s.is_log).rules).each));
    };
    ends = ((s.named).end).rolls;
    others = others;
    are = heads-are;
    late = subst (λ (n : ℕ). AllByRecursion (λ (head : Head). n < head.time) others) (sym mark-same)
        (later-than mark (flat_map commits_in (chains_told names l.chains)));
    by_last =
        let order = ((s.stands).homes).marks in
        let upto = archived-range s.reading h floors s.stands in
        let is = marked in
        let same = mark-same in
        omega (arith, order, upto, is, same);
  }

-- ---- they stay

-- no byte of the rolls is written
rolls-held : (end : ℕ) (old new : List ℕ) (rolls : List PlacedRoll) → KeepsUpTo end old new
    → AllByRecursion (λ (r : PlacedRoll). r.roll.start + r.roll.len ≤ end) rolls → AllByRecursion IsStoredRoll rolls → AllByRecursion (HoldsRoll old) rolls
    → AllByRecursion (HoldsRoll new) rolls
rolls-held end old new [] keeps ends stored held = tt
rolls-held end old new (r ∷ rs) keeps ends stored held =
    let long : length (flat_map name_bytes r.names) ≡ 16 * length r.names = names-long r.names in
    let len = stored.0.length_is in
    let low = ends.0 in (
      keeps r.roll.start (flat_map name_bytes r.names) (omega (arith, long, len, low)) held.0,
      rolls-held end old new rs keeps ends.1 stored.1 held.1,
    )

ends-later : (old new : ℕ) (rolls : List PlacedRoll) → old ≤ new → AllByRecursion (λ (r : PlacedRoll). r.roll.start + r.roll.len ≤ old) rolls
    → AllByRecursion (λ (r : PlacedRoll). r.roll.start + r.roll.len ≤ new) rolls
ends-later old new [] low ends = tt
ends-later old new (r ∷ rs) low ends = (omega (arith, low, ends.0), ends-later old new rs low ends.1)

-- commits that follow are later than the mark
more-late : (mark t : ℕ) (more : History Value) → mark ≤ t → HasRisingTimes t more → AllByRecursion (λ (head : Head). mark < head.time) (map head_of more)
more-late mark t [] low up = tt
more-late mark t (c ∷ cs) low up =
    let later = up.0 in (omega (arith, low, later), more-late mark c.time cs (omega (arith, low, later)) up.2)

both-late : (n : ℕ) (xs ys : List Head) → AllByRecursion (λ (head : Head). n < head.time) xs → AllByRecursion (λ (head : Head). n < head.time) ys
    → AllByRecursion (λ (head : Head). n < head.time) (xs ++ ys)
both-late n [] ys a b = b
both-late n (x ∷ xs) ys a b = (a.0, both-late n xs ys a.1 b)

pub names-later : (old new : LogStoreValue) (m after : Machine Value) → IsLater m after → SameNames old new → old.named.end ≤ new.named.end
    → KeepsUpTo old.named.end (archive_of old.disk) (archive_of new.disk) → NamesStand old m.published → NamesStand new after.published
names-later old new m after later same end keeps n =
    let past = last-rises m after later in
    let marks : names_mark new ≡ names_mark old = same.mark in
    let by_last = n.by_last in
    record {
      rolls = n.rolls;
      names = n.names;
      lie = record {
        rolls_are = (n.lie).rolls_are ∙ sym same.rolls;
        each = subst (λ (rolls : List Roll). AllByRecursion IsRoll rolls) (sym same.rolls) (n.lie).each;
        held = rolls-held old.named.end (archive_of old.disk) (archive_of new.disk) n.rolls keeps n.ends (n.lie).stored (n.lie).held;
        stored = (n.lie).stored;
        are_names = (n.lie).are_names;
        by_mark = subst (λ (k : ℕ). AllByRecursion (λ (head : Head). head.time ≤ k) n.names) (sym marks) (n.lie).by_mark;
      };
      ends = ends-later old.named.end new.named.end n.rolls end n.ends;
      others = n.others ++ map head_of later.more;
      are = ap (map head_of) later.published ∙ map-append head_of m.published later.more ∙ ap (λ (xs : List Head). xs ++ map head_of later.more) n.are
          ∙ append_assoc n.names n.others (map head_of later.more);
      late = subst (λ (k : ℕ). AllByRecursion (λ (head : Head). k < head.time) (n.others ++ map head_of later.more)) (sym marks)
          (both-late (names_mark old) n.others (map head_of later.more) n.late
          (more-late (names_mark old) (last m.published) later.more n.by_last later.rising));
      by_last = omega (arith, marks, by_last, past);
    }

-- behind a call that leaves the archive
pub names-left : (tells : Bool) (old new : LogStoreValue) (m after : Machine Value) → IsLater m after → LeavesArchive tells old new → IsStoreOf tells new after
    → IsTrue tells → NamesStand old m.published → NamesStand new after.published
names-left tells old new m after later leaves is told n = by-names leaves.names
  where
    by-names : SameNames old new ⊎ (new.commits.failed ≡ false) → NamesStand new after.published
    by-names (inl same) = names-later old new m after later same leaves.end (leaves.all told) n
    by-names (inr works) =
        names-of-heap new after.published after.queue after.floors
        (subst (λ (b : Bool). MatchBool b (StopsOnHeap new after.published after.queue after.floors)
        (StandsOnHeap new after.published after.queue after.floors))
        works (is.disk told))
