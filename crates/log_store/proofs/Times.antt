-- What is answered of a label, by what its rolls and memory have.
use Rattle.std.proofs.Common.{◌≡◌, ◌<◌, ◌≤◌, ◌++◌, ℕ, nat_lt, nat_le, filter, Bool, true, false, cond, arith, IsTrue, List, [], ◌∷◌, Result, Ok}
use Rattle.std.proofs.Common.{Err, refl, ap, sym, subst, ◌∙◌}
use Rattle.std.specs.List.{AllByRecursion}
use Rattle.std.proofs.lemmas.Bool.Decides.{nat_tests}
use Rattle.std.specs.declared.alloc.Global.{Global}
use Rattle.std.specs.declared.vec.Vec.{Vec}
use Rattle.disk.specs.Calls.{DiskState}
use Rattle.history.proofs.Members.{Contains-nil}
use Rattle.law_image.specs.Reading.{Head}
use Rattle.archive.specs.Parts.{IsRight}
use Rattle.archive.specs.Searches.{archive_of}
use Rattle.archive.specs.Searches as searches
use Rattle.archive.specs.declared.fault.ArchiveFault.{ArchiveFault}
use Rattle.archive.specs.declared.fault.ArchiveFault.TheVariants.{Device, NoMemory, Damaged}
use Rattle.timequery.specs.Faults.{after_query, query_fault}
use Rattle.timequery.specs.Homes.{Answers}
use Rattle.timequery.specs.declared.fault.QueryFault.{QueryFault}
use Rattle.group.specs.CommitOrder.{times_of}
use Rattle.commits.specs.Values.{order_of}
use Rattle.log_entries.specs.declared.entry.Roll.{Roll}
use Rattle.law_log_layout.specs.HeapLog.{PlacedRoll}
use Rattle.log_names.specs.Rolls.{HoldRolls, times_named}
use Rattle.log_store.specs.Names.{AnswersTimes, NamesLie, RefusesTimes, early_times, forgotten_upto, late_times, names_mark}
use Rattle.log_store.specs.Values.{LogStoreValue}

-- a fault of the archive leaves the disk as one of a query does
after-fault : (why : ArchiveFault) (disk : DiskState)
    → searches.after_query {T = Vec ℕ Global} (Err why) disk ≡ after_query {T = Vec ℕ Global} (Err (query_fault why)) disk
after-fault Device disk = refl
after-fault NoMemory disk = refl
after-fault (Damaged start) disk = refl

fault-refuses : (why : ArchiveFault) → RefusesTimes (query_fault why)
fault-refuses Device = tt
fault-refuses NoMemory = tt
fault-refuses (Damaged start) = tt

-- and damages nothing where it does not
refusal-is : (why : ArchiveFault) (P Q : Vec ℕ Global → Type 0) → searches.Answers (Err why) P → Answers (Err (query_fault why)) Q
refusal-is Device P Q is = tt
refusal-is NoMemory P Q is = tt
refusal-is (Damaged start) P Q is = absurd is

-- what is left of times that are in these bounds is in them, and no later than a mark
early-bound : (mark upto : ℕ) (times : List ℕ) → AllByRecursion (λ (time : ℕ). (0 < time) × (time ≤ upto)) times
    → AllByRecursion (λ (time : ℕ). (0 < time) × (time ≤ mark)) (filter (λ (time : ℕ). nat_le time mark) times)
early-bound mark upto [] all = tt
early-bound mark upto (t ∷ ts) all =
    (elim (nat_le t mark) as (λ (b : Bool). nat_le t mark ≡ b → AllByRecursion (λ (time : ℕ). (0 < time) × (time ≤ mark))
    (cond b (t ∷ filter (λ (time : ℕ). nat_le time mark) ts) (filter (λ (time : ℕ). nat_le time mark) ts))) [
      | true ↦ λ e. ((all.0.0, grind (arith, nat_tests, e)), early-bound mark upto ts all.1)
      | false ↦ λ e. early-bound mark upto ts all.1
    ]) refl

module _ (tells : Bool) (v : LogStoreValue) (label mark : ℕ) (rolls : List Roll) (result : Result (Vec ℕ Global) ArchiveFault) (disk : DiskState)
    (mark-is : mark ≡ names_mark v) (rolls-are : rolls ≡ v.named.rolls) (after : disk ≡ searches.after_query result v.disk)
    (only : (heads : List Head) → IsTrue tells → IsRight [] (archive_of v.disk) → HoldRolls (archive_of v.disk) mark rolls heads
    → searches.Answers result (λ found. found.items ≡ times_named label heads)) where
  -- right rolls are searched
  searched : (placed : List PlacedRoll) (names : List Head) → IsTrue tells → NamesLie v (archive_of v.disk) placed names
      → searches.Answers result (λ found. found.items ≡ times_named label names)
  searched placed names told lie =
      only names told (record { each = λ from bytes there. absurd (Contains-nil (from, bytes) there) })
      (subst (λ (m : ℕ). HoldRolls (archive_of v.disk) m rolls names) (sym mark-is)
      (subst (λ (rs : List Roll). HoldRolls (archive_of v.disk) (names_mark v) rs names) (sym rolls-are)
      (record { placed = placed; rolls_are = lie.rolls_are; held = lie.held; stored = lie.stored; named = lie.are_names; early = lie.by_mark })))

  pub refused-search : (why : ArchiveFault) (answer : Result (Vec ℕ Global) QueryFault) → result ≡ Err why → answer ≡ Err (query_fault why)
      → AnswersTimes tells v label answer (record v { disk = disk })
  refused-search why answer is said =
      subst (λ (a : Result (Vec ℕ Global) QueryFault). AnswersTimes tells v label a (record v { disk = disk })) (sym said) (record {
        new_is = ap (λ (d : DiskState). record v { disk = d })
            (after ∙ ap (λ (r : Result (Vec ℕ Global) ArchiveFault). searches.after_query r v.disk) is ∙ after-fault why v.disk);
        refused = fault-refuses why;
        late = tt;
        only = λ placed names told lie.
            refusal-is why (λ found. found.items ≡ times_named label names)
            (λ found. found.items ≡ early_times v (times_named label names) ++ late_times v label)
            (subst (λ (r : Result (Vec ℕ Global) ArchiveFault). searches.Answers r (λ found. found.items ≡ times_named label names)) is
            (searched placed names told lie));
      })

  pub answered-search : (found times recent : Vec ℕ Global) → result ≡ Ok found → recent.items ≡ times_of label (order_of v.commits)
      → times.items ≡ early_times v found.items ++ filter (nat_lt (forgotten_upto v)) recent.items
      → AllByRecursion (λ (time : ℕ). (0 < time) × (time ≤ mark)) found.items → AnswersTimes tells v label (Ok times) (record v { disk = disk })
  answered-search found times recent is in_memory all within =
      let told : times.items ≡ early_times v found.items ++ late_times v label =
      all ∙ ap (λ (ts : List ℕ). early_times v found.items ++ filter (nat_lt (forgotten_upto v)) ts) in_memory in
      record {
        new_is = ap (λ (d : DiskState). record v { disk = d }) (after ∙ ap (λ (r : Result (Vec ℕ Global) ArchiveFault). searches.after_query r v.disk) is);
        refused = tt;
        late = (early_times v found.items, early-bound (forgotten_upto v) mark found.items within, told);
        only = λ placed names told-so lie.
            let rolled : found.items ≡ times_named label names =
            subst (λ (r : Result (Vec ℕ Global) ArchiveFault). searches.Answers r (λ (f : Vec ℕ Global). f.items ≡ times_named label names)) is
            (searched placed names told-so lie) in
            told ∙ ap (λ (ts : List ℕ). early_times v ts ++ late_times v label) rolled;
      }
