-- Chains that name the same leave the same room for a base.
use Rattle.std.proofs.Common.{◌≡◌, ℕ, ◌+◌, ◌*◌, ◌<◌, ◌≤◌, nat_lt, Bool, true, false, List, [], ◌∷◌, ◌++◌, length, drop, Option, None, Some}
use Rattle.std.proofs.Common.{refl, arith, ap, sym, subst, ◌∙◌, length-append}
use Rattle.std.proofs.lemmas.List.{append-nil}
use Rattle.std.proofs.lemmas.List.Concat.{flat_map-cons}
use Rattle.history.proofs.Orders.{is_lt}
use Rattle.std.proofs.lemmas.Bool.Decides.{nat_tests}
use Rattle.floors.specs.declared.floors.OwnFloor.{OwnFloor}
use Rattle.log_entries.specs.declared.entry.Archive.{Archive}
use Rattle.log_entries.specs.declared.entry.Roll.{Roll}
use Rattle.log_base.specs.Bases.{mark_of, own_behind, own_from, rolls_at, rolls_of}
use Rattle.log_recovery.specs.Live.{LiveChainValue, part_of}
use Rattle.log_recovery.specs.declared.live.LivePart.{LivePart}
use Rattle.log_recovery.specs.declared.live.LivePart.TheVariants.{Commits}
use Rattle.log_recovery.specs.declared.live.LivePart.TheVariants as parts
use Rattle.log_store.specs.Jobs.{entry_of, is_entering}
use Rattle.log_store.specs.Live.{is_base}
use Rattle.log_store.specs.Reclaiming.{base_chain}
use Rattle.log_store.specs.Reclaims.{archives_at, archives_in}
use Rattle.log_store.specs.Values.{ReclaimValue}
use Rattle.log_store.specs.declared.job.Job.{Job}
use Rattle.log_store.specs.declared.job.JobWork.{JobWork}
use Rattle.log_store.specs.declared.job.JobWork.TheVariants as works
use Rattle.law_log_store.proofs.Queues.{drop-more}
use Rattle.law_log_steps.proofs.Pumping.{mark-more}
use Rattle.law_log_room.specs.Bases.{base_most, chains_then, chains_with, entry_chain, more_rolls}
use Rattle.law_log_room.proofs.Floors.{own-longer}

-- they name as many rolls and archives, have the same mark, and floors of the same relations
pub record Alike (a b : List LiveChainValue) : Type 0 where
  pub rolls : length (rolls_of a) ≡ length (rolls_of b)
  pub mark : mark_of a ≡ mark_of b
  pub archives : length (archives_in a) ≡ length (archives_in b)
  pub own : own_from [] a ≡ own_from [] b

pub same-alike : (a : List LiveChainValue) → Alike a a
same-alike a = record { rolls = refl; mark = refl; archives = refl; own = refl }

pub alike-most : (a b : List LiveChainValue) (upto : ℕ) → Alike a b → base_most a upto ≡ base_most b upto
alike-most a b upto is =
    let more = ap (λ (mark : ℕ). more_rolls (nat_lt mark upto)) is.mark in
    let floors = ap (λ (os : List OwnFloor). length os) is.own in
    let rolls = is.rolls in
    let archives = is.archives in
    omega (arith, more, floors, rolls, archives)

-- ---- one chain more

no-rolls : (part : LivePart) → is_base part ≡ false → rolls_at part ≡ []
no-rolls (Commits last) none = refl
no-rolls (parts.Archived archive) none = refl
no-rolls (parts.Floor floor) none = refl
no-rolls (parts.Base base) none = absurd (let no : true ≡ false = none in cc)

pub rolls-more : (cs : List LiveChainValue) (c : LiveChainValue) → is_base c.part ≡ false → rolls_of (cs ++ c ∷ []) ≡ rolls_of cs
rolls-more [] c none = no-rolls c.part none
rolls-more (d ∷ ds) c none = refl

pub archives-more : (cs : List LiveChainValue) (c : LiveChainValue)
    → length (archives_in (cs ++ c ∷ [])) ≡ length (archives_in cs) + length (archives_at c.part)
archives-more [] c =
    let one : length (archives_in (c ∷ [])) ≡ length (archives_at c.part) =
    ap (λ (xs : List Archive). length xs)
    (flat_map-cons (λ (d : LiveChainValue). archives_at d.part) c [] ∙ append-nil (archives_at c.part)) in
    omega (arith, one)
archives-more (d ∷ ds) c =
    let one = ap (λ (xs : List Archive). length xs) (flat_map-cons (λ (e : LiveChainValue). archives_at e.part) d (ds ++ c ∷ []))
    ∙ length-append (archives_at d.part) (archives_in (ds ++ c ∷ [])) in
    let whole = ap (λ (xs : List Archive). length xs) (flat_map-cons (λ (e : LiveChainValue). archives_at e.part) d ds)
    ∙ length-append (archives_at d.part) (archives_in ds) in
    let rest = archives-more ds c in
    omega (arith, one, whole, rest)

pub own-more : (own : List OwnFloor) (cs : List LiveChainValue) (c : LiveChainValue) → own_from own (cs ++ c ∷ []) ≡ own_behind (own_from own cs) c.part
own-more own [] c = refl
own-more own (d ∷ ds) c = own-more (own_behind own d.part) ds c

pub alike-one : (a b : List LiveChainValue) (c d : LiveChainValue) → Alike a b → c.part ≡ d.part → is_base d.part ≡ false
    → Alike (a ++ c ∷ []) (b ++ d ∷ [])
alike-one a b c d is same none =
    let none-c : is_base c.part ≡ false = ap is_base same ∙ none in
    let rolls-a = ap (λ (xs : List Roll). length xs) (rolls-more a c none-c) in
    let rolls-b = ap (λ (xs : List Roll). length xs) (rolls-more b d none) in
    let archives-a = archives-more a c in
    let archives-b = archives-more b d in
    let part = ap (λ (p : LivePart). length (archives_at p)) same in
    record {
      rolls = (let r = is.rolls in omega (arith, rolls-a, rolls-b, r));
      mark = mark-more a c none-c ∙ is.mark ∙ sym (mark-more b d none);
      archives = (let r = is.archives in omega (arith, archives-a, archives-b, part, r));
      own = own-more [] a c ∙ (λ i. own_behind (is.own i) (same i)) ∙ sym (own-more [] b d);
    }

-- a group names nothing
pub alike-group : (a : List LiveChainValue) (c : LiveChainValue) (time : ℕ) → c.part ≡ Commits time → Alike (a ++ c ∷ []) a
alike-group a c time same =
    let none : is_base c.part ≡ false = ap is_base same in
    let archives = archives-more a c in
    let part = ap (λ (p : LivePart). length (archives_at p)) same in
    record {
      rolls = ap (λ (xs : List Roll). length xs) (rolls-more a c none);
      mark = mark-more a c none;
      archives = omega (arith, archives, part);
      own = own-more [] a c ∙ ap (own_behind (own_from [] a)) same;
    }

-- ---- once the job is over

pub entry-no-base : (work : JobWork) → is_base (part_of (entry_of work)) ≡ false
entry-no-base (works.Floor floor kept) = refl
entry-no-base (works.Archive archive archives) = refl

-- the front of the reclaim that runs is in the log
abbrev pub FrontIsIn : List LiveChainValue → Option ReclaimValue → Type 0
FrontIsIn cs None = Unit {0}
FrontIsIn cs (Some r) = r.front ≤ length cs

-- a group more leaves the same behind it
pub then-group : (reclaim : Option ReclaimValue) (job : Option Job) (cs : List LiveChainValue) (c : LiveChainValue) (time : ℕ) → c.part ≡ Commits time
    → FrontIsIn cs reclaim → Alike (chains_then reclaim job (cs ++ c ∷ [])) (chains_then reclaim job cs)
then-group (Some r) job cs c time same front =
    subst (λ (ds : List LiveChainValue). Alike (base_chain r ∷ ds) (base_chain r ∷ drop r.front cs)) (sym (drop-more r.front cs (c ∷ []) front))
    (alike-group (base_chain r ∷ drop r.front cs) c time same)
then-group None (Some job) cs c time same front = by-stage (is_entering job.stage)
  where
    by-stage : (b : Bool) → Alike (chains_with b job.work (cs ++ c ∷ [])) (chains_with b job.work cs)
    by-stage true = alike-group cs c time same
    by-stage false =
        alike-one (cs ++ c ∷ []) cs (entry_chain job.work) (entry_chain job.work) (alike-group cs c time same) refl (entry-no-base job.work)
then-group None None cs c time same front = alike-group cs c time same

-- ---- a later mark

pub later-most : (chains : List LiveChainValue) (upto later : ℕ) → upto ≤ later → base_most chains upto ≤ base_most chains later
later-most chains upto later le = by-tests (nat_lt (mark_of chains) upto) refl (nat_lt (mark_of chains) later) refl
  where
    by-tests : (a : Bool) → nat_lt (mark_of chains) upto ≡ a → (b : Bool) → nat_lt (mark_of chains) later ≡ b
        → 21 + 17 * (length (rolls_of chains) + more_rolls a) + 35 * length (archives_in chains) + 11 * length (own_from [] chains)
        ≤ 21 + 17 * (length (rolls_of chains) + more_rolls b) + 35 * length (archives_in chains) + 11 * length (own_from [] chains)
    by-tests true e true f = omega arith
    by-tests false e true f = omega arith
    by-tests false e false f = omega arith
    by-tests true e false f = absurd (let less : mark_of chains < later = grind (arith, nat_tests, e, le) in
        let no : nat_lt (mark_of chains) later ≡ true = is_lt less in
        let off : true ≡ false = sym no ∙ f in
        cc)

-- ---- a chain more

pub fewer-most : (cs : List LiveChainValue) (c : LiveChainValue) (upto : ℕ) → is_base c.part ≡ false → base_most cs upto ≤ base_most (cs ++ c ∷ []) upto
fewer-most cs c upto none =
    let rolls = ap (λ (xs : List Roll). length xs) (rolls-more cs c none) in
    let more = ap (λ (mark : ℕ). more_rolls (nat_lt mark upto)) (mark-more cs c none) in
    let archives = archives-more cs c in
    let own = ap (λ (os : List OwnFloor). length os) (own-more [] cs c) in
    let longer = own-longer (own_from [] cs) c.part in
    omega (arith, rolls, more, archives, own, longer)
