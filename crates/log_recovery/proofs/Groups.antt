-- The members of a group, and those of all chains, while they are read.
use Rattle.std.proofs.Common.{◌≡◌, ℕ, ◌^◌, ◌<◌, ◌≤◌, ◌⊎◌, inl, inr, true, false, List, [], ◌∷◌, ◌++◌, length, map, Option, refl, sym, ◌∙◌, ap, subst, arith}
use Rattle.std.specs.Prelude.{filter, flat_map, nat_lt}
use Rattle.std.specs.List.{AllByRecursion}
use Rattle.std.proofs.lemmas.List.{append_assoc, append-nil, map-append}
use Rattle.history.specs.declared.key.Key.{Key}
use Rattle.history.proofs.Orders.{is_lt, not_lt}
use Rattle.law_image.specs.Values.{Value}
use Rattle.law_image.specs.Reading.{Head, Member, OldRecord}
use Rattle.law_image.specs.Log.{AreRisingAfter, last_time_after}
use Rattle.law_image.specs.Facts.{commits_from, old_writes, AreStored}
use Rattle.chains.specs.KeyWrites.{KeyWrites}
use Rattle.log_extents.specs.Chains.{first_or}
use Rattle.log_entries.specs.declared.entry.Member.{Member as MemberEntry}
use Rattle.law_log_layout.specs.HeapLog.{PlacedChain, member_told}
use Rattle.log_recovery.specs.declared.members_read.MembersRead.{MembersRead}
use Rattle.log_recovery.specs.Members.{values_of, heads_told, values_behind, HasFacts, later_of, later_than, members_later, members_of_all}
use Rattle.log_recovery.specs.Members.{AreAllStored, FailsMembers, AreWritesOf}
use Rattle.log_recovery.proofs.Facts.{values_more, stored_more, stored_front, stored_back, rising_front, rising_back}

-- ---- a group

-- some of these members are read behind others, and these are left
pub record IsUnderWay (mark : ℕ) (olds : List OldRecord) (before all left : List Member) (read : MembersRead) : Type 0 where
  pub done : List Member
  pub facts : HasFacts mark olds (before ++ done) read
  pub stored : AreStored (values_behind (values_of olds) before) done
  pub all_is : all ≡ done ++ left

pub way_starts : (mark : ℕ) (olds : List OldRecord) (before all : List Member) (read : MembersRead) → HasFacts mark olds before read
    → IsUnderWay mark olds before all all read
way_starts mark olds before all read has = record {
  done = [];
  facts = subst (λ (l : List Member). HasFacts mark olds l read) (sym (append-nil before)) has;
  stored = tt;
  all_is = refl;
}

pub way_goes_on : (mark : ℕ) (olds : List OldRecord) (before all left : List Member) (m : Member) (read next : MembersRead)
    → (w : IsUnderWay mark olds before all (m ∷ left) read) → AreStored (values_behind (values_of olds) (before ++ w.done)) (m ∷ [])
    → HasFacts mark olds ((before ++ w.done) ++ m ∷ []) next → IsUnderWay mark olds before all left next
way_goes_on mark olds before all left m read next w stored has =
    let start : Key → Option Value = values_behind (values_of olds) before in
    record {
      done = w.done ++ m ∷ [];
      facts = subst (λ (l : List Member). HasFacts mark olds l next) (append_assoc before w.done (m ∷ [])) has;
      stored = stored_more start w.done (m ∷ []) w.stored
          (subst (λ (f : Key → Option Value). AreStored f (m ∷ [])) (values_more (values_of olds) before w.done) stored);
      all_is = w.all_is ∙ sym (append_assoc w.done (m ∷ []) left);
    }

pub way_fails : (mark : ℕ) (olds : List OldRecord) (before all left : List Member) (m : Member) (read : MembersRead)
    → (w : IsUnderWay mark olds before all (m ∷ left) read) → ¬ AreStored (values_behind (values_of olds) (before ++ w.done)) (m ∷ [])
    → ¬ AreStored (values_behind (values_of olds) before) all
way_fails mark olds before all left m read w none = λ stored.
    let start : Key → Option Value = values_behind (values_of olds) before in
    let back : AreStored (values_behind start w.done) (m ∷ left) = stored_back start w.done (m ∷ left) (subst (AreStored start) w.all_is stored) in
    none (subst (λ (f : Key → Option Value). AreStored f (m ∷ [])) (sym (values_more (values_of olds) before w.done)) (back.0, tt))

pub record IsGroupRead (mark : ℕ) (olds : List OldRecord) (before all : List Member) (read : MembersRead) : Type 0 where
  pub stored : AreStored (values_behind (values_of olds) before) all
  pub facts : HasFacts mark olds (before ++ all) read

pub way_ends : (mark : ℕ) (olds : List OldRecord) (before all left : List Member) (read : MembersRead) → IsUnderWay mark olds before all left read → left ≡ []
    → IsGroupRead mark olds before all read
way_ends mark olds before all left read w none =
    let same : all ≡ w.done = w.all_is ∙ ap (λ (l : List Member). w.done ++ l) none ∙ append-nil w.done in
    record {
      stored = subst (AreStored (values_behind (values_of olds) before)) (sym same) w.stored;
      facts = subst (λ (l : List Member). HasFacts mark olds (before ++ l) read) (sym same) w.facts;
    }

-- a commit later than the mark is a member, and one that is not is none
pub later_kept : (mark : ℕ) (m : MemberEntry) (ms : List MemberEntry) → mark < m.time → later_of mark (m ∷ ms) ≡ member_told m ∷ later_of mark ms
later_kept mark m ms late = rw (is_lt late) refl

pub later_left : (mark : ℕ) (m : MemberEntry) (ms : List MemberEntry) → m.time ≤ mark → later_of mark (m ∷ ms) ≡ later_of mark ms
later_left mark m ms early = rw (not_lt early) refl

-- ---- all chains

-- the members of some chains are read, and these chains are left
pub record AreUnderWay (mark : ℕ) (olds : List OldRecord) (all left : List PlacedChain) (read : MembersRead) : Type 0 where
  pub done : List Member
  pub facts : HasFacts mark olds done read
  pub members_are : members_of_all mark all ≡ done ++ members_of_all mark left
  pub finish : AreAllStored mark (values_behind (values_of olds) done) left → AreAllStored mark (values_of olds) all
  pub fail : (place : ℕ) → FailsMembers mark (values_behind (values_of olds) done) left place → FailsMembers mark (values_of olds) all place

pub chains_start : (mark : ℕ) (olds : List OldRecord) (all : List PlacedChain) (read : MembersRead) → AreWritesOf olds read.versions → read.commits.items ≡ []
    → read.last ≡ mark → AreUnderWay mark olds all all read
chains_start mark olds all read writes none last = record {
  done = [];
  facts = record {
    writes = λ key. writes key ∙ sym (append-nil (old_writes olds key));
    commits = ap (map Rattle.log_recovery.specs.Members.name_told) none;
    rising = tt;
    last_is = last;
  };
  members_are = refl;
  finish = λ stored. stored;
  fail = λ place fails. fails;
}

pub chain_more : (mark : ℕ) (olds : List OldRecord) (all left : List PlacedChain) (c : PlacedChain) (read next : MembersRead)
    → (w : AreUnderWay mark olds all (c ∷ left) read) → AreStored (values_behind (values_of olds) w.done) (members_later mark c)
    → HasFacts mark olds (w.done ++ members_later mark c) next → AreUnderWay mark olds all left next
chain_more mark olds all left c read next w stored has =
    let values = values_more (values_of olds) w.done (members_later mark c) in
    record {
      done = w.done ++ members_later mark c;
      facts = has;
      members_are = w.members_are ∙ sym (append_assoc w.done (members_later mark c) (members_of_all mark left));
      finish = λ rest. w.finish (stored, subst (λ (f : Key → Option Value). AreAllStored mark f left) values rest);
      fail = λ place fails. w.fail place (inr (stored, subst (λ (f : Key → Option Value). FailsMembers mark f left place) values fails));
    }

pub chain_fails : (mark : ℕ) (olds : List OldRecord) (all left : List PlacedChain) (c : PlacedChain) (read : MembersRead)
    → (w : AreUnderWay mark olds all (c ∷ left) read) → ¬ AreStored (values_behind (values_of olds) w.done) (members_later mark c)
    → FailsMembers mark (values_of olds) all (first_or 0 c.numbers)
chain_fails mark olds all left c read w none = w.fail (first_or 0 c.numbers) (inl (refl, none))

pub record AreRead (mark : ℕ) (olds : List OldRecord) (all : List PlacedChain) (read : MembersRead) : Type 0 where
  pub stored : AreAllStored mark (values_of olds) all
  pub facts : HasFacts mark olds (members_of_all mark all) read

pub chains_end : (mark : ℕ) (olds : List OldRecord) (all left : List PlacedChain) (read : MembersRead) → AreUnderWay mark olds all left read → left ≡ []
    → AreRead mark olds all read
chains_end mark olds all left read w none =
    let gone : AreAllStored mark (values_behind (values_of olds) w.done) left =
    subst (AreAllStored mark (values_behind (values_of olds) w.done)) (sym none) tt in
    let same : members_of_all mark all ≡ w.done =
    w.members_are ∙ ap (λ (l : List PlacedChain). w.done ++ members_of_all mark l) none ∙ append-nil w.done in
    record { stored = w.finish gone; facts = subst (λ (l : List Member). HasFacts mark olds l read) (sym same) w.facts }

-- the members of the first chain rise, and those of the others behind them
pub record RiseInTurn (mark last : ℕ) (c : PlacedChain) (left : List PlacedChain) : Type 0 where
  pub first : AreRisingAfter last (heads_told (members_later mark c))
  pub others : AreRisingAfter (last_time_after last (heads_told (members_later mark c))) (heads_told (members_of_all mark left))

pub rise_in_turn : (mark last : ℕ) (c : PlacedChain) (left : List PlacedChain) → AreRisingAfter last (heads_told (members_of_all mark (c ∷ left)))
    → RiseInTurn mark last c left
rise_in_turn mark last c left rising =
    let all = subst (AreRisingAfter last) (map-append (λ (m : Member). m.head) (members_later mark c) (members_of_all mark left)) rising in
    record {
      first = rising_front last (heads_told (members_later mark c)) (heads_told (members_of_all mark left)) all;
      others = rising_back last (heads_told (members_later mark c)) (heads_told (members_of_all mark left)) all;
    }
