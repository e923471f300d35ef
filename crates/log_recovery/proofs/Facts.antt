-- The members of the log, one after the other.
use Rattle.std.proofs.Common.{◌≡◌, ℕ, ◌^◌, ◌<◌, ◌≤◌, ◌⊎◌, inl, inr, List, [], ◌∷◌, ◌++◌, length, map, Option, None, Some, refl, sym, ◌∙◌, ap, subst, arith}
use Rattle.std.specs.Prelude.{filter, flat_map, nat_lt}
use Rattle.std.specs.List.{AllByRecursion}
use Rattle.std.proofs.lemmas.List.{append_assoc, append-nil, map-append}
use mathlib.Core.Path.{fun_ext}
use Rattle.history.specs.declared.key.Key.{Key}
use Rattle.history.specs.declared.time.TimedWrite.{TimedWrite}
use Rattle.history.specs.Time.{value_after}
use Rattle.history.specs.Histories.{Commit, History, HasRisingTimes, writes_of}
use Rattle.history.specs.Queries.{applied, values_after}
use Rattle.history.proofs.Values.{value_after-append}
use Rattle.history.proofs.Histories.{writes_of-append}
use Rattle.law_image.specs.Values.{Value}
use Rattle.law_image.specs.Reading.{Head, HeapRecord, Member, OldRecord}
use Rattle.law_image.specs.Log.{AreRisingAfter, last_time_after}
use Rattle.law_image.specs.Facts.{commit_read, commits_from, latest, old_writes, write_of, IsStored, AreStored}
use Rattle.chains.specs.Writes.{written}
use Rattle.chains.specs.KeyWrites as chains
use Rattle.chains.specs.KeyWrites.{KeyWrites}
use Rattle.deltas.specs.Records.{heap_record}
use Rattle.recovery.specs.Resolving.{before_of}
use Rattle.recovery.proofs.HeldMembers.{value_applied, written-one}
use Rattle.log_entries.specs.declared.entry.Member.{Member as MemberEntry}
use Rattle.law_log_layout.specs.HeapLog.{member_told}
use Rattle.log_recovery.specs.declared.members_read.CommitName.{CommitName}
use Rattle.log_recovery.specs.declared.members_read.MembersRead.{MembersRead}
use Rattle.log_recovery.specs.Members.{values_of, heads_told, values_behind, name_told, HasFacts, later_than}

-- ---- names

pub rising_more : (t : ℕ) (hs ks : List Head) → AreRisingAfter t hs → AreRisingAfter (last_time_after t hs) ks → AreRisingAfter t (hs ++ ks)
rising_more t [] ks front back = back
rising_more t (h ∷ hs) ks front back = (front.0, front.1, rising_more h.time hs ks front.2 back)

pub rising_front : (t : ℕ) (hs ks : List Head) → AreRisingAfter t (hs ++ ks) → AreRisingAfter t hs
rising_front t [] ks all = tt
rising_front t (h ∷ hs) ks all = (all.0, all.1, rising_front h.time hs ks all.2)

pub rising_back : (t : ℕ) (hs ks : List Head) → AreRisingAfter t (hs ++ ks) → AreRisingAfter (last_time_after t hs) ks
rising_back t [] ks all = all
rising_back t (h ∷ hs) ks all = rising_back h.time hs ks all.2

pub last_more : (t : ℕ) (hs ks : List Head) → last_time_after t (hs ++ ks) ≡ last_time_after (last_time_after t hs) ks
last_more t [] ks = refl
last_more t (h ∷ hs) ks = last_more h.time hs ks

-- ---- members

pub commits_more : (before : Key → Option Value) (xs ys : List Member)
    → commits_from before (xs ++ ys) ≡ commits_from before xs ++ commits_from (values_behind before xs) ys
commits_more before [] ys = refl
commits_more before (m ∷ xs) ys =
    let c : Commit Value = commit_read before m in
    ap (λ (h : History Value). c ∷ h) (commits_more (values_after before c) xs ys)

pub values_more : (before : Key → Option Value) (xs ys : List Member) → values_behind before (xs ++ ys) ≡ values_behind (values_behind before xs) ys
values_more before [] ys = refl
values_more before (m ∷ xs) ys = values_more (values_after before (commit_read before m)) xs ys

pub stored_more : (before : Key → Option Value) (xs ys : List Member) → AreStored before xs → AreStored (values_behind before xs) ys
    → AreStored before (xs ++ ys)
stored_more before [] ys front back = back
stored_more before (m ∷ xs) ys front back = (front.0, stored_more (values_after before (commit_read before m)) xs ys front.1 back)

pub stored_front : (before : Key → Option Value) (xs ys : List Member) → AreStored before (xs ++ ys) → AreStored before xs
stored_front before [] ys all = tt
stored_front before (m ∷ xs) ys all = (all.0, stored_front (values_after before (commit_read before m)) xs ys all.1)

pub stored_back : (before : Key → Option Value) (xs ys : List Member) → AreStored before (xs ++ ys) → AreStored (values_behind before xs) ys
stored_back before [] ys all = all
stored_back before (m ∷ xs) ys all = stored_back (values_after before (commit_read before m)) xs ys all.1

rising_commits : (t : ℕ) (before : Key → Option Value) (ms : List Member) → AreRisingAfter t (heads_told ms) → HasRisingTimes t (commits_from before ms)
rising_commits t before [] rising = tt
rising_commits t before (m ∷ ms) rising =
    (rising.0, rising.1, rising_commits m.head.time (values_after before (commit_read before m)) ms rising.2)

applied_is : (before : Key → Option Value) (ms : List Member) → applied before (commits_from before ms) ≡ values_behind before ms
applied_is before [] = refl
applied_is before (m ∷ ms) = applied_is (values_after before (commit_read before m)) ms

-- ---- the facts

-- the values that were read are those behind the members
pub facts_before : (mark : ℕ) (olds : List OldRecord) (ms : List Member) (read : MembersRead) → HasFacts mark olds ms read
    → before_of read.versions ≡ values_behind (values_of olds) ms
facts_before mark olds ms read has =
    let commits : History Value = commits_from (values_of olds) ms in
    let rising : HasRisingTimes mark commits = rising_commits mark (values_of olds) ms has.rising in
    fun_ext (λ key.
    ap latest (has.writes key)
    ∙ value_after-append None (old_writes olds key) (writes_of commits key) (2 ^ 63)
    ∙ value_applied mark (values_of olds) commits key rising)
    ∙ applied_is (values_of olds) ms

-- one member more
pub facts_more : (mark : ℕ) (olds : List OldRecord) (ms : List Member) (read next : MembersRead) (m : MemberEntry) → HasFacts mark olds ms read
    → read.last < m.time → m.time < 2 ^ 63 → next.last ≡ m.time
    → map name_told next.commits.items ≡ map name_told read.commits.items ++ record { time = m.time; label = m.label } ∷ []
    → ((key : Key) → chains.writes_of next.versions key
    ≡ chains.writes_of read.versions key ++ written m.time (map (write_of (before_of read.versions)) (map heap_record m.records)) key)
    → HasFacts mark olds (ms ++ member_told m ∷ []) next
facts_more mark olds ms read next m has later small last_is names writes =
    let b : Key → Option Value = values_behind (values_of olds) ms in
    let c : Commit Value = commit_read b (member_told m) in
    let commits : History Value = commits_from (values_of olds) ms in
    let same : before_of read.versions ≡ b = facts_before mark olds ms read has in
    let heads : heads_told (ms ++ member_told m ∷ []) ≡ heads_told ms ++ (member_told m).head ∷ [] =
    map-append (λ (x : Member). x.head) ms (member_told m ∷ []) in
    record {
      writes = λ key.
          writes key
          ∙ ap (λ (ws : List (TimedWrite Value)). ws ++ written m.time (map (write_of (before_of read.versions)) (map heap_record m.records)) key)
          (has.writes key)
          ∙ append_assoc (old_writes olds key) (writes_of commits key)
          (written m.time (map (write_of (before_of read.versions)) (map heap_record m.records)) key)
          ∙ ap (λ (f : Key → Option Value). old_writes olds key
          ++ (writes_of commits key ++ written m.time (map (write_of f) (map heap_record m.records)) key)) same
          ∙ ap (λ (ws : List (TimedWrite Value)). old_writes olds key ++ (writes_of commits key ++ ws)) (sym (written-one c key))
          ∙ ap (λ (ws : List (TimedWrite Value)). old_writes olds key ++ ws) (sym (writes_of-append commits (c ∷ []) key))
          ∙ ap (λ (h : History Value). old_writes olds key ++ writes_of h key) (sym (commits_more (values_of olds) ms (member_told m ∷ [])));
      commits = names ∙ ap (λ (l : List Head). l ++ (member_told m).head ∷ []) has.commits ∙ sym heads;
      rising = rw heads (rising_more mark (heads_told ms) ((member_told m).head ∷ []) has.rising (subst (λ (n : ℕ). n < m.time) has.last_is later, small, tt));
      last_is = last_is ∙ sym (ap (last_time_after mark) heads ∙ last_more mark (heads_told ms) ((member_told m).head ∷ []));
    }

-- a record that is not the one of its write fails the member
pub member_fails : (mark : ℕ) (olds : List OldRecord) (ms : List Member) (read : MembersRead) (m : MemberEntry) → HasFacts mark olds ms read
    → ¬ AllByRecursion (IsStored (before_of read.versions)) (map heap_record m.records) → ¬ AreStored (values_behind (values_of olds) ms) (member_told m ∷ [])
member_fails mark olds ms read m has none = λ stored.
    none (subst (λ (f : Key → Option Value). AllByRecursion (IsStored f) (map heap_record m.records)) (sym (facts_before mark olds ms read has)) stored.0)

pub member_stored : (mark : ℕ) (olds : List OldRecord) (ms : List Member) (read : MembersRead) (m : MemberEntry) → HasFacts mark olds ms read
    → AllByRecursion (IsStored (before_of read.versions)) (map heap_record m.records) → AreStored (values_behind (values_of olds) ms) (member_told m ∷ [])
member_stored mark olds ms read m has stored =
    (subst (λ (f : Key → Option Value). AllByRecursion (IsStored f) (map heap_record m.records)) (facts_before mark olds ms read has) stored, tt)
