use Rattle.std.proofs.Common.{◌≡◌, ◌≤◌, ◌++◌, ℕ, List, length, map, Option, refl, sym, ◌∙◌, ap, subst}
use Rattle.std.specs.List.{AllByRecursion}
use Rattle.std.specs.List.Sorted.{IsStrictlySortedBy}
use Rattle.std.proofs.lemmas.List.{map-append, length-map}
use Rattle.history.specs.declared.key.Key.{Key}
use Rattle.history.specs.declared.key.KeyWrite.{KeyWrite}
use Rattle.history.specs.Key.{key_cmp}
use Rattle.law_image.specs.Values.{Value}
use Rattle.law_image.specs.Facts.{IsStored, write_of}
use Rattle.chains.specs.Writes.{written}
use Rattle.chains.specs.KeyWrites.{writes_of}
use Rattle.deltas.specs.declared.«record».Record.{Record}
use Rattle.deltas.specs.Records.{heap_record}
use Rattle.recovery.specs.Resolving.{before_of}
use Rattle.recovery.proofs.Stored.{rising_writes}
use Rattle.log_recovery.specs.Members.{name_told}
use Rattle.log_recovery.proofs.Facts.{facts_more, member_fails, member_stored}
use Rattle.log_recovery.proofs.Counting.{sizes_more}
use Rattle.log_recovery.proofs.members_read.MembersRead.with_member.Goals as goal

pub returns-in_default-clause-read : goal.returns-in_default-clause-read
returns-in_default-clause-read c = λ mark olds before has.
    let none = rw c.in_default.is at c.in_ok-writes.ensures in
    member_fails mark olds before c.args.self c.args.member has (rw (sym c.into_vec-records.ensures) none)

pub into_commit-requires-clause-rising : goal.into_commit-requires-clause-rising
into_commit-requires-clause-rising c =
    let resolved = rw c.in-Some.is at c.in_ok-writes.ensures in
    rising_writes (before_of c.args.self.versions) c.into_vec-records.result.items c.into_vec-records.result.items c.deref-2.result.now refl
    (c.deref-2.ensures.value ∙ resolved.1)
    (subst (λ (l : List Record). IsStrictlySortedBy key_cmp (map (λ (r : Record). r.key) l)) (sym c.into_vec-records.ensures) c.requires.is.are_records.rising)

pub with_writes-sizes-requires : goal.with_writes-sizes-requires
with_writes-sizes-requires c =
    let b : Key → Option Value = before_of c.args.self.versions in
    let resolved = rw c.in-Some.is at c.in_ok-writes.ensures in
    let records = c.into_vec-records.result.items in
    let same : length c.deref.result.now ≡ length c.args.member.records =
    ap length (c.deref.ensures.value ∙ resolved.1) ∙ length-map (map heap_record records) (write_of b) ∙ length-map records heap_record
    ∙ ap length c.into_vec-records.ensures in
    record { few = subst (λ (n : ℕ). n ≤ 1024) (sym same) c.requires.is.few }

pub returns-clause-read : goal.returns-clause-read
returns-clause-read c = λ mark olds before has.
    let b : Key → Option Value = before_of c.args.self.versions in
    let found = rw c.in-Some.is at c.in_ok-writes.ensures in
    let both = rw c.into_vec-records.ensures at found in
    let same : c.deref-2.result.now ≡ map (write_of b) (map heap_record c.args.member.records) = c.deref-2.ensures.value ∙ both.1 in (
      member_stored mark olds before c.args.self c.args.member has both.0,
      facts_more mark olds before c.args.self _ c.args.member has c.requires.later c.requires.is.time_high refl
          (ap (map name_told) c.in_ok-push.ensures.items ∙ map-append name_told c.args.self.commits.items _)
          (λ key. c.in_ok-versions.ensures.by_key key
          ∙ ap (λ (ws : List (KeyWrite Value)). writes_of c.args.self.versions key ++ written c.args.member.time ws key) same),
    )

pub returns-clause-sizes : goal.returns-clause-sizes
returns-clause-sizes c = λ mark olds before has are.
    let b : Key → Option Value = before_of c.args.self.versions in
    let found = rw c.in-Some.is at c.in_ok-writes.ensures in
    let both = rw c.into_vec-records.ensures at found in
    let same : c.deref.result.now ≡ map (write_of b) (map heap_record c.args.member.records) = c.deref.ensures.value ∙ both.1 in
    sizes_more mark olds before c.args.self c.args.member c.deref.result.now _ has are same c.with_writes-sizes.ensures.sizes
