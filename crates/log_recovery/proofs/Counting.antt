-- The bytes of the anchors behind members, while these are read.
use Rattle.std.proofs.Common.{◌≡◌, ℕ, max, List, [], ◌∷◌, ◌++◌, map, Option, refl, sym, ◌∙◌, ap, subst}
use Rattle.std.proofs.lemmas.List.{append_assoc, append-nil}
use Rattle.history.specs.declared.key.Key.{Key}
use Rattle.history.specs.declared.key.KeyWrite.{KeyWrite}
use Rattle.history.specs.Queries.{values_after}
use Rattle.law_image.specs.Values.{Value}
use Rattle.law_image.specs.Reading.{Member, OldRecord}
use Rattle.law_image.specs.Facts.{commit_read, old_writes, write_of}
use Rattle.deltas.specs.Records.{heap_record}
use Rattle.recovery.specs.Resolving.{before_of}
use Rattle.log_entries.specs.declared.entry.Member.{Member as MemberEntry}
use Rattle.law_log_layout.specs.HeapLog.{PlacedChain, member_told}
use Rattle.law_log_sizes.specs.Sizes as laws
use Rattle.law_log_sizes.specs.Sizes.{anchors_len, len_behind}
use Rattle.log_sizes.specs.declared.anchor_sizes.AnchorSizes.{AnchorSizes}
use Rattle.log_sizes.specs.Counted.{AreSizes, AreSizesBehind}
use Rattle.log_sizes.proofs.Members.{sizes-next}
use Rattle.log_recovery.specs.declared.members_read.MembersRead.{MembersRead}
use Rattle.log_recovery.specs.Members.{values_of, values_behind, members_of_all, name_told, HasFacts, AreWritesOf}
use Rattle.log_recovery.proofs.Facts.{facts_before}

values_same : (before : Key → Option Value) (ms : List Member) → values_behind before ms ≡ laws.values_behind before ms
values_same before [] = refl
values_same before (m ∷ ms) = values_same (values_after before (commit_read before m)) ms

-- one member more
pub sizes_more : (mark : ℕ) (olds : List OldRecord) (ms : List Member) (read : MembersRead) (m : MemberEntry) (writes : List (KeyWrite Value))
    (next : AnchorSizes) → HasFacts mark olds ms read → AreSizesBehind olds ms read.sizes
    → writes ≡ map (write_of (before_of read.versions)) (map heap_record m.records)
    → ((len most : ℕ) → AreSizes len most read.sizes
    → AreSizes (len_behind len (before_of read.versions) writes) (max most (len_behind len (before_of read.versions) writes)) next)
    → AreSizesBehind olds (ms ++ member_told m ∷ []) next
sizes_more mark olds ms read m writes next has are same more =
    let b : Key → Option Value = before_of read.versions in
    sizes-next olds ms (member_told m) b read.sizes next (facts_before mark olds ms read has ∙ values_same (values_of olds) ms) are
    (subst (λ (ws : List (KeyWrite Value)). (len most : ℕ) → AreSizes len most read.sizes
    → AreSizes (len_behind len b ws) (max most (len_behind len b ws)) next) same more)

-- some of these members are counted behind others, and these are left
pub record IsCountedUpto (mark : ℕ) (olds : List OldRecord) (before all left : List Member) (read : MembersRead) : Type 0 where
  pub done : List Member
  pub facts : HasFacts mark olds (before ++ done) read
  pub sizes : AreSizesBehind olds (before ++ done) read.sizes
  pub all_is : all ≡ done ++ left

pub count_starts : (mark : ℕ) (olds : List OldRecord) (before all : List Member) (read : MembersRead) → HasFacts mark olds before read
    → AreSizesBehind olds before read.sizes → IsCountedUpto mark olds before all all read
count_starts mark olds before all read has are = record {
  done = [];
  facts = subst (λ (l : List Member). HasFacts mark olds l read) (sym (append-nil before)) has;
  sizes = subst (λ (l : List Member). AreSizesBehind olds l read.sizes) (sym (append-nil before)) are;
  all_is = refl;
}

pub count_goes_on : (mark : ℕ) (olds : List OldRecord) (before all more left : List Member) (read next : MembersRead)
    → (w : IsCountedUpto mark olds before all (more ++ left) read) → HasFacts mark olds ((before ++ w.done) ++ more) next
    → AreSizesBehind olds ((before ++ w.done) ++ more) next.sizes → IsCountedUpto mark olds before all left next
count_goes_on mark olds before all more left read next w has are = record {
  done = w.done ++ more;
  facts = subst (λ (l : List Member). HasFacts mark olds l next) (append_assoc before w.done more) has;
  sizes = subst (λ (l : List Member). AreSizesBehind olds l next.sizes) (append_assoc before w.done more) are;
  all_is = w.all_is ∙ sym (append_assoc w.done more left);
}

pub count_ends : (mark : ℕ) (olds : List OldRecord) (before all left : List Member) (read : MembersRead) → IsCountedUpto mark olds before all left read
    → left ≡ [] → AreSizesBehind olds (before ++ all) read.sizes
count_ends mark olds before all left read w none =
    let same : all ≡ w.done = w.all_is ∙ ap (λ (l : List Member). w.done ++ l) none ∙ append-nil w.done in
    subst (λ (l : List Member). AreSizesBehind olds (before ++ l) read.sizes) (sym same) w.sizes

-- no member is counted yet
pub counts_start : (mark len : ℕ) (olds : List OldRecord) (all : List PlacedChain) (read : MembersRead) → AreWritesOf olds read.versions
    → read.commits.items ≡ [] → read.last ≡ mark → anchors_len olds ≡ len → AreSizes len len read.sizes
    → IsCountedUpto mark olds [] (members_of_all mark all) (members_of_all mark all) read
counts_start mark len olds all read writes none last same are = record {
  done = [];
  facts = record {
    writes = λ key. writes key ∙ sym (append-nil (old_writes olds key));
    commits = ap (map name_told) none;
    rising = tt;
    last_is = last;
  };
  sizes = subst (λ (n : ℕ). AreSizes n n read.sizes) (sym same) are;
  all_is = refl;
}
