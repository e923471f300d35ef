-- What a reclaim is to make.
use Rattle.std.proofs.Common.{◌≡◌, ℕ, ◌+◌, ◌*◌, ◌/◌, ◌<◌, ◌≤◌, nat_lt, Bool, true, false, cond, List, [], length, take, drop, Option}
use Rattle.std.proofs.Common.{sym, ap, subst, ◌∙◌, arith}
use Rattle.std.proofs.lemmas.Bool.Decides.{nat_tests}
use Rattle.log_entries.specs.declared.entry.AnchorName.{AnchorName}
use Rattle.log_entries.specs.declared.entry.Base.{Base}
use Rattle.log_entries.specs.declared.entry.Roll.{Roll}
use Rattle.log_entries.specs.Spelling.{base_bytes}
use Rattle.log_extents.specs.Chains.{count_of}
use Rattle.log_base.specs.Bases.{base_on}
use Rattle.log_base.specs.Names.{AreBytesBetween}
use Rattle.log_store.specs.Values.{LogStoreValue}
use Rattle.log_store.specs.Reclaims.{reclaimed, makes, front_count, front, anchor_bytes, roll_of, IsRollOf, anchor_name, base_len, named_behind, standing}
use Rattle.log_store.specs.Reclaims.{KeepsBaseShares, AreForAnchors, IsPlanOf}
use Rattle.log_store.specs.declared.reclaim_start.BasePlan.{BasePlan}
use Rattle.log_store.proofs.Beginning.{len-named}

-- ---- the anchors

-- how many extents those have that the base names
is-below : (a b : ℕ) → a < b → nat_lt a b ≡ true
is-below a b lt = grind (arith, nat_tests)

is-above : (a b : ℕ) → b ≤ a → nat_lt a b ≡ false
is-above a b le = grind (arith, nat_tests)

pub standing-anew : (v : LogStoreValue) (mark upto : ℕ) → mark ≡ reclaimed v → upto ≡ v.named.upto → mark < upto
    → standing v ≡ count_of (length (anchor_bytes v))
standing-anew v mark upto mark_is upto_is lt =
    ap (λ (b : Bool). cond b (count_of (length (anchor_bytes v))) (length v.live.anchors))
    ((λ i. nat_lt (sym mark_is i) (sym upto_is i)) ∙ is-below mark upto lt)

pub standing-stays : (v : LogStoreValue) (mark upto : ℕ) → mark ≡ reclaimed v → upto ≡ v.named.upto → upto ≤ mark → standing v ≡ length v.live.anchors
standing-stays v mark upto mark_is upto_is le =
    ap (λ (b : Bool). cond b (count_of (length (anchor_bytes v))) (length v.live.anchors))
    ((λ i. nat_lt (sym mark_is i) (sym upto_is i)) ∙ is-above mark upto le)

-- ---- the base

-- its bytes are as many however its anchors are named
pub many-bytes : (v : LogStoreValue) (names : List ℕ) (count : ℕ) (anchors : AnchorName) (roll : Option Roll) (base : Base) (bytes : List ℕ)
    → count ≡ front_count v → IsRollOf v.named.end names roll → base ≡ base_on (take count v.live.chains) v.named.upto anchors roll
    → bytes ≡ base_bytes base → length bytes ≡ base_len v names
many-bytes v names count anchors roll base bytes count_is roll_is base_is bytes_are =
    ap (λ (bs : List ℕ). length bs) (bytes_are ∙ ap base_bytes base_is)
    ∙ (λ i. length (base_bytes (base_on (take (count_is i) v.live.chains) v.named.upto anchors (roll_is.is i))))
    ∙ len-named (front v) v.named.upto anchors (anchor_name v []) (roll_of v.named.end names)

module _ (v : LogStoreValue) (names bytes made : List ℕ) (count : ℕ) (many : length bytes ≡ base_len v names) (made_are : made ≡ anchor_bytes v)
    (count_is : count ≡ standing v) where
  -- it keeps its share
  pub shares-kept : count_of (length made) ≤ (3 * length v.room.used) / 16 → count_of (length bytes + 17) ≤ length v.room.used / 16
      → count + count_of (length bytes) ≤ length v.room.used / 4 → KeepsBaseShares v names
  shares-kept share base few = record {
    base = subst (λ (n : ℕ). count_of (n + 17) ≤ length v.room.used / 16) many base;
    anchors = subst (λ (bs : List ℕ). count_of (length bs) ≤ (3 * length v.room.used) / 16) made_are share;
    standing_few = subst (λ (n : ℕ). n + count_of (base_len v names) ≤ length v.room.used / 4) count_is
        (subst (λ (n : ℕ). count + count_of n ≤ length v.room.used / 4) many few);
  }

  -- or it does not
  pub shares-lost : ((count_of (length bytes + 17) ≤ length v.room.used / 16) × (count + count_of (length bytes) ≤ length v.room.used / 4) → ⊥)
      → KeepsBaseShares v names → ⊥
  shares-lost over keeps = over (
    subst (λ (n : ℕ). count_of (n + 17) ≤ length v.room.used / 16) (sym many) keeps.base,
    subst (λ (n : ℕ). count + count_of n ≤ length v.room.used / 4) (sym many)
        (subst (λ (n : ℕ). n + count_of (base_len v names) ≤ length v.room.used / 4) (sym count_is) keeps.standing_few),
  )

-- ---- all of it

pub plan-made : (v : LogStoreValue) (plan : BasePlan) (roll : Option Roll) (anchors : AnchorName)
    → AreBytesBetween (reclaimed v) v.named.upto v.commits.heads plan.names.items → IsRollOf v.named.end plan.names.items roll
    → plan.anchors.items ≡ anchor_bytes v → ((numbers : List ℕ) → AreForAnchors v numbers → anchors ≡ anchor_name v numbers)
    → plan.front ≡ front_count v → plan.makes ≡ makes v → plan.base ≡ base_on (take plan.front v.live.chains) v.named.upto anchors roll
    → plan.bytes.items ≡ base_bytes plan.base
    → plan.named ≡ named_behind v.named plan.base (drop plan.front v.live.chains) (length plan.names.items)
    → KeepsBaseShares v plan.names.items → IsPlanOf v plan
plan-made v plan roll anchors names_are roll_is made_are named_so front_is makes_is base_is bytes_are named_is shares = record {
  front_is = front_is;
  makes_is = makes_is;
  names_are = names_are;
  shares = shares;
  fits = roll_is.fits;
  anchors_are = made_are;
  base_is = λ numbers so.
      base_is ∙ (λ i. base_on (take (front_is i) v.live.chains) v.named.upto (named_so numbers so i) (roll_is.is i));
  bytes_are = bytes_are;
  many = many-bytes v plan.names.items plan.front anchors roll plan.base plan.bytes.items front_is roll_is base_is bytes_are;
  named_is = named_is ∙ ap (λ (n : ℕ). named_behind v.named plan.base (drop n v.live.chains) (length plan.names.items)) front_is;
}
