-- What a put and a delete leave of a transaction.
use Rattle.std.proofs.Common.{rules, ◌≡◌, ℕ, ◌<◌, ◌≤◌, Bool, true, false, cond, List, [], length, Option, None, Some, IsSome, is_some, unwrap_or, Result, Ok}
use Rattle.std.proofs.Common.{Err, OnOk, OnErr, refl, arith, sym, subst}
use Rattle.std.specs.Option.{option_copied}
use denote.Ref.{Bor}
use Rattle.std.specs.List.Sorted.{IsStrictlySortedBy}
use Rattle.std.proofs.lemmas.Bool.Decides.{nat_tests}
use Rattle.history.specs.declared.key.Key.{Key}
use Rattle.history.specs.declared.key.KeyWrite.{KeyWrite}
use Rattle.history.specs.Key.{same_key, write_in}
use Rattle.history.specs.Histories.{IsWrite}
use Rattle.law_image.specs.Values.{Value, IsValue}
use Rattle.chains.specs.KeyWrites.{KeyWrites}
use Rattle.snapshot.specs.WriteSets.{AreRising, with_write, without}
use Rattle.snapshot.specs.Txn.{AreTxnWrites, EndsASeenValue, at_snapshot}
use Rattle.snapshot.proofs.WriteSetLemmas.{with_write-rising, without-rising, length-with_write, length-found, length-without, all-with_write, all-without}
use Rattle.snapshot.proofs.WriteSetLemmas.{write_in-with_write, write_in-without}

pub same-is : (a b : Key) → same_key a b ≡ true → a ≡ b
same-is a b same =
    let relations : a.relation ≡ b.relation = grind (arith, nat_tests) in
    let numbers : a.«record» ≡ b.«record» = grind (arith, nat_tests) in
    λ i. record { relation = relations i; «record» = numbers i }

-- what is left of either result
pub either : {A T E : Type 0} (P : A → Type 0) (r : Result T E) (new one other : A) → OnOk r (new ≡ one) → OnErr r (new ≡ other) → P one → P other → P new
either P (Ok t) new one other ok err p q = subst P (sym ok) p
either P (Err e) new one other ok err p q = subst P (sym err) q

within_most : {V : Type 0} (write : KeyWrite V) (writes : List (KeyWrite V)) (found : Option (Option V)) → AreRising writes → length writes ≤ 1024
    → write_in writes write.key ≡ found → (write_in writes write.key ≡ None → length writes < 1024) → length (with_write writes write) ≤ 1024
within_most write writes None rising few is room = omega (arith, length-with_write write writes, room is)
within_most write writes (Some v) rising few is room = omega (arith, length-found write writes v rising is)

pub still_written : (state : List KeyWrites) (snapshot : ℕ) (writes : List (KeyWrite Value)) (write : KeyWrite Value) → AreTxnWrites state snapshot writes
    → (write_in writes write.key ≡ None → length writes < 1024) → IsWrite IsValue write → EndsASeenValue state snapshot write
    → AreTxnWrites state snapshot (with_write writes write)
still_written state snapshot writes write are room in_range gone = record {
  rising = with_write-rising write writes are.rising;
  few = within_most write writes (write_in writes write.key) are.rising are.few refl room;
  in_range = all-with_write (IsWrite IsValue) write writes in_range are.in_range;
  gone = all-with_write (EndsASeenValue state snapshot) write writes gone are.gone;
}

pub still_without : (state : List KeyWrites) (snapshot : ℕ) (writes : List (KeyWrite Value)) (key : Key) → AreTxnWrites state snapshot writes
    → AreTxnWrites state snapshot (without writes key)
still_without state snapshot writes key are = record {
  rising = without-rising key writes are.rising;
  few = omega (arith, length-without key writes, are.few);
  in_range = all-without (IsWrite IsValue) key writes are.in_range;
  gone = all-without (EndsASeenValue state snapshot) key writes are.gone;
}

-- what is seen after a write
pub seen-with_write : (writes : List (KeyWrite Value)) (write : KeyWrite Value) (q : Key) (before : Option Value)
    → unwrap_or (write_in (with_write writes write) q) before ≡ cond (same_key write.key q) write.write (unwrap_or (write_in writes q) before)
seen-with_write writes write q before =
    rw (write_in-with_write write writes q) (elim (same_key write.key q) as (λ b. unwrap_or (cond b (Some write.write) (write_in writes q)) before
    ≡ cond b write.write (unwrap_or (write_in writes q) before)) [ true ↦ refl | false ↦ refl ])

pub seen-without : (state : List KeyWrites) (snapshot : ℕ) (writes : List (KeyWrite Value)) (key q : Key) → AreRising writes → at_snapshot state snapshot key
    ≡ None
    → unwrap_or (write_in (without writes key) q) (at_snapshot state snapshot q)
    ≡ cond (same_key key q) None (unwrap_or (write_in writes q) (at_snapshot state snapshot q))
seen-without state snapshot writes key q rising none =
    rw (write_in-without key writes q rising) (by_test (same_key key q) refl)
  where
    by_test : (b : Bool) → same_key key q ≡ b → unwrap_or (cond b None (write_in writes q)) (at_snapshot state snapshot q)
        ≡ cond b None (unwrap_or (write_in writes q) (at_snapshot state snapshot q))
    by_test true same = subst (λ k. at_snapshot state snapshot k ≡ None) (same-is key q same) none
    by_test false other = refl

pub no_writes : (state : List KeyWrites) (snapshot : ℕ) → AreTxnWrites state snapshot []
unfolding IsStrictlySortedBy
no_writes state snapshot = record { rising = tt; few = omega arith; in_range = tt; gone = tt }

-- what a lent value that is there or not says of the value
pub none_copied : {V : Type 0} (lent : Option (Bor V)) (value : Option V) → option_copied lent ≡ value → is_some lent ≡ false → value ≡ None
none_copied None value is none = sym is
none_copied (Some x) value is none = absurd (true_is_not-false none)
  where
    true_is_not-false : true ≡ false → ⊥
    true_is_not-false h = cc

is_there : {V : Type 0} (v : V) → IsSome (Some v)
is_there v = search rules

pub some_copied : {V : Type 0} (lent : Option (Bor V)) (value : Option V) → option_copied lent ≡ value → is_some lent ≡ true → IsSome value
some_copied None value is some = absurd (false_is_not-true some)
  where
    false_is_not-true : false ≡ true → ⊥
    false_is_not-true h = cc
some_copied {V} (Some x) value is some = subst (IsSome {T = V}) is (is_there x.now)
