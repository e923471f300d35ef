-- A commit's writes put into a list of anchors, one after another; and that keys have one list of anchors at most.
use Rattle.std.proofs.Common.{◌≡◌, ℕ, ◌+◌, ◌-◌, ◌≤◌, Bool, true, false, cond, List, [], ◌∷◌, map, Option, Some, None, refl, ap, sym, subst, ◌∙◌, arith}
use Rattle.std.specs.List.{AllByRecursion}
use Rattle.std.specs.List.Sorted.{IsStrictlySortedBy}
use Rattle.std.specs.declared.cmp.Ordering.{Ordering}
use Rattle.std.specs.declared.cmp.Ordering.TheVariants.{Less, Equal, Greater}
use Rattle.std.proofs.lemmas.Bool.Decides.{nat_tests}
use Rattle.history.specs.declared.key.Key.{Key}
use Rattle.history.specs.declared.key.KeyWrite.{KeyWrite}
use Rattle.history.specs.declared.time.TimedWrite.{TimedWrite}
use Rattle.history.specs.Key.{key_cmp, same_key, write_in}
use Rattle.law_image.specs.Values.{Value}
use Rattle.law_image.specs.Reading.{OldRecord}
use Rattle.law_image.specs.Facts.{old_writes}
use Rattle.law_log_sizes.specs.Sizes.{old_len, len_behind, AreCounted}
use Rattle.law_log_sizes.proofs.Putting.{AreSorted, AreAbove, keys_of, olds_len, first_value, kept_write, put, put-sorted, put-others, put-own, put-len}
use Rattle.law_log_sizes.proofs.Putting.{value-len, greater, same-itself, none-above, other_key, above-less}

-- the keys of writes
abbrev pub keys_written : List (KeyWrite Value) → List Key
keys_written ws = map (λ (w : KeyWrite Value). w.key) ws

-- all of these writes put into anchors, one after another
abbrev pub put_all : ℕ → List (KeyWrite Value) → List OldRecord → List OldRecord
put_all time [] olds = olds
put_all time (w ∷ ws) olds = put_all time ws (put time w olds)

-- what a commit at a time leaves of a key's anchor, by what it does to the key
abbrev pub left_by : ℕ → Option (Option Value) → List (TimedWrite Value) → List (TimedWrite Value)
left_by time None before = before
left_by time (Some write) before = kept_write time write

pub put_all-sorted : (time : ℕ) (ws : List (KeyWrite Value)) (olds : List OldRecord) → AreSorted olds → AreSorted (put_all time ws olds)
put_all-sorted time [] olds sorted = sorted
put_all-sorted time (w ∷ ws) olds sorted = put_all-sorted time ws (put time w olds) (put-sorted time w olds sorted)

-- no write is one of an earlier key
unwritten : (low key : Key) (ws : List (KeyWrite Value)) → same_key low key ≡ true → AreAbove low (keys_written ws) → write_in ws key ≡ None
unwritten low key [] same above = refl
unwritten low key (w ∷ ws) same above =
    let other : same_key w.key key ≡ false = other_key low w.key key above.0 same in
    rw other (unwritten low key ws same above.1)

-- behind a commit each key has what it leaves
pub put_all-writes : (time : ℕ) (ws : List (KeyWrite Value)) (olds : List OldRecord) (key : Key) → AreSorted olds
    → IsStrictlySortedBy key_cmp (keys_written ws) → old_writes (put_all time ws olds) key ≡ left_by time (write_in ws key) (old_writes olds key)
unfolding IsStrictlySortedBy
put_all-writes time [] olds key sorted rising = refl
put_all-writes time (w ∷ ws) olds key sorted rising =
    let rest = put_all-writes time ws (put time w olds) key (put-sorted time w olds sorted) rising.1 in
    let Goal : Bool → Type 0 =
    λ b. same_key w.key key ≡ b
    → old_writes (put_all time ws (put time w olds)) key ≡ left_by time (cond b (Some w.write) (write_in ws key)) (old_writes olds key) in
    let all : (b : Bool) → Goal b = λ b. elim b as Goal [
      | true ↦ λ e.
          rest
          ∙ ap (λ o. left_by time o (old_writes (put time w olds) key)) (unwritten w.key key ws e rising.0)
          ∙ put-own time w olds key sorted e
      | false ↦ λ e. rest ∙ ap (λ l. left_by time (write_in ws key) l) (put-others time w olds key e)
    ] in
    all (same_key w.key key) refl

-- the keys of these writes had these values before
abbrev pub HadValues : (Key → Option Value) → List OldRecord → List (KeyWrite Value) → Type 0
HadValues before olds ws = AllByRecursion (λ (w : KeyWrite Value). first_value (old_writes olds w.key) ≡ before w.key) ws

pub less-differs : (a b : Key) → key_cmp a b ≡ Less → same_key a b ≡ false
less-differs a b h = grind (arith, nat_tests)

-- a write of another key changes none of them
still-values : (time : ℕ) (w : KeyWrite Value) (before : Key → Option Value) (olds : List OldRecord) (ws : List (KeyWrite Value))
    → AreAbove w.key (keys_written ws) → HadValues before olds ws → HadValues before (put time w olds) ws
still-values time w before olds [] above had = tt
still-values time w before olds (v ∷ vs) above had = (
  ap first_value (put-others time w olds v.key (less-differs w.key v.key above.0)) ∙ had.0,
  still-values time w before olds vs above.1 had.1,
)

-- the bytes behind a write
write-len : (time : ℕ) (w : KeyWrite Value) (before : Key → Option Value) (olds : List OldRecord) → AreSorted olds
    → first_value (old_writes olds w.key) ≡ before w.key
    → (old_len (before w.key) ≤ olds_len olds) × (olds_len (put time w olds) ≡ (olds_len olds - old_len (before w.key)) + old_len w.write)
write-len time w before olds sorted had =
    let same : old_len (first_value (old_writes olds w.key)) ≡ old_len (before w.key) = ap old_len had in
    (omega (arith, same, value-len olds w.key), omega (arith, same, value-len olds w.key, put-len time w olds sorted))

-- and behind all of a commit
pub put_all-len : (time : ℕ) (ws : List (KeyWrite Value)) (before : Key → Option Value) (olds : List OldRecord) → AreSorted olds
    → IsStrictlySortedBy key_cmp (keys_written ws) → HadValues before olds ws
    → (olds_len (put_all time ws olds) ≡ len_behind (olds_len olds) before ws) × AreCounted (olds_len olds) before ws
unfolding IsStrictlySortedBy
put_all-len time [] before olds sorted rising had = (refl, tt)
put_all-len time (w ∷ ws) before olds sorted rising had =
    let one = write-len time w before olds sorted had.0 in
    let rest =
    put_all-len time ws before (put time w olds) (put-sorted time w olds sorted) rising.1 (still-values time w before olds ws rising.0 had.1) in (
      rest.0 ∙ ap (λ (n : ℕ). len_behind n before ws) one.1,
      (one.0, subst (λ (n : ℕ). AreCounted n before ws) one.1 rest.1),
    )

-- ---- one list at most

pub own-first : (o : OldRecord) (olds : List OldRecord) (key : Key) → same_key o.key key ≡ true → old_writes (o ∷ olds) key
    ≡ record { time = o.from; write = Some o.value } ∷ old_writes olds key
own-first o olds key same = rw same refl

equal-keys : (a b : Key) → key_cmp a b ≡ Equal → b ≡ a
equal-keys a b h = grind (arith, nat_tests)

-- of one write the next is not none
abbrev first_of_writes : TimedWrite Value → List (TimedWrite Value) → TimedWrite Value
first_of_writes d [] = d
first_of_writes d (w ∷ ws) = w

abbrev are_some : List (TimedWrite Value) → ℕ
are_some [] = 0
are_some (w ∷ ws) = 1

abbrev value_or : Value → Option Value → Value
value_or d None = d
value_or d (Some v) = v

-- the first key of one list is in the other, so it is not below all of it
not-below : (o p : OldRecord) (olds others : List OldRecord) → AreAbove p.key (keys_of others)
    → old_writes (o ∷ olds) o.key ≡ old_writes (p ∷ others) o.key → key_cmp o.key p.key ≡ Less → ⊥
not-below o p olds others above same less =
    let has = own-first o olds o.key (same-itself o.key) in
    let none = none-above o.key o.key (p ∷ others) (same-itself o.key) (less, above-less o.key p.key (keys_of others) less above) in
    let wrong : 1 ≡ 0 = ap are_some (sym has ∙ same ∙ none) in
    omega (arith, wrong)

-- where the first keys are the same, so are the first anchors
first-same : (o p : OldRecord) (olds others : List OldRecord) → p.key ≡ o.key
    → old_writes (o ∷ olds) o.key ≡ old_writes (p ∷ others) o.key → o ≡ p
first-same o p olds others key same =
    let own : same_key p.key o.key ≡ true = subst (λ (k : Key). same_key k o.key ≡ true) (sym key) (same-itself o.key) in
    let lists = sym (own-first o olds o.key (same-itself o.key)) ∙ same ∙ own-first p others o.key own in
    let d : TimedWrite Value = record { time = 0; write = None } in
    let from : o.from ≡ p.from = ap (λ l. (first_of_writes d l).time) lists in
    let value : o.value ≡ p.value = ap (λ l. value_or o.value (first_of_writes d l).write) lists in
    λ i. record { key = sym key i; from = from i; value = value i }

-- of the others each key has as much
rest-same : (o p : OldRecord) (olds others : List OldRecord) (key : Key) → p.key ≡ o.key → AreAbove o.key (keys_of olds) → AreAbove p.key (keys_of others)
    → old_writes (o ∷ olds) key ≡ old_writes (p ∷ others) key → old_writes olds key ≡ old_writes others key
rest-same o p olds others key is above_o above_p same =
    let Goal : Bool → Type 0 = λ b. same_key o.key key ≡ b → old_writes olds key ≡ old_writes others key in
    let all : (b : Bool) → Goal b = λ b. elim b as Goal [
      | true ↦ λ e.
          let also : same_key p.key key ≡ true = subst (λ (k : Key). same_key k key ≡ true) (sym is) e in
          none-above o.key key olds e above_o ∙ sym (none-above p.key key others also above_p)
      | false ↦ λ e.
          let also : same_key p.key key ≡ false = subst (λ (k : Key). same_key k key ≡ false) (sym is) e in
          let left : old_writes (o ∷ olds) key ≡ old_writes olds key = rw e refl in
          let right : old_writes (p ∷ others) key ≡ old_writes others key = rw also refl in
          sym left ∙ same ∙ right
    ] in
    all (same_key o.key key) refl

-- two lists by rising key in which each key has the same anchors are one
pub same-olds : (olds others : List OldRecord) → AreSorted olds → AreSorted others → ((key : Key) → old_writes olds key ≡ old_writes others key)
    → olds ≡ others
unfolding IsStrictlySortedBy
same-olds [] [] sorted also same = refl
same-olds [] (p ∷ others) sorted also same =
    let wrong : 0 ≡ 1 = ap are_some (same p.key ∙ own-first p others p.key (same-itself p.key)) in
    absurd (omega (arith, wrong))
same-olds (o ∷ olds) [] sorted also same =
    let wrong : 0 ≡ 1 = ap are_some (sym (same o.key) ∙ own-first o olds o.key (same-itself o.key)) in
    absurd (omega (arith, wrong))
same-olds (o ∷ olds) (p ∷ others) sorted also same =
    let Goal : Ordering → Type 0 = λ c. key_cmp o.key p.key ≡ c → o ∷ olds ≡ p ∷ others in
    let all : (c : Ordering) → Goal c = λ c. elim c as Goal [
      | Less ↦ λ e. absurd (not-below o p olds others also.0 (same o.key) e)
      | Equal ↦ λ e.
          let key : p.key ≡ o.key = equal-keys o.key p.key e in
          let one = first-same o p olds others key (same o.key) in
          let rest = same-olds olds others sorted.1 also.1 (λ k. rest-same o p olds others k key sorted.0 also.0 (same k)) in
          λ i. one i ∷ rest i
      | Greater ↦ λ e. absurd (not-below p o others olds sorted.0 (sym (same p.key)) (greater o.key p.key e))
    ] in
    all (key_cmp o.key p.key) refl
