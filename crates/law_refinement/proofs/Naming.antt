-- The slot that names the commits of a group, and its one spelling.
use Rattle.std.proofs.Common.{◌≡◌, ℕ, ◌+◌, ◌*◌, ◌<◌, ◌≤◌, ◌^◌, nat_le, true, false, List, [], ◌∷◌, ◌++◌, length, map, refl, arith, ap, sym, subst, ◌∙◌, ⊎_elim}
use Rattle.std.proofs.Common.{length-append}
use Rattle.std.specs.List.{AllByRecursion, flat_map}
use Rattle.std.proofs.lemmas.Bool.{cases_lt}
use Rattle.std.proofs.lemmas.Bool.Decides.{nat_tests}
use Rattle.std.proofs.lemmas.List.{length-replicate}
use Rattle.std.proofs.lemmas.List.Concat.{flat_map-cons}
use Rattle.history.specs.Histories.{Commit, History, last_after, last, MayFollow, MayAllFollow}
use Rattle.law_image.specs.Values.{Value, IsValue}
use Rattle.law_image.specs.Plans.{stored_record}
use Rattle.wire.specs.declared.slot.Member.{Member as Entry}
use Rattle.wire.specs.declared.slot.Body.TheVariants.{Commit as CommitBody}
use Rattle.wire.specs.Spelling.{member_bytes, front_of, fields_of, spelling, IsMember, Rises, IsSpelled, u32_bytes, u64_bytes}
use Rattle.deltas.specs.Packing.{bodies_from, bodies}
use Rattle.deltas.specs.Chains.{IsNumber, first_number}
use Rattle.law_layout.specs.Records.{record_bytes}
use Rattle.group.specs.Queued.{QueuedValue, numbers_of}
use Rattle.chains.specs.KeyWrites.{KeyWrites}
use Rattle.law_refinement.specs.Standing.{Waits, AllWait}
use Rattle.law_refinement.specs.OnDisk.{values_in, packed, IsPacked, AllPacked, slot_for}
use Rattle.law_refinement.proofs.Packed.{length-numbers, length-mapped, all-first, all-last}

-- ---- how many extents

some-from : (body : List ℕ) (rs : List (List ℕ)) → 0 < length (bodies_from body rs)
some-from body [] = omega arith
some-from body (r ∷ rs) =
    ⊎_elim
    (λ (over : 8176 < length body + length r). let no : nat_le (length body + length r) 8176 ≡ false = grind (arith, nat_tests) in rw no (omega arith))
    (λ (room : length body + length r ≤ 8176). let yes : nat_le (length body + length r) 8176 ≡ true =
    grind (arith, nat_tests) in rw yes (some-from (body ++ r) rs))
    (cases_lt 8176 (length body + length r))

few-from : (body : List ℕ) (rs : List (List ℕ)) → length (bodies_from body rs) ≤ 1 + length rs
few-from body [] = omega arith
few-from body (r ∷ rs) =
    ⊎_elim
    (λ (over : 8176 < length body + length r).
    let no : nat_le (length body + length r) 8176 ≡ false = grind (arith, nat_tests) in
    let rest = few-from r rs in
    rw no (omega (arith, rest)))
    (λ (room : length body + length r ≤ 8176).
    let yes : nat_le (length body + length r) 8176 ≡ true = grind (arith, nat_tests) in
    let rest = few-from (body ++ r) rs in
    rw yes (omega (arith, rest)))
    (cases_lt 8176 (length body + length r))

bodies-some : (rs : List (List ℕ)) → 0 < length rs → 0 < length (bodies rs)
bodies-some [] some = absurd (omega (arith, some))
bodies-some (r ∷ rs) some = some-from r rs

pub bodies-few : (rs : List (List ℕ)) → length (bodies rs) ≤ length rs
bodies-few [] = omega arith
bodies-few (r ∷ rs) = let few = few-from r rs in omega (arith, few)

records-many : (before : History Value) (c : Commit Value) → length (map record_bytes (map (stored_record (values_in before)) c.writes)) ≡ length c.writes
records-many before c = length-mapped record_bytes (map (stored_record (values_in before)) c.writes) ∙ length-mapped (stored_record (values_in before)) c.writes

-- ---- what the slot says of a commit

first-in_range : (ns : List ℕ) → 0 < length ns → AllByRecursion IsNumber ns → IsNumber (first_number ns)
first-in_range [] some all = absurd (omega (arith, some))
first-in_range (n ∷ ns) some all = all.0

entry-is : (reclaimed : ℕ) (versions : List KeyWrites) (before : History Value) (q : QueuedValue) (c : Commit Value) → Waits reclaimed versions q c
    → IsPacked before q c → MayFollow IsValue before c → AllByRecursion IsNumber (numbers_of q) → IsMember q.entry
entry-is reclaimed versions before q c waits is may numbered =
    let many = records-many before c in
    let some : 0 < length (packed before c) =
    bodies-some (map record_bytes (map (stored_record (values_in before)) c.writes)) (omega (arith, many, may.write_set.some)) in
    let few : length (packed before c) ≤ length c.writes =
    omega (arith, bodies-few (map record_bytes (map (stored_record (values_in before)) c.writes)), many) in
    let first : IsNumber q.entry.first =
    subst IsNumber (sym is.first) (first-in_range (numbers_of q) (omega (arith, length-numbers q, is.many, some)) numbered) in
    let low = first.0 in
    record {
      label = subst (λ (n : ℕ). n < 2 ^ 64) (sym waits.label) may.label;
      time_low = omega (arith, waits.time, may.later);
      time_high = subst (λ (n : ℕ). n < 2 ^ 63) (sym waits.time) may.in_range;
      first_low = omega (arith, low);
      first_high = first.1;
      extents_low = omega (arith, is.extents, is.many, some);
      extents_high = omega (arith, is.extents, is.many, few, waits.records);
      records = omega (arith, waits.records, may.write_set.few);
    }

-- ---- all of a group

last-one : (h : History Value) (c : Commit Value) → last (h ++ c ∷ []) ≡ c.time
last-one h c = go 0 h
  where
    go : (t : ℕ) (ds : History Value) → last_after t (ds ++ c ∷ []) ≡ c.time
    go t [] = refl
    go t (d ∷ ds) = go d.time ds

entries-rise : (reclaimed : ℕ) (before : List KeyWrites) (h : History Value) (qs : List QueuedValue) (cs : History Value) → AllWait reclaimed before qs cs
    → AllPacked h qs cs → MayAllFollow IsValue h cs → AllByRecursion IsNumber (flat_map numbers_of qs)
    → Rises (last h) (map (λ (q : QueuedValue). q.entry) qs)
entries-rise reclaimed before h [] [] all each may numbered = tt
entries-rise reclaimed before h [] (c ∷ cs) all each may numbered = absurd all
entries-rise reclaimed before h (q ∷ qs) [] all each may numbered = absurd all
entries-rise reclaimed before h (q ∷ qs) (c ∷ cs) all each may numbered =
    let both : AllByRecursion IsNumber (numbers_of q ++ flat_map numbers_of qs) = subst (AllByRecursion IsNumber) (flat_map-cons numbers_of q qs) numbered in
    let rest = entries-rise reclaimed q.after (h ++ c ∷ []) qs cs all.1 each.1 may.1 (all-last IsNumber (numbers_of q) (flat_map numbers_of qs) both) in (
      entry-is reclaimed before h q c all.0 each.0 may.0 (all-first IsNumber (numbers_of q) (flat_map numbers_of qs) both),
      subst (λ (t : ℕ). last h < t) (sym (all.0).time) (may.0).later,
      subst (λ (t : ℕ). Rises t (map (λ (p : QueuedValue). p.entry) qs)) (last-one h c ∙ sym (all.0).time) rest,
    )

rises-lower : (a b : ℕ) (ms : List Entry) → a ≤ b → Rises b ms → Rises a ms
rises-lower a b [] low rises = tt
rises-lower a b (m ∷ ms) low rises = let up = rises.1 in (rises.0, omega (arith, low, up), rises.2)

members-long : (ms : List Entry) → length (flat_map member_bytes ms) ≡ 28 * length ms
unfolding u64_bytes u32_bytes
members-long [] = refl
members-long (m ∷ ms) = let rest = members-long ms in ap (λ (l : List ℕ). length l) (flat_map-cons member_bytes m ms) ∙ simp length-append (omega (arith, rest))

front-long : (profile number : ℕ) (ms : List Entry) → length (front_of profile (record { number = number; body = CommitBody (record { items = ms }) }))
    ≡ 7 + 28 * length ms
unfolding front_of fields_of u32_bytes
front-long profile number ms = let rest = members-long ms in simp length-append (omega (arith, rest))

pub spelling-long : (profile number : ℕ) (ms : List Entry) → length ms ≤ 16
    → length (spelling profile (record { number = number; body = CommitBody (record { items = ms }) })) ≡ 511
unfolding spelling
spelling-long profile number ms few = let front = front-long profile number ms in simp (length-append, length-replicate) (omega (arith, front, few))

-- the slot of a group is spelled in one way
pub slot-spelled : (profile number reclaimed : ℕ) (before : List KeyWrites) (h : History Value) (qs : List QueuedValue) (cs : History Value)
    → AllWait reclaimed before qs cs → AllPacked h qs cs → MayAllFollow IsValue h cs → AllByRecursion IsNumber (flat_map numbers_of qs)
    → 0 < length qs → length qs ≤ 16 → IsSpelled profile number (spelling profile (slot_for number qs)) (slot_for number qs)
slot-spelled profile number reclaimed before h qs cs all each may numbered some few =
    let many = length-mapped (λ (q : QueuedValue). q.entry) qs in
    record {
      own = refl;
      in_range = record {
        some = omega (arith, many, some);
        few = omega (arith, many, few);
        rises = rises-lower 0 (last h) (map (λ (q : QueuedValue). q.entry) qs) (omega arith) (entries-rise reclaimed before h qs cs all each may numbered);
      };
      bytes_are = refl;
    }
