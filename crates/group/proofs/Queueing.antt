-- A commit joins those that wait.
use Rattle.std.proofs.Common.{◌≡◌, ℕ, zero, suc, ◌+◌, ◌<◌, ◌≤◌, nat_le, cond, true, false, List, [], ◌∷◌, ◌++◌, length, map, slice_get, MatchOption}
use Rattle.std.proofs.Common.{length-append, refl, arith, ap, sym, subst, ◌∙◌}
use Rattle.std.specs.List.{flat_map}
use Rattle.std.proofs.lemmas.List.{append-nil}
use Rattle.std.proofs.lemmas.List.Concat.{flat_map-cons}
use Rattle.std.proofs.lemmas.Grind.{flat_map-append}
use Rattle.history.specs.declared.key.KeyWrite.{KeyWrite}
use Rattle.law_image.specs.Facts as facts
use Rattle.law_image.specs.Plans.{stored_record}
use Rattle.law_image.specs.Values.{Value}
use Rattle.deltas.specs.Extents.{extent_bytes}
use Rattle.deltas.specs.Packing.{bodies_from}
use Rattle.deltas.specs.Records.{spelling, record_of}
use Rattle.chains.specs.KeyWrites.{KeyWrites, latest, writes_of, with_commit}
use Rattle.extents.specs.declared.usage.Usage.TheVariants.{Out}
use Rattle.extents.specs.Usages.{AreOut, with_usages}
use Rattle.group.specs.CommitOrder.{last_time}
use Rattle.group.specs.Queued.{QueuedValue, numbers_of, stored_as}
use Rattle.deltas.specs.Chains.{chain_of, first_number}
use Rattle.group.specs.declared.queued.StoredExtent.{StoredExtent}
use Rattle.group.specs.Taking.{AreLeastFree}
use Rattle.group.proofs.Sealed.{length-sealed}
use Rattle.group.specs.declared.stage.GroupStage.{GroupStage}
use Rattle.group.specs.declared.stage.GroupStage.TheVariants.{NoGroup, Storing, Stored, Turning}
use Rattle.group.specs.Values.{TransactionsValue, ordered, ordered_mark, claimed_by, spare}
use Rattle.group.specs.Order.{StageFits, AreBy, IsInOrder}
use Rattle.group.specs.Submits.{bodies_for, bodies_over, queued_as, with_queued}
use Rattle.group.proofs.Kept.{all-push, by-push, pending-later}
use Rattle.group.proofs.Orders.{last_time-push}
use Rattle.group.proofs.Publishing.{numbers-stored, length-stored, out-joined}

some_bodies : (body : List ℕ) (rs : List (List ℕ)) → 0 < length (bodies_from body rs)
some_bodies body [] = omega arith
some_bodies body (r ∷ rs) =
    elim (nat_le (length body + length r) 8176) as (λ b. 0
    < length (cond b (bodies_from (body ++ r) rs) (body ∷ bodies_from r rs))) [ true ↦ some_bodies (body ++ r) rs | false ↦ omega arith ]

-- some writes need an extent
pub bodies-some : (versions : List KeyWrites) (writes : List (KeyWrite Value)) → 0 < length writes → 0 < length (bodies_over versions writes)
bodies-some versions [] some = absurd (omega arith)
bodies-some versions (w ∷ ws) some =
    let record_for : KeyWrite Value → List ℕ = λ x. spelling (record_of (stored_record (λ key. facts.latest (writes_of versions key)) x)) in
    some_bodies (record_for w) (map spelling (map record_of (map (stored_record (λ key. facts.latest (writes_of versions key))) ws)))

get-front : {A : Type 0} (xs ys : List A) (k : ℕ) → k < length xs → slice_get (xs ++ ys) k ≡ slice_get xs k
get-front [] ys k low = absurd (omega arith)
get-front (x ∷ xs) ys zero low = refl
get-front (x ∷ xs) ys (suc k) low = get-front xs ys k (omega arith)

fits-push : (s : GroupStage) (group : ℕ) (queue : List QueuedValue) (q : QueuedValue) → group ≤ length queue → StageFits s group queue
    → StageFits s group (queue ++ q ∷ [])
fits-push NoGroup group queue q within fits = fits
fits-push Stored group queue q within fits = fits
fits-push Turning group queue q within fits = fits
fits-push (Storing member extent) group queue q within fits =
    (fits.0, fits.1, λ low p there. fits.2 low p (sym (get-front queue (q ∷ []) member (omega arith)) ∙ there))

claimed-push : (s : GroupStage) (group waiting : ℕ) → group ≤ waiting → claimed_by s group (waiting + 1) ≡ claimed_by s group waiting + 1
claimed-push NoGroup group waiting within = refl
claimed-push Stored group waiting within = refl
claimed-push Turning group waiting within = omega arith
claimed-push (Storing member extent) group waiting within = refl

pub keeps-queued : (v : TransactionsValue) (label time : ℕ) (writes : List (KeyWrite Value)) (numbers : List ℕ) → IsInOrder v → AreLeastFree v.usages numbers
    → length numbers ≡ length (bodies_for v writes) → 0 < length writes
    → latest (with_commit (ordered v) time writes) ≤ time → last_time v.heads ≤ time → 2 < spare v → IsInOrder (with_queued v label time writes numbers)
keeps-queued v label time writes numbers order least many some early later room =
    let q : QueuedValue = queued_as v label time writes numbers in
    let images : List (List ℕ) = map extent_bytes (chain_of numbers (bodies_for v writes)) in
    let sealed : length images ≡ length numbers = length-sealed numbers (bodies_for v writes) (sym many) in
    let its : numbers_of q ≡ numbers = numbers-stored numbers images sealed in
    let needs = bodies-some (ordered v) writes some in
    let claims = claimed-push v.stage v.group (length v.queue) order.group_within in
    let longer : length (v.queue ++ q ∷ []) ≡ length v.queue + 1 = simp length-append refl in
    let all : flat_map numbers_of (v.queue ++ q ∷ []) ≡ flat_map numbers_of v.queue ++ numbers =
    flat_map-append numbers_of v.queue (q ∷ []) ∙ ap (λ (ns : List ℕ). flat_map numbers_of v.queue ++ ns)
    (flat_map-cons numbers_of q [] ∙ append-nil (numbers_of q) ∙ its) in
    let last_is : last_time (v.heads ++ record { time = time; label = label; awaited = true } ∷ []) ≡ time =
    last_time-push 0 v.heads (record { time = time; label = label; awaited = true }) in
    record {
      split = simp length-append (omega (arith, order.split));
      latest = subst (λ (n : ℕ). AreBy n v.versions (v.queue ++ q ∷ [])) (sym last_is)
          (by-push (last_time v.heads) time v.versions v.queue q later order.latest early);
      pending = subst (λ (n : ℕ). MatchOption v.pending (Unit {0}) (λ versions. latest versions ≤ n)) (sym last_is)
          (pending-later (last_time v.heads) time v.pending later order.pending);
      group_within = omega (arith, longer, order.group_within);
      group_few = order.group_few;
      stage_fits = fits-push v.stage v.group v.queue q order.group_within order.stage_fits;
      stored = all-push v.queue q order.stored (let length-is = length-stored numbers images sealed in omega (arith, length-is, many, needs));
      out = subst (λ (ns : List ℕ). AreOut (with_usages v.usages numbers Out) (ns ++ v.reserved)) (sym all)
          (out-joined v.usages (flat_map numbers_of v.queue) v.reserved numbers order.out least);
      room = rw longer (omega (arith, claims, room, order.room));
      slots_few = order.slots_few;
    }

-- a commit with these parts is the one that waits
pub queued-is : (v : TransactionsValue) (label time first extents records : ℕ) (after : List KeyWrites) (reclaimed : ℕ) (stored : List StoredExtent)
    (writes : List (KeyWrite Value)) (numbers : List ℕ)
    → first ≡ first_number numbers → extents ≡ length numbers → records ≡ length writes → after ≡ with_commit (ordered v) time writes
    → reclaimed ≡ ordered_mark v → stored ≡ stored_as numbers (map extent_bytes (chain_of numbers (bodies_for v writes)))
    → Path QueuedValue (record {
      entry = record { label = label; time = time; first = first; extents = extents; records = records };
      after = after;
      reclaimed = reclaimed;
      stored = stored;
    }) (queued_as v label time writes numbers)
queued-is v label time first extents records after reclaimed stored writes numbers e1 e2 e3 e4 e5 e6 = rw (e1, e2, e3, e4, e5, e6) refl
