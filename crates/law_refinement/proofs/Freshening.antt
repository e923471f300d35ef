-- Where the versions that a group leaves are made anew, nothing changes of what it stores.
use Rattle.std.proofs.Common.{◌≡◌, ℕ, zero, suc, ◌-◌, nat_lt, slice_get, slice_set, Bool, true, false, cond, List, [], ◌∷◌, ◌++◌, length, take, map, Option}
use Rattle.std.proofs.Common.{None, Some, refl, ap, sym, subst}
use Rattle.history.specs.Histories.{History}
use Rattle.history.specs.Machine.{Machine}
use Rattle.law_image.specs.Values.{Value}
use Rattle.disk.specs.Areas.{Areas}
use Rattle.wire.specs.declared.slot.Body.TheVariants.{Commit as CommitBody}
use Rattle.wire.specs.declared.slot.Member.{Member as Entry}
use Rattle.chains.specs.KeyWrites.{KeyWrites, forgotten}
use Rattle.chains.proofs.Forgetting.{latest-forgotten}
use Rattle.law_layout.specs.Layouts.{Layout, StoredMember}
use Rattle.law_layout.specs.Turn.{Group}
use Rattle.status.specs.declared.header.Header.{Header}
use Rattle.group.specs.Queued.{QueuedValue}
use Rattle.group.specs.Order.{IsInOrder}
use Rattle.group.specs.Values.{TransactionsValue}
use Rattle.group.specs.Steps as groups
use Rattle.group.specs.Steps.{fresh_at, freshened}
use Rattle.group.specs.declared.stage.GroupStage.{GroupStage}
use Rattle.group.specs.declared.stage.GroupStage.TheVariants.{Stored}
use Rattle.group.proofs.Reclaiming.{keeps-fresh}
use Rattle.store.specs.Values.{StoreValue}
use Rattle.store.specs.Pumps.{freshly}
use Rattle.law_refinement.specs.OnDisk.{IsPacked, AllPacked, member_of, members_of, group_of, IsAtStage, Works}

module _ (after : List KeyWrites) (mark : ℕ) where
  abbrev anew : QueuedValue → QueuedValue
  anew q = record q { after = after; reclaimed = mark }

  set-members : (n : ℕ) (before : History Value) (qs : List QueuedValue) (cs : History Value) (place : ℕ) (q : QueuedValue) → slice_get qs place ≡ Some q
      → members_of before (take n (slice_set qs place (anew q))) cs ≡ members_of before (take n qs) cs
  set-members zero before qs cs place q found = refl
  set-members (suc n) before [] cs place q found = refl
  set-members (suc n) before (x ∷ xs) [] zero q found = refl
  set-members (suc n) before (x ∷ xs) [] (suc k) q found = refl
  set-members (suc n) before (x ∷ xs) (c ∷ cs) zero q found =
      let same : x ≡ q = cc in ap (λ (z : QueuedValue). member_of before z c ∷ members_of (before ++ c ∷ []) (take n xs) cs) (sym same)
  set-members (suc n) before (x ∷ xs) (c ∷ cs) (suc k) q found =
      ap (λ (l : List StoredMember). member_of before x c ∷ l) (set-members n (before ++ c ∷ []) xs cs k q found)

  set-entries : (n : ℕ) (qs : List QueuedValue) (place : ℕ) (q : QueuedValue) → slice_get qs place ≡ Some q
      → map (λ (p : QueuedValue). p.entry) (take n (slice_set qs place (anew q))) ≡ map (λ (p : QueuedValue). p.entry) (take n qs)
  set-entries zero qs place q found = refl
  set-entries (suc n) [] place q found = refl
  set-entries (suc n) (x ∷ xs) zero q found = let same : x ≡ q =
      cc in ap (λ (z : QueuedValue). z.entry ∷ map (λ (p : QueuedValue). p.entry) (take n xs)) (sym same)
  set-entries (suc n) (x ∷ xs) (suc k) q found = ap (λ (l : List Entry). x.entry ∷ l) (set-entries n xs k q found)

  set-packed : (before : History Value) (qs : List QueuedValue) (cs : History Value) (place : ℕ) (q : QueuedValue) → slice_get qs place ≡ Some q
      → AllPacked before qs cs → AllPacked before (slice_set qs place (anew q)) cs
  set-packed before [] cs place q found all = all
  set-packed before (x ∷ xs) [] place q found all = absurd all
  set-packed before (x ∷ xs) (c ∷ cs) zero q found all =
      let same : x ≡ q = cc in
      let own : IsPacked before q c = subst (λ (z : QueuedValue). IsPacked before z c) same all.0 in
      (record { many = own.many; stored = own.stored; first = own.first; extents = own.extents }, all.1)
  set-packed before (x ∷ xs) (c ∷ cs) (suc k) q found all = (all.0, set-packed (before ++ c ∷ []) xs cs k q found all.1)

-- what holds of a queue, also where one of it is made anew
fresh-has : (P : List QueuedValue → Type 0) (mark place : ℕ) (queue : List QueuedValue) (o : Option QueuedValue) → slice_get queue place ≡ o → P queue
    → ((q : QueuedValue) → slice_get queue place ≡ Some q → P (slice_set queue place (record q { after = forgotten mark q.after; reclaimed = mark })))
    → P (fresh_at mark place queue o)
fresh-has P mark place queue None at same made = same
fresh-has P mark place queue (Some q) at same made =
    elim (nat_lt q.reclaimed mark) as (λ (b : Bool). P (cond b (slice_set queue place (record q { after = forgotten mark q.after; reclaimed = mark })) queue)) [
      | true ↦ made q at
      | false ↦ same
    ]

same-order : (t : TransactionsValue) → IsInOrder t → IsInOrder (record t { queue = t.queue })
same-order t order = order

module _ (t : TransactionsValue) where
  abbrev place : ℕ
  place = t.group - 1

  pub fresh-members : (before : History Value) (cs : History Value) → members_of before (take t.group (freshened t).queue) cs
      ≡ members_of before (take t.group t.queue) cs
  fresh-members before cs =
      fresh-has (λ (qs : List QueuedValue). members_of before (take t.group qs) cs
      ≡ members_of before (take t.group t.queue) cs) t.reclaimed place t.queue (slice_get t.queue place) refl refl
      (λ q found. set-members (forgotten t.reclaimed q.after) t.reclaimed t.group before t.queue cs place q found)

  pub fresh-entries : groups.entries (freshened t) ≡ groups.entries t
  fresh-entries =
      fresh-has (λ (qs : List QueuedValue). map (λ (p : QueuedValue). p.entry) (take t.group qs)
      ≡ map (λ (p : QueuedValue). p.entry) (take t.group t.queue)) t.reclaimed place t.queue (slice_get t.queue place) refl refl
      (λ q found. set-entries (forgotten t.reclaimed q.after) t.reclaimed t.group t.queue place q found)

  pub fresh-packed : (before : History Value) (cs : History Value) → AllPacked before t.queue cs → AllPacked before (freshened t).queue cs
  fresh-packed before cs all =
      fresh-has (λ (qs : List QueuedValue). AllPacked before qs cs) t.reclaimed place t.queue (slice_get t.queue place) refl all
      (λ q found. set-packed (forgotten t.reclaimed q.after) t.reclaimed before t.queue cs place q found all)

  pub fresh-group : (layout : Layout) (m : Machine Value) → group_of layout (freshened t) m ≡ group_of layout t m
  fresh-group layout m =
      let a = fresh-members m.published (take t.group m.queue) in
      let b = fresh-entries in
      λ i. record { members = a i; slot = record { number = length layout.slots; body = CommitBody (record { items = b i }) } }

  pub fresh-order : IsInOrder t → IsInOrder (freshened t)
  fresh-order order =
      fresh-has (λ (qs : List QueuedValue). IsInOrder (record t { queue = qs })) t.reclaimed place t.queue (slice_get t.queue place) refl (same-order t order)
      (λ q found. keeps-fresh (forgotten t.reclaimed q.after) t.reclaimed t place q order found (latest-forgotten t.reclaimed q.after))

-- the works of a store whose group is stored
pub fresh-works : (header : Header) (v : StoreValue) (m : Machine Value) → v.transactions.stage ≡ Stored → Works header v m → Works header (freshly v) m
fresh-works header v m stored w =
    let base : Areas = record v.disk.areas { status = w.group.rested } in
    let was =
    subst (λ (s : GroupStage). IsAtStage header w.log.layout (group_of w.log.layout v.transactions m) v.transactions.queue s v.turn base) stored w.group.at
    in
    let at : IsAtStage header w.log.layout (group_of w.log.layout (freshened v.transactions) m) (freshened v.transactions).queue Stored v.turn base =
    subst (λ (g : Group). IsAtStage header w.log.layout g (freshened v.transactions).queue Stored v.turn base) (sym (fresh-group v.transactions w.log.layout m))
    was in
    record {
      log = w.log;
      heap = w.heap;
      packed = fresh-packed v.transactions m.published m.queue w.packed;
      group = record {
        rested = w.group.rested;
        rests = w.group.rests;
        at = subst (λ (s : GroupStage). IsAtStage header w.log.layout (group_of w.log.layout (freshened v.transactions) m) (freshened v.transactions).queue s
            v.turn base) (sym stored) at;
      };
      job = w.job;
      sound = w.sound;
    }
