-- The bytes of the anchors behind the commits of a queue.
use Rattle.std.proofs.Common.{◌≡◌, ℕ, ◌*◌, ◌/◌, ◌≤◌, List, [], ◌∷◌, ◌++◌, Option, refl, ap, sym, subst, ◌∙◌}
use Rattle.std.specs.List.{AllByRecursion}
use mathlib.Core.Path.{fun_ext}
use Rattle.history.specs.declared.key.Key.{Key}
use Rattle.history.specs.Histories.{Commit, History, MayAllFollow}
use Rattle.history.specs.Queries.{values_after, applied}
use Rattle.law_image.specs.Values.{Value, IsValue}
use Rattle.law_image.specs.Reading.{Member, Reading}
use Rattle.law_image.specs.Facts.{values_now}
use Rattle.law_image.specs.Plans.{stored_member, stored_members, with_group}
use Rattle.law_image.specs.StandsFor.{StandsFor, reclaimed_upto}
use Rattle.law_image.proofs.Recent.{commit-stored, latest-is}
use Rattle.law_refinement.specs.OnDisk as told
use Rattle.history.proofs.Filters.{AllByRecursion-append}
use Rattle.law_refinement.proofs.Packed.{all-first, all-last}
use Rattle.log_extents.specs.Chains.{count_of}
use Rattle.law_log_sizes.specs.Sizes.{len_after, len_behind, len_from, lens_behind, values_behind, size_now}
use Rattle.law_log_sizes.proofs.Orders.{standing-ordered}
use Rattle.law_log_sizes.proofs.Sizes.{goes-on}
use Rattle.law_log_sizes.proofs.Told.{group-grows}
use Rattle.law_log_store.specs.Standing.{HasAnchors}
use Rattle.law_log_store.proofs.Queues.{applied-told}

-- the log's last values are those of the history
pub now-is : (reading : Reading) (h : History Value) (floors : ℕ → ℕ) → StandsFor reading h floors → values_now reading ≡ told.values_in h
now-is reading h floors stands = fun_ext (λ (key : Key). sym (latest-is reading h floors stands key))

pub stored-split : (f : Key → Option Value) (cs ds : History Value)
    → stored_members f (cs ++ ds) ≡ stored_members f cs ++ stored_members (applied f cs) ds
stored-split f [] ds = refl
stored-split f (c ∷ cs) ds = ap (λ (ms : List Member). stored_member f c ∷ ms) (stored-split (values_after f c) cs ds)

pub stored-values : (f : Key → Option Value) (cs : History Value) → values_behind f (stored_members f cs) ≡ applied f cs
stored-values f [] = refl
stored-values f (c ∷ cs) =
    ap (λ (d : Commit Value). values_behind (values_after f d) (stored_members (values_after f c) cs)) (commit-stored f c)
    ∙ stored-values (values_after f c) cs

module _ (reading : Reading) (h next : History Value) (floors : ℕ → ℕ) (group : List Member) (stands : StandsFor reading h floors)
    (after : StandsFor (with_group reading group) (h ++ next) floors) (may : MayAllFollow IsValue h next)
    (is : group ≡ stored_members (values_now reading) next) where
  -- the values behind the group
  then-is : applied (values_now reading) next ≡ values_now (with_group reading group)
  then-is =
      ap (λ (f : Key → Option Value). applied f next) (now-is reading h floors stands) ∙ applied-told h next may
      ∙ sym (now-is (with_group reading group) (h ++ next) floors after)

  -- what was behind the whole queue is behind the rest of it
  pub anchors-rest : (most anchors : ℕ) (rest : History Value) → HasAnchors most reading (next ++ rest) anchors
      → HasAnchors most (with_group reading group) rest anchors
  anchors-rest most anchors rest has =
      let f = values_now reading in
      let n = size_now reading in
      let back = stored_members (values_now (with_group reading group)) rest in
      let split : stored_members f (next ++ rest) ≡ group ++ back =
      stored-split f next rest ∙ (λ i. sym is i ++ stored_members (then-is i) rest) in
      let behind : values_behind f group ≡ values_now (with_group reading group) = ap (values_behind f) is ∙ stored-values f next ∙ then-is in
      let on = goes-on n f group back in
      let grows = group-grows (reclaimed_upto reading) reading (standing-ordered reading h floors stands) group in
      record {
        len = has.len ∙ ap (len_from n f) split ∙ on.last_is ∙ (λ i. len_from (sym grows.last_is i) (behind i) back);
        fit = all-last (λ k. count_of k ≤ (3 * most) / 16) (lens_behind n f group) (lens_behind (size_now (with_group reading group))
            (values_now (with_group reading group)) back)
            (subst (AllByRecursion (λ k. count_of k ≤ (3 * most) / 16))
            (ap (lens_behind n f) split ∙ on.lens_are ∙ (λ i. lens_behind n f group ++ lens_behind (sym grows.last_is i) (behind i) back)) has.fit);
      }

-- the numbers behind a front of the queue are among those behind all of it
pub anchors-front : (most len : ℕ) (f : Key → Option Value) (next rest : History Value) (group : List Member) → group ≡ stored_members f next
    → AllByRecursion (λ k. count_of k ≤ (3 * most) / 16) (lens_behind len f (stored_members f (next ++ rest)))
    → AllByRecursion (λ k. count_of k ≤ (3 * most) / 16) (lens_behind len f group)
anchors-front most len f next rest group is fit =
    let back = stored_members (applied f next) rest in
    let on = goes-on len f group back in
    let split : stored_members f (next ++ rest) ≡ group ++ back = stored-split f next rest ∙ (λ i. sym is i ++ back) in
    all-first (λ k. count_of k ≤ (3 * most) / 16) (lens_behind len f group) (lens_behind (len_from len f group) (values_behind f group) back)
    (subst (AllByRecursion (λ k. count_of k ≤ (3 * most) / 16)) (ap (lens_behind len f) split ∙ on.lens_are) fit)

-- one commit more behind the queue
module _ (most len : ℕ) (f : Key → Option Value) (queue : History Value) (c : Commit Value) where
  abbrev then : ℕ
  then = len_from len f (stored_members f queue)

  more : stored_members f (queue ++ c ∷ []) ≡ stored_members f queue ++ stored_member (applied f queue) c ∷ []
  more = stored-split f queue (c ∷ [])

  one : len_after then (values_behind f (stored_members f queue)) (stored_member (applied f queue) c) ≡ len_behind then (applied f queue) c.writes
  one =
      ap (λ (g : Key → Option Value). len_after then g (stored_member (applied f queue) c)) (stored-values f queue)
      ∙ ap (λ (d : Commit Value). len_behind then (applied f queue) d.writes) (commit-stored (applied f queue) c)

  pub len-more : len_from len f (stored_members f (queue ++ c ∷ [])) ≡ len_behind then (applied f queue) c.writes
  len-more =
      let on = goes-on len f (stored_members f queue) (stored_member (applied f queue) c ∷ []) in
      ap (len_from len f) more ∙ on.last_is ∙ one

  pub fit-more : AllByRecursion (λ k. count_of k ≤ (3 * most) / 16) (lens_behind len f (stored_members f queue))
      → count_of (len_behind then (applied f queue) c.writes) ≤ (3 * most) / 16
      → AllByRecursion (λ k. count_of k ≤ (3 * most) / 16) (lens_behind len f (stored_members f (queue ++ c ∷ [])))
  fit-more fit last =
      let on = goes-on len f (stored_members f queue) (stored_member (applied f queue) c ∷ []) in
      subst (AllByRecursion (λ k. count_of k ≤ (3 * most) / 16)) (sym (ap (lens_behind len f) more ∙ on.lens_are))
      (AllByRecursion-append (λ k. count_of k ≤ (3 * most) / 16) (lens_behind len f (stored_members f queue))
      (lens_behind then (values_behind f (stored_members f queue)) (stored_member (applied f queue) c ∷ [])) fit
      (subst (λ (n : ℕ). count_of n ≤ (3 * most) / 16) (sym one) last, tt))
