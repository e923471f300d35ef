-- A member that comes behind others.
use Rattle.std.proofs.Common.{◌≡◌, ℕ, max, List, [], ◌∷◌, ◌++◌, map, Option, refl, ap, sym, subst, ◌∙◌}
use Rattle.std.specs.List.{AllByRecursion}
use Rattle.history.specs.declared.key.Key.{Key}
use Rattle.history.specs.Queries.{values_after}
use Rattle.law_image.specs.Values.{Value}
use Rattle.law_image.specs.Reading.{HeapRecord, Member, OldRecord}
use Rattle.law_image.specs.Facts.{commit_read, latest, old_writes}
use Rattle.law_log_sizes.specs.Sizes.{len_from, len_moved, lens_behind, greatest, values_behind, AreAllCounted, AreMovable, HasRisingKeys}
use Rattle.law_log_sizes.specs.Sizes.{IsOrdered, anchors_len, only_members}
use Rattle.law_log_sizes.specs.Laws.{ComesNext}
use Rattle.law_log_sizes.proofs.Sizes.{goes-on}
use Rattle.law_log_sizes.proofs.Moved.{member-moved}
use Rattle.law_log_sizes.proofs.Told.{sizes-counted}

values-next : (before : Key → Option Value) (front : List Member) (m : Member)
    → values_behind before (front ++ m ∷ []) ≡ values_after (values_behind before front) (commit_read (values_behind before front) m)
values-next before [] m = refl
values-next before (n ∷ front) m = values-next (values_after before (commit_read before n)) front m

last-of : (front : List Member) (m : Member) → AllByRecursion HasRisingKeys (front ++ m ∷ []) → HasRisingKeys m
last-of [] m all = all.0
last-of (n ∷ front) m all = last-of front m all.1

pub comes-next : (mark : ℕ) (olds : List OldRecord) (front : List Member) (m : Member) → IsOrdered mark (only_members olds (front ++ m ∷ []))
    → ComesNext olds front m (λ key. latest (old_writes olds key))
comes-next mark olds front m ordered =
    let values : Key → Option Value = λ key. latest (old_writes olds key) in
    let n = anchors_len olds in
    let keys = map (λ (r : HeapRecord). r.key) m.records in
    let len = len_from n values front in
    let before = values_behind values front in
    let on = goes-on n values front (m ∷ []) in
    let all : AreAllCounted n values (front ++ m ∷ []) = sizes-counted mark (only_members olds (front ++ m ∷ [])) ordered in
    let moved = member-moved len before m (last-of front m ordered.keys) in
    let next : values_behind values (front ++ m ∷ []) ≡ values_after before (commit_read before m) = values-next values front m in
    record {
      len_is = on.last_is ∙ moved.len_is ∙ ap (λ (v : Key → Option Value). len_moved len before v keys) (sym next);
      most_is = on.most_is n ∙ ap (max (greatest n (lens_behind n values front))) (sym on.last_is);
      movable = subst (λ (v : Key → Option Value). AreMovable len before v keys) (sym next) (moved.counted (on.counted all).0);
    }
