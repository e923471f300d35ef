-- The numbers behind members, one after the other.
use Rattle.std.proofs.Common.{◌≡◌, ℕ, max, List, [], ◌∷◌, ◌++◌, Option, sym, subst}
use Rattle.history.specs.declared.key.Key.{Key}
use Rattle.law_image.specs.Values.{Value}
use Rattle.law_image.specs.Reading.{Member, OldRecord}
use Rattle.law_image.specs.Facts.{commit_read, latest, old_writes}
use Rattle.law_log_sizes.specs.Sizes.{anchors_len, greatest, len_after, len_behind, len_from, lens_behind, values_behind}
use Rattle.law_log_sizes.proofs.Sizes.{goes-on}
use Rattle.log_sizes.specs.declared.anchor_sizes.AnchorSizes.{AnchorSizes}
use Rattle.log_sizes.specs.Counted.{AreSizes, AreSizesBehind}

-- a member more
pub sizes-next : (olds : List OldRecord) (front : List Member) (m : Member) (before : Key → Option Value) (sizes next : AnchorSizes)
    → before ≡ values_behind (λ key. latest (old_writes olds key)) front → AreSizesBehind olds front sizes
    → ((len most : ℕ) → AreSizes len most sizes
    → AreSizes (len_behind len before (commit_read before m).writes) (max most (len_behind len before (commit_read before m).writes)) next)
    → AreSizesBehind olds (front ++ m ∷ []) next
sizes-next olds front m before sizes next same are more =
    let values : Key → Option Value = λ key. latest (old_writes olds key) in
    let n = anchors_len olds in
    let len = len_from n values front in
    let most = greatest n (lens_behind n values front) in
    let on = goes-on n values front (m ∷ []) in
    let now : AreSizes (len_after len before m) (max most (len_after len before m)) next = more len most are in
    let there : AreSizes (len_after len (values_behind values front) m) (max most (len_after len (values_behind values front) m)) next =
    subst (λ (b : Key → Option Value). AreSizes (len_after len b m) (max most (len_after len b m)) next) same now in
    subst (λ (k : ℕ). AreSizes k (greatest n (lens_behind n values (front ++ m ∷ []))) next) (sym on.last_is)
    (subst (λ (k : ℕ). AreSizes (len_after len (values_behind values front) m) k next) (sym (on.most_is n)) there)
