-- The write of one extent, or a sync, beside other extents.
use Rattle.std.proofs.Common.{◌≢◌, ℕ, ◌<◌, List, [], ◌∷◌, length, map, arith}
use Rattle.std.specs.List.{AllByRecursion}
use Rattle.disk.specs.Areas.{AreaState, IsSound, loosened, written, synced}
use Rattle.extents.specs.declared.usage.Usage.{Usage}
use Rattle.extents.specs.declared.usage.Usage.TheVariants.{Out, Kept}
use Rattle.extents.specs.Usages.{IsKept, IsOut}
use Rattle.extents.proofs.Frames.{are_apart}
use Rattle.law_layout.specs.Extents.{Extent, IsExtent, HoldsExtent, KeepsExtent, extent_start, extent_bytes}
use Rattle.law_layout.specs.Keeping.{KeepsExtents}
use Rattle.law_layout.proofs.Extents.{others_kept, one_more_held, loosened_is, written_is, extents_kept_by_sync}

-- what a write of the extent of this number leaves of the others
pub record IsBeside (n : ℕ) (old new : AreaState) : Type 0 where
  pub keeps : (f : Extent) → IsExtent f → f.number ≢ n → KeepsExtent old f → KeepsExtent new f
  pub holds : (f : Extent) → IsExtent f → f.number ≢ n → HoldsExtent old.bytes f → HoldsExtent new.bytes f

-- none of these extents has this number
abbrev pub AreBeside : ℕ → List Extent → Type 0
AreBeside n es = AllByRecursion (λ (f : Extent). IsExtent f × (f.number ≢ n)) es

pub all-keep : (n : ℕ) (old new : AreaState) → IsBeside n old new → (es : List Extent) → AreBeside n es → KeepsExtents es old → KeepsExtents es new
all-keep n old new beside [] apart keeps = tt
all-keep n old new beside (e ∷ es) apart keeps = (beside.keeps e (apart.0).0 (apart.0).1 keeps.0, all-keep n old new beside es apart.1 keeps.1)

pub all-hold : (n : ℕ) (old new : AreaState) → IsBeside n old new → (es : List Extent) → AreBeside n es → AllByRecursion (HoldsExtent old.bytes) es
    → AllByRecursion (HoldsExtent new.bytes) es
all-hold n old new beside [] apart held = tt
all-hold n old new beside (e ∷ es) apart held = (beside.holds e (apart.0).0 (apart.0).1 held.0, all-hold n old new beside es apart.1 held.1)

pub write-beside : (e : Extent) → IsExtent e → (old : AreaState) → IsSound old → IsBeside e.number old (written (extent_start e.number) (extent_bytes e) old)
write-beside e is old sound = record {
  keeps = λ f are apart kept.
      (others_kept e is (f ∷ []) (are, tt) (
        apart,
        tt,
      ) old (written (extent_start e.number) (extent_bytes e) old) sound (written_is (extent_start e.number) (extent_bytes e) old sound) (kept, tt)).0;
  holds = λ f are apart held. (one_more_held e is (f ∷ []) (are, tt) (apart, tt) old.bytes (held, tt)).0;
}

-- so does one that is torn; it is read as before
pub torn-beside : (e : Extent) → IsExtent e → (old : AreaState) → IsSound old
    → IsBeside e.number old (loosened (extent_start e.number) (length (extent_bytes e)) old.bytes old)
torn-beside e is old sound = record {
  keeps = λ f are apart kept.
      (others_kept e is (f ∷ []) (are, tt) (
        apart,
        tt,
      ) old (loosened (extent_start e.number) (length (extent_bytes e)) old.bytes old) sound
      (loosened_is (extent_start e.number) (length (extent_bytes e)) old) (kept, tt)).0;
  holds = λ f are apart held. held;
}

-- no extent has the number 0
pub sync-beside : (old : AreaState) → IsSound old → IsBeside 0 old (synced old)
sync-beside old sound = record {
  keeps = λ f are apart kept. (extents_kept_by_sync (f ∷ []) old sound (kept, tt)).0;
  holds = λ f are apart held. held;
}

pub beside-none : (es : List Extent) → AllByRecursion IsExtent es → AreBeside 0 es
beside-none [] are = tt
beside-none (e ∷ es) are = ((are.0, λ none. (let low = (are.0).low in absurd (omega (arith, low, none)))), beside-none es are.1)

-- what is kept is beside what is out
pub beside-out : (us : List Usage) (n : ℕ) → IsOut us n → (es : List Extent) → AllByRecursion IsExtent es
    → AllByRecursion (λ (e : Extent). IsKept us e.number) es → AreBeside n es
beside-out us n out [] are kept = tt
beside-out us n out (e ∷ es) are kept = ((are.0, are_apart us Kept Out e.number n (λ same. cc) kept.0 out), beside-out us n out es are.1 kept.1)

-- and so are extents whose numbers are others
pub beside-numbers : (n : ℕ) (es : List Extent) → AllByRecursion IsExtent es → AllByRecursion (λ (k : ℕ). k ≢ n) (map (λ (e : Extent). e.number) es)
    → AreBeside n es
beside-numbers n [] are others = tt
beside-numbers n (e ∷ es) are others = ((are.0, others.0), beside-numbers n es are.1 others.1)

pub none-number : (ns : List ℕ) → AllByRecursion (λ (k : ℕ). 0 < k) ns → AllByRecursion (λ (k : ℕ). k ≢ 0) ns
none-number [] low = tt
none-number (n ∷ ns) low = (λ same. (let first = low.0 in absurd (omega (arith, first, same))), none-number ns low.1)
