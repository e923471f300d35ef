-- What an image that stands for a history is never answered; and the archive's parts.
use Rattle.std.proofs.Common.{◌≡◌, ℕ, ◌^◌, ◌<◌, inl, inr, List, [], ◌∷◌, length, take, refl, sym, subst, ◌∙◌, arith}
use Rattle.std.specs.List.{AllByRecursion}
use Rattle.disk.specs.Areas.{Image}
use Rattle.disk.specs.declared.area.Area.TheVariants.{Status, Heap, Archive}
use Rattle.history.specs.Histories.{History}
use Rattle.law_image.specs.Values.{Value}
use Rattle.recovery.specs.declared.fault.OpenFault.{OpenFault}
use Rattle.recovery.specs.declared.fault.OpenFault.TheVariants.{NotAStore, Damaged, Device, NoMemory}
use Rattle.log_roots.specs.declared.roots.Roots.{Roots}
use Rattle.log_roots.specs.Roots.{root_of}
use Rattle.log_roots.proofs.Headers.{one_reading}
use Rattle.law_log_layout.specs.HeapLog.{HeapStandsFor, PlacedAnchors, PlacedChain, Span}
use Rattle.log_recovery.specs.Opening.{EndsWithin, FailsArchive, FailsHeap, FailsSpans, IsImageFault, Opens, ReadsRoots, archive_parts}
use Rattle.law_log_opening.specs.Laws.{SaysNothing}
use Rattle.law_log_opening.proofs.Once.{chains-once, holds-or-fails}
use Rattle.law_log_opening.proofs.Opens.{stands-opens}

-- ---- parts of the archive

all-within : (archive_len : ℕ) (spans : List Span) (place : ℕ) → AllByRecursion (EndsWithin archive_len) spans → FailsSpans archive_len spans place → ⊥
all-within archive_len [] place within fails = fails
all-within archive_len (s ∷ spans) place within (inl here) = omega (arith, here.1, within.0)
all-within archive_len (s ∷ spans) place within (inr later) = all-within archive_len spans place within.1 later.1

one-past : (archive_len : ℕ) (spans : List Span) (p q : ℕ) → FailsSpans archive_len spans p → FailsSpans archive_len spans q → p ≡ q
one-past archive_len [] p q f g = absurd f
one-past archive_len (s ∷ spans) p q (inl f) (inl g) = f.0 ∙ sym g.0
one-past archive_len (s ∷ spans) p q (inl f) (inr g) = absurd (omega (arith, f.1, g.0))
one-past archive_len (s ∷ spans) p q (inr f) (inl g) = absurd (omega (arith, g.1, f.0))
one-past archive_len (s ∷ spans) p q (inr f) (inr g) = one-past archive_len spans p q f.1 g.1

-- where an image opens no part of its archive is past the end
pub opens-or-fails : (most root : ℕ) (heap : List ℕ) (archive_len : ℕ) (chains : List PlacedChain) (next : ℕ) (a : PlacedAnchors) (place : ℕ) → most < 2 ^ 32
    → Opens most root heap archive_len chains next a → FailsArchive most root heap archive_len place → ⊥
opens-or-fails most root heap archive_len chains next a place few opens f =
    let same = chains-once most root heap few chains next f.chains f.next opens.heap_is.before.before.before.chains_hold
    f.heap_is.before.before.before.chains_hold in
    all-within archive_len (archive_parts chains) place opens.within
    (subst (λ (xs : List PlacedChain). FailsSpans archive_len (archive_parts xs) place) (sym same.0) f.fails)

-- and one at most is the first that is
pub archive-fails-once : (most root : ℕ) (heap : List ℕ) (archive_len p q : ℕ) → most < 2 ^ 32 → FailsArchive most root heap archive_len p
    → FailsArchive most root heap archive_len q → p ≡ q
archive-fails-once most root heap archive_len p q few f g =
    let same = chains-once most root heap few f.chains f.next g.chains g.next f.heap_is.before.before.before.chains_hold
    g.heap_is.before.before.before.chains_hold in
    one-past archive_len (archive_parts f.chains) p q f.fails
    (subst (λ (xs : List PlacedChain). FailsSpans archive_len (archive_parts xs) q) (sym same.0) g.fails)

-- ---- the image

module _ (image : Image) (roots : Roots) (h : History Value) (floors : ℕ → ℕ) (reads : ReadsRoots image.status roots)
    (stands : HeapStandsFor roots.extents (root_of roots) image.heap image.archive h floors) where
  opens : Opens roots.extents (root_of roots) image.heap (length image.archive) stands.log.chains stands.log.next stands.log.anchors
  opens =
      stands-opens roots.extents (root_of roots) stands.log stands.reading image.heap image.archive h floors stands.is_log stands.held stands.stands

  few : roots.extents < 2 ^ 32
  few = (let size = reads.has.in_range.size in omega (arith, size.most))

  -- these are the only roots
  only : (others : Roots) → ReadsRoots image.status others → others ≡ roots
  only others read = one_reading (take 512 image.status) others roots read.has reads.has

  pub sound : (fault : OpenFault) → IsImageFault image fault → SaysNothing fault
  sound NotAStore is = absurd (is roots reads)
  sound (Damaged Status n) is = absurd is
  sound (Damaged Heap n) is =
      absurd (holds-or-fails roots.extents (root_of roots) image.heap few stands.log.chains stands.log.next stands.log.anchors n opens.heap_is
      (subst (λ (r : Roots). FailsHeap r.extents (root_of r) image.heap n) (only is.0 is.1) is.2))
  sound (Damaged Archive n) is =
      absurd (opens-or-fails roots.extents (root_of roots) image.heap (length image.archive) stands.log.chains stands.log.next stands.log.anchors n few opens
      (subst (λ (r : Roots). FailsArchive r.extents (root_of r) image.heap (length image.archive) n) (only is.0 is.1) is.2))
  sound Device is = inl refl
  sound NoMemory is = inr refl
