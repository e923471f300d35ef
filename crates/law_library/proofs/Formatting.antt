-- What a host makes of what formatting tells.
use Rattle.std.proofs.Common.{◌≡◌, ◌⊎◌, ◌∙◌, ℕ, Bool, true, false, List, [], take, length, refl, ap, sym, subst, inl, inr, arith}
use Rattle.std.proofs.lemmas.List.Elements.{All-take, All-nil, All-replicate}
use Rattle.std.specs.Prelude.{◌<◌, ◌≢◌, nat_le, replicate, MatchBool}
use Rattle.disk.specs.Areas.{Areas, Image, image_of}
use Rattle.history.specs.Histories.{History}
use Rattle.law_image.specs.Values.{Value}
use Rattle.law_layout.specs.Opening.{unread, unread_layout}
use Rattle.recovery.specs.Faults.{IsReadFault}
use Rattle.recovery.specs.declared.fault.OpenFault.{OpenFault}
use Rattle.recovery.specs.declared.fault.OpenFault.TheVariants as faults
use Rattle.recovery.proofs.OneAnswer.{opening_only}
use Rattle.recovery.proofs.HistoryRead.{stands_opening}
use Rattle.log_roots.specs.Roots.{root_of}
use Rattle.law_log_layout.specs.HeapLog.{HeapStandsFor}
use Rattle.law_log_opening.specs.Laws.{SaysNothing}
use Rattle.law_log_opening.proofs.Sound.{sound}
use Rattle.any_store.specs.declared.engine.Engine.TheVariants as engine
use Rattle.any_store.specs.Formats.{IsFormatted}
use Rattle.any_store.specs.declared.formatting.Layout.{Layout}
use Rattle.any_store.specs.declared.formatting.Layout.TheVariants.{Slots, Log}
use Rattle.law_any_store.specs.Formatted.{header_of}
use Rattle.law_any_store.specs.Standing.{AnyHeader, IsImageOf}
use Rattle.law_any_store.proofs.Formatted.{formatted-stands}
use Rattle.law_any_store.proofs.Opened.{image-slots, image-log, slots-no_log}
use Rattle.c_engine.specs.Codes.{IsOpenCode}
use Rattle.c_engine.specs.Engines.{IsImageFault}
use Rattle.c_engine.specs.Formats.{IsNewStoreTold}
use Rattle.c_engine.specs.RelayNoted.{empty_areas}
use Rattle.c_engine.specs.declared.code.Code.{Code}
use Rattle.c_engine.specs.declared.code.Code.TheVariants as code
use Rattle.c_engine.specs.declared.code.Info.{Info}
use Rattle.law_library.specs.Formats.{new_image, NewStands, MemoryAloneRefuses, NewKeeps}
use Rattle.law_library.proofs.Events.{promise}

abbrev image-of : List ℕ → List ℕ → List ℕ → Image
image-of status heap archive = record { status = status; heap = heap; archive = archive }

-- where the answer is Ok all bytes are told
all-told : (bytes out : List ℕ) (n : ℕ) (fits : Bool) → MatchBool fits ((code.Ok ≡ code.Ok) × (take n out ≡ bytes)) (code.Ok ≡ code.Small)
    → take n out ≡ bytes
all-told bytes out n true told = told.1
all-told bytes out n false told = let no : code.Ok ≡ code.Small = told in absurd cc

no-archive : (layout : Layout) (areas : Areas) → IsFormatted layout empty_areas areas → areas.archive.bytes ≡ []
no-archive (Slots slots) areas is = ap (λ (a : Areas). a.archive.bytes) is.others
no-archive (Log extents) areas is = ap (λ (a : Areas). a.archive.bytes) is.new_is

told-stands : (layout : Layout) (told : Info) (out : List ℕ) → IsNewStoreTold layout code.Ok told out
    → IsImageOf (header_of layout) (new_image told out) [] (λ relation. 0)
told-stands layout told out is =
    let areas : Areas = is.areas in
    let status : take told.a out ≡ areas.status.bytes =
    all-told areas.status.bytes out told.a (nat_le (length areas.status.bytes) (length out)) is.status.1 in
    let same : image_of areas ≡ new_image told out =
    ap (λ (x : List ℕ). image-of x areas.heap.bytes areas.archive.bytes) (sym status)
    ∙ (ap (λ (x : List ℕ). image-of (take told.a out) x areas.archive.bytes) is.heap
    ∙ ap (λ (x : List ℕ). image-of (take told.a out) (replicate told.b 0) x) (no-archive layout areas is.formatted)) in
    subst (λ (i : Image). IsImageOf (header_of layout) i [] (λ relation. 0)) same (formatted-stands layout empty_areas areas is.formatted)

pub new-stands : NewStands
new-stands layout told out is = by-answer is.made
  where
    by-answer : (code.Ok ≡ code.BadSlots) ⊎ ((code.Ok ≡ code.NoMemory) ⊎ IsNewStoreTold layout code.Ok told out)
        → IsImageOf (header_of layout) (new_image told out) [] (λ relation. 0)
    by-answer (inl bad) = absurd cc
    by-answer (inr (inl short)) = absurd cc
    by-answer (inr (inr new)) = told-stands layout told out new

-- ---- opening

-- a fault of neither the image nor the device is want of memory
memory-code : (why : OpenFault) (said : Code) (info : Info) → IsReadFault why → (why ≢ faults.Device) → IsOpenCode why said info → said ≡ code.NoMemory
memory-code faults.NotAStore said info read served is = absurd read
memory-code (faults.Damaged area place) said info read served is = absurd read
memory-code faults.Device said info read served is = absurd (served refl)
memory-code faults.NoMemory said info read served is = is

read-fault : (why : OpenFault) → SaysNothing why → IsReadFault why
read-fault why (inl device) = subst IsReadFault (sym device) tt
read-fault why (inr memory) = subst IsReadFault (sym memory) tt

image-refuses : (header : AnyHeader) (image : Image) (h : History Value) (floors : ℕ → ℕ) (why : OpenFault) → IsImageOf header image h floors
    → IsImageFault image why → IsReadFault why
image-refuses (engine.Slots header) image h floors why is (inl fault) =
    opening_only header image (unread_layout is.layout) (unread is.reading) why
    (stands_opening header image is.layout is.reading h floors is.laid is.held is.stands is.profile_built is.built) fault.1
image-refuses (engine.Slots header) image h floors why is (inr fault) =
    absurd (slots-no_log image.status header (image-slots header image h floors is) fault.0)
image-refuses (engine.Log roots) image h floors why is (inl fault) = absurd (fault.0 (image-log roots image h floors is))
image-refuses (engine.Log roots) image h floors why is (inr fault) =
    read-fault why (sound image is.read h floors is.status
    (subst (λ (most : ℕ). HeapStandsFor most (root_of is.read) image.heap image.archive h floors) (sym is.size) is.heap) why fault.1)

pub memory-alone : MemoryAloneRefuses
memory-alone header image h floors said info is refuses =
    memory-code refuses.0 said info (image-refuses header image h floors refuses.0 is refuses.2) refuses.1 refuses.3

-- ---- from then on

pub new-keeps : NewKeeps
new-keeps layout told out mark info e events host bytes is opens run =
    promise (take told.a out) (replicate told.b 0) [] mark info e (header_of layout) [] (λ relation. 0) events host
    (All-take (λ b. b < 256) told.a out bytes) (All-replicate (λ b. b < 256) told.b 0 (omega arith)) (All-nil (λ b. b < 256))
    (new-stands layout told out is) opens run
