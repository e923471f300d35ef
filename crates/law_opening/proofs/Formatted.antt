-- A formatted disk stands for the empty history.
use Rattle.std.proofs.Common.{◌≡◌, ℕ, ◌+◌, ◌<◌, ◌≤◌, List, [], take, Bool, IsTrue, inl, inr, refl, sym, subst, ◌∙◌, arith}
use Rattle.std.proofs.lemmas.Bool.{cases_eq}
use Rattle.disk.specs.Areas.{Areas, Image, AreSound, LeavesImage, image_of}
use Rattle.disk.specs.Calls.{DiskState}
use Rattle.history.specs.Machine.{opened}
use Rattle.law_image.specs.Plans.{empty_reading}
use Rattle.law_image.proofs.Empty.{empty-stands_for}
use Rattle.status.specs.declared.header.Header.{Header}
use Rattle.status.specs.Header.{new_header, total, piece_gate}
use Rattle.status.specs.Log.{IsOpen, IsLog}
use Rattle.status.specs.Reading.{ReadsHeader}
use Rattle.status.specs.Rules.{is_built}
use Rattle.law_layout.proofs.Ways.{empty_laid}
use Rattle.recovery.specs.Format.{IsFormatted, LeavesShut}
use Rattle.store.specs.Values.{StoreValue}
use Rattle.store.specs.Opens.{Opens}
use Rattle.law_refinement.specs.OnDisk.{IsImageOf}
use Rattle.law_refinement.specs.Stands.{Stands}
use Rattle.law_opening.specs.Laws.{HasNoPieceBehind}
use Rattle.law_opening.proofs.Opened.{open-stands}

empty-image : (header : Header) (image : Image) → IsLog header image.status [] → IsTrue (is_built header.profile 1) → IsImageOf header image [] (λ relation. 0)
empty-image header image log built = record {
  layout = record { slots = []; anchors = []; members = []; runs = [] };
  reading = empty_reading header.profile header.slots header.pieces;
  laid = empty_laid header;
  held = record { log = log; extents = tt; runs = tt };
  stands = empty-stands_for header.profile header.slots header.pieces log.header_is.front.numbers;
  profile_built = built;
  built = λ n slot at. cc;
}

pub formatted-leaves : (slots : ℕ) (old new : Areas) (image : Image) → IsFormatted slots old new → LeavesImage new image
    → IsImageOf (new_header 3 slots) image [] (λ relation. 0)
formatted-leaves slots old new image is left =
    let just : image.status ≡ new.status.bytes = left.status.settled is.settled.loose in
    empty-image (new_header 3 slots) image (subst (λ (bytes : List ℕ). IsLog (new_header 3 slots) bytes []) (sym just) is.log) refl

pub formatted-stands : (slots : ℕ) (old new : Areas) → IsFormatted slots old new → IsImageOf (new_header 3 slots) (image_of new) [] (λ relation. 0)
formatted-stands slots old new is = empty-image (new_header 3 slots) (image_of new) is.log refl

pub formatted-opens : (tells : Bool) (slots : ℕ) (old new : Areas) (disk : DiskState) (mark : ℕ) (v : StoreValue)
    → IsFormatted slots old new → LeavesImage new (image_of disk.areas) → AreSound disk.areas → Opens tells disk mark v → IsTrue tells
    → Stands tells v (opened [] (λ relation. 0))
formatted-opens tells slots old new disk mark v is left sound opens told =
    open-stands tells disk mark v (new_header 3 slots) [] (λ relation. 0) opens told sound (formatted-leaves slots old new (image_of disk.areas) is left)

-- ---- a stop within a format

-- a header of the first profile has no open piece, and none behind it
shut-log : (header : Header) (bytes : List ℕ) (slots : ℕ) → ReadsHeader bytes header → total header ≤ slots → HasNoPieceBehind header bytes
    → ((n : ℕ) → n < slots → ¬ IsOpen bytes n) → IsLog header bytes []
shut-log header bytes slots reads within behind shut = record {
  header_is = reads.stands;
  opens = record {
    has_room = record { few = let few = reads.stands.front.numbers.total in omega arith; room = reads.stands.room };
    fits = omega arith;
    each_open = λ n slot at. cc;
    each_spelled = λ n slot at. cc;
  };
  closed = λ n low below. shut n (omega (arith, below, within));
  pieces_closed = λ i low high opened. elim (cases_eq header.profile 1) [
    | inl one ↦
        let zero : piece_gate (take 512 bytes) i ≡ 0 = reads.stands.front.zeros (16 + i) (rw one (omega arith)) (omega (arith, high)) in
        let both : ◌≡◌ {A = ℕ} 0xC7 0 = sym opened ∙ zero in
        absurd (omega arith)
    | inr other ↦ behind other i low high opened
  ];
}

pub shut-stands : (slots : ℕ) (new : Areas) (image : Image) (header : Header) → LeavesShut slots new.status → LeavesImage new image
    → ReadsHeader image.status header → total header ≤ slots
    → HasNoPieceBehind header image.status → IsImageOf header image [] (λ relation. 0)
shut-stands slots new image header shut left reads within behind =
    let log = shut-log header image.status slots reads within behind (λ n below. shut.left image.status n left.status below) in
    empty-image header image log reads.built
