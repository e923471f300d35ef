-- The header of the status area: the parts that it keeps, and what is read where these are kept.
use Rattle.std.proofs.Common.{◌≡◌, ◌≢◌, ℕ, ◌+◌, ◌-◌, ◌^◌, ◌<◌, ◌≤◌, Bool, true, false, List, [], ◌∷◌, ◌++◌, length, take, drop, get_or, replicate}
use Rattle.std.proofs.Common.{refl, arith, ap, sym, subst, ◌∙◌, ⊎_elim, inl, inr, Option, None, Some, Result}
use Rattle.std.specs.Prelude.{◌⊎◌, if◌then◌else◌}
use Rattle.std.proofs.lemmas.Bool.{cases_lt}
use Rattle.std.proofs.lemmas.Bool.Decides.{nat_tests}
use Rattle.std.proofs.lemmas.List.{take_at, drop_at, take-append-drop, get_or_past, length-append, length-replicate}
use Rattle.std.proofs.lemmas.List.Elements.{All-get_or}
use Rattle.std.proofs.lemmas.List.Folds.{drop_split}
use Rattle.byteorder.specs.Endian.{little_bytes, little_number}
use Rattle.wire.specs.Numbers.{u32_bytes}
use Rattle.wire.proofs.Zeros as numbers
use Rattle.wire.proofs.Zeros.{AreBytes-drop}
use Rattle.history.specs.Histories.{History}
use Rattle.disk.specs.Areas.{Areas, Image, AreBytes, AreSound, MayLeave, settled_area}
use Rattle.disk.specs.declared.area.DeviceFault.{DeviceFault}
use Rattle.disk.specs.Parts.{HoldsPart}
use Rattle.disk.proofs.Parts.{synced_part}
use Rattle.law_image.specs.Values.{Value}
use Rattle.deltas.proofs.NumbersBack.{then_4}
use Rattle.log_entries.proofs.NumbersRead.{number_4}
use Rattle.status.specs.Header.{header_front}
use Rattle.log_writer.specs.Turns.{open_gate}
use Rattle.log_roots.specs.declared.roots.Roots.{Roots}
use Rattle.log_roots.specs.Roots.{root_of, is_open, roots_bytes, IsHeapSize}
use Rattle.log_roots.specs.Turning as turning
use Rattle.log_store.specs.Values.{ReclaimValue}
use Rattle.log_store.specs.declared.reclaim.ReclaimStage.{ReclaimStage}
use Rattle.log_store.specs.declared.reclaim.ReclaimStage.TheVariants.{Writing, Rolling, Turning}
use Rattle.log_extents.specs.Chains.{IsNumberOf}
use Rattle.log_recovery.specs.Opening.{ReadsRoots}
use Rattle.law_log_layout.specs.HeapLog.{HeapStandsFor}
use Rattle.law_log_layout.specs.Turns.{HoldsAll, AreApartFrom}
use Rattle.law_log_layout.specs.Roots.{turn_place, root_place, IsTurned, KeepsTurned, NamesRoot, IsHeaderApart}
use Rattle.law_log_layout.specs.Laws.{IsRootWay}
use Rattle.law_log_layout.specs.Roots as roots
use Rattle.law_log_layout.proofs.Parts.{all-synced}
use Rattle.law_log_layout.proofs.RootGoes.{goes}
use Rattle.law_log_store.specs.Headers.{header_parts}
use Rattle.law_log_store.specs.Reclaiming.{HasRoots, root_stage, root_stage_at, root_then, turn_stage}
use Rattle.law_log_store.specs.Standing.{IsImageOf}

-- ---- its parts

-- they lie apart from both roots and from the turn gate
pub header-apart : (extents : ℕ) → IsHeaderApart (header_parts extents)
header-apart extents = record { gate = (inl (omega arith), (inr (omega arith), (inr (omega arith), tt))); roots = from-root }
  where
    from-root : (turned : Bool) → AreApartFrom (record { place = root_place turned; bytes = 0 ∷ 0 ∷ 0 ∷ 0 ∷ [] }) (header_parts extents)
    from-root true = (inl (omega arith), (inl (omega arith), (inr (omega arith), tt)))
    from-root false = (inl (omega arith), (inl (omega arith), (inr (omega arith), tt)))

-- a part stands behind as many bytes as its place says
in-row : (before part rest : List ℕ) (place : ℕ) → length before ≡ place → HoldsPart place part (before ++ (part ++ rest))
in-row before part rest place at = record {
  inside = omega (arith, length-append before (part ++ rest), length-append part rest, at);
  is =
      ap (λ (xs : List ℕ). take (place + length part - place) xs) (drop_at before (part ++ rest) place at)
      ∙ take_at part rest (place + length part - place) (omega arith);
}

-- a part that is there, and what stands behind it
then-part : (place : ℕ) (part content : List ℕ) → HoldsPart place part content → drop place content ≡ part ++ drop (place + length part) content
then-part place part content held =
    drop_split content place (place + length part) (omega arith) ∙ ap (λ (xs : List ℕ). xs ++ drop (place + length part) content) held.is

-- ---- what a header that is read has

gate-opened : (gate : ℕ) → is_open gate ≡ true → gate ≡ open_gate
gate-opened gate is = grind (arith, nat_tests, is)

gate-shut : (gate : ℕ) → is_open gate ≡ false → gate ≢ open_gate
gate-shut gate is = λ same. absurd (let no : false ≡ true = sym is ∙ grind (arith, nat_tests, same) in cc)

shut-gate : (gate : ℕ) → gate ≢ open_gate → false ≡ is_open gate
shut-gate gate other = grind (arith, nat_tests, other)

module _ (content rest : List ℕ) (extents gate root_0 root_1 : ℕ)
    (is : content ≡ header_front 4 extents ++ gate ∷ 0 ∷ 0 ∷ 0 ∷ (little_bytes 4 root_0 ++ (little_bytes 4 root_1 ++ (replicate 484 0 ++ rest)))) where
  row-held : (before part behind : List ℕ) (place : ℕ) → length before ≡ place → content ≡ before ++ (part ++ behind) → HoldsPart place part content
  row-held before part behind place at same = subst (HoldsPart place part) (sym same) (in-row before part behind place at)

  abbrev roots-on : List ℕ
  roots-on = little_bytes 4 root_0 ++ (little_bytes 4 root_1 ++ (replicate 484 0 ++ rest))

  row-parts : HoldsAll (header_parts extents) content
  row-parts =
      let front = row-held [] (header_front 4 extents) (gate ∷ 0 ∷ 0 ∷ 0 ∷ roots-on) 0 refl is in
      let middle = row-held (header_front 4 extents ++ gate ∷ []) (0 ∷ 0 ∷ 0 ∷ []) roots-on 17 refl is in
      let end =
      row-held (header_front 4 extents ++ gate ∷ 0 ∷ 0 ∷ 0 ∷ (little_bytes 4 root_0 ++ little_bytes 4 root_1)) (replicate 484 0) rest 28 refl is in
      (front, (middle, (end, tt)))

  row-gate : HoldsPart turn_place (gate ∷ []) content
  row-gate = row-held (header_front 4 extents) (gate ∷ []) (0 ∷ 0 ∷ 0 ∷ roots-on) 16 refl is

  row-first : HoldsPart 20 (little_bytes 4 root_0) content
  row-first = row-held (header_front 4 extents ++ gate ∷ 0 ∷ 0 ∷ 0 ∷ []) (little_bytes 4 root_0) (little_bytes 4 root_1 ++ (replicate 484 0 ++ rest)) 20 refl is

  row-second : HoldsPart 24 (little_bytes 4 root_1) content
  row-second =
      row-held (header_front 4 extents ++ gate ∷ 0 ∷ 0 ∷ 0 ∷ little_bytes 4 root_0) (little_bytes 4 root_1) (replicate 484 0 ++ rest) 24 refl is

  row-names : (turned : Bool) → is_open gate ≡ turned → NamesRoot (header_parts extents) turned (little_bytes 4 (if turned then root_1 else root_0)) content
  row-names true turn = record {
    rest = row-parts;
    is = row-second;
    counts = subst (λ (b : ℕ). HoldsPart turn_place (b ∷ []) content) (gate-opened gate turn) row-gate;
  }
  row-names false turn = record { rest = row-parts; is = row-first; counts = record { gate = gate; closed = gate-shut gate turn; held = row-gate } }

-- it names the root that counts
pub header-names : (content : List ℕ) (r : Roots) → ReadsRoots content r
    → NamesRoot (header_parts r.extents) r.turned (little_bytes 4 (root_of r)) content
unfolding roots_bytes u32_bytes
header-names content r reads =
    row-names content (drop 512 content) r.extents reads.has.gate r.root_0 r.root_1
    (sym (take-append-drop 512 content) ∙ ap (λ (bytes : List ℕ). bytes ++ drop 512 content) reads.has.bytes_are)
    r.turned (sym reads.has.turned)

-- ---- what names a root is a header

-- Bytes read as a header of so many extents, where this root counts.
pub record ReadsAs (extents : ℕ) (turned : Bool) (root : ℕ) (content : List ℕ) : Type 0 where
  pub read : Roots
  pub reads : ReadsRoots content read
  pub size : read.extents ≡ extents
  pub root_is : root_of read ≡ root
  pub turned_is : read.turned ≡ turned

header-long : (gate : ℕ) (r : Roots) → length (roots_bytes gate r) ≡ 512
unfolding roots_bytes u32_bytes
header-long gate r = omega (arith, length-replicate {A = ℕ} 484 0)

are-small : (content : List ℕ) → AreBytes content → numbers.AreBytes content
are-small content bytes i = by-place (cases_lt i (length content))
  where
    by-place : (i < length content) ⊎ (length content ≤ i) → get_or content i 0 < 256
    by-place (inl inside) = All-get_or (λ (b : ℕ). b < 256) content i 0 inside bytes
    by-place (inr past) = rw (get_or_past content i 0 past) (omega arith)

module _ (content : List ℕ) (extents root : ℕ) (bytes : AreBytes content) (size : IsHeapSize extents) (low : 0 < root) (high : root ≤ extents) where
  small : numbers.AreBytes content
  small = are-small content bytes

  abbrev number_at : ℕ → ℕ
  number_at place = little_number 4 (drop place content)

  number-fits : (place : ℕ) → number_at place < 2 ^ 32
  number-fits place =
      let behind = AreBytes-drop place content small in omega (arith, behind 0, behind 1, behind 2, behind 3)

  root-fits : root < 2 ^ 32
  root-fits = omega (arith, size.most, high)

  number-is : (place : ℕ) → HoldsPart place (little_bytes 4 root) content → number_at place ≡ root
  number-is place held =
      ap (λ (xs : List ℕ). little_number 4 xs) (then-part place (little_bytes 4 root) content held)
      ∙ number_4 root (drop (place + length (little_bytes 4 root)) content) root-fits

  gate-fits : (gate : ℕ) → HoldsPart turn_place (gate ∷ []) content → gate < 256
  gate-fits gate held =
      subst (λ (xs : List ℕ). get_or xs 0 0 < 256) (then-part turn_place (gate ∷ []) content held) (AreBytes-drop turn_place content small 0)

  -- the roots that are read, whichever counts
  abbrev roots-at : Bool → Roots
  roots-at turned = record { extents = extents; turned = turned; root_0 = number_at 20; root_1 = number_at 24 }

  module _ (parts : HoldsAll (header_parts extents) content) (gate : ℕ) (held : HoldsPart turn_place (gate ∷ []) content) where
    long : 512 ≤ length content
    long = let zeros = parts.1.1.0 in let inside = zeros.inside in omega (arith, inside, length-replicate {A = ℕ} 484 0)

    zeros-end : drop (28 + length (replicate {A = ℕ} 484 0)) content ≡ drop 512 content
    zeros-end = ap (λ (n : ℕ). drop (28 + n) content) (length-replicate {A = ℕ} 484 0)

    content-is : (turned : Bool) → content ≡ roots_bytes gate (roots-at turned) ++ drop 512 content
    unfolding roots_bytes u32_bytes
    content-is turned =
        let front = header_front 4 extents in
        then-part 0 front content parts.0
        ∙ ap (λ (xs : List ℕ). front ++ xs) (then-part 16 (gate ∷ []) content held)
        ∙ ap (λ (xs : List ℕ). front ++ gate ∷ xs) (then-part 17 (0 ∷ 0 ∷ 0 ∷ []) content parts.1.0)
        ∙ ap (λ (xs : List ℕ). front ++ gate ∷ 0 ∷ 0 ∷ 0 ∷ xs) (sym (then_4 20 content (drop 24 content) small (omega (arith, long)) refl))
        ∙ ap (λ (xs : List ℕ). front ++ gate ∷ 0 ∷ 0 ∷ 0 ∷ (u32_bytes (number_at 20) ++ xs))
        (sym (then_4 24 content (drop 28 content) small (omega (arith, long)) refl)
        ∙ ap (λ (xs : List ℕ). u32_bytes (number_at 24) ++ xs)
        (then-part 28 (replicate 484 0) content parts.1.1.0 ∙ ap (λ (xs : List ℕ). replicate 484 0 ++ xs) zeros-end))

    reads-at : (turned : Bool) → turned ≡ is_open gate → root_of (roots-at turned) ≡ root → ReadsAs extents turned root content
    reads-at turned opened is = record {
      read = roots-at turned;
      reads = record {
        long = long;
        has = record {
          gate = gate;
          gate_fits = gate-fits gate held;
          turned = opened;
          in_range = record {
            size = size;
            root_low = rw is low;
            root_high = rw is high;
            fits_0 = number-fits 20;
            fits_1 = number-fits 24;
          };
          bytes_are =
              ap (λ (xs : List ℕ). take 512 xs) (content-is turned)
              ∙ take_at (roots_bytes gate (roots-at turned)) (drop 512 content) 512 (header-long gate (roots-at turned));
        };
      };
      size = refl;
      root_is = is;
      turned_is = refl;
    }

  pub names-header : (turned : Bool) → NamesRoot (header_parts extents) turned (little_bytes 4 root) content → ReadsAs extents turned root content
  names-header true names = reads-at names.rest open_gate names.counts true refl (number-is 24 names.is)
  names-header false names =
      let shut = names.counts in reads-at names.rest shut.gate shut.held false (shut-gate shut.gate shut.closed) (number-is 20 names.is)

-- ---- what is kept

-- a header that is on the disk is kept
pub roots-settled : (r : Roots) (status : List ℕ) → ReadsRoots status r → HasRoots r None (settled_area status)
roots-settled r status reads =
    let names = header-names status r reads in record {
      in_range = reads.has.in_range;
      at = record {
        rest = all-synced (header_parts r.extents) (settled_area status) names.rest;
        is = synced_part (root_place r.turned) (little_bytes 4 (root_of r)) (settled_area status) names.is;
        counts = by-turn r.turned names.counts;
      };
    }
  where
    by-turn : (turned : Bool) → IsTurned turned status → KeepsTurned turned (settled_area status)
    by-turn true held = synced_part turn_place (open_gate ∷ []) (settled_area status) held
    by-turn false shut =
        record { gate = shut.gate; closed = shut.closed; kept = synced_part turn_place (shut.gate ∷ []) (settled_area status) shut.held }

-- an image is of a heap that may be
pub image-size : (r : Roots) (image : Image) (h : History Value) (floors : ℕ → ℕ) → IsImageOf r image h floors → IsHeapSize r.extents
image-size r image h floors is = subst IsHeapSize is.size is.status.has.in_range.size

-- ---- what is left of it

-- the status area of an image says that this root counts, of a heap of as many extents
pub record IsFrom (r : Roots) (image : Image) (root : ℕ) : Type 0 where
  pub read : Roots
  pub status : ReadsRoots image.status read
  pub size : read.extents ≡ r.extents
  pub root_is : root_of read ≡ root

-- so it stands for what heap and archive do from that root on
pub image-of : (r : Roots) (image : Image) (root : ℕ) (h : History Value) (floors : ℕ → ℕ) → IsFrom r image root
    → HeapStandsFor r.extents root image.heap image.archive h floors → IsImageOf r image h floors
image-of r image root h floors from heap = record {
  read = from.read;
  status = from.status;
  size = from.size;
  heap = subst (λ (n : ℕ). HeapStandsFor r.extents n image.heap image.archive h floors) (sym from.root_is) heap;
}

pub from-names : (r : Roots) (image : Image) (turned : Bool) (root : ℕ) → AreBytes image.status → IsHeapSize r.extents → IsNumberOf r.extents root
    → NamesRoot (header_parts r.extents) turned (little_bytes 4 root) image.status → IsFrom r image root
from-names r image turned root bytes size number names =
    let found = names-header image.status r.extents root bytes size number.0 number.1 turned names in
    record { read = found.read; status = found.reads; size = found.size; root_is = found.root_is }

-- the status area is on its way to another root
abbrev pub TurnsAt : ReclaimStage → Type 0
TurnsAt (Writing anchors base) = ⊥
TurnsAt (Rolling roll) = ⊥
TurnsAt (Turning t) = Unit {0}

abbrev pub Turns : Option ReclaimValue → Type 0
Turns None = ⊥
Turns (Some r) = TurnsAt r.stage

-- the other root may count only where it is
before-turn : (A B C : Type 0) (k : ReclaimStage) → (A → C) → (TurnsAt k → B → C) → roots.MayBe (root_stage_at k) A B → C
before-turn A B C (Writing anchors base) f g is = f is
before-turn A B C (Rolling roll) f g is = f is
before-turn A B C (Turning t) f g is = by-stage t.stage is
  where
    by-stage : (k : turning.Stage) → roots.MayBe (turn_stage k) A B → C
    by-stage turning.Writing is = f is
    by-stage turning.Syncing is = f is
    by-stage turning.Turning is = f is
    by-stage turning.Settling is = ⊎_elim f (g tt) is
    by-stage turning.Done is = g tt is

pub within-turn : (A B C : Type 0) (stage : turning.Stage) → (A → C) → (B → C) → roots.MayBecome (turn_stage stage) A B → C
within-turn A B C turning.Writing f g is = f is
within-turn A B C turning.Syncing f g is = f is
within-turn A B C turning.Turning f g is = ⊎_elim f g is
within-turn A B C turning.Settling f g is = ⊎_elim f g is
within-turn A B C turning.Done f g is = g is

module _ (r : Roots) (areas : Areas) (sound : AreSound areas) where
  pub root-way : (reclaim : Option ReclaimValue) → HasRoots r reclaim areas.status
      → IsRootWay (header_parts r.extents) r.turned (little_bytes 4 (root_of r)) (little_bytes 4 (root_then reclaim)) (root_stage reclaim) areas
  root-way reclaim has =
      goes (header_parts r.extents) r.turned (little_bytes 4 (root_of r)) (little_bytes 4 (root_then reclaim)) (header-apart r.extents) refl refl areas sound
      (root_stage reclaim) has.at

  -- an image whose status area is left of it says that the root counts, or on the way to another one that that does
  pub root-left : (reclaim : Option ReclaimValue) (image : Image) (Goal : Type 0) → HasRoots r reclaim areas.status → MayLeave areas.status image.status
      → (IsFrom r image (root_of r) → Goal) → (Turns reclaim → IsNumberOf r.extents (root_then reclaim) × (IsFrom r image (root_then reclaim) → Goal)) → Goal
  root-left reclaim image Goal has left from turned =
      let way = root-way reclaim has in
      by-reclaim reclaim
      (λ names. from
      (from-names r image r.turned (root_of r) left.are_bytes has.in_range.size (has.in_range.root_low, has.in_range.root_high) names))
      (λ turns names. let both = turned turns in
      both.1 (from-names r image (roots.other r.turned) (root_then reclaim) left.are_bytes has.in_range.size both.0 names))
      (way.before image.status left)
    where
      by-reclaim : {A B : Type 0} (it : Option ReclaimValue) → (A → Goal) → (Turns it → B → Goal) → roots.MayBe (root_stage it) A B → Goal
      by-reclaim None f g is = f is
      by-reclaim (Some x) f g is = before-turn _ _ Goal x.stage f g is

-- a call of the turn is one of the way from root to root
pub turn-call : (turned : Bool) (root : List ℕ) (stage : turning.Stage) (result : Result (Unit {0}) DeviceFault) (old new : Areas)
    → turning.IsCallOf turned root stage result old new → roots.IsCallOf turned root (turn_stage stage) result old new
turn-call turned root turning.Writing result old new call = call
turn-call turned root turning.Syncing result old new call = call
turn-call turned root turning.Turning result old new call = call
turn-call turned root turning.Settling result old new call = call
turn-call turned root turning.Done result old new call = absurd call
