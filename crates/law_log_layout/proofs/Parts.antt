-- Parts of the heap while something else is written.
use Rattle.std.proofs.Common.{◌≡◌, ℕ, ◌+◌, ◌≤◌, ◌==◌, Bool, true, false, List, [], ◌∷◌, ◌++◌, length, refl, sym, ap, subst, ◌∙◌, arith, append_assoc}
use Rattle.std.proofs.Common.{◌⊎◌, inl, inr}
use Rattle.std.specs.Prelude.{slice_index}
use Rattle.std.proofs.lemmas.Bool.Decides.{nat_tests}
use Rattle.std.proofs.lemmas.List.{append-nil}
use Rattle.std.specs.List.{AllByRecursion}
use Rattle.disk.specs.Areas.{AreaState, MayLeave, IsSound, overlaid, synced}
use Rattle.disk.specs.Parts.{HoldsPart, IsLoosened}
use Rattle.disk.proofs.Parts.{held_again, synced_part, kept_by_sync, written_part, part_beside, kept_by_write}
use Rattle.law_layout.proofs.SlotTurns.{read_first}
use Rattle.law_log_layout.specs.Turns.{HoldsAll, KeepsAll, gate_part, IsClosed, KeepsClosed, ArePartsApart, AreApartFrom, AreInTurn}
use Rattle.log_writer.specs.Turns.{open_gate, Part}

-- a write, in full or in part, keeps all that lies apart from it
pub all-kept : (q : Part) (parts : List Part) (old new : AreaState) → IsSound old → AreApartFrom q parts → IsLoosened q.place (length q.bytes) old new
    → KeepsAll parts old → KeepsAll parts new
all-kept q [] old new sound apart loose keeps = tt
all-kept q (p ∷ parts) old new sound apart loose keeps =
    (kept_by_write q.place (length q.bytes) p.place p.bytes old new sound keeps.0 apart.0 loose, all-kept q parts old new sound apart.1 loose keeps.1)

pub closed-kept : (q : Part) (place : ℕ) (old new : AreaState) → IsSound old → ArePartsApart (gate_part place 0) q → IsLoosened q.place (length q.bytes) old new
    → KeepsClosed place old → KeepsClosed place new
closed-kept q place old new sound apart loose keeps = record {
  gate = keeps.gate;
  closed = keeps.closed;
  kept = kept_by_write q.place (length q.bytes) place (keeps.gate ∷ []) old new sound keeps.kept apart loose;
}

-- what is kept is held by whatever is left
pub all-left : (parts : List Part) (a : AreaState) (content : List ℕ) → KeepsAll parts a → MayLeave a content → HoldsAll parts content
all-left [] a content keeps left = tt
all-left (p ∷ parts) a content keeps left = (let k = keeps.0 in k.left content left, all-left parts a content keeps.1 left)

pub closed-left : (place : ℕ) (a : AreaState) (content : List ℕ) → KeepsClosed place a → MayLeave a content → IsClosed place content
closed-left place a content keeps left = record { gate = keeps.gate; closed = keeps.closed; held = (let k = keeps.kept in k.left content left) }

-- a sync keeps what was kept, and all that is read
pub all-still : (parts : List Part) (a : AreaState) → IsSound a → KeepsAll parts a → KeepsAll parts (synced a)
all-still [] a sound keeps = tt
all-still (p ∷ parts) a sound keeps = (kept_by_sync p.place p.bytes a sound keeps.0, all-still parts a sound keeps.1)

pub closed-still : (place : ℕ) (a : AreaState) → IsSound a → KeepsClosed place a → KeepsClosed place (synced a)
closed-still place a sound keeps = record { gate = keeps.gate; closed = keeps.closed; kept = kept_by_sync place (keeps.gate ∷ []) a sound keeps.kept }

pub all-synced : (parts : List Part) (a : AreaState) → HoldsAll parts a.bytes → KeepsAll parts (synced a)
all-synced [] a held = tt
all-synced (p ∷ parts) a held = (synced_part p.place p.bytes a held.0, all-synced parts a held.1)

-- what is read elsewhere is read after a write
pub all-beside : (q : Part) (parts : List Part) (file : List ℕ) → AreApartFrom q parts → HoldsAll parts file → HoldsAll parts (overlaid file q.place q.bytes)
all-beside q [] file apart held = tt
all-beside q (p ∷ parts) file apart held = (part_beside q.place p.place q.bytes p.bytes file apart.0 held.0, all-beside q parts file apart.1 held.1)

-- of parts that are written in turn, those before one lie apart from it
pub before-apart : (before done : List Part) (p : Part) (rest : List Part) → AreInTurn before (done ++ p ∷ rest) → AreApartFrom p (before ++ done)
before-apart before [] p rest turn = subst (AreApartFrom p) (sym (append-nil before)) turn.0
before-apart before (q ∷ done) p rest turn = subst (AreApartFrom p) (append_assoc before (q ∷ []) done) (before-apart (before ++ q ∷ []) done p rest turn.1)

-- one of them has what all have
pub one-of : (P : Part → Type 0) (done : List Part) (p : Part) (rest : List Part) → AllByRecursion P (done ++ p ∷ rest) → P p
one-of P [] p rest all = all.0
one-of P (q ∷ done) p rest all = one-of P done p rest all.1

-- the byte that is there
pub byte-held : (place : ℕ) (content : List ℕ) (gate : ℕ) → place + 1 ≤ length content → slice_index content place ≡ gate → HoldsPart place (gate ∷ []) content
byte-held place content gate inside is =
    held_again place (gate ∷ []) (overlaid content place (gate ∷ [])) content inside
    (λ k low high. let same : k ≡ place =
    omega (arith, low, high) in ap (slice_index content) same ∙ is
    ∙ sym (ap (slice_index (overlaid content place (gate ∷ []))) same ∙ read_first content place gate))
    (written_part place (gate ∷ []) content)

-- a gate is open or closed
pub gate-either : (place : ℕ) (content : List ℕ) → place + 1 ≤ length content → IsClosed place content ⊎ HoldsPart place (open_gate ∷ []) content
gate-either place content inside =
    let gate = slice_index content place in
    let Goal : Bool → Type 0 = λ b. (gate == open_gate) ≡ b → IsClosed place content ⊎ HoldsPart place (open_gate ∷ []) content in
    let all : (b : Bool) → Goal b =
    λ b. elim b as Goal [
      | true ↦ λ e. inr (byte-held place content open_gate inside (grind (arith, nat_tests, e)))
      | false ↦ λ e. inl (record {
        gate = gate;
        closed = λ same. absurd (let no : false ≡ true = sym e ∙ grind (arith, nat_tests, same) in cc);
        held = byte-held place content gate inside refl;
      })
    ] in
    all (gate == open_gate) refl
