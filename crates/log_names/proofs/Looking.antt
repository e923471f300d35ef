-- Looks at one state, one after another.
use Rattle.std.proofs.Common.{◌≡◌, ℕ, zero, suc, ◌+◌, ◌-◌, ◌≤◌, IsTrue, Bool, List, [], ◌∷◌, length, take, drop, get_or, refl, ap, subst, sym, arith}
use Rattle.disk.specs.Calls.{DiskState}
use Rattle.archive.specs.declared.fault.ArchiveFault.{ArchiveFault}
use Rattle.archive.specs.declared.fault.ArchiveFault.TheVariants.{Device, NoMemory, Damaged}
use Rattle.archive.specs.Parts.{IsRight, Keeps}
use Rattle.archive.specs.Searches.{archive_of}
use Rattle.archive.specs.Damages.{IfDamaged}
use Rattle.log_entries.specs.declared.entry.Roll.{Roll}
use Rattle.log_names.specs.Looks.{IsFaultAt}
use Rattle.log_names.specs.Standing.{roll_end}
use Rattle.log_names.specs.Rolls.{RollsEndBy}

keeps_again : {end : ℕ} {tells : Bool} {area : List ℕ} {a b c : List (ℕ × List ℕ)} → Keeps end tells area a b → Keeps end tells area b c
    → Keeps end tells area a c
keeps_again first second = record {
  right = λ told right. second.right told (first.right told right);
  ends = λ limit within ends. second.ends limit within (first.ends limit within ends);
}

-- what is kept after two looks
pub keeps_on : {end : ℕ} {tells : Bool} {state after : DiskState} {a b c : List (ℕ × List ℕ)} → after ≡ state
    → Keeps end tells (archive_of state) a b → Keeps end tells (archive_of after) b c → Keeps end tells (archive_of state) a c
keeps_on {end} {tells} {state} {after} {a} {b} {c} same first second =
    keeps_again first (subst (λ (s : DiskState). Keeps end tells (archive_of s) b c) same second)

-- what is kept after no look
pub keeps_all : {end : ℕ} {tells : Bool} {area : List ℕ} {a : List (ℕ × List ℕ)} → Keeps end tells area a a
keeps_all = record { right = λ told right. right; ends = λ limit within ends. ends }

-- by a later place
pub keeps_later : {end later : ℕ} {tells : Bool} {area : List ℕ} {a b : List (ℕ × List ℕ)} → end ≤ later → Keeps end tells area a b → Keeps later tells area a b
keeps_later order keeps = record {
  right = keeps.right;
  ends = λ limit within ends. keeps.ends limit (omega arith) ends;
}

-- what is kept is right still
pub right_again : {tells : Bool} {kept later : List (ℕ × List ℕ)} {state after : DiskState} {end : ℕ}
    → IsTrue tells → IsRight kept (archive_of state) → after ≡ state → Keeps end tells (archive_of state) kept later → IsRight later (archive_of after)
right_again {tells} {kept} {later} {state} {after} {end} told right same keeps =
    subst (λ (s : DiskState). IsRight later (archive_of s)) (sym same) (keeps.right told right)

-- what is said of the start of what is damaged
pub map_damaged : {P Q : ℕ → Type 0} (fault : ArchiveFault) → ((start : ℕ) → P start → Q start) → IfDamaged P fault → IfDamaged Q fault
map_damaged Device goes is = tt
map_damaged NoMemory goes is = tt
map_damaged (Damaged start) goes is = goes start is

-- there is a place by which all of these rolls end
pub ends_by : (rolls : List Roll) → (limit : ℕ) × RollsEndBy limit rolls
ends_by [] = (0, tt)
ends_by (roll ∷ rolls) =
    let rest = ends_by rolls in
    (roll_end roll + rest.0, (omega arith, later rolls rest.0 (roll_end roll + rest.0) (omega arith) rest.1))
  where
    later : (rs : List Roll) (low high : ℕ) → low ≤ high → RollsEndBy low rs → RollsEndBy high rs
    later [] low high le all = tt
    later (r ∷ rs) low high le all = (omega (arith, le, all.0), later rs low high le all.1)

-- what is kept is right still, after looks at these rolls
pub right_among : {tells : Bool} {kept new : List (ℕ × List ℕ)} {state after : DiskState} (rolls : List Roll)
    → IsTrue tells → IsRight kept (archive_of state) → after ≡ state
    → ((limit : ℕ) → RollsEndBy limit rolls → Keeps limit tells (archive_of state) kept new) → IsRight new (archive_of after)
right_among {tells} {kept} {new} {state} {after} rolls told right same keeps =
    let ends = ends_by rolls in right_again told right same (keeps ends.0 ends.1)

-- the same of what begins at one place
pub map_fault : {P Q : ℕ → Type 0} (start : ℕ) (fault : ArchiveFault) → ((damaged : ℕ) → damaged ≡ start → P damaged → Q damaged) → IsFaultAt start fault
    → IfDamaged P fault → IfDamaged Q fault
map_fault start Device goes at is = tt
map_fault start NoMemory goes at is = tt
map_fault start (Damaged damaged) goes at is = goes damaged at is

take-all : (n : ℕ) (rolls : List Roll) → length rolls ≤ n → take n rolls ≡ rolls
take-all zero [] few = refl
take-all zero (roll ∷ rolls) few = absurd (omega (arith, few))
take-all (suc n) [] few = refl
take-all (suc n) (roll ∷ rolls) few = ap (λ (l : List Roll). roll ∷ l) (take-all n rolls (omega (arith, few)))

-- the first of some rolls and the others
pub split_rolls : (rolls : List Roll) (d : Roll) → 1 ≤ length rolls → rolls ≡ get_or rolls 0 d ∷ take (length rolls - 1) (drop 1 rolls)
split_rolls [] d some = absurd (omega (arith, some))
split_rolls (roll ∷ rolls) d some =
    let rest : take (length (roll ∷ rolls) - 1) rolls ≡ rolls = take-all (length (roll ∷ rolls) - 1) rolls (omega arith) in λ i. roll ∷ sym rest i
