-- Runs of a log, one behind the other.
use Rattle.std.proofs.Common.{◌≡◌, ℕ, List, [], ◌∷◌, ◌++◌, length, subst, sym, refl, arith}
use Rattle.std.proofs.lemmas.List.{append_assoc, append-nil}
use Rattle.wire.specs.declared.slot.Run.{Run}
use Rattle.floors.specs.Floors.{no_floors}
use Rattle.archive.specs.declared.run.RunEntry.{RunEntry}
use Rattle.log_store.specs.Opens.{AreEntriesFrom}

-- one more of them
pub one_more : (mark : ℕ) (runs rest after : List Run) (run : Run) (entries news : List RunEntry) (entry : RunEntry)
    → ((others : List RunEntry) → AreEntriesFrom mark rest others → AreEntriesFrom 0 runs (entries ++ others)) → rest ≡ run ∷ after
    → news ≡ entries ++ entry ∷ [] → entry.slot ≡ run → entry.mark ≡ mark → entry.floors ≡ no_floors → (others : List RunEntry)
    → AreEntriesFrom run.upto after others → AreEntriesFrom 0 runs (news ++ others)
one_more mark runs rest after run entries news entry go_on front is slot marked unfloored others are =
    subst (λ (es : List RunEntry). AreEntriesFrom 0 runs (es ++ others)) (sym is)
    (subst (AreEntriesFrom 0 runs) (sym (append_assoc entries (entry ∷ []) others))
    (go_on (entry ∷ others) (subst (λ (rs : List Run). AreEntriesFrom mark rs (entry ∷ others)) (sym front) (slot, marked, unfloored, are))))

none_left : (runs : List Run) → length runs ≡ 0 → runs ≡ []
none_left [] none = refl
none_left (run ∷ runs) none = absurd (omega (arith, none))

-- and no more
pub no_more : (mark : ℕ) (runs rest : List Run) (entries : List RunEntry)
    → ((others : List RunEntry) → AreEntriesFrom mark rest others → AreEntriesFrom 0 runs (entries ++ others)) → length rest ≡ 0 → AreEntriesFrom 0 runs entries
no_more mark runs rest entries go_on none =
    subst (AreEntriesFrom 0 runs) (append-nil entries) (go_on [] (subst (λ (rs : List Run). AreEntriesFrom mark rs []) (sym (none_left rest none)) tt))
