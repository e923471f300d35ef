-- Records of commits, and the writes that they stand for.
use Rattle.std.proofs.Common.{◌≡◌, List, [], ◌∷◌, map, Option, refl, sym, ap, subst, ◌∙◌}
use Rattle.std.specs.List.Sorted.{IsStrictlySortedBy}
use Rattle.history.specs.Key.{key_cmp}
use Rattle.std.specs.Prelude.{IsSome}
use Rattle.history.specs.declared.key.Key.{Key}
use Rattle.history.specs.declared.key.KeyWrite.{KeyWrite}
use Rattle.law_image.specs.Values.{Value}
use Rattle.law_image.specs.Reading as readings
use Rattle.law_image.specs.Facts.{IsStored, stored, written, write_of}
use Rattle.deltas.specs.declared.«record».Content.{Content}
use Rattle.deltas.specs.declared.«record».Content.TheVariants.{Anchor, Delta, Gone, Old}
use Rattle.deltas.specs.declared.«record».Record.{Record}
use Rattle.deltas.specs.declared.chain.Kinds.TheVariants.{OfCommit}
use Rattle.deltas.specs.Records.{content_of, heap_content, heap_record}
use Rattle.deltas.specs.Chains.{IsPermitted}
use Rattle.deltas.proofs.Writes.{stored_is_written}

pub content_again : (content : Content) → IsPermitted OfCommit content → content_of (heap_content content) ≡ content
content_again (Anchor value) ok = refl
content_again (Delta mask changed) ok = refl
content_again Gone ok = refl
content_again (Old from value) ok = absurd ok

gone_again : (content : Content) → IsPermitted OfCommit content → heap_content content ≡ readings.Gone → content ≡ Gone
gone_again (Anchor value) ok same = cc
gone_again (Delta mask changed) ok same = cc
gone_again Gone ok same = refl
gone_again (Old from value) ok same = absurd ok

-- what was applied is stored as its write
pub applied_is : (before : Key → Option Value) (r : Record) (write : Option Value) → IsPermitted OfCommit r.content → r.content
    ≡ content_of (stored (before r.key) write) → (r.content ≡ Gone → IsSome (before r.key))
    → IsStored before (heap_record r) × (◌≡◌ {A = KeyWrite Value} (record { key = r.key; write = write }) (write_of before (heap_record r)))
applied_is before r write ok is gone =
    let both = stored_is_written (before r.key) write (heap_content r.content) (content_again r.content ok ∙ is) in
    (record { one_spelling = both.0; gone = λ same. gone (gone_again r.content ok same) }, λ i. record { key = r.key; write = sym both.1 i })

-- and what is stored so can be applied
pub stored_applies : (before : Key → Option Value) (r : Record) → IsPermitted OfCommit r.content → IsStored before (heap_record r)
    → (r.content ≡ content_of (stored (before r.key) (written (before r.key) (heap_content r.content)))) × (r.content ≡ Gone → IsSome (before r.key))
stored_applies before r ok is = (sym (content_again r.content ok) ∙ ap content_of is.one_spelling, λ gone. is.gone (ap heap_content gone))

keys_are : (before : Key → Option Value) (rs : List Record) → map (λ (w : KeyWrite Value). w.key) (map (write_of before) (map heap_record rs))
    ≡ map (λ (r : Record). r.key) rs
keys_are before [] = refl
keys_are before (r ∷ rs) = ap (λ l. r.key ∷ l) (keys_are before rs)

-- the keys of the writes rise as those of the records do
pub rising_writes : (before : Key → Option Value) (items rs : List Record) (ws : List (KeyWrite Value)) → rs ≡ items → ws
    ≡ map (write_of before) (map heap_record rs) → IsStrictlySortedBy key_cmp (map (λ (r : Record). r.key) items)
    → IsStrictlySortedBy key_cmp (map (λ (w : KeyWrite Value). w.key) ws)
rising_writes before items rs ws same are rising =
    subst (IsStrictlySortedBy key_cmp) (sym (ap (λ (l : List (KeyWrite Value)). map (λ (w : KeyWrite Value). w.key) l) are
    ∙ keys_are before rs)) (subst (λ (l : List Record). IsStrictlySortedBy key_cmp (map (λ (r : Record). r.key) l)) (sym same) rising)
