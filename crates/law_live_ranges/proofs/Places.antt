-- What a device call leaves of a place beside it.
use Rattle.std.proofs.Common.{◌≡◌, ℕ, ◌+◌, ◌*◌, ◌<◌, ◌≤◌, Bool, true, false, nat_lt, List, [], ◌∷◌, length, replicate, Result, Ok, Err, MatchBool, refl, sym}
use Rattle.std.proofs.Common.{ap, subst, ◌∙◌, inl, inr, arith}
use Rattle.std.specs.Prelude.{◌⊎◌}
use Rattle.disk.specs.Areas.{AreaState, Areas, AreSound, IsSound, IsApart, IsUntouched, area_of, synced, loosened}
use Rattle.disk.specs.Calls.{IsTorn, MadeInPart, Writes, Syncs}
use Rattle.disk.specs.declared.area.Area.{Area}
use Rattle.disk.specs.declared.area.Area.TheVariants.{Status, Heap, Archive}
use Rattle.disk.specs.declared.area.DeviceFault.{DeviceFault}
use Rattle.status.specs.Growth.{IsGrowthCall, WritesZeros}
use Rattle.status.specs.Log.{slot_start}
use Rattle.status.specs.declared.growth.GrowthStage.{GrowthStage}
use Rattle.status.specs.declared.growth.GrowthStage.TheVariants as growth
use Rattle.status.specs.SlotCalls.{SlotStage, Begun, BodyWritten, BodySynced, GateWritten, Opened, IsSlotCall}
use Rattle.law_live_ranges.specs.Named.{IsLeft}

pub same_left : (k : ℕ) (a b : AreaState) → b ≡ a → IsLeft k a b
same_left k a b same = subst (λ (x : AreaState). IsLeft k a x) (sym same) (record { firm = λ h. h; inside = λ h. h; read = λ h. refl; untouched = λ u. u })

pub left_twice : (k : ℕ) (a b c : AreaState) → IsLeft k a b → IsLeft k b c → IsLeft k a c
left_twice k a b c one next = record {
  firm = λ h. next.firm (one.firm h);
  inside = λ h. next.inside (one.inside h);
  read = λ h. next.read (one.inside h) ∙ one.read h;
  untouched = λ u. next.untouched (one.untouched u);
}

torn_left : (k at n : ℕ) (a b : AreaState) → IsTorn at n a.bytes b.bytes → b ≡ loosened at n b.bytes a → IsApart k (k + 1) (at, n) → IsLeft k a b
torn_left k at n a b torn is apart = record {
  firm = λ h. let same : b.firm ≡ a.firm = ap (λ (x : AreaState). x.firm) is in omega arith;
  inside = λ h. let long = torn.no_shorter in omega arith;
  read = λ h. torn.elsewhere k h apart;
  untouched = λ u. subst (λ (loose : List (ℕ × ℕ)). IsUntouched k (k + 1) loose) (sym (ap (λ (x : AreaState). x.loose) is)) (apart, u);
}

left_in_part : (area : Area) (at n : ℕ) (old new : Areas) → MadeInPart area at n old new → (a : Area) (k : ℕ) → (a ≡ area → IsApart k (k + 1) (at, n))
    → IsLeft k (area_of old a) (area_of new a)
left_in_part area at n old new (inl same) a k apart = same_left k (area_of old a) (area_of new a) (ap (λ (x : Areas). area_of x a) same)
left_in_part Status at n old new (inr tears) Status k apart =
    torn_left k at n old.status new.status tears.torn (ap (λ (x : Areas). x.status) tears.areas) (apart refl)
left_in_part Status at n old new (inr tears) Heap k apart = same_left k old.heap new.heap (ap (λ (x : Areas). x.heap) tears.areas)
left_in_part Status at n old new (inr tears) Archive k apart = same_left k old.archive new.archive (ap (λ (x : Areas). x.archive) tears.areas)
left_in_part Heap at n old new (inr tears) Status k apart = same_left k old.status new.status (ap (λ (x : Areas). x.status) tears.areas)
left_in_part Heap at n old new (inr tears) Heap k apart = torn_left k at n old.heap new.heap tears.torn (ap (λ (x : Areas). x.heap) tears.areas) (apart refl)
left_in_part Heap at n old new (inr tears) Archive k apart = same_left k old.archive new.archive (ap (λ (x : Areas). x.archive) tears.areas)
left_in_part Archive at n old new (inr tears) Status k apart = same_left k old.status new.status (ap (λ (x : Areas). x.status) tears.areas)
left_in_part Archive at n old new (inr tears) Heap k apart = same_left k old.heap new.heap (ap (λ (x : Areas). x.heap) tears.areas)
left_in_part Archive at n old new (inr tears) Archive k apart =
    torn_left k at n old.archive new.archive tears.torn (ap (λ (x : Areas). x.archive) tears.areas) (apart refl)

-- a write, made or refused
pub left_by_write : (area : Area) (at : ℕ) (bytes : List ℕ) (result : Result (Unit {0}) DeviceFault) (old new : Areas) → Writes area at bytes result old new
    → (a : Area) (k : ℕ) → (a ≡ area → IsApart k (k + 1) (at, length bytes)) → IsLeft k (area_of old a) (area_of new a)
left_by_write area at bytes result old new writes a k apart = left_in_part area at (length bytes) old new writes.in_part a k apart

synced_left : (k : ℕ) (a b : AreaState) → IsSound a → b ≡ synced a → IsLeft k a b
synced_left k a b sound is = subst (λ (x : AreaState). IsLeft k a x) (sym is) (record {
  firm = λ h. let long = sound.firm in omega arith;
  inside = λ h. h;
  read = λ h. refl;
  untouched = λ u. tt;
})

-- a sync, made or refused
pub left_by_sync : (area : Area) (result : Result (Unit {0}) DeviceFault) (old new : Areas) → Syncs area result old new → AreSound old → (a : Area) (k : ℕ)
    → IsLeft k (area_of old a) (area_of new a)
left_by_sync area (Err fault) old new syncs sound a k = same_left k (area_of old a) (area_of new a) (ap (λ (x : Areas). area_of x a) syncs.same)
left_by_sync Status (Ok done) old new syncs sound Status k = synced_left k old.status new.status (sound Status) (ap (λ (x : Areas). x.status) syncs.synced)
left_by_sync Status (Ok done) old new syncs sound Heap k = same_left k old.heap new.heap (ap (λ (x : Areas). x.heap) syncs.synced)
left_by_sync Status (Ok done) old new syncs sound Archive k = same_left k old.archive new.archive (ap (λ (x : Areas). x.archive) syncs.synced)
left_by_sync Heap (Ok done) old new syncs sound Status k = same_left k old.status new.status (ap (λ (x : Areas). x.status) syncs.synced)
left_by_sync Heap (Ok done) old new syncs sound Heap k = synced_left k old.heap new.heap (sound Heap) (ap (λ (x : Areas). x.heap) syncs.synced)
left_by_sync Heap (Ok done) old new syncs sound Archive k = same_left k old.archive new.archive (ap (λ (x : Areas). x.archive) syncs.synced)
left_by_sync Archive (Ok done) old new syncs sound Status k = same_left k old.status new.status (ap (λ (x : Areas). x.status) syncs.synced)
left_by_sync Archive (Ok done) old new syncs sound Heap k = same_left k old.heap new.heap (ap (λ (x : Areas). x.heap) syncs.synced)
left_by_sync Archive (Ok done) old new syncs sound Archive k =
    synced_left k old.archive new.archive (sound Archive) (ap (λ (x : Areas). x.archive) syncs.synced)

-- a call of a slot, which lies behind those that are used
pub left_by_slot : (number : ℕ) (body : List ℕ) (stage : SlotStage) (result : Result (Unit {0}) DeviceFault) (old new : Areas)
    → IsSlotCall number body stage result old new → AreSound old
    → (a : Area) (k : ℕ) → (a ≡ Status → k < slot_start number) → IsLeft k (area_of old a) (area_of new a)
left_by_slot number body Begun result old new call sound a k below =
    left_by_write Status (slot_start number + 1) body result old new call a k (λ is. inl (let b = below is in omega arith))
left_by_slot number body BodyWritten result old new call sound a k below = left_by_sync Status result old new call sound a k
left_by_slot number body BodySynced result old new call sound a k below =
    left_by_write Status (slot_start number) (0xC7 ∷ []) result old new call a k (λ is. inl (let b = below is in omega arith))
left_by_slot number body GateWritten result old new call sound a k below = left_by_sync Status result old new call sound a k
left_by_slot number body Opened result old new call sound a k below = absurd call

-- a call of a growth, whose zeros lie behind the slots and whose gate behind those of the pieces that are open
pub left_by_growth : (stage : GrowthStage) (slots piece : ℕ) (result : Result (Unit {0}) DeviceFault) (old new : Areas)
    → IsGrowthCall stage slots piece result old new → AreSound old → piece ≤ 255
    → (a : Area) (k : ℕ) → (a ≡ Status → (k < slot_start slots) × ((k < 16 + piece) ⊎ (512 ≤ k))) → IsLeft k (area_of old a) (area_of new a)
left_by_growth (growth.Zeroing parts) slots piece result old new call sound few a k place = by_parts (nat_lt parts 16) call
  where
    by_parts : (b : Bool) → MatchBool b (WritesZeros slots parts result old new) (Syncs Status result old new) → IsLeft k (area_of old a) (area_of new a)
    by_parts true writes =
        left_by_write Status (slot_start slots + 8192 * parts) (replicate 8192 0) result old new writes a k
        (λ is. inl (let low = (place is).0 in omega (arith, low)))
    by_parts false syncs = left_by_sync Status result old new syncs sound a k
left_by_growth growth.ZerosSynced slots piece result old new call sound few a k place =
    left_by_write Status (16 + piece) (0xC7
    ∷ []) result old new call a k (λ is. elim (place is).1 [ inl low ↦ inl (omega (arith, low)) | inr high ↦ inr (omega (arith, high, few)) ])
left_by_growth growth.GateWritten slots piece result old new call sound few a k place = left_by_sync Status result old new call sound a k
