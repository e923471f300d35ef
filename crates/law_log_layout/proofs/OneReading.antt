-- A heap and an archive tell one thing at most.
use Rattle.std.proofs.Common.{◌≡◌, ℕ, ◌*◌, ◌^◌, ◌<◌, List, [], ◌∷◌, ◌++◌, length, map, drop, refl, sym, ◌∙◌, ap, subst, arith}
use Rattle.std.specs.Prelude.{flat_map}
use Rattle.std.specs.List.{AllByRecursion}
use Rattle.byteorder.specs.Endian.{little_bytes, little_number}
use Rattle.byteorder.specs.Numbers.{little_from-bytes}
use Rattle.disk.specs.Parts.{HoldsPart}
use Rattle.history.proofs.Members.{IsRisingBy, same_rising}
use Rattle.law_image.specs.Reading.{Head, Reading}
use Rattle.law_image.specs.Log.{AreRisingAfter}
use Rattle.law_log.specs.Chains.{LogChain, reading_of}
use Rattle.law_layout.specs.Runs.{StoredRun}
use Rattle.wire.specs.Numbers.{u64_bytes}
use Rattle.log_entries.specs.declared.entry.Roll.{Roll}
use Rattle.law_log_layout.specs.HeapLog.{PlacedChain, PlacedRoll, HeapLog, name_bytes, HoldsRoll, IsName, IsStoredRoll, AreNamesOf, rolls_in, chains_told}
use Rattle.law_log_layout.specs.HeapLog.{IsLogOf, HoldsLog}
use Rattle.law_log_layout.specs.OneLog.{IsSameInHeap, TellTheSame}
use Rattle.law_log_layout.proofs.OneLog.{part-same, one-log}

-- ---- the names in a roll

number_8 : (n : ℕ) (rest : List ℕ) → n < 2 ^ 64 → little_number 8 (little_bytes 8 n ++ rest) ≡ n
number_8 n rest lt = little_from-bytes 8 0 n rest ∙ omega arith

name-again : (a b : Head) (xs ys : List ℕ) → IsName a → IsName b → name_bytes a ++ xs ≡ name_bytes b ++ ys → (a ≡ b) × (xs ≡ ys)
unfolding u64_bytes
name-again a b xs ys is_a is_b same =
    let label : a.label ≡ b.label =
    sym (number_8 a.label (little_bytes 8 a.time ++ xs) is_a.0) ∙ ap (little_number 8) same ∙ number_8 b.label (little_bytes 8 b.time ++ ys) is_b.0 in
    let time : a.time ≡ b.time =
    sym (number_8 a.time xs (omega (arith, is_a.2))) ∙ ap (λ (l : List ℕ). little_number 8 (drop 8 l)) same ∙ number_8 b.time ys (omega (arith, is_b.2)) in
    (λ i. record { label = label i; time = time i }, ap (drop 16) same)

names-again : (xs ys : List Head) → AllByRecursion IsName xs → AllByRecursion IsName ys → length xs ≡ length ys
    → flat_map name_bytes xs ≡ flat_map name_bytes ys → xs ≡ ys
names-again [] [] are_a are_b many same = refl
names-again [] (b ∷ ys) are_a are_b many same = absurd (omega (arith, many))
names-again (a ∷ xs) [] are_a are_b many same = absurd (omega (arith, many))
names-again (a ∷ xs) (b ∷ ys) are_a are_b many same =
    let one = name-again a b (flat_map name_bytes xs) (flat_map name_bytes ys) are_a.0 are_b.0 same in
    let rest = names-again xs ys are_a.1 are_b.1 (omega (arith, many)) one.1 in
    λ i. one.0 i ∷ rest i

names-long : (xs : List Head) → length (flat_map name_bytes xs) ≡ 16 * length xs
unfolding u64_bytes
names-long [] = refl
names-long (a ∷ xs) = omega (arith, names-long xs)

rolls-same : (archive : List ℕ) (xs ys : List PlacedRoll) → map (λ (r : PlacedRoll). r.roll) xs ≡ map (λ (r : PlacedRoll). r.roll) ys
    → AllByRecursion IsStoredRoll xs → AllByRecursion IsStoredRoll ys → AllByRecursion (HoldsRoll archive) xs → AllByRecursion (HoldsRoll archive) ys → xs ≡ ys
rolls-same archive [] [] same are_a are_b held_a held_b = refl
rolls-same archive [] (b ∷ ys) same are_a are_b held_a held_b = absurd (cc)
rolls-same archive (a ∷ xs) [] same are_a are_b held_a held_b = absurd (cc)
rolls-same archive (a ∷ xs) (b ∷ ys) same are_a are_b held_a held_b =
    let roll : a.roll ≡ b.roll = cc in
    let rest = rolls-same archive xs ys (cc) are_a.1 are_b.1 held_a.1 held_b.1 in
    let many : length a.names ≡ length b.names = omega (arith, (are_a.0).length_is, (are_b.0).length_is, ap (λ (x : Roll). x.len) roll) in
    let other : HoldsPart a.roll.start (flat_map name_bytes b.names) archive =
    subst (λ (x : Roll). HoldsPart x.start (flat_map name_bytes b.names) archive) (sym roll) held_b.0 in
    let bytes = part-same a.roll.start (flat_map name_bytes a.names) (flat_map name_bytes b.names) archive
    (omega (arith, names-long a.names, names-long b.names, many)) held_a.0 other in
    let names = names-again a.names b.names (are_a.0).each (are_b.0).each many bytes in
    λ i. record { roll = roll i; names = names i } ∷ rest i

-- ---- the names of the log

rising-by : (time : ℕ) (heads : List Head) → AreRisingAfter time heads → IsRisingBy (λ (head : Head). head.time) time heads
rising-by time [] up = tt
rising-by time (head ∷ heads) up = (up.0, rising-by head.time heads up.2)

pub names-same : (rolls : List PlacedRoll) (a b : List Head) → AreNamesOf rolls a → AreNamesOf rolls b → a ≡ b
names-same rolls a b is_a is_b =
    same_rising (λ (head : Head). head.time) 0 0 a b (rising-by 0 a is_a.rising) (rising-by 0 b is_b.rising)
    (λ head has. (is_b.same head).1 ((is_a.same head).0 has)) (λ head has. (is_a.same head).1 ((is_b.same head).0 has))

-- ---- the reading

pub one-reading : (most root : ℕ) (l m : HeapLog) (r s : Reading) (heap archive : List ℕ) → most < 2 ^ 32
    → IsLogOf most root l r → IsLogOf most root m s → HoldsLog l heap archive → HoldsLog m heap archive → TellTheSame r s
one-reading most root l m r s heap archive few is_l is_m holds_l holds_m =
    let one : IsSameInHeap l m = one-log most root l m r s heap archive archive few is_l is_m holds_l holds_m in
    let rolls : l.rolls ≡ m.rolls =
    rolls-same archive l.rolls m.rolls
    (is_l.rolls_named ∙ ap (flat_map (λ (c : PlacedChain). rolls_in c.entry)) one.chains ∙ sym is_m.rolls_named)
    is_l.each_roll is_m.each_roll holds_l.rolls holds_m.rolls in
    let names : is_l.names ≡ is_m.names =
    names-same m.rolls is_l.names is_m.names (subst (λ (rs : List PlacedRoll). AreNamesOf rs is_l.names) rolls is_l.are_names) is_m.are_names in
    let chains : chains_told is_l.names l.chains ≡ chains_told is_m.names m.chains = λ i. chains_told (names i) (one.chains i) in
    let runs_l = map (λ (x : StoredRun). x.records) l.runs in
    let runs_m = map (λ (x : StoredRun). x.records) m.runs in
    record {
      slots = ap (λ (x : Reading). x.slots) is_l.reading_is ∙ sym (ap (λ (x : Reading). x.slots) is_m.reading_is);
      log = ap (λ (x : Reading). x.log) is_l.reading_is ∙ ap (λ (cs : List LogChain). (reading_of most cs m.anchors.records runs_m).log) chains
          ∙ sym (ap (λ (x : Reading). x.log) is_m.reading_is);
      members = ap (λ (x : Reading). x.members) is_l.reading_is ∙ ap (λ (cs : List LogChain). (reading_of most cs m.anchors.records runs_m).members) chains
          ∙ sym (ap (λ (x : Reading). x.members) is_m.reading_is);
      anchors = ap (λ (x : Reading). x.anchors) is_l.reading_is ∙ ap (λ a. a.records) one.anchors
          ∙ sym (ap (λ (x : Reading). x.anchors) is_m.reading_is);
    }
