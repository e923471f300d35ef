-- The times of a label, over an archive that is lent by a host that has made all its device calls.
use Rattle.std.proofs.Common.{◌≡◌, ◌==◌, ◌&&◌, ◌*◌, ℕ, nat_lt, Bool, true, false, List, [], ◌∷◌, length, map, Result, Ok, Err, Vec, MatchBool, refl, sym}
use Rattle.std.proofs.Common.{◌∙◌, ap, subst, arith}
use Rattle.std.specs.Prelude.{flat_map}
use Rattle.std.specs.List.{AllByRecursion}
use Rattle.std.specs.declared.alloc.Global.{Global}
use Rattle.std.proofs.lemmas.Bool.{eqb-true}
use Rattle.disk.specs.Areas.{Areas}
use Rattle.disk.specs.Calls.{DiskState}
use Rattle.history.specs.Answers.{times_of}
use Rattle.history.specs.Machine.{Machine}
use Rattle.law_image.specs.Values.{Value}
use Rattle.law_image.specs.Reading.{Head}
use Rattle.archive.specs.Searches as searches
use Rattle.timequery.specs.Faults.{after_query}
use Rattle.timequery.specs.declared.fault.QueryFault.{QueryFault}
use Rattle.timequery.specs.declared.fault.QueryFault.TheVariants.{BeforeKept, NotYet, EmptyInterval, Device, NoMemory, Damaged, NeedsDisk, Stranger}
use Rattle.wire.specs.Numbers.{u64_bytes}
use Rattle.log_entries.specs.Ranges.{IsRoll}
use Rattle.log_entries.specs.declared.entry.Roll.{Roll}
use Rattle.law_log_layout.specs.HeapLog.{PlacedRoll, HoldsRoll, IsStoredRoll, name_bytes}
use Rattle.log_store.specs.Names.{AnswersTimes}
use Rattle.log_store.specs.Values.{LogStoreValue}
use Rattle.any_store.specs.Queries as queries
use Rattle.any_store.specs.declared.engine.Engine.TheVariants.{Slots, Log}
use Rattle.any_store.specs.Values.{StoreValue, disk_of, is_log, with_disk}
use Rattle.law_log_queries.specs.Archive.{NamesStand}
use Rattle.law_log_queries.specs.Names.{SaysTimes}
use Rattle.law_any_store.specs.Names.{names_from}
use Rattle.law_any_store.specs.Standing.{Stands}
use Rattle.law_any_store.proofs.Names.{times-told}
use Rattle.c_engine.specs.Engines.{AreTimesTold, TellsFound, asks, published_of}
use Rattle.c_engine.specs.Queries.{IsOver, LentTimes, lacks_rolls}
use Rattle.c_engine.specs.RelayState.{slices_state}
use Rattle.c_engine.specs.declared.asking.Lent.{Lent}
use Rattle.c_engine.specs.declared.code.Code.{Code}
use Rattle.c_engine.specs.declared.code.Code.TheVariants as code
use Rattle.c_engine.specs.declared.code.Info.{Info}
use Rattle.c_engine.specs.declared.engine.Engine.{Engine}
use Rattle.c_engine.specs.declared.engine.EngineState.{EngineState}
use Rattle.c_engine.specs.declared.engine.EngineState.TheVariants.{Settled}
use Rattle.law_library.specs.Answers.{AreJust, TellsTimesFound, TimesAreAnswered}
use Rattle.law_library.specs.Moments.{IsSettled, IsAtStage}

-- ---- where no byte is lent

-- a name takes 16 bytes
names-long : (names : List Head) → length (flat_map name_bytes names) ≡ 16 * length names
unfolding u64_bytes
names-long [] = refl
names-long (name ∷ names) = omega (arith, names-long names)

-- rolls take bytes
no-roll : (archive : List ℕ) (rolls : List PlacedRoll) → length archive ≡ 0 → AllByRecursion (HoldsRoll archive) rolls → AllByRecursion IsStoredRoll rolls
    → AllByRecursion IsRoll (map (λ (r : PlacedRoll). r.roll) rolls) → nat_lt 0 (length (map (λ (r : PlacedRoll). r.roll) rolls)) ≡ false
no-roll archive [] none held stored each = refl
no-roll archive (r ∷ rs) none held stored each =
    let inside = held.0.inside in
    let long : length (flat_map name_bytes r.names) ≡ 16 * length r.names = names-long r.names in
    let len = stored.0.length_is in
    let some = each.0.some in
    absurd (omega (arith, none, inside, long, len, some))

-- so where some lie in the archive of a store, some bytes are lent
has-bytes : (v : StoreValue) (m : Machine Value) → Stands true v m → lacks_rolls (disk_of v).areas.archive.bytes v ≡ false
has-bytes (Slots s) m stands = by-length (length s.disk.areas.archive.bytes == 0)
  where
    by-length : (b : Bool) → (b && false) ≡ false
    by-length true = refl
    by-length false = refl
has-bytes (Log l) m stands = by-length (length l.disk.areas.archive.bytes == 0) refl
  where
    names : NamesStand l m.published
    names = let is = stands.1 in is.names refl

    by-length : (b : Bool) → (length l.disk.areas.archive.bytes == 0) ≡ b → (b && nat_lt 0 (length l.named.rolls)) ≡ false
    by-length true none =
        let lie = names.lie in
        ap (λ (rolls : List Roll). nat_lt 0 (length rolls)) (sym lie.rolls_are)
        ∙ no-roll l.disk.areas.archive.bytes names.rolls (eqb-true (length l.disk.areas.archive.bytes) 0 none) lie.held lie.stored
        (subst (λ (rolls : List Roll). AllByRecursion IsRoll rolls) (sym lie.rolls_are) lie.each)
    by-length false some = refl

-- ---- over what is lent the store answers as over its own disk

log-asked : (l : LogStoreValue) (d after : DiskState) (label : ℕ) (answer : Result (Vec ℕ Global) QueryFault)
    → searches.archive_of d ≡ searches.archive_of l.disk → AnswersTimes true (record l { disk = d }) label answer (record l { disk = after })
    → AnswersTimes true l label answer (record l { disk = after_query answer l.disk })
log-asked l d after label answer same asks = record {
  new_is = refl;
  refused = asks.refused;
  late = asks.late;
  only = λ rolls names told lie. asks.only rolls names told (record {
    rolls_are = lie.rolls_are;
    each = lie.each;
    held = subst (λ (a : List ℕ). AllByRecursion (HoldsRoll a) rolls) (sym same) lie.held;
    stored = lie.stored;
    are_names = lie.are_names;
    by_mark = lie.by_mark;
  });
}

asked : (v : StoreValue) (d after : DiskState) (label : ℕ) (answer : Result (Vec ℕ Global) QueryFault) → d.areas.archive.bytes ≡ (disk_of v).areas.archive.bytes
    → queries.AnswersTimes true (with_disk v d) label answer (with_disk v after) → (new : StoreValue) × queries.AnswersTimes true v label answer new
asked (Slots s) d after label answer same asks = (Slots s, record { new_is = refl; refused = asks.refused; is = asks.is })
asked (Log l) d after label answer same asks =
    (Log (record l { disk = after_query answer l.disk }), log-asked l d after label answer same asks)

-- where the disk tells its bytes all times are told
just : (in_heap : Bool) (from : ℕ) (times : List ℕ) (answer : Result (Vec ℕ Global) QueryFault) → SaysTimes true in_heap from times answer
    → AreJust times answer
just in_heap from times (Ok found) says = says.0 (λ heap. refl)
just in_heap from times (Err (BeforeKept floor)) says = says
just in_heap from times (Err (NotYet last)) says = says
just in_heap from times (Err EmptyInterval) says = says
just in_heap from times (Err Device) says = tt
just in_heap from times (Err NoMemory) says = tt
just in_heap from times (Err (Damaged start)) says = says.1 refl
just in_heap from times (Err NeedsDisk) says = says
just in_heap from times (Err Stranger) says = says

-- ---- what is told

-- nothing is left out where no call was refused
all-told : (e : Engine) (answer : Result (Vec ℕ Global) QueryFault) (said : Code) (info : Info) (times : List ℕ) → e.state ≡ Settled
    → TellsFound answer e said info times → TellsTimesFound answer said info times
all-told e (Ok found) said info times settled tells =
    subst (λ (s : EngineState). AreTimesTold (published_of s e.before found.items) said info times) settled tells
all-told e (Err why) said info times settled tells = tells

pub times : TimesAreAnswered
times m label said info told is settled tells =
    let e = m.host.engine in
    let archive = m.host.areas.archive.bytes in
    let stage : IsSettled m = subst (λ (s : EngineState). IsAtStage s m) settled is.stage in
    let bytes : archive ≡ (disk_of e.store).areas.archive.bytes = ap (λ (a : Areas). a.archive.bytes) stage.areas in
    let stands : Stands true e.store m.at.world.machine = is.is.world.stands in
    let found = subst (λ (b : Bool). MatchBool b (said ≡ code.Pending)
    ((answer : Result (Vec ℕ Global) QueryFault) × LentTimes archive e.store label answer × TellsFound answer e said info told)) (ap asks settled) tells in
    let some : lacks_rolls archive e.store ≡ false =
    ap (λ (a : List ℕ). lacks_rolls a e.store) bytes ∙ has-bytes e.store m.at.world.machine stands in
    let over = subst (λ (b : Bool). MatchBool b (found.0 ≡ Err NeedsDisk) ((before after : Lent) × IsOver archive before
    × queries.AnswersTimes true (with_disk e.store (slices_state before.disk)) label found.0 (with_disk e.store (slices_state after.disk)))) some found.1 in
    let lent = over.2 in
    let at : (slices_state over.0.disk).areas.archive.bytes ≡ (disk_of e.store).areas.archive.bytes =
    ap (λ (d : DiskState). d.areas.archive.bytes) lent.disk ∙ bytes in
    let asked_so = asked e.store (slices_state over.0.disk) (slices_state over.1.disk) label found.0 at over.3 in (
      found.0,
      just (is_log e.store) (names_from e.store) (times_of m.at.world.machine.published label) found.0
          (times-told true e.store asked_so.0 m.at.world.machine label found.0 stands asked_so.1),
      all-told e found.0 said info told settled found.2,
    )
