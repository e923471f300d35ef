-- A store that is created stands for the empty history.
use Rattle.std.proofs.Common.{◌≡◌, ℕ, Bool, true, false, IsTrue, [], ◌∷◌, None, replicate, refl, arith, sym, subst, inl}
use Rattle.disk.specs.Areas.{Areas, AreSound, written}
use Rattle.disk.specs.Calls.{DiskState}
use Rattle.disk.proofs.Parts.{synced_part}
use Rattle.std.proofs.lemmas.List.Sorted.{IsPermutation-refl}
use Rattle.history.specs.Machine.{opened_by}
use Rattle.history.proofs.Members.{Contains-nil}
use Rattle.law_image.specs.HeapPlans.{empty_heap}
use Rattle.deltas.specs.Extents.{extent_start}
use Rattle.log_roots.specs.Roots.{IsHeapSize}
use Rattle.law_log_layout.specs.Laws.{KeepsLog}
use Rattle.log_store.specs.Values.{LogStoreValue}
use Rattle.log_store.specs.Formats.{new_roots, formatted, created_on, Creates}
use Rattle.law_commits.specs.Standing.{StandsInMemory}
use Rattle.law_log_store.specs.Reclaiming.{HasRoots}
use Rattle.law_log_store.specs.Standing.{StandsOnHeap}
use Rattle.law_log_store.proofs.Headers.{roots-settled}
use Rattle.law_log_store.proofs.Opened.{leaves-room}
use Rattle.law_log_steps.specs.Store.{IsStoreOf}
use Rattle.law_log_steps.proofs.Resting.{stands-opened}
use Rattle.law_log_queries.specs.Archive.{RunsStand, Stands}
use Rattle.law_log_queries.proofs.Names.{names-of-heap}
use Rattle.law_log_opened.proofs.Empty.{empty_log, empty-stands, empty-is_log}
use Rattle.law_log_opened.proofs.Formatted.{new-in_range, headed-reads, zeroed-closed}

module _ (mark extents : ℕ) (old : Areas) (disk : DiskState) (size : IsHeapSize extents) (sound : AreSound disk.areas)
    (made : disk.areas ≡ formatted extents old) where
  abbrev v : LogStoreValue
  v = created_on mark extents disk

  -- ---- the disk

  status : HasRoots (new_roots extents) None disk.areas.status
  status = subst (λ (areas : Areas). HasRoots (new_roots extents) None areas.status) (sym made)
      (roots-settled (new_roots extents) (formatted extents old).status.bytes (headed-reads extents old.status.bytes size))

  log : KeepsLog (empty_log 1) disk.areas.heap
  log = subst (λ (areas : Areas). KeepsLog (empty_log 1) areas.heap) (sym made)
      (let closed = zeroed-closed old.heap.bytes in record {
        parts = tt;
        ends = record {
          gate = closed.gate;
          closed = closed.closed;
          kept = synced_part (extent_start 1) (closed.gate ∷ []) (written 0 (replicate 8192 0) old.heap) closed.held;
        };
      })

  on-heap : StandsOnHeap v [] [] (λ relation. 0)
  on-heap =
      let range = new-in_range extents size in
      let is = empty-is_log (new_roots extents) range in
      let stands = empty-stands (new_roots extents) range in
      record {
        l = empty_log 1;
        reading = empty_heap extents;
        made = [];
        is_log = is;
        stands = stands;
        archive = record { rolls = tt; runs = tt };
        status = status;
        sound = sound;
        commits = record { ordered = tt; values = λ key. refl; told = tt; contents = tt; may = tt };
        facts = record { rising = λ key. tt; early = λ key. omega arith; same = λ key. refl };
        anchors = record { len = refl; fit = tt };
        turn = record {
          log = log;
          room = (leaves-room extents 1 (empty_log 1) (empty_heap extents) [] (λ relation. 0) is stands).room;
          live = record { chains = refl; anchors = refl };
        };
        job = tt;
        written = tt;
        named = record { archives = refl; rolls = refl; upto = refl; end = record { runs = tt; rolls = tt } };
        reach = omega arith;
        spare = inl (λ some. absurd (omega (arith, some)));
        reclaim = tt;
      }

  -- ---- memory

  memory : StandsInMemory v.commits (opened_by 1024 [] (λ relation. 0))
  memory = record {
    names = record {
      before = [];
      early = tt;
      kept = [];
      late = [];
      heads_are = refl;
      kept_of = tt;
      names = refl;
      count = 0;
      published_are = refl;
      many = refl;
    };
    rising = tt;
    versions = record {
      ordered = tt;
      marked = omega arith;
      before = λ key. [];
      rising = λ key. tt;
      early = λ key. omega arith;
      writes = λ key. refl;
      at_home = λ key. refl;
    };
    forgot = λ key. refl;
    recent = λ snapshot there. absurd (Contains-nil snapshot there);
    queue = tt;
    snapshots = IsPermutation-refl [];
    floors = λ relation. refl;
    failed = refl;
  }

  store : (tells : Bool) → IsStoreOf tells v (opened_by 1024 [] (λ relation. 0))
  store tells =
      stands-opened tells v [] (λ relation. 0) (empty_heap extents) (empty-stands (new_roots extents) (new-in_range extents size)) on-heap refl refl
      (record { most = refl; group = refl; raising = refl; made = tt; gate = λ works. refl; left = λ fails. absurd (let no : false ≡ true = fails in cc) })
      (record { reclaimed = omega arith; base = omega arith; job = tt; reclaim = tt }) (omega arith, omega arith) memory

  runs : RunsStand v [] (λ relation. 0)
  runs = record {
    lists = [];
    held = tt;
    marks = omega arith;
    by_last = omega arith;
    archived = λ key. refl;
    right = record { each = λ from bytes there. absurd (Contains-nil (from, bytes) there) };
    near = record { each = λ from bytes there. absurd (Contains-nil (from, bytes) there) };
    ends = omega arith;
    named = refl;
  }

  pub created : (tells : Bool) → Stands tells v (opened_by 1024 [] (λ relation. 0))
  created tells = record { store = store tells; place = (tt, tt); runs = λ told. runs; names = λ told. names-of-heap v [] [] (λ relation. 0) on-heap }

pub create-stands : (tells : Bool) (old : DiskState) (mark extents : ℕ) (v : LogStoreValue) → IsHeapSize extents → AreSound v.disk.areas
    → Creates tells old mark extents v → IsTrue tells → Stands tells v (opened_by 1024 [] (λ relation. 0))
create-stands tells old mark extents v size sound creates told =
    subst (λ (w : LogStoreValue). Stands tells w (opened_by 1024 [] (λ relation. 0))) (sym creates.new_is)
    (created mark extents old.areas v.disk size sound (creates.formatted told) tells)
