-- A query leaves the store standing for what it stood for.
use Rattle.std.proofs.Common.{◌≡◌, ℕ, ◌==◌, ◌&&◌, Bool, true, false, IsTrue, List, [], Result, Ok, Err, MatchBool, refl, arith, ap, sym, subst, ◌∙◌}
use Rattle.std.proofs.lemmas.List.{append-nil}
use Rattle.disk.specs.Calls.{DiskState}
use Rattle.history.specs.Histories.{History}
use Rattle.history.specs.Machine.{Machine}
use Rattle.law_image.specs.Values.{Value}
use Rattle.archive.specs.Searches.{archive_of}
use Rattle.status.specs.declared.header.Header.{Header}
use Rattle.timequery.specs.Faults.{after_query}
use Rattle.timequery.specs.View.{ViewValue}
use Rattle.timequery.specs.declared.fault.QueryFault.{QueryFault}
use Rattle.timequery.specs.declared.fault.QueryFault.TheVariants as query
use Rattle.store.specs.Calls.{Asks, Finds, OrStranger, is_own, is_front}
use Rattle.store.specs.Values.{StoreValue}
use Rattle.law_refinement.specs.Homes.{RunsStand, GoesOn}
use Rattle.law_refinement.specs.OnDisk.{Works}
use Rattle.law_refinement.specs.Stands.{StandsStill as Stands}
use Rattle.law_refinement.proofs.RunsKept.{up_to-same}
use Rattle.law_refinement.proofs.RunsStep.{goes-same, job-place-move, front-ends}

-- a query changes the count of refusals alone
pub after-is : {T : Type 0} (answer : Result T QueryFault) (disk : DiskState) → after_query answer disk
    ≡ record disk { refused = (after_query answer disk).refused }
after-is (Ok found) disk = refl
after-is (Err query.Device) disk = refl
after-is (Err (query.BeforeKept floor)) disk = refl
after-is (Err (query.NotYet last)) disk = refl
after-is (Err query.EmptyInterval) disk = refl
after-is (Err query.NoMemory) disk = refl
after-is (Err (query.Damaged start)) disk = refl
after-is (Err query.NeedsDisk) disk = refl
after-is (Err query.Stranger) disk = refl

module _ (tells : Bool) (v : StoreValue) (m : Machine Value) (stands : Stands tells v m) (kept : List (ℕ × List ℕ)) (refused : ℕ) where
  -- the store after it
  asked : StoreValue
  asked = record v { archive = record v.archive { kept = kept }; disk = record v.disk { refused = refused } }

  asked-works : (header : Header) → Works header v m → Works header asked m
  unfolding asked
  asked-works header w = record {
    log = w.log;
    heap = w.heap;
    packed = w.packed;
    group = w.group;
    job = w.job;
    sound = w.sound;
  }

  asked-stands : (IsTrue tells → RunsStand asked m) → Stands tells asked m
  unfolding asked
  asked-stands runs = record {
    memory = stands.memory;
    machine = stands.machine;
    order = stands.order;
    in_step =
        record {
          slots = stands.in_step.slots;
          used = stands.in_step.used;
          turns = λ on. let was = stands.in_step.turns on in record { turning = was.turning; writing = was.writing; turn = was.turn; job = was.job };
        };
    gate = stands.gate;
    raises = stands.raises;
    marks = stands.marks;
    job = stands.job;
    disk = λ told.
        let d = stands.disk told in record {
          header = d.header;
          profile = d.profile;
          slots = d.slots;
          pieces = d.pieces;
          profile_built = d.profile_built;
          leaves = d.leaves;
          works = λ on. asked-works d.header (d.works on);
        };
    place = job-place-move v.job v asked m m (λ relation. omega arith) refl refl refl stands.place;
    runs = runs;
  }

  asked-goes : GoesOn tells v asked
  unfolding asked
  asked-goes =
      record {
        mark = refl;
        more = [];
        runs = sym (append-nil v.archive.runs);
        end = λ told. omega arith;
        bytes = λ told. up_to-same v.runs_end (archive_of v.disk);
      }

pub own-front : (a b : Bool) → (a && b) ≡ true → b ≡ true
own-front true b is = is
own-front false b is = absurd cc

pub asks-stands : {T : Type 0} (tells : Bool) (v new : StoreValue) (m : Machine Value) (view : ViewValue) (answer : Result T QueryFault) → Stands tells v m
    → is_front view.runs v.archive.runs ≡ true → Asks tells v view answer new → Stands tells new m × GoesOn tells v new
unfolding asked
asks-stands tells v new m view answer stands front asks =
    let kept = new.archive.kept in
    let refused = (after_query answer v.disk).refused in
    let is : new ≡ record v { archive = record v.archive { kept = kept }; disk = record v.disk { refused = refused } } =
    asks.new_is ∙ ap (λ (d : DiskState). record v { archive = record v.archive { kept = kept }; disk = d }) (after-is answer v.disk) in
    let runs : IsTrue tells → RunsStand (record v { archive = record v.archive { kept = kept }; disk = record v.disk { refused = refused } }) m = λ told.
    let r = stands.runs told in
    let keeps = asks.kept v.runs_end (front-ends v.runs_end view.runs v.archive.runs front r.ends) in
    record {
      lists = r.lists;
      held = r.held;
      ends = r.ends;
      mark = r.mark;
      marks = r.marks;
      by_last = r.by_last;
      archived = r.archived;
      right = keeps.right told r.right;
      near = keeps.ends v.runs_end (omega arith) r.near;
    } in (
      subst (λ (x : StoreValue). Stands tells x m) (sym is) (asked-stands tells v m stands kept refused runs),
      subst (λ (x : StoreValue). GoesOn tells v x) (sym is) (asked-goes tells v m stands kept refused),
    )

-- a store that was asked, with a view of its own or a stranger's
pub query-stands : {T : Type 0} (tells : Bool) (v new : StoreValue) (m : Machine Value) (view : ViewValue) (from : ℕ) (Refuses : QueryFault
    → Type 0) (Recent : T → Type 0) (OfHistory : History Value → T → Type 0) (Exact : Result T QueryFault → Type 0) (answer : Result T QueryFault)
    → Stands tells v m
    → OrStranger v view (Finds tells v view from Refuses Recent OfHistory Exact) answer new → Stands tells new m × GoesOn tells v new
query-stands tells v new m view from Refuses Recent OfHistory Exact answer stands says = by-own (is_own v view) refl says
  where
    by-own : (b : Bool) → is_own v view ≡ b
        → MatchBool b (Finds tells v view from Refuses Recent OfHistory Exact answer new) ((answer ≡ Err query.Stranger) × (new ≡ v)) → Stands tells new m
        × GoesOn tells v new
    by-own true is finds =
        asks-stands tells v new m view answer stands (own-front (view.mark == v.transactions.mark) (is_front view.runs v.archive.runs) is) finds.asks
    by-own false is strange = (
      subst (λ (x : StoreValue). Stands tells x m) (sym strange.1) stands,
      subst (λ (x : StoreValue). GoesOn tells v x) (sym strange.1)
          (goes-same tells v v (record {
            runs = refl;
            kept = refl;
            archived = refl;
            runs_end = refl;
            mark = refl;
          }) (λ told. up_to-same v.runs_end (archive_of v.disk))),
    )
