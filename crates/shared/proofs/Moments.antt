-- Views and transactions answer by the history of their moment.
use Rattle.std.proofs.Common.{◌≡◌, ℕ, Bool, List, Option, Some, Result, Ok, Err, unwrap_or, sym, ap, subst, ◌∙◌}
use Rattle.std.specs.Prelude.{IfOk, OnOk, OnErr, if◌then◌else◌}
use Rattle.std.specs.declared.alloc.AllocError.{AllocError}
use Rattle.history.specs.declared.key.Key.{Key}
use Rattle.history.specs.declared.key.KeyWrite.{KeyWrite}
use Rattle.history.specs.Key.{write_in}
use Rattle.history.specs.Histories.{last, state}
use Rattle.history.specs.Machine.{Machine}
use Rattle.history.specs.Queries.{IsScan}
use Rattle.law_image.specs.Values.{Value}
use Rattle.snapshot.specs.Txn.{TxnValue, seen_by}
use Rattle.atomic_table.specs.Seated.{TableId}
use Rattle.timequery.specs.View.{ViewValue}
use Rattle.any_store.specs.Values.{StoreValue}
use Rattle.law_any_store.specs.Standing.{ViewReads}
use Rattle.shared.specs.Archives.{ArchiveSeen, IsArchiveLater, archive_seen}
use Rattle.shared.specs.Kinds.{Kind}
use Rattle.shared.specs.Moments.{TxnMoment, TxnPassValue, ViewMoment, HoldsSeen, WorksOn, GoesWith, token_of, value_for}
use Rattle.shared.specs.Seen.{Seen, SightValue, IsLater}
use Rattle.shared.specs.Shared.{IsShared, Shows, Reads, SeenReached}
use Rattle.shared.proofs.Archives.{reads-later, reads-of}
use Rattle.shared.proofs.Fronts.{front-then}

-- ---- views

-- the view is shown by an archive that is known to be later
pub shows-later : (start : Machine Value) (brand : ℕ) (old new : ArchiveSeen) (view : ViewValue) (seen : Seen) → IsArchiveLater old new
    → Shows start brand old view seen → Shows start brand new view seen
shows-later start brand old new view seen later s = record {
  machine = s.machine;
  reached = s.reached;
  seen_is = s.seen_is;
  mark = s.mark;
  stands = s.stands;
  reads = reads-later old new view s.machine.published s.machine.floors later s.reads;
}

-- the store has what the view reads
pub still-reads : (tells : Bool) (start : Machine Value) (kind : Kind) (brand : ℕ) (table : TableId) (v : StoreValue) (shares : ℕ) (at : TableId)
    (pass : SightValue) (view : ViewValue) (seen : Seen) → IsShared tells start kind brand table v shares at pass
    → (s : Shows start brand pass.archive view seen)
    → ViewReads tells v view s.machine.published s.machine.floors
still-reads tells start kind brand table v shares at pass view seen h s =
    reads-of tells v view s.machine.published s.machine.floors (s.mark
    ∙ sym h.mark) (reads-later pass.archive (archive_seen tells v) view s.machine.published s.machine.floors h.archive s.reads)

-- ---- transactions

-- a transaction that has just begun
pub reads-works : (start : Machine Value) (brand : ℕ) (t : TxnValue) (seen : Seen) → Reads start brand t seen → WorksOn start brand t seen
reads-works start brand t seen r =
    let at : t.snapshot ≡ last seen.published = r.snapshot ∙ ap (λ (s : Seen). last s.published) (sym r.seen_is) in
    record {
      machine = r.machine;
      reached = r.reached;
      seen_is = r.seen_is;
      mark = r.mark;
      snapshot = at;
      reads = λ key. r.reads key ∙ ap (λ (s : Seen). state s.published t.snapshot key) (sym r.seen_is) ∙ ap (λ (n : ℕ). state seen.published n key) at;
    }

pub works-reached : (start : Machine Value) (brand : ℕ) (t : TxnValue) (seen : Seen) → WorksOn start brand t seen → SeenReached start seen
works-reached start brand t seen w = (w.machine, w.reached, w.seen_is)

-- what it sees is the history of its moment, with its own writes over it
pub sees : (start : Machine Value) (brand : ℕ) (t : TxnValue) (seen : Seen) → WorksOn start brand t seen → (key : Key) → seen_by t key
    ≡ value_for (record { txn = t; seen = seen }) key
sees start brand t seen w key = ap (λ (o : Option Value). unwrap_or (write_in t.writes key) o) (w.reads key)

pub scans : (start : Machine Value) (brand : ℕ) (t : TxnValue) (seen : Seen) (relation : ℕ) (found : List (ℕ × Value)) → WorksOn start brand t seen
    → IsScan (seen_by t) relation found → IsScan (value_for (record { txn = t; seen = seen })) relation found
scans start brand t seen relation found w is =
    let same : Path (Key → Option Value) (seen_by t) (value_for (record { txn = t; seen = seen })) = λ i key. sees start brand t seen w key i in
    subst (λ (values : Key → Option Value). IsScan values relation found) same is

-- its writes change nothing of that
pub rewritten : (start : Machine Value) (brand : ℕ) (t : TxnValue) (seen : Seen) (ws : List (KeyWrite Value)) → WorksOn start brand t seen
    → WorksOn start brand (record t { writes = ws }) seen
rewritten start brand t seen ws w =
    record { machine = w.machine; reached = w.reached; seen_is = w.seen_is; mark = w.mark; snapshot = w.snapshot; reads = w.reads }

-- nor of the pass that goes with it
pub still-goes : (start : Machine Value) (brand : ℕ) (t t' : TxnValue) (pass : TxnPassValue) (ws : List (KeyWrite Value)) → GoesWith start brand t pass
    → t' ≡ record t { writes = ws } → GoesWith start brand t' pass
still-goes start brand t t' pass ws goes is =
    subst (λ (x : TxnValue). GoesWith start brand x pass) (sym is) (rewritten start brand t pass.seen ws goes.0, goes.1)

pub still-works : {T E : Type 0} (r : Result T E) (start : Machine Value) (brand : ℕ) (t t' : TxnValue) (pass : TxnPassValue) (ws : List (KeyWrite Value))
    → GoesWith start brand t pass → OnOk r (t' ≡ record t { writes = ws }) → OnErr r (t' ≡ t) → GoesWith start brand t' pass
still-works (Ok done) start brand t t' pass ws goes ok err = still-goes start brand t t' pass ws goes ok
still-works (Err why) start brand t t' pass ws goes ok err = subst (λ (x : TxnValue). GoesWith start brand x pass) (sym err) goes

-- a transaction that has just begun goes with the pass that was given with it
pub begun-goes : (start : Machine Value) (brand : ℕ) (t : TxnValue) (pass : TxnPassValue) (seen : Seen) → Reads start brand t seen → pass.seen ≡ seen
    → pass.token ≡ Some (token_of t) → GoesWith start brand t pass
begun-goes start brand t pass seen reads same token = (subst (λ (s : Seen). WorksOn start brand t s) (sym same) (reads-works start brand t seen reads), token)

-- ---- its writes, by a moment that has this transaction

pub changed-ok : {T E : Type 0} (r : Result T E) (t t' : TxnValue) (seen : Seen) (m : TxnMoment) (change : TxnValue → TxnValue)
    → record { txn = t; seen = seen } ≡ m → OnOk r (t' ≡ change t)
    → OnOk r (record { txn = t'; seen = seen } ≡ record m { txn = change m.txn })
changed-ok (Ok done) t t' seen m change is ok =
    ap (λ (x : TxnValue). record { txn = x; seen = seen }) ok ∙ ap (λ (y : TxnMoment). record y { txn = change y.txn }) is
changed-ok (Err why) t t' seen m change is ok = tt

pub kept-err : {T E : Type 0} (r : Result T E) (t t' : TxnValue) (seen : Seen) (m : TxnMoment) → record { txn = t; seen = seen } ≡ m → OnErr r (t' ≡ t)
    → OnErr r (record { txn = t'; seen = seen } ≡ m)
kept-err (Ok done) t t' seen m is err = tt
kept-err (Err why) t t' seen m is err = ap (λ (x : TxnValue). record { txn = x; seen = seen }) err ∙ is

sees-one : (start : Machine Value) (brand : ℕ) (t : TxnValue) (seen : Seen) (m : TxnMoment) → record { txn = t; seen = seen } ≡ m → WorksOn start brand t seen
    → (key : Key) → seen_by t key ≡ value_for m key
sees-one start brand t seen m is w key = sees start brand t seen w key ∙ ap (λ (y : TxnMoment). value_for y key) is

-- what it sees after a write of a key
pub sees-after : {T E : Type 0} (r : Result T E) (start : Machine Value) (brand : ℕ) (t t' : TxnValue) (seen : Seen) (m : TxnMoment)
    (ws : List (KeyWrite Value)) (is_key : Key → Bool) (value : Option Value) → record { txn = t; seen = seen } ≡ m → WorksOn start brand t seen
    → OnOk r (t' ≡ record t { writes = ws }) → OnOk r ((q : Key) → seen_by t' q ≡ (if is_key q then value else seen_by t q))
    → OnOk r ((q : Key) → value_for (record { txn = t'; seen = seen }) q ≡ (if is_key q then value else value_for m q))
sees-after (Ok done) start brand t t' seen m ws is_key value is w ok by_key = λ q.
    let w' : WorksOn start brand t' seen = subst (λ (x : TxnValue). WorksOn start brand x seen) (sym ok) (rewritten start brand t seen ws w) in
    sym (sees start brand t' seen w' q) ∙ by_key q ∙ ap (λ (o : Option Value). if is_key q then value else o) (sees-one start brand t seen m is w q)
sees-after (Err why) start brand t t' seen m ws is_key value is w ok by_key = tt

-- a fact of what it sees
pub of-seen : (start : Machine Value) (brand : ℕ) (t : TxnValue) (seen : Seen) (m : TxnMoment) (key : Key) (P : Option Value → Type 0)
    → record { txn = t; seen = seen } ≡ m → WorksOn start brand t seen → P (seen_by t key) → P (value_for m key)
of-seen start brand t seen m key P is w holds = subst P (sees-one start brand t seen m is w key) holds

-- a view that has what was seen at last has what was seen before
pub holds-then : (old now new : Seen) (r : Result ViewMoment AllocError) → IsLater old now → IfOk r (HoldsSeen now new) → IfOk r (HoldsSeen old new)
holds-then old now new (Ok v) later holds = (front-then old.published now.published v.seen.published later.published holds.0, holds.1)
holds-then old now new (Err why) later holds = holds
