-- What the calls under the lock tell their callers.
use Rattle.std.proofs.Common.{◌≡◌, ℕ, zero, suc, ◌<◌, ◌≤◌, ◌==◌, nat_le, Bool, true, false, cond, ◌+◌, List, [], ◌∷◌, length, map, take, drop, Result, Ok, Err}
use Rattle.std.proofs.Common.{MatchBool, refl, sym, ap, ◌∙◌, subst, arith}
use Rattle.std.specs.Prelude.{IfOk}
use Rattle.std.proofs.lemmas.Bool.Decides.{nat_tests}
use Rattle.std.specs.declared.alloc.AllocError.{AllocError}
use Rattle.std.specs.declared.alloc.Global.{Global}
use Rattle.std.specs.declared.vec.Vec.{Vec}
use Rattle.atomic_table.specs.Seated.{TableId}
use Rattle.history.specs.Answers as answers
use Rattle.history.specs.Histories.{History, HasRisingTimes, last}
use Rattle.history.specs.Machine.{Machine, IsMachine}
use Rattle.history.proofs.Tickets.{done-published}
use Rattle.law_image.specs.Values.{Value, IsValue}
use Rattle.chains.specs.KeyWrites.{KeyWrites}
use Rattle.snapshot.specs.Txn.{TxnValue, at_snapshot}
use Rattle.group.specs.Tickets.{TicketValue}
use Rattle.group.specs.declared.answers.BeginFault.{BeginFault}
use Rattle.group.specs.declared.answers.BeginFault.TheVariants as begin
use Rattle.group.specs.declared.answers.Redeemed.{Redeemed}
use Rattle.group.specs.declared.answers.Redeemed.TheVariants as redeemed
use Rattle.timequery.specs.View.{ViewValue}
use Rattle.timequery.specs.declared.fault.QueryFault.{QueryFault}
use Rattle.group.specs.Calls as calls
use Rattle.group.specs.CommitOrder.{is_awaited, last_published, last_time_after, IsRisingAfter}
use Rattle.group.specs.Values.{TransactionsValue}
use Rattle.group.specs.declared.commit_order.CommitHead.{CommitHead}
use Rattle.group.specs.declared.commit_order.TicketState.TheVariants as ticket_state
use Rattle.commits.specs.Calls as memory
use Rattle.commits.specs.Values.{CommitsValue, order_of}
use Rattle.any_store.specs.Calls as stores
use Rattle.any_store.specs.Queries as queries
use Rattle.any_store.specs.Values.{StoreValue, commits_of}
use Rattle.any_store.specs.declared.engine.Engine.TheVariants.{Slots, Log}
use Rattle.law_refinement.specs.Laws.{RedeemsAs}
use Rattle.law_refinement.specs.Standing.{Name, name_of, name_at}
use Rattle.law_commits.specs.Standing.{StandsInMemory}
use Rattle.law_log_queries.specs.Names.{SaysTimes}
use Rattle.law_any_store.specs.Leaving.{LeftByRedeem}
use Rattle.law_any_store.specs.Standing.{Stands}
use Rattle.law_any_store.proofs.Calls.{begin-stands, redeem-stands}
use Rattle.law_any_store.proofs.Leaving.{begin-leaves, redeem-leaves}
use Rattle.law_any_store.proofs.Marks.{view-mark}
use Rattle.law_any_store.proofs.Memory.{begun-sees, last-published}
use Rattle.law_any_store.proofs.Names.{times-told}
use Rattle.law_any_store.proofs.Views.{view-of-history}
use Rattle.shared.specs.Archives.{ArchiveSeen, ReadsArchive, archive_seen}
use Rattle.shared.specs.Counts.{awaited_upto, unredeemed}
use Rattle.shared.specs.Kinds.{Kind}
use Rattle.shared.specs.Moments.{OfSeen}
use Rattle.shared.specs.Seen.{Seen, SightValue, seen_of}
use Rattle.shared.specs.Shared.{IsShared, Shows, BeginHappens, AbortHappens, HasCommitAt, RedeemSays}
use Rattle.shared.proofs.Archives.{reads-taken}
use Rattle.shared.proofs.Awaiting.{queue-awaited}
use Rattle.shared.proofs.Counting.{rising-last, rising-take}
use Rattle.shared.proofs.Engines.{in-memory, is-machine, waiting-named, queue-rises, heads-many, published-told}
use Rattle.shared.proofs.Moves.{Aborting}

pub shows : (tells : Bool) (start : Machine Value) (kind : Kind) (brand : ℕ) (table : TableId) (v : StoreValue) (shares : ℕ) (at : TableId)
    (pass : SightValue) (archive : ArchiveSeen) (seen : Seen) (r : Result ViewValue AllocError) → IsShared tells start kind brand table v shares at pass
    → archive ≡ archive_seen tells v
    → seen ≡ pass.seen
    → IfOk r (queries.IsViewOf v) → IfOk r (λ w. Shows start brand archive w seen)
shows tells start kind brand table v shares at pass archive seen (Ok w) h known same of =
    let is = view-of-history tells v w h.state h.stands of in
    record {
      machine = h.state;
      reached = h.reached;
      seen_is = same ∙ h.seen;
      mark = view-mark tells v w h.state.published h.state.floors is.1 ∙ h.mark;
      stands = is.0;
      reads = subst (λ (a : ArchiveSeen). ReadsArchive a w h.state.published h.state.floors) (sym known)
          (reads-taken tells v w h.state.published h.state.floors is.1);
    }
shows tells start kind brand table v shares at pass archive seen (Err why) h known same of = tt

pub begin-happens : (tells : Bool) (start : Machine Value) (kind : Kind) (brand : ℕ) (table : TableId) (v new : StoreValue) (shares : ℕ) (at : TableId)
    (pass : SightValue) (seen : Seen) (r : Result TxnValue BeginFault) → IsShared tells start kind brand table v shares at pass → seen ≡ pass.seen
    → stores.Begins v r new
    → BeginHappens start brand r seen
begin-happens tells start kind brand table v new shares at pass seen (Ok txn) h same begins =
    let b = begin-leaves v new (Ok txn) begins in
    let did = begin-stands tells v new (Ok txn) h.state h.stands begins in
    record {
      machine = h.state;
      reached = h.reached;
      works = did.0.0;
      seen_is = same ∙ h.seen;
      mark = b.mark ∙ h.mark;
      snapshot = did.0.1;
      reads = λ key. ap (λ (s : List KeyWrites). at_snapshot s txn.snapshot key) b.state
          ∙ begun-sees (commits_of v) h.state (in-memory tells v h.state h.stands) (is-machine tells v h.state h.stands) txn.snapshot did.0.1 key;
      writes = b.writes;
    }
begin-happens tells start kind brand table v new shares at pass seen (Err begin.NoMemory) h same begins = (h.state, h.reached, same ∙ h.seen)
begin-happens tells start kind brand table v new shares at pass seen (Err begin.Failed) h same begins = (
  (h.state, h.reached, same ∙ h.seen),
  ap (λ (s : Seen). s.failed) (same ∙ h.seen)
      ∙ (begin-stands tells v new (Err begin.Failed) h.state h.stands begins).0.0,
)

-- an own transaction is given up
pub abort-happens : (tells : Bool) (start : Machine Value) (kind : Kind) (brand : ℕ) (table : TableId) (v new : StoreValue) (shares : ℕ) (at : TableId)
    (pass : SightValue) (seen : Seen) (t : TxnValue) (h : IsShared tells start kind brand table v shares at pass) → seen ≡ pass.seen
    → Aborting tells start h.state v new t
    → AbortHappens start t.snapshot seen
abort-happens tells start kind brand table v new shares at pass seen t h same a =
    record { before = h.state; after = a.after; reached = h.reached; step = a.step; seen_is = same ∙ h.seen ∙ sym (ap seen_of a.step.2) }

-- a ticket that is not redeemed yet is of a commit later than those that are published
abbrev Late : ℕ → TicketValue → Redeemed → Type 0
Late last k (redeemed.Done time) = Unit {0}
Late last k (redeemed.Waiting back) = last < k.time
Late last k redeemed.InDoubt = last < k.time
Late last k redeemed.Stranger = Unit {0}

late-by : (last : ℕ) (k : TicketValue) (failed : Bool) (r : Redeemed) → last < k.time → r ≡ cond failed redeemed.InDoubt (redeemed.Waiting k) → Late last k r
late-by last k true r late is = subst (λ (x : Redeemed). Late last k x) (sym is) late
late-by last k false r late is = subst (λ (x : Redeemed). Late last k x) (sym is) late

slots-late : (v new : TransactionsValue) (k : TicketValue) (r : Redeemed) → calls.Redeems v k r new → Late (calls.last v) k r
slots-late v new k r redeems = by-mark (k.mark == v.mark) (is_awaited k.time v.heads) (nat_le k.time (calls.last v)) refl redeems
  where
    is-late : (x : Redeemed) → r ≡ x → Late (calls.last v) k x → Late (calls.last v) k r
    is-late x is late = subst (λ (y : Redeemed). Late (calls.last v) k y) (sym is) late

    by-mark : (a b d : Bool) → nat_le k.time (calls.last v) ≡ d
        → MatchBool a (calls.AnswersTicket v k (cond b (cond d ticket_state.Published ticket_state.Waiting) ticket_state.Unknown) r
        new) ((r ≡ redeemed.Stranger) × (new ≡ v)) → Late (calls.last v) k r
    by-mark true true true early says = is-late (redeemed.Done k.time) says.0 tt
    by-mark true true false late says =
        let lt : calls.last v < k.time = grind (arith, nat_tests) in
        late-by (calls.last v) k v.failed r lt says.0
    by-mark true false d early says = is-late redeemed.Stranger says.0 tt
    by-mark false b d early says = is-late redeemed.Stranger says.0 tt

-- a head with the name of a later commit is later
awaited-named : (t s time : ℕ) (heads : List CommitHead) (h : History Value) → map name_at heads ≡ map name_of h → t ≤ s → HasRisingTimes s h
    → is_awaited time heads ≡ true → t < time
awaited-named t s time [] h named le rising waits = absurd cc
awaited-named t s time (x ∷ xs) [] named le rising waits = absurd cc
awaited-named t s time (x ∷ xs) (c ∷ cs) named le rising waits =
    by-test (λ behind low more. awaited-named t c.time time xs cs behind low rising.2 more) (x.time == time) refl waits
  where
    first : x.time ≡ c.time
    first = let it : name_at x ≡ name_of c = cc in ap (λ (n : Name). n.time) it

    behind : map name_at xs ≡ map name_of cs
    behind = cc

    by-test : (map name_at xs ≡ map name_of cs → t ≤ c.time → is_awaited time xs ≡ true → t < time) → (b : Bool) → (x.time == time) ≡ b
        → cond b x.awaited (is_awaited time xs) ≡ true → t < time
    by-test later true is one =
        let same : x.time ≡ time = grind (arith, nat_tests) in
        let above = rising.0 in
        omega (arith, same, first, above, le)
    by-test later false is rest = let above = rising.0 in later behind (omega (arith, above, le)) rest

-- so is one that is awaited behind the published ones
awaited-waits : (t s p time : ℕ) (heads : List CommitHead) (queue : History Value) → IsRisingAfter s heads → last_time_after s (take p heads) < time
    → map name_at (drop p heads) ≡ map name_of queue → HasRisingTimes t queue → is_awaited time heads ≡ true → t < time
awaited-waits t s zero time heads queue rising late named after waits = awaited-named t t time heads queue named (omega arith) after waits
awaited-waits t s (suc p) time [] queue rising late named after waits = absurd cc
awaited-waits t s (suc p) time (x ∷ xs) queue rising late named after waits =
    let least = rising-last x.time (take p xs) (rising-take x.time p xs rising.2) in
    let low : x.time < time = omega (arith, least, late) in
    let other : (x.time == time) ≡ false = grind (arith, nat_tests) in
    awaited-waits t x.time p time xs queue rising.2 late named after
    (subst (λ (b : Bool). cond b x.awaited (is_awaited time xs) ≡ true) other waits)

-- of a log, some of whose names may have left memory
heads-late : (v new : CommitsValue) (m : Machine Value) (k : TicketValue) (r : Redeemed) → StandsInMemory v m → IsMachine IsValue m → memory.Redeems v k r new
    → Late (last m.published) k r
heads-late v new m k r stands machine redeems =
    by-mark (k.mark == v.mark) (is_awaited k.time v.heads) refl (nat_le k.time (last_published (order_of v))) refl redeems
  where
    is-late : (x : Redeemed) → r ≡ x → Late (last m.published) k x → Late (last m.published) k r
    is-late x is late = subst (λ (y : Redeemed). Late (last m.published) k y) (sym is) late

    by-mark : (a b : Bool) → is_awaited k.time v.heads ≡ b → (d : Bool) → nat_le k.time (last_published (order_of v)) ≡ d
        → MatchBool a (memory.AnswersTicket v k (cond b (cond d ticket_state.Published ticket_state.Waiting) ticket_state.Unknown) r
        new) ((r ≡ redeemed.Stranger) × (new ≡ v)) → Late (last m.published) k r
    by-mark true true waits true early says = is-late (redeemed.Done k.time) says.0 tt
    by-mark true true waits false late says =
        let lt : last_published (order_of v) < k.time = grind (arith, nat_tests) in
        late-by (last m.published) k v.failed r
        (awaited-waits (last m.published) 0 v.published k.time v.heads m.queue stands.rising lt (waiting-named v m stands) (queue-rises m machine) waits) says.0
    by-mark true false none d early says = is-late redeemed.Stranger says.0 tt
    by-mark false b is d early says = is-late redeemed.Stranger says.0 tt

redeem-late : (tells : Bool) (v new : StoreValue) (m : Machine Value) (k : TicketValue) (r : Redeemed) → Stands tells v m → stores.Redeems v k r new
    → Late (last m.published) k r
redeem-late tells (Slots s) (Slots s') m k r stands redeems =
    subst (λ (n : ℕ). Late n k r) (last-published tells (Slots s) m stands) (slots-late s.transactions s'.transactions k r redeems.transactions)
redeem-late tells (Slots s) (Log l') m k r stands redeems = absurd redeems
redeem-late tells (Log l) (Slots s') m k r stands redeems = absurd redeems
redeem-late tells (Log l) (Log l') m k r stands redeems =
    heads-late l.commits l'.commits m k r (in-memory tells (Log l) m stands) (is-machine tells (Log l) m stands) redeems.is

doubt-failed : (published failed : Bool) (time : ℕ) → cond published (answers.Done time) (cond failed answers.InDoubt answers.Waiting) ≡ answers.InDoubt
    → failed ≡ true
doubt-failed true failed time is = absurd cc
doubt-failed false true time is = refl
doubt-failed false false time is = absurd cc

waiting-works : (published failed : Bool) (time : ℕ) → cond published (answers.Done time) (cond failed answers.InDoubt answers.Waiting) ≡ answers.Waiting
    → failed ≡ false
waiting-works true failed time is = absurd cc
waiting-works false true time is = absurd cc
waiting-works false false time is = refl

pub redeem-says : (tells : Bool) (start : Machine Value) (kind : Kind) (brand : ℕ) (table : TableId) (v new : StoreValue) (shares : ℕ) (at : TableId)
    (pass : SightValue) (seen : Seen) (k : TicketValue) (r : Redeemed) → IsShared tells start kind brand table v shares at pass → seen ≡ pass.seen
    → stores.Redeems v k r new
    → RedeemSays brand k r seen
redeem-says tells start kind brand table v new shares at pass seen k r h same redeems =
    by-result r (redeem-leaves v new k r redeems) (redeem-stands tells v new k r h.state h.stands redeems).0
    (redeem-late tells v new h.state k r h.stands redeems)
  where
    is : seen ≡ seen_of h.state
    is = same ∙ h.seen

    failed : seen.failed ≡ h.state.failed
    failed = ap (λ (s : Seen). s.failed) is

    later : last h.state.published < k.time → last seen.published < k.time
    later late = let there : last seen.published ≡ last h.state.published = ap (λ (s : Seen). last s.published) is in omega (arith, there, late)

    by-result : (x : Redeemed) → LeftByRedeem (commits_of v) (stores.last v) k x (commits_of new) → RedeemsAs (answers.redeemed_by h.state k.time) x
        → Late (last h.state.published) k x → RedeemSays brand k x seen
    by-result (redeemed.Done time) left says late =
        let published : HasCommitAt h.state.published time =
        (done-published h.state time).0 (subst (λ (t : ℕ). answers.redeemed_by h.state t ≡ answers.Done time) (sym left.0) says) in
        (left.0, subst (λ (s : Seen). HasCommitAt s.published time) (sym is) published)
    by-result (redeemed.Waiting back) left says late =
        (left.0, later late, failed ∙ waiting-works (answers.is_published h.state k.time) h.state.failed k.time says)
    by-result redeemed.InDoubt left says late = (later late, failed ∙ doubt-failed (answers.is_published h.state k.time) h.state.failed k.time says)
    by-result redeemed.Stranger left says late = λ own waits.
        let there : HasCommitAt h.state.queue k.time = subst (λ (s : Seen). HasCommitAt s.queue k.time) is waits in
        left.1 (own ∙ sym h.mark) (queue-awaited tells start kind brand table v shares at pass h k.time there)

-- the published commits are those at opening, those in the shares and those for which Done was not answered yet
pub counted : (tells : Bool) (start : Machine Value) (kind : Kind) (brand : ℕ) (table : TableId) (v : StoreValue) (shares : ℕ) (at : TableId)
    (pass : SightValue) (h : IsShared tells start kind brand table v shares at pass) → length h.state.published ≡ length start.published + shares + unredeemed v
counted tells start kind brand table v shares at pass h =
    let c = commits_of v in
    let m = h.state in
    let stands = in-memory tells v m h.stands in
    let count = published-told c m stands (is-machine tells v m h.stands) h.none_waits in
    let same : stores.last v ≡ last m.published = last-published tells v m h.stands in
    let waits : unredeemed v ≡ awaited_upto (last m.published) c.heads = ap (λ (n : ℕ). awaited_upto n c.heads) same in
    let many = heads-many c m stands in
    let told = h.told in
    omega (arith, count, waits, many, told)

-- the times of a label are those of the history that was seen
pub times-say : (tells : Bool) (start : Machine Value) (kind : Kind) (brand : ℕ) (table : TableId) (v new : StoreValue) (shares : ℕ) (at : TableId)
    (pass : SightValue) (seen : Seen) (label : ℕ) (r : Result (Vec ℕ Global) QueryFault) → IsShared tells start kind brand table v shares at pass
    → seen ≡ pass.seen → queries.AnswersTimes tells v label r new
    → OfSeen start seen (λ m. SaysTimes tells kind.in_heap kind.names_from (answers.times_of m.published label) r)
times-say tells start kind brand table v new shares at pass seen label r h same asks = (
  h.state,
  h.reached,
  same ∙ h.seen,
  subst (λ (k : Kind). SaysTimes tells k.in_heap k.names_from (answers.times_of h.state.published label) r) h.layout
      (times-told tells v new h.state label r h.stands asks),
)
