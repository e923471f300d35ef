-- What was submitted is what is published.
use Rattle.std.proofs.Common.{◌≡◌, ℕ, ◌^◌, nat_lt, Bool, true, false, cond, List, [], ◌∷◌, ◌++◌, Option, Some, None, is_some, unwrap_or, Result, Ok, Err, inl}
use Rattle.std.proofs.Common.{inr, refl, sym, ap, ◌∙◌, subst, ⊎_elim, arith, map}
use Rattle.std.specs.Prelude.{Contains}
use Rattle.std.proofs.lemmas.List.Elements.{Contains-append_left, Contains-append_right, Contains-append_cases}
use Rattle.history.specs.declared.key.Key.{Key}
use Rattle.history.specs.declared.key.KeyWrite.{KeyWrite}
use Rattle.history.specs.Histories.{Commit, History, IsHistory, HasRisingTimes, last, state}
use Rattle.history.specs.Key.{write_in}
use Rattle.history.specs.Machine.{Machine}
use Rattle.history.specs.Submissions.{Submission, Decision, Queues, Ends, decision_on, unless_conflict, conflict_of, commit_made}
use Rattle.history.proofs.Histories.{rising-from_following}
use Rattle.history.proofs.Members.{Contains-cons_cases, Contains-head, Contains-nil}
use Rattle.law_image.specs.Values.{Value, IsValue}
use Rattle.snapshot.specs.Txn.{TxnValue, at_snapshot}
use Rattle.snapshot.specs.WriteSets.{with_write, without}
use Rattle.snapshot.specs.declared.txn.TxnFault.{TxnFault}
use Rattle.snapshot.specs.declared.txn.TxnFault.TheVariants as txn_fault
use Rattle.group.specs.Tickets.{TicketValue}
use Rattle.group.specs.declared.answers.BeginFault.{BeginFault}
use Rattle.group.specs.declared.answers.BeginFault.TheVariants as begin
use Rattle.group.specs.declared.answers.Submitted.{Submitted}
use Rattle.group.specs.declared.answers.Submitted.TheVariants as submitted
use Rattle.group.specs.declared.answers.SubmitFault.{SubmitFault}
use Rattle.law_refinement.specs.Laws.{submission_of}
use Rattle.shared.specs.declared.change.Change.{Change}
use Rattle.shared.specs.declared.committed.Committed.{Committed}
use Rattle.shared.specs.declared.committed.Committed.TheVariants as committed
use Rattle.shared.specs.declared.committed.CommitFault.{CommitFault}
use Rattle.shared.specs.declared.committed.CommitFault.TheVariants as fault
use Rattle.shared.specs.Commits.{WaitSays, ArePublished, AreRefused, AreSubmitted, CommitHappens}
use Rattle.shared.specs.Posted.{Asked, GivenUp, ServedSays, IsBarred, AreBarred, HaveBadValue, AreUncopied, write_of, wrote, written}
use Rattle.shared.specs.Seen.{Seen, seen_of, order_of, IsLater}
use Rattle.shared.specs.Shared.{Submits, SubmitHappens, HasCommitAt, queued_seen}
use Rattle.shared.specs.Shared as shared
use Rattle.history.specs.Submissions as submissions
use Rattle.shared.proofs.Awaiting.{later-time}
use Rattle.shared.proofs.Fronts.{front-then, later-then}
use Rattle.shared.proofs.Stepping.{submit-seen}

-- there is one commit of a time
one-at-a-time : (t : ℕ) (h : History Value) (c d : Commit Value) → HasRisingTimes t h → Contains h c → Contains h d → c.time ≡ d.time → c ≡ d
one-at-a-time t [] c d rising has has' same = absurd (Contains-nil c has)
one-at-a-time t (x ∷ xs) c d rising has has' same = ⊎_elim
    (λ (is : x ≡ c). ⊎_elim
    (λ (is' : x ≡ d). sym is ∙ is')
    (λ (more : Contains xs d). let later = later-time x.time xs d rising.2 more in let at : x.time ≡ c.time =
    ap (λ (y : Commit Value). y.time) is in absurd (omega (arith, later, at, same)))
    (Contains-cons_cases x xs d has'))
    (λ (more : Contains xs c). ⊎_elim
    (λ (is' : x ≡ d). let later = later-time x.time xs c rising.2 more in let at : x.time ≡ d.time =
    ap (λ (y : Commit Value). y.time) is' in absurd (omega (arith, later, at, same)))
    (λ (more' : Contains xs d). one-at-a-time x.time xs c d rising.2 more more' same)
    (Contains-cons_cases x xs d has'))
    (Contains-cons_cases x xs c has)

-- the commit that was queued is in the commit order from then on
ordered : (start : Machine Value) (brand : ℕ) (txn : TxnValue) (label now : ℕ) (ticket : TicketValue) (before after : Seen)
    → (s : Submits start brand txn label now (Ok (submitted.Queued ticket)) before) → IsLater before after
    → Contains (order_of after) (commit_made s.before (submission_of txn label now))
ordered start brand txn label now ticket before after s later =
    let c = commit_made s.before (submission_of txn label now) in
    let is : before ≡ queued_seen (seen_of s.before) c =
    s.seen_is ∙ submit-seen s.before s.after (submission_of txn label now) (Ok (submitted.Queued ticket)) s.step in
    let queued : Contains (order_of before) c = subst (λ (x : Seen). Contains (order_of x) c) (sym is)
    (Contains-append_right s.before.published (s.before.queue ++ c ∷ []) c (Contains-append_right s.before.queue (c ∷ []) c (Contains-head c [] c refl))) in
    subst (λ (h : History Value). Contains h c) (sym later.order.1) (Contains-append_left (order_of before) later.order.0 c queued)

-- it is the one that is published
commit-stands : (start : Machine Value) (brand : ℕ) (txn : TxnValue) (label now : ℕ) (ticket : TicketValue) (before after : Seen) (time : ℕ)
    → Submits start brand txn label now (Ok (submitted.Queued ticket)) before → IsLater before after
    → IsHistory IsValue (order_of after) → time ≡ ticket.time → HasCommitAt after.published time
    → Contains after.published (record { time = time; label = label; writes = txn.writes })
commit-stands start brand txn label now ticket before after time s later legal at found =
    let c = commit_made s.before (submission_of txn label now) in
    let here : Contains (order_of after) c = ordered start brand txn label now ticket before after s later in
    let there : Contains (order_of after) found.0 = Contains-append_left after.published after.queue found.0 found.1 in
    let same : c.time ≡ found.0.time = sym s.says.1 ∙ sym at ∙ sym found.2 in
    let one : c ≡ found.0 = one-at-a-time 0 (order_of after) c found.0 (rising-from_following IsValue [] (order_of after) legal) here there same in
    let published : Contains after.published c = subst (λ (x : Commit Value). Contains after.published x) (sym one) found.1 in
    subst (λ (t : ℕ). Contains after.published (record { time = t; label = label; writes = txn.writes })) (sym s.says.1 ∙ sym at) published

-- ---- changes

wrote-same : (f g : Key → Option Value) (writes : List (KeyWrite Value)) (key : Key) (value : Option Value) → f key ≡ g key → wrote f writes key value
    ≡ wrote g writes key value
wrote-same f g writes key (Some value) same = refl
wrote-same f g writes key None same =
    ap (λ (o : Option Value). cond (is_some o) (with_write writes (record { key = key; write = None })) (without writes key)) same

written-same : (f g : Key → Option Value) (writes changes : List (KeyWrite Value)) → ((key : Key) → f key ≡ g key) → written f writes changes
    ≡ written g writes changes
written-same f g writes [] same = refl
written-same f g writes (w ∷ ws) same =
    written-same f g (wrote f writes w.key w.write) ws same
    ∙ ap (λ (l : List (KeyWrite Value)). written g l ws) (wrote-same f g writes w.key w.write (same w.key))

barred-same : (f g : Key → Option Value) (writes : List (KeyWrite Value)) (w : KeyWrite Value) (why : TxnFault) → f w.key ≡ g w.key → IsBarred f writes w why
    → IsBarred g writes w why
barred-same f g writes w txn_fault.Missing same is = (is.0, ap (λ (o : Option Value). unwrap_or (write_in writes w.key) o) (sym same) ∙ is.1)
barred-same f g writes w txn_fault.TooManyKeys same is = is
barred-same f g writes w txn_fault.BadValue same is = is
barred-same f g writes w txn_fault.NoMemory same is = tt

are-barred-same : (f g : Key → Option Value) (writes changes : List (KeyWrite Value)) (why : TxnFault) → ((key : Key) → f key ≡ g key)
    → AreBarred f writes changes why → AreBarred g writes changes why
are-barred-same f g writes [] why same none = none
are-barred-same f g writes (w ∷ ws) why same (inl one) = inl (barred-same f g writes w why (same w.key) one)
are-barred-same f g writes (w ∷ ws) why same (inr more) =
    inr (subst (λ (l : List (KeyWrite Value)). AreBarred g l ws why) (wrote-same f g writes w.key w.write (same w.key))
    (are-barred-same f g (wrote f writes w.key w.write) ws why same more))

barred-bad : (f : Key → Option Value) (writes changes : List (KeyWrite Value)) → AreBarred f writes changes txn_fault.BadValue → HaveBadValue changes
barred-bad f writes [] none = none
barred-bad f writes (w ∷ ws) (inl one) = inl one
barred-bad f writes (w ∷ ws) (inr more) = inr (barred-bad f (wrote f writes w.key w.write) ws more)

-- what a transaction reads that began on what was seen
begun-reads : (start : Machine Value) (brand : ℕ) (begun : TxnValue) (seen : Seen) → shared.Reads start brand begun seen → (key : Key)
    → at_snapshot begun.state begun.snapshot key ≡ state seen.published (last seen.published) key
begun-reads start brand begun seen r key =
    let at : begun.snapshot ≡ last seen.published = r.snapshot ∙ ap (λ (s : Seen). last s.published) (sym r.seen_is) in
    r.reads key ∙ ap (λ (s : Seen). state s.published begun.snapshot key) (sym r.seen_is) ∙ ap (λ (t : ℕ). state seen.published t key) at

-- what it wrote
begun-writes : (start : Machine Value) (brand : ℕ) (begun : TxnValue) (seen : Seen) (changes writes : List (KeyWrite Value))
    → shared.Reads start brand begun seen → writes ≡ written (at_snapshot begun.state begun.snapshot) begun.writes changes
    → writes ≡ written (state seen.published (last seen.published)) [] changes
begun-writes start brand begun seen changes writes r is =
    is ∙ ap (λ (ws : List (KeyWrite Value)). written (at_snapshot begun.state begun.snapshot) ws changes) r.writes
    ∙ written-same (at_snapshot begun.state begun.snapshot) (state seen.published (last seen.published)) [] changes (begun-reads start brand begun seen r)

-- and what it could not write
begun-barred : (start : Machine Value) (brand : ℕ) (begun : TxnValue) (seen : Seen) (changes : List (KeyWrite Value)) (why : TxnFault)
    → shared.Reads start brand begun seen → AreBarred (at_snapshot begun.state begun.snapshot) begun.writes changes why
    → AreBarred (state seen.published (last seen.published)) [] changes why
begun-barred start brand begun seen changes why r barred =
    are-barred-same (at_snapshot begun.state begun.snapshot) (state seen.published (last seen.published)) [] changes why (begun-reads start brand begun seen r)
    (subst (λ (ws : List (KeyWrite Value)). AreBarred (at_snapshot begun.state begun.snapshot) ws changes why) r.writes barred)

-- ---- what a call comes to

submitted-then : (start : Machine Value) (brand : ℕ) (changes : List Change) (writes : List (KeyWrite Value)) (label : ℕ) (r : Result Submitted SubmitFault)
    (seen after : Seen) → map write_of changes ≡ writes → Asked start brand writes label r seen → IsLater seen after
    → AreSubmitted start brand changes label r after
submitted-then start brand changes writes label r seen after same asked later =
    record { moment = seen; asked = subst (λ (ws : List (KeyWrite Value)). Asked start brand ws label r seen) (sym same) asked; later = later }

-- a commit that waited is the one that is published
published-as : (start : Machine Value) (brand : ℕ) (changes : List Change) (writes : List (KeyWrite Value)) (label time : ℕ) (ticket : TicketValue)
    (seen after : Seen) → map write_of changes ≡ writes → (w : Asked start brand writes label (Ok (submitted.Queued ticket)) seen) → IsLater seen after
    → Contains after.published (record { time = time; label = label; writes = w.txn.writes }) → ArePublished changes label time after
published-as start brand changes writes label time ticket seen after same w later has =
    let before : Key → Option Value = state w.first.published (last w.first.published) in
    let made : w.txn.writes ≡ written before [] (map write_of changes) =
    begun-writes start brand w.begun w.first writes w.txn.writes w.reads w.made ∙ ap (written before []) (sym same) in
    record {
      snapshot = w.first.published;
      front = (later-then w.first seen after w.early later).published;
      has = subst (λ (ws : List (KeyWrite Value)). Contains after.published (record { time = time; label = label; writes = ws })) made has;
    }

-- a commit that waited is published, unless it waits still
no-longer : (start : Machine Value) (brand : ℕ) (txn : TxnValue) (label now : ℕ) (ticket : TicketValue) (before after : Seen)
    → Submits start brand txn label now (Ok (submitted.Queued ticket)) before → IsLater before after
    → (HasCommitAt after.queue ticket.time → ⊥) → Contains after.published (record { time = ticket.time; label = label; writes = txn.writes })
no-longer start brand txn label now ticket before after s later gone =
    let c = commit_made s.before (submission_of txn label now) in
    let here : Contains (order_of after) c = ordered start brand txn label now ticket before after s later in
    ⊎_elim
    (λ (there : Contains after.published c). subst (λ (t : ℕ). Contains after.published (record { time = t; label = label; writes = txn.writes }))
    (sym s.says.1) there)
    (λ (waits : Contains after.queue c). absurd (gone (c, waits, sym s.says.1)))
    (Contains-append_cases after.published after.queue c here)

-- by what waiting for its ticket came to
pub commit-waits : (start : Machine Value) (brand : ℕ) (changes : List Change) (writes : List (KeyWrite Value)) (label : ℕ) (ticket : TicketValue)
    (seen after : Seen) (r : Result Committed CommitFault) → map write_of changes ≡ writes
    → Asked start brand writes label (Ok (submitted.Queued ticket)) seen → IsLater seen after → WaitSays brand ticket r after
    → CommitHappens start brand changes label r after
commit-waits start brand changes writes label ticket seen after (Ok (committed.Done time)) same w later says =
    published-as start brand changes writes label time ticket seen after same w later
    (commit-stands start brand w.txn label w.now ticket seen after time w.submits later says.2 says.0 says.1)
commit-waits start brand changes writes label ticket seen after (Ok (committed.ReadOnly time)) same w later says = absurd says
commit-waits start brand changes writes label ticket seen after (Err (fault.Begin why)) same w later says = absurd says
commit-waits start brand changes writes label ticket seen after (Err (fault.Txn why)) same w later says = absurd says
commit-waits start brand changes writes label ticket seen after (Err (fault.Submit why)) same w later says = absurd says
commit-waits start brand changes writes label ticket seen after (Err fault.InDoubt) same w later says =
    record {
      ticket = ticket;
      queued = submitted-then start brand changes writes label (Ok (submitted.Queued ticket)) seen after same w later;
      early = says.0;
      failed = says.1;
    }
commit-waits start brand changes writes label ticket seen after (Err fault.Stranger) same w later says = (
  ticket.time,
  published-as start brand changes writes label ticket.time ticket seen after same w later
      (no-longer start brand w.txn label w.now ticket seen after w.submits later (says w.submits.says.0)),
)

-- one that came to no write did not wait
pub commit-reads : (start : Machine Value) (brand : ℕ) (changes : List Change) (writes : List (KeyWrite Value)) (label time : ℕ) (seen after : Seen)
    → map write_of changes ≡ writes
    → ServedSays start brand writes label (Ok (submitted.ReadOnly time)) seen → IsLater seen after
    → CommitHappens start brand changes label (Ok (committed.ReadOnly time)) after
commit-reads start brand changes writes label time seen after same says later = record {
  snapshot = says.0;
  front = front-then says.0 seen.published after.published says.1 later.published;
  time_is = says.2;
  none = ap (written (state says.0 (last says.0)) []) same ∙ says.3;
}

refused-as : (start : Machine Value) (brand : ℕ) (changes : List Change) (writes : List (KeyWrite Value)) (why : TxnFault) (seen after : Seen)
    → map write_of changes ≡ writes → GivenUp start brand writes why seen → IsLater seen after → AreRefused changes why after
refused-as start brand changes writes why seen after same g later = record {
  snapshot = g.first.published;
  front = (later-then g.first seen after g.early later).published;
  barred = subst (λ (ws : List (KeyWrite Value)). AreBarred (state g.first.published (last g.first.published)) [] ws why) (sym same)
      (begun-barred start brand g.begun g.first writes why g.reads g.barred);
}

-- nor did one that was refused
pub commit-refused : (start : Machine Value) (brand : ℕ) (changes : List Change) (writes : List (KeyWrite Value)) (label : ℕ) (why : CommitFault)
    (seen after : Seen) → map write_of changes ≡ writes
    → ServedSays start brand writes label (Err why) seen → IsLater seen after → CommitHappens start brand changes label (Err why) after
commit-refused start brand changes writes label (fault.Begin begin.NoMemory) seen after same says later = tt
commit-refused start brand changes writes label (fault.Begin begin.Failed) seen after same says later = later.failed says
commit-refused start brand changes writes label (fault.Txn txn_fault.NoMemory) seen after same says later = tt
commit-refused start brand changes writes label (fault.Txn txn_fault.BadValue) seen after same says later =
    subst (λ (ws : List (KeyWrite Value)). HaveBadValue ws) (sym same)
    (barred-bad (at_snapshot says.begun.state says.begun.snapshot) says.begun.writes writes says.barred)
commit-refused start brand changes writes label (fault.Txn txn_fault.TooManyKeys) seen after same says later =
    refused-as start brand changes writes txn_fault.TooManyKeys seen after same says later
commit-refused start brand changes writes label (fault.Txn txn_fault.Missing) seen after same says later =
    refused-as start brand changes writes txn_fault.Missing seen after same says later
commit-refused start brand changes writes label (fault.Submit why) seen after same says later =
    submitted-then start brand changes writes label (Err why) seen after same says later
commit-refused start brand changes writes label fault.InDoubt seen after same says later = absurd says
commit-refused start brand changes writes label fault.Stranger seen after same says later = absurd says

uncopied-bad : (changes : List (KeyWrite Value)) → AreUncopied changes txn_fault.BadValue → HaveBadValue changes
uncopied-bad [] none = none
uncopied-bad (w ∷ ws) (inl one) = inl one
uncopied-bad (w ∷ ws) (inr more) = inr (uncopied-bad ws more)

uncopied-there : (changes : List (KeyWrite Value)) → AreUncopied changes txn_fault.Missing → ⊥
uncopied-there [] none = none
uncopied-there (w ∷ ws) (inl one) = one
uncopied-there (w ∷ ws) (inr more) = uncopied-there ws more

uncopied-few : (changes : List (KeyWrite Value)) → AreUncopied changes txn_fault.TooManyKeys → ⊥
uncopied-few [] none = none
uncopied-few (w ∷ ws) (inl one) = one
uncopied-few (w ∷ ws) (inr more) = uncopied-few ws more

-- nor one that could not be copied
pub commit-uncopied : (start : Machine Value) (brand : ℕ) (changes : List Change) (label : ℕ) (why : TxnFault) (seen : Seen)
    → AreUncopied (map write_of changes) why → CommitHappens start brand changes label (Err (fault.Txn why)) seen
commit-uncopied start brand changes label txn_fault.Missing seen is = absurd (uncopied-there (map write_of changes) is)
commit-uncopied start brand changes label txn_fault.TooManyKeys seen is = absurd (uncopied-few (map write_of changes) is)
commit-uncopied start brand changes label txn_fault.BadValue seen is = uncopied-bad (map write_of changes) is
commit-uncopied start brand changes label txn_fault.NoMemory seen is = tt

-- ---- what the committer leaves

reads-nothing : (m : Machine Value) (s : Submission Value) (ws : List (KeyWrite Value)) → Path (Decision Value) submissions.Reads (decision_on m s ws) → ws ≡ []
reads-nothing m s [] is = refl
reads-nothing m s (w ∷ ws) is = absurd (none (conflict_of m s) (nat_lt (commit_made m s).time (2 ^ 63)) is)
  where
    none : (o : Option Key) (b : Bool) → Path (Decision Value) submissions.Reads (unless_conflict o (cond b (Queues (commit_made m s)) Ends)) → ⊥
    none (Some key) b is = absurd cc
    none None true is = absurd cc
    none None false is = absurd cc

-- by the answer to the submit of a transaction that made these changes
pub serves : (start : Machine Value) (brand : ℕ) (begun txn : TxnValue) (label now : ℕ) (writes : List (KeyWrite Value)) (first seen : Seen) (r : Submitted)
    → shared.Reads start brand begun first
    → txn.snapshot ≡ begun.snapshot → txn.writes ≡ written (at_snapshot begun.state begun.snapshot) begun.writes writes → IsLater first seen
    → SubmitHappens start brand txn label now (Ok r) seen → ServedSays start brand writes label (Ok r) seen
serves start brand begun txn label now writes first seen (submitted.Queued ticket) r at made early s = record {
  first = first;
  begun = begun;
  txn = txn;
  now = now;
  reads = r;
  made = made;
  early = early;
  submits = s;
}
serves start brand begun txn label now writes first seen (submitted.ReadOnly time) r at made early s = (
  first.published,
  early.published,
  s.says ∙ at ∙ r.snapshot ∙ ap (λ (x : Seen). last x.published) (sym r.seen_is),
  sym (begun-writes start brand begun first writes txn.writes r made) ∙ reads-nothing s.before (submission_of txn label now) txn.writes s.step.2,
)

pub serves-refused : (start : Machine Value) (brand : ℕ) (begun txn : TxnValue) (label now : ℕ) (writes : List (KeyWrite Value)) (first seen : Seen)
    (why : SubmitFault) → shared.Reads start brand begun first
    → txn.writes ≡ written (at_snapshot begun.state begun.snapshot) begun.writes writes → IsLater first seen
    → SubmitHappens start brand txn label now (Err why) seen → ServedSays start brand writes label (Err (fault.Submit why)) seen
serves-refused start brand begun txn label now writes first seen why r made early s = record {
  first = first;
  begun = begun;
  txn = txn;
  now = now;
  reads = r;
  made = made;
  early = early;
  submits = s;
}

-- where no transaction began
pub serves-none : (start : Machine Value) (brand : ℕ) (writes : List (KeyWrite Value)) (label : ℕ) (why : BeginFault) (seen : Seen)
    → shared.BeginHappens start brand (Err why) seen → ServedSays start brand writes label (Err (fault.Begin why)) seen
serves-none start brand writes label begin.NoMemory seen happens = happens
serves-none start brand writes label begin.Failed seen happens = happens.1

-- and where one was given up
pub serves-given_up : (start : Machine Value) (brand : ℕ) (begun txn : TxnValue) (label : ℕ) (writes : List (KeyWrite Value)) (first seen : Seen)
    (why : TxnFault) → shared.Reads start brand begun first → txn.snapshot ≡ begun.snapshot
    → AreBarred (at_snapshot begun.state begun.snapshot) begun.writes writes why → IsLater first seen → shared.AbortHappens start txn.snapshot seen
    → ServedSays start brand writes label (Err (fault.Txn why)) seen
serves-given_up start brand begun txn label writes first seen why r at barred early over = record {
  first = first;
  begun = begun;
  reads = r;
  barred = barred;
  early = early;
  over = subst (λ (n : ℕ). shared.AbortHappens start n seen) at over;
}
