-- Tickets and labels answer as the machine does.
use Rattle.std.proofs.Common.{◌≡◌, ℕ, zero, suc, ◌<◌, ◌≤◌, ◌==◌, ◌||◌, nat_le, Bool, true, false, cond, List, [], ◌∷◌, length, take, map, MatchBool, refl}
use Rattle.std.proofs.Common.{arith, ap, sym, subst, ◌∙◌, inl, inr}
use Rattle.std.specs.List.{list_any, filter}
use Rattle.std.proofs.lemmas.Bool.{cases_eq}
use Rattle.std.proofs.lemmas.Bool.Decides.{nat_tests}
use Rattle.history.specs.Histories.{Commit, History}
use Rattle.history.specs.Machine.{Machine}
use Rattle.history.specs.Answers as answers
use Rattle.law_image.specs.Values.{Value}
use Rattle.group.specs.CommitOrder as orders
use Rattle.group.specs.CommitOrder.{IsRisingAfter, is_awaited, last_time_after, last_published, state_of_ticket}
use Rattle.group.specs.Tickets.{TicketValue}
use Rattle.group.specs.declared.commit_order.CommitHead.{CommitHead}
use Rattle.group.specs.declared.commit_order.TicketState.{TicketState}
use Rattle.group.specs.declared.commit_order.TicketState.TheVariants as ticket_state
use Rattle.group.specs.declared.answers.Redeemed.{Redeemed}
use Rattle.group.specs.declared.answers.Redeemed.TheVariants as redeemed
use Rattle.group.proofs.Heads.{redeemed-rising}
use Rattle.group.specs.Values.{TransactionsValue}
use Rattle.group.specs.Calls as calls
use Rattle.law_refinement.specs.Standing.{Name, name_of, name_at, StandsInMemory}
use Rattle.law_refinement.specs.Laws.{RedeemsAs}
use Rattle.law_refinement.proofs.Names.{front-named}

-- ---- where a time stands among the commits

awaited-later : (t time : ℕ) (heads : List CommitHead) → IsRisingAfter t heads → is_awaited time heads ≡ true → t < time
awaited-later t time [] rising waits = absurd cc
awaited-later t time (x ∷ xs) rising waits =
    elim (cases_eq x.time time) [
      | inl same ↦ omega (arith, rising.0, same)
      | inr other ↦
          let test : (x.time == time) ≡ false = grind (arith, nat_tests) in
          let rest : is_awaited time xs ≡ true = subst (λ (b : Bool). cond b x.awaited (is_awaited time xs) ≡ true) test waits in
          omega (arith, rising.0, awaited-later x.time time xs rising.2 rest)
    ]

published-in : (t time n : ℕ) (heads : List CommitHead) → IsRisingAfter t heads → is_awaited time heads ≡ true → time ≤ last_time_after t (take n heads)
    → list_any (λ (head : CommitHead). head.time == time) (take n heads) ≡ true
published-in t time zero heads rising waits early = absurd (omega (arith, awaited-later t time heads rising waits, early))
published-in t time (suc n) [] rising waits early = absurd cc
published-in t time (suc n) (x ∷ xs) rising waits early =
    elim (cases_eq x.time time) [
      | inl same ↦ let test : (x.time == time) ≡ true = grind (arith, nat_tests) in rw test refl
      | inr other ↦
          let test : (x.time == time) ≡ false = grind (arith, nat_tests) in
          let rest : is_awaited time xs ≡ true = subst (λ (b : Bool). cond b x.awaited (is_awaited time xs) ≡ true) test waits in
          rw test (published-in x.time time n xs rising.2 rest early)
    ]

last-least : (t n : ℕ) (heads : List CommitHead) → IsRisingAfter t heads → t ≤ last_time_after t (take n heads)
last-least t zero heads rising = omega arith
last-least t (suc n) [] rising = omega arith
last-least t (suc n) (x ∷ xs) rising = omega (arith, rising.0, last-least x.time n xs rising.2)

late-none : (t time n : ℕ) (heads : List CommitHead) → IsRisingAfter t heads → last_time_after t (take n heads) < time
    → list_any (λ (head : CommitHead). head.time == time) (take n heads) ≡ false
late-none t time zero heads rising late = refl
late-none t time (suc n) [] rising late = refl
late-none t time (suc n) (x ∷ xs) rising late =
    let low = last-least x.time n xs rising.2 in
    let test : (x.time == time) ≡ false = let less : x.time < time = omega arith in grind (arith, nat_tests) in
    rw test (late-none x.time time n xs rising.2 late)

named-any : (time : ℕ) (heads : List CommitHead) (h : History Value) → map name_at heads ≡ map name_of h
    → list_any (λ (head : CommitHead). head.time == time) heads ≡ list_any (λ (c : Commit Value). c.time == time) h
named-any time [] [] same = refl
named-any time [] (c ∷ cs) same = absurd cc
named-any time (x ∷ xs) [] same = absurd cc
named-any time (x ∷ xs) (c ∷ cs) same =
    let first : name_at x ≡ name_of c = cc in
    let rest : map name_at xs ≡ map name_of cs = cc in
    let times : x.time ≡ c.time = ap (λ (n : Name). n.time) first in
    ap (λ (k : ℕ). (k == time) || list_any (λ (head : CommitHead). head.time == time) xs) times
    ∙ ap (λ (b : Bool). (c.time == time) || b) (named-any time xs cs rest)

named-times : (label : ℕ) (heads : List CommitHead) (h : History Value) → map name_at heads ≡ map name_of h
    → map (λ (head : CommitHead). head.time) (filter (λ (head : CommitHead). head.label == label) heads)
    ≡ map (λ (c : Commit Value). c.time) (filter (λ (c : Commit Value). c.label == label) h)
named-times label [] [] same = refl
named-times label [] (c ∷ cs) same = absurd cc
named-times label (x ∷ xs) [] same = absurd cc
named-times label (x ∷ xs) (c ∷ cs) same =
    let first : name_at x ≡ name_of c = cc in
    let rest : map name_at xs ≡ map name_of cs = cc in
    let times : x.time ≡ c.time = ap (λ (n : Name). n.time) first in
    let labels : x.label ≡ c.label = ap (λ (n : Name). n.label) first in
    let more = named-times label xs cs rest in
    elim (cases_eq c.label label) [
      | inl is ↦
          let there : (c.label == label) ≡ true = grind (arith, nat_tests) in
          let here : (x.label == label) ≡ true = ap (λ (k : ℕ). k == label) labels ∙ there in
          rw (here, there, times) (ap (λ (ts : List ℕ). c.time ∷ ts) more)
      | inr other ↦
          let there : (c.label == label) ≡ false = grind (arith, nat_tests) in
          let here : (x.label == label) ≡ false = ap (λ (k : ℕ). k == label) labels ∙ there in
          rw (here, there) more
    ]

-- ---- tickets

redeemed-names : (time : ℕ) (heads : List CommitHead) → map name_at (orders.redeemed time heads) ≡ map name_at heads
redeemed-names time [] = refl
redeemed-names time (x ∷ xs) =
    elim (x.time == time) as (λ b. map name_at (cond b (record x { awaited = false } ∷ xs) (x ∷ orders.redeemed time xs)) ≡ map name_at (x ∷ xs)) [
      | true ↦ refl
      | false ↦ ap (λ (ns : List Name). name_at x ∷ ns) (redeemed-names time xs)
    ]

redeemed-stands : (v : TransactionsValue) (m : Machine Value) (time : ℕ) → StandsInMemory v m
    → StandsInMemory (record v { heads = orders.redeemed time v.heads }) m
redeemed-stands v m time stands = record {
  names = redeemed-names time v.heads ∙ stands.names;
  rising = redeemed-rising 0 time v.heads stands.rising;
  published = stands.published;
  versions = stands.versions;
  forgot = stands.forgot;
  recent = stands.recent;
  queue = stands.queue;
  fresh = stands.fresh;
  group = stands.group;
  most = stands.most;
  staged = stands.staged;
  snapshots = stands.snapshots;
  floors = stands.floors;
  failed = stands.failed;
}

published-same : (v : TransactionsValue) (m : Machine Value) (time : ℕ) → StandsInMemory v m
    → list_any (λ (head : CommitHead). head.time == time) (take v.published v.heads) ≡ answers.is_published m time
published-same v m time stands =
    ap (λ (n : ℕ). list_any (λ (head : CommitHead). head.time == time) (take n v.heads)) stands.published
    ∙ named-any time (take (length m.published) v.heads) m.published (front-named v.heads m.published m.queue stands.names)

published-parts : (a b : Bool) → cond a (cond b ticket_state.Published ticket_state.Waiting) ticket_state.Unknown ≡ ticket_state.Published → (a ≡ true)
    × (b ≡ true)
published-parts true true is = (refl, refl)
published-parts true false is = absurd cc
published-parts false b is = absurd cc

waiting-parts : (a b : Bool) → cond a (cond b ticket_state.Published ticket_state.Waiting) ticket_state.Unknown ≡ ticket_state.Waiting → (a ≡ true)
    × (b ≡ false)
waiting-parts true true is = absurd cc
waiting-parts true false is = (refl, refl)
waiting-parts false b is = absurd cc

by-standing : (old new : TransactionsValue) (ticket : TicketValue) (answer : Redeemed) (m : Machine Value) → StandsInMemory old m → (s : TicketState)
    → state_of_ticket ticket.time (calls.order_of old) ≡ s → calls.AnswersTicket old ticket s answer new
    → RedeemsAs (answers.redeemed_by m ticket.time) answer × StandsInMemory new m
by-standing old new ticket answer m stands ticket_state.Unknown is says = (
  subst (λ (r : Redeemed). RedeemsAs (answers.redeemed_by m ticket.time) r) (sym says.0) tt,
  subst (λ (v : TransactionsValue). StandsInMemory v m) (sym says.1) stands,
)
by-standing old new ticket answer m stands ticket_state.Published is says =
    let parts = published-parts (is_awaited ticket.time old.heads) (nat_le ticket.time (last_published (calls.order_of old))) is in
    let early : ticket.time ≤ last_published (calls.order_of old) = let test = parts.1 in grind (arith, nat_tests) in
    let there : answers.is_published m ticket.time ≡ true =
    sym (published-same old m ticket.time stands) ∙ published-in 0 ticket.time old.published old.heads stands.rising parts.0 early in (
      subst (λ (r : Redeemed). RedeemsAs (answers.redeemed_by m ticket.time) r) (sym says.0) (rw there refl),
      subst (λ (v : TransactionsValue). StandsInMemory v m) (sym says.1) (redeemed-stands old m ticket.time stands),
    )
by-standing old new ticket answer m stands ticket_state.Waiting is says =
    let parts = waiting-parts (is_awaited ticket.time old.heads) (nat_le ticket.time (last_published (calls.order_of old))) is in
    let late : last_published (calls.order_of old) < ticket.time = let test = parts.1 in grind (arith, nat_tests) in
    let none : answers.is_published m ticket.time ≡ false =
    sym (published-same old m ticket.time stands) ∙ late-none 0 ticket.time old.published old.heads stands.rising late in (
      subst (λ (r : Redeemed). RedeemsAs (answers.redeemed_by m ticket.time) r) (sym says.0) (by-failure old.failed stands.failed none),
      subst (λ (v : TransactionsValue). StandsInMemory v m) (sym says.1) stands,
    )
  where
    by-failure : (b : Bool) → b ≡ m.failed → answers.is_published m ticket.time ≡ false
        → RedeemsAs (answers.redeemed_by m ticket.time) (cond b redeemed.InDoubt (redeemed.Waiting ticket))
    by-failure true failed none = rw (none, sym failed) refl
    by-failure false works none = rw (none, sym works) refl

pub redeem-answered : (old new : TransactionsValue) (ticket : TicketValue) (answer : Redeemed) (m : Machine Value) → StandsInMemory old m
    → calls.Redeems old ticket answer new → RedeemsAs (answers.redeemed_by m ticket.time) answer × StandsInMemory new m
redeem-answered old new ticket answer m stands redeems = by-mark (ticket.mark == old.mark) redeems
  where
    by-mark : (b : Bool) → MatchBool b (calls.AnswersTicket old ticket (state_of_ticket ticket.time (calls.order_of old)) answer new) ((answer
        ≡ redeemed.Stranger) × (new ≡ old)) → RedeemsAs (answers.redeemed_by m ticket.time) answer × StandsInMemory new m
    by-mark true says = by-standing old new ticket answer m stands (state_of_ticket ticket.time (calls.order_of old)) refl says
    by-mark false says = (
      subst (λ (r : Redeemed). RedeemsAs (answers.redeemed_by m ticket.time) r) (sym says.0) tt,
      subst (λ (v : TransactionsValue). StandsInMemory v m) (sym says.1) stands,
    )

pub times-of_label : (v : TransactionsValue) (m : Machine Value) (label : ℕ) → StandsInMemory v m → orders.times_of label (calls.order_of v)
    ≡ answers.times_of m.published label
times-of_label v m label stands =
    ap (λ (n : ℕ). map (λ (head : CommitHead). head.time) (filter (λ (head : CommitHead). head.label == label) (take n v.heads))) stands.published
    ∙ named-times label (take (length m.published) v.heads) m.published (front-named v.heads m.published m.queue stands.names)
