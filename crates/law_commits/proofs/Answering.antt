-- Tickets are answered as the machine does.
use Rattle.std.proofs.Common.{◌≡◌, ℕ, zero, suc, ◌<◌, ◌≤◌, ◌==◌, ◌||◌, nat_le, Bool, true, false, cond, List, [], ◌∷◌, ◌++◌, length, take, drop, map, MatchBool}
use Rattle.std.proofs.Common.{refl, arith, ap, sym, subst, ◌∙◌, inl, inr, ⊎_elim}
use Rattle.std.specs.Prelude.{Contains}
use Rattle.std.specs.List.{list_any}
use Rattle.std.proofs.lemmas.Bool.{cases_eq}
use Rattle.std.proofs.lemmas.Bool.Decides.{nat_tests}
use Rattle.std.proofs.lemmas.List.{map-append}
use Rattle.history.specs.Histories.{Commit, History, HasRisingTimes, last, last_after}
use Rattle.history.specs.Machine.{Machine, IsMachine}
use Rattle.history.specs.Answers as answers
use Rattle.history.proofs.Members.{Contains-cons_cases, Contains-nil}
use Rattle.law_image.specs.Values.{Value, IsValue}
use Rattle.group.specs.CommitOrder as orders
use Rattle.group.specs.CommitOrder.{IsRisingAfter, is_awaited, last_time_after, last_published, state_of_ticket}
use Rattle.group.specs.Tickets.{TicketValue}
use Rattle.group.specs.declared.commit_order.CommitHead.{CommitHead}
use Rattle.group.specs.declared.commit_order.TicketState.{TicketState}
use Rattle.group.specs.declared.commit_order.TicketState.TheVariants as ticket_state
use Rattle.group.specs.declared.answers.Redeemed.{Redeemed}
use Rattle.group.specs.declared.answers.Redeemed.TheVariants as redeemed
use Rattle.group.proofs.Heads.{redeemed-rising}
use Rattle.commits.specs.Values.{CommitsValue, order_of}
use Rattle.commits.specs.Calls.{AnswersTicket, Redeems}
use Rattle.law_refinement.specs.Laws.{RedeemsAs}
use Rattle.law_refinement.specs.Standing.{Name, name_of, name_at}
use Rattle.law_refinement.proofs.Conflicts.{rising-behind}
use Rattle.law_refinement.proofs.Submitting.{order-rising}
use Rattle.law_commits.specs.Standing.{HasNames, StandsInMemory}
use Rattle.law_commits.specs.Laws.{told_as}
use Rattle.law_commits.proofs.Names.{AllAmong, published-heads, waiting-heads, front-names, back-names}
use Rattle.law_commits.proofs.Order.{published-rises}

-- ---- where a time stands among the heads

pub awaited-later : (t time : ℕ) (heads : List CommitHead) → IsRisingAfter t heads → is_awaited time heads ≡ true → t < time
awaited-later t time [] rising waits = absurd cc
awaited-later t time (x ∷ xs) rising waits =
    elim (cases_eq x.time time) [
      | inl same ↦ omega (arith, rising.0, same)
      | inr other ↦
          let test : (x.time == time) ≡ false = grind (arith, nat_tests) in
          let rest : is_awaited time xs ≡ true = subst (λ (b : Bool). cond b x.awaited (is_awaited time xs) ≡ true) test waits in
          omega (arith, rising.0, awaited-later x.time time xs rising.2 rest)
    ]

abbrev has_time : ℕ → List CommitHead → Bool
has_time time heads = list_any (λ (head : CommitHead). head.time == time) heads

-- what is awaited and no later than the last of the first ones is among them
published-in : (t time n : ℕ) (heads : List CommitHead) → IsRisingAfter t heads → is_awaited time heads ≡ true → time ≤ last_time_after t (take n heads)
    → has_time time (take n heads) ≡ true
published-in t time zero heads rising waits early = absurd (omega (arith, awaited-later t time heads rising waits, early))
published-in t time (suc n) [] rising waits early = absurd cc
published-in t time (suc n) (x ∷ xs) rising waits early =
    elim (cases_eq x.time time) [
      | inl same ↦ let test : (x.time == time) ≡ true = grind (arith, nat_tests) in rw test refl
      | inr other ↦
          let test : (x.time == time) ≡ false = grind (arith, nat_tests) in
          let rest : is_awaited time xs ≡ true = subst (λ (b : Bool). cond b x.awaited (is_awaited time xs) ≡ true) test waits in
          rw test (published-in x.time time n xs rising.2 rest early)
    ]

last-least : (t n : ℕ) (heads : List CommitHead) → IsRisingAfter t heads → t ≤ last_time_after t (take n heads)
last-least t zero heads rising = omega arith
last-least t (suc n) [] rising = omega arith
last-least t (suc n) (x ∷ xs) rising = omega (arith, rising.0, last-least x.time n xs rising.2)

-- what is awaited and later than that is among the others
waiting-in : (t time n : ℕ) (heads : List CommitHead) → IsRisingAfter t heads → is_awaited time heads ≡ true → last_time_after t (take n heads) < time
    → has_time time (drop n heads) ≡ true
waiting-in t time n [] rising waits late = absurd cc
waiting-in t time zero (x ∷ xs) rising waits late =
    elim (cases_eq x.time time) [
      | inl same ↦ let test : (x.time == time) ≡ true = grind (arith, nat_tests) in rw test refl
      | inr other ↦
          let test : (x.time == time) ≡ false = grind (arith, nat_tests) in
          let rest : is_awaited time xs ≡ true = subst (λ (b : Bool). cond b x.awaited (is_awaited time xs) ≡ true) test waits in
          rw test (waiting-in x.time time zero xs rising.2 rest (awaited-later x.time time xs rising.2 rest))
    ]
waiting-in t time (suc n) (x ∷ xs) rising waits late =
    let low = last-least x.time n xs rising.2 in
    let test : (x.time == time) ≡ false = let less : x.time < time = omega (arith, low, late) in grind (arith, nat_tests) in
    let rest : is_awaited time xs ≡ true = subst (λ (b : Bool). cond b x.awaited (is_awaited time xs) ≡ true) test waits in
    waiting-in x.time time n xs rising.2 rest late

-- ---- and among names and commits

named_at : ℕ → List Name → Bool
named_at time names = list_any (λ (name : Name). name.time == time) names

of-heads : (time : ℕ) (heads : List CommitHead) → has_time time heads ≡ named_at time (map name_at heads)
unfolding named_at
of-heads time [] = refl
of-heads time (x ∷ xs) = ap (λ (b : Bool). (x.time == time) || b) (of-heads time xs)

of-history : (time : ℕ) (h : History Value) → list_any (λ (c : Commit Value). c.time == time) h ≡ named_at time (map name_of h)
unfolding named_at
of-history time [] = refl
of-history time (c ∷ cs) = ap (λ (b : Bool). (c.time == time) || b) (of-history time cs)

named-both : (time : ℕ) (xs ys : List Name) → named_at time (xs ++ ys) ≡ (named_at time xs || named_at time ys)
unfolding named_at
named-both time [] ys = refl
named-both time (x ∷ xs) ys =
    elim (x.time == time) as (λ (b : Bool). (b || named_at time (xs ++ ys)) ≡ ((b || named_at time xs) || named_at time ys)) [
      | true ↦ refl
      | false ↦ named-both time xs ys
    ]

-- a name that is there has its time there
named-one : (time : ℕ) (ns : List Name) (name : Name) → Contains ns name → name.time ≡ time → named_at time ns ≡ true
unfolding named_at
named-one time [] name has is = absurd (Contains-nil name has)
named-one time (n ∷ ns) name has is = ⊎_elim
    (λ (same : n ≡ name). let here : (n.time == time) ≡ true = let times : n.time ≡ name.time =
    ap (λ (x : Name). x.time) same in grind (arith, nat_tests) in rw here refl)
    (λ (more : Contains ns name). elim (n.time == time) as (λ (b : Bool). (b || named_at time ns) ≡ true) [
      | true ↦ refl
      | false ↦ named-one time ns name more is
    ])
    (Contains-cons_cases n ns name has)

named-among : (time : ℕ) (before ns : List Name) → AllAmong before ns → named_at time ns ≡ true → named_at time before ≡ true
unfolding named_at
named-among time before [] among named = absurd cc
named-among time before (n ∷ ns) among named =
    elim (cases_eq n.time time) [
      | inl same ↦ named-one time before n among.0 same
      | inr other ↦
          let test : (n.time == time) ≡ false = grind (arith, nat_tests) in
          named-among time before ns among.1 (subst (λ (b : Bool). (b || named_at time ns) ≡ true) test named)
    ]

either : (a b c : Bool) → (a ≡ true → c ≡ true) → (a || b) ≡ true → (c || b) ≡ true
either true b c then is = rw (then refl) refl
either false true true then is = refl
either false true false then is = refl
either false false c then is = absurd cc

-- a commit of rising ones is later than what is before them
commit-later : (t time : ℕ) (h : History Value) → HasRisingTimes t h → list_any (λ (c : Commit Value). c.time == time) h ≡ true → t < time
commit-later t time [] up is = absurd cc
commit-later t time (c ∷ cs) up is =
    elim (cases_eq c.time time) [
      | inl same ↦ omega (arith, up.0, same)
      | inr other ↦
          let test : (c.time == time) ≡ false = grind (arith, nat_tests) in
          let rest : list_any (λ (d : Commit Value). d.time == time) cs ≡ true =
          subst (λ (b : Bool). (b || list_any (λ (d : Commit Value). d.time == time) cs) ≡ true) test is in
          omega (arith, up.0, commit-later c.time time cs up.2 rest)
    ]

commit-last : (t : ℕ) (h : History Value) → HasRisingTimes t h → t ≤ last_after t h
commit-last t [] up = omega arith
commit-last t (c ∷ cs) up = omega (arith, up.0, commit-last c.time cs up.2)

-- and none of them is later than the last
none-later : (t time : ℕ) (h : History Value) → HasRisingTimes t h → last_after t h < time → list_any (λ (c : Commit Value). c.time == time) h ≡ false
none-later t time [] up late = refl
none-later t time (c ∷ cs) up late =
    let low = commit-last c.time cs up.2 in
    let test : (c.time == time) ≡ false = let less : c.time < time = omega (arith, low, late) in grind (arith, nat_tests) in
    rw test (none-later c.time time cs up.2 late)

-- ---- what is awaited and published is so in the machine

published-there : (v : CommitsValue) (m : Machine Value) (time : ℕ) → StandsInMemory v m → has_time time (take v.published v.heads) ≡ true
    → answers.is_published m time ≡ true
published-there v m time stands is =
    let n = stands.names in
    let heads : (named_at time (map name_at n.kept) || named_at time (map name_at (take n.count n.late))) ≡ true =
    sym (named-both time (map name_at n.kept) (map name_at (take n.count n.late)))
    ∙ ap (named_at time) (sym (map-append name_at n.kept (take n.count n.late)))
    ∙ sym (of-heads time (n.kept ++ take n.count n.late))
    ∙ ap (has_time time) (sym (published-heads v m n))
    ∙ is in
    of-history time m.published
    ∙ ap (named_at time) (sym (front-names n.before n.late n.count m.published m.queue n.names n.many))
    ∙ named-both time n.before (map name_at (take n.count n.late))
    ∙ either (named_at time (map name_at n.kept)) (named_at time (map name_at (take n.count n.late))) (named_at time n.before)
    (named-among time n.before (map name_at n.kept) n.kept_of) heads

waiting-there : (v : CommitsValue) (m : Machine Value) (time : ℕ) → StandsInMemory v m → IsMachine IsValue m
    → has_time time (drop v.published v.heads) ≡ true → answers.is_published m time ≡ false
waiting-there v m time stands machine is =
    let n = stands.names in
    let queued : list_any (λ (c : Commit Value). c.time == time) m.queue ≡ true =
    of-history time m.queue
    ∙ ap (named_at time) (sym (back-names n.before n.late n.count m.published m.queue n.names n.many))
    ∙ sym (of-heads time (drop n.count n.late))
    ∙ ap (has_time time) (sym (waiting-heads v m n))
    ∙ is in
    let late : last m.published < time =
    commit-later (last m.published) time m.queue (rising-behind 0 m.published m.queue (order-rising m machine)) queued in
    none-later 0 time m.published (published-rises v m stands machine) late

-- ---- tickets

redeemed-names : (time : ℕ) (heads : List CommitHead) → map name_at (orders.redeemed time heads) ≡ map name_at heads
redeemed-names time [] = refl
redeemed-names time (x ∷ xs) =
    elim (x.time == time) as (λ b. map name_at (cond b (record x { awaited = false } ∷ xs) (x ∷ orders.redeemed time xs)) ≡ map name_at (x ∷ xs)) [
      | true ↦ refl
      | false ↦ ap (λ (ns : List Name). name_at x ∷ ns) (redeemed-names time xs)
    ]

-- the same heads in two parts, some of them awaited no longer
record InParts (heads kept late : List CommitHead) : Type 0 where
  pub first : List CommitHead
  pub second : List CommitHead
  pub is : heads ≡ first ++ second
  pub first_names : map name_at first ≡ map name_at kept
  pub second_names : map name_at second ≡ map name_at late
  pub many : length first ≡ length kept

redeemed-parts : (time : ℕ) (kept late : List CommitHead) → InParts (orders.redeemed time (kept ++ late)) kept late
redeemed-parts time [] late =
    record { first = []; second = orders.redeemed time late; is = refl; first_names = refl; second_names = redeemed-names time late; many = refl }
redeemed-parts time (x ∷ xs) late =
    elim (x.time == time) as (λ (b : Bool). InParts (cond b (record x { awaited = false } ∷ (xs ++ late)) (x ∷ orders.redeemed time (xs ++ late))) (x
    ∷ xs) late) [
      | true ↦ record { first = record x { awaited = false } ∷ xs; second = late; is = refl; first_names = refl; second_names = refl; many = refl }
      | false ↦
          let rest = redeemed-parts time xs late in
          record {
            first = x ∷ rest.first;
            second = rest.second;
            is = ap (λ (l : List CommitHead). x ∷ l) rest.is;
            first_names = ap (λ (ns : List Name). name_at x ∷ ns) rest.first_names;
            second_names = rest.second_names;
            many = ap suc rest.many;
          }
    ]

redeemed-has : (reclaimed time : ℕ) (heads : List CommitHead) (published : ℕ) (h queue : History Value) → HasNames reclaimed heads published h queue
    → HasNames reclaimed (orders.redeemed time heads) published h queue
redeemed-has reclaimed time heads published h queue n =
    let parts = redeemed-parts time n.kept n.late in
    record {
      before = n.before;
      early = n.early;
      kept = parts.first;
      late = parts.second;
      heads_are = ap (orders.redeemed time) n.heads_are ∙ parts.is;
      kept_of = subst (λ (ns : List Name). AllAmong n.before ns) (sym parts.first_names) n.kept_of;
      names = ap (λ (ns : List Name). n.before ++ ns) parts.second_names ∙ n.names;
      count = n.count;
      published_are = let was = n.published_are in let size = parts.many in omega (arith, was, size);
      many = n.many;
    }

redeemed-stands : (v : CommitsValue) (m : Machine Value) (time : ℕ) → StandsInMemory v m
    → StandsInMemory (record v { heads = orders.redeemed time v.heads }) m
redeemed-stands v m time stands = record {
  names = redeemed-has v.reclaimed time v.heads v.published m.published m.queue stands.names;
  rising = redeemed-rising 0 time v.heads stands.rising;
  versions = stands.versions;
  forgot = stands.forgot;
  recent = stands.recent;
  queue = stands.queue;
  snapshots = stands.snapshots;
  floors = stands.floors;
  failed = stands.failed;
}

-- what a ticket is told, where its commit is there
abbrev Tells : CommitsValue → Machine Value → TicketValue → Redeemed → CommitsValue → Type 0
Tells old m ticket answer new =
    (is_awaited ticket.time old.heads ≡ true → answer ≡ told_as ticket (answers.redeemed_by m ticket.time))
    × RedeemsAs (answers.redeemed_by m ticket.time) answer
    × StandsInMemory new m

told-same : (ticket : TicketValue) (said : answers.Redeemed) → RedeemsAs said (told_as ticket said)
told-same ticket (answers.Done time) = refl
told-same ticket answers.Waiting = refl
told-same ticket answers.InDoubt = refl

exactly : (old new : CommitsValue) (m : Machine Value) (ticket : TicketValue) (answer : Redeemed)
    → answer ≡ told_as ticket (answers.redeemed_by m ticket.time) → StandsInMemory new m → Tells old m ticket answer new
exactly old new m ticket answer is stands = (
  λ waits. is,
  subst (λ (r : Redeemed). RedeemsAs (answers.redeemed_by m ticket.time) r) (sym is) (told-same ticket (answers.redeemed_by m ticket.time)),
  stands,
)

published-parts : (a b : Bool) → cond a (cond b ticket_state.Published ticket_state.Waiting) ticket_state.Unknown ≡ ticket_state.Published → (a ≡ true)
    × (b ≡ true)
published-parts true true is = (refl, refl)
published-parts true false is = absurd cc
published-parts false b is = absurd cc

waiting-parts : (a b : Bool) → cond a (cond b ticket_state.Published ticket_state.Waiting) ticket_state.Unknown ≡ ticket_state.Waiting → (a ≡ true)
    × (b ≡ false)
waiting-parts true true is = absurd cc
waiting-parts true false is = (refl, refl)
waiting-parts false b is = absurd cc

unknown-parts : (a b : Bool) → cond a (cond b ticket_state.Published ticket_state.Waiting) ticket_state.Unknown ≡ ticket_state.Unknown → a ≡ false
unknown-parts true true is = absurd cc
unknown-parts true false is = absurd cc
unknown-parts false b is = refl

by-standing : (old new : CommitsValue) (ticket : TicketValue) (answer : Redeemed) (m : Machine Value) → StandsInMemory old m → IsMachine IsValue m
    → (s : TicketState) → state_of_ticket ticket.time (order_of old) ≡ s → AnswersTicket old ticket s answer new → Tells old m ticket answer new
by-standing old new ticket answer m stands machine ticket_state.Unknown is says =
    let none = unknown-parts (is_awaited ticket.time old.heads) (nat_le ticket.time (last_published (order_of old))) is in (
      λ waits. absurd (let both : true ≡ false = sym waits ∙ none in cc),
      subst (λ (r : Redeemed). RedeemsAs (answers.redeemed_by m ticket.time) r) (sym says.0) tt,
      subst (λ (v : CommitsValue). StandsInMemory v m) (sym says.1) stands,
    )
by-standing old new ticket answer m stands machine ticket_state.Published is says =
    let parts = published-parts (is_awaited ticket.time old.heads) (nat_le ticket.time (last_published (order_of old))) is in
    let early : ticket.time ≤ last_published (order_of old) = let test = parts.1 in grind (arith, nat_tests) in
    let there : answers.is_published m ticket.time ≡ true =
    published-there old m ticket.time stands (published-in 0 ticket.time old.published old.heads stands.rising parts.0 early) in
    exactly old new m ticket answer (says.0 ∙ rw there refl)
    (subst (λ (v : CommitsValue). StandsInMemory v m) (sym says.1) (redeemed-stands old m ticket.time stands))
by-standing old new ticket answer m stands machine ticket_state.Waiting is says =
    let parts = waiting-parts (is_awaited ticket.time old.heads) (nat_le ticket.time (last_published (order_of old))) is in
    let late : last_published (order_of old) < ticket.time = let test = parts.1 in grind (arith, nat_tests) in
    let none : answers.is_published m ticket.time ≡ false =
    waiting-there old m ticket.time stands machine (waiting-in 0 ticket.time old.published old.heads stands.rising parts.0 late) in
    exactly old new m ticket answer (says.0 ∙ by-failure old.failed stands.failed none)
    (subst (λ (v : CommitsValue). StandsInMemory v m) (sym says.1) stands)
  where
    by-failure : (b : Bool) → b ≡ m.failed → answers.is_published m ticket.time ≡ false
        → cond b redeemed.InDoubt (redeemed.Waiting ticket) ≡ told_as ticket (answers.redeemed_by m ticket.time)
    by-failure true failed none = rw (none, sym failed) refl
    by-failure false works none = rw (none, sym works) refl

pub redeem-step : (old new : CommitsValue) (ticket : TicketValue) (answer : Redeemed) (m : Machine Value) → StandsInMemory old m → IsMachine IsValue m
    → Redeems old ticket answer new → RedeemsAs (answers.redeemed_by m ticket.time) answer × StandsInMemory new m
redeem-step old new ticket answer m stands machine redeems = by-mark (ticket.mark == old.mark) redeems
  where
    by-mark : (b : Bool) → MatchBool b (AnswersTicket old ticket (state_of_ticket ticket.time (order_of old)) answer new) ((answer ≡ redeemed.Stranger)
        × (new ≡ old)) → RedeemsAs (answers.redeemed_by m ticket.time) answer × StandsInMemory new m
    by-mark true says =
        let told = by-standing old new ticket answer m stands machine (state_of_ticket ticket.time (order_of old)) refl says in (told.1, told.2)
    by-mark false says = (
      subst (λ (r : Redeemed). RedeemsAs (answers.redeemed_by m ticket.time) r) (sym says.0) tt,
      subst (λ (v : CommitsValue). StandsInMemory v m) (sym says.1) stands,
    )

pub awaited-answered : (old new : CommitsValue) (ticket : TicketValue) (answer : Redeemed) (m : Machine Value) → StandsInMemory old m → IsMachine IsValue m
    → Redeems old ticket answer new → ticket.mark ≡ old.mark → is_awaited ticket.time old.heads ≡ true
    → answer ≡ told_as ticket (answers.redeemed_by m ticket.time)
awaited-answered old new ticket answer m stands machine redeems own waits =
    let test : (ticket.mark == old.mark) ≡ true = grind (arith, nat_tests) in
    let says : AnswersTicket old ticket (state_of_ticket ticket.time (order_of old)) answer new =
    subst (λ (b : Bool). MatchBool b (AnswersTicket old ticket (state_of_ticket ticket.time (order_of old)) answer new) ((answer ≡ redeemed.Stranger)
    × (new ≡ old))) test redeems in
    (by-standing old new ticket answer m stands machine (state_of_ticket ticket.time (order_of old)) refl says).0 waits

pub others-strangers : (old new : CommitsValue) (ticket : TicketValue) (answer : Redeemed) → Redeems old ticket answer new
    → ((ticket.mark ≡ old.mark) × (is_awaited ticket.time old.heads ≡ true) → ⊥) → (answer ≡ redeemed.Stranger) × (new ≡ old)
others-strangers old new ticket answer redeems other = by-mark (ticket.mark == old.mark) refl redeems
  where
    by-waiting : (b : Bool) → is_awaited ticket.time old.heads ≡ b → ticket.mark ≡ old.mark
        → AnswersTicket old ticket (state_of_ticket ticket.time (order_of old)) answer new → (answer ≡ redeemed.Stranger) × (new ≡ old)
    by-waiting true is own says = absurd (other (own, is))
    by-waiting false is own says =
        subst (λ (b : Bool). AnswersTicket old ticket (cond b (cond (nat_le ticket.time (last_published (order_of
        old))) ticket_state.Published ticket_state.Waiting) ticket_state.Unknown) answer new) is says

    by-mark : (b : Bool) → (ticket.mark == old.mark) ≡ b
        → MatchBool b (AnswersTicket old ticket (state_of_ticket ticket.time (order_of old)) answer new) ((answer ≡ redeemed.Stranger) × (new ≡ old))
        → (answer ≡ redeemed.Stranger) × (new ≡ old)
    by-mark true is says =
        by-waiting (is_awaited ticket.time old.heads) refl (let test = is in grind (arith, nat_tests)) says
    by-mark false is says = says
