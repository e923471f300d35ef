-- Lists of calls, from moment to moment.
use Rattle.std.proofs.Common.{◌≡◌, ◌⊎◌, inl, inr, ◌<◌, ◌≤◌, ◌+◌, ◌-◌, ◌++◌, ℕ, zero, suc, Bool, true, false, cond, List, [], ◌∷◌, length, map, Option, Some}
use Rattle.std.proofs.Common.{None, Result, Ok, Bor, refl, ap, sym, subst, ◌∙◌, arith, append_assoc}
use Rattle.std.specs.Prelude.{slice_get, slice_set, Contains, IsSome, IsTrue}
use Rattle.history.specs.Floors.{covers}
use Rattle.std.proofs.lemmas.Bool.Decides.{nat_tests}
use Rattle.std.proofs.lemmas.List.Elements.{Contains-append_left, Contains-push}
use Rattle.history.specs.declared.key.Key.{Key}
use Rattle.history.specs.declared.key.KeyWrite.{KeyWrite}
use Rattle.history.specs.Key.{write_in, same_key}
use Rattle.history.specs.Answers as answers
use Rattle.history.specs.Histories.{Commit, History, last, state}
use Rattle.history.specs.Machine.{Machine, commit_order, IsMachine}
use Rattle.history.specs.Steps.{Event, Step, Decided}
use Rattle.history.specs.Steps as steps
use Rattle.history.specs.Submissions as submissions
use Rattle.history.specs.Submissions.{Submission, commit_made}
use Rattle.history.proofs.Histories.{rising-from_following}
use Rattle.history.proofs.Machines.{run-machine}
use Rattle.history.proofs.Runs as histories
use Rattle.history.proofs.Tickets.{done-published}
use Rattle.law_image.specs.Values.{Value, IsValue}
use Rattle.snapshot.specs.WriteSets.{with_write}
use Rattle.snapshot.proofs.WriteSetLemmas.{write_in-with_write}
use Rattle.timequery.specs.declared.fault.QueryFault.{QueryFault}
use Rattle.law_refinement.specs.Homes.{IsSure}
use Rattle.law_refinement.specs.Laws.{SaysAt}
use Rattle.run.specs.declared.calls.Call.{Call}
use Rattle.run.specs.declared.calls.Call.TheVariants as call
use Rattle.run.specs.declared.calls.Answer.{Answer}
use Rattle.run.specs.declared.calls.Answer.TheVariants as answer
use Rattle.run.specs.declared.calls.RedeemOutcome.TheVariants as told
use Rattle.run.specs.Places.{Place, Free, Running, Waits, Views, place_at}
use Rattle.run.specs.Worlds.{World, put, same}
use Rattle.run.specs.Runs.{Follows, Puts, Deletes, deleted, Redeems, Asks, AsksRecent, SaysRecent, submission}
use Rattle.run.specs.Moments.{Moment}
use Rattle.run.specs.Promise.{Leaves, Link, Chain}
use Rattle.run.specs.Traces.{Trace, moment_after, moment_at, machine_at, IsCall, place_of, IsSubmit, LeavesKey}
use Rattle.run.specs.Laws.{AsManyAnswers, GoesToItsEnd, CallsLink, StopsSurvive, MachineRuns, ListsGoOn, StepIsList, IsKeptTime, TimesStayKept, FloorsRise}
use Rattle.run.specs.Laws.{TicketsStay, DoneNamesItsSubmit, PutIsSubmitted, DeleteIsSubmitted, WrittenIsFound, ViewsStay, ViewAnswersByItsMoment}
use Rattle.run.specs.Laws.{RecentAnswersByItsMoment}
use Rattle.run.proofs.Lists.{length-set, place-set_same, place-push_old}
use Rattle.run.proofs.Survival.{moment-leaves}
use Rattle.run.proofs.Commits.{commit-one}
use Rattle.law_refinement.proofs.RunsKept.{run-later}
use Rattle.run.proofs.Floors.{call-times}
use Rattle.run.proofs.Passing.{QueuesAt, Gives, IsGiven, WasRunning, passes}

-- ---- lists

get-cases : {X : Type 0} (xs : List X) (n : ℕ) → ((x : X) × (slice_get xs n ≡ Some x)) ⊎ (length xs ≤ n)
get-cases [] n = inr (omega arith)
get-cases (x ∷ xs) zero = inl (x, refl)
get-cases {X} (x ∷ xs) (suc n) =
    elim (get-cases xs n) as (λ o. ((y : X) × (slice_get xs n ≡ Some y))
    ⊎ (length (x ∷ xs) ≤ suc n)) [ inl found ↦ inl found | inr past ↦ inr (omega (arith, past)) ]

get-low : {X : Type 0} (xs : List X) (n : ℕ) (x : X) → slice_get xs n ≡ Some x → n < length xs
get-low [] n x at = absurd cc
get-low (y ∷ ys) zero x at = omega arith
get-low (y ∷ ys) (suc n) x at = omega (arith, get-low ys n x at)

-- ---- the moments of a chain

many : (tells : Bool) (cs : List Call) (said : List Answer) (start end : Moment) → Chain tells cs said start end → length said ≡ length cs
many tells [] [] start end chain = refl
many tells [] (a ∷ said) start end chain = absurd chain
many tells (c ∷ cs) [] start end chain = absurd chain
many tells (c ∷ cs) (a ∷ said) start end chain = ap suc (many tells cs said chain.0 end chain.2)

at-start : (tells : Bool) (cs : List Call) (said : List Answer) (start end : Moment) (chain : Chain tells cs said start end)
    → moment_after tells cs said start end chain 0 ≡ start
at-start tells [] said start end chain = refl
at-start tells (c ∷ cs) [] start end chain = refl
at-start tells (c ∷ cs) (a ∷ said) start end chain = refl

at-end : (tells : Bool) (cs : List Call) (said : List Answer) (start end : Moment) (chain : Chain tells cs said start end)
    → moment_after tells cs said start end chain (length cs) ≡ end
at-end tells [] [] start end chain = sym chain
at-end tells [] (a ∷ said) start end chain = absurd chain
at-end tells (c ∷ cs) [] start end chain = absurd chain
at-end tells (c ∷ cs) (a ∷ said) start end chain = at-end tells cs said chain.0 end chain.2

link-at : (tells : Bool) (cs : List Call) (said : List Answer) (start end : Moment) (chain : Chain tells cs said start end) (i : ℕ) (c : Call) (a : Answer)
    → slice_get cs i ≡ Some c → slice_get said i ≡ Some a
    → Link tells c a (moment_after tells cs said start end chain i) (moment_after tells cs said start end chain (suc i))
link-at tells [] said start end chain i c a is_c is_a = absurd cc
link-at tells (x ∷ xs) [] start end chain i c a is_c is_a = absurd chain
link-at tells (x ∷ xs) (y ∷ ys) start end chain zero c a is_c is_a =
    let same_c : x ≡ c = cc in
    let same_a : y ≡ a = cc in
    subst (λ (m : Moment). Link tells c a start m) (sym (at-start tells xs ys chain.0 end chain.2))
    (subst (λ (z : Call). Link tells z a start chain.0) same_c (subst (λ (z : Answer). Link tells x z start chain.0) same_a chain.1))
link-at tells (x ∷ xs) (y ∷ ys) start end chain (suc i) c a is_c is_a = link-at tells xs ys chain.0 end chain.2 i c a is_c is_a

past-end : (tells : Bool) (cs : List Call) (said : List Answer) (start end : Moment) (chain : Chain tells cs said start end) (n : ℕ) → length cs ≤ n
    → moment_after tells cs said start end chain (suc n) ≡ moment_after tells cs said start end chain n
past-end tells [] said start end chain n past = refl
past-end tells (c ∷ cs) [] start end chain n past = refl
past-end tells (c ∷ cs) (a ∷ said) start end chain zero past = absurd (omega (arith, past))
past-end tells (c ∷ cs) (a ∷ said) start end chain (suc n) past = past-end tells cs said chain.0 end chain.2 n (omega (arith, past))

chain-on : (tells : Bool) (calls more : List Call) (answers said : List Answer) (start mid end : Moment) → Chain tells calls answers start mid
    → Chain tells more said mid end → Chain tells (calls ++ more) (answers ++ said) start end
chain-on tells [] more [] said start mid end first second = subst (λ (m : Moment). Chain tells more said m end) first second
chain-on tells [] more (a ∷ answers) said start mid end first second = absurd first
chain-on tells (c ∷ cs) more [] said start mid end first second = absurd first
chain-on tells (c ∷ cs) more (a ∷ answers) said start mid end first second =
    (first.0, first.1, chain-on tells cs more answers said first.0 mid end first.2 second)

pub lists-go-on : ListsGoOn
lists-go-on tells old mid new before between after calls more answers said first second = λ start is.
    let one = first start is in
    let two = second one.0 one.2 in
    (two.0, record { first = one.1.first; chain = chain-on tells calls more answers said start one.0 two.0 one.1.chain two.1.chain }, two.2)

pub step-is-list : StepIsList
step-is-list tells old new before after c a links = λ start is.
    let did = links start is in
    (did.0, record { first = moment-leaves tells old before start is; chain = (did.0, did.1, refl) }, did.2)

-- ---- the moments of a trace

pub as-many : AsManyAnswers
as-many tells t = many tells t.calls t.answers t.start t.end t.promises.chain

pub to-its-end : GoesToItsEnd
to-its-end tells t = (at-start tells t.calls t.answers t.start t.end t.promises.chain, at-end tells t.calls t.answers t.start t.end t.promises.chain)

pub calls-link : CallsLink
calls-link tells t i c a is = link-at tells t.calls t.answers t.start t.end t.promises.chain i c a is.0 is.1

-- the call after a moment
record Next {tells : Bool} (t : Trace tells) (n : ℕ) : Type 0 where
  asked : Call
  said : Answer
  is : IsCall t n asked said

next-call : {tells : Bool} (t : Trace tells) (n : ℕ) → Next t n ⊎ (length t.calls ≤ n)
next-call {tells} t n = elim (get-cases t.calls n) as (λ o. Next t n ⊎ (length t.calls ≤ n)) [
  | inl c ↦ elim (get-cases t.answers n) as (λ o. Next t n ⊎ (length t.calls ≤ n)) [
    | inl a ↦ inl (record { asked = c.0; said = a.0; is = (c.1, a.1) })
    | inr past ↦ inr (omega (arith, past, as-many tells t))
  ]
  | inr past ↦ inr past
]

-- so many later
abbrev on : ℕ → ℕ → ℕ
on p zero = p
on p (suc d) = suc (on p d)

on-is : (p d : ℕ) → on p d ≡ p + d
on-is p zero = omega arith
on-is p (suc d) = omega (arith, on-is p d)

-- what each call keeps from the moment before it to the one after it, and holds of more than one, holds from each moment to each later one
kept-on : {tells : Bool} (t : Trace tells) (R : Moment → Moment → Type 0) → ((m : Moment) → R m m) → ((a b c : Moment) → R a b → R b c → R a c)
    → ((c : Call) (a : Answer) (m n : Moment) → Link tells c a m n → R m n)
    → (p d : ℕ) → R (moment_at t p) (moment_at t (on p d))
kept-on t R same then by p zero = same (moment_at t p)
kept-on {tells} t R same then by p (suc d) =
    then (moment_at t p) (moment_at t (on p d)) (moment_at t (suc (on p d))) (kept-on t R same then by p d)
    (elim (next-call t (on p d)) as (λ o. R (moment_at t (on p d)) (moment_at t (suc (on p d)))) [
      | inl next ↦ by next.asked next.said (moment_at t (on p d)) (moment_at t (suc (on p d))) (calls-link tells t (on p d) next.asked next.said next.is)
      | inr past ↦ subst (R (moment_at t (on p d))) (sym (past-end tells t.calls t.answers t.start t.end t.promises.chain (on p d) past))
          (same (moment_at t (on p d)))
    ])

kept-upto : {tells : Bool} (t : Trace tells) (R : Moment → Moment → Type 0) → ((m : Moment) → R m m) → ((a b c : Moment) → R a b → R b c → R a c)
    → ((c : Call) (a : Answer) (m n : Moment) → Link tells c a m n → R m n)
    → (p q : ℕ) → p ≤ q → R (moment_at t p) (moment_at t q)
kept-upto t R same then by p q low =
    subst (λ (n : ℕ). R (moment_at t p) (moment_at t n)) (omega (arith, low, on-is p (q - p))) (kept-on t R same then by p (q - p))

-- ---- machines, floors and stops

run-then : (a b c : Machine Value) (first second : List (Event Value)) → steps.Run IsValue a first b → steps.Run IsValue b second c
    → steps.Run IsValue a (first ++ second) c
run-then a b c [] second one two = subst (λ (m : Machine Value). steps.Run IsValue m second c) one two
run-then a b c (event ∷ events) second one two = (one.0, one.1, run-then one.0 b c events second one.2 two)

runs-on : {tells : Bool} (t : Trace tells) (p q : ℕ) → p ≤ q → Follows (machine_at t p) (machine_at t q)
runs-on t p q low =
    kept-upto t (λ (m n : Moment). Follows m.world.machine n.world.machine) (λ m. ([], refl)) (λ a b c one two. (
      one.0 ++ two.0,
      run-then a.world.machine b.world.machine c.world.machine one.0 two.0 one.1 two.1,
    )) (λ c a m n link. link.follows) p q low

pub machine-is : {tells : Bool} (t : Trace tells) (p : ℕ) → IsMachine IsValue (machine_at t p)
machine-is {tells} t p =
    let run = runs-on t 0 p (omega arith) in
    run-machine IsValue (machine_at t 0) (machine_at t p) run.0
    (subst (λ (m : Moment). IsMachine IsValue m.world.machine) (sym (to-its-end tells t).0) t.machine) run.1

pub machine-runs : MachineRuns
machine-runs tells t p q low = (machine-is t p, runs-on t p q low)

pub floors-rise : FloorsRise
floors-rise tells t p q relation low =
    let run = runs-on t p q low in
    (run-later (machine_at t p) (machine_at t q) run.0 (machine-is t p) (machine-is t q) run.1).floors relation

-- the call after a moment keeps a time where the floor that it begins is no later
next-times : {tells : Bool} (t : Trace tells) (n relation time : ℕ)
    → ((scope : Option ℕ) (floor : ℕ) → IsCall t n (call.Floor scope floor) (answer.Floor (Ok tt)) → IsTrue (covers scope relation) → floor ≤ time)
    → IsKeptTime (machine_at t n) relation time → IsKeptTime (machine_at t (suc n)) relation time
next-times {tells} t n relation time low kept = elim (next-call t n) as (λ o. IsKeptTime (machine_at t (suc n)) relation time) [
  | inl next ↦ call-times tells (moment_at t n).world next.asked next.said (moment_at t (suc n)).world (calls-link tells t n next.asked next.said next.is).does
      relation time
      (λ scope floor asked said. low scope floor (next.is.0 ∙ ap (λ (c : Call). Some c) asked, next.is.1 ∙ ap (λ (a : Answer). Some a) said)) kept
  | inr past ↦ subst (λ (m : Moment). IsKeptTime m.world.machine relation time) (sym (past-end tells t.calls t.answers t.start t.end t.promises.chain n past))
      kept
]

times-on : {tells : Bool} (t : Trace tells) (p d relation time : ℕ)
    → ((i : ℕ) (scope : Option ℕ) (floor : ℕ) → p ≤ i → i < on p d → IsCall t i (call.Floor scope floor) (answer.Floor (Ok tt)) → IsTrue (covers scope relation)
    → floor ≤ time) → IsKeptTime (machine_at t p) relation time → IsKeptTime (machine_at t (on p d)) relation time
times-on t p zero relation time low kept = kept
times-on t p (suc d) relation time low kept =
    next-times t (on p d) relation time (λ scope floor is. low (on p d) scope floor (omega (arith, on-is p d)) (omega arith) is)
    (times-on t p d relation time (λ i scope floor from upto is. low i scope floor from (omega (arith, upto)) is) kept)

pub times-stay-kept : TimesStayKept
times-stay-kept tells t p q relation time low kept floors =
    let same : on p (q - p) ≡ q = omega (arith, low, on-is p (q - p)) in
    subst (λ (n : ℕ). IsKeptTime (machine_at t n) relation time) same
    (times-on t p (q - p) relation time (λ i scope floor from upto is. floors i scope floor from (omega (arith, upto, same)) is) kept)

leaves-at : {tells : Bool} (t : Trace tells) (p : ℕ) → Leaves tells (moment_at t p)
leaves-at {tells} t p =
    kept-upto t (λ (m n : Moment). Leaves tells m
    → Leaves tells n) (λ m leaves. leaves) (λ a b c one two leaves. two (one leaves)) (λ c a m n link leaves. link.leaves) 0 p (omega arith)
    (subst (Leaves tells) (sym (to-its-end tells t).0) t.promises.first)

pub stops-survive : StopsSurvive
stops-survive tells t n image told (inl left) = inl (leaves-at t n told image left)
stops-survive tells t n image told (inr left) = inr (leaves-at t (suc n) told image left)

-- ---- places

-- places of earlier calls stay, and hold what they held
record Stay (m n : Moment) : Type 0 where
  longer : length m.world.places ≤ length n.world.places
  back : (i : ℕ) (p : Place) → IsGiven p → i < length m.world.places → place_at n.world.places i ≡ p → place_at m.world.places i ≡ p

stays : {tells : Bool} (t : Trace tells) (p q : ℕ) → p ≤ q → Stay (moment_at t p) (moment_at t q)
stays {tells = tells} t p q low =
    kept-upto t Stay (λ m. record { longer = omega arith; back = λ i x given within at. at })
    (λ a b c one two. record {
      longer = omega (arith, one.longer, two.longer);
      back = λ i x given within at. one.back i x given within (two.back i x given (omega (arith, within, one.longer)) at);
    })
    (λ c a m n link. let passed = passes tells m.world c a n.world link.does in record { longer = omega (arith, passed.longer); back = passed.back }) p q low

-- each call has one place
places-at : {tells : Bool} (t : Trace tells) (n : ℕ) → n ≤ length t.calls → length (moment_at t n).world.places ≡ place_of t n
places-at {tells} t zero low = ap (λ (m : Moment). length m.world.places) (to-its-end tells t).0 ∙ omega arith
places-at {tells} t (suc n) low = elim (next-call t n) as (λ o. length (moment_at t (suc n)).world.places ≡ place_of t (suc n)) [
  | inl next ↦ omega (
    arith,
    (passes tells (moment_at t n).world next.asked next.said (moment_at t (suc n)).world (calls-link tells t n next.asked next.said next.is).does).longer,
    places-at t n (omega (arith, low)),
  )
  | inr past ↦ absurd (omega (arith, past, low))
]

given-low : (ps : List Place) (i : ℕ) (p : Place) → IsGiven p → place_at ps i ≡ p → i < length ps
given-low [] i p given at = absurd (subst IsGiven (sym at) given)
given-low (q ∷ ps) zero p given at = omega arith
given-low (q ∷ ps) (suc i) p given at = omega (arith, given-low ps i p given at)

pub tickets-stay : TicketsStay
tickets-stay tells t p q place time low within at = (stays t p q low).back place (Waits time) tt within at

pub views-stay : ViewsStay
views-stay tells t p q place h floors reclaimed low within at = (stays t p q low).back place (Views h floors reclaimed) tt within at

-- the call that gave what a place holds at a later moment
record GivenBy {tells : Bool} (t : Trace tells) (i k : ℕ) (p : Place) : Type 0 where
  earlier : i < k
  asked : Call
  said : Answer
  is : IsCall t i asked said
  gives : Gives (moment_at t i).world asked said (moment_at t (suc i)).world p

given-by : {tells : Bool} (t : Trace tells) (i k : ℕ) (p : Place) → IsGiven p → k ≤ length t.calls → place_at (moment_at t k).world.places (place_of t i) ≡ p
    → GivenBy t i k p
given-by {tells} t i k p given low at =
    let within = given-low (moment_at t k).world.places (place_of t i) p given at in
    let earlier : i < k = omega (arith, within, places-at t k low) in
    let here = (stays t (suc i) k (omega (arith, earlier))).back (place_of t i) p given (omega (arith, places-at t (suc i) (omega (arith, earlier, low)))) at in
    elim (next-call t i) as (λ o. GivenBy t i k p) [
      | inl next ↦
          let passed =
          passes tells (moment_at t i).world next.asked next.said (moment_at t (suc i)).world (calls-link tells t i next.asked next.said next.is).does in
          record {
            earlier = earlier;
            asked = next.asked;
            said = next.said;
            is = next.is;
            gives = subst (Gives (moment_at t i).world next.asked next.said (moment_at t (suc i)).world)
                (ap (λ (n : ℕ). place_at (moment_at t (suc i)).world.places n) (places-at t i (omega (arith, earlier, low))) ∙ here) passed.made;
          }
      | inr past ↦ absurd (omega (arith, past, earlier, low))
    ]

-- ---- tickets

done-is : (t time : ℕ) (published failed : Bool)
    → Path answers.Redeemed (cond published (answers.Done t) (cond failed answers.InDoubt answers.Waiting)) (answers.Done time) → t ≡ time
done-is t time true failed is = cc
done-is t time false true is = absurd cc
done-is t time false false is = absurd cc

redeem-waits : (w : World) (i t : ℕ) (p : Place) (next : World) → Redeems w i p (told.Done t) next → (p ≡ Waits t)
    × (answers.redeemed_by w.machine t ≡ answers.Done t)
redeem-waits w i t Free next does = absurd does
redeem-waits w i t (Running snapshot writes) next does = absurd does
redeem-waits w i t (Views h floors reclaimed) next does = absurd does
redeem-waits w i t (Waits time) next does =
    let same = done-is time t (answers.is_published w.machine time) w.machine.failed does.0 in
    (ap Waits same, subst (λ (n : ℕ). answers.redeemed_by w.machine n ≡ answers.Done t) same does.0)

-- what is queued stands at the end of the commit order
queued-order : (old new : Machine Value) (s : Submission Value) (c : Commit Value) → Step IsValue old (Decided s (submissions.Queues c)) new → commit_order new
    ≡ commit_order old ++ c ∷ []
queued-order old new s c step = ap commit_order step.3.2 ∙ sym (append_assoc old.published old.queue (c ∷ []))

-- and stays there
pub queued-stays : {tells : Bool} (t : Trace tells) (i k : ℕ) (c : Commit Value) → IsSubmit t i c → i < k → Contains (commit_order (machine_at t k)) c
queued-stays t i k c submit low =
    let run = runs-on t (suc i) k (omega (arith, low)) in
    let more = histories.run-adds IsValue (machine_at t (suc i)) (machine_at t k) run.0 run.1 in
    let here : Contains (commit_order (machine_at t (suc i))) c =
    subst (λ (h : History Value). Contains h c)
    (sym (queued-order (machine_at t i) (machine_at t (suc i)) (submission submit.snapshot c.writes c.label submit.now) c submit.queued))
    (Contains-push (commit_order (machine_at t i)) c) in
    subst (λ (h : History Value). Contains h c) (sym more.1) (Contains-append_left (commit_order (machine_at t (suc i))) more.0 c here)

pub done-names-its-submit : DoneNamesItsSubmit
done-names-its-submit tells t i k time is =
    let redeem =
    redeem-waits (moment_at t k).world (place_of t i) time (place_at (moment_at t k).world.places (place_of t i)) (moment_at t (suc k)).world
    (calls-link tells t k (call.Redeem (place_of t i)) (answer.Redeem (told.Done time)) is).does in
    let by = given-by t i k (Waits time) tt (omega (arith, get-low t.calls k (call.Redeem (place_of t i)) is.0)) redeem.0 in
    let q : QueuesAt (moment_at t i).world by.asked by.said (moment_at t (suc i)).world time = by.gives in
    let c : Commit Value = commit_made (machine_at t i) (submission q.snapshot q.writes q.label q.now) in
    let submit : IsSubmit t i c = record {
      transaction = q.transaction;
      now = q.now;
      snapshot = q.snapshot;
      answered = (by.is.0 ∙ ap Some q.asked, by.is.1 ∙ ap Some q.said);
      running = q.running;
      made = refl;
      queued = q.step;
    } in
    let found = (done-published (machine_at t k) time).0 redeem.1 in
    let whole = queued-stays t i k c submit by.earlier in
    let same : found.0 ≡ c =
    commit-one 0 (commit_order (machine_at t k)) found.0 c (rising-from_following IsValue [] (commit_order (machine_at t k)) (machine-is t k).history)
    (Contains-append_left (machine_at t k).published (machine_at t k).queue found.0 found.1) whole (found.2 ∙ q.stamped) in
    (c, sym q.stamped, by.earlier, submit, subst (λ (d : Commit Value). Contains (machine_at t k).published d) same found.1)

-- ---- views

asks-view : (tells : Bool) (w : World) (key : Key) (time : ℕ) (p : Place) (said : Result (Option Value) QueryFault) (next : World)
    → Asks tells w key time p said next
    → (h : History Value) × (floors : ℕ → ℕ) × (reclaimed : ℕ) × (p ≡ Views h floors reclaimed)
    × SaysAt (IsSure tells reclaimed time) (answers.at_answer h floors key time) said
asks-view tells w key time (Views h floors reclaimed) said next does = (h, floors, reclaimed, refl, does.0)
asks-view tells w key time Free said next does = absurd does
asks-view tells w key time (Running snapshot writes) said next does = absurd does
asks-view tells w key time (Waits t) said next does = absurd does

pub view-answers : ViewAnswersByItsMoment
view-answers tells t i k key time said is =
    let asked =
    asks-view tells (moment_at t k).world key time (place_at (moment_at t k).world.places (place_of t i)) said (moment_at t (suc k)).world
    (calls-link tells t k (call.At (place_of t i) key time) (answer.At said) is).does in
    let by = given-by t i k (Views asked.0 asked.1 asked.2) tt (omega (arith, get-low t.calls k (call.At (place_of t i) key time) is.0)) asked.3 in
    let gives : (by.asked ≡ call.View) × (by.said ≡ answer.View (Ok tt)) × (asked.0 ≡ (machine_at t i).published) × (asked.1 ≡ (machine_at t i).floors)
    × (asked.2 ≤ last (machine_at t i).published) = by.gives in (
      by.earlier,
      (by.is.0 ∙ ap Some gives.0, by.is.1 ∙ ap Some gives.1),
      (
        asked.2,
        gives.4,
        subst (λ (f : ℕ
            → ℕ). SaysAt (IsSure tells asked.2 time) (answers.at_answer (machine_at t i).published f key time) said) gives.3
            (subst (λ (h : History Value). SaysAt (IsSure tells asked.2 time) (answers.at_answer h asked.1 key time) said) gives.2 asked.4),
      ),
    )

asks-recent : (w : World) (key : Key) (time : ℕ) (p : Place) (said : Result (Option Value) QueryFault) (next : World) → AsksRecent w key time p said next
    → (h : History Value) × (floors : ℕ → ℕ) × (reclaimed : ℕ) × (p ≡ Views h floors reclaimed)
    × SaysRecent reclaimed time (answers.at_answer h floors key time) said
asks-recent w key time (Views h floors reclaimed) said next does = (h, floors, reclaimed, refl, does.0)
asks-recent w key time Free said next does = absurd does
asks-recent w key time (Running snapshot writes) said next does = absurd does
asks-recent w key time (Waits t) said next does = absurd does

pub recent-answers : RecentAnswersByItsMoment
recent-answers tells t i k key time said is =
    let asked =
    asks-recent (moment_at t k).world key time (place_at (moment_at t k).world.places (place_of t i)) said (moment_at t (suc k)).world
    (calls-link tells t k (call.Recent (place_of t i) key time) (answer.Recent said) is).does in
    let by = given-by t i k (Views asked.0 asked.1 asked.2) tt (omega (arith, get-low t.calls k (call.Recent (place_of t i) key time) is.0)) asked.3 in
    let gives : (by.asked ≡ call.View) × (by.said ≡ answer.View (Ok tt)) × (asked.0 ≡ (machine_at t i).published) × (asked.1 ≡ (machine_at t i).floors)
    × (asked.2 ≤ last (machine_at t i).published) = by.gives in (
      by.earlier,
      (by.is.0 ∙ ap Some gives.0, by.is.1 ∙ ap Some gives.1),
      (
        asked.2,
        gives.4,
        subst (λ (f : ℕ
            → ℕ). SaysRecent asked.2 time (answers.at_answer (machine_at t i).published f key time) said) gives.3
            (subst (λ (h : History Value). SaysRecent asked.2 time (answers.at_answer h asked.1 key time) said) gives.2 asked.4),
      ),
    )

-- ---- puts

pub written-is-found : WrittenIsFound
written-is-found writes w key = write_in-with_write w writes key

-- a call has changed what a transaction of this snapshot writes, from the one to the other
record Rewrites (w : World) (j snapshot : ℕ) (before after : List (KeyWrite Value)) (next : World) : Type 0 where
  low : j < length w.places
  here : place_at w.places j ≡ Running snapshot before
  at : place_at next.places j ≡ Running snapshot after

running-low : (ps : List Place) (j s : ℕ) (ws : List (KeyWrite Value)) → place_at ps j ≡ Running s ws → j < length ps
running-low [] j s ws at = absurd cc
running-low (p ∷ ps) zero s ws at = omega arith
running-low (p ∷ ps) (suc j) s ws at = omega (arith, running-low ps j s ws at)

rewrites : (w : World) (j snapshot : ℕ) (before after : List (KeyWrite Value)) (next : World) → place_at w.places j ≡ Running snapshot before → next
    ≡ same (put w j (Running snapshot after)) → Rewrites w j snapshot before after next
rewrites w j snapshot before after next here is =
    let low = running-low w.places j snapshot before here in
    let set = slice_set w.places j (Running snapshot after) in
    record {
      low = low;
      here = here;
      at = ap (λ (x : World). place_at x.places j) is ∙ place-push_old set j Free (omega (arith, low, length-set w.places j (Running snapshot after)))
          ∙ place-set_same w.places j (Running snapshot after) low;
    }

has-put : (w : World) (j : ℕ) (key : Key) (value : Value) (p : Place) (next : World) → place_at w.places j ≡ p → Puts w j key value p (Ok tt) next
    → (snapshot : ℕ) × (before : List (KeyWrite Value)) × (after : List (KeyWrite Value)) × Rewrites w j snapshot before after next
    × (after ≡ with_write before (record { key = key; write = Some value }))
has-put w j key value (Running snapshot writes) next here does = (snapshot, writes, does.0, rewrites w j snapshot writes does.0 next here does.2, does.1.ok)
has-put w j key value Free next here does = absurd does
has-put w j key value (Waits t) next here does = absurd does
has-put w j key value (Views h floors reclaimed) next here does = absurd does

has-deleted : (w : World) (j : ℕ) (key : Key) (p : Place) (next : World) → place_at w.places j ≡ p → Deletes w j key p (Ok tt) next → (snapshot : ℕ)
    × (before : List (KeyWrite Value)) × (after : List (KeyWrite Value)) × Rewrites w j snapshot before after next
    × (after ≡ deleted (state w.machine.published snapshot key) before key)
has-deleted w j key (Running snapshot writes) next here does = (snapshot, writes, does.0, rewrites w j snapshot writes does.0 next here does.2, does.1.ok)
has-deleted w j key Free next here does = absurd does
has-deleted w j key (Waits t) next here does = absurd does
has-deleted w j key (Views h floors reclaimed) next here does = absurd does

-- a transaction that runs at a later moment had the same write of a key that no call between them touched
running-back : {tells : Bool} (t : Trace tells) (p d j s : ℕ) (ws : List (KeyWrite Value)) (key : Key) → j < length (moment_at t p).world.places
    → ((q : ℕ) (c : Call) (a : Answer) → p ≤ q → q < on p d → IsCall t q c a → LeavesKey j key c) → place_at (moment_at t (on p d)).world.places j
    ≡ Running s ws → WasRunning (moment_at t p).world j s ws key
running-back t p zero j s ws key low apart at = record { writes = ws; at = at; same_write = refl }
running-back {tells} t p (suc d) j s ws key low apart at =
    let far = on-is p d in
    let there = (stays t p (on p d) (omega (arith, far))).longer in
    let last : WasRunning (moment_at t (on p d)).world j s ws key =
    elim (next-call t (on p d)) as (λ o. WasRunning (moment_at t (on p d)).world j s ws key) [
      | inl next ↦ (passes tells (moment_at t (on p d)).world next.asked next.said (moment_at t (suc (on p d))).world
          (calls-link tells t (on p d) next.asked next.said next.is).does).running j s ws key (omega (arith, low, there))
          (apart (on p d) next.asked next.said (omega (arith, far)) (omega arith) next.is) at
      | inr past ↦ record {
        writes = ws;
        at = ap (λ (m : Moment). place_at m.world.places j) (sym (past-end tells t.calls t.answers t.start t.end t.promises.chain (on p d) past)) ∙ at;
        same_write = refl;
      }
    ] in
    let rest = running-back t p d j s last.writes key low (λ q c a from below is. apart q c a from (omega (arith, below)) is) last.at in
    record { writes = rest.writes; at = rest.at; same_write = last.same_write ∙ rest.same_write }

running-is : (a b : ℕ) (xs ys : List (KeyWrite Value)) → Path Place (Running a xs) (Running b ys) → (a ≡ b) × (xs ≡ ys)
running-is a b xs ys is = (cc, cc)

submit-is : (a b la lb na nb : ℕ) → Path (Option Call) (Some (call.Submit a la na)) (Some (call.Submit b lb nb)) → a ≡ b
submit-is a b la lb na nb is = cc

same-itself : (key : Key) → same_key key key ≡ true
same-itself key = grind (arith, nat_tests)

-- what a call wrote of a key that no later one touched is what is submitted
last-write : {tells : Bool} (t : Trace tells) (i p transaction label now snapshot : ℕ) (before after : List (KeyWrite Value)) (c : Commit Value) (key : Key)
    (a : Answer) (submit : IsSubmit t i c) → IsCall t i (call.Submit transaction label now) a → p < i
    → Rewrites (moment_at t p).world transaction snapshot before after (moment_at t (suc p)).world
    → ((q : ℕ) (other : Call) (b : Answer) → p < q → q < i → IsCall t q other b → LeavesKey transaction key other) → write_in c.writes key ≡ write_in after key
last-write t i p transaction label now snapshot before after c key a submit asked low had apart =
    let mine : submit.transaction ≡ transaction = submit-is submit.transaction transaction c.label label submit.now now (sym submit.answered.0 ∙ asked.0) in
    let running : place_at (moment_at t i).world.places transaction ≡ Running submit.snapshot c.writes =
    ap (λ (n : ℕ). place_at (moment_at t i).world.places n) (sym mine) ∙ submit.running in
    let longer = (stays t p (suc p) (omega arith)).longer in
    let far : i ≡ on (suc p) (i - suc p) = omega (arith, low, on-is (suc p) (i - suc p)) in
    let back =
    running-back t (suc p) (i - suc p) transaction submit.snapshot c.writes key (omega (
      arith,
      had.low,
      longer,
    )) (λ q other b from below is. apart q other b (omega (arith, from)) (omega (arith, below, far)) is)
    (subst (λ (n : ℕ). place_at (moment_at t n).world.places transaction ≡ Running submit.snapshot c.writes) far running) in
    let same = running-is snapshot submit.snapshot after back.writes (sym had.at ∙ back.at) in
    back.same_write ∙ ap (λ (l : List (KeyWrite Value)). write_in l key) (sym same.1)

-- one more write of a key is the one that is found
last-is : (key : Key) (write : Option Value) (writes : List (KeyWrite Value)) → write_in (with_write writes (record { key = key; write = write })) key
    ≡ Some write
last-is key write writes =
    write_in-with_write (record { key = key; write = write }) writes key ∙ ap (λ (b : Bool). cond b (Some write) (write_in writes key)) (same-itself key)

pub put-is-submitted : PutIsSubmitted
put-is-submitted tells t i p transaction label now c key fields a submit asked low is_put apart =
    let value : Value = map (λ (field : Bor (List ℕ)). field.now) fields.now in
    let had =
    has-put (moment_at t p).world transaction key value (place_at (moment_at t p).world.places transaction) (moment_at t (suc p)).world refl
    (calls-link tells t p (call.Put transaction key fields) (answer.Put (Ok tt)) is_put).does in
    last-write t i p transaction label now had.0 had.1 had.2 c key a submit asked low had.3 apart ∙ ap (λ (l : List (KeyWrite Value)). write_in l key) had.4
    ∙ last-is key (Some value) had.1

-- a delete of what the snapshot has is a write
deleted-is : (here : Option Value) (key : Key) (writes : List (KeyWrite Value)) → IsSome here → write_in (deleted here writes key) key ≡ Some None
deleted-is None key writes some = absurd cc
deleted-is (Some value) key writes some = last-is key None writes

pub delete-is-submitted : DeleteIsSubmitted
delete-is-submitted tells t i p transaction label now snapshot writes c key a submit asked low is_delete apart running some =
    let had =
    has-deleted (moment_at t p).world transaction key (place_at (moment_at t p).world.places transaction) (moment_at t (suc p)).world refl
    (calls-link tells t p (call.Delete transaction key) (answer.Delete (Ok tt)) is_delete).does in
    let same = running-is snapshot had.0 writes had.1 (sym running ∙ had.3.here) in
    let here : IsSome (state (machine_at t p).published had.0 key) = subst (λ (n : ℕ). IsSome (state (machine_at t p).published n key)) same.0 some in
    last-write t i p transaction label now had.0 had.1 had.2 c key a submit asked low had.3 apart ∙ ap (λ (l : List (KeyWrite Value)). write_in l key) had.4
    ∙ deleted-is (state (machine_at t p).published had.0 key) key had.1 here
