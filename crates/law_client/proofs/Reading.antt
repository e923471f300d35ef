-- A settled value is read of whatever survives.
use Rattle.std.proofs.Common.{◌≡◌, inl, inr, ◌≤◌, ◌++◌, ℕ, Bool, true, false, cond, IsTrue, List, [], ◌∷◌, take, drop, Option, Some, None, Result, Ok, Err}
use Rattle.std.proofs.Common.{MatchOption, refl, ap, sym, subst, ◌∙◌, arith}
use Rattle.std.specs.Prelude.{Contains}
use Rattle.std.proofs.lemmas.List.{take-append-drop}
use Rattle.std.proofs.lemmas.List.Elements.{Contains-append_left}
use Rattle.disk.specs.Areas.{Image}
use Rattle.history.specs.declared.key.Key.{Key}
use Rattle.history.specs.Answers as answers
use Rattle.history.specs.Answers.{QueryRefusal, at_answer}
use Rattle.history.specs.Floors.{Raising, covers, raised}
use Rattle.history.specs.Fronts.{OnFront, OnOpened, OnRaised}
use Rattle.history.specs.Histories.{Commit, History, last, last_after, HasRisingTimes, MayAllFollow}
use Rattle.history.specs.Laws.{LaterChangesNothing}
use Rattle.history.specs.Machine.{Machine, Gate, Shut, Due, MayBeOpen, OfGroup, OfFloor, IsMachine, opened}
use Rattle.history.proofs.Histories.{rising-from_following, may_follow-front, may_follow-behind, last_after-append}
use Rattle.history.proofs.Orders.{not_lt}
use Rattle.law_image.specs.Values.{Value, IsValue}
use Rattle.timequery.specs.declared.fault.QueryFault.{QueryFault}
use Rattle.timequery.specs.declared.fault.QueryFault.TheVariants as query
use Rattle.law_refinement.specs.Homes.{IsSure}
use Rattle.law_refinement.specs.Laws.{SaysAt}
use Rattle.run.specs.Moments.{Moment}
use Rattle.run.specs.Promise.{IsKeptAs, IsKeptWith, Survives}
use Rattle.run.specs.Laws.{IsKeptTime}
use Rattle.law_client.specs.Kept.{IsAnswer, IsReadBack}
use Rattle.law_client.specs.Settled.{IsSettled}

-- times rise
pub last-later : {V : Type 0} (t : ℕ) (h : History V) → HasRisingTimes t h → t ≤ last_after t h
last-later t [] up = omega arith
last-later t (x ∷ xs) up = omega (arith, up.0, last-later x.time xs up.2)

-- the last time of a history that goes on
pub last-on : (h more : History Value) → MayAllFollow IsValue h more → last h ≤ last (h ++ more)
last-on h more follow = omega (arith, last_after-append 0 h more, last-later (last h) more (rising-from_following IsValue h more follow))

-- an answer that says a value for sure is this value
pub says-value : (Sure : Type 0) → Sure → (value : Option Value) (said : Result (Option Value) QueryRefusal) (answer : Result (Option Value) QueryFault) → said
    ≡ Ok value → SaysAt Sure said answer → IsAnswer value answer
says-value Sure sure value said (Ok found) is says = let same : Path (Result (Option Value) QueryRefusal) (Ok found) (Ok value) = sym (says sure) ∙ is in inl cc
says-value Sure sure value said (Err (query.BeforeKept floor)) is says =
    absurd (let no : Path (Result (Option Value) QueryRefusal) (Ok value) (Err (answers.BeforeKept floor)) = sym is ∙ says in cc)
says-value Sure sure value said (Err (query.NotYet time)) is says =
    absurd (let no : Path (Result (Option Value) QueryRefusal) (Ok value) (Err (answers.NotYet time)) = sym is ∙ says in cc)
says-value Sure sure value said (Err query.NoMemory) is says = inr (inl refl)
says-value Sure sure value said (Err query.Device) is says = inr (inr refl)
says-value Sure sure value said (Err query.EmptyInterval) is says = absurd says
says-value Sure sure value said (Err (query.Damaged start)) is says = absurd (says.0 sure)
says-value Sure sure value said (Err query.NeedsDisk) is says = absurd says
says-value Sure sure value said (Err query.Stranger) is says = absurd says

-- a kept time up to the last is answered by the state
answered : (h : History Value) (floors : ℕ → ℕ) (key : Key) (time : ℕ) (value : Option Value) → IsSettled (opened h floors) key time value
    → at_answer h floors key time ≡ Ok value
answered h floors key time value settled = rw (not_lt settled.kept.0) (rw (not_lt settled.reached) (ap Ok settled.is))

-- an image that is kept as a history in which a value is settled is read so
pub kept-read : (tells : Bool) (image : Image) (h : History Value) (floors : ℕ → ℕ) (key : Key) (time : ℕ) (value : Option Value)
    → IsKeptAs tells image h floors → IsSettled (opened h floors) key time value → IsReadBack tells image key time value
kept-read tells image h floors key time value kept settled = record {
  opens = λ disk new why same refuses. (kept.opens disk new why same refuses).0;
  reads = λ disk mark again asked new later view answer told same sound opens of_view stands goes says.
      says-value (IsSure tells view.reclaimed time) (inl told) value (at_answer h floors key time) answer (answered h floors key time value settled)
      ((kept.answers disk mark again same sound opens).1.at view asked new later key time answer of_view stands goes says);
}

-- ---- fronts

-- the image is kept as a history that is like this
abbrev pub KeptLike : Bool → Image → (History Value → (ℕ → ℕ) → Type 0) → Type 0
KeptLike tells image Is = (h : History Value) × (floors : ℕ → ℕ) × IsKeptAs tells image h floors × Is h floors

-- what holds of what is published, of it with the group and of it with the floor in the making holds of what is kept
module _ (tells : Bool) (image : Image) (m : Machine Value) (done : List ℕ) (Is : History Value → (ℕ → ℕ)
    → Type 0) (published : Is m.published m.floors) (group : Is (m.published ++ take m.group m.queue) m.floors)
    (raises : (r : Raising) → m.raising ≡ Some r → Is m.published (raised r.scope r.floor m.floors)) where
  on-raised : (o : Option Raising) → m.raising ≡ o → OnRaised (IsKeptWith tells image done) m o → KeptLike tells image Is
  on-raised None is on = absurd on
  on-raised (Some r) is on = (m.published, raised r.scope r.floor m.floors, on.kept, raises r is)

  on-opened : (gate : Gate) → OnOpened (IsKeptWith tells image done) m gate → KeptLike tells image Is
  on-opened Shut on = absurd on
  on-opened (Due change) on = absurd on
  on-opened (MayBeOpen OfGroup) on = (m.published ++ take m.group m.queue, m.floors, on.kept, group)
  on-opened (MayBeOpen OfFloor) on = on-raised m.raising refl on

  pub on-front : OnFront (IsKeptWith tells image done) m → KeptLike tells image Is
  on-front (inl on) = (m.published, m.floors, on.kept, published)
  on-front (inr on) = on-opened m.gate on

group-follows : (m : Machine Value) → IsMachine IsValue m → MayAllFollow IsValue m.published (take m.group m.queue)
group-follows m is =
    may_follow-front IsValue m.published (take m.group m.queue) (drop m.group m.queue)
    (subst (MayAllFollow IsValue m.published) (sym (take-append-drop m.group m.queue)) (may_follow-behind IsValue [] m.published m.queue is.history))

-- a floor in the making that is raised is not later either
raised-kept : (m : Machine Value) (r : Raising) (relation time : ℕ) → IsKeptTime m relation time → m.raising ≡ Some r
    → raised r.scope r.floor m.floors relation ≤ time
raised-kept m r relation time kept is =
    let covered : IsTrue (covers r.scope relation) → r.floor ≤ time =
    subst (λ (o : Option Raising). MatchOption o (Unit {0}) (λ x. IsTrue (covers x.scope relation) → x.floor ≤ time)) is kept.1 in
    let Goal : Bool → Type 0 = λ b. covers r.scope relation ≡ b → cond b r.floor (m.floors relation) ≤ time in
    elim (covers r.scope relation) as Goal [
      | true ↦ λ yes. covered yes
      | false ↦ λ no. kept.0
    ] refl

-- what is settled at a moment is settled in what is kept of it
pub survivor-settled : LaterChangesNothing Value IsValue → (tells : Bool) (at : Moment) (image : Image) (key : Key) (time : ℕ) (value : Option Value)
    → IsMachine IsValue at.world.machine → IsSettled at.world.machine key time value → Survives tells at image
    → KeptLike tells image (λ h floors. IsSettled (opened h floors) key time value)
survivor-settled later tells at image key time value machine settled survives =
    let m = at.world.machine in
    let more = take m.group m.queue in
    let follow = group-follows m machine in
    let reached = last-on m.published more follow in
    on-front tells image m at.done (λ h floors. IsSettled (opened h floors) key time value)
    (record { kept = (settled.kept.0, tt); reached = settled.reached; is = settled.is })
    (record {
      kept = (settled.kept.0, tt);
      reached = omega (arith, settled.reached, reached);
      is = later m.published more time key follow settled.reached
          ∙ settled.is;
    })
    (λ r is. record { kept = (raised-kept m r key.relation time settled.kept is, tt); reached = settled.reached; is = settled.is })
    survives.front

-- what is published at a moment is in what is kept of it
pub survivor-has : (tells : Bool) (at : Moment) (image : Image) (c : Commit Value) → Contains at.world.machine.published c → Survives tells at image
    → KeptLike tells image (λ h floors. Contains h c)
survivor-has tells at image c has survives =
    let m = at.world.machine in
    on-front tells image m at.done (λ h floors. Contains h c) has (Contains-append_left m.published (take m.group m.queue) c has) (λ r is. has) survives.front
