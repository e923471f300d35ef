-- A line that is answered by calls leads from one moment of a script to the next.
use Rattle.std.proofs.Common.{◌≡◌, ℕ, ◌+◌, ◌≤◌, Bool, List, map, Option, Some, None, MatchOption, refl, sym, ◌∙◌, ap, subst, arith}
use Rattle.script.specs.declared.line.Line.{Line}
use Rattle.session.specs.Session.{State}
use Rattle.session.specs.Session as session
use Rattle.session.specs.declared.reply.Reply.{Reply}
use Rattle.any_store.specs.Values.{StoreValue, is_log, commits_of, disk_of}
use Rattle.law_any_store.specs.Names.{names_from}
use Rattle.run.specs.declared.calls.Call.{Call}
use Rattle.run.specs.declared.calls.Answer.{Answer}
use Rattle.run.specs.declared.held.Held.{Held}
use Rattle.run.specs.Moments.{Moment, IsAtMoment, with_answer}
use Rattle.run.specs.Places.{place_at}
use Rattle.run.proofs.Places.{read-plain}
use Rattle.run.specs.Worlds.{IsWorld}
use Rattle.run.specs.Runs.{Goes}
use Rattle.run.specs.Promise.{Chain, Link}
use Rattle.run.proofs.Linking.{links}
use Rattle.run.proofs.Survival.{moment-leaves}
use Rattle.law_script.specs.ScriptMoments.{ScriptMoment, held_of, place_of, moment_of, with_reply}
use Rattle.law_script.specs.Says.{Exchange, Says, no_call, one_call, RefusesName}
use Rattle.law_script.specs.Keeps.{KeepsByCalls}
use Rattle.law_script.proofs.Among.{Among, all, renumbered}
use Rattle.law_script.proofs.Names.{held-no_view}

-- the store and the names stand for this moment
abbrev pub IsScriptMoment : Bool → ScriptMoment → Type 0
IsScriptMoment tells m = IsAtMoment tells m.state.store (held_of m.state) (moment_of m)

-- a line leads to a moment of this session
pub record LeadsTo (tells : Bool) (l : Line) (r : Reply) (before : ScriptMoment) (state : State) : Type 0 where
  pub after : ScriptMoment
  pub is_state : after.state ≡ state
  pub keeps : KeepsByCalls tells l r before after
  pub is : IsScriptMoment tells after

-- what is replied acknowledges nothing
pub silent : (r said : Reply) (done : List ℕ) → r ≡ said → with_reply said done ≡ done → done ≡ with_reply r done
silent r said done is nothing = sym (ap (λ (x : Reply). with_reply x done) is ∙ nothing)

-- the moment of a session whose names stand for values that some places hold
pub settled : (tells : Bool) (v : StoreValue) (xs : List Held) (end : Moment) (new : State) → IsAtMoment tells v xs end → new.store ≡ v → Among (held_of new) xs
    → IsScriptMoment tells (record { state = new; machine = end.world.machine; done = end.done })
settled tells v xs end new at same among = record {
  store = refl;
  places = refl;
  world = subst (λ (s : StoreValue). IsWorld tells s (held_of new) (record {
    machine = end.world.machine;
    in_heap = is_log s;
    names_from = names_from s;
    places = map place_of (held_of new);
  })) (sym same)
      (record {
        stands = at.world.stands;
        layout = refl;
        names = refl;
        places = renumbered (commits_of v) end.world.machine.published xs end.world.places (held_of new) (held-no_view new.opened new.tickets) among
            at.world.places;
        views = record { each = λ i x there. read-plain tells v x (held-no_view new.opened new.tickets i x there) (place_at (map place_of (held_of new)) i) };
      });
  published = at.published;
}

pub by-chain : (tells : Bool) (m : ScriptMoment) → IsScriptMoment tells m → (l : Line) (r : Reply) (made : Exchange) → Says m l made r → (end : Moment)
    → Chain tells made.calls made.answers (moment_of m) end
    → (v : StoreValue) (xs : List Held) → IsAtMoment tells v xs end → end.done ≡ with_reply r m.done → (new : State) → new.store ≡ v → Among (held_of new) xs
    → LeadsTo tells l r m new
by-chain tells m is l r made says end chain v xs at acknowledges new same among = record {
  after = record { state = new; machine = end.world.machine; done = end.done };
  is_state = refl;
  keeps = record {
    made = made;
    says = says;
    end = end;
    promises = record { first = moment-leaves tells m.state.store (held_of m.state) (moment_of m) is; chain = chain };
    store = at.store ∙ sym same;
    machine = refl;
    done = refl;
    acknowledges = acknowledges;
  };
  is = settled tells v xs end new at same among;
}

pub by-call : (tells : Bool) (m : ScriptMoment) → IsScriptMoment tells m → (l : Line) (r : Reply) (c : Call) (a : Answer) → Says m l (one_call c a) r
    → with_answer a m.done ≡ with_reply r m.done
    → (v : StoreValue) (ys : List Held) → Goes tells m.state.store (held_of m.state) c a v ys → (disk_of v).made ≤ (disk_of m.state.store).made + 1
    → (new : State)
    → new.store ≡ v → Among (held_of new) ys → LeadsTo tells l r m new
by-call tells m is l r c a says acknowledges v ys goes few new same among =
    let did = links tells m.state.store v (held_of m.state) ys c a (moment_of m) is goes few in
    by-chain tells m is l r (one_call c a) says did.0 (did.0, did.1, refl) v ys did.2 (did.1.acknowledges ∙ acknowledges) new same among

-- no call is made
pub by-none : (tells : Bool) (m : ScriptMoment) → IsScriptMoment tells m → (l : Line) (r : Reply) → Says m l no_call r → m.done ≡ with_reply r m.done
    → (new : State) → new.store ≡ m.state.store → Among (held_of new) (held_of m.state) → LeadsTo tells l r m new
by-none tells m is l r says acknowledges new same among =
    by-chain tells m is l r no_call says (moment_of m) refl m.state.store (held_of m.state) is acknowledges new same among

pub by-refusal : (tells : Bool) (m : ScriptMoment) → IsScriptMoment tells m → (l : Line) (r : Reply) (new : State)
    → (RefusesName no_call r → Says m l no_call r) → session.RefusesName m.state r new → LeadsTo tells l r m new
by-refusal tells m is l r new says refuses =
    let says_so = says (refl, refuses.0) in
    subst (λ (s : State). LeadsTo tells l r m s) (sym refuses.1)
    (by-none tells m is l r says_so (ap (λ (x : Reply). with_reply x m.done) (sym refuses.0)) m.state refl (all (held_of m.state)))

-- a line that speaks of a name
pub by-name : (tells : Bool) (m : ScriptMoment) → IsScriptMoment tells m
    → (l : Line) (r : Reply) (new : State) (o : Option ℕ) (Made : ℕ → Exchange → Reply → Type 0) (Step : ℕ → Type 0)
    → ((made : Exchange) → MatchOption o (RefusesName made r) (λ i. Made i made r) → Says m l made r) → MatchOption o (session.RefusesName m.state r new) Step
    → ((i : ℕ) → ((made : Exchange) → Made i made r → Says m l made r) → Step i → LeadsTo tells l r m new) → LeadsTo tells l r m new
by-name tells m is l r new None Made Step says step some = by-refusal tells m is l r new (says no_call) step
by-name tells m is l r new (Some i) Made Step says step some = some i says step

-- nothing is called
pub same-few : (v : StoreValue) → (disk_of v).made ≤ (disk_of v).made + 1
same-few v = omega arith
