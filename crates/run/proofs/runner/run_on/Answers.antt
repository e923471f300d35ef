use Rattle.std.proofs.Common.{◌≡◌, ◌+◌, ℕ, List, [], ◌∷◌, ◌++◌, length, take, drop, get_or, refl, arith, ap, subst, sym, ◌∙◌}
use Rattle.std.proofs.lemmas.List.{take_more, take_all, drop_all, append-nil}
use Rattle.run.specs.declared.calls.Call.{Call}
use Rattle.run.specs.declared.calls.Call.TheVariants.{Begin}
use Rattle.run.specs.declared.calls.Answer.{Answer}
use Rattle.run.specs.declared.held.Held.{Held}
use Rattle.run.specs.Moments.{IsAtMoment}
use Rattle.run.specs.Promise.{Chain}
use Rattle.run.proofs.Linking.{chain-push}
use Rattle.run.proofs.Survival.{moment-leaves}
use Rattle.run.proofs.runner.run_on.Goals as goal

-- a vector lent as a slice, which keeps its length, holds the slice's new elements
lent_back : (new old : List Held) (n : ℕ) → length new ≡ length old → n ≡ length old → take n (new ++ drop (length new) old) ≡ new
lent_back new old n same is =
    ap (λ (l : List Held). take n (new ++ l)) (drop_all (length new) old (omega arith))
    ∙ ap (λ (l : List Held). take n l) (append-nil new)
    ∙ take_all n new (omega arith)

pub loop-call-init : goal.loop-call-init
loop-call-init g c = record {
  answers_room = omega (arith, c.in_ok-answers.ensures.capacity);
  answers_made = c.in_ok-answers.ensures.len;
  places_room = omega (arith, c.in_ok-reserve.ensures.ok);
  places_made = omega arith;
  few = omega arith;
  so_far = λ start is. (start, subst (λ (l : List Answer). Chain g.D.Disk.tells [] l start start) (sym c.in_ok-answers.ensures.items) refl, is);
}

pub loop-call-preserved : goal.loop-call-preserved
loop-call-preserved g c =
    let call : Call = get_or c.args.calls.now c.loop-call.call-index Begin in
    let calls : List Call = take c.loop-call.call-index c.args.calls.now in
    let places : c.push_reserved-in-loop-call.new.self.items ≡ c.step-answer.new.places ++ c.step-answer.result.1 ∷ [] =
    c.push_reserved-in-loop-call.ensures.items
    ∙ ap (λ (l : List Held). l ++ c.step-answer.result.1 ∷ [])
    (lent_back c.step-answer.new.places c.loop-call.places.items c.loop-call.places.len (c.step-answer.auto.places
    ∙ ap length c.deref_mut.ensures.value) (sym c.deref_mut.ensures.len ∙ ap length c.deref_mut.ensures.value)) in
    let more : take (c.loop-call.call-index + 1) c.args.calls.now ≡ calls ++ call ∷ [] =
    take_more c.args.calls.now c.loop-call.call-index Begin (omega arith) in
    record {
      answers_room = omega arith;
      answers_made = omega arith;
      places_room = omega arith;
      places_made = omega arith;
      few = omega (arith, c.step-answer.ensures.made, c.loop-call.invariant.few);
      so_far = λ start is.
          let before = c.loop-call.invariant.so_far start is in
          let did =
          c.step-answer.ensures.links before.0
          (subst (λ (l : List Held). IsAtMoment g.D.Disk.tells c.loop-call.store l before.0) (sym c.deref_mut.ensures.value) before.2) in (
            did.0,
            subst (λ (l : List Call). Chain g.D.Disk.tells l c.push_reserved.new.self.items start did.0) (sym more)
                (subst (λ (l : List Answer). Chain g.D.Disk.tells (calls ++ call ∷ []) l start did.0) (sym c.push_reserved.ensures.items)
                (chain-push g.D.Disk.tells calls c.loop-call.answers.items start before.0 call c.step-answer.result.0 did.0 before.1 did.1)),
            subst (λ (l : List Held). IsAtMoment g.D.Disk.tells c.step-answer.new.store l did.0) (sym places) did.2,
          );
    }

pub returns-clause-run : goal.returns-clause-run
returns-clause-run g c = λ start is.
    let here : IsAtMoment g.D.Disk.tells c.args.store.now c.reserve.new.self.items start =
    subst (λ (l : List Held). IsAtMoment g.D.Disk.tells c.args.store.now l start) (sym c.in_ok-reserve.ensures.items) is in
    let so_far = c.loop-call.invariant.so_far start here in
    let all : take c.loop-call.call-index c.args.calls.now ≡ c.args.calls.now =
    take_all c.loop-call.call-index c.args.calls.now (omega (arith, c.loop-call-test.false)) in (
      so_far.0,
      record {
        first = moment-leaves g.D.Disk.tells c.args.store.now c.args.places.now.items start is;
        chain = subst (λ (l : List Call). Chain g.D.Disk.tells l c.loop-call.answers.items start so_far.0) all so_far.1;
      },
      so_far.2,
    )
