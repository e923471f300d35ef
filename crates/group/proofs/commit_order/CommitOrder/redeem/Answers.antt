use Rattle.std.proofs.Common.{◌≡◌, ◌<◌, ◌≤◌, ◌-◌, true, false, vec_capacity, vec_len, ap, sym, ◌∙◌, subst}
use Rattle.std.proofs.Math.ListN.{set}
use Rattle.group.specs.CommitOrder.{CommitOrderValue, AreHeads, HasNone, IsPlaceOf, is_awaited, redeemed}
use Rattle.group.proofs.Heads.{not_awaited, unknown, waiting, published, found_awaited, found_redeemed, still_heads}
use Rattle.group.proofs.commit_order.CommitOrder.redeem.Goals as goal

pub returns-in_default-clause-is : goal.returns-in_default-clause-is
returns-in_default-clause-is c =
    let none : HasNone c.args.time c.args.self.now.heads =
    subst (HasNone c.args.time) (c.deref.ensures.value ∙ ap (λ (v : CommitOrderValue). v.heads) c.self.view_is) c.in_default.ensures in
    (unknown c.args.time c.args.self.now (not_awaited _ _ none)).0

pub returns-in_default-clause-new : goal.returns-in_default-clause-new
returns-in_default-clause-new c =
    let none : HasNone c.args.time c.args.self.now.heads =
    subst (HasNone c.args.time) (c.deref.ensures.value ∙ ap (λ (v : CommitOrderValue). v.heads) c.self.view_is) c.in_default.ensures in
    (unknown c.args.time c.args.self.now (not_awaited _ _ none)).1

pub returns-then-not-index-clause-is : goal.returns-then-not-index-clause-is
returns-then-not-index-clause-is c =
    let found : IsPlaceOf c.args.time c.self.inside.heads.items c.in-Some.place =
    subst (λ hs. IsPlaceOf c.args.time hs c.in-Some.place) c.deref.ensures.value c.in-Some.ensures in
    let awaited : is_awaited c.args.time c.self.inside.heads.items ≡ false =
    found_awaited _ _ _ _ c.self.invariant.rising found c.index.ensures ∙ c.if-not-index.true in
    (unknown c.args.time c.args.self.now (ap (λ (v : CommitOrderValue). is_awaited c.args.time v.heads) (sym c.self.view_is) ∙ awaited)).0

pub returns-then-not-index-clause-new : goal.returns-then-not-index-clause-new
returns-then-not-index-clause-new c =
    let found : IsPlaceOf c.args.time c.self.inside.heads.items c.in-Some.place =
    subst (λ hs. IsPlaceOf c.args.time hs c.in-Some.place) c.deref.ensures.value c.in-Some.ensures in
    let awaited : is_awaited c.args.time c.self.inside.heads.items ≡ false =
    found_awaited _ _ _ _ c.self.invariant.rising found c.index.ensures ∙ c.if-not-index.true in
    (unknown c.args.time c.args.self.now (ap (λ (v : CommitOrderValue). is_awaited c.args.time v.heads) (sym c.self.view_is) ∙ awaited)).1

pub returns-then-time-last-clause-is : goal.returns-then-time-last-clause-is
returns-then-time-last-clause-is c =
    let found : IsPlaceOf c.args.time c.self.inside.heads.items c.in-Some.place =
    subst (λ hs. IsPlaceOf c.args.time hs c.in-Some.place) c.deref.ensures.value c.in-Some.ensures in
    let awaited : is_awaited c.args.time c.self.inside.heads.items ≡ true =
    found_awaited _ _ _ _ c.self.invariant.rising found c.index.ensures ∙ c.if-not-index.false in
    (waiting c.args.time c.args.self.now (ap (λ (v : CommitOrderValue). is_awaited c.args.time v.heads) (sym c.self.view_is) ∙ awaited)
    (subst (λ n. n < c.args.time) c.last-last.ensures.is c.if-time-last.true)).0

pub invariant_of-self : goal.invariant_of-self
invariant_of-self c =
    let found : IsPlaceOf c.args.time c.self.inside.heads.items c.in-Some.place =
    subst (λ hs. IsPlaceOf c.args.time hs c.in-Some.place) c.deref.ensures.value c.in-Some.ensures in
    subst (λ hs. AreHeads hs c.self.inside.published) (sym (found_redeemed _ _ _ _ c.self.invariant.rising found c.index_mut.ensures.value))
    (still_heads _ _ _ c.self.invariant)

pub returns-clause-is : goal.returns-clause-is
returns-clause-is c =
    let found : IsPlaceOf c.args.time c.self.inside.heads.items c.in-Some.place =
    subst (λ hs. IsPlaceOf c.args.time hs c.in-Some.place) c.deref.ensures.value c.in-Some.ensures in
    let awaited : is_awaited c.args.time c.self.inside.heads.items ≡ true =
    found_awaited _ _ _ _ c.self.invariant.rising found c.index.ensures ∙ c.if-not-index.false in
    (published c.args.time c.args.self.now (ap (λ (v : CommitOrderValue). is_awaited c.args.time v.heads) (sym c.self.view_is) ∙ awaited)
    (subst (λ n. c.args.time ≤ n) c.last-last.ensures.is c.if-time-last.false)).0

pub returns-clause-new : goal.returns-clause-new
returns-clause-new c =
    let found : IsPlaceOf c.args.time c.self.inside.heads.items c.in-Some.place =
    subst (λ hs. IsPlaceOf c.args.time hs c.in-Some.place) c.deref.ensures.value c.in-Some.ensures in
    let awaited : is_awaited c.args.time c.self.inside.heads.items ≡ true =
    found_awaited _ _ _ _ c.self.invariant.rising found c.index.ensures ∙ c.if-not-index.false in
    let done = published c.args.time c.args.self.now (ap (λ (v : CommitOrderValue). is_awaited c.args.time v.heads) (sym c.self.view_is) ∙ awaited)
    (subst (λ n. c.args.time ≤ n) c.last-last.ensures.is c.if-time-last.false) in
    let fields : (record {
      heads = c.self.inside.heads.items;
      published = c.self.inside.published;
      room = vec_capacity c.self.inside.heads - vec_len c.self.inside.heads;
    }) ≡ c.args.self.now = c.self.view_is in
    let heads : set c.self.inside.heads.items c.in-Some.place
    (record { time = c.index_mut.result.now.time; label = c.index_mut.result.now.label; awaited = false }) ≡ redeemed c.args.time c.args.self.now.heads
    = found_redeemed _ _ _ _ c.self.invariant.rising found c.index_mut.ensures.value
    ∙ ap (λ (v : CommitOrderValue). redeemed c.args.time v.heads) c.self.view_is in
    (λ i. record { heads = heads i; published = (fields i).published; room = (fields i).room }) ∙ done.1
