use Rattle.std.proofs.Common.{◌≡◌, ◌+◌, ◌/◌, ◌≤◌, nat_lt, ℕ, List, length, take, drop, vec_len, refl, ap, sym, subst, ◌∙◌, arith}
use Rattle.std.proofs.lemmas.Bool.{false≢true}
use Rattle.std.proofs.lemmas.List.{take_rest}
use Rattle.log_extents.specs.Chains.{count_of}
use Rattle.log_base.specs.Bases.{front_len, mark_of, base_on}
use Rattle.log_recovery.specs.Live.{LiveChainValue}
use Rattle.log_store.specs.Reclaims.{named_behind}
use Rattle.log_store.specs.Reclaims as plans
use Rattle.log_store.specs.Values.{LogStoreValue}
use Rattle.log_store.proofs.Planning.{standing-anew, standing-stays, many-bytes, shares-kept, shares-lost, plan-made}
use Rattle.log_store.proofs.store.LogStore.plan_base.Goals as goal
use Rattle.log_store.proofs.store.LogStore.plan_base.Goals.{then-makes, else-makes}

pub returns-then-not-base_fits : goal.returns-then-not-base_fits
returns-then-not-base_fits g c =
    let v = c.args.self.now in
    let chains_are : c.chains-chains.result.now ≡ v.live.chains = c.chains-chains.ensures ∙ ap (λ (x : LogStoreValue). x.live.chains) c.self.view_is in
    let upto_is : c.upto-mark.result ≡ v.named.upto = c.upto-mark.ensures ∙ ap (λ (x : LogStoreValue). x.named.upto) c.self.view_is in
    let mark_is : c.mark_of.result ≡ plans.reclaimed v = c.mark_of.ensures ∙ ap mark_of chains_are in
    let front_is : c.front_len-front.result ≡ plans.front_count v = c.front_len-front.ensures.is ∙ (λ i. front_len (upto_is i) (chains_are i)) in
    let makes_is : nat_lt c.mark_of.result c.upto-mark.result ≡ plans.makes v = λ i. nat_lt (mark_is i) (upto_is i) in
    let anchors = c.name_anchors-anchors.result in
    let base = c.in-Ok.spelled.base in
    let base_is : base ≡ base_on (take c.front_len-front.result v.live.chains) v.named.upto anchors c.args.roll =
    c.in-Ok.ensures.base ∙ (λ i. base_on (take c.front_len-front.result (chains_are i)) (upto_is i) anchors c.args.roll) in
    let many = many-bytes v c.args.names.items c.front_len-front.result anchors c.args.roll base c.in-Ok.spelled.bytes.items front_is c.requires.roll base_is
    c.in-Ok.ensures.bytes in
    let made_len : vec_len c.args.made.bytes ≡ length c.args.made.bytes.items = let same = c.args.made.bytes.ok.0 in omega (arith, same) in
    let standing_is : c.if-makes.standing ≡ plans.standing v = elim c.if-makes.branch [
      | then-makes w ↦
          w.standing-is ∙ w.count_extents-standing.ensures ∙ ap count_of (w.len.ensures ∙ made_len)
          ∙ ap (λ (bs : List ℕ). count_of (length bs)) c.requires.bytes
          ∙ sym (standing-anew v c.mark_of.result c.upto-mark.result mark_is upto_is w.if-makes.true)
      | else-makes w ↦
          w.standing-is ∙ ap (λ (ns : List ℕ). length ns) (w.anchors.ensures ∙ ap (λ (x : LogStoreValue). x.live.anchors) c.self.view_is)
          ∙ sym (standing-stays v c.mark_of.result c.upto-mark.result mark_is upto_is w.if-makes.false)
    ] in
    let len : c.len-2.result ≡ length c.in-Ok.spelled.bytes.items = let same = c.in-Ok.spelled.bytes.ok.0 in omega (arith, same, c.len-2.ensures) in
    let over = subst (λ (n : ℕ). (count_of (n + 17) ≤ length v.room.used / 16) × (c.if-makes.standing + count_of n ≤ length v.room.used / 4) → ⊥) len
    (λ both. false≢true (c.if-not-base_fits.ensures.1 both)) in (
      c.args.names.items,
      c.requires.names,
      shares-lost v c.args.names.items c.in-Ok.spelled.bytes.items c.args.made.bytes.items c.if-makes.standing many
          c.requires.bytes standing_is over,
    )

pub returns : goal.returns
returns g c =
    let v = c.args.self.now in
    let chains_are : c.chains-chains.result.now ≡ v.live.chains = c.chains-chains.ensures ∙ ap (λ (x : LogStoreValue). x.live.chains) c.self.view_is in
    let upto_is : c.upto-mark.result ≡ v.named.upto = c.upto-mark.ensures ∙ ap (λ (x : LogStoreValue). x.named.upto) c.self.view_is in
    let mark_is : c.mark_of.result ≡ plans.reclaimed v = c.mark_of.ensures ∙ ap mark_of chains_are in
    let front_is : c.front_len-front.result ≡ plans.front_count v = c.front_len-front.ensures.is ∙ (λ i. front_len (upto_is i) (chains_are i)) in
    let makes_is : nat_lt c.mark_of.result c.upto-mark.result ≡ plans.makes v = λ i. nat_lt (mark_is i) (upto_is i) in
    let anchors = c.name_anchors-anchors.result in
    let base = c.in-Ok.spelled.base in
    let base_is : base ≡ base_on (take c.front_len-front.result v.live.chains) v.named.upto anchors c.args.roll =
    c.in-Ok.ensures.base ∙ (λ i. base_on (take c.front_len-front.result (chains_are i)) (upto_is i) anchors c.args.roll) in
    let many = many-bytes v c.args.names.items c.front_len-front.result anchors c.args.roll base c.in-Ok.spelled.bytes.items front_is c.requires.roll base_is
    c.in-Ok.ensures.bytes in
    let made_len : vec_len c.args.made.bytes ≡ length c.args.made.bytes.items = let same = c.args.made.bytes.ok.0 in omega (arith, same) in
    let standing_is : c.if-makes.standing ≡ plans.standing v = elim c.if-makes.branch [
      | then-makes w ↦
          w.standing-is ∙ w.count_extents-standing.ensures ∙ ap count_of (w.len.ensures ∙ made_len)
          ∙ ap (λ (bs : List ℕ). count_of (length bs)) c.requires.bytes
          ∙ sym (standing-anew v c.mark_of.result c.upto-mark.result mark_is upto_is w.if-makes.true)
      | else-makes w ↦
          w.standing-is ∙ ap (λ (ns : List ℕ). length ns) (w.anchors.ensures ∙ ap (λ (x : LogStoreValue). x.live.anchors) c.self.view_is)
          ∙ sym (standing-stays v c.mark_of.result c.upto-mark.result mark_is upto_is w.if-makes.false)
    ] in
    let len : c.len-2.result ≡ length c.in-Ok.spelled.bytes.items = let same = c.in-Ok.spelled.bytes.ok.0 in omega (arith, same, c.len-2.ensures) in
    let fits = subst (λ (n : ℕ). (count_of (n + 17) ≤ length v.room.used / 16) × (c.if-makes.standing + count_of n ≤ length v.room.used / 4)) len
    (c.if-not-base_fits.ensures.0 refl) in
    let shares = shares-kept v c.args.names.items c.in-Ok.spelled.bytes.items c.args.made.bytes.items c.if-makes.standing many c.requires.bytes standing_is
    c.requires.share fits.0 fits.1 in
    let names_len : c.len-3.result ≡ length c.args.names.items = let same = c.args.names.ok.0 in omega (arith, same, c.len-3.ensures) in
    let named_is : c.in-Ok-behind.named ≡ named_behind v.named base (drop c.front_len-front.result v.live.chains) (length c.args.names.items) =
    c.in-Ok-behind.ensures
    ∙ ap (λ (back : List LiveChainValue). named_behind c.self.inside.named base back c.len-3.result)
    (take_rest c.chains-chains.result.now c.front_len-front.result)
    ∙ (λ i. named_behind (c.self.view_is i).named base (drop c.front_len-front.result (chains_are i)) (names_len i)) in
    plan-made v _ c.args.roll anchors c.requires.names c.requires.roll c.requires.bytes c.name_anchors-anchors.ensures front_is makes_is base_is
    c.in-Ok.ensures.bytes named_is shares
