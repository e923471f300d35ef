use Rattle.std.proofs.Common.{◌≡◌, ◌∙◌, List, [], ◌∷◌, ◌++◌, length, slice_get, Some, sym, ap, subst, refl, arith}
use Rattle.c_engine.specs.FreePlaces.{AreChained}
use Rattle.c_engine.specs.Held.{named_in, stamp_of}
use Rattle.c_engine.specs.declared.places.Held.TheVariants.{Nothing}
use Rattle.c_engine.specs.declared.places.Place.{Place}
use Rattle.c_engine.proofs.Named.{added, added_stamp, free_here, push_here}
use Rattle.c_engine.proofs.Chaining.{becomes_more}
use Rattle.c_engine.proofs.places.Places.add_free.Goals as goal

pub invariant_of-self-2-clause-chained : goal.invariant_of-self-2-clause-chained
invariant_of-self-2-clause-chained c =
    let q : Place = record { stamp = 0; held = Nothing; next = 65536 } in
    let places : List Place = c.args.self.now.places.items in
    let items : c.push_reserved.new.self.items ≡ places ++ q ∷ [] =
    c.push_reserved.ensures.items ∙ ap (λ (l : List Place). l ++ q ∷ []) c.reserve.ensures.items in
    let at : c.len-at.result ≡ length places = omega (arith, c.args.self.now.places.ok.0) in
    let more : ∥ AreChained (places ++ q ∷ []) (length places) ∥₁ =
    becomes_more places c.args.self.now.free q (omega arith) refl refl c.requires c.args.self.now.chained in
    let placed : ∥ AreChained c.push_reserved.new.self.items (length places) ∥₁ =
    subst (λ (l : List Place). ∥ AreChained l (length places) ∥₁) (sym items) more in
    subst (λ n. ∥ AreChained c.push_reserved.new.self.items n ∥₁) (sym at) placed

pub returns-clause-free : goal.returns-clause-free
returns-clause-free c =
    let q : Place = record { stamp = 0; held = Nothing; next = 65536 } in
    let places : List Place = c.args.self.now.places.items in
    let items : c.push_reserved.new.self.items ≡ places ++ q ∷ [] =
    c.push_reserved.ensures.items ∙ ap (λ (l : List Place). l ++ q ∷ []) c.reserve.ensures.items in
    let at : c.len-at.result ≡ length places = omega (arith, c.args.self.now.places.ok.0) in
    let here : slice_get c.push_reserved.new.self.items c.len-at.result ≡ Some q =
    ap (λ (l : List Place). slice_get l c.len-at.result) items ∙ ap (λ i. slice_get (places ++ q ∷ []) i) at ∙ push_here places q in
    sym (free_here c.push_reserved.new.self.items c.len-at.result q here (omega arith) refl)

pub returns-clause-same : goal.returns-clause-same
returns-clause-same c =
    let q : Place = record { stamp = 0; held = Nothing; next = 65536 } in
    let places : List Place = c.args.self.now.places.items in
    let items : c.push_reserved.new.self.items ≡ places ++ q ∷ [] =
    c.push_reserved.ensures.items ∙ ap (λ (l : List Place). l ++ q ∷ []) c.reserve.ensures.items in
    record {
      names = λ n. ap (λ (l : List Place). named_in c.args.self.now.tag l n) items ∙ added c.args.self.now.tag places q refl n;
      stamps = record { stamps = λ j. ap (λ (l : List Place). stamp_of (slice_get l j)) items ∙ added_stamp places q refl j; tag = refl };
    }
