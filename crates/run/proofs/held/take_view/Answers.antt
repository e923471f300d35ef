use Rattle.std.proofs.Common.{◌≡◌, Some, refl, subst, sym, ap, ◌∙◌, arith}
use Rattle.std.specs.Prelude.{slice_get, slice_set}
use Rattle.std.proofs.lemmas.List.{set-get_or}
use Rattle.std.proofs.lemmas.Option.{slice_get-get_or}
use Rattle.run.specs.declared.held.Held.{Held}
use Rattle.run.specs.declared.held.Held.TheVariants as held
use Rattle.run.specs.Places.{HasNoView}
use Rattle.run.proofs.Lists.{set-set}
use Rattle.run.proofs.held.take_view.Goals as goal

lacks : (x : Held) → ((v : _) → x ≡ held.View v → ⊥) → HasNoView (Some x)
lacks held.Nothing never = tt
lacks (held.Transaction x) never = tt
lacks (held.Ticket x) never = tt
lacks (held.View x) never = never x refl

pub returns-in_default : goal.returns-in_default
returns-in_default c =
    let here : slice_get c.args.places.now c.args.at ≡ Some c.replace.result =
    slice_get-get_or c.args.places.now c.args.at c.index-places-at.result (omega arith) ∙ ap (λ (h : Held). Some h) (sym c.replace.ensures.value) in
    record {
      some = tt;
      none = (
        subst HasNoView (sym here) (lacks c.replace.result c.in_default.not-View),
        c.put_back.ensures ∙ set-set c.args.places.now c.args.at c.replace.new.dest c.replace.result
            ∙ ap (λ (h : Held). slice_set c.args.places.now c.args.at h) c.replace.ensures.value
            ∙ set-get_or c.args.places.now c.args.at c.index-places-at.result,
      );
    }
