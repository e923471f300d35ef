use Rattle.std.proofs.Common.{ℕ, List, sym, ◌∙◌, ap, subst}
use Rattle.log_extents.specs.Extents.{extent_of}
use Rattle.log_extents.specs.Chains.{greatest_after}
use Rattle.log_extents.specs.Taking.{ChainState, Fits, link_after, state_of}
use Rattle.log_extents.proofs.Following.{taking_made}
use Rattle.log_extents.proofs.Numbers.{others_made}
use Rattle.log_extents.proofs.chain_reader.ChainReader.push.Goals as goal

pub invariant_of-self-2 : goal.invariant_of-self-2
invariant_of-self-2 c =
    let before = c.self.inside in (
      taking_made (state_of before.kind before.most before.numbers.items before.next before.link before.content.items) c.self.invariant.0
          (extent_of c.args.extent)
          (subst (λ (s : ChainState). Fits s (extent_of c.args.extent)) (sym c.self.view_is) c.requires) _ _ _ c.in_ok-append.ensures.numbers
          (c.link_after-link.ensures
          ∙ ap (λ (l : List ℕ). link_after l before.link c.args.extent.link) c.as_slice.ensures.value) c.in_ok-append.ensures.content,
      others_made before.numbers.items _ before.greatest c.args.extent.number _ c.self.invariant.1 c.in_ok-append.ensures.numbers
          (c.greatest_after-greatest.ensures ∙ ap (λ (l : List ℕ). greatest_after l before.greatest c.args.extent.number) c.as_slice-2.ensures.value),
    )
