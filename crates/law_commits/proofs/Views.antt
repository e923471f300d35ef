-- A view stands for the published history.
use Rattle.std.proofs.Common.{ℕ, List, [], ap, sym, subst, ◌∙◌}
use Rattle.history.specs.Machine.{Machine, IsMachine}
use Rattle.history.proofs.Histories.{may_follow-front}
use Rattle.law_image.specs.Values.{Value, IsValue}
use Rattle.floors.specs.Floors.{FloorsValue, floor_at}
use Rattle.chains.specs.KeyWrites.{KeyWrites}
use Rattle.timequery.specs.View.{ViewValue}
use Rattle.commits.specs.Values.{CommitsValue}
use Rattle.law_refinement.specs.Standing.{HasWrites}
use Rattle.law_refinement.specs.Homes.{ViewStands}
use Rattle.law_commits.specs.Standing.{StandsInMemory}
use Rattle.law_commits.specs.Views.{IsViewOf}
use Rattle.law_commits.proofs.Names.{last-is}

pub view-stands : (v : CommitsValue) (m : Machine Value) (view : ViewValue) → StandsInMemory v m → IsMachine IsValue m → IsViewOf v view
    → ViewStands view m.published m.floors
view-stands v m view stands machine is = record {
  last_is = is.last ∙ last-is v m stands;
  floor_is = λ relation. ap (λ (f : FloorsValue). floor_at f relation) is.floors ∙ stands.floors relation;
  history = may_follow-front IsValue [] m.published m.queue machine.history;
  memory = subst (λ (mark : ℕ). HasWrites m.floors mark view.state m.published) (sym is.reclaimed)
      (subst (λ (state : List KeyWrites). HasWrites m.floors v.reclaimed state m.published) (sym is.state) stands.versions);
}
