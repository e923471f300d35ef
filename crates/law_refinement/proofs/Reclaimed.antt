-- What the steps of a reclaim leave of what a store holds in memory.
use Rattle.std.proofs.Common.{◌≡◌, ℕ, ◌≤◌, true, false, List, Option, Some, ap, sym, subst, ◌∙◌}
use Rattle.std.specs.Prelude.{Contains}
use Rattle.history.specs.Histories.{HasRisingTimes, last}
use Rattle.history.specs.Machine.{Machine, commit_order}
use Rattle.history.proofs.Histories.{times-earlier}
use Rattle.law_image.specs.Values.{Value}
use Rattle.chains.specs.KeyWrites.{KeyWrites, forgotten}
use Rattle.group.specs.Values.{TransactionsValue, is_turning}
use Rattle.group.specs.Reclaims.{prepared, versions_once, reclaimed_to}
use Rattle.law_refinement.specs.Standing.{HasWrites, HasForgotten, AllWait, StandsInMemory, snapshots_of}
use Rattle.law_refinement.proofs.Held.{rising-held}
use Rattle.law_refinement.proofs.Waiting.{AreRising, forgotten-forgets, raised-waits}
use Rattle.law_refinement.proofs.Forgetting.{forgets}
use Rattle.law_refinement.proofs.Names.{rising-named}
use Rattle.law_refinement.proofs.Conflicts.{rising-behind}
use Rattle.law_refinement.proofs.Orders.{memory-beside}
use Rattle.law_refinement.proofs.Memory.{published-rises}

-- the versions without what ended by a mark are made beside them
pub prepares : (v : TransactionsValue) (m : Machine Value) (mark : ℕ) → StandsInMemory v m → StandsInMemory (prepared v mark) m
prepares v m mark stands = memory-beside v (Some (forgotten mark v.versions)) v.usages v.reserved v.slots v.used m m.raising m.gate stands

-- the reclaim is done: what ended by the mark is forgotten
pub reclaims : (v : TransactionsValue) (m : Machine Value) (mark : ℕ) → StandsInMemory v m → v.pending ≡ Some (forgotten mark v.versions) → v.reclaimed ≤ mark
    → mark ≤ last m.published
    → ((snapshot : ℕ) → Contains (snapshots_of v.opened) snapshot → mark ≤ snapshot) → is_turning v.stage ≡ false → StandsInMemory (reclaimed_to v mark) m
reclaims v m mark stands made low reached recent still =
    let up = published-rises v m stands in
    let ordered = stands.versions.ordered in
    let rising : AreRising v.versions = rising-held stands.versions up in
    let behind : HasRisingTimes (last m.published) m.queue =
    rising-behind 0 m.published m.queue (rising-named 0 v.heads (commit_order m) stands.names stands.rising) in
    let later : HasRisingTimes mark m.queue = times-earlier mark (last m.published) m.queue reached behind in
    let same : versions_once v.pending v.versions ≡ forgotten mark v.versions = ap (λ (o : Option (List KeyWrites)). versions_once o v.versions) made in
    record {
      names = stands.names;
      rising = stands.rising;
      published = stands.published;
      versions =
          subst (λ (ks : List KeyWrites). HasWrites m.floors mark ks m.published) (sym same)
          (forgets m.floors v.reclaimed mark v.versions m.published stands.versions up low reached);
      forgot = subst (λ (ks : List KeyWrites). HasForgotten mark ks) (sym same) (forgotten-forgets mark v.versions ordered rising);
      recent = recent;
      queue = subst (λ (ks : List KeyWrites). AllWait mark ks v.queue m.queue) (sym same)
          (raised-waits v.reclaimed mark v.versions v.queue m.queue low later ordered rising stands.queue);
      fresh = λ turning. absurd (let no : true ≡ false = sym turning ∙ still in cc);
      group = stands.group;
      most = stands.most;
      staged = stands.staged;
      snapshots = stands.snapshots;
      floors = stands.floors;
      failed = stands.failed;
    }
