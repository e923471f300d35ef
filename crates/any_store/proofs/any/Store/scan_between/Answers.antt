use Rattle.std.proofs.Common.{◌≡◌, ◌∙◌, sym, subst, ap, ℕ, Result}
use Rattle.std.specs.declared.alloc.Global.{Global}
use Rattle.std.specs.declared.vec.Vec.{Vec}
use Rattle.history.specs.declared.time.Version.{Version}
use Rattle.law_image.specs.Values.{Value}
use Rattle.timequery.specs.declared.fault.QueryFault.{QueryFault}
use Rattle.any_store.specs.declared.engine.Engine.TheVariants.{Slots, Log}
use Rattle.any_store.specs.Values.{StoreValue}
use Rattle.any_store.specs.Queries.{AnswersScanRows}
use Rattle.any_store.proofs.any.Store.scan_between.Goals as goal
use Rattle.any_store.proofs.any.Store.scan_between.Goals.{in-Slots, in-Log}

pub returns : goal.returns
returns g c =
    let tells = g.D.Disk.tells in
    let ask : StoreValue → Result (Vec (ℕ × Version Value) Global) QueryFault → StoreValue → Type 0 =
    λ old answer new. AnswersScanRows tells old c.args.view.now c.args.relation c.args.a c.args.b answer new in
    subst (λ (v : StoreValue). ask v c.match-self.result c.match-self.self-inside.engine) c.self.view_is (elim c.match-self.branch [
      | in-Slots w ↦
          subst (λ (v : StoreValue). ask v c.match-self.result c.match-self.self-inside.engine) (sym w.in-Slots.is)
          (subst (λ (r : Result (Vec (ℕ × Version Value) Global) QueryFault). ask (Slots w.in-Slots.store) r c.match-self.self-inside.engine) (sym w.result-is)
          (subst (λ (v : StoreValue). ask (Slots w.in-Slots.store) w.scan_between.result v)
          (sym (ap (λ (i : _). i.engine) w.self-inside-is)) w.scan_between.ensures))
      | in-Log w ↦
          subst (λ (v : StoreValue). ask v c.match-self.result c.match-self.self-inside.engine) (sym w.in-Log.is)
          (subst (λ (r : Result (Vec (ℕ × Version Value) Global) QueryFault). ask (Log w.in-Log.store) r c.match-self.self-inside.engine) (sym w.result-is)
          (subst (λ (v : StoreValue). ask (Log w.in-Log.store) w.scan_between-in-Log.result v)
          (sym (ap (λ (i : _). i.engine) w.self-inside-is)) w.scan_between-in-Log.ensures))
    ])
