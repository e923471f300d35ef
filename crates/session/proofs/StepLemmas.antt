-- Steps of either work, one by one until the last.
use Rattle.std.proofs.Common.{◌≢◌, Bool, IsTrue, [], ◌∷◌, Result, Ok, Err, refl}
use Rattle.group.specs.declared.answers.PumpFault.{PumpFault}
use Rattle.any_store.specs.declared.steps.Did.TheVariants as did
use Rattle.any_store.specs.declared.steps.JobDid.TheVariants as job_did
use Rattle.any_store.specs.Values.{StoreValue, disk_of}
use Rattle.session.specs.Session.{IsLast, StepsGroup, StepsJob, TakesOne, TakesAll, StepsWork, EndsWork, pumped, worked}
use Rattle.session.specs.declared.reply.Reply.{Reply}
use Rattle.session.specs.declared.stepping.Work.{Work}
use Rattle.session.specs.declared.stepping.Work.TheVariants as work
use Rattle.session.proofs.JobLemmas.{IsFewer}
use Rattle.session.proofs.FewerLemmas.{group-fewer, pump-fewer}

-- what a step did that was not the last
step-of : {S : Type 0} (takes : StoreValue → Result S PumpFault → StoreValue → Type 0) (idle : S) (old mid : StoreValue) (answer : Result S PumpFault)
    → takes old answer mid → (IsLast idle answer → ⊥)
    → (step : S) × takes old (Ok step) mid × (step ≢ idle)
step-of takes idle old mid (Ok step) is other = (step, is, other)
step-of takes idle old mid (Err f) is other = absurd (other tt)

ends-by : {S : Type 0} (takes : StoreValue → Result S PumpFault → StoreValue → Type 0) (idle : S) (reply_of : Result S PumpFault
    → Reply) (old new : StoreValue) (r : Reply) (last : Bool) → IsTrue last
    → TakesOne takes idle reply_of old r last new → TakesAll takes idle reply_of old r new
ends-by takes idle reply_of old new r last is one =
    record { steps = []; mid = old; before = refl; answer = one.0; last = one.1; ends = one.3.0 is; reply = one.2 }

goes-on : {S : Type 0} (takes : StoreValue → Result S PumpFault → StoreValue → Type 0) (idle : S) (reply_of : Result S PumpFault
    → Reply) (old mid new : StoreValue) (s r : Reply) (last : Bool) → (IsTrue last → ⊥)
    → TakesOne takes idle reply_of old s last mid → TakesAll takes idle reply_of mid r new → TakesAll takes idle reply_of old r new
goes-on takes idle reply_of old mid new s r last not one rest =
    let step = step-of takes idle old mid one.0 one.1 (λ ends. not (one.3.1 ends)) in
    record {
      steps = step.0 ∷ rest.steps;
      mid = rest.mid;
      before = (mid, step.1, step.2, rest.before);
      answer = rest.answer;
      last = rest.last;
      ends = rest.ends;
      reply = rest.reply;
    }

pub work-ends : (tells : Bool) (w : Work) (old new : StoreValue) (r : Reply) (last : Bool) → IsTrue last → StepsWork tells w old r last new
    → EndsWork tells w old r new
work-ends tells work.Commits old new r last is one = ends-by (StepsGroup tells) did.Idle pumped old new r last is one
work-ends tells work.Job old new r last is one = ends-by (StepsJob tells) job_did.Idle worked old new r last is one

pub work-goes_on : (tells : Bool) (w : Work) (old mid new : StoreValue) (s r : Reply) (last : Bool) → (IsTrue last → ⊥) → StepsWork tells w old s last mid
    → EndsWork tells w mid r new → EndsWork tells w old r new
work-goes_on tells work.Commits old mid new s r last not one rest = goes-on (StepsGroup tells) did.Idle pumped old mid new s r last not one rest
work-goes_on tells work.Job old mid new s r last not one rest = goes-on (StepsJob tells) job_did.Idle worked old mid new s r last not one rest

-- it made a device call, and those that are left are fewer
pub work-fewer : (tells : Bool) (w : Work) (old mid : StoreValue) (s : Reply) (last : Bool) → (IsTrue last → ⊥) → StepsWork tells w old s last mid
    → IsFewer (disk_of old) (disk_of mid)
work-fewer tells work.Commits old mid s last not one = let step =
    step-of (StepsGroup tells) did.Idle old mid one.0 one.1 (λ ends. not (one.3.1 ends)) in group-fewer tells old mid step.0 step.1.is step.2
work-fewer tells work.Job old mid s last not one = let step =
    step-of (StepsJob tells) job_did.Idle old mid one.0 one.1 (λ ends. not (one.3.1 ends)) in pump-fewer tells old mid step.0 step.1.is step.2
