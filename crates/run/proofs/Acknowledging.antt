-- What was acknowledged is published, and stays so.
use Rattle.std.proofs.Common.{◌≡◌, ℕ, Bool, true, false, cond, List, [], ◌∷◌, ◌++◌, sym, subst}
use Rattle.std.specs.List.{AllByRecursion}
use Rattle.std.proofs.lemmas.List.Elements.{Contains-append_left}
use Rattle.history.specs.Answers as answers
use Rattle.history.specs.Histories.{History}
use Rattle.history.proofs.Runs.{run-shows}
use Rattle.history.proofs.Tickets.{done-published}
use Rattle.law_image.specs.Values.{Value, IsValue}
use Rattle.run.specs.declared.calls.Call.{Call}
use Rattle.run.specs.declared.calls.Call.TheVariants as call
use Rattle.run.specs.declared.calls.Answer.{Answer}
use Rattle.run.specs.declared.calls.Answer.TheVariants as answer
use Rattle.run.specs.declared.calls.RedeemOutcome.{RedeemOutcome}
use Rattle.run.specs.declared.calls.RedeemOutcome.TheVariants as told
use Rattle.run.specs.Places.{Place, Free, Running, Waits, Views, place_at}
use Rattle.run.specs.Worlds.{World}
use Rattle.run.specs.Runs.{Does, Follows, Redeems}
use Rattle.run.specs.Moments.{with_done, with_answer, HasCommitAt}

abbrev AreIn : History Value → List ℕ → Type 0
AreIn h times = AllByRecursion (HasCommitAt h) times

-- what a history has, each that goes on from it has too
pub more-have : (h more : History Value) (times : List ℕ) → AreIn h times → AreIn (h ++ more) times
more-have h more [] all = tt
more-have h more (t ∷ ts) all = let first = all.0 in ((first.0, Contains-append_left h more first.0 first.1, first.2), more-have h more ts all.1)

-- Done names the ticket's own time
done-time : (t time : ℕ) (published failed : Bool)
    → Path answers.Redeemed (cond published (answers.Done t) (cond failed answers.InDoubt answers.Waiting)) (answers.Done time) → t ≡ time
done-time t time true failed is = cc
done-time t time false true is = absurd cc
done-time t time false false is = absurd cc

place-done : (w : World) (i time : ℕ) (p : Place) (next : World) → Redeems w i p (told.Done time) next → answers.redeemed_by w.machine time ≡ answers.Done time
place-done w i time Free next does = absurd does
place-done w i time (Running snapshot writes) next does = absurd does
place-done w i time (Views history floors reclaimed) next does = absurd does
place-done w i time (Waits t) next does =
    let same : t ≡ time = done-time t time (answers.is_published w.machine t) w.machine.failed does.0 in
    subst (λ (x : ℕ). answers.redeemed_by w.machine x ≡ answers.Done time) same does.0

-- Done is answered of what is published
call-done : (tells : Bool) (w : World) (c : Call) (time : ℕ) (next : World) → Does tells w c (answer.Redeem (told.Done time)) next
    → answers.redeemed_by w.machine time ≡ answers.Done time
call-done tells w (call.Redeem i) time next does = place-done w i time (place_at w.places i) next does
call-done tells w call.Begin time next does = absurd does
call-done tells w (call.Put i key fields) time next does = absurd does
call-done tells w (call.Delete i key) time next does = absurd does
call-done tells w (call.Get i key) time next does = absurd does
call-done tells w (call.Scan i relation) time next does = absurd does
call-done tells w (call.Submit i label now) time next does = absurd does
call-done tells w (call.Abort i) time next does = absurd does
call-done tells w call.Pump time next does = absurd does
call-done tells w (call.GiveUp i) time next does = absurd does
call-done tells w call.View time next does = absurd does
call-done tells w (call.At i key t) time next does = absurd does
call-done tells w (call.ScanAt i relation t) time next does = absurd does
call-done tells w (call.Between i key a b) time next does = absurd does
call-done tells w (call.ScanBetween i relation a b) time next does = absurd does
call-done tells w (call.Recent i key t) time next does = absurd does
call-done tells w (call.End i) time next does = absurd does
call-done tells w (call.TimesOf label) time next does = absurd does
call-done tells w (call.Archive upto) time next does = absurd does
call-done tells w call.Reclaim time next does = absurd does
call-done tells w (call.Floor scope floor) time next does = absurd does
call-done tells w call.Grow time next does = absurd does
call-done tells w call.JobPump time next does = absurd does

-- what is published stays so
pub follows-have : (w next : World) (times : List ℕ) → Follows w.machine next.machine → AreIn w.machine.published times → AreIn next.machine.published times
follows-have w next times follows all =
    let more = run-shows IsValue w.machine next.machine follows.0 follows.1 in
    subst (λ (h : History Value). AreIn h times) (sym more.1) (more-have w.machine.published more.0 times all)

with-redeemed : (tells : Bool) (w : World) (c : Call) (o : RedeemOutcome) (next : World) (times : List ℕ) → Does tells w c (answer.Redeem o) next
    → Follows w.machine next.machine → AreIn w.machine.published times → AreIn next.machine.published (with_done o times)
with-redeemed tells w c (told.Done time) next times does follows all =
    let found = (done-published w.machine time).0 (call-done tells w c time next does) in
    follows-have w next (time ∷ times) follows (found, all)
with-redeemed tells w c told.Waiting next times does follows all = follows-have w next times follows all
with-redeemed tells w c told.InDoubt next times does follows all = follows-have w next times follows all
with-redeemed tells w c told.Stranger next times does follows all = follows-have w next times follows all

-- so is what a call acknowledges
pub call-acknowledges : (tells : Bool) (w : World) (c : Call) (a : Answer) (next : World) (times : List ℕ) → Does tells w c a next
    → Follows w.machine next.machine → AreIn w.machine.published times → AreIn next.machine.published (with_answer a times)
call-acknowledges tells w c (answer.Redeem o) next times does follows all = with-redeemed tells w c o next times does follows all
call-acknowledges tells w c answer.Unknown next times does follows all = follows-have w next times follows all
call-acknowledges tells w c (answer.Begin x) next times does follows all = follows-have w next times follows all
call-acknowledges tells w c (answer.Put x) next times does follows all = follows-have w next times follows all
call-acknowledges tells w c (answer.Delete x) next times does follows all = follows-have w next times follows all
call-acknowledges tells w c (answer.Get x) next times does follows all = follows-have w next times follows all
call-acknowledges tells w c (answer.Scan x) next times does follows all = follows-have w next times follows all
call-acknowledges tells w c (answer.Submit x) next times does follows all = follows-have w next times follows all
call-acknowledges tells w c answer.Abort next times does follows all = follows-have w next times follows all
call-acknowledges tells w c (answer.Pump x) next times does follows all = follows-have w next times follows all
call-acknowledges tells w c answer.GiveUp next times does follows all = follows-have w next times follows all
call-acknowledges tells w c (answer.View x) next times does follows all = follows-have w next times follows all
call-acknowledges tells w c (answer.At x) next times does follows all = follows-have w next times follows all
call-acknowledges tells w c (answer.ScanAt x) next times does follows all = follows-have w next times follows all
call-acknowledges tells w c (answer.Between x) next times does follows all = follows-have w next times follows all
call-acknowledges tells w c (answer.ScanBetween x) next times does follows all = follows-have w next times follows all
call-acknowledges tells w c (answer.Recent x) next times does follows all = follows-have w next times follows all
call-acknowledges tells w c answer.End next times does follows all = follows-have w next times follows all
call-acknowledges tells w c (answer.TimesOf x) next times does follows all = follows-have w next times follows all
call-acknowledges tells w c (answer.Archive x) next times does follows all = follows-have w next times follows all
call-acknowledges tells w c (answer.Reclaim x) next times does follows all = follows-have w next times follows all
call-acknowledges tells w c (answer.Floor x) next times does follows all = follows-have w next times follows all
call-acknowledges tells w c (answer.Grow x) next times does follows all = follows-have w next times follows all
call-acknowledges tells w c (answer.JobPump x) next times does follows all = follows-have w next times follows all
