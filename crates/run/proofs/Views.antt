-- The calls of views, and those that ask of what is published.
use Rattle.std.proofs.Common.{◌≡◌, inl, inr, ℕ, ◌+◌, ◌≤◌, Bool, List, [], ◌∷◌, ◌++◌, Some, None, Option, Result, Ok, Err, Vec, refl}
use Rattle.std.proofs.Common.{sym, ap, subst}
use Rattle.std.specs.Prelude.{slice_get, slice_set, IfOk, MatchResult}
use Rattle.std.specs.Borrow.{Bor}
use Rattle.std.specs.Option.{option_copied}
use Rattle.std.specs.declared.alloc.Global.{Global}
use Rattle.std.specs.declared.alloc.AllocError.{AllocError}
use Rattle.history.specs.Answers as answers
use Rattle.history.specs.declared.key.Key.{Key}
use Rattle.history.specs.declared.time.Version.{Version}
use Rattle.law_image.specs.Values.{Value}
use Rattle.chains.specs.KeyWrites.{writes_of}
use Rattle.history.specs.Time.{value_at}
use Rattle.timequery.specs.View.{ViewValue, AnswersAt, RefusesRecent}
use Rattle.timequery.specs.declared.fault.QueryFault.{QueryFault}
use Rattle.timequery.specs.declared.fault.QueryFault.TheVariants as query
use Rattle.any_store.specs.Values.{StoreValue, is_log, commits_of}
use Rattle.any_store.specs.Queries as queries
use Rattle.history.specs.Histories.{History}
use Rattle.law_refinement.specs.Homes.{ViewStands}
use Rattle.law_refinement.specs.Views as views
use Rattle.law_refinement.proofs.Queries.{recent-answered}
use Rattle.law_opening.specs.Laws.{AnswersRecent}
use Rattle.law_log_queries.specs.Names.{SaysTimes}
use Rattle.law_any_store.specs.Standing.{ViewReads}
use Rattle.law_any_store.specs.Views.{IsKept}
use Rattle.law_any_store.proofs.Marks.{view-mark}
use Rattle.law_any_store.proofs.Names.{kept-names, times-told, times-stand}
use Rattle.law_any_store.proofs.Views.{view-of-history, at-answered, scan_at-answered, between-answered, scan_between-answered}
use Rattle.law_any_store.proofs.Views.{at-stands, scan_at-stands, between-stands, scan_between-stands}
use Rattle.run.specs.declared.calls.Call.TheVariants as call
use Rattle.run.specs.declared.calls.Answer.TheVariants as answer
use Rattle.run.specs.declared.held.Held.{Held}
use Rattle.run.specs.declared.held.Held.TheVariants as held
use Rattle.run.specs.Places.{Place, Free, Running, Waits, Views, place_at, view_in, HasNoView, ShowsAs, IsRead, IsShared, copied, view_answer}
use Rattle.run.specs.Worlds.{World, IsWorld, leaves, same, spent}
use Rattle.run.specs.Runs.{Goes, Leads, Asks, AsksScan, AsksBetween, AsksScanBetween, AsksRecent, SaysRecent, Closes}
use Rattle.run.proofs.Runs.{no-step}
use Rattle.run.proofs.Places.{reads-push, reads-plain, reads-set, push, push_nothing, free, view-no_clash, at_view, goes_on-same}
use Rattle.run.proofs.Steps.{same-world, kept-world, keeps-same}

pub held-view : (o : Option Held) (view : ViewValue) → Path (Option ViewValue) (Some view) (view_in o) → o ≡ Some (held.View view)
held-view None view is = absurd cc
held-view (Some held.Nothing) view is = absurd cc
held-view (Some (held.Transaction u)) view is = absurd cc
held-view (Some (held.Ticket k)) view is = absurd cc
held-view (Some (held.View k)) view is = let same : k ≡ view = cc in ap (λ (x : ViewValue). Some (held.View x)) same

pub held-no_view : (o : Option Held) → Path (Option ViewValue) None (view_in o) → HasNoView o
held-no_view None is = tt
held-no_view (Some held.Nothing) is = tt
held-no_view (Some (held.Transaction u)) is = tt
held-no_view (Some (held.Ticket k)) is = tt
held-no_view (Some (held.View k)) is = absurd cc

view-leads : (tells : Bool) (v : StoreValue) (xs : List Held) (r : Result ViewValue AllocError) → IfOk r (queries.IsViewOf v)
    → Leads tells v xs call.View (view_answer r).0 v (xs ++ (view_answer r).1 ∷ [])
view-leads tells v xs (Ok view) of w is =
    let h = w.machine.published in
    let stands = view-of-history tells v view w.machine is.stands of in
    let marked = stands.0.memory.marked in
    let shows : ShowsAs (commits_of v) h (held.View view) (Views h w.machine.floors view.reclaimed) =
    (view-mark tells v view h w.machine.floors stands.1, refl, stands.0) in (
      leaves w (Views h w.machine.floors view.reclaimed),
      (view.reclaimed, marked, refl),
      no-step w.machine,
      record {
        stands = is.stands;
        layout = is.layout;
        names = is.names;
        places = push (commits_of v) h xs w.places (held.View view) (Views h w.machine.floors view.reclaimed) is.places shows
            (λ j b at clash. view-no_clash view b clash);
        views = reads-push tells v xs w.places (held.View view) (Views h w.machine.floors view.reclaimed) is.places.many is.views stands.1;
      },
    )
view-leads tells v xs (Err why) of w is = (same w, refl, no-step w.machine, same-world tells v xs w is)

-- the world of a store that was asked
asked-world : (tells : Bool) (v v' : StoreValue) (xs : List Held) (w : World) → IsWorld tells v xs w → IsKept tells v v' w.machine
    → IsWorld tells v' (xs ++ held.Nothing ∷ []) (same w)
asked-world tells v v' xs w is kept =
    kept-world tells v v' xs w w.machine is (record { goes = kept.goes; names = kept-names tells v v' kept.goes kept.commits }) kept.stands
    (goes_on-same w.machine.published) (keeps-same (commits_of v) (commits_of v') kept.commits)

-- what the view at a place reads is there
view-read : (tells : Bool) (v : StoreValue) (view : ViewValue) (P : Place → Type 0) (h : History Value) (p : Place)
    → ShowsAs (commits_of v) h (held.View view) p → IsRead tells v (held.View view) p
    → ((history : History Value) (floors : ℕ → ℕ) → ViewStands view history floors → ViewReads tells v view history floors
    → P (Views history floors view.reclaimed)) → P p
view-read tells v view P h Free shows read there = absurd shows
view-read tells v view P h (Running s ws) shows read there = absurd shows
view-read tells v view P h (Waits time) shows read there = absurd shows
view-read tells v view P h (Views history floors reclaimed) shows read there =
    subst (λ (r : ℕ). P (Views history floors r)) shows.1 (there history floors shows.2 read)

at-leads : (tells : Bool) (v v' : StoreValue) (xs : List Held) (i : ℕ) (key : Key) (time : ℕ) (view : ViewValue) (r : Result (Option Value) QueryFault)
    → slice_get xs i ≡ Some (held.View view) → queries.AnswersAtView tells v view key time r v'
    → Leads tells v xs (call.At i key time) (answer.At r) v' (xs ++ held.Nothing ∷ [])
at-leads tells v v' xs i key time view r here says w is = (
  same w,
  view-read tells v view (λ (p : Place). Asks tells w key time p r (same w)) w.machine.published (place_at w.places i) (is.places.each i (held.View view) here)
      (is.views.each i (held.View view) here) (λ history floors stands reads.
      (at-answered tells v v' w.machine view history floors key time r is.stands stands reads says, refl)),
  no-step w.machine,
  asked-world tells v v' xs w is (at-stands tells v v' w.machine view key time r is.stands says),
)

scan_at-leads : (tells : Bool) (v v' : StoreValue) (xs : List Held) (i : ℕ) (relation time : ℕ) (view : ViewValue)
    (r : Result (Vec (ℕ × Value) Global) QueryFault) → slice_get xs i ≡ Some (held.View view) → queries.AnswersScanAt tells v view relation time r v'
    → Leads tells v xs (call.ScanAt i relation time) (answer.ScanAt r) v' (xs ++ held.Nothing ∷ [])
scan_at-leads tells v v' xs i relation time view r here says w is = (
  same w,
  view-read tells v view (λ (p : Place). AsksScan tells w relation time p r (same w)) w.machine.published (place_at w.places i)
      (is.places.each i (held.View view) here) (is.views.each i (held.View view) here) (λ history floors stands reads.
      (scan_at-answered tells v v' w.machine view history floors relation time r is.stands stands reads says, refl)),
  no-step w.machine,
  asked-world tells v v' xs w is (scan_at-stands tells v v' w.machine view relation time r is.stands says),
)

between-leads : (tells : Bool) (v v' : StoreValue) (xs : List Held) (i : ℕ) (key : Key) (a b : ℕ) (view : ViewValue)
    (r : Result (Vec (Version Value) Global) QueryFault) → slice_get xs i ≡ Some (held.View view) → queries.AnswersRows tells v view key a b r v'
    → Leads tells v xs (call.Between i key a b) (answer.Between r) v' (xs ++ held.Nothing ∷ [])
between-leads tells v v' xs i key a b view r here says w is = (
  same w,
  view-read tells v view (λ (p : Place). AsksBetween tells w key a b p r (same w)) w.machine.published (place_at w.places i)
      (is.places.each i (held.View view) here) (is.views.each i (held.View view) here) (λ history floors stands reads.
      (between-answered tells v v' w.machine view history floors key a b r is.stands stands reads says, refl)),
  no-step w.machine,
  asked-world tells v v' xs w is (between-stands tells v v' w.machine view key a b r is.stands says),
)

scan_between-leads : (tells : Bool) (v v' : StoreValue) (xs : List Held) (i : ℕ) (relation a b : ℕ) (view : ViewValue)
    (r : Result (Vec (ℕ × Version Value) Global) QueryFault) → slice_get xs i ≡ Some (held.View view) → queries.AnswersScanRows tells v view relation a b r v'
    → Leads tells v xs (call.ScanBetween i relation a b) (answer.ScanBetween r) v' (xs ++ held.Nothing ∷ [])
scan_between-leads tells v v' xs i relation a b view r here says w is = (
  same w,
  view-read tells v view (λ (p : Place). AsksScanBetween tells w relation a b p r (same w)) w.machine.published (place_at w.places i)
      (is.places.each i (held.View view) here) (is.views.each i (held.View view) here) (λ history floors stands reads.
      (scan_between-answered tells v v' w.machine view history floors relation a b r is.stands stands reads says, refl)),
  no-step w.machine,
  asked-world tells v v' xs w is (scan_between-stands tells v v' w.machine view relation a b r is.stands says),
)

-- what a view lends is what it answers
pub recent-copied : (view : ViewValue) (key : Key) (time : ℕ) (r : Result (Option (Bor Value)) QueryFault)
    → MatchResult r (λ o. (view.reclaimed ≤ time)
    × AnswersAt view key.relation time (option_copied o) (value_at (writes_of view.state key) time)) (RefusesRecent view key.relation time)
    → AnswersRecent view key time (copied r)
recent-copied view key time (Ok o) says = says
recent-copied view key time (Err why) says = says

-- what a view answers from memory alone, with one more holder of what is found
recent-says : (view : ViewValue) (h : History Value) (floors : ℕ → ℕ) (key : Key) (time : ℕ) (found r : Result (Option Value) QueryFault)
    → ViewStands view h floors → AnswersRecent view key time found → IsShared found r
    → SaysRecent view.reclaimed time (answers.at_answer h floors key time) r
recent-says view h floors key time found r stands says shared = by-found found says shared (recent-answered view h floors key time found stands says)
  where
    Said : Result (Option Value) QueryFault → Type 0
    Said o = SaysRecent view.reclaimed time (answers.at_answer h floors key time) o

    by-found : (o : Result (Option Value) QueryFault) → AnswersRecent view key time o → IsShared o r
        → views.SaysRecent view time (answers.at_answer h floors key time) o → SaysRecent view.reclaimed time (answers.at_answer h floors key time) r
    by-found (Ok None) says shared told = subst Said (sym shared) (says.0, told)
    by-found (Ok (Some value)) says (inl one) told = subst Said (sym one) (says.0, told)
    by-found (Ok (Some value)) says (inr lacks) told = subst Said (sym lacks) (says.0, (value, told))
    by-found (Err (query.BeforeKept floor)) says shared told = subst Said (sym shared) told
    by-found (Err (query.NotYet late)) says shared told = subst Said (sym shared) told
    by-found (Err query.NeedsDisk) says shared told = subst Said (sym shared) told
    by-found (Err query.EmptyInterval) says shared told = absurd told
    by-found (Err query.Device) says shared told = absurd told
    by-found (Err query.NoMemory) says shared told = absurd told
    by-found (Err (query.Damaged start)) says shared told = absurd told
    by-found (Err query.Stranger) says shared told = absurd told

recent-leads : (tells : Bool) (v : StoreValue) (xs : List Held) (i : ℕ) (key : Key) (time : ℕ) (view : ViewValue) (found r : Result (Option Value) QueryFault)
    → slice_get xs i ≡ Some (held.View view) → AnswersRecent view key time found → IsShared found r
    → Leads tells v xs (call.Recent i key time) (answer.Recent r) v (xs ++ held.Nothing ∷ [])
recent-leads tells v xs i key time view found r here says shared w is = (
  same w,
  view-read tells v view (λ (p : Place). AsksRecent w key time p r (same w)) w.machine.published (place_at w.places i) (is.places.each i (held.View view) here)
      (is.views.each i (held.View view) here)
      (λ history floors stands reads. (recent-says view history floors key time found r stands says shared, refl)),
  no-step w.machine,
  same-world tells v xs w is,
)

end-leads : (tells : Bool) (v v' : StoreValue) (xs : List Held) (i : ℕ) (view : ViewValue) → slice_get xs i ≡ Some (held.View view) → v' ≡ v
    → Leads tells v xs (call.End i) answer.End v' (slice_set xs i held.Nothing ++ held.Nothing ∷ [])
end-leads tells v v' xs i view here unchanged w is =
    let freed = free (commits_of v) w.machine.published xs w.places i (held.View view) is.places here in (
      spent w i,
      at_view (λ (p : Place). Closes w i p (spent w i)) (commits_of v) w.machine.published view (place_at w.places i) (is.places.each i (held.View view) here)
          (λ history floors mark stands. refl),
      no-step w.machine,
      subst (λ (x : StoreValue). IsWorld tells x (slice_set xs i held.Nothing ++ held.Nothing ∷ []) (spent w i)) (sym unchanged) (record {
        stands = is.stands;
        layout = is.layout;
        names = is.names;
        places = push_nothing (commits_of v) w.machine.published (slice_set xs i held.Nothing) (slice_set w.places i Free) freed;
        views = reads-plain tells v (slice_set xs i held.Nothing) (slice_set w.places i Free) held.Nothing Free freed.many tt
            (reads-set tells v xs w.places i held.Nothing Free tt is.views);
      }),
    )

times-leads : (tells : Bool) (v v' : StoreValue) (xs : List Held) (label : ℕ) (r : Result (Vec ℕ Global) QueryFault)
    → queries.AnswersTimes tells v label r v' → Leads tells v xs (call.TimesOf label) (answer.TimesOf r) v' (xs ++ held.Nothing ∷ [])
times-leads tells v v' xs label r says w is = (
  same w,
  (
    subst (λ (b : Bool). SaysTimes tells b w.names_from (answers.times_of w.machine.published label) r) (sym is.layout)
        (subst (λ (from : ℕ). SaysTimes tells (is_log v) from (answers.times_of w.machine.published label) r) (sym is.names)
        (times-told tells v v' w.machine label r is.stands says)),
    refl,
  ),
  no-step w.machine,
  asked-world tells v v' xs w is (times-stand tells v v' w.machine label r is.stands says),
)

-- ---- as the store's own clauses say

pub view-goes : (tells : Bool) (v : StoreValue) (xs : List Held) (r : Result ViewValue AllocError) → IfOk r (queries.IsViewOf v)
    → Goes tells v xs call.View (view_answer r).0 v (xs ++ (view_answer r).1 ∷ [])
view-goes tells v xs r of = record { makes = inr (r, of, refl, (refl, refl)); leads = view-leads tells v xs r of }

pub at-goes : (tells : Bool) (v v' : StoreValue) (xs : List Held) (i : ℕ) (key : Key) (time : ℕ) (view : ViewValue) (r : Result (Option Value) QueryFault)
    → slice_get xs i ≡ Some (held.View view) → queries.AnswersAtView tells v view key time r v'
    → Goes tells v xs (call.At i key time) (answer.At r) v' (xs ++ held.Nothing ∷ [])
at-goes tells v v' xs i key time view r here says =
    record { makes = inr (r, (view, here, says, (refl, refl))); leads = at-leads tells v v' xs i key time view r here says }

pub scan_at-goes : (tells : Bool) (v v' : StoreValue) (xs : List Held) (i : ℕ) (relation time : ℕ) (view : ViewValue)
    (r : Result (Vec (ℕ × Value) Global) QueryFault) → slice_get xs i ≡ Some (held.View view) → queries.AnswersScanAt tells v view relation time r v'
    → Goes tells v xs (call.ScanAt i relation time) (answer.ScanAt r) v' (xs ++ held.Nothing ∷ [])
scan_at-goes tells v v' xs i relation time view r here says =
    record { makes = inr (r, (view, here, says, (refl, refl))); leads = scan_at-leads tells v v' xs i relation time view r here says }

pub between-goes : (tells : Bool) (v v' : StoreValue) (xs : List Held) (i : ℕ) (key : Key) (a b : ℕ) (view : ViewValue)
    (r : Result (Vec (Version Value) Global) QueryFault) → slice_get xs i ≡ Some (held.View view) → queries.AnswersRows tells v view key a b r v'
    → Goes tells v xs (call.Between i key a b) (answer.Between r) v' (xs ++ held.Nothing ∷ [])
between-goes tells v v' xs i key a b view r here says =
    record { makes = inr (r, (view, here, says, (refl, refl))); leads = between-leads tells v v' xs i key a b view r here says }

pub scan_between-goes : (tells : Bool) (v v' : StoreValue) (xs : List Held) (i : ℕ) (relation a b : ℕ) (view : ViewValue)
    (r : Result (Vec (ℕ × Version Value) Global) QueryFault) → slice_get xs i ≡ Some (held.View view) → queries.AnswersScanRows tells v view relation a b r v'
    → Goes tells v xs (call.ScanBetween i relation a b) (answer.ScanBetween r) v' (xs ++ held.Nothing ∷ [])
scan_between-goes tells v v' xs i relation a b view r here says =
    record { makes = inr (r, (view, here, says, (refl, refl))); leads = scan_between-leads tells v v' xs i relation a b view r here says }

pub recent-goes : (tells : Bool) (v : StoreValue) (xs : List Held) (i : ℕ) (key : Key) (time : ℕ) (view : ViewValue)
    (found r : Result (Option Value) QueryFault) → slice_get xs i ≡ Some (held.View view) → AnswersRecent view key time found → IsShared found r
    → Goes tells v xs (call.Recent i key time) (answer.Recent r) v (xs ++ held.Nothing ∷ [])
recent-goes tells v xs i key time view found r here says shared =
    record {
      makes = inr (r, (view, here, ((found, says, shared), refl), (refl, refl)));
      leads = recent-leads tells v xs i key time view found r here says shared;
    }

pub end-goes : (tells : Bool) (v v' : StoreValue) (xs : List Held) (i : ℕ) (view : ViewValue) → slice_get xs i ≡ Some (held.View view) → v' ≡ v
    → Goes tells v xs (call.End i) answer.End v' (slice_set xs i held.Nothing ++ held.Nothing ∷ [])
end-goes tells v v' xs i view here unchanged =
    record { makes = inr (view, here, unchanged, (refl, refl)); leads = end-leads tells v v' xs i view here unchanged }

pub times-goes : (tells : Bool) (v v' : StoreValue) (xs : List Held) (label : ℕ) (r : Result (Vec ℕ Global) QueryFault)
    → queries.AnswersTimes tells v label r v' → Goes tells v xs (call.TimesOf label) (answer.TimesOf r) v' (xs ++ held.Nothing ∷ [])
times-goes tells v v' xs label r says = record { makes = inr (r, says, (refl, refl)); leads = times-leads tells v v' xs label r says }
