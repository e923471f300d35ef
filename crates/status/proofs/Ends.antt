-- Where a log with one slot more ends.
use Rattle.std.proofs.Common.{◌≡◌, ℕ, ◌+◌, List, [], ◌∷◌, ◌++◌, Option, refl, sym, ap, ◌∙◌}
use Rattle.std.specs.Prelude.{map}
use Rattle.std.proofs.lemmas.List.{map-append, append-nil}
use Rattle.std.proofs.lemmas.Grind.{flat_map-append}
use Rattle.wire.specs.declared.slot.Member.{Member}
use Rattle.wire.specs.declared.slot.Run.{Run}
use Rattle.wire.specs.declared.slot.Anchors.{Anchors}
use Rattle.wire.specs.declared.slot.Body.{Body}
use Rattle.wire.specs.declared.slot.Body.TheVariants.{Commit, Archived, Reclaimed, Floor}
use Rattle.wire.specs.declared.slot.Slot.{Slot}
use Rattle.floors.specs.Floors.{FloorsValue, no_floors}
use Rattle.law_image.specs.Log.{heads_of, last_time, last_time_after, archive_mark, archive_mark_after, reclaim_mark, reclaim_mark_after}
use Rattle.law_image.specs.Reading as readings
use Rattle.law_image.proofs.Logs.{heads_of-append, last_time_after-append, archive_mark-append, reclaim_mark-append}
use Rattle.status.specs.Rules.{head_of, log_of, slot_of, runs_in, runs_of, row_end}
use Rattle.status.specs.Kept.{kept_after, kept_of}
use Rattle.status.proofs.Kept.{kept-append}
use Rattle.status.specs.declared.log_end.LogEnd.{LogEnd}
use Rattle.status.specs.Walking.{EndsAt}

row_end-append : (place : ℕ) (xs ys : List Run) → row_end place (xs ++ ys) ≡ row_end (row_end place xs) ys
row_end-append place [] ys = refl
row_end-append place (x ∷ xs) ys = row_end-append (x.start + x.len) xs ys

pub log-push : (before : List Slot) (s : Slot) → log_of (before ++ s ∷ []) ≡ log_of before ++ slot_of s.body ∷ []
log-push before s = map-append (λ (s : Slot). slot_of s.body) before (s ∷ [])

runs-push : (before : List Slot) (s : Slot) → runs_of (before ++ s ∷ []) ≡ runs_of before ++ runs_in s.body
runs-push before s = flat_map-append (λ (s : Slot). runs_in s.body) before (s ∷ []) ∙ ap (λ l. runs_of before ++ l) (append-nil (runs_in s.body))

-- what may follow the slots before, told with one slot more of them
pub end-push : (before : List Slot) (s : Slot) → row_end 0 (runs_of (before ++ s ∷ [])) ≡ row_end (row_end 0 (runs_of before)) (runs_in s.body)
end-push before s = ap (row_end 0) (runs-push before s) ∙ row_end-append 0 (runs_of before) (runs_in s.body)

last_more : (log : List readings.Slot) (slot : readings.Slot) → last_time (log ++ slot ∷ []) ≡ last_time_after (last_time log) (heads_of (slot ∷ []))
last_more log slot = ap (last_time_after 0) (heads_of-append log (slot ∷ [])) ∙ last_time_after-append 0 (heads_of log) (heads_of (slot ∷ []))

-- what each body makes of the three times
last_in : ℕ → Body → ℕ
last_in last body = last_time_after last (heads_of (slot_of body ∷ []))

archived_in : ℕ → Body → ℕ
archived_in archived body = archive_mark_after archived (slot_of body ∷ [])

reclaimed_in : ℕ → Body → ℕ
reclaimed_in reclaimed body = reclaim_mark_after reclaimed (slot_of body ∷ [])

ends_more : (before : List Slot) (s : Slot) (end now : LogEnd) → EndsAt before end
    → now.last ≡ last_in end.last s.body → now.archived ≡ archived_in end.archived s.body → now.reclaimed ≡ reclaimed_in end.reclaimed s.body
    → now.floors ≡ kept_after end.floors (slot_of s.body ∷ []) → now.runs_end ≡ row_end end.runs_end (runs_in s.body) → EndsAt (before ++ s ∷ []) now
unfolding last_in archived_in reclaimed_in
ends_more before s end now ends last archived reclaimed floors runs_end = record {
  last_is = last ∙ ap (λ (t : ℕ). last_time_after t (heads_of (slot_of s.body ∷ []))) ends.last_is
      ∙ sym (ap last_time (log-push before s) ∙ last_more (log_of before) (slot_of s.body));
  archived_is = archived ∙ ap (λ (t : ℕ). archive_mark_after t (slot_of s.body ∷ [])) ends.archived_is
      ∙ sym (ap archive_mark (log-push before s) ∙ archive_mark-append 0 (log_of before) (slot_of s.body ∷ []));
  reclaimed_is = reclaimed ∙ ap (λ (t : ℕ). reclaim_mark_after t (slot_of s.body ∷ [])) ends.reclaimed_is
      ∙ sym (ap reclaim_mark (log-push before s) ∙ reclaim_mark-append 0 (log_of before) (slot_of s.body ∷ []));
  floors_are = floors ∙ ap (λ (f : FloorsValue). kept_after f (slot_of s.body ∷ [])) ends.floors_are
      ∙ sym (ap kept_of (log-push before s) ∙ kept-append no_floors (log_of before) (slot_of s.body ∷ []));
  runs_end_is = runs_end ∙ ap (λ (t : ℕ). row_end t (runs_in s.body)) ends.runs_end_is ∙ sym (end-push before s);
}

pub commits_end : (before : List Slot) (s : Slot) (end now : LogEnd) (members : List Member) → s.body ≡ Commit (record { items = members }) → EndsAt before end
    → now.last ≡ last_time_after end.last (map head_of members) → now.archived ≡ end.archived → now.reclaimed ≡ end.reclaimed
    → now.floors ≡ kept_after end.floors (slot_of s.body ∷ []) → now.runs_end ≡ end.runs_end → EndsAt (before ++ s ∷ []) now
unfolding last_in archived_in reclaimed_in
commits_end before s end now members is ends last archived reclaimed floors runs_end =
    ends_more before s end now ends
    (last ∙ sym (ap (last_in end.last) is ∙ ap (λ (heads : List readings.Head). last_time_after end.last heads) (append-nil (map head_of members))))
    (archived ∙ sym (ap (archived_in end.archived) is))
    (reclaimed ∙ sym (ap (reclaimed_in end.reclaimed) is))
    floors
    (runs_end ∙ sym (ap (λ (body : Body). row_end end.runs_end (runs_in body)) is))

pub run_ends : (before : List Slot) (s : Slot) (end now : LogEnd) (run : Run) → s.body ≡ Archived run → EndsAt before end
    → now.last ≡ end.last → now.archived ≡ run.upto → now.reclaimed ≡ end.reclaimed → now.floors ≡ kept_after end.floors (slot_of s.body ∷ [])
    → now.runs_end ≡ run.start + run.len → EndsAt (before ++ s ∷ []) now
unfolding last_in archived_in reclaimed_in
run_ends before s end now run is ends last archived reclaimed floors runs_end =
    ends_more before s end now ends
    (last ∙ sym (ap (last_in end.last) is))
    (archived ∙ sym (ap (archived_in end.archived) is))
    (reclaimed ∙ sym (ap (reclaimed_in end.reclaimed) is))
    floors
    (runs_end ∙ sym (ap (λ (body : Body). row_end end.runs_end (runs_in body)) is))

pub reclaim_ends : (before : List Slot) (s : Slot) (end now : LogEnd) (anchors : Anchors) → s.body ≡ Reclaimed anchors → EndsAt before end
    → now.last ≡ end.last → now.archived ≡ end.archived → now.reclaimed ≡ anchors.upto → now.floors ≡ kept_after end.floors (slot_of s.body ∷ [])
    → now.runs_end ≡ end.runs_end → EndsAt (before ++ s ∷ []) now
unfolding last_in archived_in reclaimed_in
reclaim_ends before s end now anchors is ends last archived reclaimed floors runs_end =
    ends_more before s end now ends
    (last ∙ sym (ap (last_in end.last) is))
    (archived ∙ sym (ap (archived_in end.archived) is))
    (reclaimed ∙ sym (ap (reclaimed_in end.reclaimed) is))
    floors
    (runs_end ∙ sym (ap (λ (body : Body). row_end end.runs_end (runs_in body)) is))

pub floor_ends : (before : List Slot) (s : Slot) (end now : LogEnd) (relation : Option ℕ) (floor : ℕ) → s.body ≡ Floor relation floor → EndsAt before end
    → now.last ≡ end.last → now.archived ≡ end.archived → now.reclaimed ≡ end.reclaimed → now.floors ≡ kept_after end.floors (slot_of s.body ∷ [])
    → now.runs_end ≡ end.runs_end → EndsAt (before ++ s ∷ []) now
unfolding last_in archived_in reclaimed_in
floor_ends before s end now relation floor is ends last archived reclaimed floors runs_end =
    ends_more before s end now ends
    (last ∙ sym (ap (last_in end.last) is))
    (archived ∙ sym (ap (archived_in end.archived) is))
    (reclaimed ∙ sym (ap (reclaimed_in end.reclaimed) is))
    floors
    (runs_end ∙ sym (ap (λ (body : Body). row_end end.runs_end (runs_in body)) is))
