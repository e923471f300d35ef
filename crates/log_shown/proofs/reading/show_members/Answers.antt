use Rattle.std.proofs.Common.{ℕ, ◌+◌, List, map, refl, sym, ◌∙◌, ap, subst}
use Rattle.std.specs.Prelude.{◌↔◌, IsTrue, is_some}
use Rattle.std.specs.List.{AllByRecursion}
use Rattle.wire.specs.declared.slot.Run.{Run}
use Rattle.law_image.specs.Log.{AreRisingAfter}
use Rattle.log_entries.specs.declared.entry.Roll.{Roll}
use Rattle.law_log_layout.specs.HeapLog.{PlacedChain, AreSpansInRow, run_span}
use Rattle.log_recovery.specs.Rules.{mark_of, roll_part}
use Rattle.log_recovery.specs.Members.{values_of, heads_told, members_of_all, AreAllStored, IsMembersFault}
use Rattle.log_sizes.specs.Counted.{AreSizesBehind}
use Rattle.log_recovery.specs.Chains.{uses_of}
use Rattle.log_recovery.specs.Ends.{EndsEarly, IsEndSeen}
use Rattle.log_recovery.specs.Opening.{AtEnd}
use Rattle.log_shown.specs.Shown.{items_before, items_of}
use Rattle.log_shown.specs.declared.reading.ShownEnd.TheVariants as stops
use Rattle.log_recovery.proofs.HeapRead.{members_rise_behind, all_in_range}
use Rattle.log_recovery.proofs.Rows.{runs_in_row, rolls_in_row}
use Rattle.log_recovery.proofs.Finishing.{holds_anchors, three_decide, IsKept, kept_decides, kept_count}
use Rattle.log_shown.proofs.Showing.{shown_damaged, members_shown_of, used_is_live}
use Rattle.log_shown.proofs.reading.show_members.Goals as goal

pub is_end_right-ends_right-requires-clause-runs : goal.is_end_right-ends_right-requires-clause-runs
is_end_right-ends_right-requires-clause-runs c =
    let chains = c.args.read.log.chains.items in
    subst (λ (l : List Run). AreSpansInRow 0 (map run_span l)) (sym c.requires.end.runs_are)
    (runs_in_row (mark_of chains) c.args.heap.most chains c.requires.entries c.requires.end.keeps).1.row

pub is_end_right-ends_right-requires-clause-rolls : goal.is_end_right-ends_right-requires-clause-rolls
is_end_right-ends_right-requires-clause-rolls c =
    let chains = c.args.read.log.chains.items in
    subst (λ (l : List Roll). AreSpansInRow 0 (map roll_part l)) (sym c.requires.end.rolls_are)
    (rolls_in_row (mark_of chains) c.args.heap.most chains c.requires.entries c.requires.end.keeps).row

pub is_end_right-ends_right-requires-clause-run_ends : goal.is_end_right-ends_right-requires-clause-run_ends
is_end_right-ends_right-requires-clause-run_ends c =
    let chains = c.args.read.log.chains.items in
    subst (λ (l : List Run). AllByRecursion EndsEarly (map run_span l)) (sym c.requires.end.runs_are)
    (runs_in_row (mark_of chains) c.args.heap.most chains c.requires.entries c.requires.end.keeps).1.early

pub is_end_right-ends_right-requires-clause-roll_ends : goal.is_end_right-ends_right-requires-clause-roll_ends
is_end_right-ends_right-requires-clause-roll_ends c =
    let chains = c.args.read.log.chains.items in
    subst (λ (l : List Roll). AllByRecursion EndsEarly (map roll_part l)) (sym c.requires.end.rolls_are)
    (rolls_in_row (mark_of chains) c.args.heap.most chains c.requires.entries c.requires.end.keeps).early

pub read_members-requires-clause-rising : goal.read_members-requires-clause-rising
read_members-requires-clause-rising c =
    let chains = c.args.read.log.chains.items in
    subst (λ (m : ℕ). AreRisingAfter m (heads_told (members_of_all m chains))) (sym c.requires.end.says.mark_is)
    (members_rise_behind chains c.requires.end.keeps)

pub returns-in-Err-Damaged-clause-shown : goal.returns-in-Err-Damaged-clause-shown
returns-in-Err-Damaged-clause-shown c = λ bytes len is.
    let most = c.args.heap.most in
    let chains = c.args.read.log.chains.items in
    let olds = is.takes.records in
    let place = c.in-Err-Damaged.place in
    let fault = c.in-Err-Damaged.field-0 in
    let here = subst (λ (m : ℕ). IsMembersFault m (values_of olds) chains fault) c.requires.end.says.mark_is
    (c.in-Err-Damaged.ensures.fault olds is.takes.writes) in
    let before = rw c.in-Err-Damaged.field-0-is at c.items_before.ensures in
    let stopped = rw c.in-Err-Damaged.field-0-is at c.damaged.ensures.end in
    shown_damaged most c.args.root bytes place c.damaged.result.items.items (items_before place (items_of chains)) c.damaged.result.end
    (members_shown_of most c.args.root bytes chains c.args.read.log.next _ fault _ place c.in-Err-Damaged.field-0-is
    (holds_anchors most c.args.root bytes c.args.read is) here)
    (c.damaged.ensures.items ∙ before ∙ ap (items_before place) c.requires.items) stopped

pub returns-in_default-clause-shown : goal.returns-in_default-clause-shown
returns-in_default-clause-shown c = λ bytes len is.
    let chains = c.args.read.log.chains.items in
    let most = c.args.heap.most in
    let root = c.args.root in
    let olds = is.takes.records in
    let mark_is = c.requires.end.says.mark_is in
    let read = c.in-Ok.ensures.read olds is.takes.writes in
    let stored = subst (λ (m : ℕ). AreAllStored m (values_of olds) chains) mark_is read.0 in
    let sizes = c.in-Ok.ensures.sizes olds is.takes.writes (sym is.takes.len_is) in
    let kept = kept_decides most chains c.args.read.log.end c.kept_log-kept.result
    (subst (λ (l : List PlacedChain). IsKept most l c.args.read.log.end c.kept_log-kept.result) c.deref.ensures.value c.kept_log-kept.ensures.kept) in
    let ends = subst (λ (n : ℕ). IsTrue c.is_end_right-ends_right.result ↔ IsEndSeen n c.args.read.log.next c.args.read.log.space c.args.read.log.end) len
    c.is_end_right-ends_right.ensures in
    let fit = c.are_anchors_small-anchors_fit.ensures olds (members_of_all (mark_of chains) chains)
    (subst (λ (m : ℕ). AreSizesBehind olds (members_of_all m chains) c.in-Ok.members.read.sizes) mark_is sizes) in
    let decides = three_decide most root bytes c.args.read is c.requires.next c.requires.end (is_some c.kept_log-kept.result)
    c.is_end_right-ends_right.result c.are_anchors_small-anchors_fit.result kept ends fit in
    let fails = AtEnd chains c.args.read.log.next _ (record { before = holds_anchors most root bytes c.args.read is; stored = stored })
    (λ right. c.in_default.ensures (decides.1 right)) refl in
    let damaged = c.damaged-in_default in
    shown_damaged most root bytes root damaged.result.items.items (items_of chains) damaged.result.end (fails, refl)
    (damaged.ensures.items ∙ c.requires.items) (damaged.ensures.end ∙ ap stops.Damaged c.from.ensures)

pub returns-clause-shown : goal.returns-clause-shown
returns-clause-shown c = λ bytes len is.
    let chains = c.args.read.log.chains.items in
    let most = c.args.heap.most in
    let root = c.args.root in
    let olds = is.takes.records in
    let mark_is = c.requires.end.says.mark_is in
    let read = c.in-Ok.ensures.read olds is.takes.writes in
    let stored = subst (λ (m : ℕ). AreAllStored m (values_of olds) chains) mark_is read.0 in
    let sizes = subst (λ (m : ℕ). AreSizesBehind olds (members_of_all m chains) c.in-Ok.members.read.sizes) mark_is
    (c.in-Ok.ensures.sizes olds is.takes.writes (sym is.takes.len_is)) in
    let kept_here = subst (λ (l : List PlacedChain). IsKept most l c.args.read.log.end c.kept_log-kept.result) c.deref.ensures.value
    c.kept_log-kept.ensures.kept in
    let kept = kept_decides most chains c.args.read.log.end c.kept_log-kept.result kept_here in
    let ends = subst (λ (n : ℕ). IsTrue c.is_end_right-ends_right.result ↔ IsEndSeen n c.args.read.log.next c.args.read.log.space c.args.read.log.end) len
    c.is_end_right-ends_right.ensures in
    let fit = c.are_anchors_small-anchors_fit.ensures olds (members_of_all (mark_of chains) chains) sizes in
    let decides = three_decide most root bytes c.args.read is c.requires.next c.requires.end (is_some c.kept_log-kept.result)
    c.is_end_right-ends_right.result c.are_anchors_small-anchors_fit.result kept ends fit in
    let seen = c.in-Some.ensures in
    let holds = holds_anchors most root bytes c.args.read is in
    let range = all_in_range most root bytes chains c.args.read.log.next is.keeps (uses_of most chains) refl c.args.read.log.space c.args.read.anchors
    is.takes in
    record {
      chains = chains;
      anchors = record { numbers = c.args.read.anchors.numbers.items; records = olds };
      holds = record {
        before = record { before = holds; stored = stored };
        ends = decides.0 (ap is_some seen.0, seen.1, seen.2);
      };
      items_are = c.requires.items;
      used_is = used_is_live most root bytes chains c.args.read.log.next _ c.args.read.log.space _ holds range is.takes.taken c.used-used.ensures.is;
      log_is = ap (λ (n : ℕ). n + 1) (kept_count most chains c.args.read.log.end c.kept_log-kept.result c.in-Some.count kept_here seen.0);
    }
