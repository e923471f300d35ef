-- A group that comes behind the log in the heap: the image then reads with the group's commits.
use Rattle.std.proofs.Common.{◌≡◌, ℕ, ◌≤◌, true, List, [], ◌∷◌, ◌++◌, length, map, refl, sym, ap, subst, ◌∙◌, arith, append_assoc}
use Rattle.std.specs.Prelude.{flat_map}
use Rattle.std.proofs.lemmas.List.{append-nil, map-append}
use Rattle.std.proofs.lemmas.Grind.{flat_map-append}
use Rattle.history.proofs.Filters.{AllByRecursion-append}
use Rattle.history.specs.Histories.{History}
use Rattle.law_image.specs.Values.{Value}
use Rattle.law_image.specs.Reading.{Head, Reading, Commits}
use Rattle.law_image.specs.Reading as readings
use Rattle.law_image.specs.Log.{last_time, reclaim_mark, AreRisingAfter, is_in_heap}
use Rattle.law_image.specs.StandsFor.{StandsFor, IsHeapLog}
use Rattle.law_image.specs.Plans.{IsGroupOf, HasRoom, most_members, with_group}
use Rattle.law_image.proofs.Forms.{in-heap}
use Rattle.law_image.proofs.GroupStep.{length-map, group-rise}
use Rattle.law_log.specs.Chains.{OfGroup, LogChain, told, reclaimed_by, heads_in, KeepsChainRules, reading_of, IsWithGroup}
use Rattle.law_log.proofs.Telling.{tells-all}
use Rattle.law_log.proofs.Behind.{comes-behind}
use Rattle.law_layout.specs.Runs.{StoredRun}
use Rattle.wire.specs.declared.slot.Run.{Run}
use Rattle.law_log_layout.specs.HeapLog.{run_span, archives_in, AreSpansInRow, KeepsShares}
use Rattle.log_extents.specs.Chains.{first_or, AreDistinct}
use Rattle.log_entries.specs.declared.entry.Member.{Member}
use Rattle.log_entries.specs.declared.entry.AnchorName.{AnchorName}
use Rattle.law_log_layout.specs.HeapLog.{PlacedChain, HeapLog, live_numbers, IsPlaced, AreChained, member_told, chain_told, chains_told}
use Rattle.law_log_layout.specs.HeapLog.{runs_behind, runs_from, rolls_in, anchors_in, AreNamed, IsLogOf, with_chain, placed_group, MayJoin}

pub chained-more : (root next : ℕ) (chains : List PlacedChain) (c : PlacedChain) → AreChained root chains next → first_or 0 c.numbers ≡ next
    → AreChained root (chains ++ c ∷ []) c.link
chained-more root next [] c chained head = (head ∙ sym chained, refl)
chained-more root next (d ∷ chains) c chained head = (chained.0, chained-more d.link next chains c chained.1 head)

pub runs-split : (before : List Run) (chains more : List PlacedChain) → runs_from before (chains ++ more) ≡ runs_from (runs_from before chains) more
runs-split before [] more = refl
runs-split before (c ∷ chains) more = runs-split (runs_behind before c.entry) chains more

pub none-more : {X : Type 0} (f : PlacedChain → List X) (chains : List PlacedChain) (c : PlacedChain) → f c ≡ [] → flat_map f (chains ++ c ∷ [])
    ≡ flat_map f chains
none-more f chains c none = flat_map-append f chains (c ∷ []) ∙ ap (λ l. flat_map f chains ++ l) (append-nil (f c) ∙ none) ∙ append-nil (flat_map f chains)

pub live-more : (l : HeapLog) (c : PlacedChain) → live_numbers (with_chain l c) ≡ live_numbers l ++ c.numbers
live-more l c =
    ap (λ ns. l.anchors.numbers ++ ns) (flat_map-append (λ (d : PlacedChain). d.numbers) l.chains (c ∷ [])
    ∙ ap (λ ns. flat_map (λ (d : PlacedChain). d.numbers) l.chains ++ ns) (append-nil c.numbers))
    ∙ sym (append_assoc l.anchors.numbers (flat_map (λ (d : PlacedChain). d.numbers) l.chains) c.numbers)

pub room : (reading : Reading) → is_in_heap reading.profile ≡ true → HasRoom reading
room reading heap = rw heap tt

pub most-is : (reading : Reading) → is_in_heap reading.profile ≡ true → most_members reading.profile ≡ 1024
most-is reading heap = rw heap refl

pub group-is_log : (most root : ℕ) (l : HeapLog) (reading : Reading) (h next : History Value) (floors : ℕ
    → ℕ) (numbers : List ℕ) (link : ℕ) (members : List Member)
    → IsLogOf most root l reading → StandsFor reading h floors → IsGroupOf reading h next (map member_told members)
    → MayJoin most l (placed_group numbers link members)
    → KeepsShares most (with_chain l (placed_group numbers link members)) (with_group reading (map member_told members))
    → IsLogOf most root (with_chain l (placed_group numbers link members)) (with_group reading (map member_told members))
group-is_log most root l reading h next floors numbers link members is stands group joins shares =
    let c = placed_group numbers link members in
    let chains = chains_told is.names l.chains in
    let told_members = map member_told members in
    let log_is : reading.log ≡ told chains = ap (λ (r : Reading). r.log) is.reading_is in
    let heap : is_in_heap reading.profile ≡ true = ap (λ (r : Reading). is_in_heap r.profile) is.reading_is in
    let form : IsHeapLog reading = in-heap reading heap stands.opens.reads.form in
    let so = tells-all chains (is.rules).each in
    let le : reclaimed_by chains ≤ last_time (told chains) = omega (arith, so.reclaimed, ap reclaim_mark log_is, ap last_time log_is, (form.log).published) in
    let many : length told_members ≡ length members = length-map member_told members in
    let up : AreRisingAfter (last_time (told chains)) (heads_in told_members) =
    subst (λ (t : ℕ). AreRisingAfter t (heads_in told_members)) (ap last_time log_is)
    (group-rise reading h floors stands told_members next group (room reading heap)) in
    let few : length told_members ≤ 1024 = subst (λ (n : ℕ). length told_members ≤ n) (most-is reading heap) group.few in
    let with : IsWithGroup chains told_members = comes-behind chains told_members is.rules le group.some few up in
    let same : chains_told is.names (l.chains ++ c ∷ []) ≡ chains ++ OfGroup told_members ∷ [] =
    map-append (λ (d : PlacedChain). chain_told is.names d.entry) l.chains (c ∷ []) in
    record {
      placed = AllByRecursion-append (IsPlaced most) l.chains (c ∷ []) is.placed (joins.placed, tt);
      chained = chained-more root l.next l.chains c is.chained joins.head;
      anchors = is.anchors;
      next = (let p = joins.placed in p.link);
      apart = subst (λ (ns : List ℕ). AreDistinct (link ∷ ns)) (sym (live-more l c)) joins.apart;
      anchors_named =
          subst (λ (ns : List AnchorName). AreNamed ns l.anchors) (sym (none-more (λ (d : PlacedChain). anchors_in d.entry) l.chains c refl)) is.anchors_named;
      rolls_named = is.rolls_named ∙ sym (none-more (λ (d : PlacedChain). rolls_in d.entry) l.chains c refl);
      runs_named = is.runs_named ∙ sym (runs-split [] l.chains (c ∷ []));
      each_run = is.each_run;
      each_roll = is.each_roll;
      archive_apart = is.archive_apart;
      archives_in_row = subst (λ (rs : List Run). AreSpansInRow 0 (map run_span rs))
          (sym (none-more (λ (d : PlacedChain). archives_in d.entry) l.chains c refl)) is.archives_in_row;
      rolls_in_row = is.rolls_in_row;
      shares = shares;
      names = is.names;
      are_names = is.are_names;
      rules = subst KeepsChainRules (sym same) with.rules;
      reading_is =
          ap (λ (r : Reading). with_group r told_members) is.reading_is
          ∙ ap (λ (p : List readings.Slot × List readings.Member). record {
            profile = 4;
            slots = most;
            pieces = 0;
            log = p.0;
            members = p.1;
            anchors = l.anchors.records;
            runs = map (λ (s : StoredRun). s.records) l.runs;
          })
          (λ i. (sym with.tells i, sym with.has i))
          ∙ ap (λ (cs : List LogChain). reading_of most cs l.anchors.records (map (λ (s : StoredRun). s.records) l.runs)) (sym same);
    }
