-- What memory has behind the log, and that the extents of a base are apart from all that stays.
use Rattle.std.proofs.Common.{◌≡◌, ◌≢◌, ℕ, zero, suc, ◌<◌, List, [], ◌∷◌, ◌++◌, length, map, Option, None, Some, refl}
use Rattle.std.proofs.Common.{arith, ap, sym, subst, ◌∙◌, append_assoc}
use Rattle.std.specs.Prelude.{flat_map}
use Rattle.std.proofs.lemmas.List.{append-nil, map-append}
use Rattle.std.proofs.lemmas.Grind.{flat_map-append}
use Rattle.history.specs.Histories.{History, HasRisingTimes, last, last_after}
use Rattle.history.proofs.Filters.{AllByRecursion-append}
use Rattle.history.proofs.Histories.{rising-from_following}
use Rattle.law_image.specs.Values.{Value, IsValue}
use Rattle.law_image.specs.Reading.{Head, Reading}
use Rattle.law_image.specs.Reading as readings
use Rattle.law_image.specs.Facts.{values_now}
use Rattle.law_image.specs.Log.{last_time_after}
use Rattle.law_image.specs.Plans.{IsGroupOf}
use Rattle.law_image.specs.StandsFor.{StandsFor, archived_upto, head_of}
use Rattle.law_image.proofs.FactsOf.{heads-commits_from}
use Rattle.law_image.proofs.Standing.{archived-range}
use Rattle.log_entries.specs.declared.entry.Member.{Member}
use Rattle.log_entries.specs.declared.entry.Entry.TheVariants.{Group}
use Rattle.log_extents.specs.Chains.{IsNew, AreDistinct}
use Rattle.log_recovery.specs.Live.{LiveChainValue, last_in, live_of}
use Rattle.log_writer.specs.Writer.{WriterState}
use Rattle.law_log_layout.specs.HeapLog.{HeapLog, PlacedChain, live_numbers, member_told, placed_group}
use Rattle.law_log_layout.proofs.Places.{ArePart, AreNew, distinct-parts, new-back, new-front}
use Rattle.log_store.specs.Values.{LogStoreValue}
use Rattle.log_store.specs.declared.job.Job.{Job}
use Rattle.law_log_store.specs.Standing.{StandsOnHeap, HasTurn, HasJob, IsAtRest}
use Rattle.law_log_store.proofs.Flags.{distinct-join}
use Rattle.law_log_store.proofs.Fronted.{IsBehindLog}
use Rattle.law_log_store.proofs.Going.{rises-on}
use Rattle.law_log_store.proofs.Opened.{new-flip}

-- ---- a group's last commit is later than all that is archived

times-after : (t : ℕ) (h : History Value) → last_time_after t (map head_of h) ≡ last_after t h
times-after t [] = refl
times-after t (c ∷ cs) = times-after c.time cs

pub late-time : (reading : Reading) (h next : History Value) (floors : ℕ → ℕ) (members : List Member) → StandsFor reading h floors
    → IsGroupOf reading h next (map member_told members) → archived_upto reading < last_in (Group members)
late-time reading h next floors members stands is =
    let group = map member_told members in
    let heads : map head_of next ≡ map (λ (m : readings.Member). m.head) group =
    sym (ap (map head_of) is.facts) ∙ heads-commits_from (values_now reading) group in
    let low = archived-range reading h floors stands in
    let times : last_time_after 0 (map (λ (m : readings.Member). m.head) group) ≡ last_after 0 next =
    ap (last_time_after 0) (sym heads) ∙ times-after 0 next in
    let up = by-next next (rising-from_following IsValue h next is.may)
    (let some = is.some in let long = ap (λ (hs : List Head). length hs) heads in
    omega (arith, long, some, length-heads next, length-told group)) in
    omega (arith, low, times, up)
  where
    length-heads : (xs : History Value) → length (map head_of xs) ≡ length xs
    length-heads [] = refl
    length-heads (x ∷ xs) = ap suc (length-heads xs)

    length-told : (xs : List readings.Member) → length (map (λ (m : readings.Member). m.head) xs) ≡ length xs
    length-told [] = refl
    length-told (x ∷ xs) = ap suc (length-told xs)

    by-next : (xs : History Value) → HasRisingTimes (last h) xs → 0 < length xs → last h < last_after 0 xs
    by-next [] up some = absurd (omega (arith, some))
    by-next (c ∷ cs) up some = let rest = rises-on c.time cs up.2 in omega (arith, up.0, rest)

-- ---- the chains in memory

-- those of the log, and at most the chain of a group behind it
pub record HasChains (v : LogStoreValue) (l : HeapLog) : Type 0 where
  pub extra : List LiveChainValue
  pub are : v.live.chains ≡ map live_of l.chains ++ extra
  pub behind : IsBehindLog v.named.upto l.next extra
  -- where there is none the log ends where the room says
  pub ends : extra ≡ [] → v.room.next ≡ l.next
  pub anchors : v.live.anchors ≡ l.anchors.numbers

pub has-chains : (v : LogStoreValue) (h queue : History Value) (floors : ℕ → ℕ) (s : StandsOnHeap v h queue floors) → v.job ≡ None
    → HasChains v s.l
has-chains v h queue floors s none = by-turn v.turn s.turn
  where
    by-turn : (t : Option WriterState) → HasTurn v queue s.l s.reading s.made h t → HasChains v s.l
    by-turn None has =
        let rest : IsAtRest v s.l = subst (λ (j : Option Job). HasJob v s.l s.reading s.made j) none has in
        record {
          extra = [];
          are = (rest.live).chains ∙ sym (append-nil (map live_of s.l.chains));
          behind = tt;
          ends = λ same. (rest.room).next;
          anchors = (rest.live).anchors;
        }
    by-turn (Some w) o =
        let c = placed_group w.numbers w.link o.group in
        record {
          extra = live_of c ∷ [];
          are = (o.live).chains ∙ map-append live_of s.l.chains (c ∷ []);
          behind = record {
            time = last_in (Group o.group);
            part = refl;
            later = let late = late-time s.reading h _ floors o.group s.stands o.is_group in let mark = (s.named).upto in omega (arith, late, mark);
            head = (o.joins).head;
          };
          ends = λ none. absurd (let no : suc zero ≡ zero = ap (λ (cs : List LiveChainValue). length cs) none in omega (arith, no));
          anchors = (o.live).anchors;
        }

-- ---- the extents

-- those of a base and its anchors are apart from all that stays of the log, where they are apart from the whole of it, or the anchors are the log's
pub apart-then : (l : HeapLog) (front back : List PlacedChain) (anchors numbers : List ℕ) → l.chains ≡ front ++ back
    → AreDistinct (l.next ∷ live_numbers l ++ (anchors ++ numbers))
    → AreDistinct (l.next ∷ anchors ++ (numbers ++ flat_map (λ (c : PlacedChain). c.numbers) back))
apart-then l front back anchors numbers split apart = (
  AllByRecursion-append (λ (k : ℕ). k ≢ l.next) anchors (numbers ++ stay) (new-front l.next anchors numbers own-next)
      (AllByRecursion-append (λ (k : ℕ). k ≢ l.next) numbers stay (new-back l.next anchors numbers own-next) stay-next),
  distinct-join anchors (numbers ++ stay) (own).front
      (distinct-join numbers stay (own).back (stay-parts).back (flipped numbers stay (backs anchors numbers stay-new)))
      (joined numbers stay (own).new (flipped anchors stay (fronts anchors numbers stay-new))),
)
  where
    stay : List ℕ
    stay = flat_map (λ (c : PlacedChain). c.numbers) back

    before : List ℕ
    before = l.anchors.numbers ++ flat_map (λ (c : PlacedChain). c.numbers) front

    live-is : live_numbers l ≡ before ++ stay
    live-is =
        ap (λ (cs : List PlacedChain). l.anchors.numbers ++ flat_map (λ (c : PlacedChain). c.numbers) cs) split
        ∙ ap (λ (ns : List ℕ). l.anchors.numbers ++ ns) (flat_map-append (λ (c : PlacedChain). c.numbers) front back)
        ∙ sym (append_assoc l.anchors.numbers (flat_map (λ (c : PlacedChain). c.numbers) front) stay)

    parts : ArePart (live_numbers l) (anchors ++ numbers)
    parts = distinct-parts (live_numbers l) (anchors ++ numbers) apart.1

    own : ArePart anchors numbers
    own = distinct-parts anchors numbers (parts).back

    own-next : IsNew l.next (anchors ++ numbers)
    own-next = new-back l.next (live_numbers l) (anchors ++ numbers) apart.0

    stay-next : IsNew l.next stay
    stay-next = new-back l.next before stay (subst (IsNew l.next) live-is (new-front l.next (live_numbers l) (anchors ++ numbers) apart.0))

    stay-parts : ArePart before stay
    stay-parts = distinct-parts before stay (subst AreDistinct live-is (parts).front)

    stay-new : AreNew (anchors ++ numbers) stay
    stay-new = go (anchors ++ numbers) (parts).new
      where
        go : (ks : List ℕ) → AreNew ks (live_numbers l) → AreNew ks stay
        go [] all = tt
        go (k ∷ ks) all = (new-back k before stay (subst (IsNew k) live-is all.0), go ks all.1)

    fronts : (xs ys : List ℕ) → AreNew (xs ++ ys) stay → AreNew xs stay
    fronts [] ys all = tt
    fronts (x ∷ xs) ys all = (all.0, fronts xs ys all.1)

    backs : (xs ys : List ℕ) → AreNew (xs ++ ys) stay → AreNew ys stay
    backs [] ys all = all
    backs (x ∷ xs) ys all = backs xs ys all.1

    flipped : (xs ys : List ℕ) → AreNew xs ys → AreNew ys xs
    flipped xs ys all = new-flip ys xs all

    joined : (xs ys : List ℕ) → AreNew xs anchors → AreNew ys anchors → AreNew (xs ++ ys) anchors
    joined [] ys a b = b
    joined (x ∷ xs) ys a b = (a.0, joined xs ys a.1 b)
