-- What a stop leaves while a piece of slots is being made, and where the calls lead.
use Rattle.std.proofs.Common.{◌≡◌, ◌≢◌, ℕ, ◌+◌, ◌-◌, ◌*◌, ◌<◌, ◌≤◌, Bool, true, false, List, [], ◌∷◌, ◌++◌, length, take, drop, replicate, refl, sym, ap, ◌∙◌}
use Rattle.std.proofs.Common.{subst, inl, inr, arith, rules}
use Rattle.std.specs.Prelude.{slice_index, IsTrue, nat_lt, Result, Ok, Err, MatchBool}
use Rattle.std.proofs.lemmas.Bool.{cases_lt, cases_eq, cases_order}
use Rattle.std.proofs.lemmas.Bool.Decides.{nat_tests}
use Rattle.std.proofs.lemmas.List.{length-append, length-take, length-drop, length-replicate, get_or-take, get_or-drop, get_or-replicate, get_or_append_left}
use Rattle.std.proofs.lemmas.List.{get_or-append_right, ext_get_or}
use Rattle.std.proofs.lemmas.List.Elements.{All-append, All-take, All-drop, All-cons, All-nil}
use Rattle.disk.specs.Areas.{AreaState, Areas, MayLeave, IsUntouched, IsApart, IsSound, AreSound, loosened, synced, overlaid}
use Rattle.disk.specs.Calls.{IsTorn, Tears, MadeInPart, Writes, Syncs}
use Rattle.disk.specs.declared.area.Area.TheVariants.{Status}
use Rattle.disk.specs.declared.area.DeviceFault.{DeviceFault}
use Rattle.disk.proofs.Parts.{length-overlaid}
use Rattle.law_layout.proofs.Overlays.{overlaid-elsewhere, overlaid-above, overlaid-within}
use Rattle.disk.proofs.Stops.{IsTorn-overlaid, IsTorn-same, AreBytes-overlaid, MayLeave-loosened, MayLeave-torn, MayLeave-before_sync}
use Rattle.status.specs.declared.header.Header.{Header}
use Rattle.status.specs.declared.growth.GrowthStage.{GrowthStage}
use Rattle.status.specs.declared.growth.GrowthStage.TheVariants.{Zeroing, ZerosSynced, GateWritten}
use Rattle.status.specs.Header.{total}
use Rattle.status.specs.Log.{slot_start}
use Rattle.status.specs.Growth.{WritesZeros, IsGrowthCall, may_be_open}
use Rattle.status.specs.Pieces.{next_gate, IsBeside, HasZeros}
use Rattle.law_layout.specs.Growing.{IsBesideArea, GateStands, KeepsZeros, IsGrowthAt, IsGrowing, LeftBeside, IsGrowthWay}

-- a place is apart from any other
apart-one : (k gate : ℕ) → k ≢ gate → IsApart k (k + 1) (gate, 1)
apart-one k gate other = elim (cases_order k gate) [
  | inl same ↦ absurd (other same)
  | inr (inl below) ↦ inl (omega arith)
  | inr (inr above) ↦ inr (omega arith)
]

-- ---- a content beside one that is left of the calm area

module _ (header : Header) (calm a : AreaState) (beside : IsBesideArea header calm a) (sound : IsSound calm) (content : List ℕ) (left : MayLeave a content)
  where
    abbrev end : ℕ
    end = slot_start (total header)

    abbrev gate : ℕ
    gate = next_gate header

    abbrev byte : ℕ
    byte = slice_index calm.bytes gate

    -- what stands in front of the end as it was left, and behind it as it reads
    abbrev joined : List ℕ
    joined = take end content ++ drop end calm.bytes

    abbrev calmed : List ℕ
    calmed = overlaid joined gate (byte ∷ [])

    long-content : slot_start (total header) ≤ length content
    long-content = omega (arith, beside.firm, left.no_shorter)

    long-calm : slot_start (total header) ≤ length calm.bytes
    long-calm = omega (arith, beside.room, sound.firm)

    length-taken : length (take end content) ≡ end
    length-taken = omega (arith, length-take end content, long-content)

    length-joined : length joined ≡ length calm.bytes
    length-joined = omega (arith, length-append (take end content) (drop end calm.bytes), length-taken, length-drop end calm.bytes, long-calm)

    length-calmed : length calmed ≡ length calm.bytes
    length-calmed = omega (arith, length-overlaid joined gate (byte ∷ []), length-joined, long-calm, beside.gate_low)

    at-gate : slice_index calmed gate ≡ slice_index calm.bytes gate
    at-gate = overlaid-within joined gate (byte ∷ []) gate (omega arith) (omega arith) ∙ (let first : gate - gate ≡ 0 = omega arith in rw first refl)

    below : (k : ℕ) → k < end → k ≢ gate → slice_index calmed k ≡ slice_index content k
    below k low other =
        overlaid-elsewhere joined gate (byte ∷ []) k (omega (arith, length-joined, long-calm)) (apart-one k gate other)
        ∙ get_or_append_left (take end content) (drop end calm.bytes) 0 k (omega (arith, length-taken))
        ∙ get_or-take end content k 0 low

    behind : (k : ℕ) → end ≤ k → slice_index calmed k ≡ slice_index calm.bytes k
    behind k high =
        let place : end + (k - end) ≡ k = omega arith in
        overlaid-above joined gate (byte ∷ []) k (omega (arith, beside.gate_low))
        ∙ get_or-append_right (take end content) (drop end calm.bytes) end k 0 length-taken high
        ∙ get_or-drop end calm.bytes (k - end) 0
        ∙ ap (λ (i : ℕ). slice_index calm.bytes i) place

    reads : (k : ℕ) → k < calm.firm → IsUntouched k (k + 1) calm.loose → slice_index calmed k ≡ slice_index calm.bytes k
    reads k firm untouched = elim (cases_eq k gate) [
      | inl is ↦ subst (λ (i : ℕ). slice_index calmed i ≡ slice_index calm.bytes i) (sym is) at-gate
      | inr other ↦ elim (cases_lt k end) [
        | inl low ↦ below k low other ∙ left.kept k (omega (arith, beside.firm)) (beside.loose k low other untouched) ∙ beside.same k low other
        | inr high ↦ behind k high
      ]
    ]

    may : MayLeave calm calmed
    may = record {
      no_shorter = omega (arith, length-calmed, sound.firm);
      kept = reads;
      settled = λ none. ext_get_or 0 calmed calm.bytes length-calmed (λ k lt. reads k (omega (arith, lt, length-calmed, sound.settled none)) (rw none tt));
      are_bytes =
          let P : ℕ → Type 0 = λ b. b < 256 in
          AreBytes-overlaid joined gate (byte
          ∷ []) (All-append P (take end content) (drop end calm.bytes) (All-take P end content left.are_bytes) (All-drop P end calm.bytes sound.are_bytes))
          (All-cons P byte [] (sound.are_bytes gate 0 (omega (arith, beside.gate_low, long-calm))) (All-nil P));
    }

    beside-it : IsBeside header calmed content
    beside-it = record { room = omega (arith, length-calmed, long-calm); long = long-content; same = λ k low other. sym (below k low other) }

    -- ---- where the gate is not written

    joined-below : (k : ℕ) → k < end → slice_index joined k ≡ slice_index content k
    joined-below k low = get_or_append_left (take end content) (drop end calm.bytes) 0 k (omega (arith, length-taken)) ∙ get_or-take end content k 0 low

    joined-behind : (k : ℕ) → end ≤ k → slice_index joined k ≡ slice_index calm.bytes k
    joined-behind k high =
        let place : end + (k - end) ≡ k = omega arith in
        get_or-append_right (take end content) (drop end calm.bytes) end k 0 length-taken high ∙ get_or-drop end calm.bytes (k - end) 0
        ∙ ap (λ (i : ℕ). slice_index calm.bytes i) place

    module _ (stands : GateStands header calm a) where
      -- all in front of the end is as it is in the calm area
      same-all : (k : ℕ) → k < end → slice_index a.bytes k ≡ slice_index calm.bytes k
      same-all k low = elim (cases_eq k gate) [
        | inl is ↦ subst (λ (i : ℕ). slice_index a.bytes i ≡ slice_index calm.bytes i) (sym is) stands.same
        | inr other ↦ beside.same k low other
      ]

      loose-all : (k : ℕ) → k < end → IsUntouched k (k + 1) calm.loose → IsUntouched k (k + 1) a.loose
      loose-all k low untouched = elim (cases_eq k gate) [
        | inl is ↦ subst (λ (i : ℕ). IsUntouched i (i + 1) a.loose) (sym is) (stands.loose (subst (λ (i : ℕ). IsUntouched i (i + 1) calm.loose) is untouched))
        | inr other ↦ beside.loose k low other untouched
      ]

      joined-reads : (k : ℕ) → k < calm.firm → IsUntouched k (k + 1) calm.loose → slice_index joined k ≡ slice_index calm.bytes k
      joined-reads k firm untouched = elim (cases_lt k end) [
        | inl low ↦ joined-below k low ∙ left.kept k (omega (arith, beside.firm)) (loose-all k low untouched) ∙ same-all k low
        | inr high ↦ joined-behind k high
      ]

      joined-may : MayLeave calm joined
      joined-may = record {
        no_shorter = omega (arith, length-joined, sound.firm);
        kept = joined-reads;
        settled =
            λ none. ext_get_or 0 joined calm.bytes length-joined (λ k lt. joined-reads k (omega (arith, lt, length-joined, sound.settled none)) (rw none tt));
        are_bytes = let P : ℕ → Type 0 =
            λ b. b < 256 in All-append P (take end content) (drop end calm.bytes) (All-take P end content left.are_bytes)
            (All-drop P end calm.bytes sound.are_bytes);
      }

      pub shut-leaves : (May : Type 0) → LeftBeside header May calm content
      shut-leaves May = record {
        calm_content = joined;
        left = joined-may;
        beside = record { room = omega (arith, length-joined, long-calm); long = long-content; same = λ k low other. sym (joined-below k low) };
        gate = inl (sym (joined-below gate (omega (arith, beside.gate_low))));
      }

    -- where the zeros stand
    pub zeros-leave : (May : Type 0) → May → KeepsZeros header a → LeftBeside header May calm content
    zeros-leave May may-be keeps = record {
      calm_content = calmed;
      left = may;
      beside = beside-it;
      gate = inr (
        may-be,
        record {
          long = omega (arith, keeps.firm, left.no_shorter);
          zeros = λ k low high. left.kept k (omega (arith, keeps.firm, high)) (keeps.untouched k low high) ∙ keeps.zeros k low high;
        },
      );
    }

pub growth_leaves : (header : Header) (stage : GrowthStage) (calm a : AreaState) (content : List ℕ) → IsGrowing header stage calm a → IsSound calm
    → MayLeave a content
    → LeftBeside header (IsTrue (may_be_open stage)) calm content
growth_leaves header (Zeroing parts) calm a content growing sound left = shut-leaves header calm a growing.beside sound content left growing.at.0 _
growth_leaves header ZerosSynced calm a content growing sound left = shut-leaves header calm a growing.beside sound content left growing.at.0 _
growth_leaves header GateWritten calm a content growing sound left = zeros-leave header calm a growing.beside sound content left _ (search rules) growing.at.1

-- ---- writes of the piece

-- a range apart from all that is not the piece's
abbrev IsAside : Header → ℕ → ℕ → Type 0
IsAside header at n = (k : ℕ) → k < slot_start (total header) → k ≢ next_gate header → IsApart k (k + 1) (at, n)

module _ (header : Header) (calm a : AreaState) (sound : IsSound a) (at n : ℕ) (bytes : List ℕ) (torn : IsTorn at n a.bytes bytes) where
  pub beside-torn : IsAside header at n → IsBesideArea header calm a → IsBesideArea header calm (loosened at n bytes a)
  beside-torn aside beside = record {
    gate_low = beside.gate_low;
    room = beside.room;
    firm = beside.firm;
    same = λ k low other. torn.elsewhere k (omega (arith, beside.firm, sound.firm, low)) (aside k low other) ∙ beside.same k low other;
    loose = λ k low other untouched. (aside k low other, beside.loose k low other untouched);
  }

  pub gate-torn : IsApart (next_gate header) (next_gate header + 1) (at, n) → IsBesideArea header calm a → GateStands header calm a
      → GateStands header calm (loosened at n bytes a)
  gate-torn apart beside stands = record {
    same = torn.elsewhere (next_gate header) (omega (arith, beside.gate_low, beside.firm, sound.firm)) apart ∙ stands.same;
    loose = λ untouched. (apart, stands.loose untouched);
  }

  pub zeros-torn : ((k : ℕ) → slot_start (total header) ≤ k → IsApart k (k + 1) (at, n)) → KeepsZeros header a → KeepsZeros header (loosened at n bytes a)
  zeros-torn apart keeps = record {
    firm = keeps.firm;
    zeros = λ k low high. torn.elsewhere k (omega (arith, keeps.firm, sound.firm, high)) (apart k low) ∙ keeps.zeros k low high;
    untouched = λ k low high. (apart k low, keeps.untouched k low high);
  }

-- ---- syncs

pub beside-synced : (header : Header) (calm a : AreaState) → IsSound calm → IsSound a → IsBesideArea header calm a
    → IsBesideArea header (synced calm) (synced a)
beside-synced header calm a sound-calm sound beside = record {
  gate_low = beside.gate_low;
  room = omega (arith, beside.room, sound-calm.firm);
  firm = omega (arith, beside.firm, sound.firm);
  same = beside.same;
  loose = λ k low other untouched. tt;
}

pub zeros-synced : (header : Header) (a : AreaState) → IsSound a → KeepsZeros header a → KeepsZeros header (synced a)
zeros-synced header a sound keeps = record { firm = omega (arith, keeps.firm, sound.firm); zeros = keeps.zeros; untouched = λ k low high. tt }

pub gate-synced : (header : Header) (calm a : AreaState) → GateStands header calm a → GateStands header (synced calm) (synced a)
gate-synced header calm a stands = record { same = stands.same; loose = λ untouched. tt }

pub at-synced : (header : Header) (stage : GrowthStage) (calm a : AreaState) → IsSound a → IsGrowthAt header stage calm a
    → IsGrowthAt header stage (synced calm) (synced a)
at-synced header (Zeroing parts) calm a sound at = (gate-synced header calm a at.0, at.1, at.2)
at-synced header ZerosSynced calm a sound at = (gate-synced header calm a at.0, zeros-synced header a sound at.1)
at-synced header GateWritten calm a sound at = (at.0, zeros-synced header a sound at.1)

-- a sync of the area is one of the calm area
pub growing-synced : (header : Header) (stage : GrowthStage) (calm a : AreaState) → IsSound calm → IsSound a → IsGrowing header stage calm a
    → IsGrowing header stage (synced calm) (synced a)
growing-synced header stage calm a sound-calm sound growing =
    record { beside = beside-synced header calm a sound-calm sound growing.beside; at = at-synced header stage calm a sound growing.at }

pub sound-synced : (a : AreaState) → IsSound a → IsSound (synced a)
sound-synced a sound = record { firm = omega arith; settled = λ none. refl; are_bytes = sound.are_bytes }

-- ---- the status area after a call

pub status-torn : (at n : ℕ) (old new : Areas) → Tears Status at n old new → new.status ≡ loosened at n new.status.bytes old.status
status-torn at n old new tears = ap (λ (x : Areas). x.status) tears.areas

pub alone-in-part : (at n : ℕ) (old new : Areas) → MadeInPart Status at n old new → new ≡ record old { status = new.status }
alone-in-part at n old new (inl same) = subst (λ (x : Areas). x ≡ record old { status = x.status }) (sym same) refl
alone-in-part at n old new (inr tears) = tears.areas ∙ ap (λ (s : AreaState). record old { status = s }) (sym (status-torn at n old new tears))

pub alone-synced : (result : Result (Unit {0}) DeviceFault) (old new : Areas) → Syncs Status result old new → new ≡ record old { status = new.status }
alone-synced (Ok done) old new call = call.synced ∙ ap (λ (s : AreaState). record old { status = s }) (sym (ap (λ (x : Areas). x.status) call.synced))
alone-synced (Err fault) old new call = subst (λ (x : Areas). x ≡ record old { status = x.status }) (sym call.same) refl

-- every call of a piece changes the status area alone
pub growth-alone : (stage : GrowthStage) (many piece : ℕ) (result : Result (Unit {0}) DeviceFault) (old new : Areas)
    → IsGrowthCall stage many piece result old new → new ≡ record old { status = new.status }
growth-alone (Zeroing parts) many piece result old new call = by-test (nat_lt parts 16) call
  where
    by-test : (b : Bool) → MatchBool b (WritesZeros many parts result old new) (Syncs Status result old new) → new ≡ record old { status = new.status }
    by-test true call = alone-in-part (slot_start many + 8192 * parts) (length (replicate {A = ℕ} 8192 0)) old new call.in_part
    by-test false call = alone-synced result old new call
growth-alone ZerosSynced many piece result old new call = alone-in-part (16 + piece) 1 old new call.in_part
growth-alone GateWritten many piece result old new call = alone-synced result old new call

-- a write leaves no more than while it is made
pub torn-leaves : (at n : ℕ) (old new : Areas) (content : List ℕ) → IsSound old.status → MadeInPart Status at n old new → MayLeave new.status content
    → MayLeave (loosened at n old.status.bytes old.status) content
torn-leaves at n old new content sound (inl same) left = MayLeave-loosened old.status at n content (subst (λ (x : Areas). MayLeave x.status content) same left)
torn-leaves at n old new content sound (inr tears) left =
    MayLeave-torn old.status at n new.status.bytes content sound tears.torn
    (subst (λ (s : AreaState). MayLeave s content) (status-torn at n old new tears) left)

-- and a sync no more than before it
pub synced-leaves : (result : Result (Unit {0}) DeviceFault) (old new : Areas) (content : List ℕ) → IsSound old.status → Syncs Status result old new
    → MayLeave new.status content → MayLeave old.status content
synced-leaves (Ok done) old new content sound call left =
    MayLeave-before_sync old.status content sound (subst (λ (x : Areas). MayLeave x.status content) call.synced left)
synced-leaves (Err fault) old new content sound call left = subst (λ (x : Areas). MayLeave x.status content) call.same left

-- ---- the calls of the piece

long-zeros : length (replicate {A = ℕ} 8192 0) ≡ 8192
long-zeros = length-replicate {A = ℕ} 8192 0

module _ (header : Header) (calm : AreaState) (old : Areas) (sound-calm : IsSound calm) (sound : AreSound old) where
  abbrev a : AreaState
  a = old.status

  aside-zeros : (parts : ℕ) → IsAside header (slot_start (total header) + 8192 * parts) (length (replicate {A = ℕ} 8192 0))
  aside-zeros parts k low other = inl (omega arith)

  -- zeros are written
  module _ (parts : ℕ) (growing : IsGrowing header (Zeroing parts) calm old.status) where
    abbrev place : ℕ
    place = slot_start (total header) + 8192 * parts

    zeros-within : (May : Type 0) (result : Result (Unit {0}) DeviceFault) (new : Areas) (content : List ℕ) → WritesZeros (total header) parts result old new
        → MayLeave new.status content → LeftBeside header May calm content
    zeros-within May result new content call left =
        let torn = IsTorn-same place (length (replicate {A = ℕ} 8192 0)) old.status.bytes in
        let apart : IsApart (next_gate header) (next_gate header + 1) (place, length (replicate {A = ℕ} 8192 0)) =
        inl (omega (arith, growing.beside.gate_low)) in
        shut-leaves header calm (loosened place (length (replicate {A = ℕ} 8192 0)) old.status.bytes old.status)
        (beside-torn header calm old.status (sound Status) place (length (replicate {A = ℕ} 8192 0)) old.status.bytes torn (aside-zeros parts) growing.beside)
        sound-calm content (torn-leaves place (length (replicate {A = ℕ} 8192 0)) old new content (sound Status) call.in_part left)
        (gate-torn header calm old.status (sound Status) place (length (replicate {A = ℕ} 8192 0)) old.status.bytes torn apart growing.beside growing.at.0) May

    zeros-more : HasZeros header (8192 * (parts + 1)) (overlaid old.status.bytes place (replicate 8192 0))
    zeros-more = record {
      long = omega (arith, length-overlaid old.status.bytes place (replicate 8192 0), long-zeros);
      zeros = λ k low high. elim (cases_lt k place) [
        | inl before ↦
            let long = growing.at.2.long in
            overlaid-elsewhere old.status.bytes place (replicate 8192 0) k (omega (arith, before, long)) (inl (omega arith))
            ∙ growing.at.2.zeros k low (omega arith)
        | inr from ↦
            overlaid-within old.status.bytes place (replicate 8192 0) k from (omega (arith, long-zeros, high))
            ∙ get_or-replicate {A = ℕ} 8192 (k - place) 0 0 (omega (arith, high))
      ];
    }

    zeros-lead : (new : Areas) → parts < 16 → WritesZeros (total header) parts (Ok tt) old new → IsGrowing header (Zeroing (parts + 1)) calm new.status
    zeros-lead new few call =
        let torn = IsTorn-overlaid old.status.bytes place (replicate 8192 0) in
        let apart : IsApart (next_gate header) (next_gate header + 1) (place, length (replicate {A = ℕ} 8192 0)) =
        inl (omega (arith, growing.beside.gate_low)) in
        subst (λ (x : Areas). IsGrowing header (Zeroing (parts + 1)) calm x.status) (sym call.written) (record {
          beside = beside-torn header calm old.status (sound Status) place (length (replicate {A = ℕ} 8192 0))
              (overlaid old.status.bytes place (replicate 8192 0)) torn (aside-zeros parts) growing.beside;
          at = (
            gate-torn header calm old.status (sound Status) place (length (replicate {A = ℕ} 8192 0)) (overlaid old.status.bytes place (replicate 8192 0)) torn
                apart growing.beside growing.at.0,
            omega (arith, few),
            zeros-more,
          );
        })

    -- they are synced
    all-zeros : 16 ≤ parts → KeepsZeros header (synced old.status)
    all-zeros many = record {
      firm = omega (arith, growing.at.2.long, many);
      zeros = λ k low high. growing.at.2.zeros k low (omega (arith, high, many));
      untouched = λ k low high. tt;
    }

    sync-leads : (new : Areas) → 16 ≤ parts → Syncs Status (Ok tt) old new → IsGrowing header ZerosSynced (synced calm) new.status
    sync-leads new many call =
        subst (λ (x : Areas). IsGrowing header ZerosSynced (synced calm) x.status) (sym call.synced) (record {
          beside = beside-synced header calm old.status sound-calm (sound Status) growing.beside;
          at = (gate-synced header calm old.status growing.at.0, all-zeros many);
        })

    sync-within : (May : Type 0) (result : Result (Unit {0}) DeviceFault) (new : Areas) (content : List ℕ) → Syncs Status result old new
        → MayLeave new.status content → LeftBeside header May calm content
    sync-within May result new content call left =
        shut-leaves header calm old.status growing.beside sound-calm content (synced-leaves result old new content (sound Status) call left) growing.at.0 May

    pub zeroing_goes : IsGrowthWay header (Zeroing parts) calm old
    zeroing_goes = by-test (nat_lt parts 16) refl
      where
        by-test : (b : Bool) → nat_lt parts 16 ≡ b → IsGrowthWay header (Zeroing parts) calm old
        by-test true is =
            let few : parts < 16 = grind (arith, nat_tests) in record {
              within = rw is (λ result new content call left. zeros-within _ result new content call left);
              leads = rw is (λ new call. zeros-lead new few call);
              alone = rw is (λ result new call. alone-in-part place (length (replicate {A = ℕ} 8192 0)) old new call.in_part);
            }
        by-test false is =
            let many : 16 ≤ parts = grind (arith, nat_tests) in record {
              within = rw is (λ result new content call left. sync-within _ result new content call left);
              leads = rw is (λ new call. sync-leads new many call);
              alone = rw is (λ result new call. alone-synced result old new call);
            }

  -- the gate is written
  module _ (growing : IsGrowing header ZerosSynced calm old.status) where
    aside-gate : IsAside header (next_gate header) 1
    aside-gate k low other = apart-one k (next_gate header) other

    apart-gate : (k : ℕ) → slot_start (total header) ≤ k → IsApart k (k + 1) (next_gate header, 1)
    apart-gate k high = inr (omega (arith, growing.beside.gate_low))

    gate-within : (result : Result (Unit {0}) DeviceFault) (new : Areas) (content : List ℕ) → Writes Status (next_gate header) (0xC7 ∷ []) result old new
        → MayLeave new.status content
        → LeftBeside header (IsTrue true) calm content
    gate-within result new content call left =
        let torn = IsTorn-same (next_gate header) 1 old.status.bytes in
        zeros-leave header calm (loosened (next_gate header) 1 old.status.bytes old.status)
        (beside-torn header calm old.status (sound Status) (next_gate header) 1 old.status.bytes torn aside-gate growing.beside)
        sound-calm content (torn-leaves (next_gate header) 1 old new content (sound Status) call.in_part left) _ (search rules)
        (zeros-torn header calm old.status (sound Status) (next_gate header) 1 old.status.bytes torn apart-gate growing.at.1)

    gate-leads : (new : Areas) → Writes Status (next_gate header) (0xC7 ∷ []) (Ok tt) old new → IsGrowing header GateWritten calm new.status
    gate-leads new call =
        let torn = IsTorn-overlaid old.status.bytes (next_gate header) (0xC7 ∷ []) in
        let first : next_gate header - next_gate header ≡ 0 = omega arith in
        subst (λ (x : Areas). IsGrowing header GateWritten calm x.status) (sym call.written) (record {
          beside = beside-torn header calm old.status (sound Status) (next_gate header) 1 (overlaid old.status.bytes (next_gate header) (0xC7
              ∷ [])) torn aside-gate growing.beside;
          at = (
            overlaid-within old.status.bytes (next_gate header) (0xC7 ∷ []) (next_gate header) (omega arith) (omega arith) ∙ rw first refl,
            zeros-torn header calm old.status (sound Status) (next_gate header) 1 (overlaid old.status.bytes (next_gate header) (0xC7
                ∷ [])) torn apart-gate growing.at.1,
          );
        })

    pub gate_goes : IsGrowthWay header ZerosSynced calm old
    gate_goes = record {
      within = λ result new content call left. gate-within result new content call left;
      leads = λ new call. gate-leads new call;
      alone = λ result new call. alone-in-part (next_gate header) 1 old new call.in_part;
    }

  -- and synced
  pub last_goes : IsGrowing header GateWritten calm old.status → IsGrowthWay header GateWritten calm old
  last_goes growing = record {
    within = λ result new content call left.
        zeros-leave header calm old.status growing.beside sound-calm content (synced-leaves result old new content (sound Status) call left) _ (search rules)
        growing.at.1;
    leads = λ new call. subst (λ (x : Areas). IsGrowing header GateWritten (synced calm) x.status) (sym call.synced)
        (growing-synced header GateWritten calm old.status sound-calm (sound Status) growing);
    alone = λ result new call. alone-synced result old new call;
  }

pub growth_goes : (header : Header) (stage : GrowthStage) (calm : AreaState) (old : Areas) → IsGrowing header stage calm old.status → IsSound calm
    → AreSound old → IsGrowthWay header stage calm old
growth_goes header (Zeroing parts) calm old growing sound-calm sound = zeroing_goes header calm old sound-calm sound parts growing
growth_goes header ZerosSynced calm old growing sound-calm sound = gate_goes header calm old sound-calm sound growing
growth_goes header GateWritten calm old growing sound-calm sound = last_goes header calm old sound-calm sound growing
