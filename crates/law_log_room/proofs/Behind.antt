-- What is left behind an archive of all that is published, and a reclaim of it: a commit of one extent has room.
use Rattle.std.proofs.Common.{◌≡◌, ℕ, zero, suc, ◌<◌, ◌≤◌, Bool, false, cond}
use Rattle.std.proofs.Common.{List, [], ◌∷◌, length, map, drop, None, refl, arith, ap, ◌∙◌}
use Rattle.std.proofs.lemmas.List.{drop-map}
use Rattle.history.specs.Machine.{Machine}
use Rattle.history.proofs.Orders.{not_lt}
use Rattle.law_image.specs.Values.{Value}
use Rattle.law_image.specs.Reading.{Head, Reading, Slot}
use Rattle.law_image.specs.Log.{archive_mark, last_time_after, told_time}
use Rattle.law_image.proofs.GroupStep.{length-map}
use Rattle.law_image.proofs.Standing.{archived-range}
use Rattle.law_log.specs.Chains.{KeepsChainRules, LogChain, MayAllFollow, MayFollow, OfBase, OfFloor, OfGroup, OfRun, commits_in, heads_in, last_commit}
use Rattle.law_log.specs.Chains.{reclaimed_by, told, told_behind}
use Rattle.law_log.proofs.Telling.{last-rises, tells-all}
use Rattle.log_entries.specs.declared.entry.Entry.{Entry}
use Rattle.log_entries.specs.declared.entry.Entry.TheVariants.{Group, Archived, Floor}
use Rattle.log_entries.specs.declared.entry.Entry.TheVariants as entries
use Rattle.log_base.specs.Bases.{front_len, is_later}
use Rattle.log_recovery.specs.Live.{live_of, part_of}
use Rattle.law_log_layout.specs.HeapLog.{PlacedChain, chain_told, chains_told, member_told}
use Rattle.commits.specs.Values.{last}
use Rattle.law_commits.proofs.Names.{last-is}
use Rattle.log_store.specs.Reclaims.{front_count}
use Rattle.log_store.specs.Values.{LogStoreValue, IsInStep}
use Rattle.law_log_store.specs.Standing.{StandsOnHeap}
use Rattle.law_log_steps.specs.Store.{IsStoreOf}
use Rattle.law_log_room.proofs.Lasts.{at-rest, last-told}

-- ---- a log that tells of no commit later than a mark is all front

last-any : (s t : ℕ) (heads : List Head) → 0 < length heads → last_time_after s heads ≡ last_time_after t heads
last-any s t [] some = absurd (omega (arith, some))
last-any s t (head ∷ heads) some = refl

chain-rises : (old last : ℕ) (before : List Slot) (chain : LogChain) → MayFollow old last before chain → last ≤ last_time_after last (commits_in chain)
chain-rises old last before (OfBase b) may = omega arith
chain-rises old last before (OfGroup members) may = last-rises last (heads_in members) may.2
chain-rises old last before (OfRun upto runs) may = omega arith
chain-rises old last before (OfFloor f) may = omega arith

all-rise : (old last : ℕ) (before : List Slot) (chains : List LogChain) → MayAllFollow old last before chains → last ≤ last_commit last chains
all-rise old last before [] may = omega arith
all-rise old last before (chain ∷ chains) may =
    let one = chain-rises old last before chain may.0 in
    let rest = all-rise old (last_time_after last (commits_in chain)) (told_behind old before chain) chains may.1 in
    omega (arith, one, rest)

chain-early : (mark old last : ℕ) (before : List Slot) (names : List Head) (e : Entry) → MayFollow old last before (chain_told names e)
    → last_time_after last (commits_in (chain_told names e)) ≤ mark → is_later mark (part_of e) ≡ false
chain-early mark old last before names (Group members) may low =
    let heads = heads_in (map member_told members) in
    let some : 0 < length heads = omega (arith, may.0, length-map (λ m. m.head) (map member_told members)) in
    let same = last-any 0 last heads some in
    not_lt (omega (arith, low, same))
chain-early mark old last before names (Archived archive) may low = refl
chain-early mark old last before names (Floor floor) may low = refl
chain-early mark old last before names (entries.Base base) may low = refl

all-front : (mark old last : ℕ) (before : List Slot) (names : List Head) (chains : List PlacedChain) → MayAllFollow old last before (chains_told names chains)
    → last_commit last (chains_told names chains) ≤ mark → drop (front_len mark (map live_of chains)) chains ≡ []
all-front mark old last before names [] may low = refl
all-front mark old last before names (c ∷ cs) may low =
    let said = chain_told names c.entry in
    let next = last_time_after last (commits_in said) in
    let grows = all-rise old next (told_behind old before said) (chains_told names cs) may.1 in
    let early = chain-early mark old last before names c.entry may.0 (omega (arith, grows, low)) in
    ap (λ (b : Bool). drop (cond b zero (suc (front_len mark (map live_of cs)))) (c ∷ cs)) early
    ∙ all-front mark old next (told_behind old before said) names cs may.1 low

-- one that tells of no commit, and of no archive, has no chain
none-at-all : (names : List Head) (chains : List PlacedChain) → KeepsChainRules (chains_told names chains)
    → archive_mark (told (chains_told names chains)) ≡ 0 → last_commit 0 (chains_told names chains) ≡ 0 → chains ≡ []
none-at-all names [] rules none last = refl
none-at-all names (c ∷ cs) rules none last = absurd (by-first (chain_told names c.entry) rules none last)
  where
    by-first : (first : LogChain) → KeepsChainRules (first ∷ chains_told names cs) → archive_mark (told (first ∷ chains_told names cs)) ≡ 0
        → last_commit 0 (first ∷ chains_told names cs) ≡ 0 → ⊥
    by-first (OfBase b) rules none last =
        let some = (rules.each).0.3.some in
        let low = rules.archived in
        omega (arith, some, low, none)
    by-first (OfGroup members) rules none last =
        let some = (rules.each).0.3 in
        let grows = all-rise 0 (last_time_after 0 (heads_in members)) _ (chains_told names cs) (rules.each).1 in
        omega (arith, some, grows, last)
    by-first (OfRun upto runs) rules none last = let low = (rules.each).0.0 in let high = (rules.each).0.1 in omega (arith, low, high)
    by-first (OfFloor f) rules none last = let low = (rules.each).0.0 in let high = (rules.each).0.1 in omega (arith, low, high)

module _ (tells : Bool) (v : LogStoreValue) (m : Machine Value) (is : IsStoreOf tells v m) (s : StandsOnHeap v m.published m.queue m.floors)
    (step : IsInStep v) (none : v.commits.queue ≡ []) (free : v.job ≡ None) where
  abbrev names : List Head
  names = (s.is_log).names

  chains-are : v.live.chains ≡ map live_of s.l.chains
  chains-are = (at-rest tells v m is s step none free).live.chains

  log-is : s.reading.log ≡ told (chains_told names s.l.chains)
  log-is = ap (λ (r : Reading). r.log) (s.is_log).reading_is

  -- the commits of the chains are no later than the last one
  commits-low : last_commit 0 (chains_told names s.l.chains) ≤ last v.commits
  commits-low =
      let telling = (tells-all (chains_told names s.l.chains) ((s.is_log).rules).each).telling in
      let here = ap told_time log-is in
      let said = last-told tells v m is s step none free in
      let archived = archived-range s.reading m.published m.floors s.stands in
      let order = s.stands.homes.marks in
      let same = last-is v.commits m is.memory in
      omega (arith, telling, here, said, archived, order, same)

  -- where all is archived the front is the whole log
  pub whole-front : v.named.upto ≡ last v.commits → drop (front_count v) v.live.chains ≡ []
  whole-front all =
      let low = commits-low in
      (λ i. drop (front_len v.named.upto (chains-are i)) (chains-are i))
      ∙ drop-map live_of (front_len v.named.upto (map live_of s.l.chains)) s.l.chains
      ∙ ap (map live_of)
      (all-front v.named.upto (reclaimed_by (chains_told names s.l.chains)) 0 [] names s.l.chains ((s.is_log).rules).each (omega (arith, low, all)))

  -- and where nothing was ever committed there is no log
  pub no-log : v.named.upto ≡ 0 → v.named.upto ≡ last v.commits → v.live.chains ≡ []
  no-log naught all =
      let low = commits-low in
      let upto = s.named.upto in
      let archived = ap archive_mark log-is in
      chains-are
      ∙ ap (map live_of) (none-at-all names s.l.chains (s.is_log).rules (omega (arith, naught, upto, archived)) (omega (arith, low, naught, all)))
