use Rattle.std.proofs.Common.{◌≡◌, ℕ, ◌++◌, ◌∷◌, [], List, map, refl, sym, ◌∙◌, ap, subst}
use Rattle.std.specs.List.{AllByRecursion}
use Rattle.std.proofs.lemmas.List.{append_assoc}
use Rattle.law_image.specs.Log.{AreRisingAfter, last_time_after}
use Rattle.law_image.specs.Facts.{AreStored}
use Rattle.law_image.specs.Reading.{Member}
use Rattle.recovery.proofs.AnchorChains.{none_left}
use Rattle.log_extents.specs.Chains.{first_or}
use Rattle.log_entries.specs.Ranges.{IsEntry}
use Rattle.law_log_layout.specs.HeapLog.{PlacedChain}
use Rattle.log_sizes.specs.Counted.{AreSizesBehind}
use Rattle.log_recovery.specs.Live.{LiveChainValue, part_of, live_of}
use Rattle.log_recovery.specs.Members.{later_of, later_in, heads_told, members_of_all, values_behind, values_of, HasFacts, FailsMembers, AreWritesOf}
use Rattle.log_recovery.proofs.Groups.{AreUnderWay, chains_start, chain_more, chain_fails, chains_end, rise_in_turn}
use Rattle.log_recovery.proofs.Counting.{IsCountedUpto, counts_start, count_goes_on, count_ends}
use Rattle.log_recovery.proofs.members.read_members.Goals as goal

pub loop-chain-init : goal.loop-chain-init
loop-chain-init c =
    let mark = c.args.mark in
    let all = c.args.chains.items in
    let is : all ≡ c.into_iter-chain-iterator.result.rest.items = sym c.into_iter-chain-iterator.ensures.into_iter_gives.0 in (
      (c.requires.entries.0, subst (AllByRecursion (λ (d : PlacedChain). IsEntry c.requires.entries.0 d.entry)) is c.requires.entries.1),
      subst (λ (l : List PlacedChain). AreRisingAfter c.behind-read.result.last (heads_told (members_of_all mark l))) is
          (subst (λ (n : ℕ). AreRisingAfter n (heads_told (members_of_all mark all))) (sym c.behind-read.ensures.last) c.requires.rising),
      ap (λ (l : List LiveChainValue). l ++ map live_of c.into_iter-chain-iterator.result.rest.items) c.new-live.ensures.items ∙ ap (map live_of) (sym is),
      λ olds writes. subst (λ (l : List PlacedChain). AreUnderWay mark olds all l c.behind-read.result) is
          (chains_start mark olds all c.behind-read.result (subst (AreWritesOf olds) (sym c.behind-read.ensures.versions) writes) c.behind-read.ensures.commits
          c.behind-read.ensures.last),
      λ olds writes len_is. subst (λ (l : List PlacedChain). IsCountedUpto mark olds [] (members_of_all mark all)
          (members_of_all mark l) c.behind-read.result) is
          (counts_start mark c.args.len olds all c.behind-read.result (subst (AreWritesOf olds) (sym c.behind-read.ensures.versions) writes)
          c.behind-read.ensures.commits c.behind-read.ensures.last len_is c.behind-read.ensures.sizes),
    )

pub with_group-requires-clause-rising : goal.with_group-requires-clause-rising
with_group-requires-clause-rising c =
    let mark = c.args.mark in
    let last = c.loop-chain.read.last in
    let later_is : later_of mark c.take_apart-members.result.members.items ≡ later_in mark c.in-Some.chain.entry =
    c.take_apart-members.ensures.members mark ∙ ap (later_in mark) (ap (λ (x : PlacedChain). x.entry) c.chain.view_is) in
    let rising = subst (λ (l : List PlacedChain). AreRisingAfter last (heads_told (members_of_all mark l))) c.in-Some.ensures.steps.0
    c.loop-chain.invariant.1 in
    subst (λ (l : List Member). AreRisingAfter last (heads_told l)) (sym later_is)
    (rise_in_turn mark last c.in-Some.chain c.next.new.self.rest.items rising).first

pub returns-in_default-clause-fault : goal.returns-in_default-clause-fault
returns-in_default-clause-fault c = λ olds writes.
    let mark = c.args.mark in
    let all = c.args.chains.items in
    let left = c.next.new.self.rest.items in
    let later_is : later_of mark c.take_apart-members.result.members.items ≡ later_in mark c.in-Some.chain.entry =
    c.take_apart-members.ensures.members mark ∙ ap (later_in mark) (ap (λ (x : PlacedChain). x.entry) c.chain.view_is) in
    let numbers_are : c.in-Some.chain.numbers ≡ c.chain.inside.numbers.items = sym (ap (λ (x : PlacedChain). x.numbers) c.chain.view_is) in
    let w = subst (λ (l : List PlacedChain). AreUnderWay mark olds all l c.loop-chain.read) c.in-Some.ensures.steps.0 (c.loop-chain.invariant.3 olds writes) in
    let none = rw c.in_default.is at c.in_ok-next.ensures.read olds w.done w.facts in
    let fails = chain_fails mark olds all left c.in-Some.chain c.loop-chain.read w
    (subst (λ (l : List Member). ¬ AreStored (values_behind (values_of olds) w.done) l) later_is none) in
    subst (FailsMembers mark (values_of olds) all)
    (sym (c.from.ensures ∙ c.head_of.ensures ∙ ap (first_or 0) (c.deref.ensures.value ∙ sym numbers_are))) fails

pub loop-chain-preserved : goal.loop-chain-preserved
loop-chain-preserved c =
    let mark = c.args.mark in
    let all = c.args.chains.items in
    let left = c.next.new.self.rest.items in
    let last = c.loop-chain.read.last in
    let first = c.in-Some.ensures.steps.0 in
    let later : List Member = later_of mark c.take_apart-members.result.members.items in
    let later_is : later ≡ later_in mark c.in-Some.chain.entry =
    c.take_apart-members.ensures.members mark ∙ ap (later_in mark) (ap (λ (x : PlacedChain). x.entry) c.chain.view_is) in
    let placed = subst (AllByRecursion (λ (d : PlacedChain). IsEntry c.loop-chain.invariant.0.0 d.entry)) first c.loop-chain.invariant.0.1 in
    let rising = subst (λ (l : List PlacedChain). AreRisingAfter last (heads_told (members_of_all mark l))) first c.loop-chain.invariant.1 in
    let turn = rise_in_turn mark last c.in-Some.chain left rising in
    let next_last : c.in-Some-2.next.last ≡ last_time_after last (heads_told later) = rw c.in-Some-2.is at c.in_ok-next.ensures.last in
    let last_is : c.in-Some-2.next.last ≡ last_time_after last (heads_told (later_in mark c.in-Some.chain.entry)) =
    next_last ∙ ap (λ (l : List Member). last_time_after last (heads_told l)) later_is in
    let part_is : c.take_apart-members.result.part ≡ part_of c.in-Some.chain.entry =
    c.take_apart-members.ensures.part ∙ ap part_of (ap (λ (x : PlacedChain). x.entry) c.chain.view_is) in
    let numbers_are : c.chain.inside.numbers.items ≡ c.in-Some.chain.numbers = ap (λ (x : PlacedChain). x.numbers) c.chain.view_is in
    let one : Path LiveChainValue (record { numbers = c.chain.inside.numbers.items; part = c.take_apart-members.result.part }) (live_of c.in-Some.chain) =
    λ i. record { numbers = numbers_are i; part = part_is i } in (
      (c.loop-chain.invariant.0.0, placed.1),
      subst (λ (n : ℕ). AreRisingAfter n (heads_told (members_of_all mark left))) (sym last_is) turn.others,
      ap (λ (l : List LiveChainValue). l ++ map live_of left) c.in_ok-push.ensures.items
          ∙ append_assoc c.loop-chain.live.items _ (map live_of left)
          ∙ ap (λ (x : LiveChainValue). c.loop-chain.live.items ++ x ∷ map live_of left) one
          ∙ ap (λ (l : List PlacedChain). c.loop-chain.live.items ++ map live_of l) (sym first)
          ∙ c.loop-chain.invariant.2,
      λ olds writes.
          let w = subst (λ (l : List PlacedChain). AreUnderWay mark olds all l c.loop-chain.read) first (c.loop-chain.invariant.3 olds writes) in
          let found = rw c.in-Some-2.is at c.in_ok-next.ensures.read olds w.done w.facts in
          let same = subst (λ (l : List Member). AreStored (values_behind (values_of olds) w.done) l
          × HasFacts mark olds (w.done ++ l) c.in-Some-2.next) later_is found in
          chain_more mark olds all left c.in-Some.chain c.loop-chain.read c.in-Some-2.next w same.0 same.1,
      λ olds writes len_is.
          let w = subst (λ (l : List PlacedChain). IsCountedUpto mark olds [] (members_of_all mark all) (members_of_all mark l) c.loop-chain.read) first
          (c.loop-chain.invariant.4 olds writes len_is) in
          let found = rw c.in-Some-2.is at c.in_ok-next.ensures.read olds w.done w.facts in
          let sizes = rw c.in-Some-2.is at c.in_ok-next.ensures.sizes olds w.done w.facts w.sizes in
          count_goes_on mark olds [] (members_of_all mark all) (later_in mark c.in-Some.chain.entry)
          (members_of_all mark left) c.loop-chain.read c.in-Some-2.next w
          (subst (λ (l : List Member). HasFacts mark olds (w.done ++ l) c.in-Some-2.next) later_is found.1)
          (subst (λ (l : List Member). AreSizesBehind olds (w.done ++ l) c.in-Some-2.next.sizes) later_is sizes),
    )

pub returns-clause-read : goal.returns-clause-read
returns-clause-read c = λ olds writes.
    let nothing = none_left c.loop-chain.chain-iterator.rest.items (sym c.loop-chain.chain-iterator.rest.ok.0 ∙ c.in-None.ensures.steps.0) in
    let read = chains_end c.args.mark olds c.args.chains.items c.loop-chain.chain-iterator.rest.items c.loop-chain.read
    (c.loop-chain.invariant.3 olds writes) nothing in
    (read.stored, read.facts)

pub returns-clause-sizes : goal.returns-clause-sizes
returns-clause-sizes c = λ olds writes len_is.
    let mark = c.args.mark in
    let nothing = none_left c.loop-chain.chain-iterator.rest.items (sym c.loop-chain.chain-iterator.rest.ok.0 ∙ c.in-None.ensures.steps.0) in
    count_ends mark olds [] (members_of_all mark c.args.chains.items) (members_of_all mark c.loop-chain.chain-iterator.rest.items) c.loop-chain.read
    (c.loop-chain.invariant.4 olds writes len_is) (ap (members_of_all mark) nothing)

pub take_apart-members-requires : goal.take_apart-members-requires
take_apart-members-requires c =
    let each = subst (AllByRecursion (λ (d : PlacedChain). IsEntry c.loop-chain.invariant.0.0 d.entry)) c.in-Some.ensures.steps.0 c.loop-chain.invariant.0.1 in
    (c.loop-chain.invariant.0.0, subst (IsEntry c.loop-chain.invariant.0.0) (sym (ap (λ (x : PlacedChain). x.entry) c.chain.view_is)) each.0)
