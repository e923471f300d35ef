-- The names in memory and those of the commit order.
use Rattle.std.proofs.Common.{◌≡◌, ℕ, suc, ◌+◌, ◌≤◌, max, List, [], ◌∷◌, ◌++◌, length, take, drop, map, refl, arith, ap, sym, subst, ◌∙◌, ⊎_elim}
use Rattle.std.specs.Prelude.{Contains}
use Rattle.std.specs.List.{AllByRecursion}
use Rattle.std.proofs.lemmas.Bool.Decides.{nat_tests}
use Rattle.std.proofs.lemmas.List.{map-append}
use Rattle.history.specs.Histories.{History, last, last_after}
use Rattle.history.specs.Machine.{Machine, commit_order, IsMachine}
use Rattle.history.proofs.Members.{Contains-cons_cases, Contains-nil}
use Rattle.law_image.specs.Values.{Value, IsValue}
use Rattle.group.specs.CommitOrder.{last_time, last_time_after}
use Rattle.group.specs.declared.commit_order.CommitHead.{CommitHead}
use Rattle.commits.specs.Values.{CommitsValue, last_assigned}
use Rattle.commits.specs.Values as commits
use Rattle.law_refinement.specs.Standing.{Name, name_of, name_at}
use Rattle.law_refinement.proofs.Names.{front-named}
use Rattle.law_commits.specs.Standing.{HasNames, StandsInMemory}
use Rattle.law_commits.proofs.Order.{order-has}

-- ---- lists of names

abbrev pub AllUpto : ℕ → List Name → Type 0
AllUpto mark ns = AllByRecursion (λ (name : Name). name.time ≤ mark) ns

abbrev pub AllAmong : List Name → List Name → Type 0
AllAmong before ns = AllByRecursion (λ (name : Name). Contains before name) ns

one-upto : (mark : ℕ) (ns : List Name) (name : Name) → AllUpto mark ns → Contains ns name → name.time ≤ mark
one-upto mark [] name all has = absurd (Contains-nil name has)
one-upto mark (n ∷ ns) name all has =
    ⊎_elim (λ (is : n ≡ name). subst (λ (x : Name). x.time ≤ mark) is all.0) (λ (more : Contains ns name). one-upto mark ns name all.1 more)
    (Contains-cons_cases n ns name has)

-- what is among names that are at most a mark is so too
pub among-upto : (mark : ℕ) (before ns : List Name) → AllUpto mark before → AllAmong before ns → AllUpto mark ns
among-upto mark before [] all among = tt
among-upto mark before (n ∷ ns) all among = (one-upto mark before n all among.0, among-upto mark before ns all among.1)

-- the time of the last of them, or what it was before
last_name : ℕ → List Name → ℕ
last_name t [] = t
last_name t (n ∷ ns) = last_name n.time ns

of-history : (t : ℕ) (h : History Value) → last_after t h ≡ last_name t (map name_of h)
unfolding last_name
of-history t [] = refl
of-history t (c ∷ cs) = of-history c.time cs

of-heads : (t : ℕ) (heads : List CommitHead) → last_time_after t heads ≡ last_name t (map name_at heads)
unfolding last_name
of-heads t [] = refl
of-heads t (x ∷ xs) = of-heads x.time xs

last-both : (t : ℕ) (xs ys : List Name) → last_name t (xs ++ ys) ≡ last_name (last_name t xs) ys
unfolding last_name
last-both t [] ys = refl
last-both t (x ∷ xs) ys = last-both x.time xs ys

last-upto : (mark t : ℕ) (ns : List Name) → t ≤ mark → AllUpto mark ns → last_name t ns ≤ mark
unfolding last_name
last-upto mark t [] low all = low
last-upto mark t (n ∷ ns) low all = last-upto mark n.time ns all.0 all.1

-- with what went before at most a mark, and the last one not before it
last-max : (mark a b : ℕ) (ns : List Name) → a ≤ mark → b ≤ mark → mark ≤ last_name a ns → max mark (last_name b ns) ≡ last_name a ns
unfolding last_name
last-max mark a b [] low also reached = grind (arith, nat_tests)
last-max mark a b (n ∷ ns) low also reached = greater (last_name n.time ns) reached
  where
    greater : (x : ℕ) → mark ≤ x → max mark x ≡ x
    greater x le = grind (arith, nat_tests)

-- ---- heads behind names that left memory

-- the time of the last of the heads, or the mark where that is later, is that of the history
held-last : (mark : ℕ) (before : List Name) (kept late : List CommitHead) (h : History Value) → AllUpto mark before → AllAmong before (map name_at kept)
    → before ++ map name_at late ≡ map name_of h → mark ≤ last h → max mark (last_time (kept ++ late)) ≡ last h
held-last mark before kept late h early among named reached =
    let low = last-upto mark 0 before (omega arith) early in
    let also = last-upto mark 0 (map name_at kept) (omega arith) (among-upto mark before (map name_at kept) early among) in
    let whole : last h ≡ last_name (last_name 0 before) (map name_at late) =
    of-history 0 h ∙ ap (last_name 0) (sym named) ∙ last-both 0 before (map name_at late) in
    let heads : last_time (kept ++ late) ≡ last_name (last_name 0 (map name_at kept)) (map name_at late) =
    of-heads 0 (kept ++ late) ∙ ap (last_name 0) (map-append name_at kept late) ∙ last-both 0 (map name_at kept) (map name_at late) in
    ap (max mark) heads
    ∙ last-max mark (last_name 0 before) (last_name 0 (map name_at kept)) (map name_at late) low also (subst (λ (n : ℕ). mark ≤ n) whole reached)
    ∙ sym whole

-- the first of the heads are the kept ones, and so many more
pub take-both : {X : Type 0} (xs ys : List X) (n : ℕ) → take (length xs + n) (xs ++ ys) ≡ xs ++ take n ys
take-both [] ys n = let same : 0 + n ≡ n = omega arith in ap (λ (k : ℕ). take k ys) same
take-both (x ∷ xs) ys n =
    let moved : length (x ∷ xs) + n ≡ suc (length xs + n) = omega arith in
    ap (λ (k : ℕ). take k (x ∷ (xs ++ ys))) moved ∙ ap (λ l. x ∷ l) (take-both xs ys n)

pub drop-both : {X : Type 0} (xs ys : List X) (n : ℕ) → drop (length xs + n) (xs ++ ys) ≡ drop n ys
drop-both [] ys n = let same : 0 + n ≡ n = omega arith in ap (λ (k : ℕ). drop k ys) same
drop-both (x ∷ xs) ys n =
    let moved : length (x ∷ xs) + n ≡ suc (length xs + n) = omega arith in
    ap (λ (k : ℕ). drop k (x ∷ (xs ++ ys))) moved ∙ drop-both xs ys n

-- the names of the first commits
pub front-names : (before : List Name) (late : List CommitHead) (count : ℕ) (h later : History Value) → before ++ map name_at late ≡ map name_of (h ++ later)
    → length before + count ≡ length h → before ++ map name_at (take count late) ≡ map name_of h
front-names [] late count h later same many =
    let size : count ≡ length h = omega (arith, many) in ap (λ (n : ℕ). map name_at (take n late)) size ∙ front-named late h later same
front-names (b ∷ bs) late count [] later same many = absurd (omega (arith, many))
front-names (b ∷ bs) late count (c ∷ cs) later same many =
    let first : b ≡ name_of c = cc in
    let rest : bs ++ map name_at late ≡ map name_of (cs ++ later) = cc in
    let more = front-names bs late count cs later rest (omega (arith, many)) in
    ap (λ (n : Name). n ∷ (bs ++ map name_at (take count late))) first ∙ ap (λ (ns : List Name). name_of c ∷ ns) more

-- and those of the rest
back-named : (heads : List CommitHead) (h later : History Value) → map name_at heads ≡ map name_of (h ++ later) → map name_at (drop (length h) heads)
    ≡ map name_of later
back-named heads [] later same = same
back-named [] (c ∷ cs) later same = absurd cc
back-named (x ∷ xs) (c ∷ cs) later same =
    let rest : map name_at xs ≡ map name_of (cs ++ later) = cc in back-named xs cs later rest

pub back-names : (before : List Name) (late : List CommitHead) (count : ℕ) (h later : History Value) → before ++ map name_at late ≡ map name_of (h ++ later)
    → length before + count ≡ length h → map name_at (drop count late) ≡ map name_of later
back-names [] late count h later same many =
    let size : count ≡ length h = omega (arith, many) in ap (λ (n : ℕ). map name_at (drop n late)) size ∙ back-named late h later same
back-names (b ∷ bs) late count [] later same many = absurd (omega (arith, many))
back-names (b ∷ bs) late count (c ∷ cs) later same many =
    let rest : bs ++ map name_at late ≡ map name_of (cs ++ later) = cc in back-names bs late count cs later rest (omega (arith, many))

-- ---- the last times of a store

-- the published heads
pub published-heads : (v : CommitsValue) (m : Machine Value) (n : HasNames v.reclaimed v.heads v.published m.published m.queue) → take v.published v.heads
    ≡ n.kept ++ take n.count n.late
published-heads v m n =
    ap (λ (k : ℕ). take k v.heads) n.published_are
    ∙ ap (λ (heads : List CommitHead). take (length n.kept + n.count) heads) n.heads_are
    ∙ take-both n.kept n.late n.count

pub waiting-heads : (v : CommitsValue) (m : Machine Value) (n : HasNames v.reclaimed v.heads v.published m.published m.queue) → drop v.published v.heads
    ≡ drop n.count n.late
waiting-heads v m n =
    ap (λ (k : ℕ). drop k v.heads) n.published_are
    ∙ ap (λ (heads : List CommitHead). drop (length n.kept + n.count) heads) n.heads_are
    ∙ drop-both n.kept n.late n.count

pub last-is : (v : CommitsValue) (m : Machine Value) → StandsInMemory v m → commits.last v ≡ last m.published
last-is v m stands =
    let n = stands.names in
    ap (λ (heads : List CommitHead). max v.reclaimed (last_time heads)) (published-heads v m n)
    ∙ held-last v.reclaimed n.before n.kept (take n.count n.late) m.published n.early n.kept_of (front-names n.before n.late n.count m.published m.queue n.names
    n.many) stands.versions.marked

pub assigned-is : (v : CommitsValue) (m : Machine Value) → StandsInMemory v m → IsMachine IsValue m → last_assigned v ≡ last (commit_order m)
assigned-is v m stands machine =
    let n = stands.names in
    ap (λ (heads : List CommitHead). max v.reclaimed (last_time heads)) n.heads_are
    ∙ held-last v.reclaimed n.before n.kept n.late (commit_order m) n.early n.kept_of n.names (order-has v m stands machine).marked
