-- Worked runs of the machine and answers of queries, computed.
use Rattle.std.proofs.Common.{◌≡◌, ℕ, ◌^◌, ◌-◌, List, [], ◌∷◌, Some, None, refl}
use Rattle.std.specs.Prelude.{Ok, Err}
use Rattle.history.specs.declared.key.Key.{Key}
use Rattle.history.specs.declared.key.KeyWrite.{KeyWrite}
use Rattle.history.specs.Key.{key_of}
use Rattle.history.specs.Floors.{Raising}
use Rattle.history.specs.Histories.{Commit, History}
use Rattle.history.specs.Queries.{seen}
use Rattle.history.specs.Machine.{Machine, opened}
use Rattle.history.specs.Submissions.{Submission, Reads, Conflicts, Ends, Queues, decision}
use Rattle.history.specs.Answers.{BeforeKept, NotYet, EmptyInterval, at_answer, between_answer, Done, Waiting, InDoubt, redeemed_by, times_of}
use Rattle.history.specs.FloorStarts.{NothingToDo, InUse, floor_refusal}
use Rattle.history.specs.FloorStarts as starts
use Rattle.history.specs.Steps.{decided, grouped, group_published, broken}

-- values are letters
abbrev seven : Key
seven = key_of 1 7

abbrev put : ℕ → ℕ → KeyWrite ℕ
put number letter = record { key = key_of 1 number; write = Some letter }

abbrev gone : ℕ → KeyWrite ℕ
gone number = record { key = key_of 1 number; write = None }

abbrev commit : ℕ → ℕ → KeyWrite ℕ → Commit ℕ
commit time label write = record { time = time; label = label; writes = write ∷ [] }

-- a at 100, b at 110, gone at 120, c at 130
abbrev four : History ℕ
four = commit 100 1 (put 7 97) ∷ commit 110 2 (put 7 98) ∷ commit 120 3 (gone 7) ∷ commit 130 4 (put 7 99) ∷ []

abbrev unfloored : ℕ → ℕ
unfloored relation = 0

abbrev new_store : Machine ℕ
new_store = opened [] unfloored

abbrev submission : ℕ → ℕ → ℕ → List (KeyWrite ℕ) → Submission ℕ
submission snapshot label now writes = record { snapshot = snapshot; label = label; now = now; writes = writes }

-- ---- times of commits

-- two commits on a new store, both at 100: times 100 and 101, and after them one at 50: time 102
abbrev one_queued : Machine ℕ
one_queued = decided new_store (decision new_store (submission 0 1 100 (put 7 97 ∷ [])))

abbrev two_queued : Machine ℕ
two_queued = decided one_queued (decision one_queued (submission 0 2 100 (put 8 98 ∷ [])))

first_time : decision new_store (submission 0 1 100 (put 7 97 ∷ [])) ≡ Queues (commit 100 1 (put 7 97))
first_time = refl

second_time : decision one_queued (submission 0 2 100 (put 8 98 ∷ [])) ≡ Queues (commit 101 2 (put 8 98))
second_time = refl

third_time : decision two_queued (submission 0 3 50 (put 9 99 ∷ [])) ≡ Queues (commit 102 3 (put 9 99))
third_time = refl

-- a time beyond the last one ends the clock
no_time : decision new_store (submission 0 1 (2 ^ 63) (put 7 97 ∷ [])) ≡ Ends
no_time = refl

last_time : decision new_store (submission 0 1 (2 ^ 63 - 1) (put 7 97 ∷ [])) ≡ Queues (commit (2 ^ 63 - 1) 1 (put 7 97))
last_time = refl

nothing_written : decision two_queued (submission 0 3 50 []) ≡ Reads
nothing_written = refl

-- ---- conflicts

-- two transactions begin at 130 and put one key: the first is queued, and the second conflicts before anything is published
abbrev queued : Machine ℕ
queued = decided (opened four unfloored) (decision (opened four unfloored) (submission 130 5 140 (put 7 100 ∷ [])))

first_wins : decision queued (submission 130 6 140 (put 7 101 ∷ [])) ≡ Conflicts seven
first_wins = refl

-- of the keys 3, 7 and 9 the last two were written later: the conflict is on the least of them
least_wins : decision (opened four unfloored) (submission 105 6 140 (put 3 97 ∷ put 7 97 ∷ put 9 97 ∷ [])) ≡ Conflicts seven
least_wins = refl

-- of two transactions that read each other's keys and write their own, both commit
skewed : decision queued (submission 130 6 140 (put 8 97 ∷ [])) ≡ Queues (commit 141 6 (put 8 97))
skewed = refl

-- ---- what a transaction sees

-- of records 3 and 7 in its snapshot, one that puts 5 and deletes 7 sees 3 and 5
abbrev three_and_seven : History ℕ
three_and_seven = record { time = 100; label = 1; writes = put 3 120 ∷ put 7 97 ∷ [] } ∷ []

sees_three : seen three_and_seven 100 (put 5 98 ∷ gone 7 ∷ []) (key_of 1 3) ≡ Some 120
sees_three = refl

sees_five : seen three_and_seven 100 (put 5 98 ∷ gone 7 ∷ []) (key_of 1 5) ≡ Some 98
sees_five = refl

not_seven : seen three_and_seven 100 (put 5 98 ∷ gone 7 ∷ []) seven ≡ None
not_seven = refl

-- ---- tickets

waits : redeemed_by queued 140 ≡ Waiting
waits = refl

done : redeemed_by (group_published (grouped queued)) 140 ≡ Done 140
done = refl

in_doubt : redeemed_by (broken (grouped queued)) 140 ≡ InDoubt
in_doubt = refl

labelled : times_of four 3 ≡ 120 ∷ []
labelled = refl

-- ---- queries

in_between : between_answer four unfloored seven 105 115 ≡ Ok (record { from = 105; to = 110; value = 97 } ∷ record { from = 110; to = 115; value = 98 } ∷ [])
in_between = refl

nothing_between : between_answer four unfloored seven 120 130 ≡ Ok []
nothing_between = refl

no_interval : between_answer four unfloored seven 110 110 ≡ Err EmptyInterval
no_interval = refl

too_late : between_answer four unfloored seven 100 132 ≡ Err (NotYet 130)
too_late = refl

later_first : between_answer four unfloored seven 140 140 ≡ Err (NotYet 130)
later_first = refl

-- with the floor 120
abbrev floored : ℕ → ℕ
floored relation = 120

before_kept : at_answer four floored seven 119 ≡ Err (BeforeKept 120)
before_kept = refl

none_at_floor : at_answer four floored seven 120 ≡ Ok None
none_at_floor = refl

at_last : at_answer four floored seven 130 ≡ Ok (Some 99)
at_last = refl

after_last : at_answer four floored seven 131 ≡ Err (NotYet 130)
after_last = refl

-- ---- floors

abbrev raise_to : ℕ → Raising
raise_to floor = record { scope = None; floor = floor }

abbrev reading_at_110 : Machine ℕ
reading_at_110 = record (opened four unfloored) { snapshots = 130 ∷ 110 ∷ [] }

in_use : floor_refusal reading_at_110 (raise_to 120) ≡ Some (InUse 110)
in_use = refl

starts_at_110 : floor_refusal reading_at_110 (raise_to 110) ≡ None
starts_at_110 = refl

nothing_to_do : floor_refusal (opened four floored) (raise_to 120) ≡ Some NothingToDo
nothing_to_do = refl

later_than_last : floor_refusal (opened four floored) (raise_to 131) ≡ Some (starts.NotYet 130)
later_than_last = refl
