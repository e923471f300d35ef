-- A key with a value, or with rows, is one that some write set names.
use Rattle.std.proofs.Common.{◌≡◌, ◌≢◌, ℕ, Bool, true, false, cond, List, [], ◌∷◌, ◌++◌, Option, Some, None, refl, ap, arith}
use Rattle.std.specs.Prelude.{Contains, option_map, unwrap_or}
use Rattle.std.specs.List.{cons_option}
use Rattle.std.proofs.lemmas.Bool.Decides.{nat_tests}
use Rattle.std.proofs.lemmas.List.Elements.{Contains-append_left, Contains-append_right}
use Rattle.history.specs.declared.key.Key.{Key}
use Rattle.history.specs.declared.key.KeyWrite.{KeyWrite}
use Rattle.history.specs.declared.time.TimedWrite.{TimedWrite}
use Rattle.history.specs.Key.{same_key, write_in}
use Rattle.history.specs.Time.{value_at}
use Rattle.history.specs.Versions.{versions, rows}
use Rattle.history.specs.Histories.{History, writes_of, state, between}
use Rattle.history.specs.Queries.{seen}
use Rattle.history.proofs.Members.{Contains-head, Contains-tail}

-- the record numbers that a write set names, of any relation
abbrev pub numbers_in : {V : Type 0} → List (KeyWrite V) → List ℕ
numbers_in [] = []
numbers_in (w ∷ ws) = w.key.record ∷ numbers_in ws

-- and those of a history
abbrev pub numbers_of : {V : Type 0} → History V → List ℕ
numbers_of [] = []
numbers_of (c ∷ cs) = numbers_in c.writes ++ numbers_of cs

same-number : (a b : Key) → same_key a b ≡ true → a.record ≡ b.record
same-number a b is = grind (arith, nat_tests)

pub written-in : {V : Type 0} (ws : List (KeyWrite V)) (key : Key) (write : Option V) → write_in ws key ≡ Some write → Contains (numbers_in ws) key.record
written-in {V} [] key write = λ is. absurd (let none : None ≡ Some write = is in cc)
written-in {V} (w ∷ ws) key write =
    let Goal : Bool → Type 0 = λ b. same_key w.key key ≡ b → cond b (Some w.write) (write_in ws key) ≡ Some write → Contains (numbers_in (w ∷ ws)) key.record in
    let all : (b : Bool) → Goal b = λ b. elim b as Goal [
      | true ↦ λ e is. Contains-head w.key.record (numbers_in ws) key.record (same-number w.key key e)
      | false ↦ λ e is. Contains-tail w.key.record (numbers_in ws) key.record (written-in ws key write is)
    ] in
    all (same_key w.key key) refl

pub written-of : {V : Type 0} (h : History V) (key : Key) → writes_of h key ≢ [] → Contains (numbers_of h) key.record
written-of [] key = λ some. absurd (some refl)
written-of {V} (c ∷ cs) key =
    let Goal : Option (Option V) → Type 0 =
    λ o. write_in c.writes key ≡ o → cons_option (option_map (λ write. record { time = c.time; write = write }) o) (writes_of cs key) ≢ []
    → Contains (numbers_of (c ∷ cs)) key.record in
    let all : (o : Option (Option V)) → Goal o = λ o. elim o as Goal [
      | None ↦ λ e some. Contains-append_right (numbers_in c.writes) (numbers_of cs) key.record (written-of cs key some)
      | Some write ↦ λ e some. Contains-append_left (numbers_in c.writes) (numbers_of cs) key.record (written-in c.writes key write e)
    ] in
    all (write_in c.writes key) refl

pub state-written : {V : Type 0} (h : History V) (time : ℕ) (key : Key) (value : V) → state h time key ≡ Some value → Contains (numbers_of h) key.record
state-written {V} h time key value is = written-of h key (λ empty.
    let gone : state h time key ≡ None = ap (λ (ws : List (TimedWrite V)). value_at ws time) empty in cc)

pub between-written : {V : Type 0} (h : History V) (key : Key) (a b : ℕ) → between h key a b ≢ [] → Contains (numbers_of h) key.record
between-written {V} h key a b some = written-of h key (λ empty. some (ap (λ (ws : List (TimedWrite V)). rows (versions ws) a b) empty))

pub seen-written : {V : Type 0} (h : History V) (snapshot : ℕ) (writes : List (KeyWrite V)) (key : Key) (value : V) → seen h snapshot writes key ≡ Some value
    → Contains (numbers_in writes ++ numbers_of h) key.record
seen-written {V} h snapshot writes key value =
    let Goal : Option (Option V) → Type 0 =
    λ o. write_in writes key ≡ o → unwrap_or o (state h snapshot key) ≡ Some value → Contains (numbers_in writes ++ numbers_of h) key.record in
    let all : (o : Option (Option V)) → Goal o = λ o. elim o as Goal [
      | None ↦ λ e is. Contains-append_right (numbers_in writes) (numbers_of h) key.record (state-written h snapshot key value is)
      | Some write ↦ λ e is. Contains-append_left (numbers_in writes) (numbers_of h) key.record (written-in writes key write e)
    ] in
    all (write_in writes key) refl
