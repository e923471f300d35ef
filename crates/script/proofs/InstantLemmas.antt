-- Reading an instant's digits is undoing their spelling.
use Rattle.std.proofs.Common.{◌≡◌, ℕ, ◌+◌, ◌-◌, ◌*◌, ◌/◌, ◌%◌, ◌&&◌, Bool, true, false, List, refl, sym, ap, ◌∙◌, Some, None, Result, Ok, Err, arith}
use Rattle.std.specs.Prelude.{IfOk, if◌then◌else◌}
use Rattle.std.specs.Result.{result_ok}
use Rattle.std.specs.Str.{bytes_eq}
use Rattle.std.proofs.lemmas.Slice.Eq.{bytes_eq-Decides}
use Rattle.std.proofs.lemmas.Bool.{and_from, le-leb, leb-true}
use Rattle.clock.specs.Instant.{IsMoment, Spells, instant_of, spelling}
use Rattle.clock.specs.declared.instant.Moment.{Moment}
use Rattle.script.specs.Instants.{instant_in, is_moment, moment_at}

year_back : (y : ℕ) → ((48 + y / 100 / 10 - 48) * 10 + (48 + y / 100 % 10 - 48)) * 100 + ((48 + y % 100 / 10 - 48) * 10 + (48 + y % 100 % 10 - 48)) ≡ y
year_back y = omega arith

part_back : (n : ℕ) → (48 + n / 10 - 48) * 10 + (48 + n % 10 - 48) ≡ n
part_back n = omega arith

same_moment : (m n : Moment) → m.year ≡ n.year → m.month ≡ n.month → m.day ≡ n.day → m.hour ≡ n.hour → m.minute ≡ n.minute → m.second ≡ n.second → m ≡ n
same_moment m n year month day hour minute second =
    ap (λ (y : ℕ). record m { year = y }) year
    ∙ ap (λ (x : ℕ). record m { year = n.year; month = x }) month
    ∙ ap (λ (x : ℕ). record m { year = n.year; month = n.month; day = x }) day
    ∙ ap (λ (x : ℕ). record n { hour = x; minute = m.minute; second = m.second }) hour
    ∙ ap (λ (x : ℕ). record n { minute = x; second = m.second }) minute
    ∙ ap (λ (x : ℕ). record n { second = x }) second

-- what is spelled is read back
moment_at-spelling : (m : Moment) → moment_at (spelling m) ≡ m
moment_at-spelling m = same_moment (moment_at (spelling m)) m (year_back m.year) (part_back m.month) (part_back m.day)
    (part_back m.hour) (part_back m.minute) (part_back m.second)

both : (a b : Bool) → (a && b) ≡ true → (a ≡ true) × (b ≡ true)
both true b e = (refl, e)
both false b e = absurd (cc)

is_moment-true : (m : Moment) → IsMoment m → is_moment m ≡ true
is_moment-true m real =
    and_from _ _ (le-leb _ _ real.year.0) (and_from _ _ (le-leb _ _ real.year.1) (and_from _ _ (le-leb _ _ real.month.0)
    (and_from _ _ (le-leb _ _ real.month.1) (and_from _ _ (le-leb _ _ real.day.0) (and_from _ _ (le-leb _ _ real.day.1)
    (and_from _ _ (le-leb _ _ real.hour) (and_from _ _ (le-leb _ _ real.minute) (le-leb _ _ real.second))))))))

IsMoment-from_test : (m : Moment) → is_moment m ≡ true → IsMoment m
IsMoment-from_test m test =
    let a = both _ _ test in
    let b = both _ _ a.1 in
    let c = both _ _ b.1 in
    let d = both _ _ c.1 in
    let e = both _ _ d.1 in
    let f = both _ _ e.1 in
    let g = both _ _ f.1 in
    let h = both _ _ g.1 in
    record {
      year = (leb-true _ _ a.0, leb-true _ _ b.0);
      month = (leb-true _ _ c.0, leb-true _ _ d.0);
      day = (leb-true _ _ e.0, leb-true _ _ f.0);
      hour = leb-true _ _ g.0;
      minute = leb-true _ _ h.0;
      second = leb-true _ _ h.1;
    }

chosen : (b : Bool) (t : ℕ) → b ≡ true → (if b then Some t else None) ≡ Some t
chosen b t e = rw e refl

left_out : (b : Bool) (t : ℕ) → (b ≡ true → ⊥) → (if b then Some t else None) ≡ None
left_out true t h = absurd (h refl)
left_out false t h = refl

instant_in-some : (text : List ℕ) (t : ℕ) → Spells text t → instant_in text ≡ Some t
instant_in-some text t spells =
    let back : moment_at text ≡ spells.moment = ap moment_at spells.spelled ∙ moment_at-spelling spells.moment in
    chosen _ _ (and_from _ _ (ap is_moment back ∙ is_moment-true spells.moment spells.real)
    ((bytes_eq-Decides text (spelling (moment_at text))).1 (spells.spelled ∙ ap spelling (sym back))))
    ∙ ap (λ (n : ℕ). Some n) (ap instant_of back ∙ sym spells.instant)

instant_in-none : (text : List ℕ) → ((t : ℕ) → Spells text t → ⊥) → instant_in text ≡ None
instant_in-none text none = left_out _ _ (λ e. let parts = both (is_moment (moment_at text)) (bytes_eq text (spelling (moment_at text))) e in
    none (instant_of (moment_at text)) (record {
      moment = moment_at text;
      real = IsMoment-from_test (moment_at text) parts.0;
      spelled = (bytes_eq-Decides text (spelling (moment_at text))).0 parts.1;
      instant = refl;
    }))

pub instant_read : {E : Type 0} (text : List ℕ) (r : Result ℕ E) → IfOk r (Spells text) → ((t : ℕ) → Spells text t → r ≡ Ok t)
    → result_ok r ≡ instant_in text
instant_read text (Ok t) ok only = sym (instant_in-some text t ok)
instant_read text (Err e) ok only = sym (instant_in-none text (λ t spells. let bad = only t spells in cc))
