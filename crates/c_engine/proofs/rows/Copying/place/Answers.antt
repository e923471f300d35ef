use Rattle.std.proofs.Common.{◌≡◌, ◌∙◌, ◌<◌, ◌≤◌, ap, sym, min, length, take, List, [], ◌∷◌, ◌++◌, ℕ, arith}
use Rattle.std.proofs.lemmas.List.{take_more_set, length-take}
use Rattle.wire.specs.Values.{value_bytes}
use Rattle.c_engine.specs.Rows.{row_at, shown_as}
use Rattle.c_engine.proofs.Laid.{put_behind}
use Rattle.c_engine.proofs.rows.Copying.place.Goals as goal

pub returns-in-Some-clause-placed : goal.returns-in-Some-clause-placed
returns-in-Some-clause-placed c = λ yes.
    let it = c.args.self.now in
    let bytes : List ℕ = value_bytes c.args.value.now in
    let few : it.rows < length c.args.rows.now = omega (arith, c.if-self-rows.false) in
    let within : it.bytes ≤ length c.args.out.now = omega (arith, c.if-self-out.false) in
    let len : c.in-Some.len ≡ length bytes = c.in-Some.ensures.copied.0 in
    let is : take c.in-Some.len c.copy_out.new.out ≡ bytes = c.in-Some.ensures.copied.1 in
    record {
      row_is =
          take_more_set c.args.rows.now it.rows _ few
          ∙ ap (λ (n : ℕ). take it.rows c.args.rows.now ++ record (row_at it.bytes (shown_as c.args.row c.args.value.now)) { len = n } ∷ []) len;
      value_is =
          let long : length bytes ≡ min c.in-Some.len (length c.copy_out.new.out) =
          ap (λ (l : List ℕ). length l) (sym is) ∙ length-take c.in-Some.len c.copy_out.new.out in
          let room : length bytes ≤ length c.copy_out.new.out = omega (arith, long) in
          put_behind it.bytes _ c.args.out.now c.copy_out.new.out bytes within room (ap (λ (n : ℕ). take n c.copy_out.new.out) (sym len) ∙ is);
    }
