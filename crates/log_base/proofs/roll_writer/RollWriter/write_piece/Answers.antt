use Rattle.std.proofs.Common.{◌≡◌, ◌∙◌, ◌+◌, ℕ, List, Result, Ok, Err, length, take, drop, ap, subst, arith, length-take, length-drop}
use Rattle.std.specs.List.{slice_range}
use Rattle.disk.specs.Calls.{Writes}
use Rattle.disk.specs.declared.area.Area.TheVariants.{Archive}
use Rattle.disk.specs.declared.area.DeviceFault.{DeviceFault}
use Rattle.log_base.specs.Rolls.{InRoll}
use Rattle.log_base.proofs.Pieces.{piece-is, piece-rest}
use Rattle.log_base.proofs.roll_writer.RollWriter.write_piece.Goals as goal

pub returns-in-Ok-clause-left : goal.returns-in-Ok-clause-left
returns-in-Ok-clause-left g c =
    let bytes = c.self.inside.bytes.items in
    piece-rest bytes c.self.inside.written c.min.result (omega (arith, c.min.ensures, c.len.ensures))
    ∙ ap (λ (w : InRoll). drop 8192 w.left) c.self.view_is

pub returns-in-Ok-clause-at : goal.returns-in-Ok-clause-at
returns-in-Ok-clause-at g c =
    let bytes = c.self.inside.bytes.items in
    let is = ap (λ (w : InRoll). length w.left) c.self.view_is in
    let at = ap (λ (w : InRoll). w.at) c.self.view_is in
    let len = length-drop c.self.inside.written bytes in
    omega (arith, c.min.ensures, c.len.ensures, at, is, len, length-take 8192 c.args.self.now.left)

pub returns-in-Ok-clause-wrote : goal.returns-in-Ok-clause-wrote
returns-in-Ok-clause-wrote g c = λ told some.
    let bytes = c.self.inside.bytes.items in
    let written = c.self.inside.written in
    let at : c.self.inside.start + written ≡ c.args.self.now.at = ap (λ (w : InRoll). w.at) c.self.view_is in
    let piece : slice_range c.deref.result.now written (written + c.min.result) ≡ take 8192 c.args.self.now.left =
    ap (λ (xs : List ℕ). slice_range xs written (written + c.min.result)) c.deref.ensures.value
    ∙ piece-is bytes written c.min.result (omega (arith, c.min.ensures, c.len.ensures))
    ∙ ap (λ (w : InRoll). take 8192 w.left) c.self.view_is in
    let old = (g.D.Disk.state c.args.disk.now).areas in
    let new = (g.D.Disk.state c.write_at.new.self).areas in
    let made = subst (λ (r : Result (Unit {0}) DeviceFault). Writes Archive (c.self.inside.start + written)
    (slice_range c.deref.result.now written (written + c.min.result)) r old new) c.in-Ok.is (c.write_at.ensures.areas told) in
    subst (λ (n : ℕ). Writes Archive n (take 8192 c.args.self.now.left) (Ok tt) old new) at
    (subst (λ (xs : List ℕ). Writes Archive (c.self.inside.start + written) xs (Ok tt) old new) piece made)

pub returns-in-Err-clause-wrote : goal.returns-in-Err-clause-wrote
returns-in-Err-clause-wrote g c = λ told some.
    let bytes = c.self.inside.bytes.items in
    let written = c.self.inside.written in
    let at : c.self.inside.start + written ≡ c.args.self.now.at = ap (λ (w : InRoll). w.at) c.self.view_is in
    let piece : slice_range c.deref.result.now written (written + c.min.result) ≡ take 8192 c.args.self.now.left =
    ap (λ (xs : List ℕ). slice_range xs written (written + c.min.result)) c.deref.ensures.value
    ∙ piece-is bytes written c.min.result (omega (arith, c.min.ensures, c.len.ensures))
    ∙ ap (λ (w : InRoll). take 8192 w.left) c.self.view_is in
    let old = (g.D.Disk.state c.args.disk.now).areas in
    let new = (g.D.Disk.state c.write_at.new.self).areas in
    let made = subst (λ (r : Result (Unit {0}) DeviceFault). Writes Archive (c.self.inside.start + written)
    (slice_range c.deref.result.now written (written + c.min.result)) r old new) c.in-Err.is (c.write_at.ensures.areas told) in
    subst (λ (n : ℕ). Writes Archive n (take 8192 c.args.self.now.left) (Err c.in-Err.fault) old new) at
    (subst (λ (xs : List ℕ). Writes Archive (c.self.inside.start + written) xs (Err c.in-Err.fault) old new) piece made)
