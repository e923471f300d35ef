use Rattle.std.proofs.lemmas.Grind.{common_steps}
use Rattle.std.proofs.Common.{◌≡◌, ◌∙◌, ◌-◌, ℕ, List, min, length, take, drop, ap, subst, arith, length-take, length-drop}
use Rattle.std.specs.List.{slice_range}
use Rattle.disk.specs.Calls.{Writes}
use Rattle.disk.specs.declared.area.Area.TheVariants.{Archive}
use Rattle.archive.specs.Pieces.{InWriting, rest_of, chunks_left}
use Rattle.archive.proofs.Joining.{front_is, rest_is}
use Rattle.archive.proofs.writer.RunWriter.write_piece.Goals as goal

pub returns-clause-left : goal.returns-clause-left
returns-clause-left g c =
    let packer = c.self.inside.packer in
    let all = rest_of packer.skip (chunks_left packer.chunks.place (g.W.RecordWalk.all packer.chunks.walk) (g.W.RecordWalk.left packer.chunks.walk)) in
    let is : all ≡ c.args.self.now.left = ap (λ (w : InWriting). w.left) c.self.view_is in
    let from = c.fill-from.result.0 in
    let n = c.fill-from.result.1 - from in
    let out = c.fill-from.new.out in
    let count : n ≡ min 8192 (length all) = omega (arith, c.fill-from.ensures.full) in
    let size : length (slice_range out from c.fill-from.result.1) ≡ n =
    omega (arith, length-take n (drop from out), length-drop from out, c.fill-from.array_long, c.fill-from.ensures.within) in
    rest_is all (slice_range out from c.fill-from.result.1) _ n c.fill-from.ensures.joined count size ∙ ap (λ (xs : List ℕ). drop 8192 xs) is

pub returns-clause-at : goal.returns-clause-at
returns-clause-at g c =
    let packer = c.self.inside.packer in
    let all = rest_of packer.skip (chunks_left packer.chunks.place (g.W.RecordWalk.all packer.chunks.walk) (g.W.RecordWalk.left packer.chunks.walk)) in
    let is : all ≡ c.args.self.now.left = ap (λ (w : InWriting). w.left) c.self.view_is in
    let at : c.self.inside.at ≡ c.args.self.now.at = ap (λ (w : InWriting). w.at) c.self.view_is in
    omega (arith, c.fill-from.ensures.full, at, length-take 8192 c.args.self.now.left, ap length is)

pub returns-clause-wrote : goal.returns-clause-wrote
returns-clause-wrote g c = λ told some.
    let packer = c.self.inside.packer in
    let all = rest_of packer.skip (chunks_left packer.chunks.place (g.W.RecordWalk.all packer.chunks.walk) (g.W.RecordWalk.left packer.chunks.walk)) in
    let is : all ≡ c.args.self.now.left = ap (λ (w : InWriting). w.left) c.self.view_is in
    let at : c.self.inside.at ≡ c.args.self.now.at = ap (λ (w : InWriting). w.at) c.self.view_is in
    let from = c.fill-from.result.0 in
    let n = c.fill-from.result.1 - from in
    let out = c.fill-from.new.out in
    let count : n ≡ min 8192 (length all) = omega (arith, c.fill-from.ensures.full) in
    let size : length (slice_range out from c.fill-from.result.1) ≡ n =
    omega (arith, length-take n (drop from out), length-drop from out, c.fill-from.array_long, c.fill-from.ensures.within) in
    let front = front_is all (slice_range out from c.fill-from.result.1) _ n c.fill-from.ensures.joined count size ∙ ap (λ (xs : List ℕ). take 8192 xs) is in
    let wrote =
    subst (λ (xs : List ℕ). Writes Archive c.self.inside.at xs c.write_at.result (g.D.Disk.state c.args.disk.now).areas
    (g.D.Disk.state c.write_at.new.self).areas) front (c.write_at.ensures.areas told) in
    subst (λ (n : ℕ). Writes Archive n (take 8192 c.args.self.now.left) c.write_at.result (g.D.Disk.state c.args.disk.now).areas
    (g.D.Disk.state c.write_at.new.self).areas) at wrote

pub invariant_of-self : goal.invariant_of-self
invariant_of-self g c = grind (arith, common_steps)
