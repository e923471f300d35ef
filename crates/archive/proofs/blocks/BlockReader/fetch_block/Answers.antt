use Rattle.std.proofs.Common.{◌≡◌, ◌∙◌, ◌≤◌, ◌+◌, List, ℕ, ap, arith, length}
use Rattle.std.specs.List.{slice_range}
use Rattle.archive.specs.Parts.{parts_in}
use Rattle.archive.specs.Searches.{archive_of}
use Rattle.archive.proofs.Caching.{read_part_is, copied_from, keeps_one, keeps_later}
use Rattle.archive.proofs.blocks.BlockReader.fetch_block.Goals as goal

pub returns-clause-kept : goal.returns-clause-kept
returns-clause-kept g c =
    let area = archive_of (g.D.Disk.state c.args.disk.now) in
    let same : archive_of (g.D.Disk.state c.len.new.self) ≡ area = ap archive_of c.in_ok-end.ensures.same in
    let within : c.args.start + length c.read.new.buf ≤ c.args.start + length c.args.block.now = omega arith in
    keeps_later within
    (keeps_one g.D.Disk.tells area (parts_in c.args.self.now.cache.blocks) (parts_in c.keep.new.self.blocks) c.args.start c.read.new.buf
    (λ told. read_part_is area c.args.start (length c.args.block.now) _ (omega (arith, c.in_ok-end.ensures.len told))
    (c.in_ok-read.ensures.bytes told ∙ ap (λ (xs : List ℕ). slice_range xs c.args.start (c.args.start + length c.args.block.now)) same))
    c.keep.ensures.one_new)

pub returns-clause-bytes : goal.returns-clause-bytes
returns-clause-bytes g c = λ told there.
    let same : archive_of (g.D.Disk.state c.len.new.self) ≡ archive_of (g.D.Disk.state c.args.disk.now) = ap archive_of c.in_ok-end.ensures.same in
    copied_from _ c.args.start (length c.args.block.now) c.args.skip (length c.args.out.now) _ _ c.requires.part
    (c.in_ok-read.ensures.bytes told
    ∙ ap (λ (xs : List ℕ). slice_range xs c.args.start (c.args.start + length c.args.block.now)) same) c.copy_from_slice.ensures.after
