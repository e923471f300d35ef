use Rattle.std.proofs.Common.{◌+◌, ℕ, ap, ◌∙◌}
use Rattle.std.specs.List.{slice_range}
use Rattle.archive.specs.Parts.{Keeps, parts_in}
use Rattle.archive.specs.Searches.{archive_of}
use Rattle.archive.proofs.Caching.{keeps_same, keeps_again}
use Rattle.archive.proofs.blocks.BlockReader.read_block.Goals as goal

pub returns-then-copy-clause-kept : goal.returns-then-copy-clause-kept
returns-then-copy-clause-kept g c = keeps_same _ _ _ _ _ c.copy.ensures.none_new

pub returns-in_err-there-clause-kept : goal.returns-in_err-there-clause-kept
returns-in_err-there-clause-kept g c =
    let area = archive_of (g.D.Disk.state c.args.disk.now) in
    let first : Keeps (c.args.start + c.args.len) g.D.Disk.tells area (parts_in c.args.self.now.cache.blocks) (parts_in c.copy.new.self.blocks) =
    keeps_same _ _ _ _ _ c.copy.ensures.none_new in
    keeps_again first c.in_err-there.ensures.kept

pub returns-clause-kept : goal.returns-clause-kept
returns-clause-kept g c =
    let area = archive_of (g.D.Disk.state c.args.disk.now) in
    let first : Keeps (c.args.start + c.args.len) g.D.Disk.tells area (parts_in c.args.self.now.cache.blocks) (parts_in c.copy.new.self.blocks) =
    keeps_same _ _ _ _ _ c.copy.ensures.none_new in
    keeps_again first c.in_ok-there.ensures.kept

pub returns-clause-bytes : goal.returns-clause-bytes
returns-clause-bytes g c = λ told right there.
    let area = archive_of (g.D.Disk.state c.args.disk.now) in
    c.in_ok-there.ensures.bytes told there
    ∙ ap (λ (n : ℕ). slice_range area (c.args.start + c.args.skip) (c.args.start + c.args.skip + n)) c.copy.auto.out
