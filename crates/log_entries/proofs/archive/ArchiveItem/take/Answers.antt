use Rattle.std.proofs.Common.{refl, sym, subst, arith}
use Rattle.std.proofs.lemmas.Bool.{false≢true}
use Rattle.wire.proofs.FieldsRead.{whole_rest}
use Rattle.log_entries.specs.Spelling.{archive_bytes}
use Rattle.log_entries.specs.Ranges.{IsArchive}
use Rattle.log_entries.specs.Reading.{archive_at}
use Rattle.log_entries.proofs.FixedRead.{archive_again, archive_back, none_front, is_front}
use Rattle.log_entries.proofs.archive.ArchiveItem.take.Goals as goal

pub returns-then-not-has_kind : goal.returns-then-not-has_kind
returns-then-not-has_kind c =
    none_front archive_at 35 6 archive_bytes IsArchive archive_again c.args.bytes.now (λ long kind is. false≢true (c.if-not-has_kind.ensures.1 (long, kind)))

pub returns-then-not-is_archive : goal.returns-then-not-is_archive
returns-then-not-is_archive c =
    none_front archive_at 35 6 archive_bytes IsArchive archive_again c.args.bytes.now
    (λ long kind is. false≢true (c.if-not-is_archive.ensures.1 (subst IsArchive (sym c.read_archive-archive.ensures) is)))

pub returns : goal.returns
returns c =
    let begins = c.if-not-has_kind.ensures.0 refl in
    let back = archive_back c.args.bytes.now (λ i. omega (arith, c.type_inv.bytes i)) begins.0 begins.1 in (
      c.if-not-is_archive.ensures.0 refl,
      is_front archive_at 35 archive_bytes c.args.bytes.now _ _ back c.read_archive-archive.ensures (whole_rest 35 c.args.bytes.now),
    )
