-- The lines of a log are written one after another: what the texts of both kinds of log share.
pub use Rattle.log_dump.proofs.Written.{Written, written_none, written_one, written_all, written_item, three_written}
