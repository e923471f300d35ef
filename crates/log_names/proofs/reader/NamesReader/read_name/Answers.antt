use Rattle.std.proofs.Common.{◌≡◌, ◌∙◌, ap, sym, inr, false, true}
use Rattle.archive.specs.Searches.{archive_of}
use Rattle.log_names.specs.Standing.{name_in, name_at, is_in_time}
use Rattle.log_names.proofs.reader.NamesReader.read_name.Goals as goal

pub returns-then-not-is_in_time-clause-exact : goal.returns-then-not-is_in_time-clause-exact
unfolding name_at
returns-then-not-is_in_time-clause-exact g c = λ told right.
    let name : c.decode_name-name.result ≡ name_at (archive_of (g.D.Disk.state c.args.disk.now)) c.args.roll.now.start c.args.n =
    c.decode_name-name.ensures ∙ ap name_in (c.in_ok-read_at.ensures.exact told right) in
    let late : is_in_time c.args.upto c.decode_name-name.result ≡ false = sym c.is_in_time.ensures ∙ c.if-not-is_in_time.true in
    inr (ap (is_in_time c.args.upto) (sym name) ∙ late)

pub returns-clause-exact : goal.returns-clause-exact
unfolding name_at
returns-clause-exact g c = λ told right.
    let timed : is_in_time c.args.upto c.decode_name-name.result ≡ true = sym c.is_in_time.ensures ∙ c.if-not-is_in_time.false in
    (c.decode_name-name.ensures ∙ ap name_in (c.in_ok-read_at.ensures.exact told right), timed)
