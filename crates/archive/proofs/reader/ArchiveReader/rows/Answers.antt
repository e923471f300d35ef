use Rattle.std.proofs.Common.{ℕ, ◌<◌, ◌∙◌, inl, inr, ap, sym, subst}
use Rattle.std.specs.Prelude.{MatchResult}
use Rattle.std.specs.List.{flat_map}
use Rattle.std.proofs.lemmas.Result.{MatchResult-weaker}
use Rattle.archive.specs.Answers.{versions_in, alone, rows_in}
use Rattle.archive.specs.Searches.{archive_of}
use Rattle.archive.specs.Damages.{IfDamaged}
use Rattle.archive.specs.Traces.{IsWalked, IsWalkBroken, IsOfRuns, IsDamagedRun, AreRowsOf, AreRowsBroken}
use Rattle.archive.proofs.Trace.{map_damaged}
use Rattle.archive.proofs.Walking.{no_interval, rows_alone}
use Rattle.archive.proofs.reader.ArchiveReader.rows.Goals as goal

pub returns-then-b-a-clause-only : goal.returns-then-b-a-clause-only
returns-then-b-a-clause-only g c =
    λ lists told right hold. c.new.ensures.items ∙ sym (no_interval (versions_in c.args.key.now lists) c.args.a c.args.b c.if-b-a.true)

pub returns-then-b-a-clause-exact : goal.returns-then-b-a-clause-exact
returns-then-b-a-clause-exact g c = λ told right. inl (c.if-b-a.true, c.new.ensures.items)

pub returns-clause-only : goal.returns-clause-only
returns-clause-only g c = λ lists told right hold.
    MatchResult-weaker c.read_rows.result (c.read_rows.ensures.only lists told right hold)
    (λ found is. is ∙ ap (λ w. flat_map (rows_in alone w) lists) c.of_key.ensures ∙ rows_alone c.args.key.now c.args.a c.args.b lists)
    (λ fault is. is)

pub returns-clause-exact : goal.returns-clause-exact
returns-clause-exact g c = λ told right.
    let area = archive_of (g.D.Disk.state c.args.disk.now) in
    let Broken : ℕ → Type 0 =
    λ start. (c.args.a < c.args.b)
    × IsDamagedRun (AreRowsOf area c.args.key.now c.args.a c.args.b) (AreRowsBroken area c.args.key.now c.args.a c.args.b) c.args.a c.args.runs.now start in
    MatchResult-weaker c.read_rows.result
    (subst (λ w. MatchResult c.read_rows.result (λ found. IsOfRuns (IsWalked alone area w) w.a c.args.runs.now found.items)
    (IfDamaged (IsDamagedRun (IsWalked alone area w) (IsWalkBroken alone area w) w.a c.args.runs.now)))
    c.of_key.ensures (c.read_rows.ensures.exact told right))
    (λ found is. inr (c.if-b-a.false, is))
    (λ fault is. map_damaged {Q = Broken} fault (λ start broken. (c.if-b-a.false, broken)) is)
