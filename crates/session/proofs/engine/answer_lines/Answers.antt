use Rattle.std.proofs.Common.{refl, sym, ap, ◌∙◌, ◌+◌, ℕ, Ok, Err}
use Rattle.session.proofs.RunLemmas.{counted, not_taken, ran-cut, ran-end, ran-whole, reopen-turn, so_far_kept, so_far_next, so_far_start, taken}
use Rattle.session.specs.Streams.{lines_read}
use Rattle.session.specs.declared.ending.Ending.TheVariants as ending
use Rattle.session.proofs.engine.answer_lines.Goals as goal

pub loop-session-init : goal.loop-session-init
loop-session-init g c =
    so_far_start g.D.Disk.tells (g.R.Read.remaining c.args.input.now.reader) (g.W.Write.contents c.args.output.now.writer) (lines_read c.args.input.now + 1)
    c.args.session

pub returns-in-Ok-false-clause-ran : goal.returns-in-Ok-false-clause-ran
returns-in-Ok-false-clause-ran g c =
    ran-whole g.D.Disk.tells (g.R.Read.remaining c.args.input.now.reader) (g.R.Read.remaining c.loop-session.input.reader)
    (g.R.Read.remaining c.next_line.new.input.reader)
    (g.W.Write.contents c.args.output.now.writer) (g.W.Write.contents c.next_line.new.output.writer) (lines_read c.args.input.now + 1)
    (lines_read c.loop-session.input + 1) c.args.session c.loop-session.session
    c.next_line.new.input.line.items c.in-Ok-false.field-0 (ending.Whole, g.D.Disk.state c.close.result)
    (so_far_kept g.D.Disk.tells (g.R.Read.remaining c.args.input.now.reader) (g.R.Read.remaining c.loop-session.input.reader)
    (g.W.Write.contents c.args.output.now.writer) (g.W.Write.contents c.loop-session.output.writer)
    (g.W.Write.contents c.next_line.new.output.writer) (lines_read c.args.input.now + 1) (lines_read c.loop-session.input + 1) c.args.session
    c.loop-session.session c.loop-session.invariant c.next_line.ensures.kept)
    c.in-Ok-false.ensures.read c.in-Ok-false.field-0-test refl c.close.ensures

pub returns-in-Err-clause-ran : goal.returns-in-Err-clause-ran
returns-in-Err-clause-ran g c =
    ran-cut g.D.Disk.tells (g.R.Read.remaining c.args.input.now.reader) (g.R.Read.remaining c.loop-session.input.reader)
    (g.W.Write.contents c.args.output.now.writer) (g.W.Write.contents c.next_line.new.output.writer)
    (lines_read c.args.input.now + 1) (lines_read c.loop-session.input + 1) c.args.session c.loop-session.session (
      c.in-Err.ending,
      g.D.Disk.state c.close-in-Err.result,
    )
    (so_far_kept g.D.Disk.tells (g.R.Read.remaining c.args.input.now.reader) (g.R.Read.remaining c.loop-session.input.reader)
    (g.W.Write.contents c.args.output.now.writer) (g.W.Write.contents c.loop-session.output.writer)
    (g.W.Write.contents c.next_line.new.output.writer) (lines_read c.args.input.now + 1) (lines_read c.loop-session.input + 1) c.args.session
    c.loop-session.session c.loop-session.invariant c.next_line.ensures.kept)
    c.in-Err.ensures.cut c.close-in-Err.ensures

pub loop-session-preserved-in-Ok-true-turn : goal.loop-session-preserved-in-Ok-true-turn
loop-session-preserved-in-Ok-true-turn g c =
    so_far_next g.D.Disk.tells (g.R.Read.remaining c.args.input.now.reader) (g.R.Read.remaining c.loop-session.input.reader)
    (g.R.Read.remaining c.next_line.new.input.reader) (g.W.Write.contents c.args.output.now.writer) (g.W.Write.contents c.next_line.new.output.writer)
    (g.W.Write.contents c.turn.new.output.writer) (lines_read c.args.input.now + 1) (lines_read c.loop-session.input + 1) c.count.result
    (lines_read c.next_line.new.input + 1) c.args.session c.loop-session.session c.turn.new.session c.next_line.new.input.line.items c.line.result.now
    c.in-Ok-true.field-0
    (so_far_kept g.D.Disk.tells (g.R.Read.remaining c.args.input.now.reader) (g.R.Read.remaining c.loop-session.input.reader)
    (g.W.Write.contents c.args.output.now.writer) (g.W.Write.contents c.loop-session.output.writer) (g.W.Write.contents c.next_line.new.output.writer)
    (lines_read c.args.input.now + 1) (lines_read c.loop-session.input + 1) c.args.session c.loop-session.session c.loop-session.invariant
    c.next_line.ensures.kept)
    (c.count.ensures ∙ counted c.in-Ok-true.field-0 (lines_read c.next_line.new.input) (lines_read c.loop-session.input) c.in-Ok-true.ensures.count
    c.in-Ok-true.field-0-test) (ap (λ (k : ℕ). k + 1) (sym c.count.ensures)) c.in-Ok-true.ensures.read c.in-Ok-true.field-0-test c.line.ensures
    (taken g.D.Disk.tells c.in-Ok-true-turn.field-0 c.count.result c.loop-session.session c.turn.new.session c.line.result.now
    (g.W.Write.contents c.next_line.new.output.writer) (g.W.Write.contents c.turn.new.output.writer) c.in-Ok-true-turn.ensures.turned
    c.in-Ok-true-turn.field-0-test)

pub loop-session-preserved : goal.loop-session-preserved
loop-session-preserved g c =
    so_far_next g.D.Disk.tells (g.R.Read.remaining c.args.input.now.reader) (g.R.Read.remaining c.loop-session.input.reader)
    (g.R.Read.remaining c.next_line.new.input.reader) (g.W.Write.contents c.args.output.now.writer) (g.W.Write.contents c.next_line.new.output.writer)
    (g.W.Write.contents c.reopen.new.output.writer) (lines_read c.args.input.now + 1) (lines_read c.loop-session.input + 1) c.count.result
    (lines_read c.next_line.new.input + 1) c.args.session c.loop-session.session c.in-Ok.opened c.next_line.new.input.line.items c.line.result.now
    c.in-Ok-true.field-0
    (so_far_kept g.D.Disk.tells (g.R.Read.remaining c.args.input.now.reader) (g.R.Read.remaining c.loop-session.input.reader)
    (g.W.Write.contents c.args.output.now.writer) (g.W.Write.contents c.loop-session.output.writer) (g.W.Write.contents c.next_line.new.output.writer)
    (lines_read c.args.input.now + 1) (lines_read c.loop-session.input + 1) c.args.session c.loop-session.session c.loop-session.invariant
    c.next_line.ensures.kept)
    (c.count.ensures ∙ counted c.in-Ok-true.field-0 (lines_read c.next_line.new.input) (lines_read c.loop-session.input) c.in-Ok-true.ensures.count
    c.in-Ok-true.field-0-test) (ap (λ (k : ℕ). k + 1) (sym c.count.ensures)) c.in-Ok-true.ensures.read c.in-Ok-true.field-0-test c.line.ensures
    (reopen-turn g.D.Disk.tells c.count.result c.loop-session.session c.turn.new.session c.line.result.now (g.W.Write.contents c.next_line.new.output.writer)
    (g.W.Write.contents c.turn.new.output.writer) (g.W.Write.contents c.reopen.new.output.writer) (Ok c.in-Ok.opened)
    (not_taken g.D.Disk.tells c.in-Ok-false-turn.field-0 c.count.result c.loop-session.session c.turn.new.session c.line.result.now
    (g.W.Write.contents c.next_line.new.output.writer) (g.W.Write.contents c.turn.new.output.writer) c.in-Ok-false-turn.ensures.turned
    c.in-Ok-false-turn.field-0-test) c.in-Ok.ensures.turned)

pub returns-in-Err-turn-clause-ran : goal.returns-in-Err-turn-clause-ran
returns-in-Err-turn-clause-ran g c =
    let ended = c.in-Err-turn.ensures.turned in
    ran-end g.D.Disk.tells (g.R.Read.remaining c.args.input.now.reader) (g.R.Read.remaining c.loop-session.input.reader)
    (g.R.Read.remaining c.next_line.new.input.reader) (g.W.Write.contents c.args.output.now.writer) (g.W.Write.contents c.next_line.new.output.writer)
    (g.W.Write.contents c.turn.new.output.writer) (lines_read c.args.input.now + 1) (lines_read c.loop-session.input + 1) c.count.result c.args.session
    c.loop-session.session c.next_line.new.input.line.items c.line.result.now c.in-Ok-true.field-0 (
      c.in-Err-turn.ending,
      g.D.Disk.state c.close-in-Err-turn.result,
    )
    (so_far_kept g.D.Disk.tells (g.R.Read.remaining c.args.input.now.reader) (g.R.Read.remaining c.loop-session.input.reader)
    (g.W.Write.contents c.args.output.now.writer) (g.W.Write.contents c.loop-session.output.writer) (g.W.Write.contents c.next_line.new.output.writer)
    (lines_read c.args.input.now + 1) (lines_read c.loop-session.input + 1) c.args.session c.loop-session.session c.loop-session.invariant
    c.next_line.ensures.kept)
    (c.count.ensures ∙ counted c.in-Ok-true.field-0 (lines_read c.next_line.new.input) (lines_read c.loop-session.input) c.in-Ok-true.ensures.count
    c.in-Ok-true.field-0-test) c.in-Ok-true.ensures.read c.in-Ok-true.field-0-test c.line.ensures (
      ended.0,
      ended.1 (g.D.Disk.state c.close-in-Err-turn.result) c.close-in-Err-turn.ensures,
      ended.2,
    )

pub returns-in-Err-reopen-clause-ran : goal.returns-in-Err-reopen-clause-ran
returns-in-Err-reopen-clause-ran g c =
    ran-end g.D.Disk.tells (g.R.Read.remaining c.args.input.now.reader) (g.R.Read.remaining c.loop-session.input.reader)
    (g.R.Read.remaining c.next_line.new.input.reader) (g.W.Write.contents c.args.output.now.writer) (g.W.Write.contents c.next_line.new.output.writer)
    (g.W.Write.contents c.reopen.new.output.writer) (lines_read c.args.input.now + 1) (lines_read c.loop-session.input + 1) c.count.result c.args.session
    c.loop-session.session c.next_line.new.input.line.items c.line.result.now c.in-Ok-true.field-0 (c.in-Err-reopen.end.0, g.D.Disk.state c.in-Err-reopen.end.1)
    (so_far_kept g.D.Disk.tells (g.R.Read.remaining c.args.input.now.reader) (g.R.Read.remaining c.loop-session.input.reader)
    (g.W.Write.contents c.args.output.now.writer) (g.W.Write.contents c.loop-session.output.writer) (g.W.Write.contents c.next_line.new.output.writer)
    (lines_read c.args.input.now + 1) (lines_read c.loop-session.input + 1) c.args.session c.loop-session.session c.loop-session.invariant
    c.next_line.ensures.kept)
    (c.count.ensures ∙ counted c.in-Ok-true.field-0 (lines_read c.next_line.new.input) (lines_read c.loop-session.input) c.in-Ok-true.ensures.count
    c.in-Ok-true.field-0-test) c.in-Ok-true.ensures.read c.in-Ok-true.field-0-test c.line.ensures
    (reopen-turn g.D.Disk.tells c.count.result c.loop-session.session c.turn.new.session c.line.result.now (g.W.Write.contents c.next_line.new.output.writer)
    (g.W.Write.contents c.turn.new.output.writer) (g.W.Write.contents c.reopen.new.output.writer) (Err (
      c.in-Err-reopen.end.0,
      g.D.Disk.state c.in-Err-reopen.end.1,
    ))
    (not_taken g.D.Disk.tells c.in-Ok-false-turn.field-0 c.count.result c.loop-session.session c.turn.new.session c.line.result.now
    (g.W.Write.contents c.next_line.new.output.writer) (g.W.Write.contents c.turn.new.output.writer) c.in-Ok-false-turn.ensures.turned
    c.in-Ok-false-turn.field-0-test) c.in-Err-reopen.ensures.turned)
