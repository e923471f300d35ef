use Rattle.std.proofs.Common.{ℕ, ◌++◌, List, refl, subst}
use Rattle.std.specs.Prelude.{codes}
use Rattle.std.specs.Fmt.{decimal}
use Rattle.std.specs.Io.KnownBytes.{Appends}
use Rattle.log_shown.specs.declared.items.LogItem.{LogItem}
use Rattle.log_dump.proofs.Written.{three_written}
use Rattle.log_dump.specs.Dump.{Each, IsItemText, header_line, end_text}
use Rattle.log_dump.proofs.dump.write_dump.Goals as goal

pub returns : goal.returns
returns g c =
    let roots = c.args.shown.now.roots in
    let lines = c.in_ok-write_items.ensures in
    let each = subst (λ (items : List LogItem). Each IsItemText items lines.0) c.as_slice.ensures.value lines.1 in
    let front = subst (λ (root : ℕ). Appends (g.W.Write.contents c.args.output.now) (g.W.Write.contents c.writeln.new.self)
    (codes "header extents " ++ (decimal roots.extents ++ (codes " root " ++ (decimal root ++ codes "\n"))))) c.root-root.ensures
    c.in_ok-writeln.ensures.bytes in
    let end = end_text roots.extents c.args.shown.now.end in (
      header_line roots ++ (lines.0 ++ end),
      (lines.0, each, refl),
      three_written (g.W.Write.contents c.args.output.now) (g.W.Write.contents c.writeln.new.self) (g.W.Write.contents c.write_items.new.output)
          (g.W.Write.contents c.write_end.new.output) (header_line roots) lines.0 end front lines.2 c.in_ok-write_end.ensures,
    )
