use Rattle.std.proofs.Common.{◌≡◌, ℕ, Ok, Err, Result, Option, inl, inr, subst}
use Rattle.session.specs.Streams.{Says}
use Rattle.session.specs.Texts.{Text}
use Rattle.recovery.specs.declared.fault.FormatFault.{FormatFault}
use Rattle.any_store.specs.Formats.{IsFormatted, FormatRefuses, IsSize}
use Rattle.any_store.specs.declared.formatting.Layout.{Layout}
use Rattle.shell.specs.Acts.{told}
use Rattle.shell.specs.Layouts.{formatted_line, size_of}
use Rattle.shell.proofs.Said.{said-by}
use Rattle.shell.proofs.Sizes.{size-known}
use Rattle.shell.proofs.actions.make.Goals as goal

pub returns-in-Ok : goal.returns-in-Ok
returns-in-Ok g c = inl (record {
  size = subst IsSize c.store_layout.ensures (size-known c.store_layout.result (λ none. let no = c.in-Ok.ensures.bad_size.1 none in cc));
  formatted = subst (λ (l : Layout). _ → IsFormatted l (g.D.Disk.state c.args.disk).areas (g.D.Disk.state c.format.new.disk).areas) c.store_layout.ensures
      c.in-Ok.ensures.formatted;
  said = said-by (told g.W.Write.contents c.status_of.result c.args.output.now c.say_formatted-said.new.output) (formatted_line (size_of c.args.layout))
      c.say_formatted-said.result (subst (λ (n : ℕ). Says (g.W.Write.contents c.args.output.now.writer) (formatted_line n) c.say_formatted-said.result
      (g.W.Write.contents c.say_formatted-said.new.output.writer) c.say_formatted-said.new.output.refused) c.size_of.ensures c.say_formatted-said.ensures)
      c.status_of.ensures;
})

pub returns-in-Err : goal.returns-in-Err
returns-in-Err g c =
    inr (
      c.in-Err.fault,
      subst (λ (l : Layout). FormatRefuses g.D.Disk.tells l (g.D.Disk.state c.args.disk) c.in-Err.fault (g.D.Disk.state c.format.new.disk))
          c.store_layout.ensures c.in-Err.ensures.refuses,
      c.refuse.ensures,
    )
