use Rattle.std.proofs.Common.{◌≡◌, ◌==◌, ◌∙◌, sym, false, rules}
use Rattle.forms.proofs.EscapeLemmas.{reads_escaped, reads_plain}
use Rattle.forms.proofs.text_field.read_byte.Goals as goal

pub returns-in_ok-push-in-Some : goal.returns-in_ok-push-in-Some
returns-in_ok-push-in-Some c = reads_escaped c.args.bytes.now.items c.push.new.self.items c.args.is_after c.args.byte c.in-Some.meant c.if-is_after.true
    (sym c.escaped_byte.ensures ∙ c.in-Some.is) c.in_ok-push-in-Some.ensures.items

pub returns : goal.returns
returns c =
    let other : (c.args.byte == 92) ≡ false = search rules in
    reads_plain c.args.bytes.now.items c.push-2.new.self.items c.args.is_after c.args.byte c.if-is_after.false other c.in_ok-push.ensures.items
