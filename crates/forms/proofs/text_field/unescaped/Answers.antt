use Rattle.std.proofs.Common.{get_or, refl, sym, subst, Option, Bool}
use Rattle.forms.proofs.EscapeLemmas.{reads_none, reads_on}
use Rattle.forms.specs.Fields.{ReadsByte}
use Rattle.forms.proofs.text_field.unescaped.Goals as goal

pub returns-in-None : goal.returns-in-None
returns-in-None c =
    let b = get_or c.args.text.now c.loop-byte.byte-index 0 in
    sym (reads_none c.args.text.now c.loop-byte.bytes.items c.read_byte.new.bytes.items c.loop-byte.is_after c.loop-byte.byte-index b
    c.loop-byte-test.true refl c.loop-byte.invariant
    (subst (λ (o : Option Bool). ReadsByte c.loop-byte.bytes.items c.loop-byte.is_after b c.read_byte.new.bytes.items o) c.in-None.is c.in_ok-after.ensures))

pub loop-byte-preserved : goal.loop-byte-preserved
loop-byte-preserved c =
    let b = get_or c.args.text.now c.loop-byte.byte-index 0 in
    reads_on c.args.text.now c.loop-byte.bytes.items c.read_byte.new.bytes.items c.loop-byte.is_after c.in-Some.after c.loop-byte.byte-index b
    c.loop-byte-test.true refl c.loop-byte.invariant
    (subst (λ (o : Option Bool). ReadsByte c.loop-byte.bytes.items c.loop-byte.is_after b c.read_byte.new.bytes.items o) c.in-Some.is c.in_ok-after.ensures)
