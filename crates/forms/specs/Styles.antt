-- The styles of answers.
use Rattle.std.specs.Prelude.{Bool, true, false, not, ◌&&◌}
use Rattle.forms.specs.declared.style.Form.{Form}
use Rattle.forms.specs.declared.style.Form.TheVariants as form
use Rattle.forms.specs.declared.style.Style.{Style}

-- that of scripts: fields in hexadecimal, times as numbers
abbrev pub plain : Style
plain = record { form = form.Hex; instants = false }

abbrev pub is_hex : Form → Bool
is_hex form.Hex = true
is_hex form.Text = false
is_hex form.Json = false
is_hex form.Csv = false

-- a style is that one
abbrev pub is_plain : Style → Bool
is_plain style = is_hex style.form && not style.instants
