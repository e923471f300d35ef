use Rattle.std.proofs.lemmas.Grind.{common_steps}
use Rattle.std.proofs.Common.{◌≡◌, ◌≤◌, ◌<◌, ◌+◌, length, List, ℕ, ap, sym, ◌∙◌, arith, ⊎_elim}
use Rattle.std.proofs.lemmas.Bool.{cases_lt}
use Rattle.std.proofs.lemmas.Bool.Decides.{nat_tests}
use Rattle.law_image.specs.Facts.{changed_of}
use Rattle.wire.specs.Fields.{fields_bytes}
use Rattle.deltas.proofs.Writes.{as_delta, as_anchor_longer}
use Rattle.deltas.proofs.store.is_whole.Goals as goal

pub returns : goal.returns
returns c =
    let old = c.args.old.now in
    let new = c.args.new.now in
    let same : length old ≡ length new = sym (sym c.len.ensures.is ∙ c.if-len.false ∙ c.len-2.ensures.is) in
    let size : c.changed_len.result ≡ length (fields_bytes (changed_of old new)) =
    c.changed_len.ensures.is ∙ (λ i. length (fields_bytes (changed_of (c.iter.ensures i) (c.iter-2.ensures i)))) in
    let whole : length c.spelled.result.now ≡ length (fields_bytes new) =
    ap (λ (l : List ℕ). length l) (c.spelled.ensures.is ∙ ap fields_bytes c.fields.ensures) in (
      λ h.
          let fits : length c.spelled.result.now ≤ 1 + c.changed_len.result = grind (arith, nat_tests) in
          as_anchor_longer old new (omega (arith, size, whole, fits)),
      λ is.
          ⊎_elim
          (λ (less : 1 + c.changed_len.result < length c.spelled.result.now).
          absurd (let delta = as_delta old new same (omega (arith, size, whole, less)) in cc))
          (λ (fits : length c.spelled.result.now ≤ 1 + c.changed_len.result). grind (arith, nat_tests))
          (cases_lt (1 + c.changed_len.result) (length c.spelled.result.now)),
    )

pub returns-then-len : goal.returns-then-len
returns-then-len c = grind (arith, common_steps)
