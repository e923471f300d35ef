use Rattle.std.proofs.Common.{◌≡◌, ◌∙◌, ◌<◌, ◌^◌, sym, subst, ap, length, map, take, get_or, List, [], ◌∷◌, ◌++◌, arith}
use Rattle.std.proofs.lemmas.List.{map_more, length-take, length-map, take_all}
use Rattle.c_engine.specs.Rows.{Shown, shown_record, shown_as, AreLaid, AreTold}
use Rattle.c_engine.proofs.rows.records_out.Goals as goal

pub loop-entry-preserved : goal.loop-entry-preserved
loop-entry-preserved c =
    let found = c.args.found.now in
    let i = c.loop-entry.entry-index in
    let here : i < length found = c.loop-entry-test.true in
    let short : length (map shown_record (take i found)) < 2 ^ 63 = omega (arith, length-map (take i found) shown_record, length-take i found) in
    let same : shown_as c.row.result c.value.result.now ≡ shown_record (get_or found i c.entry-item.result) =
    (λ j. record { number = (c.row.ensures j).«record»; from = (c.row.ensures j).from; upto = (c.row.ensures j).upto; value = c.value.ensures j })
    ∙ ap shown_record c.entry-item.is in
    subst (λ (l : List Shown). AreLaid l c.copy.new.self c.copy.new.rows c.copy.new.out)
    (ap (λ (s : Shown). map shown_record (take i found) ++ s ∷ []) same ∙ sym (map_more shown_record found i c.entry-item.result here))
    (c.copy.ensures (map shown_record (take i found)) short c.loop-entry.invariant)

pub returns : goal.returns
returns c =
    let all : length c.args.found.now ≡ c.loop-entry.entry-index = omega (arith, c.loop-entry-test.false, c.loop-entry.auto.entry-index-end) in
    subst (λ (l : List Shown). AreTold l c.end.result c.end.new.info c.loop-entry.rows c.loop-entry.out)
    (ap (λ (l : List _). map shown_record l) (take_all c.loop-entry.entry-index c.args.found.now (omega (arith, all))))
    (c.end.ensures (map shown_record (take c.loop-entry.entry-index c.args.found.now)) c.loop-entry.rows c.loop-entry.out c.loop-entry.invariant)
