use Rattle.std.proofs.Common.{◌≡◌, ◌∙◌, ◌<◌, ◌^◌, sym, subst, ap, length, map, take, get_or, List, [], ◌∷◌, ◌++◌, arith}
use Rattle.std.proofs.lemmas.List.{map_more, length-take, length-map, take_all}
use Rattle.c_engine.specs.Rows.{Shown, shown_version, shown_as, AreLaid, AreTold}
use Rattle.c_engine.proofs.rows.rows_out.Goals as goal

pub loop-version-preserved : goal.loop-version-preserved
loop-version-preserved c =
    let found = c.args.found.now in
    let i = c.loop-version.version-index in
    let here : i < length found = c.loop-version-test.true in
    let short : length (map (shown_version c.args.«record») (take i found)) < 2 ^ 63 =
    omega (arith, length-map (take i found) (shown_version c.args.«record»), length-take i found) in
    let same : shown_as c.row-row.result c.value.result.now ≡ (shown_version c.args.«record») (get_or found i c.version-item.result) =
    (λ j. record { number = (c.row-row.ensures j).«record»; from = (c.row-row.ensures j).from; upto = (c.row-row.ensures j).upto; value = c.value.ensures j })
    ∙ ap (shown_version c.args.«record») c.version-item.is in
    subst (λ (l : List Shown). AreLaid l c.copy.new.self c.copy.new.rows c.copy.new.out)
    (ap (λ (s : Shown). map (shown_version c.args.«record») (take i found) ++ s ∷ []) same
    ∙ sym (map_more (shown_version c.args.«record») found i c.version-item.result here))
    (c.copy.ensures (map (shown_version c.args.«record») (take i found)) short c.loop-version.invariant)

pub returns : goal.returns
returns c =
    let all : length c.args.found.now ≡ c.loop-version.version-index = omega (arith, c.loop-version-test.false, c.loop-version.auto.version-index-end) in
    subst (λ (l : List Shown). AreTold l c.end.result c.end.new.info c.loop-version.rows c.loop-version.out)
    (ap (λ (l : List _). map (shown_version c.args.«record») l) (take_all c.loop-version.version-index c.args.found.now (omega (arith, all))))
    (c.end.ensures (map (shown_version c.args.«record») (take c.loop-version.version-index c.args.found.now)) c.loop-version.rows c.loop-version.out
    c.loop-version.invariant)
