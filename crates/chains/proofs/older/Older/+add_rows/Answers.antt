use Rattle.std.proofs.Common.{◌≡◌, ◌≤◌, ◌∙◌, ◌++◌, List, ap, sym, arith, append-nil, append_assoc}
use Rattle.history.specs.declared.time.Version.{Version}
use Rattle.history.specs.Versions.{first_time, rows}
use Rattle.chains.specs.Shapes.{all_of}
use Rattle.chains.specs.Rows.{first_time_or, versions_upto}
use Rattle.chains.specs.Writes.{Value}
use Rattle.chains.proofs.Branches.{behind_rising, rows_first, no_rows_late, rest_low, rest_rising, rest_rows}
use Rattle.chains.proofs.Shapes.{behind, behind_low}
use Rattle.chains.proofs.older.Older.+add_rows.Goals as goal

pub loop-rest-init : goal.loop-rest-init
loop-rest-init t c = record {
  low = rest_low c.in-Branches.ensures c.from_begun-rest.ensures;
  rising = rest_rising c.in-Branches.ensures c.from_begun-rest.ensures;
  left = ap (λ (l : List (Version Value)). c.args.found.now.items ++ l) (rest_rows c.in-Branches.ensures c.from_begun-rest.ensures c.args.end c.args.b);
}

pub returns-then-b-first_time : goal.returns-then-b-first_time
returns-then-b-first_time t c =
    let late : c.args.b ≤ first_time c.branch-item.result.chunks = rw c.first_time.ensures.is at c.if-b-first_time.true in
    let none =
    no_rows_late c.loop-rest.rest.now c.in-len1-up.len_at_least c.branch-item.is c.args.end c.args.a c.args.b c.loop-rest.invariant.rising
    c.first_time.ensures.some late in
    sym (append-nil c.loop-rest.found.items)
    ∙ ap (λ (l : List (Version Value)). c.loop-rest.found.items ++ l) (sym none)
    ∙ c.loop-rest.invariant.left

pub loop-rest-preserved : goal.loop-rest-preserved
loop-rest-preserved t c =
    let rest = c.loop-rest.rest.now in
    let some = c.in-len1-up.len_at_least in
    let here = rows (versions_upto (first_time_or c.args.end (all_of (behind rest))) c.branch-item.result.chunks) c.args.a c.args.b in
    let later = rows (versions_upto c.args.end (all_of (behind rest))) c.args.a c.args.b in
    let put : c.add_rows.new.found.items ≡ c.loop-rest.found.items ++ here =
    rw (c.writes.ensures.is, c.first_time_or-next.ensures) at c.in_ok-add_rows.ensures in
    record {
      low = omega (arith, behind_low rest some c.branch-item.is, c.loop-rest.invariant.low);
      rising = behind_rising rest some c.branch-item.is c.loop-rest.invariant.rising;
      left =
          ap (λ (l : List (Version Value)). l ++ later) put
          ∙ append_assoc c.loop-rest.found.items here later
          ∙ ap (λ (l : List (Version Value)). c.loop-rest.found.items ++ l) (sym (rows_first rest some c.branch-item.is c.args.end c.args.a c.args.b))
          ∙ c.loop-rest.invariant.left;
    }
