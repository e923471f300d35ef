use Rattle.std.proofs.Common.{[]}
use Rattle.law_log.specs.Chains.{reclaimed_by}
use Rattle.law_log_layout.specs.HeapLog.{chains_told}
use Rattle.log_base.proofs.Fronts.{front-early, rest-late, rest-no_base}
use Rattle.log_base.proofs.laws.front_is.Goals as goal

pub returns : goal.returns
returns c = λ mark names chains rules. record {
  ends = front-early mark (reclaimed_by (chains_told names chains)) 0 [] names chains rules.each;
  begins = rest-late mark names chains;
  no_base = rest-no_base mark names chains rules.each;
}
