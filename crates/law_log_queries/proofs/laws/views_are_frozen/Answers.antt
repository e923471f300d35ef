use Rattle.law_log_queries.proofs.Frozen.{at-frozen, scan_at-frozen, between-frozen, scan_between-frozen}
use Rattle.law_log_queries.proofs.laws.views_are_frozen.Goals as goal

pub returns-clause-at : goal.returns-clause-at
returns-clause-at c = λ tells old now new between m view key time answer told stands is leads says.
    at-frozen tells old now new between m view told stands is leads key time answer says

pub returns-clause-scan_at : goal.returns-clause-scan_at
returns-clause-scan_at c = λ tells old now new between m view relation time answer told stands is leads says.
    scan_at-frozen tells old now new between m view told stands is leads relation time answer says

pub returns-clause-between : goal.returns-clause-between
returns-clause-between c = λ tells old now new between m view key a b answer told stands is leads says.
    between-frozen tells old now new between m view told stands is leads key a b answer says

pub returns-clause-scan_between : goal.returns-clause-scan_between
returns-clause-scan_between c = λ tells old now new between m view relation a b answer told stands is leads says.
    scan_between-frozen tells old now new between m view told stands is leads relation a b answer says
