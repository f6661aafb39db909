use Rattle.std.proofs.Common.{rules}
use Rattle.aqe_logical.proofs.ScanSteps.{pushed-join, pushed-union}
use Rattle.aqe_logical.proofs.scanning.+push_scans.Goals as goal

pub returns-in_ok-push_scans-in-Join-2 : goal.returns-in_ok-push_scans-in-Join-2
returns-in_ok-push_scans-in-Join-2 t c =
    pushed-join c.args.plan.now c.in-Join.kind c.in-Join.cond c.in-Join.left c.in-Join.right c.args.found.now.items c.push_scans.new.found.items c.push_scans-in-Join.new.found.items c.in-Join.is (search rules) (search rules)

pub returns-in_ok-push_scans-in-Union-2 : goal.returns-in_ok-push_scans-in-Union-2
returns-in_ok-push_scans-in-Union-2 t c =
    pushed-union c.args.plan.now c.in-Union.left c.in-Union.right c.args.found.now.items c.push_scans-in-Union.new.found.items c.push_scans-in-Union-2.new.found.items c.in-Union.is (search rules) (search rules)
