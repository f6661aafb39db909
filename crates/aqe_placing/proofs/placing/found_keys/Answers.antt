use Rattle.std.proofs.Common.{rules}
use Rattle.aqe_placing.specs.Columns.{found_by}
use Rattle.aqe_placing.proofs.Found.{found_more, not_found}
use Rattle.aqe_placing.proofs.placing.found_keys.Goals as goal

pub returns-in-None : goal.returns-in-None
returns-in-None c =
    not_found (found_by c.args.remade c.args.items.now) c.args.keys.now c.keys.key-index c.key-item.result c.in_ok-key.field-0 (search rules) (search rules) (search rules) (search rules)

pub keys-preserved : goal.keys-preserved
keys-preserved c =
    found_more (found_by c.args.remade c.args.items.now) c.args.keys.now c.keys.key-index c.key-item.result c.keys.made c.push.new.self c.in_ok-key.field-0 c.in-Some.key
    (search rules) (search rules) (search rules) (search rules) (search rules) (search rules)
