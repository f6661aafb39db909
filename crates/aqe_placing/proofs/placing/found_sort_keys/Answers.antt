use Rattle.std.proofs.Common.{ap, rules}
use Rattle.std.specs.Option.{option_map}
use Rattle.aqe_fitting.specs.Placing.{found_key, kept_column, key_over}
use Rattle.aqe_placing.proofs.Found.{found_more, not_found}
use Rattle.aqe_placing.proofs.placing.found_sort_keys.Goals as goal

pub returns-in-None : goal.returns-in-None
returns-in-None c =
    not_found (found_key (kept_column c.args.items.now)) c.args.keys.now c.keys.key-index c.key-item.result (option_map (key_over c.key-item.result) c.in_ok-expr.field-0)
    (search rules) (search rules) (ap (option_map (key_over c.key-item.result)) c.in_ok-expr.ensures) (ap (option_map (key_over c.key-item.result)) c.in-None.is)

pub keys-preserved : goal.keys-preserved
keys-preserved c =
    found_more (found_key (kept_column c.args.items.now)) c.args.keys.now c.keys.key-index c.key-item.result c.keys.made c.push.new.self
    (option_map (key_over c.key-item.result) c.in_ok-expr.field-0) (key_over c.key-item.result c.in-Some.expr)
    (search rules) (search rules) (search rules) (ap (option_map (key_over c.key-item.result)) c.in_ok-expr.ensures) (ap (option_map (key_over c.key-item.result)) c.in-Some.is)
    (search rules)
