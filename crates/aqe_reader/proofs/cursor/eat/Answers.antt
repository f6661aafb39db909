use Rattle.std.proofs.Common.{rules, ◌≡◌, sym, ◌∙◌}
use denote.Enum.Bare.{same_true}
use Rattle.aqe_trees.specs.contracts.terminal.Key.{the_type}
use Rattle.aqe_reader.proofs.cursor.eat.Goals as goal

pub returns-in-Some-Fixed-default : goal.returns-in-Some-Fixed-default
returns-in-Some-Fixed-default c =
    let same : c.in-Some-Fixed-default.key ≡ c.args.wanted = same_true the_type (search rules) _ _ (sym c.eq.ensures ∙ c.if-eq.true) in
    rw (sym same) (rw c.in-Some-Fixed-default.field-0-0-is at c.in-Some-Fixed-default.ensures)
