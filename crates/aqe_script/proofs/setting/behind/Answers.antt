use Rattle.std.proofs.Common.{rules, sym, ap, ◌∙◌, Some, ◌≡◌}
use denote.Enum.Bare.{same_true}
use Rattle.aqe_trees.specs.contracts.terminal.Key.{the_type}
use Rattle.aqe_script.proofs.setting.behind.Goals as goal

pub returns-in-Some-clause-key : goal.returns-in-Some-clause-key
returns-in-Some-clause-key c =
    let same : c.in-Some.key ≡ c.args.wanted = same_true the_type (search rules) _ _ (sym c.eq.ensures ∙ c.if-eq.true) in
    (c.in_ok-first.ensures.next, sym c.key_of.ensures ∙ c.in-Some.is ∙ ap Some same)
