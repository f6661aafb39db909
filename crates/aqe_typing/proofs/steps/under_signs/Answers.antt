use Rattle.std.proofs.Common.{rules, ◌≡◌, ◌++◌, ◌∷◌, [], List, ap, sym, ◌∙◌}
use Rattle.aqe_rules.specs.Outcomes.{upon}
use Rattle.aqe_rules.specs.Operations.{signed_operation}
use Rattle.aqe_typing.specs.Values.{with_signs}
use Rattle.aqe_typing.proofs.Prefixes.{innermost_sign}
use Rattle.aqe_typing.proofs.steps.under_signs.Goals as goal

pub signs-preserved : goal.signs-preserved
signs-preserved c = λ o h.
    let so_far = c.signs.invariant o h in
    let sign = c.in-Some.sign.now in
    let before = c.in-Some.before.now in
    let rest : c.signs.rest.now ≡ before ++ sign ∷ [] = search rules in
    (upon so_far.0 (signed_operation sign), c.signed-value.ensures so_far.0 so_far.1, sym (innermost_sign before sign so_far.0) ∙ ap (λ (l : List _). with_signs l so_far.0) (sym rest) ∙ so_far.2)
