use Rattle.std.proofs.Common.{[], ◌++◌, ◌∙◌, ap}
use Rattle.aqe_spell.proofs.SettingTokens.{set_text}
use Rattle.aqe_spell.proofs.statement.set.Goals as goal

pub returns : goal.returns
returns c =
    set_text c.args.form.now _ _ _ _ _ _ c.in_ok-fixed.ensures
    (c.in_ok-extend_from_slice.ensures.items ∙ ap (λ l. c.fixed.new.out.items ++ l) (c.as_bytes.ensures.value ∙ c.as_str.ensures.value))
    c.in_ok-push.ensures.items c.in_ok-fixed-2.ensures c.in_ok-literal.ensures (c.in_ok-literal.ensures.sound [] tt).0
