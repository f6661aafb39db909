use Rattle.std.proofs.Common.{sym, ◌∙◌, ◌≡◌, []}
use Rattle.std.proofs.lemmas.Result.{IfOk-weaker}
use Rattle.aqe_script.specs.Settings.{value_of}
use Rattle.aqe_script.proofs.SettingLemmas.{value_of_many, nothing_between}
use Rattle.aqe_script.proofs.setting.setting_value.Goals as goal

pub returns-then-last-first : goal.returns-then-last-first
returns-then-last-first c =
    IfOk-weaker c.copied-then-last-first.result (λ t. t ≡ []) (λ t. t ≡ value_of c.args.source.now c.args.first c.args.more.now)
    (λ t e. e ∙ sym (nothing_between c.args.source.now c.args.first.start c.in-Some.last.now.end c.if-last-first.true)
    ∙ sym (value_of_many c.args.source.now c.args.more.now c.args.first c.in-Some.last.now c.in-Some.ensures.value))
    c.copied-then-last-first.ensures

pub returns : goal.returns
returns c =
    IfOk-weaker c.copied-2.result (λ t. t ≡ c.range.result.now) (λ t. t ≡ value_of c.args.source.now c.args.first c.args.more.now)
    (λ t e. e ∙ c.range.ensures.value ∙ sym (value_of_many c.args.source.now c.args.more.now c.args.first c.in-Some.last.now c.in-Some.ensures.value))
    c.copied-2.ensures
