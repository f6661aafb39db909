use Rattle.std.proofs.Common.{arith, length, ap, sym, subst, ◌∙◌, List, ℕ}
use Rattle.aqe_trees.specs.Shapes.{set_form}
use Rattle.aqe_script.specs.Settings.{IsSet}
use Rattle.std.proofs.lemmas.Result.{err_from_is_err_and}
use Rattle.aqe_script.proofs.SettingLemmas.{no_set, no_key, no_equal, no_value, key_is_short, set_read}
use Rattle.aqe_script.proofs.setting.read_setting.Goals as goal

pub returns-in_default : goal.returns-in_default
returns-in_default c = λ r form d. no_set c.in_default.ensures.key d

pub returns-in_err-key : goal.returns-in_err-key
returns-in_err-key c = let p = err_from_is_err_and c.from_residual.result c.from_residual.ensures.1 in
    rw (p.1, p.2) (λ r form d. no_key c.in-Some.ensures.key.0 (c.in_err-key.ensures.key r) d)

pub returns-in_default-behind : goal.returns-in_default-behind
returns-in_default-behind c = λ r form d. no_equal c.in-Some.ensures.key.0 c.in_ok-key.ensures.key c.in_default-behind.ensures.key d

pub returns-in_default-next : goal.returns-in_default-next
returns-in_default-next c = λ r form d. no_value c.in-Some.ensures.key.0 c.in_ok-key.ensures.key c.in-Some-behind.ensures.key.0 c.in_default-next.ensures.next d

pub copied-requires : goal.copied-requires
copied-requires c =
    let short = key_is_short c.in-Some.ensures.key.0 c.requires.stand c.requires.order c.in_ok-key.ensures.key in
    let same = ap {B = ℕ} (λ (key : List ℕ). length key) c.as_str.ensures.value in
    omega (arith, same, short, c.requires.size)

pub returns : goal.returns
returns c =
    let read = set_read c.in-Some.ensures.key.0 c.in-Some.ensures.key.1 c.in_ok-key.ensures.key c.in-Some-behind.ensures.key.0 c.in-Some-behind.ensures.key.1
    c.in-Some-next.ensures.next c.in_ok-value.ensures in
    subst (λ (key : List ℕ). IsSet c.args.source.now (set_form key c.in_ok-value.value) c.args.tokens.now)
    (sym (c.in_ok-key-2.ensures ∙ c.as_str.ensures.value)) read
