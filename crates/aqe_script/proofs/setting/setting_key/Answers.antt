use Rattle.std.proofs.Common.{ap, ◌∙◌, ◌++◌, ℕ, List, [], ◌∷◌, string_bytes, append_assoc}
use lib.Utf8.{encode}
use Rattle.aqe_script.proofs.SettingLemmas.{begin, go_on, give_up, key_done}
use Rattle.aqe_script.proofs.setting.setting_key.Goals as goal

pub points-init : goal.points-init
points-init c = (
  c.in-Some.ensures.stands.1,
  begin c.in-Some.ensures.word.0 c.in-Some.ensures.word.1
      (c.in_ok-push_str.ensures.bytes ∙ ap (λ (x : List ℕ). x ++ c.text_of.result.now) c.new-key.ensures.bytes ∙ c.text_of.ensures),
)

pub returns-in_default-word-clause-key : goal.returns-in_default-word-clause-key
returns-in_default-word-clause-key c = λ r. give_up c.points.invariant.1 c.in-Some-behind.ensures.key.0 c.in-Some-behind.ensures.key.1 c.in_default-word.ensures.word

pub text_of-requires-in-Some-behind : goal.text_of-requires-in-Some-behind
text_of-requires-in-Some-behind c = c.in-Some-word.ensures.stands.0

pub points-preserved : goal.points-preserved
unfolding encode
points-preserved c = (
  c.in-Some-word.ensures.stands.1,
  go_on c.points.invariant.1 c.in-Some-behind.ensures.key.0 c.in-Some-behind.ensures.key.1
      c.in-Some-word.ensures.word.0 c.in-Some-word.ensures.word.1
      (c.in_ok-push_str-2.ensures.bytes ∙ ap (λ (x : List ℕ). x ++ c.text_of-in-Some-behind.result.now) c.in_ok-push.ensures.bytes
      ∙ append_assoc (string_bytes c.points.key) (46 ∷ []) c.text_of-in-Some-behind.result.now
      ∙ ap (λ (x : List ℕ). string_bytes c.points.key ++ (46 ∷ x)) c.text_of-in-Some-behind.ensures),
)

pub returns-clause-key : goal.returns-clause-key
returns-clause-key c = key_done c.points.invariant.1 c.in_default-behind.ensures.key
