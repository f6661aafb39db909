use Rattle.std.proofs.Common.{rules}
use Rattle.std.proofs.lemmas.Fmt.{length_signed_le}
use Rattle.aqe_scalar.proofs.casting.decimal_text.Goals as goal

pub text_value-requires : goal.text_value-requires
text_value-requires c = search (rules, length_signed_le 19)
