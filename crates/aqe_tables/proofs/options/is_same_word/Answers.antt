use Rattle.std.specs.Str.{str_to_ascii_lowercase}
use Rattle.std.proofs.lemmas.Slice.Eq.{bytes_eq-Decides}
use Rattle.aqe_tables.proofs.NameFacts.{same_test}
use Rattle.aqe_tables.proofs.options.is_same_word.Goals as goal

pub returns : goal.returns
returns c =
    same_test _ _ c.eq_ignore_ascii_case.ensures.test (bytes_eq-Decides (str_to_ascii_lowercase c.args.a.now) (str_to_ascii_lowercase c.args.b.now))
