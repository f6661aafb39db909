use Rattle.std.proofs.Common.{rules}
use Rattle.std.proofs.lemmas.Str.Pattern.{strip_prefix_char}
use Rattle.aqe_store.proofs.FilesLemmas.{below-from_slash}
use Rattle.aqe_store.proofs.shelf.below.Goals as goal

pub returns : goal.returns
returns c = below-from_slash _ _ _ _ (search rules) (strip_prefix_char 47 _ _ c.strip_prefix-2.ensures.cases (search rules))
