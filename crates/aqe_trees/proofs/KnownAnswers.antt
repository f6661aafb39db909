-- Known answers of the table of keywords.
use Rattle.std.proofs.Common.{◌≡◌, true, false, refl}
use Rattle.std.specs.Prelude.{Some, None, codes}
use Rattle.aqe_trees.specs.declared.terminal.Key.TheVariants as k
use Rattle.aqe_trees.specs.Keywords.{is_reserved, word_key, symbol_key}

any_case : word_key (codes "SeLeCt") ≡ Some k.Select
any_case = refl

reserved : is_reserved (codes "nulls") ≡ true
reserved = refl

free : is_reserved (codes "location") ≡ false
free = refl

longer : word_key (codes "selects") ≡ None
longer = refl

unequal : symbol_key (codes "!=") ≡ Some k.NotEqual
unequal = refl

same : symbol_key (codes "<=>") ≡ Some k.Same
same = refl
