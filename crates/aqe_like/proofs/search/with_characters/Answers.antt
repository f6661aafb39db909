use Rattle.std.proofs.Common.{rules, [], refl, arith, chars}
use Rattle.aqe_like.proofs.Searching.{one_less, one_behind}
use Rattle.aqe_like.proofs.search.with_characters.Goals as goal

pub skipped-init : goal.skipped-init
skipped-init c = record {
  left_utf8 = search rules;
  characters = search rules;
  front = ([], refl);
  shorter = omega arith;
  passed = λ lt. omega (arith, lt);
}

pub skipped-preserved : goal.skipped-preserved
skipped-preserved c = record {
  left_utf8 = search rules;
  characters = one_less (chars c.skipped.left.now) (chars c.in_ok-behind.behind.now) c.args.count c.skipped.more c.in_ok-behind.field-0-0 (search rules) c.skipped.invariant.characters (search rules);
  front = one_behind (chars c.args.text.now) (chars c.skipped.left.now) (chars c.in_ok-behind.behind.now) c.in_ok-behind.field-0-0 c.skipped.invariant.front (search rules);
  shorter = search rules;
  passed = search rules;
}
