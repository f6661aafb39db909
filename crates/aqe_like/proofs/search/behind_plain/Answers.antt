use Rattle.std.proofs.Common.{rules}
use Rattle.aqe_like.proofs.Searching.{plain_start, plain_more}
use Rattle.aqe_like.proofs.search.behind_plain.Goals as goal

pub plain-init : goal.plain-init
plain-init c = record { left_utf8 = search rules; plain = plain_start c.args.pattern.now }

pub plain-preserved : goal.plain-preserved
plain-preserved c = record {
  left_utf8 = search rules;
  plain = plain_more c.args.pattern.now c.plain.left.now c.in-Some.rest.now c.in-Some.c c.plain.invariant.plain (search rules) (search rules) (search rules) (search rules) (search rules) (search rules);
}
