use Rattle.std.proofs.Common.{rules, arith, chars}
use Rattle.aqe_like.specs.Patterns.{items}
use Rattle.aqe_like.proofs.Matching.{IsSingle, goes_on_more, goes_on_run, goes_on_apart, goes_on_short, goes_on_whole, goes_on_left_over}
use Rattle.aqe_like.proofs.pattern.laid.Goals as goal
use Rattle.aqe_like.proofs.pattern.laid.Goals.{in_default-first_char-via-in-Some-first_char+else-is_allowed, in_default-first_char-via-in_default-first_char}

pub returns-in-Run : goal.returns-in-Run
returns-in-Run c =
    let whole = goes_on_run (items (chars c.args.pattern.now)) (chars c.args.text.now) (items (chars c.items.left.now)) (chars c.items.place.now) (items (chars c.in-Some.rest.now)) c.items.invariant.goes_on (search rules) in
    (whole.0, whole.1, omega (arith, c.in-Some.ensures.shorter), omega arith)

pub items-preserved : goal.items-preserved
items-preserved c =
    let s : IsSingle c.in-Some.item = search rules in
    record {
      place_utf8 = search rules;
      left_utf8 = search rules;
      goes_on = goes_on_more (items (chars c.args.pattern.now)) (chars c.args.text.now) (items (chars c.items.left.now)) (chars c.items.place.now) c.in-Some.item (items (chars c.in-Some.rest.now)) c.in-Some-first_char.c (chars c.in-Some-first_char.behind.now) c.items.invariant.goes_on s (search rules) (search rules) (search rules);
      shorter = omega (arith, c.in-Some.ensures.shorter);
      behind = omega (arith, c.in-Some-first_char.ensures.shorter);
    }

pub returns-in_default-first_char : goal.returns-in_default-first_char
returns-in_default-first_char c =
    let s : IsSingle c.in-Some.item = search rules in
    elim c.in_default-first_char.branch [
      | in_default-first_char-via-in-Some-first_char+else-is_allowed w ↦ goes_on_apart (items (chars c.args.pattern.now)) (chars c.args.text.now) (items (chars c.items.left.now)) (chars c.items.place.now) c.in-Some.item (items (chars c.in-Some.rest.now)) w.in-Some-first_char.c (chars w.in-Some-first_char.behind.now) c.items.invariant.goes_on s (search rules) (search rules) (search rules)
      | in_default-first_char-via-in_default-first_char w ↦ goes_on_short (items (chars c.args.pattern.now)) (chars c.args.text.now) (items (chars c.items.left.now)) (chars c.items.place.now) c.in-Some.item (items (chars c.in-Some.rest.now)) c.items.invariant.goes_on s (search rules) (search rules)
    ]

pub returns-in-None : goal.returns-in-None
returns-in-None c = goes_on_whole _ _ (items (chars c.items.left.now)) (chars c.items.place.now) c.items.invariant.goes_on (search rules) (search rules)

pub returns-in-Some-first_char-2 : goal.returns-in-Some-first_char-2
returns-in-Some-first_char-2 c = goes_on_left_over _ _ (items (chars c.items.left.now)) (chars c.items.place.now) c.in-Some-first_char-2.field-0.0 (chars c.in-Some-first_char-2.field-0.1.now) c.items.invariant.goes_on (search rules) (search rules)
