use Rattle.std.proofs.Common.{refl}
use Rattle.aqe_script.specs.Depth as spec
use Rattle.aqe_script.specs.Statements.{parts_of}
use Rattle.aqe_script.proofs.AnyLemmas.{any_go_on, any_found, first_of_match}
use Rattle.aqe_script.proofs.depth.is_too_open.Goals as goal

pub returns-then-is_part_too_open : goal.returns-then-is_part_too_open
returns-then-is_part_too_open c =
    let m = first_of_match (λ r. parts_of c.args.source.now r.now) c.cut.result.0.now (parts_of c.args.source.now c.parts.rest.now) c.cut.result.1 c.cut.ensures.parts in (
      λ t. any_found (spec.IsOpenTooDeep c.args.source.now) c.cut.result.0.now (parts_of c.args.source.now c.parts.rest.now) m.0
          (spec.IsTooOpen c.args.source.now c.args.tokens.now) m.1 (c.if-is_part_too_open.ensures.0 refl) c.parts.invariant.1,
      λ w. refl,
    )

pub parts-preserved : goal.parts-preserved
parts-preserved c =
    let e = rw c.in-Some.is at c.cut.ensures.parts in
    let r = rw c.in-Some.is at c.cut.ensures.rest in (
      r,
      any_go_on (spec.IsOpenTooDeep c.args.source.now) c.cut.result.0.now (parts_of c.args.source.now c.parts.rest.now) (parts_of c.args.source.now c.in-Some.more.now)
          (spec.IsTooOpen c.args.source.now c.args.tokens.now) e (λ d. let f = c.if-is_part_too_open.ensures.1 d in absurd (cc)) c.parts.invariant.1,
    )
