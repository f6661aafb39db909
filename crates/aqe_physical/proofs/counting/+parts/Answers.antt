use Rattle.std.proofs.Common.{rules, inl, inr, ap, arith, ◌≡◌, length}
use Rattle.aqe_physical.specs.Counts.{part_count}
use Rattle.aqe_physical.specs.declared.plan.Plan.{the_lemmas}
use Rattle.aqe_physical.proofs.Counted.{fit_steps, own_fits, count-union, fits-filter, fits-project, fits-partialagg, fits-finalagg, fits-sort, fits-locallimit, fits-globallimit}
use Rattle.aqe_physical.proofs.counting.+parts.Goals as goal

pub overflow_cast-result : goal.overflow_cast-result
overflow_cast-result t c =
    let own = own_fits c.args.plan.now c.requires in
    let is : part_count c.args.plan.now ≡ length c.in-Read.rects = ap part_count c.in-Read.is in
    omega (arith, own, is, c.len.ensures)

pub parts-requires : goal.parts-requires
parts-requires t c = (search (rules, the_lemmas), search (rules, fit_steps))

pub parts-requires-in-Join : goal.parts-requires-in-Join
parts-requires-in-Join t c = (search (rules, the_lemmas), search (rules, fit_steps))

pub parts-requires-in-Union : goal.parts-requires-in-Union
parts-requires-in-Union t c = (search (rules, the_lemmas), search (rules, fit_steps))

pub parts-requires-in-Union-2 : goal.parts-requires-in-Union-2
parts-requires-in-Union-2 t c = (search (rules, the_lemmas), search (rules, fit_steps))

pub overflow_add-result : goal.overflow_add-result
overflow_add-result t c =
    let own = own_fits c.args.plan.now c.requires in
    let is = count-union c.args.plan.now c.in-Union.left c.in-Union.right c.in-Union.is in
    let left : part_count c.get-in-Union.result.now ≡ part_count c.in-Union.left = ap part_count c.get-in-Union.ensures in
    let right : part_count c.get-in-Union-2.result.now ≡ part_count c.in-Union.right = ap part_count c.get-in-Union-2.ensures in
    omega (arith, own, is, left, right, c.parts-in-Union.ensures, c.parts-in-Union-2.ensures)

pub parts-requires-in-Filter : goal.parts-requires-in-Filter
parts-requires-in-Filter t c = (
  search (rules, the_lemmas),
  (let q = c.in-Filter.child in
      let p = c.args.plan.now in
      let z = c.get-in-Filter.result.now in
      let same = c.get-in-Filter.ensures in
      let fit = c.requires in
      elim c.in-Filter.is [
        | inl a ↦ fits-filter p a.0 q z a.1 same fit
        | inr b ↦ elim b [
          | inl a ↦ fits-project p a.0 q z a.1 same fit
          | inr b ↦ elim b [
            | inl a ↦ fits-partialagg p a.0 a.1 q z a.2 same fit
            | inr b ↦ elim b [
              | inl a ↦ fits-finalagg p a.0 a.1 q z a.2 same fit
              | inr b ↦ elim b [
                | inl a ↦ fits-sort p a.0 q z a.1 same fit
                | inr b ↦ elim b [
                  | inl a ↦ fits-locallimit p a.0 q z a.1 same fit
                  | inr a ↦ fits-globallimit p a.0 a.1 q z a.2 same fit
                ]
              ]
            ]
          ]
        ]
      ]),
)
