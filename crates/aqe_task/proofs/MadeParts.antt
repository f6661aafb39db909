-- A part of a plan that is made of the same part of the plan below it.
use Rattle.std.proofs.Common.{◌≡◌, ℕ, ◌+◌, List, [], length, ap, sym, subst, ◌∙◌}
use Rattle.std.specs.Prelude.{slice_index_or, map}
use Rattle.std.proofs.lemmas.List.Elements.{All-tail}
use Rattle.aqe_blocks.specs.Kept.{AllKept}
use Rattle.aqe_logical.specs.Answers.{Row, Tables}
use Rattle.aqe_logical.specs.WellFormed.{HaveWidth}
use Rattle.aqe_physical.specs.declared.plan.Plan.{Plan}
use Rattle.aqe_physical.specs.Shapes.{kept, mapped, grouped, finished, ordered, cut_locally, cut_globally}
use Rattle.aqe_physical.specs.Nodes.{nodes}
use Rattle.aqe_stages.specs.Stages.{Stages, Given}
use Rattle.aqe_stages.specs.Parts.{parts, given_by, out}
use Rattle.aqe_stages.specs.Runnable.{Narrow}
use Rattle.aqe_task.specs.Below.{IsBelow, made_by, CanMake}
use Rattle.aqe_task.specs.Built.{IsBuiltBody}
use Rattle.aqe_task.specs.Tasks.{IsServed, GivesPart}
use Rattle.aqe_task.proofs.FormSteps.{Served}
use Rattle.aqe_task.proofs.PartFacts.{own, part_all, out_narrow, part_by_part, Runs}

-- what is carried out is carried out below
pub built_below : (p q : Plan) → IsBelow p q → IsBuiltBody p → IsBuiltBody q
built_below (kept c x) q is h = subst IsBuiltBody (sym is) h
built_below (mapped i x) q is h = subst IsBuiltBody (sym is) h
built_below (grouped ks cs x) q is h = subst IsBuiltBody (sym is) h
built_below (finished n cs x) q is h = subst IsBuiltBody (sym is) h
built_below (ordered ks x) q is h = subst IsBuiltBody (sym is) h
built_below (cut_locally n x) q is h = subst IsBuiltBody (sym is) h
built_below (cut_globally n s x) q is h = subst IsBuiltBody (sym is) h
built_below p q is h = absurd is

module _ (tables : Tables) (held : AllKept) (k : ℕ) where
  -- what serves a plan serves the one below it
  pub served_below : (stages : Stages) (p q : Plan) → IsBelow p q → IsServed tables stages held p k → IsServed tables stages held q k
  served_below stages (kept c x) q is s =
      subst (λ (z : Plan). IsServed tables stages held z k) (sym is) (record { runs = All-tail (Runs tables stages) (kept c x) (nodes x) s.runs; within = s.within; reads = s.reads })
  served_below stages (mapped i x) q is s =
      subst (λ (z : Plan). IsServed tables stages held z k) (sym is) (record { runs = All-tail (Runs tables stages) (mapped i x) (nodes x) s.runs; within = s.within; reads = s.reads })
  served_below stages (grouped ks cs x) q is s =
      subst (λ (z : Plan). IsServed tables stages held z k) (sym is) (record { runs = All-tail (Runs tables stages) (grouped ks cs x) (nodes x) s.runs; within = s.within; reads = s.reads })
  served_below stages (finished n cs x) q is s =
      subst (λ (z : Plan). IsServed tables stages held z k) (sym is) (record { runs = All-tail (Runs tables stages) (finished n cs x) (nodes x) s.runs; within = s.within; reads = s.reads })
  served_below stages (ordered ks x) q is s =
      subst (λ (z : Plan). IsServed tables stages held z k) (sym is) (record { runs = All-tail (Runs tables stages) (ordered ks x) (nodes x) s.runs; within = s.within; reads = s.reads })
  served_below stages (cut_locally n x) q is s =
      subst (λ (z : Plan). IsServed tables stages held z k) (sym is) (record { runs = All-tail (Runs tables stages) (cut_locally n x) (nodes x) s.runs; within = s.within; reads = s.reads })
  served_below stages (cut_globally n j x) q is s =
      subst (λ (z : Plan). IsServed tables stages held z k) (sym is) (record { runs = All-tail (Runs tables stages) (cut_globally n j x) (nodes x) s.runs; within = s.within; reads = s.reads })
  served_below stages p q is s = absurd is

  pub serves_below : (p q : Plan) → IsBelow p q → Served tables held k p → Served tables held k q
  serves_below p q is h = (h.0, served_below h.0 p q is h.1)

  -- each part is made of that below
  parts_made : (given : Given) (p q : Plan) → IsBelow p q → parts tables given p ≡ map (made_by p) (parts tables given q)
  parts_made given (kept c x) q is = ap (λ (z : Plan). map (made_by (kept c x)) (parts tables given z)) (sym is)
  parts_made given (mapped i x) q is = ap (λ (z : Plan). map (made_by (mapped i x)) (parts tables given z)) (sym is)
  parts_made given (grouped ks cs x) q is = ap (λ (z : Plan). map (made_by (grouped ks cs x)) (parts tables given z)) (sym is)
  parts_made given (finished n cs x) q is = ap (λ (z : Plan). map (made_by (finished n cs x)) (parts tables given z)) (sym is)
  parts_made given (ordered ks x) q is = ap (λ (z : Plan). map (made_by (ordered ks x)) (parts tables given z)) (sym is)
  parts_made given (cut_locally n x) q is = ap (λ (z : Plan). map (made_by (cut_locally n x)) (parts tables given z)) (sym is)
  parts_made given (cut_globally n s x) q is = ap (λ (z : Plan). map (made_by (cut_globally n s x)) (parts tables given z)) (sym is)
  parts_made given p q is = absurd is

  out_made : (stages : Stages) (p q : Plan) → IsBelow p q → IsServed tables stages held q k → out tables stages p k ≡ made_by p (out tables stages q k)
  out_made stages p q is s =
      ap (λ (ps : List (List Row)). slice_index_or ps k []) (parts_made (given_by tables stages) p q is) ∙ part_by_part tables stages held q k (made_by p) s

  pub gives-made : (p q : Plan) (rows l : List Row) → IsBelow p q → GivesPart tables held q k rows → l ≡ made_by p rows → GivesPart tables held p k l
  gives-made p q rows l is child h stages s =
      let low = served_below stages p q is s in
      h ∙ (ap (made_by p) (child stages low) ∙ sym (out_made stages p q is low))

  -- and it can be made
  fits_made : (stages : Stages) (p q : Plan) (rows : List Row) → IsBelow p q → IsServed tables stages held p k → rows ≡ out tables stages q k → Narrow rows → Narrow (made_by p rows) → CanMake p rows
  fits_made stages (kept c x) q rows is s e narrow made = tt
  fits_made stages (mapped i x) q rows is s e narrow made = made
  fits_made stages (grouped ks cs x) q rows is s e narrow made = made
  fits_made stages (finished n cs x) q rows is s e narrow made =
      let whole = (own (Runs tables stages) (finished n cs x) s.runs).0 in
      let same : rows ≡ out tables stages x k = e ∙ ap (λ (z : Plan). out tables stages z k) is in
      (subst (HaveWidth (n + length cs)) (sym same) (part_all (λ (row : Row). length row ≡ n + length cs) (parts tables (given_by tables stages) x) k whole), narrow, made)
  fits_made stages (ordered ks x) q rows is s e narrow made = tt
  fits_made stages (cut_locally n x) q rows is s e narrow made = tt
  fits_made stages (cut_globally n j x) q rows is s e narrow made = tt
  fits_made stages p q rows is s e narrow made = absurd is

  pub can-make : (p q : Plan) (rows : List Row) → IsBelow p q → Served tables held k p → GivesPart tables held q k rows → CanMake p rows
  can-make p q rows is h child =
      let low = served_below h.0 p q is h.1 in
      let e = child h.0 low in
      fits_made h.0 p q rows is h.1 e (subst Narrow (sym e) (out_narrow tables h.0 held q k low))
      (subst Narrow (sym (ap (made_by p) e ∙ sym (out_made h.0 p q is low))) (out_narrow tables h.0 held p k h.1))
