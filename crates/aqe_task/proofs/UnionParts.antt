-- Which part of a union is which part of its sides.
use Rattle.std.proofs.Common.{◌≡◌, ℕ, ◌-◌, ◌<◌, ◌≤◌, List, [], ◌++◌, Bool, ap, sym, subst, ◌∙◌, arith, cond}
use Rattle.std.specs.Prelude.{All}
use Rattle.std.proofs.lemmas.Bool.{lt-ltb, le-ltb}
use Rattle.std.proofs.lemmas.List.{get_or_append_left, get_or-append_right}
use Rattle.std.proofs.lemmas.List.Elements.{All-tail}
use Rattle.aqe_blocks.specs.Kept.{AllKept}
use Rattle.aqe_logical.specs.Answers.{Row, Tables}
use Rattle.aqe_physical.specs.declared.plan.Plan.{Plan}
use Rattle.aqe_physical.specs.declared.plan.Plan.TheVariants.{Union}
use Rattle.aqe_physical.specs.Shapes.{both_of}
use Rattle.aqe_physical.specs.Nodes.{nodes}
use Rattle.aqe_physical.specs.Counts.{part_count}
use Rattle.aqe_physical.proofs.Shapes.{is_both_of}
use Rattle.aqe_physical.proofs.Walk.{all_left, all_right}
use Rattle.aqe_stages.specs.Stages.{Stages}
use Rattle.aqe_stages.specs.Parts.{parts, given_by, out}
use Rattle.aqe_stages.specs.Reads.{needs}
use Rattle.aqe_stages.proofs.Counted.{counted}
use Rattle.aqe_task.specs.Built.{is_built, IsBuiltBody}
use Rattle.aqe_task.specs.Tasks.{IsMet, IsServed, GivesPart}
use Rattle.aqe_task.proofs.FormSteps.{Served}
use Rattle.aqe_task.proofs.JoinSteps.{and_left, and_right}
use Rattle.aqe_task.proofs.PartFacts.{Runs}

pub built-first : (p l r z : Plan) → p ≡ Union l r → z ≡ l → IsBuiltBody p → IsBuiltBody z
built-first p l r z e f h = subst IsBuiltBody (sym f) (and_left (is_built l) (is_built r) (subst IsBuiltBody (e ∙ is_both_of l r) h))

pub built-second : (p l r z : Plan) → p ≡ Union l r → z ≡ r → IsBuiltBody p → IsBuiltBody z
built-second p l r z e f h = subst IsBuiltBody (sym f) (and_right (is_built l) (is_built r) (subst IsBuiltBody (e ∙ is_both_of l r) h))

module _ (tables : Tables) (held : AllKept) (k : ℕ) (l r : Plan) where
  -- what a part of a union needs is needed by the part of the side
  needs_first : k < part_count l → needs (both_of l r) k ≡ needs l k
  needs_first h = ap (λ (b : Bool). cond b (needs l k) (needs r (k - part_count l))) (lt-ltb k (part_count l) h)

  needs_second : part_count l ≤ k → needs (both_of l r) k ≡ needs r (k - part_count l)
  needs_second h = ap (λ (b : Bool). cond b (needs l k) (needs r (k - part_count l))) (le-ltb k (part_count l) h)

  first_served : (stages : Stages) → k < part_count l → IsServed tables stages held (both_of l r) k → IsServed tables stages held l k
  first_served stages h s = record {
    runs = all_left (Runs tables stages) (nodes l) (nodes r) (All-tail (Runs tables stages) (both_of l r) (nodes l ++ nodes r) s.runs);
    within = h;
    reads = subst (All (IsMet tables stages held)) (needs_first h) s.reads;
  }

  second_served : (stages : Stages) → part_count l ≤ k → IsServed tables stages held (both_of l r) k → IsServed tables stages held r (k - part_count l)
  second_served stages h s = record {
    runs = all_right (Runs tables stages) (nodes l) (nodes r) (All-tail (Runs tables stages) (both_of l r) (nodes l ++ nodes r) s.runs);
    within = (let within = s.within in omega (arith, within, h));
    reads = subst (All (IsMet tables stages held)) (needs_second h) s.reads;
  }

  out_first : (stages : Stages) → k < part_count l → out tables stages (both_of l r) k ≡ out tables stages l k
  out_first stages h =
      get_or_append_left (parts tables (given_by tables stages) l) (parts tables (given_by tables stages) r) [] k
      (subst (λ (n : ℕ). k < n) (sym (counted tables (given_by tables stages) l)) h)

  out_second : (stages : Stages) → part_count l ≤ k → out tables stages (both_of l r) k ≡ out tables stages r (k - part_count l)
  out_second stages h =
      get_or-append_right (parts tables (given_by tables stages) l) (parts tables (given_by tables stages) r) (part_count l) k [] (counted tables (given_by tables stages) l) h

-- the same, as the code takes the parts
module _ (tables : Tables) (held : AllKept) (k : ℕ) (p l r : Plan) (e : p ≡ Union l r) (first : Plan) (f : first ≡ l) where
  abbrev at_union : (stages : Stages) → IsServed tables stages held p k → IsServed tables stages held (both_of l r) k
  at_union stages s = subst (λ (q : Plan). IsServed tables stages held q k) (e ∙ is_both_of l r) s

  among : (part_count first ≤ k → ⊥) → k < part_count l
  among none = let same : part_count first ≡ part_count l = ap part_count f in omega (arith, none, same)

  pub serves-first : (z : Plan) → z ≡ l → (part_count first ≤ k → ⊥) → Served tables held k p → Served tables held k z
  serves-first z g none h = subst (Served tables held k) (sym g) (h.0, first_served tables held k l r h.0 (among none) (at_union h.0 h.1))

  pub gives-first : (z : Plan) → z ≡ l → (rows : List Row) → (part_count first ≤ k → ⊥) → GivesPart tables held z k rows → GivesPart tables held p k rows
  gives-first z g rows none child =
      subst (λ (q : Plan). GivesPart tables held q k rows) (sym (e ∙ is_both_of l r)) (λ stages s.
      subst (λ (q : Plan). GivesPart tables held q k rows) g child stages (first_served tables held k l r stages (among none) s) ∙ sym (out_first tables held k l r stages (among none)))

  -- the part of the second side is counted from the end of the first
  module _ (second : Plan) (g : second ≡ r) (rest : ℕ) (behind : (part_count first ≤ k) × (rest ≡ k - part_count first)) where
    abbrev high : part_count l ≤ k
    high = subst (λ (q : Plan). part_count q ≤ k) f behind.0

    abbrev is_rest : rest ≡ k - part_count l
    is_rest = behind.1 ∙ ap (λ (q : Plan). k - part_count q) f

    pub serves-second : Served tables held k p → Served tables held rest second
    serves-second h =
        subst (λ (n : ℕ). Served tables held n second) (sym is_rest)
        (subst (Served tables held (k - part_count l)) (sym g) (h.0, second_served tables held k l r h.0 high (at_union h.0 h.1)))

    pub gives-second : (rows : List Row) → GivesPart tables held second rest rows → GivesPart tables held p k rows
    gives-second rows child =
        subst (λ (q : Plan). GivesPart tables held q k rows) (sym (e ∙ is_both_of l r)) (λ stages s.
        subst (λ (n : ℕ). GivesPart tables held r n rows) is_rest (subst (λ (q : Plan). GivesPart tables held q rest rows) g child) stages
        (second_served tables held k l r stages high s) ∙ sym (out_second tables held k l r stages high))
