-- What a rule needs of the reader of the expressions that stand further in.
use Rattle.std.specs.Prelude.{ℕ, List, ◌<◌, length, Result, MatchResult}
use denote.Ref.{Bor}
use denote.Param.Members.{Shared}
use Rattle.aqe_trees.specs.declared.terminal.Terminal.{Terminal}
use Rattle.aqe_trees.specs.declared.expression.OrTree.{OrTree}
use Rattle.aqe_trees.specs.Expressions.{IsOr}
use Rattle.aqe_reader.specs.declared.fault.ReadFault.{ReadFault}
use Rattle.aqe_reader.specs.Reading.{Read, Refuses, IsRefusal}

-- it may be called on each list of fewer terminals than room, and then reads the expression at the front
pub record Nests {F : Type 0} (g : Shared F (Bor (List Terminal) × Unit {0}) (Result (OrTree × Bor (List Terminal)) ReadFault)) (f : F) (room : ℕ) : Type 0 where
  pub can : (p : Bor (List Terminal)) → length p.now < room → g.pre f (p, tt)
  pub reads : (p : Bor (List Terminal)) (r : Result (OrTree × Bor (List Terminal)) ReadFault) → length p.now < room → g.post f (p, tt) r →
      MatchResult r (λ x. Read IsOr 14 p.now x.0 x.1.now) (λ e. IsRefusal e → Refuses IsOr 14 p.now)
