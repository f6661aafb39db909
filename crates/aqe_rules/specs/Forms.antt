-- What is made of an expression's tree, from what is made of its operands. Operators of one level stand from left to right.
use Rattle.std.specs.Prelude.{ℕ, List, Bool, Option}
use Rattle.aqe_values.specs.declared.sql_type.SqlType.{SqlType}
use Rattle.aqe_trees.specs.declared.expression.CompareOp.{CompareOp}
use Rattle.aqe_trees.specs.declared.expression.Sign.{Sign}
use Rattle.aqe_trees.specs.declared.expression.ProductOp.{ProductOp}
use Rattle.aqe_trees.specs.declared.expression.Truth.{Truth}

-- one rule for each form of an expression
pub record Forms (A : Type 0) : Type 0 where
  -- a number that may be negative, its digits' value, and whether it bears the letter of BIGINT
  pub number : Bool → ℕ → Bool → A
  pub literal : List ℕ → A
  pub boolean : Bool → A
  pub null : A
  -- `name`, and `table.name`
  pub column : List ℕ → A
  pub table_column : List ℕ → List ℕ → A
  pub paren : A → A
  pub cast : SqlType → A → A
  -- the operand of a CASE, its arms, and its ELSE
  pub case : Option A → List (A × A) → Option A → A
  -- `count(*)`, and a call with its arguments
  pub count_all : A
  pub call : List ℕ → List A → A
  pub with_sign : Sign → A → A
  pub product : ProductOp → A → A → A
  pub sum : Sign → A → A → A
  pub compare : CompareOp → A → A → A
  pub between : A → A → A → A
  pub in_list : A → List A → A
  pub like : A → A → A
  pub is : Truth → A → A
  pub negation : A → A
  pub both : A → A → A
  pub either : A → A → A
