-- What can be seen of an expression before its names are known.
use Rattle.std.specs.Prelude.{ℕ, List, [], ◌∷◌, ◌++◌, flat_map, Bool, true, false, ◌||◌, Option, codes}
use Rattle.std.specs.List.{list_any}
use Rattle.std.specs.Option.{option_map_or, is_some}
use Rattle.aqe_rules.specs.Forms.{Forms}
use Rattle.aqe_rules.specs.Readings.{aggregate_named}

-- what an expression mentions: a name, the name of a column of an item, or an aggregate function
pub data Mention : Type 0 where
  plain : List ℕ → Mention
  of_item : List ℕ → List ℕ → Mention
  aggregate : List ℕ → Mention

abbrev pub mentioned_if_any : Option (List Mention) → List Mention
mentioned_if_any a = option_map_or (λ m. m) a []

abbrev pub mentioned_in_call : List ℕ → List Mention → List Mention
mentioned_in_call name mentions = option_map_or (λ fun. aggregate name ∷ mentions) (aggregate_named name) mentions

-- all that an expression mentions, from left to right, a call before its arguments
abbrev pub mentions : Forms (List Mention)
mentions = record {
  number = λ negative n long. [];
  literal = λ content. [];
  boolean = λ b. [];
  null = [];
  column = λ name. plain name ∷ [];
  table_column = λ table name. of_item table name ∷ [];
  paren = λ a. a;
  cast = λ kind a. a;
  case = λ operand arms otherwise. mentioned_if_any operand ++ flat_map (λ arm. arm.0 ++ arm.1) arms ++ mentioned_if_any otherwise;
  count_all = aggregate (codes "count") ∷ [];
  call = λ name arguments. mentioned_in_call name (flat_map (λ a. a) arguments);
  with_sign = λ op a. a;
  product = λ op a b. a ++ b;
  sum = λ op a b. a ++ b;
  compare = λ op a b. a ++ b;
  between = λ a low high. a ++ low ++ high;
  in_list = λ a all. a ++ flat_map (λ b. b) all;
  like = λ a b. a ++ b;
  is = λ truth a. a;
  negation = λ a. a;
  both = λ a b. a ++ b;
  either = λ a b. a ++ b;
}

-- Whether an aggregate function is called in an expression.
abbrev pub called_if_any : Option Bool → Bool
called_if_any a = option_map_or (λ b. b) a false

abbrev pub aggregates : Forms Bool
aggregates = record {
  number = λ negative n long. false;
  literal = λ content. false;
  boolean = λ b. false;
  null = false;
  column = λ name. false;
  table_column = λ table name. false;
  paren = λ a. a;
  cast = λ kind a. a;
  case = λ operand arms otherwise. called_if_any operand || list_any (λ arm. arm.0 || arm.1) arms || called_if_any otherwise;
  count_all = true;
  call = λ name arguments. is_some (aggregate_named name) || list_any (λ a. a) arguments;
  with_sign = λ op a. a;
  product = λ op a b. a || b;
  sum = λ op a b. a || b;
  compare = λ op a b. a || b;
  between = λ a low high. a || low || high;
  in_list = λ a all. a || list_any (λ b. b) all;
  like = λ a b. a || b;
  is = λ truth a. a;
  negation = λ a. a;
  both = λ a b. a || b;
  either = λ a b. a || b;
}

-- An expression may be a number alone, or the name of a column alone; parentheses do not count.
pub data Alone : Type 0 where
  a_number : Bool → ℕ → Alone
  a_column : Alone
  something : Alone

abbrev pub alone : Forms Alone
alone = record {
  number = λ negative n long. a_number negative n;
  literal = λ content. something;
  boolean = λ b. something;
  null = something;
  column = λ name. a_column;
  table_column = λ table name. a_column;
  paren = λ a. a;
  cast = λ kind a. something;
  case = λ operand arms otherwise. something;
  count_all = something;
  call = λ name arguments. something;
  with_sign = λ op a. something;
  product = λ op a b. something;
  sum = λ op a b. something;
  compare = λ op a b. something;
  between = λ a low high. something;
  in_list = λ a all. something;
  like = λ a b. something;
  is = λ truth a. something;
  negation = λ a. something;
  both = λ a b. something;
  either = λ a b. something;
}
