-- What a plan that is planned for a logical plan gives.
use Rattle.std.specs.Prelude.{ℕ, ◌<◌, List, All}
use Rattle.aqe_logical.specs.declared.plan.Placement.{Placement}
use Rattle.aqe_logical.specs.declared.plan.Placement.TheVariants as place
use Rattle.aqe_logical.specs.declared.plan.Logical.{Logical}
use Rattle.aqe_logical.specs.Answers.{Row, Tables, Answer}
use Rattle.aqe_logical.specs.Columns.{width}
use Rattle.aqe_logical.specs.Groups.{row_of}
use Rattle.aqe_logical.specs.Order.{key_of}
use Rattle.aqe_logical.specs.WellFormed.{ItemsBelow, KeysBelow}
use Rattle.aqe_physical.specs.declared.target.Target.{Target}
use Rattle.aqe_physical.specs.declared.target.Target.TheVariants as target
use Rattle.aqe_physical.specs.declared.plan.Plan.{Plan}
use Rattle.aqe_physical.specs.Shapes.{moved}
use Rattle.aqe_physical.specs.Nodes.{nodes}
use Rattle.aqe_stages.specs.Stages.{Stages}
use Rattle.aqe_stages.specs.Parts.{parts, given_by, all}
use Rattle.aqe_stages.specs.Runnable.{CanRun, Narrow, NarrowKeys}
use Rattle.aqe_fit_laws.specs.Standing.{Stands, plainly}
use Rattle.aqe_fit_laws.specs.Leaves.{held_rows}

-- the keys of a placement are over so many columns
abbrev pub KeysOver : ℕ → Placement → Type 0
KeysOver n (place.Hash keys) = ItemsBelow n keys
KeysOver n (place.Range keys) = KeysBelow n keys
KeysOver n w = Unit {0}

-- an exchange has a part, and narrow key rows
abbrev pub CanMove : Target → List Row → Type 0
CanMove (target.Hash keys n) rows = (0 < n) × NarrowKeys (row_of keys) rows
CanMove (target.Range keys n sample) rows = (0 < n) × NarrowKeys (key_of keys) rows
CanMove to rows = Unit {0}

-- each plan within a plan can run, apart from its exchanges, which can move what is below them
abbrev pub RunsAt : Tables → Stages → Plan → Type 0
RunsAt tables stages (moved to child) = CanMove to (all tables stages child)
RunsAt tables stages node = CanRun tables stages node × Narrow (all tables stages node)

-- All rows of the plan, part by part, are an answer of the logical plan; its parts stand as its placement says, whose keys are over its
-- columns; and it runs.
pub record Serves (tables : Tables) (stages : Stages) (n : ℕ) (x : Logical) (p : Plan) (w : Placement) : Type 0 where
  pub answers : Answer tables (held_rows tables stages) x (all tables stages p)
  pub stands : Stands n (plainly n) w (parts tables (given_by tables stages) p)
  pub over : KeysOver (width x) w
  pub runs : All (RunsAt tables stages) (nodes p)

-- a plan without an exchange, as the body of a stage is
abbrev pub IsNoExchange : Plan → Type 0
IsNoExchange (moved to child) = ⊥
IsNoExchange node = Unit {0}

abbrev pub WithoutExchange : Plan → Type 0
WithoutExchange p = All IsNoExchange (nodes p)
