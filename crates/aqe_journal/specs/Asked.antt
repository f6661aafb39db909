-- What a record is legal for.
use Rattle.std.specs.Prelude.{Bool, List}
use Rattle.aqe_base.specs.declared.event.Event.{Event}
use Rattle.aqe_settings.specs.declared.entry.Value.{Value}
use Rattle.aqe_logical.specs.declared.plan.Logical.{Logical}
use Rattle.aqe_logical.specs.Answers.{Tables}
use Rattle.aqe_physical.specs.declared.sizes.Estimate.{Estimate}

-- A query as it is asked: its analysed plan, the tables, the estimates of their sizes, the values of the 18 settings in the order
-- of their table, the events of its tasks, and whether the tasks that no event ends are ended by the program: the rest is run.
pub record Asked : Type 0 where
  pub query : Logical
  pub tables : Tables
  pub estimates : List Estimate
  pub settings : List Value
  pub events : List Event
  pub rest_runs : Bool
