-- What the expressions of a SELECT are built of.
use Rattle.aqe_rules.specs.declared.typed.Typed.{Typed}
use Rattle.aqe_rules.specs.Outcomes.{Outcome}
use Rattle.aqe_rules.specs.Selects.{built}
use Rattle.aqe_outputs.specs.declared.building.Building.{Building}

-- in a grouped query, of its keys and the columns of FROM; in another one each expression stays as it is
abbrev pub built_by : Building → Typed → Outcome Typed
built_by b = built b.is_grouped b.keys.now b.columns.now
