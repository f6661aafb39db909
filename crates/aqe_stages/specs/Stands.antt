-- When a physical plan stands for a query.
use Rattle.aqe_logical.specs.declared.plan.Logical.{Logical}
use Rattle.aqe_logical.specs.Answers.{Tables, AnswerOf}
use Rattle.aqe_physical.specs.declared.plan.Plan.{Plan}
use Rattle.aqe_stages.specs.Stages.{Stages}
use Rattle.aqe_stages.specs.Parts.{all}

-- a plan over stages stands for a query where all its rows, in order, are an answer of the query over the same tables
abbrev pub StandsFor : Tables → Stages → Plan → Logical → Type 0
StandsFor tables stages plan query = AnswerOf tables query (all tables stages plan)
