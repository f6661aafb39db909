-- What is not carried out yet. A later step of the work deletes a line here and puts the rule in its place.
use Rattle.std.specs.Prelude.{◌≡◌, Bool, true, false, List, []}
use Rattle.aqe_base.specs.declared.stage_id.StageId.{StageId}
use Rattle.aqe_settings.specs.declared.entry.Value.{Value}
use Rattle.aqe_logical.specs.declared.plan.Logical.{Logical}
use Rattle.aqe_journal.specs.Asked.{Asked}

-- Whether the rest of a query is planned again at turning points. The setting `spark.sql.adaptive.enabled` will say so; until then it
-- never is, whatever the settings say.
abbrev pub plans_again : List Value → Bool
plans_again settings = false

-- What becomes of a logical plan when it is known which stages hold no rows. Empty relations are not propagated yet: it stays.
abbrev pub Emptied : Logical → List StageId → Logical → Type 0
Emptied plan empties after = after ≡ plan

-- no events are taken from a file yet, and the rest is run
abbrev pub RunsAlone : Asked → Type 0
RunsAlone asked = (asked.events ≡ []) × (asked.rest_runs ≡ true)
