-- The program's FROM as the definitions see it, and what a call says of a walk.
use Rattle.std.specs.Prelude.{◌≡◌, List, map, Result, Ok, MatchResult}
use Rattle.aqe_rules.specs.declared.fault.AnalysisFault.{AnalysisFault}
use Rattle.aqe_rules.specs.Outcomes.{Outcome}
use Rattle.aqe_rules.specs.Faults.{Fails}
use Rattle.aqe_rules.specs.Sources.{Item, From, item, from_of}
use Rattle.aqe_sources.specs.declared.scope.FromItem.{FromItem}
use Rattle.aqe_sources.specs.declared.scope.FromPlan.{FromPlan}

abbrev pub item_seen : FromItem → Item
item_seen i = item i.name i.columns

abbrev pub items_seen : List FromItem → List Item
items_seen items = map item_seen items

abbrev pub from_seen : FromPlan → From
from_seen f = from_of f.plan (items_seen f.items)

-- the value of the walk as it is seen, or its first failing check, or want of memory
abbrev pub SaysSeen : {T U : Type 0} → (T → U) → Result T AnalysisFault → Outcome U → Type 0
SaysSeen seen result outcome = MatchResult result (λ t. outcome ≡ Ok (seen t)) (λ f. Fails f outcome)
