-- Where expressions stand, as the rules see it.
use Rattle.aqe_rules.specs.Readings as rules
use Rattle.aqe_rules.specs.Selects.{with_aliases}
use Rattle.aqe_typing.specs.declared.place.Place.{Place}
use Rattle.aqe_typing.specs.Calls.{calls_seen}

-- the aliases are those of a select list; with an empty list there is none
abbrev pub place_seen : Place → rules.Place
place_seen p = with_aliases p.columns.now p.list.now (calls_seen p.calls.now)
