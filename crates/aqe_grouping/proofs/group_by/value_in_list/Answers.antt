use Rattle.aqe_grouping.proofs.PositionPlaces.{position_said, no_position}
use Rattle.aqe_grouping.proofs.group_by.value_in_list.Goals as goal

pub returns-in-Some : goal.returns-in-Some
returns-in-Some c =
    position_said c.args.columns.now c.args.list.now c.args.negative c.args.n c.place_of.result c.place_of.ensures c.in-Some.place c.in_list.result c.value_there.result c.in-Some.is c.in_list.ensures
    c.value_there.ensures

pub returns-in-None : goal.returns-in-None
returns-in-None c =
    no_position c.args.columns.now c.args.list.now c.args.negative c.args.n c.place_of.result c.place_of.ensures c.bad_position.result c.in-None.is c.bad_position.ensures
