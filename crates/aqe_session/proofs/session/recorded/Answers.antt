use Rattle.aqe_settings.specs.Values.{values_of}
use Rattle.aqe_session.proofs.Answering.{answered_is, is_ready}
use Rattle.aqe_session.proofs.session.recorded.Goals as goal

pub answered-requires : goal.answered-requires
answered-requires g c = is_ready c.args.logical c.args.tables.now (values_of c.args.settings.now) c.requires.query c.in-Ok.run' c.requires.range c.in-Ok.ensures

pub returns-in-Ok : goal.returns-in-Ok
returns-in-Ok g c =
    answered_is c.args.logical c.args.tables.now (values_of c.args.settings.now) c.requires.query c.in-Ok.run' c.args.query _ _ c.answered.result c.requires.range c.in-Ok.ensures c.answered.ensures
