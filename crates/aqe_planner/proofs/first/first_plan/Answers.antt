use Rattle.std.proofs.Common.{[]}
use Rattle.aqe_settings.specs.Values.{values_of, partitions}
use Rattle.aqe_fitting.specs.Fits.{facts_of}
use Rattle.aqe_fitting.specs.InForce.{in_force}
use Rattle.aqe_fitting.specs.Known.{files_of}
use Rattle.aqe_fitting.specs.Ways.{ways_by_sizes}
use Rattle.aqe_fitting.proofs.NoReads.{no_reads}
use Rattle.aqe_planner.proofs.NoReads.{reads_nothing}
use Rattle.aqe_planner.proofs.first.first_plan.Goals as goal

pub returns : goal.returns
returns c =
    let fit = no_reads (facts_of c.args.logical.now [] (values_of c.args.settings.now)) c.in_ok-planned.planned.plan
    (reads_nothing (ways_by_sizes c.args.estimates.now [] (in_force (values_of c.args.settings.now))) (partitions (values_of c.args.settings.now)) (files_of c.args.estimates.now)
    c.args.logical.now c.in_ok-planned.planned.plan c.in_ok-planned.planned.place c.in_ok-planned.ensures c.requires.built) in
    ((c.in_ok-planned.planned.place, c.in_ok-planned.ensures), fit.0, fit.1)
