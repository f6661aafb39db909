-- How a session begins.
use Rattle.std.specs.Prelude.{◌≡◌, false, List, [], ◌∷◌, None}
use Rattle.aqe_settings.specs.declared.entry.Value.{Value}
use Rattle.aqe_logical.specs.declared.plan.Logical.{Logical}
use Rattle.aqe_physical.specs.declared.sizes.Estimate.{Estimate}
use Rattle.aqe_fitting.specs.Fits.{Fits}
use Rattle.aqe_scheduler.specs.Stands.{StandsFor}
use Rattle.aqe_scheduler.specs.Tables.{births_on}
use Rattle.aqe_steps.specs.declared.run.Run.{Run}

-- the first plan fits, it was noted as the first version, and nothing was made and nothing has ended yet
pub record Begins (query : Logical) (estimates : List Estimate) (settings : List Value) (run : Run) : Type 0 where
  pub fits : Fits run.versions.plan query estimates [] settings
  pub has_result : run.versions.has_result ≡ false
  pub adopted : run.adopted ≡ record { position = 0; logical = query; plan = run.versions.plan } ∷ []
  pub board : StandsFor run.board []
  pub births : births_on run.board ≡ []
  pub stages : run.stages.items ≡ []
  pub whole : run.whole ≡ []
  pub result : run.result ≡ None
  pub outputs : run.outputs ≡ []
  pub fates : run.fates ≡ []
  pub runs : run.runs ≡ []
