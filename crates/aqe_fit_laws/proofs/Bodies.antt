-- Parts of a plan without an exchange can be run.
use Rattle.std.proofs.lemmas.List.Elements.{All-weaker}
use Rattle.aqe_logical.specs.Answers.{Tables}
use Rattle.aqe_physical.specs.declared.plan.Plan.{Plan, OneRow, Scan, Nothing, Read, ReadBroadcast}
use Rattle.aqe_physical.specs.Shapes.{kept, mapped, moved, matched, grouped, finished, ordered, cut_locally, cut_globally, both_of}
use Rattle.aqe_physical.specs.Nodes.{nodes}
use Rattle.aqe_physical.proofs.Nodes.{Each, each, all_nodes, each_weaker}
use Rattle.aqe_stages.specs.Stages.{Stages}
use Rattle.aqe_stages.specs.Parts.{all}
use Rattle.aqe_stages.specs.Runnable.{CanRun, Narrow, Runnable}
use Rattle.aqe_fit_laws.specs.Serving.{RunsAt, IsNoExchange, WithoutExchange}
use Rattle.aqe_fit_laws.specs.Laws.{PartsWithoutExchangeRun}
use Rattle.aqe_fit_laws.proofs.GroupPlaces.{all_both}

-- what holds of each plan within a plan holds of all within each of these
within_each : (P : Plan → Type 0) (p : Plan) → Each P p → Each (λ q. Each P q) p
within_each P OneRow h = h
within_each P (Scan table files) h = h
within_each P (Nothing count width) h = h
within_each P (Read stage maps reducers rects) h = h
within_each P (ReadBroadcast stage) h = h
within_each P (kept cond child) h = (h, within_each P child h.1)
within_each P (mapped items child) h = (h, within_each P child h.1)
within_each P (moved target child) h = (h, within_each P child h.1)
within_each P (matched y kind keys v w left right) h = (h, within_each P left h.1, within_each P right h.2)
within_each P (grouped keys calls child) h = (h, within_each P child h.1)
within_each P (finished keys calls child) h = (h, within_each P child h.1)
within_each P (ordered keys child) h = (h, within_each P child h.1)
within_each P (cut_locally count child) h = (h, within_each P child h.1)
within_each P (cut_globally count skip child) h = (h, within_each P child h.1)
within_each P (both_of left right) h = (h, within_each P left h.1, within_each P right h.2)

module _ (tables : Tables) (stages : Stages) where
  abbrev Runs : Plan → Type 0
  Runs node = CanRun tables stages node × Narrow (all tables stages node)

  runs : (node : Plan) → RunsAt tables stages node × IsNoExchange node → Runs node
  runs OneRow h = h.0
  runs (Scan table files) h = h.0
  runs (Nothing count width) h = h.0
  runs (Read stage maps reducers rects) h = h.0
  runs (ReadBroadcast stage) h = h.0
  runs (kept cond child) h = h.0
  runs (mapped items child) h = h.0
  runs (moved target child) h = absurd h.1
  runs (matched y kind keys v w left right) h = h.0
  runs (grouped keys calls child) h = h.0
  runs (finished keys calls child) h = h.0
  runs (ordered keys child) h = h.0
  runs (cut_locally count child) h = h.0
  runs (cut_globally count skip child) h = h.0
  runs (both_of left right) h = h.0

  body_runs : (body : Plan) → Each (RunsAt tables stages) body → WithoutExchange body → Runnable tables stages body
  body_runs body h none =
      All-weaker (λ node. RunsAt tables stages node × IsNoExchange node) Runs runs (nodes body)
      (all_both (RunsAt tables stages) IsNoExchange (nodes body) (all_nodes (RunsAt tables stages) body h) none)

pub bodies_run : PartsWithoutExchangeRun
bodies_run tables stages p h =
    all_nodes (λ body. WithoutExchange body → Runnable tables stages body) p
    (each_weaker (λ q. Each (RunsAt tables stages) q) (λ body. WithoutExchange body → Runnable tables stages body) (λ body. body_runs tables stages body) p
    (within_each (RunsAt tables stages) p (each (RunsAt tables stages) p h)))
