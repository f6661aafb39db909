-- A range that names a stage of samples names it whatever stages are made later, and the newest where that was made of it.
use Rattle.std.proofs.Common.{◌≡◌, refl, [], ◌∷◌, ◌++◌, length, List, Option, Some, None}
use Rattle.std.proofs.lemmas.List.Elements.{All-weaker}
use Rattle.aqe_base.specs.declared.stage_id.StageId.{StageId}
use Rattle.aqe_logical.specs.declared.plan.SortKey.{SortKey}
use Rattle.aqe_physical.specs.declared.target.Target.{Target}
use Rattle.aqe_physical.specs.declared.target.Target.TheVariants as target
use Rattle.aqe_physical.specs.declared.target.StageKind.TheVariants as kind
use Rattle.aqe_physical.specs.declared.plan.Plan.{Plan, OneRow, Scan, Nothing, Read, ReadBroadcast}
use Rattle.aqe_physical.specs.Shapes.{kept, mapped, moved, matched, grouped, finished, ordered, cut_locally, cut_globally, both_of}
use Rattle.aqe_physical.specs.Nodes.{nodes}
use Rattle.aqe_physical.proofs.Nodes.{Each, each, all_nodes, each_weaker}
use Rattle.aqe_stages.specs.Stages.{Stage, Stages}
use Rattle.aqe_stages.specs.Making.{Made, sampling, shuffled, broadcasted, sampled, in_kept, in_mapped, in_moved, in_left, in_right, in_grouped, in_finished, in_ordered, in_cut_locally, in_cut_globally, in_first, in_second}
use Rattle.aqe_stages.specs.Runnable.{NamesItsSample}
use Rattle.aqe_bodies.specs.Laws.{NamesSamplesAt, LaterStagesKeepSamples, MakingsKeepSamples}
use Rattle.aqe_bodies.proofs.Carried.{of_more}
use Rattle.aqe_bodies.proofs.MadeRuns.{newest}

-- a stage that holds samples
abbrev HoldsSamples : Stage → Type 0
HoldsSamples stage = (keys : List SortKey) × (stage.kind ≡ kind.Sample keys)

module _ (stages more : Stages) where
  abbrev Here : Plan → Type 0
  Here p = NamesSamplesAt stages p

  abbrev There : Plan → Type 0
  There p = NamesSamplesAt (stages ++ more) p

  pub named_more : (sample : Option StageId) → NamesItsSample stages sample → NamesItsSample (stages ++ more) sample
  named_more None h = absurd h
  named_more (Some stage) h = of_more stages more stage.0 HoldsSamples h

  -- what an exchange names does not depend on its child
  moved_more : (to : Target) (p q : Plan) → Here (moved to p) → There (moved to q)
  moved_more (target.Hash keys n) p q h = tt
  moved_more (target.Range keys n None) p q h = tt
  moved_more (target.Range keys n (Some stage)) p q h = named_more (Some stage) h
  moved_more target.Single p q h = tt
  moved_more target.Broadcast p q h = tt

  node_more : (p : Plan) → Here p → There p
  node_more OneRow h = tt
  node_more (Scan table files) h = tt
  node_more (Nothing count width) h = tt
  node_more (Read stage maps reducers rects) h = tt
  node_more (ReadBroadcast stage) h = tt
  node_more (kept c p) h = tt
  node_more (mapped items p) h = tt
  node_more (moved to p) h = moved_more to p p h
  node_more (matched how k keys v w p q) h = tt
  node_more (grouped keys calls p) h = tt
  node_more (finished n calls p) h = tt
  node_more (ordered keys p) h = tt
  node_more (cut_locally n p) h = tt
  node_more (cut_globally n s p) h = tt
  node_more (both_of p q) h = tt

  later_each : (p : Plan) → Each (NamesSamplesAt stages) p → Each (NamesSamplesAt (stages ++ more)) p
  later_each p h = each_weaker (NamesSamplesAt stages) (NamesSamplesAt (stages ++ more)) node_more p h

pub later_samples : LaterStagesKeepSamples
later_samples stages more plan h = All-weaker (NamesSamplesAt stages) (NamesSamplesAt (stages ++ more)) (node_more stages more) (nodes plan) h

module _ (stages : Stages) (number : StageId) (e : number.0 ≡ length stages) where
  abbrev Named : Plan → Type 0
  Named p = Each (NamesSamplesAt stages) p

  abbrev After : Stage → Plan → Type 0
  After stage q = Each (NamesSamplesAt (stages ++ stage ∷ [])) q

  made_named : (p q : Plan) (stage : Stage) → Made number p stage q → Named p → After stage q
  made_named p q stage (shuffled to child s) h = tt
  made_named p q stage (broadcasted child) h = tt
  made_named p q stage (sampled keys n child) h =
      (newest stages (sampling keys child) number.0 HoldsSamples e (keys, refl), later_each stages (sampling keys child ∷ []) child h.1)
  made_named p q stage (in_kept c x y st m) h = (tt, made_named x y st m h.1)
  made_named p q stage (in_mapped items x y st m) h = (tt, made_named x y st m h.1)
  made_named p q stage (in_moved to x y st m) h = (moved_more stages (st ∷ []) to x y h.0, made_named x y st m h.1)
  made_named p q stage (in_left how k keys v w x y other st m) h = (tt, made_named x y st m h.1, later_each stages (st ∷ []) other h.2)
  made_named p q stage (in_right how k keys v w other x y st m) h = (tt, later_each stages (st ∷ []) other h.1, made_named x y st m h.2)
  made_named p q stage (in_grouped keys calls x y st m) h = (tt, made_named x y st m h.1)
  made_named p q stage (in_finished n calls x y st m) h = (tt, made_named x y st m h.1)
  made_named p q stage (in_ordered keys x y st m) h = (tt, made_named x y st m h.1)
  made_named p q stage (in_cut_locally n x y st m) h = (tt, made_named x y st m h.1)
  made_named p q stage (in_cut_globally n k x y st m) h = (tt, made_named x y st m h.1)
  made_named p q stage (in_first x y other st m) h = (tt, made_named x y st m h.1, later_each stages (st ∷ []) other h.2)
  made_named p q stage (in_second other x y st m) h = (tt, later_each stages (st ∷ []) other h.1, made_named x y st m h.2)

pub made_samples : MakingsKeepSamples
made_samples stages number before after stage e m h =
    all_nodes (NamesSamplesAt (stages ++ stage ∷ [])) after (made_named stages number e before after stage m (each (NamesSamplesAt stages) before h))
