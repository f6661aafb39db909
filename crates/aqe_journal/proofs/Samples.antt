-- Ranges and their samples: what a query has none of, what a stage that is made of a range names, and what its kind can keep.
use Rattle.std.proofs.Common.{◌≡◌, refl, subst, List, [], ◌∷◌, ◌++◌, Some, None}
use Rattle.aqe_base.specs.declared.join_kind.Side.TheVariants.{Left, Right}
use Rattle.aqe_logical.specs.declared.plan.Logical.{Logical, OneRow, Scan, Empty, Held, HeldPartial}
use Rattle.aqe_logical.specs.Shapes.{filtered, projected, joined, aggregated, united, sorted, limited, sampled}
use Rattle.aqe_logical.specs.Answers.{Row}
use Rattle.aqe_logical.specs.Order.{key_of}
use Rattle.aqe_logical.specs.WellFormed.{IsOfAQuery}
use Rattle.aqe_logical.proofs.Nodes.{Each}
use Rattle.aqe_physical.specs.declared.target.Target.{Target}
use Rattle.aqe_physical.specs.declared.target.Target.TheVariants as target
use Rattle.aqe_physical.specs.declared.target.StageKind.{StageKind}
use Rattle.aqe_physical.specs.declared.target.StageKind.TheVariants as kind
use Rattle.aqe_physical.specs.declared.plan.Plan.{Plan}
use Rattle.aqe_physical.specs.Shapes.{kept, mapped, moved, matched, grouped, finished, ordered, cut_locally, cut_globally, both_of}
use Rattle.aqe_stages.specs.Stages.{Stage, Stages}
use Rattle.aqe_stages.specs.Reads.{KindNamesSample}
use Rattle.aqe_stages.specs.Runnable.{CanKeep, NarrowKeys}
use Rattle.aqe_making.specs.Makings.{Place, stage_of}
use Rattle.aqe_making.specs.After.{stage_at}
use Rattle.aqe_making.proofs.Lists.{no_stage, same_stage}
use Rattle.aqe_fitting.specs.Placing.{sample_of}
use Rattle.aqe_bodies.proofs.Named.{named_more}

-- a plan of a query has no sample
pub no_sample : (x : Logical) → Each IsOfAQuery x → sample_of x ≡ None
no_sample OneRow q = refl
no_sample (Scan table schema) q = refl
no_sample (filtered c x) q = refl
no_sample (projected items schema x) q = refl
no_sample (joined k c x y) q = refl
no_sample (aggregated keys calls schema x) q = refl
no_sample (united x y) q = refl
no_sample (sorted keys x) q = refl
no_sample (limited count skip x) q = refl
no_sample (Empty schema) q = refl
no_sample (Held stage w schema) q = refl
no_sample (HeldPartial stage calls schema) q = refl
no_sample (sampled stage x) q = absurd q.0

-- the stage that is made of a range names its sample, or is that sample
kind_named : (to : Target) (p : Plan) → KindNamesSample (stage_of to p).kind
kind_named (target.Hash keys n) p = tt
kind_named (target.Range keys n None) p = tt
kind_named (target.Range keys n (Some stage)) p = tt
kind_named target.Single p = tt
kind_named target.Broadcast p = tt

pub stage_named : (place : Place) (p : Plan) (stage : Stage) → stage_at place p ≡ Some stage → KindNamesSample stage.kind
stage_named (Left ∷ place) (kept c p) stage e = stage_named place p stage e
stage_named (Left ∷ place) (mapped items p) stage e = stage_named place p stage e
stage_named [] (moved to p) stage e = subst (λ (s : Stage). KindNamesSample s.kind) (same_stage (stage_of to p) stage e) (kind_named to p)
stage_named (Left ∷ place) (moved to p) stage e = stage_named place p stage e
stage_named (Left ∷ place) (matched how k keys v w p q) stage e = stage_named place p stage e
stage_named (Right ∷ place) (matched how k keys v w p q) stage e = stage_named place q stage e
stage_named (Left ∷ place) (grouped keys calls p) stage e = stage_named place p stage e
stage_named (Left ∷ place) (finished n calls p) stage e = stage_named place p stage e
stage_named (Left ∷ place) (ordered keys p) stage e = stage_named place p stage e
stage_named (Left ∷ place) (cut_locally n p) stage e = stage_named place p stage e
stage_named (Left ∷ place) (cut_globally n s p) stage e = stage_named place p stage e
stage_named (Left ∷ place) (both_of p q) stage e = stage_named place p stage e
stage_named (Right ∷ place) (both_of p q) stage e = stage_named place q stage e
stage_named place p stage e = absurd (no_stage stage e)

-- what a kind can keep over stages it can keep where there are more
pub keep_more : (stages more : Stages) (k : StageKind) (a b : List Row) → a ≡ b → CanKeep stages k a → CanKeep (stages ++ more) k b
keep_more stages more (kind.Shuffle (target.Hash keys n)) a b e h = subst (CanKeep (stages ++ more) (kind.Shuffle (target.Hash keys n))) e h
keep_more stages more (kind.Shuffle (target.Range keys n sample)) a b e h = (h.0, named_more stages more sample h.1, subst (NarrowKeys (key_of keys)) e h.2)
keep_more stages more (kind.Shuffle target.Single) a b e h = tt
keep_more stages more (kind.Shuffle target.Broadcast) a b e h = tt
keep_more stages more kind.Broadcast a b e h = tt
keep_more stages more (kind.Sample keys) a b e h = subst (CanKeep (stages ++ more) (kind.Sample keys)) e h
keep_more stages more kind.Result a b e h = tt
