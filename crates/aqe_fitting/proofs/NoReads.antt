-- A plan that reads no stage has reads that fit.
use Rattle.std.proofs.Common.{◌≡◌, refl, ◌∙◌, ℕ, Bool, true, false, ◌&&◌, not, [], ◌++◌}
use Rattle.aqe_base.specs.declared.join_kind.Side.TheVariants.{Left, Right}
use Rattle.aqe_settings.specs.declared.key.SettingKey.TheVariants as key
use Rattle.aqe_settings.specs.Values.{value_of, is_on}
use Rattle.aqe_physical.specs.declared.target.JoinWay.TheVariants as way
use Rattle.aqe_physical.specs.declared.plan.Plan.{Plan, OneRow, Scan, Nothing, Read, ReadBroadcast}
use Rattle.aqe_physical.specs.Shapes.{kept, mapped, moved, matched, grouped, finished, ordered, cut_locally, cut_globally, both_of}
use Rattle.aqe_physical.proofs.Nodes.{Each, each}
use Rattle.aqe_fitting.specs.Strands.{Strand, strand}
use Rattle.aqe_fitting.specs.ReadsFit.{Cut, uncut, CutOf, stays_uncut, Facts, HasParts, ReadsFit, on_left, on_right, parts_beside, all_made}
use Rattle.aqe_fitting.specs.Laws.{IsNoRead, PlansWithoutReadsFit}

quiet : (p : Plan) → Each IsNoRead p → (strand p).reads ≡ []
quiet OneRow h = refl
quiet (Scan t f) h = refl
quiet (Nothing n w) h = refl
quiet (Read st m r rs) h = absurd h
quiet (ReadBroadcast st) h = refl
quiet (kept c p) h = quiet p h.1
quiet (mapped its p) h = quiet p h.1
quiet (moved to p) h = refl
quiet (matched way.SortMerge k ks v w p q) h = λ i. quiet p h.1 i ++ quiet q h.2 i
quiet (matched (way.ShuffledHash s) k ks v w p q) h = λ i. quiet p h.1 i ++ quiet q h.2 i
quiet (matched (way.Broadcast Left) k ks v w p q) h = quiet q h.2
quiet (matched (way.Broadcast Right) k ks v w p q) h = quiet p h.1
quiet (matched way.NestedLoop k ks v w p q) h = λ i. quiet p h.1 i ++ quiet q h.2 i
quiet (grouped ks cs p) h = quiet p h.1
quiet (finished n cs p) h = quiet p h.1
quiet (ordered ks p) h = quiet p h.1
quiet (cut_locally n p) h = quiet p h.1
quiet (cut_globally n s p) h = quiet p h.1
quiet (both_of p q) h = refl

neither : (a b : Bool) → (a && (b && false)) ≡ false
neither true true = refl
neither true false = refl
neither false b = refl

stays : (facts : Facts) (s : Strand) → s.reads ≡ [] → CutOf facts s uncut
stays facts s e =
    stays_uncut ((λ i. is_on (value_of key.Enabled facts.settings) && (not s.has_exchange && all_made facts.sizes (e i))) ∙
    neither (is_on (value_of key.Enabled facts.settings)) (not s.has_exchange))

parts : (n : ℕ) (p : Plan) → Each IsNoRead p → HasParts n p
parts n (Nothing k w) h = absurd h
parts n p h = tt

fits : (facts : Facts) (p : Plan) (c : Cut) → Each IsNoRead p → ReadsFit facts c p
fits facts OneRow c h = tt
fits facts (Scan t f) c h = tt
fits facts (Nothing n w) c h = tt
fits facts (Read st m r rs) c h = absurd h
fits facts (ReadBroadcast st) c h = tt
fits facts (kept e p) c h = (fits facts p c h.1, parts 1 p h.1)
fits facts (mapped its p) c h = (fits facts p c h.1, parts 1 p h.1)
fits facts (moved to p) c h = ((uncut, stays facts (strand p) (quiet p h.1), fits facts p uncut h.1), parts 1 p h.1)
fits facts (matched way.SortMerge k ks v w p q) c h = ((fits facts p (on_left c) h.1, fits facts q (on_right c) h.2), parts (parts_beside q) p h.1, parts (parts_beside p) q h.2)
fits facts (matched (way.ShuffledHash s) k ks v w p q) c h = ((fits facts p (on_left c) h.1, fits facts q (on_right c) h.2), parts (parts_beside q) p h.1, parts (parts_beside p) q h.2)
fits facts (matched (way.Broadcast Left) k ks v w p q) c h = ((fits facts p uncut h.1, fits facts q c h.2), parts (parts_beside q) p h.1, parts (parts_beside p) q h.2)
fits facts (matched (way.Broadcast Right) k ks v w p q) c h = ((fits facts p c h.1, fits facts q uncut h.2), parts (parts_beside q) p h.1, parts (parts_beside p) q h.2)
fits facts (matched way.NestedLoop k ks v w p q) c h = ((fits facts p c h.1, fits facts q c h.2), parts (parts_beside q) p h.1, parts (parts_beside p) q h.2)
fits facts (grouped ks cs p) c h = (fits facts p c h.1, parts 1 p h.1)
fits facts (finished n cs p) c h = (fits facts p c h.1, parts 1 p h.1)
fits facts (ordered ks p) c h = (fits facts p c h.1, parts 1 p h.1)
fits facts (cut_locally n p) c h = (fits facts p c h.1, parts 1 p h.1)
fits facts (cut_globally n s p) c h = (fits facts p c h.1, parts 1 p h.1)
fits facts (both_of p q) c h =
    ((uncut, stays facts (strand p) (quiet p h.1), fits facts p uncut h.1), (uncut, stays facts (strand q) (quiet q h.2), fits facts q uncut h.2), parts 1 p h.1, parts 1 q h.2)

pub no_reads : PlansWithoutReadsFit
no_reads facts plan h =
    let e : Each IsNoRead plan = each IsNoRead plan h in
    ((uncut, stays facts (strand plan) (quiet plan e), fits facts plan uncut e), parts 1 plan e)
