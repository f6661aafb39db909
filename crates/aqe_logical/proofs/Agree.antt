-- Two answers of a closed plan without Limit have the same rows.
use Rattle.std.proofs.Common.{List, [], ◌∷◌, ◌++◌, length}
use Rattle.std.specs.Prelude.{IsPermutation}
use Rattle.std.proofs.lemmas.List.Sorted.{IsPermutation-refl, IsPermutation-trans, IsPermutation-sym, IsPermutation-append, IsPermutation-map}
use Rattle.aqe_values.specs.Equality.{row_eq}
use Rattle.aqe_expr.specs.Meaning.{holds}
use Rattle.aqe_logical.specs.declared.plan.Logical.{Logical, OneRow, Scan, Empty, Held, HeldPartial}
use Rattle.aqe_logical.specs.Shapes.{filtered, projected, joined, aggregated, united, sorted, limited, sampled}
use Rattle.aqe_logical.specs.Answers.{Tables, Stages, Row, Answer, AnswerOf, table_rows, meets}
use Rattle.aqe_logical.specs.Columns.{width}
use Rattle.aqe_logical.specs.Groups.{row_of, group_rows}
use Rattle.aqe_logical.specs.Joins.{pairs}
use Rattle.aqe_logical.specs.WellFormed.{IsOfAQuery, IsNoLimit}
use Rattle.aqe_logical.specs.Laws.{AnswersAgree, ClosedPlansReadNoStage}
use Rattle.aqe_logical.proofs.Rearranged.{filter-permuted}
use Rattle.aqe_logical.proofs.Nodes.{Each, each}
use Rattle.aqe_logical.proofs.Rows.{rows_same}
use Rattle.aqe_logical.proofs.Joined.{pairs-permuted}
use Rattle.aqe_logical.proofs.Grouped.{group_rows-permuted}

-- two lists that are each a permutation of lists which are permutations of each other
across : (a b l m : List Row) → IsPermutation a l → IsPermutation b m → IsPermutation a b → IsPermutation l m
across a b l m h k ab = IsPermutation-trans l a m (IsPermutation-sym a l h) (IsPermutation-trans a b m ab k)

agree_each : (tables : Tables) (plan : Logical) (l m : List Row) → Each IsOfAQuery plan → Each IsNoLimit plan → AnswerOf tables plan l → AnswerOf tables plan m → IsPermutation l m
agree_each tables OneRow l m c w h k = rw (h, k) (IsPermutation-refl ([] ∷ []))
agree_each tables (Scan table schema) l m c w h k = IsPermutation-trans l (table_rows tables table) m (IsPermutation-sym (table_rows tables table) l h) k
agree_each tables (filtered condition child) l m c w (a, h, e) (b, k, f) =
    rw (e, f) (filter-permuted row_eq rows_same (holds condition) a b (agree_each tables child a b c.1 w.1 h k))
agree_each tables (projected items schema child) l m c w (a, h, e) (b, k, f) =
    rw (e, f) (IsPermutation-map (row_of items) a b (agree_each tables child a b c.1 w.1 h k))
agree_each tables (joined kind condition left right) l m (t, c, d) (u, w, x) (a, b, ha, hb, p) (a', b', ka, kb, q) =
    across (pairs kind (width left) (width right) (meets condition) a b) (pairs kind (width left) (width right) (meets condition) a' b') l m p q
    (pairs-permuted kind (width left) (width right) (meets condition) a a' b b' (agree_each tables left a a' c w ha ka) (agree_each tables right b b' d x hb kb))
agree_each tables (aggregated keys calls schema child) l m c w (a, h, p) (b, k, q) =
    across (group_rows (length keys) (row_of keys) calls a) (group_rows (length keys) (row_of keys) calls b) l m p q
    (group_rows-permuted (length keys) (row_of keys) calls a b (agree_each tables child a b c.1 w.1 h k))
agree_each tables (united left right) l m (t, c, d) (u, w, x) (a, b, ha, hb, p) (a', b', ka, kb, q) =
    across (a ++ b) (a' ++ b') l m p q
    (IsPermutation-append a a' b b' (agree_each tables left a a' c w ha ka) (agree_each tables right b b' d x hb kb))
agree_each tables (sorted keys child) l m c w (a, h, p, o) (b, k, q, r) = across a b l m p q (agree_each tables child a b c.1 w.1 h k)
agree_each tables (limited count skip child) l m c w h k = absurd w.0
agree_each tables (Empty schema) l m c w h k = absurd c
agree_each tables (Held stage place schema) l m c w h k = absurd c
agree_each tables (HeldPartial stage calls schema) l m c w h k = absurd c
agree_each tables (sampled stage child) l m c w h k = absurd c.0

pub agree : AnswersAgree
agree tables plan l m c w h k = agree_each tables plan l m (each IsOfAQuery plan c) (each IsNoLimit plan w) h k

alike_each : (tables : Tables) (stages other : Stages) (plan : Logical) (l : List Row) → Each IsOfAQuery plan → Answer tables stages plan l → Answer tables other plan l
alike_each tables stages other OneRow l c h = h
alike_each tables stages other (Scan table schema) l c h = h
alike_each tables stages other (filtered condition child) l c (a, h, e) = (a, alike_each tables stages other child a c.1 h, e)
alike_each tables stages other (projected items schema child) l c (a, h, e) = (a, alike_each tables stages other child a c.1 h, e)
alike_each tables stages other (joined kind condition left right) l (t, c, d) (a, b, h, k, p) = (a, b, alike_each tables stages other left a c h, alike_each tables stages other right b d k, p)
alike_each tables stages other (aggregated keys calls schema child) l c (a, h, p) = (a, alike_each tables stages other child a c.1 h, p)
alike_each tables stages other (united left right) l (t, c, d) (a, b, h, k, p) = (a, b, alike_each tables stages other left a c h, alike_each tables stages other right b d k, p)
alike_each tables stages other (sorted keys child) l c (a, h, p, o) = (a, alike_each tables stages other child a c.1 h, p, o)
alike_each tables stages other (limited count skip child) l c (a, h, e) = (a, alike_each tables stages other child a c.1 h, e)
alike_each tables stages other (Empty schema) l c h = absurd c
alike_each tables stages other (Held stage place schema) l c h = absurd c
alike_each tables stages other (HeldPartial stage calls schema) l c h = absurd c
alike_each tables stages other (sampled stage child) l c h = absurd c.0

pub closed_alike : ClosedPlansReadNoStage
closed_alike tables stages other plan l c h = alike_each tables stages other plan l (each IsOfAQuery plan c) h
