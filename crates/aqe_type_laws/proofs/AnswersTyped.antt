-- What a plan answers fits its columns, where its nodes give what their columns say.
use Rattle.std.proofs.Common.{refl}
use Rattle.std.proofs.lemmas.List.Elements.{All-nil, All-weaker}
use Rattle.aqe_logical.specs.declared.plan.Logical.{Logical, OneRow, Scan, Empty, Held, HeldPartial}
use Rattle.aqe_logical.specs.Shapes.{filtered, projected, joined, aggregated, united, sorted, limited, sampled}
use Rattle.aqe_logical.specs.Answers.{Tables, Row}
use Rattle.aqe_logical.specs.Columns.{schema_of}
use Rattle.aqe_logical.proofs.Nodes.{Each}
use Rattle.aqe_type_laws.specs.Fits.{FitsColumns}
use Rattle.aqe_type_laws.specs.Plans.{AnswersFit, MayBeRow, KeepsTypes, ScansFit}
use Rattle.aqe_type_laws.specs.Laws.{AnswersFitTheColumns}
use Rattle.aqe_type_laws.proofs.FormsTyped.{AnswersAre, one_row-fits, scan-fits, left-fit, right-fit, filtered-are, projected-are, joined-fits, aggregated-are, united-fits, sorted-are, limited-are}

-- a row that a plan may answer with fits its columns
pub row-fits : (plan : Logical) (row : Row) → MayBeRow plan row → FitsColumns (schema_of plan) row
row-fits OneRow row h = h
row-fits (Scan table schema) row h = h
row-fits (filtered condition child) row h = row-fits child row h
row-fits (projected items schema child) row h = h
row-fits (joined kind condition left right) row h = h
row-fits (aggregated keys calls schema child) row (h, g) = h
row-fits (united left right) row h = h
row-fits (sorted keys child) row h = row-fits child row h
row-fits (limited count skip child) row h = row-fits child row h
row-fits (Empty schema) row h = h
row-fits (Held stage place schema) row h = h
row-fits (HeldPartial stage calls schema) row h = h
row-fits (sampled stage child) row h = h

module _ (tables : Tables) where
  fits-of : (plan : Logical) → AnswersAre tables (MayBeRow plan) plan → AnswersFit tables plan
  fits-of plan a = λ l h. All-weaker (MayBeRow plan) (FitsColumns (schema_of plan)) (row-fits plan) l (a l h)

  rows : (plan : Logical) → KeepsTypes plan → ScansFit tables plan → AnswersAre tables (MayBeRow plan) plan
  rows OneRow s f = one_row-fits tables
  rows (Scan table schema) s f = scan-fits tables table schema f
  rows (filtered condition child) s f = filtered-are tables (MayBeRow child) condition child (rows child s f)
  rows (projected items schema child) (s, made) f = projected-are tables (MayBeRow child) (FitsColumns schema) items schema child made (rows child s f)
  rows (joined kind condition left right) (s, t) f =
      joined-fits tables kind condition left right (fits-of left (rows left s (left-fit tables left right f))) (fits-of right (rows right t (right-fit tables left right f)))
  rows (aggregated keys calls schema child) (s, made) f =
      aggregated-are tables (MayBeRow (aggregated keys calls schema child)) keys calls schema child (λ row group h all. (made row group h all, (row, group, h, all, refl))) (fits-of child (rows child s f))
  rows (united left right) (s, t, same) f = united-fits tables left right same (fits-of left (rows left s (left-fit tables left right f))) (fits-of right (rows right t (right-fit tables left right f)))
  rows (sorted keys child) s f = sorted-are tables (MayBeRow child) keys child (rows child s f)
  rows (limited count skip child) s f = limited-are tables (MayBeRow child) count skip child (rows child s f)
  rows (Empty schema) s f = λ l h. rw h (All-nil (FitsColumns schema))
  rows (Held stage place schema) s f = absurd s
  rows (HeldPartial stage calls schema) s f = absurd s
  rows (sampled stage child) s f = absurd s

  pub fit : (plan : Logical) → KeepsTypes plan → ScansFit tables plan → AnswersFit tables plan
  fit plan s f = fits-of plan (rows plan s f)

  -- so does each plan within it
  pub each-fits : (plan : Logical) → KeepsTypes plan → ScansFit tables plan → Each (AnswersFit tables) plan
  each-fits OneRow s f = fit OneRow s f
  each-fits (Scan table schema) s f = fit (Scan table schema) s f
  each-fits (filtered condition child) s f = (fit (filtered condition child) s f, each-fits child s f)
  each-fits (projected items schema child) s f = (fit (projected items schema child) s f, each-fits child s.0 f)
  each-fits (joined kind condition left right) s f =
      (fit (joined kind condition left right) s f, each-fits left s.0 (left-fit tables left right f), each-fits right s.1 (right-fit tables left right f))
  each-fits (aggregated keys calls schema child) s f = (fit (aggregated keys calls schema child) s f, each-fits child s.0 f)
  each-fits (united left right) s f =
      (fit (united left right) s f, each-fits left s.0 (left-fit tables left right f), each-fits right s.1 (right-fit tables left right f))
  each-fits (sorted keys child) s f = (fit (sorted keys child) s f, each-fits child s f)
  each-fits (limited count skip child) s f = (fit (limited count skip child) s f, each-fits child s f)
  each-fits (Empty schema) s f = fit (Empty schema) s f
  each-fits (Held stage place schema) s f = absurd s
  each-fits (HeldPartial stage calls schema) s f = absurd s
  each-fits (sampled stage child) s f = absurd s

pub answers_fit : AnswersFitTheColumns
answers_fit tables plan l s f h = fit tables plan s f l h
