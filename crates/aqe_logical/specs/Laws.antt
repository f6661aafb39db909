-- The laws of the plain meaning.
use Rattle.std.specs.Prelude.{List, IsPermutation}
use Rattle.aqe_logical.specs.declared.plan.Logical.{Logical}
use Rattle.aqe_logical.specs.Answers.{Tables, Stages, Row, Answer, AnswerOf}
use Rattle.aqe_logical.specs.Columns.{width}
use Rattle.aqe_logical.specs.WellFormed.{WellFormed, Closed, WithoutLimit, LeavesFit, HaveWidth}

-- a well-formed plan answers with rows of the width of its columns
abbrev pub AnswersHaveTheWidth : Type 0
AnswersHaveTheWidth =
    (tables : Tables) (stages : Stages) (plan : Logical) (l : List Row) →
    WellFormed plan → LeavesFit tables stages plan → Answer tables stages plan l → HaveWidth (width plan) l

-- two answers of a closed plan without Limit have the same rows
abbrev pub AnswersAgree : Type 0
AnswersAgree =
    (tables : Tables) (plan : Logical) (l m : List Row) →
    Closed plan → WithoutLimit plan → AnswerOf tables plan l → AnswerOf tables plan m → IsPermutation l m

-- a closed plan has the same answers whatever the stages hold
abbrev pub ClosedPlansReadNoStage : Type 0
ClosedPlansReadNoStage =
    (tables : Tables) (stages other : Stages) (plan : Logical) (l : List Row) →
    Closed plan → Answer tables stages plan l → Answer tables other plan l
