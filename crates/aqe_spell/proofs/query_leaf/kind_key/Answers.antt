use Rattle.aqe_trees.specs.Queries.{inner, cross, left, right, full, semi, anti}
use Rattle.aqe_spell.proofs.query_leaf.kind_key.Goals as goal

pub returns-in-Inner-clause-kind : goal.returns-in-Inner-clause-kind
returns-in-Inner-clause-kind c = λ us. rw c.in-Inner.is inner

pub returns-in-Cross-clause-kind : goal.returns-in-Cross-clause-kind
returns-in-Cross-clause-kind c = λ us. rw c.in-Cross.is cross

pub returns-in-LeftOuter-clause-kind : goal.returns-in-LeftOuter-clause-kind
returns-in-LeftOuter-clause-kind c = λ us. rw c.in-LeftOuter.is left

pub returns-in-RightOuter-clause-kind : goal.returns-in-RightOuter-clause-kind
returns-in-RightOuter-clause-kind c = λ us. rw c.in-RightOuter.is right

pub returns-in-FullOuter-clause-kind : goal.returns-in-FullOuter-clause-kind
returns-in-FullOuter-clause-kind c = λ us. rw c.in-FullOuter.is full

pub returns-in-LeftSemi-clause-kind : goal.returns-in-LeftSemi-clause-kind
returns-in-LeftSemi-clause-kind c = λ us. rw c.in-LeftSemi.is semi

pub returns-in-LeftAnti-clause-kind : goal.returns-in-LeftAnti-clause-kind
returns-in-LeftAnti-clause-kind c = λ us. rw c.in-LeftAnti.is anti
