use Rattle.std.proofs.Common.{sym, ◌∙◌}
use Rattle.aqe_typing.specs.Calls.{calls_seen}
use Rattle.aqe_typing.proofs.AliasSteps.{column_first, alias_then}
use Rattle.aqe_typing.proofs.aliases.WithAliasesNames.column.Goals as goal

pub returns-then-has_column : goal.returns-then-has_column
returns-then-has_column c = column_first c.args.name.now c.args.self.now.columns.now (calls_seen c.args.calls.now) c.args.self.now.list.now c.column_named.result (sym c.has_column.ensures ∙ c.if-has_column.true) c.column_named.ensures

pub returns-else-has_column : goal.returns-else-has_column
returns-else-has_column c = alias_then c.args.name.now c.args.self.now.columns.now (calls_seen c.args.calls.now) c.args.self.now.list.now c.alias.result (sym c.has_column.ensures ∙ c.if-has_column.false) c.alias.ensures
