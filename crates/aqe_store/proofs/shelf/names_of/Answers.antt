use Rattle.std.proofs.Common.{rules}
use Rattle.aqe_store.proofs.FilesLemmas.{gathered-more}
use Rattle.aqe_store.proofs.shelf.names_of.Goals as goal
use Rattle.aqe_store.proofs.shelf.names_of.Goals.{then-branch, else-branch}

pub entries-preserved : goal.entries-preserved
entries-preserved c =
    gathered-more c.args.files.now c.entries.entry-index c.entry-item.result c.args.folder.now c.entries.is_there c.in_ok-is_there.is_there c.if-branch.is_there c.entries.names c.gather.new.names
    (search rules) (search rules) c.entries.invariant (search rules)
    (elim c.if-branch.branch [ then-branch w ↦ search rules | else-branch w ↦ search rules ])
