use Rattle.std.proofs.Common.{◌+◌, arith, rules}
use Rattle.aqe_tables.proofs.LoadedFacts.{pads_made}
use Rattle.aqe_tables.proofs.tables.make_room.Goals as goal

pub returns-in-Ok-clause-pads : goal.returns-in-Ok-clause-pads
returns-in-Ok-clause-pads c =
    pads_made _ (λ f x g k. search rules) c.args.slots.now.items c.resize_with.new.self.items (c.args.index + 1) _ (omega arith) c.in-Ok.ensures.items
