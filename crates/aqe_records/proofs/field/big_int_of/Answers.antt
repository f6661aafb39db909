use Rattle.std.proofs.Math.Facts.{to_z-of_z}
use Rattle.aqe_records.proofs.FieldFacts.{big_int_not_read, big_int_read}
use Rattle.aqe_records.proofs.field.big_int_of.Goals as goal

pub returns-in-Ok : goal.returns-in-Ok
returns-in-Ok c =
    let read = c.in-Ok.ensures.value.0 in
    rw (to_z-of_z (rw (← read.1) at read.0.1)) (big_int_read c.args.field.now c.in-Ok.n read)

pub returns-in-Err : goal.returns-in-Err
returns-in-Err c = big_int_not_read c.args.field.now c.in-Err.ensures.value.0
