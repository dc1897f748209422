-- What is gathered so far is the number of the bytes from n on;
-- it is below 256 to the number of those bytes, so the next step fits 64 bits.
use Rattle.std.proofs.Common.{◌<◌, ◌-◌, rules}
use Rattle.machine.proofs.Laws.Bytes.{gather_laws}
use Rattle.machine.proofs.bytes.gathered.Goals as goal

pub loop-n-init : goal.loop-n-init
loop-n-init c = search (gather_laws, rules)

pub overflow_mul-number : goal.overflow_mul-number
overflow_mul-number c = search (gather_laws, rules)

pub overflow_add-number : goal.overflow_add-number
overflow_add-number c = search (gather_laws, rules)

pub loop-n-preserved : goal.loop-n-preserved
loop-n-preserved c =
    let byte : c.from.result < 256 = rw c.from.ensures (c.type_inv.bytes (c.loop-n.n - 1)).fits in
    search (gather_laws, byte, rules)
