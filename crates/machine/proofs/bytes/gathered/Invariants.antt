-- What is gathered so far is the number of the bytes from n on;
-- it is below 256 to the number of those bytes, so the next step fits 64 bits.
use Rattle.std.proofs.Common.{◌≡◌, ◌-◌, ◌^◌, ◌<◌, ◌≤◌, length, drop}
use Rattle.machine.specs.Paper.{little}
use Rattle.machine.proofs.bytes.gathered.Given as goal

abbrev pub invariant-loop-n : goal.invariant-loop-n
invariant-loop-n l = (l.n ≤ length l.bytes) × (length l.bytes ≤ 8) × (l.number ≡ little (drop l.n l.bytes)) × (l.number < 256 ^ (length l.bytes - l.n))
