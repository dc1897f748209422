-- The column's number picks the same test in the code and in the definition;
-- there are four.
use Rattle.std.proofs.Common.{arith}
use Rattle.std.proofs.lemmas.Grind.{common_steps}
use Rattle.std.proofs.lemmas.Bool.Decides.{nat_tests}
use Rattle.machine.specs.Instruction.{fits}
use Rattle.machine.proofs.Laws.Instruction.{column_depth, column_later}
use Rattle.machine.proofs.instruction.Instruction.fits.Goals as goal

pub returns-in-Zero : goal.returns-in-Zero
unfolding fits
returns-in-Zero c = grind (arith, common_steps, nat_tests)

pub returns-in-Any : goal.returns-in-Any
unfolding fits
returns-in-Any c = grind (arith, common_steps, nat_tests)

pub returns-then-x-ge1 : goal.returns-then-x-ge1
returns-then-x-ge1 c = let e = column_depth c.args.self c.args.place.0 c.args.size c.column.result c.column.ensures c.in-Depth.is in grind (arith, nat_tests)

pub returns-else-x-ge1 : goal.returns-else-x-ge1
returns-else-x-ge1 c = let e = column_depth c.args.self c.args.place.0 c.args.size c.column.result c.column.ensures c.in-Depth.is in grind (arith, nat_tests)

pub returns-then-from-x : goal.returns-then-from-x
returns-then-from-x c = let e = column_later c.args.self c.args.place.0 c.args.size c.column.result c.column.ensures c.in-Later.is in grind (arith, nat_tests)

pub returns-else-from-x : goal.returns-else-from-x
returns-else-from-x c = let e = column_later c.args.self c.args.place.0 c.args.size c.column.result c.column.ensures c.in-Later.is in grind (arith, nat_tests)
