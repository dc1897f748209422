-- The operand's test: the code picks by the column what the definition picks by its number.
use Rattle.std.proofs.Common.{◌≡◌, ℕ, ltb, leb, get_or, ◌&&◌}
use Rattle.machine.specs.Instruction.{columns, column_number, fits}
use Rattle.machine.specs.declared.instruction.Column.{Column}
use Rattle.machine.specs.declared.instruction.Column.TheVariants.{Depth, Later}
use Rattle.machine.specs.declared.instruction.Instruction.{Instruction}

module _ (i : Instruction) (p n : ℕ) (c : Column) (row : column_number c ≡ get_or columns i.code 0) where
  pub column_depth : c ≡ Depth → leb 1 i.operand && leb i.operand 15 ≡ fits n p i
  unfolding fits
  column_depth e = simp (← row, e)

  pub column_later : c ≡ Later → ltb p i.operand && ltb i.operand n ≡ fits n p i
  unfolding fits
  column_later e = simp (← row, e)
