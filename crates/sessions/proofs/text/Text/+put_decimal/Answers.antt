-- A number of one digit is that digit;
-- any other is the number without its last digit, and that digit.
use Rattle.std.proofs.Common.{rules}
use Rattle.sessions.proofs.Laws.Text.{decimal_laws}
use Rattle.sessions.proofs.text.Text.+put_decimal.Goals as goal
use Rattle.sessions.proofs.text.Text.+put_decimal.Goals.{then-n-ge10, else-n-ge10}

pub returns : goal.returns
returns t c = elim c.if-n-ge10.branch [
  | then-n-ge10 w ↦ let p = rw w.self-is at c.put.ensures in search (decimal_laws, rules)
  | else-n-ge10 w ↦ let p = rw w.self-is at c.put.ensures in search (decimal_laws, rules)
]
