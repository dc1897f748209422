-- A number of one digit is that digit; any other is the number without its last digit, and that digit:
-- the number is what falls.
use Rattle.sessions.proofs.text.Text.+put_decimal.Given as goal

abbrev pub decreases-put_decimal : goal.decreases-put_decimal
decreases-put_decimal l = l.n
