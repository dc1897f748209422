-- The word of a turn, in the order of document 01's rules; the last two are the refusals 14 and 20. All that a word by itself decides stands in one table.
use Rattle.std.specs.Prelude.{Bool, true, false, not, List, [], ◌∷◌, ℕ}

pub data Word : Type 0 where
  idle back step end final wait bad_ticket stuck : Word

-- its text in a session's lines; its byte in a list of turns; document 01's number of a refusal, 0 where the turn was taken; does it change the block?;
-- what it adds to the number of final jobs
pub record Row : Type 0 where
  pub text : List ℕ
  pub byte : ℕ
  pub refusal : ℕ
  pub changes : Bool
  pub finals : ℕ

abbrev row : List ℕ → ℕ → ℕ → Bool → ℕ → Row
row t b r c f = record { text = t; byte = b; refusal = r; changes = c; finals = f }

abbrev pub row_of : Word → Row
row_of idle = row (105 ∷ 100 ∷ 108 ∷ 101 ∷ []) 0 0 false 0
row_of back = row (98 ∷ 97 ∷ 99 ∷ 107 ∷ []) 1 0 true 0
row_of step = row (115 ∷ 116 ∷ 101 ∷ 112 ∷ []) 2 0 true 0
row_of end = row (101 ∷ 110 ∷ 100 ∷ []) 3 0 true 0
row_of final = row (102 ∷ 105 ∷ 110 ∷ 97 ∷ 108 ∷ []) 4 0 true 1
row_of wait = row (119 ∷ 97 ∷ 105 ∷ 116 ∷ []) 5 0 false 0
row_of bad_ticket = row (110 ∷ 111 ∷ 110 ∷ 101 ∷ []) 6 14 false 0
row_of stuck = row (110 ∷ 111 ∷ 110 ∷ 101 ∷ []) 6 20 false 0

unfoldable pub word_text : Word → List ℕ
word_text w = (row_of w).text

unfoldable pub byte_of : Word → ℕ
byte_of w = (row_of w).byte

unfoldable pub refusal : Word → ℕ
refusal w = (row_of w).refusal

abbrev pub changes : Word → Bool
changes w = (row_of w).changes

-- does it leave the block as it was?
unfoldable pub leaves : Word → Bool
leaves w = not (changes w)

-- 1 for the word final
abbrev pub final_word : Word → ℕ
final_word w = (row_of w).finals
