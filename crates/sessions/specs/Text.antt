-- Document 01's output: decimal, one space, newline, as bytes; and text that is put into a lent buffer, cut where the buffer ends.
use Rattle.std.specs.Prelude.{◌≡◌, cond, List, [], ◌∷◌, ◌++◌, ℕ, zero, suc, ◌+◌, ◌/◌, ◌%◌, min, eqb, ltb, length, get_or, set}
use Rattle.theory.specs.Word as W
use Rattle.sessions.specs.declared.text.Text.{Text}
unfoldable pub use Rattle.theory.specs.Word.{word_text}

abbrev pub space : ℕ
space = 32

abbrev pub newline : ℕ
newline = 10

-- a number of at most k digits in decimal
unfoldable pub digits : ℕ → ℕ → List ℕ
digits zero n = []
digits (suc k) n = cond (ltb n 10) ((48 + n % 10) ∷ []) (digits k (n / 10) ++ ((48 + n % 10) ∷ []))

-- a value of 64 bits has at most 20 digits
unfoldable pub decimal : ℕ → List ℕ
decimal n = digits 20 n

-- the text of the word that a byte stands for, in the order of the turn rules
unfoldable pub byte_text : ℕ → List ℕ
byte_text w = get_or (word_text W.idle ∷ word_text W.back ∷ word_text W.step ∷ word_text W.end ∷ word_text W.final ∷ word_text W.wait ∷ []) w (word_text W.stuck)

-- what a turn of the word that a byte stands for adds to f
unfoldable pub final_byte : ℕ → ℕ
final_byte w = cond (eqb w 4) 1 0

-- a space and a number; the same at the end of a line; a number, a space and a word
unfoldable pub spaced : ℕ → List ℕ
spaced n = space ∷ decimal n

unfoldable pub last_of : ℕ → List ℕ
last_of n = spaced n ++ (newline ∷ [])

unfoldable pub named : ℕ → List ℕ → List ℕ
named n word = decimal n ++ (space ∷ word)

-- the ticket, the turn's word, and f after it
unfoldable pub turn_line : ℕ → List ℕ → ℕ → List ℕ
turn_line t word f = named t word ++ last_of f

-- a line for each ticket, with the byte of its word; f stood at so many before
unfoldable pub byte_lines : ℕ → List ℕ → List ℕ → List ℕ
byte_lines f [] ws = []
byte_lines f (t ∷ ts) [] = []
byte_lines f (t ∷ ts) (w ∷ ws) = turn_line t (byte_text w) (f + final_byte w) ++ byte_lines (f + final_byte w) ts ws

-- `cell`, number, value for a cell that is not 0
unfoldable pub cell_line : ℕ → ℕ → List ℕ
cell_line c v = cond (eqb v 0) [] (99 ∷ 101 ∷ 108 ∷ 108 ∷ space ∷ decimal c ++ last_of v)

-- the cells from number c on, rising
unfoldable pub cell_lines : ℕ → List ℕ → List ℕ
cell_lines c [] = []
cell_lines c (v ∷ vs) = cell_line c v ++ cell_lines (suc c) vs

unfoldable pub where_of : ℕ → ℕ → List ℕ
where_of field place = spaced field ++ last_of place

-- `refused`, number, field, place
unfoldable pub refused_line : ℕ × ℕ × ℕ → List ℕ
refused_line (number, field, place) = 114 ∷ 101 ∷ 102 ∷ 117 ∷ 115 ∷ 101 ∷ 100 ∷ space ∷ decimal number ++ where_of field place

-- ---- text in a lent buffer
-- a buffer after text was put into it from a place on; what has no room is cut
unfoldable pub put : List ℕ → ℕ → List ℕ → List ℕ
put out at [] = out
put out at (x ∷ text) = put (set out at x) (suc at) text

-- the buffer after it, and the place where the text ends or the buffer does
pub record Puts (before : List ℕ) (at : ℕ) (text after : List ℕ) (end : ℕ) : Type 0 where
  pub written : after ≡ put before at text
  pub ended : end ≡ min (at + length text) (length before)

-- a text after more was put at its end, in the same buffer
pub record Written (before : Text) (text : List ℕ) (after : Text) : Type 0 where
  pub same_reference : after.out.ghost_name ≡ before.out.ghost_name
  pub puts : Puts before.out.now before.at text after.out.now after.at
