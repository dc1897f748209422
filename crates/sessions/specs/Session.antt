-- Document 01, "Playing a session": the whole text, from the session's bytes.
use Rattle.std.specs.Prelude.{◌≡◌, true, List, [], ◌∷◌, ◌++◌, ℕ, zero, suc, ◌≤◌, length}
use Rattle.theory.specs.Engine as E
use Rattle.machine.specs.Machine.{Running}
use Rattle.rules.specs.Box.{box, limits}
use Rattle.turns.specs.Open.{open_answer, open_block}
use Rattle.sessions.specs.Limits.{TURNS}
use Rattle.sessions.specs.Text.{word_text, turn_line, cell_lines, refused_line, Puts}
use Rattle.sessions.specs.Fields.{Session, session, malformed, session_of}

-- a line for each turn
unfoldable pub turn_lines : E.Block Running → List ℕ → List ℕ
turn_lines b [] = []
turn_lines b (t ∷ ts) =
    let r = E.turn limits box b t in
    turn_line t (word_text r.word) (E.finals limits box r.block.jobs) ++ turn_lines r.block ts

-- the turns, then the settled cells that are not 0
unfoldable pub played : E.Block Running → List ℕ → List ℕ
played b ts = turn_lines b ts ++ cell_lines 0 (E.settled limits box (E.turns limits box b ts))

-- the number of a refusal is not 0: a refused session prints only its refusal
unfoldable pub unless_refused : ℕ × ℕ × ℕ → List ℕ → List ℕ
unless_refused (zero, field, place) text = text
unless_refused (suc n, field, place) text = refused_line (suc n, field, place)

-- what the program prints of a session
unfoldable pub text_of : Session → List ℕ
text_of (session table paper tickets) = unless_refused (open_answer table paper) (played (open_block table paper) tickets)
text_of malformed = refused_line (13, 0, 0)

unfoldable pub session_text : List ℕ → List ℕ
session_text bs = text_of (session_of bs)

-- the whole of it: the text from the output's start, cut where the output ends; what stands past it stays
abbrev pub Plays : List ℕ → List ℕ → List ℕ → ℕ → Type 0
Plays input before after size = Puts before 0 (session_text input) after size

-- a block that an opening gave, with as many tickets as a session may have
pub record Fresh (b : E.Block Running) (ts : List ℕ) : Type 0 where
  pub fits : E.block_fits limits box b ≡ true
  pub none_final : E.finals limits box b.jobs ≡ 0
  pub few : length ts ≤ TURNS
