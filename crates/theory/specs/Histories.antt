-- The words in which the theorems over lists of turns are stated: the block after an opening and a list, the `final` words in a list, and how often a
-- ticket occurs in it; and the table that the first jobs leave in a serial run.
use Rattle.std.specs.Prelude.{cond, List, [], ◌∷◌, map, ℕ, ◌+◌, eqb, get_or}
use Rattle.theory.specs.Word.{final_word}
use Rattle.theory.specs.Promise.{Machine}
use Rattle.theory.specs.Engine.{Block, Limits, turn, turns, opened, up_to}
use Rattle.theory.specs.Serial.{serial}

-- how often a ticket occurs in a list
unfoldable pub occurs : ℕ → List ℕ → ℕ
occurs t [] = 0
occurs t (u ∷ us) = cond (eqb u t) 1 0 + occurs t us

module _ (L : Limits) (M : Machine) where
  open M use {S, nowhere}

  -- the block after an opening and these turns
  abbrev pub reached : List ℕ → List S → List ℕ → Block S
  reached table starts ts = turns L M (opened L M table starts) ts

  -- the turns of a list whose word was final
  unfoldable pub final_turns : Block S → List ℕ → ℕ
  final_turns b [] = 0
  final_turns b (t ∷ ts) = final_word (turn L M b t).word + final_turns (turn L M b t).block ts

  -- the serial run of the first f of these starts on this table, cell by cell
  abbrev pub serially : List ℕ → List S → ℕ → List ℕ
  serially table starts f = map (serial M (λ c. get_or table c 0) (λ k. get_or starts k nowhere) f) (up_to L M L.cells)
