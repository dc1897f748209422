-- A list of tickets, each given its turn in order: the words, and the byte that stands for each.
use Rattle.std.specs.Prelude.{◌≡◌, Bool, true, cond, List, [], ◌∷◌, map, ℕ, eqb, length, Result, Ok, Err}
use Rattle.theory.specs.Word as W
unfoldable pub use Rattle.theory.specs.Word.{byte_of}
use Rattle.theory.specs.Engine as E
use Rattle.machine.specs.Machine.{Running}
use Rattle.rules.specs.Box.{box, limits}
use Rattle.rules.specs.Block.{block_of}
use Rattle.rules.specs.Turn.{Keeps}
use Rattle.rules.specs.declared.block.Block.{Block}
use Rattle.turns.specs.declared.many.WrongLength.{WrongLength}
use Rattle.turns.specs.declared.many.Taken.{Taken}

-- the word of each turn
unfoldable pub words : E.Block Running → List ℕ → List W.Word
words b [] = []
words b (t ∷ ts) = (E.turn limits box b t).word ∷ words (E.turn limits box b t).block ts

unfoldable pub bytes : E.Block Running → List ℕ → List ℕ
bytes b ts = map byte_of (words b ts)

-- document 01's number of the refusal, 0 where the turns were taken
unfoldable pub taking_of : {T : Type 0} → Result T WrongLength → ℕ
taking_of (Ok t) = 0
taking_of (Err e) = 15

-- 15 where the bytes lent are not as many as the tickets, before any turn; else the turns in order
unfoldable pub if_long : {A : Type 0} → List ℕ → List ℕ → A → A → A
if_long ts before taken wrong = cond (eqb (length before) (length ts)) taken wrong

-- is each word of the list one that leaves the block?
unfoldable pub all_leave : E.Block Running → List ℕ → Bool
all_leave b ts = E.all W.leaves (words b ts)

-- all turns taken: the block and the bytes after them
pub record TakesAll (b : Block) (ts : List ℕ) (r : Block) (after : List ℕ) : Type 0 where
  pub block : block_of r ≡ E.turns limits box (block_of b) ts
  pub words : after ≡ bytes (block_of b) ts
  pub keeps : Keeps b r
  pub left : all_leave (block_of b) ts ≡ true → r ≡ b

-- the whole of it: the answer, the block, and the lent bytes after it; a refusal, and words that leave the block, leave it to the last byte
pub record Takes (b : Block) (ts before : List ℕ) (r : Taken) (after : List ℕ) : Type 0 where
  pub answer : taking_of r.answer ≡ if_long ts before 0 15
  pub block : block_of r.block ≡ if_long ts before (E.turns limits box (block_of b) ts) (block_of b)
  pub words : after ≡ if_long ts before (bytes (block_of b) ts) before
  pub keeps : Keeps b r.block
  pub left : if_long ts before (all_leave (block_of b) ts) true ≡ true → r.block ≡ b
