-- The engine's answers as numbers: a word by its place in document 01's rules, a refusal by its own number, with its field and its place in the bytes above.
use Rattle.std.specs.Prelude.{◌≡◌, true, cond, List, ℕ, ◌+◌, ◌*◌, eqb}
use Rattle.theory.specs.Word as W
use Rattle.theory.specs.Engine as E
use Rattle.rules.specs.Box.{box, limits}
use Rattle.rules.specs.Block.{block_of}
use Rattle.rules.specs.Turn.{leaves, Keeps}
use Rattle.turns.specs.Many.{bytes, if_long, all_leave}
use Rattle.turns.specs.Open.{open_answer, open_block, open_whole}
use Rattle.turns.specs.Settled.{settled_answer, settled_count, settled_table}
use Rattle.turns.specs.SerialRun.{serial_answer, serial_table}
use Rattle.rules.specs.declared.block.Block.{Block}

-- a refused turn by its refusal's number, any other by its byte
unfoldable pub word_number : W.Word → ℕ
word_number w = cond (eqb (W.refusal w) 0) (W.byte_of w) (W.refusal w)

-- a number, a field and a place, a byte for each
abbrev pub packed : ℕ × ℕ × ℕ → ℕ
packed a = a.0 + 256 * a.1 + 65536 * a.2

-- a turn: its number, and the block after it
pub record TurnsTo (b : Block) (t n : ℕ) (after : Block) : Type 0 where
  pub number : n ≡ word_number (E.turn limits box (block_of b) t).word
  pub block : block_of after ≡ (E.turn limits box (block_of b) t).block
  pub keeps : Keeps b after
  pub left : leaves (E.turn limits box (block_of b) t).word ≡ true → after ≡ b

-- a list of turns: 15, or 0; the block and the lent bytes after it
pub record TakesTo (b : Block) (ts before : List ℕ) (n : ℕ) (after : Block) (written : List ℕ) : Type 0 where
  pub number : n ≡ if_long ts before 0 15
  pub block : block_of after ≡ if_long ts before (E.turns limits box (block_of b) ts) (block_of b)
  pub words : written ≡ if_long ts before (bytes (block_of b) ts) before
  pub keeps : Keeps b after
  pub left : if_long ts before (all_leave (block_of b) ts) true ≡ true → after ≡ b

-- an opening: its refusal, 0 for none, and the block after it
pub record OpensTo (start paper : List ℕ) (n : ℕ) (after : Block) : Type 0 where
  pub number : n ≡ packed (open_answer start paper)
  pub block : block_of after ≡ open_block start paper
  pub whole : after ≡ open_whole start paper

-- the settled table: its refusal, 0 for none, with f in the byte above, and the lent table after it
pub record SettlesTo (b : Block) (before : List ℕ) (n : ℕ) (after : List ℕ) : Type 0 where
  pub number : n ≡ settled_answer b before + 256 * settled_count b before
  pub table : after ≡ settled_table b before

-- the serial run: its refusal, 0 for none, and the output table after it
pub record ServesTo (start output paper : List ℕ) (n : ℕ) (after : List ℕ) : Type 0 where
  pub number : n ≡ packed (serial_answer start output paper)
  pub table : after ≡ serial_table start output paper
