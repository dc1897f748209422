-- What a turn changes of a block, and the block with the change stored in it.
use Rattle.std.specs.Prelude.{◌≡◌, ◌≤◌, Bool, true, false, cond, List, ℕ, ◌-◌, ◌<◌, get_or, set, Option, None, Some}
use mathlib.Core.Logic.{◌⊎◌}
use Rattle.theory.specs.Engine as E
use Rattle.rules.specs.Box.{box, limits}
use Rattle.rules.specs.View.{no_reads}
use Rattle.rules.specs.Block.{block_of}
use Rattle.rules.specs.Turn.{foreign, moving, Turns}
use Rattle.rules.specs.Own.{slot_at, parts_at, still, Done, Long}
use Rattle.rules.specs.declared.block.Reads.{Reads}
use Rattle.rules.specs.declared.block.Block.{Block}
use Rattle.rules.specs.declared.block.Turned.{Turned}
use Rattle.rules.specs.declared.own.Own.{Own}
use Rattle.rules.specs.declared.own.Move.{Move}
use Rattle.words.specs.declared.word.Word.{Word}
use Rattle.words.specs.declared.word.Word.TheVariants.{BadTicket, Stuck}
use Rattle.turns.specs.declared.turn.Change.{Change}

-- ---- a turn that may be refused
-- the word that refuses ticket t's turn of a block of n jobs: 14 before 20
abbrev pub refusing : ℕ → ℕ → Bool → Option Word
refusing n t fits = cond (foreign n t) (Some BadTicket) (cond fits None (Some Stuck))

-- the index of ticket t's job; the first where the turn is refused
abbrev pub index_if : Option Word → ℕ → ℕ
index_if (Some w) t = 0
index_if None t = t - 1

-- the turn is ticket t's own, in a block that fits, with the parts of its job at index i
pub record MayMove (b : Block) (t i : ℕ) (o : Own) : Type 0 where
  pub mine : foreign b.count t ≡ false
  pub fit : E.block_fits limits box (block_of b) ≡ true
  pub index : i ≡ t - 1
  pub own : o ≡ parts_at b i (slot_at i (get_or b.reads i no_reads).size)

-- the move that the rules make of those parts
pub record MovesBy (b : Block) (t : ℕ) (o : Own) (m : Move) : Type 0 where
  pub done : Done b t (moving b (t - 1)) m
  pub status : (m.own.status ≤ 2) ⊎ (m.own.status ≡ o.status)

-- a refused turn leaves the parts as they were, and says so by its word
pub record MovesIf (refused : Option Word) (b : Block) (t : ℕ) (o : Own) (m : Move) : Type 0 where
  pub stays : (w : Word) → refused ≡ Some w → m ≡ still w o
  pub moves : refused ≡ None → MovesBy b t o m

-- ---- what it changes
-- a move of the job at index i, with the slot at s and these lists of reads
abbrev pub change_by : ℕ → ℕ → Move → List Reads → Change
change_by i s m ls = record {
  reads = ls;
  state = m.own.state;
  journal = m.own.journal;
  saved = m.own.slot;
  versions = m.own.versions;
  status = m.own.status;
  index = i;
  slot = s;
  word = m.word;
}

-- what is not named stays as it was
abbrev pub changed : Block → Change → Block
changed b c = record {
  start = b.start;
  count = b.count;
  jobs = b.jobs;
  states = set b.states c.index c.state;
  status = set b.status c.index c.status;
  journals = set b.journals c.index c.journal;
  versions = set b.versions c.index c.versions;
  reads = c.reads;
  checkpoints = set b.checkpoints c.slot c.saved;
}

-- the index of ticket t's job; the first where the turn is refused
abbrev pub index_for : Block → ℕ → ℕ
index_for b t = index_if (refusing b.count t (E.block_fits limits box (block_of b))) t

-- the change of the plain turn of ticket t
pub record Changes (b : Block) (t : ℕ) (c : Change) : Type 0 where
  pub index : c.index ≡ index_for b t
  pub slot : c.slot ≡ slot_at (index_for b t) (get_or b.reads (index_for b t) no_reads).size
  pub inside : c.index < 16
  pub within : c.slot < 128
  pub turns : Turns b t (record { block = changed b c; word = c.word })

-- ---- a turn in the block where it stands
-- the plain turn of ticket t; whether the block fits stays so
pub record TurnsIn (b : Block) (fits : Bool) (t : ℕ) (r : Turned) : Type 0 where
  pub turns : Turns b t r
  pub long : Long r.block
  pub fitting : fits ≡ E.block_fits limits box (block_of r.block)
