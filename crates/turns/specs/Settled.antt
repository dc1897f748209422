-- Document 01's settled table: 12 first, then 20; else each cell is what the final jobs leave of it, and f is their number.
use Rattle.std.specs.Prelude.{◌≡◌, not, cond, List, ℕ, ◌<◌, eqb, leb, length, get_or, take, count_by, unwrap_or, Result, Ok, Err}
use Rattle.theory.specs.Engine as E
use Rattle.machine.specs.Limits.{CELLS}
use Rattle.rules.specs.Box.{limits, box}
use Rattle.rules.specs.View.{no_entry, journal_of, no_journal, no_versions, Showing, found_in}
use Rattle.rules.specs.Block.{block_of}
use Rattle.rules.specs.declared.block.Block.{Block}
use Rattle.rules.specs.declared.block.Journal.{Journal}
use Rattle.turns.specs.declared.settled.SettleRefusal.{SettleRefusal}
use Rattle.turns.specs.declared.settled.SettleRefusal.TheVariants.{WrongTable, Misfit}

-- how many of the jobs at the indices below k are final
abbrev pub finals_below : List ℕ → ℕ → ℕ
finals_below ss k = count_by (leb 2) (take k ss)

-- the value that a reader of cell c finds that has the jobs at the indices below n below it
unfoldable pub cell_found : Block → ℕ → ℕ → ℕ
cell_found b n c = (found_in b.journals b.versions (get_or b.start c 0) c n).1

-- a journal whose cells are in the table
pub record InTable (j : Journal) : Type 0 where
  pub cells : (i : ℕ) → i < j.size → (get_or j.entries i no_entry).cell.0 < CELLS

-- what a job shows of each cell, over a table
abbrev pub shown_over : Journal → List ℕ → (ℕ → ℕ) → ℕ → ℕ
shown_over j vs table c = unwrap_or (E.value_at (journal_of j) (E.shown_at (journal_of j) vs c)) (table c)

-- what the jobs at the indices below n show can be read
pub record Settleable (b : Block) (n : ℕ) : Type 0 where
  pub showing : (k : ℕ) → k < n → Showing (get_or b.journals k no_journal) (get_or b.versions k no_versions)
  pub inside : (k : ℕ) → k < n → InTable (get_or b.journals k no_journal)

-- the table is tested for 12, then the sizes for 20
unfoldable pub unless_unsettled : {A : Type 0} → Block → List ℕ → A → A → A → A
unless_unsettled b table wrong misfit fine = cond (not (eqb (length table) CELLS)) wrong (cond (E.block_fits limits box (block_of b)) fine misfit)

-- document 01's number of each refusal, 0 where the table was written
unfoldable pub refusal_of : {T : Type 0} → Result T SettleRefusal → ℕ
refusal_of (Ok t) = 0
refusal_of (Err WrongTable) = 12
refusal_of (Err Misfit) = 20

-- the number of final jobs that it gives; 0 for a refusal
unfoldable pub f_of : {E : Type 0} → Result ℕ E → ℕ
f_of (Ok f) = f
f_of (Err e) = 0

-- the number of the refusal; 0 where there is none
unfoldable pub settled_answer : Block → List ℕ → ℕ
settled_answer b table = unless_unsettled b table 12 20 0

-- the number of final jobs; 0 for a refusal
unfoldable pub settled_count : Block → List ℕ → ℕ
settled_count b table = unless_unsettled b table 0 0 (E.finals limits box (block_of b).jobs)

-- the lent table after it: whole, or untouched
unfoldable pub settled_table : Block → List ℕ → List ℕ
settled_table b table = unless_unsettled b table table table (E.settled limits box (block_of b))

-- the whole of it: the answer, f, and the lent table after it
pub record Settles (b : Block) (before : List ℕ) (r : Result ℕ SettleRefusal) (after : List ℕ) : Type 0 where
  pub answer : refusal_of r ≡ settled_answer b before
  pub count : f_of r ≡ settled_count b before
  pub table : after ≡ settled_table b before
