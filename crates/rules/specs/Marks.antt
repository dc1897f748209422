-- Marking on the code's own structs: which read is struck, the mark after, and the sweep over the higher jobs.
use Rattle.std.specs.Prelude.{Bool, cond, List, ℕ, zero, suc, ◌≤◌, ◌<◌, get_or, set, Option, None, Some}
use Rattle.theory.specs.Engine.{shown_at, struck, earlier}
use Rattle.rules.specs.View.{journal_of, versions_of, Showing, mark_of, mark_byte, no_read, no_reads}
use Rattle.rules.specs.declared.block.Read.{Read}
use Rattle.rules.specs.declared.block.Reads.{Reads}
use Rattle.rules.specs.declared.marks.Shows.{Shows}

abbrev pub Shown : Shows → Type 0
Shown s = Showing s.journal s.versions

abbrev pub shown_in : Shows → ℕ → Option ℕ
shown_in s c = shown_at (journal_of s.journal) (versions_of s.versions) c

unfoldable pub struck_by : Shows → Shows → ℕ → Read → Bool
struck_by old new t r = struck (shown_in old r.cell.0) (shown_in new r.cell.0) t r.source.0

-- the first of m places from k on that passes a test
unfoldable pub first_from : (ℕ → Bool) → ℕ → ℕ → Option ℕ
first_from f k zero = None
first_from f k (suc m) = cond (f k) (Some k) (first_from f (suc k) m)

abbrev pub strikes_at : Shows → Shows → ℕ → Reads → ℕ → Bool
strikes_at old new t rs k = struck_by old new t (get_or rs.reads k no_read)

unfoldable pub mark_by : Shows → Shows → ℕ → Reads → ℕ
mark_by old new t rs = mark_byte (earlier (first_from (strikes_at old new t rs) 0 rs.size) (mark_of rs.mark))

abbrev pub mark_reads : Shows → Shows → ℕ → Reads → Reads
mark_reads old new t rs = record { reads = rs.reads; size = rs.size; mark = mark_by old new t rs }

-- m elements from k on, each put through f
unfoldable pub sweep : (Reads → Reads) → ℕ → ℕ → List Reads → List Reads
sweep f k zero rs = rs
sweep f k (suc m) rs = sweep f (suc k) m (set rs k (f (get_or rs k no_reads)))

pub record ListsFit (rs : List Reads) (n : ℕ) : Type 0 where
  pub few : (k : ℕ) → k < n → (get_or rs k no_reads).size ≤ 8
