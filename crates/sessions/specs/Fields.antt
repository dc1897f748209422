-- Document 01, "Playing a session": the parts of a session, or 13.
use Rattle.std.specs.Prelude.{◌≡◌, Bool, cond, ◌&&◌, List, ℕ, zero, suc, ◌+◌, ◌≤◌, Option, None, Some, eqb, leb, ltb, length, get_or, take, drop, set, replicate}
use Rattle.machine.specs.Limits.{CELLS}
use Rattle.machine.specs.Paper.{little, tag, size, later}
use Rattle.sessions.specs.Limits.{BYTES, TURNS}
use Rattle.sessions.specs.declared.fields.Parts.{Parts}

-- the start table, a block paper and the tickets of the turns; or a breach
pub data Session : Type 0 where
  session : List ℕ → List ℕ → List ℕ → Session
  malformed : Session

-- does a whole field with this tag stand at the front?
unfoldable pub is_field : ℕ → List ℕ → Bool
is_field t bs = leb 3 (length bs) && leb (3 + size bs) (length bs) && eqb (tag bs) t

-- ---- then one field 0x02 of 0 to 4,000 bytes, one ticket each, and nothing after it
unfoldable pub is_turns : List ℕ → Bool
is_turns bs = is_field 2 bs && leb (size bs) TURNS && eqb (length bs) (3 + size bs)

-- ---- then a block paper: its length, in at most k fields
unfoldable pub paper_size : ℕ → List ℕ → ℕ
paper_size zero bs = 0
paper_size (suc k) bs = cond (is_field 16 bs) (3 + size bs + paper_size k (later bs)) 0

-- a field has bytes, so there are no more fields than bytes
unfoldable pub paper_length : List ℕ → ℕ
paper_length bs = paper_size (length bs) bs

unfoldable pub after_cells : List ℕ → List ℕ → Session
after_cells table bs =
    let n = paper_length bs in
    cond (is_turns (drop n bs)) (session table (take n bs) (drop 3 (drop n bs))) malformed

-- ---- 0x01 fields (length 9: cell, 8-byte value, low byte first), cells strictly rising
abbrev pub cell_in : List ℕ → ℕ
cell_in bs = get_or bs 3 0

unfoldable pub value_in : List ℕ → ℕ
value_in bs = little (take 8 (drop 4 bs))

-- has this field its length, and a cell from `least` on?
unfoldable pub is_next_cell : ℕ → List ℕ → Bool
is_next_cell least bs = eqb (size bs) 9 && leb least (cell_in bs)

-- the cells from `least` on, in at most k fields
unfoldable pub cell_fields : ℕ → ℕ → List ℕ → List ℕ → Session
cell_fields zero least table bs = after_cells table bs
cell_fields (suc k) least table bs =
    let rest = cell_fields k (suc (cell_in bs)) (set table (cell_in bs) (value_in bs)) (later bs) in
    cond (is_field 1 bs) (cond (is_next_cell least bs) rest malformed) (after_cells table bs)

unfoldable pub from_cell : ℕ → List ℕ → List ℕ → Session
from_cell least table bs = cell_fields (length bs) least table bs

-- ---- at most 16,384 bytes; unnamed cells start at 0
unfoldable pub zeros : List ℕ
zeros = replicate CELLS 0

unfoldable pub session_of : List ℕ → Session
session_of bs = cond (ltb BYTES (length bs)) malformed (from_cell 0 zeros bs)

-- the parts of a session as the code finds them; or it is malformed
abbrev pub Divides : Session → Option Parts → Type 0
Divides s None = s ≡ malformed
Divides s (Some r) = (s ≡ session r.table r.paper.now r.tickets.now) × (length r.tickets.now ≤ TURNS)
