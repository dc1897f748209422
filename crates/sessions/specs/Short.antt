-- How long a session's text can be: at most 4,000 lines of turns and 256 of cells, each of numbers that have at most 20 digits.
-- So a buffer of TEXT bytes holds the whole of it.
use Rattle.std.specs.Prelude.{◌≡◌, refl, Bool, true, false, cond, ◌&&◌, List, [], ◌∷◌, ◌++◌, ℕ, zero, suc, ◌+◌, ◌*◌, ◌/◌, ◌%◌, ◌≤◌, eqb, leb, ltb, length, take, drop, set}
use Rattle.std.proofs.Common.{ap, ◌∙◌, append_assoc, arith, length-append, length-drop, leb-true, eqb-true}
use Rattle.std.proofs.lemmas.List.{length-map}
use Rattle.theory.specs.Word as W
use Rattle.theory.specs.Engine as E
use Rattle.theory.proofs.ReadSizes.{both}
use Rattle.machine.specs.Machine.{Running}
use Rattle.machine.specs.Paper.{size, later}
use Rattle.rules.specs.Box.{box, limits}
use Rattle.turns.specs.Open.{open_answer, open_block}
use Rattle.sessions.specs.Limits.{BYTES, TURNS}
use Rattle.sessions.specs.Text.{space, newline, digits, decimal, word_text, spaced, last_of, named, turn_line, cell_line, cell_lines, where_of, refused_line, put}
use Rattle.sessions.specs.Fields.{Session, session, malformed, is_field, is_turns, paper_length, after_cells, cell_in, value_in, is_next_cell, cell_fields, from_cell, zeros, session_of}
use Rattle.sessions.specs.Session.{turn_lines, played, unless_refused, text_of, session_text, Plays}

abbrev pub TEXT : ℕ
TEXT = 204032

-- ---- numbers and lines
digits_few : (k n : ℕ) → length (digits k n) ≤ k
unfolding digits
digits_few zero n = omega arith
digits_few (suc k) n = go (ltb n 10) (digits_few k (n / 10))
  where
    go : (t : Bool) → length (digits k (n / 10)) ≤ k → length (cond t ((48 + n % 10) ∷ []) (digits k (n / 10) ++ ((48 + n % 10) ∷ []))) ≤ suc k
    go true h = omega arith
    go false h = omega (arith, length-append (digits k (n / 10)) ((48 + n % 10) ∷ []))

decimal_few : (n : ℕ) → length (decimal n) ≤ 20
unfolding decimal
decimal_few n = digits_few 20 n

word_few : (w : W.Word) → length (word_text w) ≤ 5
unfolding word_text
word_few W.idle = omega arith
word_few W.back = omega arith
word_few W.step = omega arith
word_few W.end = omega arith
word_few W.final = omega arith
word_few W.wait = omega arith
word_few W.bad_ticket = omega arith
word_few W.stuck = omega arith

spaced_few : (n : ℕ) → length (spaced n) ≤ 21
unfolding spaced
spaced_few n = omega (arith, decimal_few n)

last_few : (n : ℕ) → length (last_of n) ≤ 22
unfolding last_of
last_few n = omega (arith, length-append (spaced n) (newline ∷ []), spaced_few n)

turn_few : (t f : ℕ) (w : W.Word) → length (turn_line t (word_text w) f) ≤ 48
unfolding turn_line named
turn_few t f w =
    omega
    (arith, length-append (decimal t ++ (space ∷ word_text w)) (last_of f), length-append (decimal t) (space ∷ word_text w), decimal_few t, word_few w, last_few f)

cell_few : (c v : ℕ) → length (cell_line c v) ≤ 47
unfolding cell_line
cell_few c v = go (eqb v 0)
  where
    go : (t : Bool) → length (cond t [] (99 ∷ 101 ∷ 108 ∷ 108 ∷ space ∷ decimal c ++ last_of v)) ≤ 47
    go true = omega arith
    go false = omega (arith, length-append (decimal c) (last_of v), decimal_few c, last_few v)

refused_few : (r : ℕ × ℕ × ℕ) → length (refused_line r) ≤ 71
unfolding refused_line where_of
refused_few (n, f, p) =
    omega
    (arith, length-append (decimal n) (spaced f ++ last_of p), length-append (spaced f) (last_of p), decimal_few n, spaced_few f, last_few p)

-- ---- a whole session
lines_few : (b : E.Block Running) (ts : List ℕ) → length (turn_lines b ts) ≤ 48 * length ts
unfolding turn_lines
lines_few b [] = omega arith
lines_few b (t ∷ ts) =
    let r = E.turn limits box b t in
    let f = E.finals limits box r.block.jobs in
    omega (arith, length-append (turn_line t (word_text r.word) f) (turn_lines r.block ts), turn_few t f r.word, lines_few r.block ts)

cells_few : (c : ℕ) (vs : List ℕ) → length (cell_lines c vs) ≤ 47 * length vs
unfolding cell_lines
cells_few c [] = omega arith
cells_few c (v ∷ vs) = omega (arith, length-append (cell_line c v) (cell_lines (suc c) vs), cell_few c v, cells_few (suc c) vs)

length_up : (n : ℕ) → length (E.up_to limits box n) ≡ n
length_up zero = refl
length_up (suc n) = omega (arith, length-append (E.up_to limits box n) (n ∷ []), length_up n)

settled_long : (b : E.Block Running) → length (E.settled limits box b) ≡ 256
unfolding E.settled
settled_long b = length-map (E.up_to limits box 256) (E.settled_cell limits box b) ∙ length_up 256

played_few : (b : E.Block Running) (ts : List ℕ) → length ts ≤ TURNS → length (played b ts) ≤ TEXT
unfolding played
played_few b ts l =
    let s = E.settled limits box (E.turns limits box b ts) in
    omega (arith, length-append (turn_lines b ts) (cell_lines 0 s), lines_few b ts, cells_few 0 s, settled_long (E.turns limits box b ts))

-- a session has few tickets
abbrev Few : Session → Type 0
Few (session table paper ts) = length ts ≤ TURNS
Few malformed = Unit

after_few : (table bs : List ℕ) → Few (after_cells table bs)
unfolding after_cells is_turns
after_few table bs = go (is_turns rest) refl
  where
    rest : List ℕ
    rest = drop (paper_length bs) bs

    go : (t : Bool) → is_turns rest ≡ t → Few (cond t (session table (take (paper_length bs) bs) (drop 3 rest)) malformed)
    go true e =
        let outer = both (is_field 2 rest && leb (size rest) TURNS) (eqb (length rest) (3 + size rest)) e in
        let inner = both (is_field 2 rest) (leb (size rest) TURNS) outer.0 in
        omega (arith, leb-true (size rest) TURNS inner.1, eqb-true (length rest) (3 + size rest) outer.1, length-drop 3 rest)
    go false e = tt

cells_have_few : (k least : ℕ) (table bs : List ℕ) → Few (cell_fields k least table bs)
unfolding cell_fields
cells_have_few zero least table bs = after_few table bs
cells_have_few (suc k) least table bs =
    go (is_field 1 bs) (is_next_cell least bs) (cells_have_few k (suc (cell_in bs)) (set table (cell_in bs) (value_in bs)) (later bs))
  where
    go : (t n : Bool) → Few (cell_fields k (suc (cell_in bs)) (set table (cell_in bs) (value_in bs)) (later bs))
        → Few (cond t (cond n (cell_fields k (suc (cell_in bs)) (set table (cell_in bs) (value_in bs)) (later bs)) malformed) (after_cells table bs))
    go true true h = h
    go true false h = tt
    go false n h = after_few table bs

session_few : (bs : List ℕ) → Few (session_of bs)
unfolding session_of from_cell
session_few bs = go (ltb BYTES (length bs))
  where
    go : (t : Bool) → Few (cond t malformed (cell_fields (length bs) 0 zeros bs))
    go true = tt
    go false = cells_have_few (length bs) 0 zeros bs

pub text_short : (bs : List ℕ) → length (session_text bs) ≤ TEXT
unfolding session_text text_of unless_refused
text_short bs = go (session_of bs) (session_few bs)
  where
    answered : (a : ℕ × ℕ × ℕ) (text : List ℕ) → length text ≤ TEXT → length (unless_refused a text) ≤ TEXT
    answered (zero, f, p) text l = l
    answered (suc n, f, p) text l = omega (arith, refused_few (suc n, f, p))

    go : (s : Session) → Few s → length (text_of s) ≤ TEXT
    go (session table paper ts) l = answered (open_answer table paper) (played (open_block table paper) ts) (played_few (open_block table paper) ts l)
    go malformed l = omega (arith, refused_few (13, 0, 0))

-- ---- an output of TEXT bytes holds the whole text, and what stands past it stays
set_after : (front : List ℕ) (o x : ℕ) (out : List ℕ) → set (front ++ (o ∷ out)) (length front) x ≡ (front ++ (x ∷ [])) ++ out
set_after [] o x out = refl
set_after (a ∷ front) o x out = ap (λ (l : List ℕ). a ∷ l) (set_after front o x out)

put_whole : (out text front : List ℕ) → length text ≤ length out → put (front ++ out) (length front) text ≡ front ++ (text ++ drop (length text) out)
unfolding put
put_whole out [] front l = refl
put_whole [] (x ∷ text) front l = absurd (omega arith)
put_whole (o ∷ out) (x ∷ text) front l =
    let longer : suc (length front) ≡ length (front ++ (x ∷ [])) = omega (arith, length-append front (x ∷ [])) in
    rw (set_after front o x out, longer) (put_whole out text (front ++ (x ∷ [])) (omega arith) ∙ append_assoc front (x ∷ []) (text ++ drop (length text) out))

pub plays_whole : (input before after : List ℕ) (n : ℕ) → TEXT ≤ length before → Plays input before after n
    → (after ≡ session_text input ++ drop (length (session_text input)) before) × (n ≡ length (session_text input))
plays_whole input before after n l p =
    let short = text_short input in
    (p.written ∙ put_whole before (session_text input) [] (omega arith), omega (arith, p.ended))
