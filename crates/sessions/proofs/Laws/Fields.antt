-- The fields of a session: each takes bytes, so the number of bytes is fields enough, and a loop over the fields is the definition's own
-- recursion from the place that it has reached.
use mathlib.Core.Path.{◌≡◌, refl, ap, sym, ◌∙◌}
use mathlib.Core.Bool.{Bool, true, false, cond, ◌&&◌}
use mathlib.Core.List.{List, [], ◌∷◌}
use Rattle.std.specs.Prelude.{Option}
use Prim.Native.Nat.{ℕ, zero, suc, ◌+◌, ◌-◌, ◌≤◌, ◌<◌}
use native.Mathlib.Omega.{arith}
use native.Mathlib.Numerals.{add-one}
use lib.Dec.{eqb, leb}
use lib.ListN.{length, get_or, take, drop, set, replicate, length-drop}
use lib.Seq.{length-take-le}
use borrow.Author.Tests.{lt-ltb, le-ltb, le-leb, lt-leb, eq-eqb, ne_eqb, leb-true, eqb-true}
use Rattle.std.specs.Cmp.{both_ways}
use Rattle.std.proofs.lemmas.List.{take_rest}
use Rattle.theory.proofs.ReadSizes.{both}
use Rattle.machine.specs.Paper.{little, tag, size, later}
use Rattle.sessions.specs.Limits.{BYTES, TURNS}
use Rattle.sessions.specs.Fields.{Session, session, malformed, is_field, is_turns, paper_size, paper_length, after_cells, cell_in, value_in, is_next_cell, cell_fields, from_cell, zeros, session_of, Divides}
use Rattle.sessions.specs.declared.fields.Parts.{Parts}

-- ---- a field at the front
no_field : (t : ℕ) → is_field t [] ≡ false
unfolding is_field
no_field t = refl

module _ (t : ℕ) (bs : List ℕ) (e : is_field t bs ≡ true) where
  whole : 3 + size bs ≤ length bs
  unfolding is_field
  whole =
      leb-true (3 + size bs) (length bs)
      (both (leb 3 (length bs)) (leb (3 + size bs) (length bs)) (both (leb 3 (length bs) && leb (3 + size bs) (length bs)) (eqb (tag bs) t) e).0).1

  shorter : length (later bs) < length bs
  unfolding later
  shorter = omega (arith, whole, length-drop (3 + size bs) bs)

later_long : (bs : List ℕ) → length (later bs) ≡ length bs - (3 + size bs)
unfolding later
later_long bs = length-drop (3 + size bs) bs

-- ---- fields enough are enough
cells_enough : (k m least : ℕ) (table bs : List ℕ) → length bs ≤ k → length bs ≤ m → cell_fields k least table bs ≡ cell_fields m least table bs
unfolding cell_fields
cells_enough zero zero least table bs a b = refl
cells_enough zero (suc m) least table [] a b = rw (no_field 1) refl
cells_enough zero (suc m) least table (x ∷ bs) a b = absurd (omega arith)
cells_enough (suc k) zero least table [] a b = rw (no_field 1) refl
cells_enough (suc k) zero least table (x ∷ bs) a b = absurd (omega arith)
cells_enough (suc k) (suc m) least table bs a b = go (is_field 1 bs) refl (cells_enough k m (suc (cell_in bs)) (set table (cell_in bs) (value_in bs)) (later bs))
  where
    go : (t : Bool) → is_field 1 bs ≡ t
        → (length (later bs) ≤ k → length (later bs) ≤ m
        → cell_fields k (suc (cell_in bs)) (set table (cell_in bs) (value_in bs)) (later bs) ≡ cell_fields m (suc (cell_in bs)) (set table (cell_in bs) (value_in bs)) (later bs))
        → cell_fields (suc k) least table bs ≡ cell_fields (suc m) least table bs
    go true e h = let l = shorter 1 bs e in rw e (ap (λ (s : Session). cond (is_next_cell least bs) s malformed) (h (omega arith) (omega arith)))
    go false e h = rw e refl

paper_enough : (k m : ℕ) (bs : List ℕ) → length bs ≤ k → length bs ≤ m → paper_size k bs ≡ paper_size m bs
unfolding paper_size
paper_enough zero zero bs a b = refl
paper_enough zero (suc m) [] a b = rw (no_field 16) refl
paper_enough zero (suc m) (x ∷ bs) a b = absurd (omega arith)
paper_enough (suc k) zero [] a b = rw (no_field 16) refl
paper_enough (suc k) zero (x ∷ bs) a b = absurd (omega arith)
paper_enough (suc k) (suc m) bs a b = go (is_field 16 bs) refl (paper_enough k m (later bs))
  where
    go : (t : Bool) → is_field 16 bs ≡ t → (length (later bs) ≤ k → length (later bs) ≤ m → paper_size k (later bs) ≡ paper_size m (later bs)) → paper_size (suc k) bs ≡ paper_size (suc m) bs
    go true e h = let l = shorter 16 bs e in rw e (ap (λ (n : ℕ). 3 + size bs + n) (h (omega arith) (omega arith)))
    go false e h = rw e refl

module _ (least : ℕ) (table bs : List ℕ) where
  one_more : from_cell least table bs ≡ cell_fields (suc (length bs)) least table bs
  unfolding from_cell
  one_more = cells_enough (length bs) (suc (length bs)) least table bs (omega arith) (omega arith)

  from_cell_lem : is_field 1 bs ≡ true → is_next_cell least bs ≡ true → from_cell least table bs ≡ from_cell (suc (cell_in bs)) (set table (cell_in bs) (value_in bs)) (later bs)
  unfolding from_cell cell_fields
  from_cell_lem e n =
      let l = shorter 1 bs e in
      one_more ∙ rw (e, n) (cells_enough (length bs) (length (later bs)) (suc (cell_in bs)) (set table (cell_in bs) (value_in bs)) (later bs) (omega arith) (omega arith))

  from_breach : is_field 1 bs ≡ true → is_next_cell least bs ≡ false → from_cell least table bs ≡ malformed
  unfolding cell_fields
  from_breach e n = one_more ∙ rw (e, n) refl

  from_paper : is_field 1 bs ≡ false → from_cell least table bs ≡ after_cells table bs
  unfolding cell_fields
  from_paper e = one_more ∙ rw e refl

module _ (bs : List ℕ) where
  one_paper_more : paper_length bs ≡ paper_size (suc (length bs)) bs
  unfolding paper_length
  one_paper_more = paper_enough (length bs) (suc (length bs)) bs (omega arith) (omega arith)

  paper_field : is_field 16 bs ≡ true → paper_length bs ≡ 3 + size bs + paper_length (later bs)
  unfolding paper_length paper_size
  paper_field e = let l = shorter 16 bs e in one_paper_more ∙ rw e (ap (λ (n : ℕ). 3 + size bs + n) (paper_enough (length bs) (length (later bs)) (later bs) (omega arith) (omega arith)))

  paper_none : is_field 16 bs ≡ false → paper_length bs ≡ 0
  unfolding paper_size
  paper_none e = one_paper_more ∙ rw e refl

-- a paper ends inside
paper_inner : (k : ℕ) (bs : List ℕ) → paper_size k bs ≤ length bs
unfolding paper_size
paper_inner zero bs = omega arith
paper_inner (suc k) bs = go (is_field 16 bs) refl (paper_inner k (later bs))
  where
    go : (t : Bool) → is_field 16 bs ≡ t → paper_size k (later bs) ≤ length (later bs) → paper_size (suc k) bs ≤ length bs
    go true e h = rw e (inner e h)
      where
        inner : is_field 16 bs ≡ true → paper_size k (later bs) ≤ length (later bs) → 3 + size bs + paper_size k (later bs) ≤ length bs
        inner e h = omega (arith, whole 16 bs e, later_long bs)
    go false e h = rw e (omega arith)

paper_short : (bs : List ℕ) → paper_length bs ≤ length bs
unfolding paper_length
paper_short bs = paper_inner (length bs) bs

-- the field of tickets is the whole rest
turns_whole : (bs : List ℕ) → is_turns bs ≡ true → (3 ≤ length bs) × (length bs ≤ 3 + TURNS)
unfolding is_turns
turns_whole bs e =
    let outer = both (is_field 2 bs && leb (size bs) TURNS) (eqb (length bs) (3 + size bs)) e in
    let inner = both (is_field 2 bs) (leb (size bs) TURNS) outer.0 in
    (omega (arith, whole 2 bs inner.0), omega (arith, leb-true (size bs) TURNS inner.1, eqb-true (length bs) (3 + size bs) outer.1))

-- ---- the parts of a field
module _ (bs : List ℕ) where
  pub value_is : (r : ℕ) → 12 ≤ length bs → r ≡ cond (leb (length (take 8 (drop 4 bs))) 8) (little (take 8 (drop 4 bs))) 0 → r ≡ value_in bs
  unfolding value_in
  value_is r l e = e ∙ rw (length-take-le 8 (drop 4 bs) (rw length-drop (omega arith))) refl

  module _ (t : ℕ) (v : Bool) where
    pub field_head : length bs < 3 → v ≡ false → v ≡ is_field t bs
    unfolding is_field
    field_head a e = rw (lt-leb 3 (length bs) a) e

    module _ (n : ℕ) (en : n ≡ size bs) (a : 3 ≤ length bs) (ev : v ≡ leb n (length bs - 3)) where
      same_test : leb (3 + size bs) (length bs) ≡ v
      same_test =
          both_ways (leb (3 + size bs) (length bs)) (leb n (length bs - 3)) (λ e. le-leb n (length bs - 3) (omega (arith, leb-true (3 + size bs) (length bs) e)))
          (λ e. le-leb (3 + size bs) (length bs) (omega (arith, leb-true n (length bs - 3) e))) ∙ sym ev

      pub field_past : v ≡ false → v ≡ is_field t bs
      unfolding is_field
      field_past e = rw (le-leb 3 (length bs) a, same_test, e) refl

      pub field_here : v ≡ true → eqb (get_or bs 0 0) t ≡ is_field t bs
      unfolding is_field
      field_here e = rw (le-leb 3 (length bs) a, same_test, e) refl

pub ruleset field_laws = (field_head, field_past, field_here)

-- ---- the cells
module _ (bs : List ℕ) (least : ℕ) (e : is_field 1 bs ≡ true) where
  pub cell_head : 3 ≤ length bs
  cell_head = omega (arith, whole 1 bs e)

  module _ (n : ℕ) (en : n ≡ size bs) where
    pub next_size : (n ≡ 9 → ⊥) → eqb n 9 ≡ is_next_cell least bs
    unfolding is_next_cell
    next_size q = rw (← en, ne_eqb n 9 q) refl

    pub next_inside : n ≡ 9 → 3 < length bs
    next_inside q = omega (arith, whole 1 bs e)

    pub next_cell : (c : ℕ) → n ≡ 9 → c ≡ cell_in bs → leb least c ≡ is_next_cell least bs
    unfolding is_next_cell
    next_cell c q e = rw (← en, eq-eqb n 9 q, e) refl

pub ruleset next_laws = (cell_head, next_size, next_inside, next_cell)

told : (r t : Bool) → r ≡ t → r ≡ true → t ≡ true
told r t e n = sym e ∙ n

-- ---- the field of tickets
module _ (bs : List ℕ) (r : Bool) (er : r ≡ is_field 2 bs) where
  pub turns_head : r ≡ true → 3 ≤ length bs
  turns_head nr = omega (arith, whole 2 bs (told r _ er nr))

  module _ (v : Bool) where
    pub turns_other : r ≡ false → v ≡ false → v ≡ is_turns bs
    unfolding is_turns
    turns_other n e = rw (← er, n) e

    module _ (nr : r ≡ true) (n : ℕ) (en : n ≡ size bs) (ev : v ≡ leb n TURNS) where
      pub turns_long : v ≡ false → v ≡ is_turns bs
      unfolding is_turns
      turns_long e = rw (← er, nr, ← en, ← ev, e) refl

      pub turns_last : (m : ℕ) → v ≡ true → m ≡ size bs → eqb (length bs - 3) m ≡ is_turns bs
      unfolding is_turns
      turns_last m e em =
          let one : eqb (length bs - 3) m ≡ true → eqb (length bs) (3 + n) ≡ true
          = λ e. eq-eqb (length bs) (3 + n) (omega (arith, turns_head nr, eqb-true (length bs - 3) m e)) in
          let other : eqb (length bs) (3 + n) ≡ true → eqb (length bs - 3) m ≡ true
          = λ e. eq-eqb (length bs - 3) m (omega (arith, eqb-true (length bs) (3 + n) e)) in
          rw (← er, nr, ← en, ← ev, e) (both_ways (eqb (length bs - 3) m) (eqb (length bs) (3 + n)) one other)

pub ruleset turns_laws = (turns_other, turns_head, turns_long, turns_last)

-- ---- the paper
module _ (bs rest : List ℕ) (inv : length bs + paper_length rest ≡ length rest + paper_length bs) (r : Bool) (er : r ≡ is_field 16 rest) where
  pub paper_done : r ≡ false → length bs - length rest ≡ paper_length bs
  paper_done n = omega (arith, inv, paper_none rest (sym er ∙ n))

  module _ (nr : r ≡ true) where
    pub paper_head : 3 ≤ length rest
    paper_head = omega (arith, whole 16 rest (told r _ er nr))

    module _ (n : ℕ) (en : n ≡ size rest) where
      pub paper_room : 3 + n ≤ length rest
      paper_room = omega (arith, whole 16 rest (told r _ er nr))

      pub paper_on : length bs + paper_length (take (length rest - (3 + n)) (drop (3 + n) rest)) ≡ length (take (length rest - (3 + n)) (drop (3 + n) rest)) + paper_length bs
      unfolding later
      paper_on = rw (take_rest rest (3 + n), en) (omega (arith, inv, length-drop (3 + size rest) rest, whole 16 rest (told r _ er nr), paper_field rest (told r _ er nr)))

pub ruleset paper_laws = (paper_done, paper_head, paper_room, paper_on)

-- ---- the parts after the cells
module _ (bs table : List ℕ) (n : ℕ) (en : n ≡ paper_length bs) where
  pub parts_inside : n ≤ length bs
  parts_inside = omega (arith, en, paper_short bs)

  module _ (turns : List ℕ) (et : turns ≡ drop n bs) (t : Bool) (er : t ≡ is_turns turns) where
    pub parts_breach : t ≡ false → after_cells table bs ≡ malformed
    unfolding after_cells
    parts_breach f = rw (← en, ← et, ← er, f) refl

    module _ (f : t ≡ true) where
      pub parts_head : 3 ≤ length turns
      parts_head = (turns_whole turns (told t _ er f)).0

      pub parts_few : length (take (length turns - 3) (drop 3 turns)) ≤ TURNS
      parts_few = rw (take_rest turns 3) (omega (arith, length-drop 3 turns, (turns_whole turns (told t _ er f)).1))

      pub parts_session : (paper : List ℕ) → paper ≡ take n bs → after_cells table bs ≡ session table paper (take (length turns - 3) (drop 3 turns))
      unfolding after_cells
      parts_session paper ep = rw (take_rest turns 3, ← en, ← et, ← er, f, ep) refl

pub ruleset parts_laws = (parts_inside, parts_breach, parts_head, parts_few, parts_session)

-- ---- the loop over the cells
module _ (bs rest table : List ℕ) (least : ℕ) (inv : from_cell least table rest ≡ session_of bs) (r : Bool) (er : r ≡ is_field 1 rest) where
  pub cells_done : r ≡ false → (p : Option Parts) → Divides (after_cells table rest) p → Divides (session_of bs) p
  cells_done n p d = rw (sym (sym inv ∙ from_paper least table rest (sym er ∙ n))) at d

  module _ (nr : r ≡ true) (s : Bool) (es : s ≡ is_next_cell least rest) where
    pub cells_breach : s ≡ false → session_of bs ≡ malformed
    cells_breach n = sym inv ∙ from_breach least table rest (told r _ er nr) (sym es ∙ n)

    module _ (ns : s ≡ true) where
      nine : size rest ≡ 9
      unfolding is_next_cell
      nine = eqb-true (size rest) 9 (both (eqb (size rest) 9) (leb least (cell_in rest)) (told s _ es ns)).0

      pub cell_inside : 12 ≤ length rest
      cell_inside = omega (arith, nine, whole 1 rest (told r _ er nr))

      pub cell_third : 3 < length rest
      cell_third = omega (arith, cell_inside)

      pub cells_on : (c v : ℕ) → c ≡ cell_in rest → v ≡ value_in rest → from_cell (c + 1) (set table c v) (take (length rest - 12) (drop 12 rest)) ≡ session_of bs
      unfolding later
      cells_on c v ec ev =
          let d : later rest ≡ drop 12 rest = ap (λ (k : ℕ). drop (3 + k) rest) nine in
          rw (take_rest rest 12, add-one c, ← d, ev, ec) (sym (from_cell_lem least table rest (told r _ er nr) (told s _ es ns)) ∙ inv)

-- ---- a whole session
module _ (bs : List ℕ) where
  pub session_large : BYTES < length bs → session_of bs ≡ malformed
  unfolding session_of
  session_large l = rw (lt-ltb BYTES (length bs) l) refl

  pub session_starts : length bs ≤ BYTES → from_cell 0 (replicate 256 0) bs ≡ session_of bs
  unfolding session_of zeros
  session_starts l = rw (le-ltb BYTES (length bs) l) refl

pub ruleset session_laws = (session_large, session_starts, cells_done, cells_breach, cell_inside, cell_third, cells_on)
