-- What a ready instruction finds, as facts for the code that does it.
use Rattle.theory.proofs.ReadSizes.{both}
use Rattle.std.specs.Prelude.{◌≡◌, ℕ, suc, ◌<◌, ◌≤◌, Bool, true, false, not, ◌||◌, length, ◌==◌, nat_le, nat_lt, slice_index_or, refl}
use Rattle.std.proofs.Common.{arith}
use borrow.Author.Tests.{ltb-true, leb-true, eqb-true}
use Rattle.machine.specs.Instruction.{columns, known, fits, leads_on, jumps, need, after, JUMP, JUMPZERO}
use Rattle.machine.specs.Machine.{State, placed, suffices, ready}
use Rattle.machine.specs.declared.instruction.Instruction.{Instruction}

pub record Able (i : Instruction) (s : State) : Type 0 where
  pub code : i.code ≤ 13
  pub here : s.place < 255
  pub count : slice_index_or columns i.code 0 ≡ 2 → (1 ≤ i.operand) × (i.operand ≤ 15)
  pub place : slice_index_or columns i.code 0 ≡ 3 → i.operand < 256
  pub within : length s.stack ≤ 16
  pub enough : need i ≤ length s.stack
  pub room : after i (length s.stack) ≤ 16

-- the tests of `ready`, one by one
pub record Ready (room n : ℕ) (i : Instruction) (s : State) : Type 0 where
  pub inside : s.place < n
  pub code : i.code ≤ 13
  pub operand : fits n s.place i ≡ true
  pub on : not (leads_on i) || nat_lt (suc s.place) n ≡ true
  pub within : length s.stack ≤ room
  pub enough : need i ≤ length s.stack
  pub room_after : after i (length s.stack) ≤ room

pub ready_all : (room n : ℕ) (i : Instruction) (s : State) → ready room n i s ≡ true → Ready room n i s
unfolding ready placed suffices known
ready_all room n i s e =
    let h = length s.stack in
    let a = both (placed n i s.place) (suffices room i h) e in
    let b = both _ (not (leads_on i) || nat_lt (suc s.place) n) a.0 in
    let c = both _ (fits n s.place i) b.0 in
    let d = both (nat_lt s.place n) (known i) c.0 in
    let f = both _ (nat_le (after i h) room) a.1 in
    let g = both (nat_le h room) (nat_le (need i) h) f.0 in
    record {
      inside = ltb-true _ _ d.0;
      code = leb-true _ _ d.1;
      operand = c.1;
      on = b.1;
      within = leb-true _ _ g.0;
      enough = leb-true _ _ g.1;
      room_after = leb-true _ _ f.1;
    }

module _ (n p : ℕ) (i : Instruction) (e : fits n p i ≡ true) where
  pub in_count : slice_index_or columns i.code 0 ≡ 2 → (1 ≤ i.operand) × (i.operand ≤ 15)
  unfolding fits
  in_count q = let w = both (nat_le 1 i.operand) (nat_le i.operand 15) (rw q at e) in (leb-true _ _ w.0, leb-true _ _ w.1)

  pub in_place : slice_index_or columns i.code 0 ≡ 3 → (p < i.operand) × (i.operand < n)
  unfolding fits
  in_place q = let w = both (nat_lt p i.operand) (nat_lt i.operand n) (rw q at e) in (ltb-true _ _ w.0, ltb-true _ _ w.1)

-- a jump whose operand is in its column leads to a later place in the job
pub jump_place : (n p : ℕ) (i : Instruction) → fits n p i ≡ true → jumps i ≡ true → (p < i.operand) × (i.operand < n)
unfolding jumps
jump_place n p i e j = go (i.code == JUMP) refl j
  where
    go : (t : Bool) → (i.code == JUMP) ≡ t → t || (i.code == JUMPZERO) ≡ true → (p < i.operand) × (i.operand < n)
    go true q w = in_place n p i e (rw (eqb-true i.code JUMP q) refl)
    go false q w = in_place n p i e (rw (eqb-true i.code JUMPZERO w) refl)

pub able : (n : ℕ) (i : Instruction) (s : State) → n < 256 → ready 16 n i s ≡ true → Able i s
able n i s l e =
    let r = ready_all 16 n i s e in
    record {
      code = r.code;
      here = omega (arith, r.inside);
      count = in_count n s.place i r.operand;
      place = λ q. omega (arith, (in_place n s.place i r.operand q).1);
      within = r.within;
      enough = r.enough;
      room = r.room_after;
    }
