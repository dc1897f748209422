-- A READ is stepped over, then given its value:
-- that is the machine's READ of this value.
use mathlib.Core.Path.{◌≡◌, refl}
use mathlib.Core.Bool.{Bool, true, false, cond}
use Prim.Native.Nat.{ℕ, suc, ◌≤◌}
use native.Mathlib.Omega.{arith}
use lib.Dec.{eqb}
use lib.ListN.{length, drop, length-drop}
use borrow.Author.Tests.{eqb-true, le-leb}
use Rattle.theory.specs.Promise.{nothing, read, write, stop, abandon, stuck}
use Rattle.machine.specs.Limits.{ROOM}
use Rattle.machine.specs.Instruction.{STOP, ABANDON, READ, WRITE}
use Rattle.machine.specs.Machine.{State as Plain, cell_of, top, next as second, stays, stack_after, moved, ready, asked, act, stepped, given}
use Rattle.machine.specs.Able.{ready_all}
use Rattle.machine.specs.declared.instruction.Instruction.{Instruction}

module _ (n : ℕ) (i : Instruction) (s : Plain) where
  -- what is asked where a cell is read
  pub reads : (c : ℕ) → act ROOM n i s ≡ read c → (ready ROOM n i s ≡ true) × (i.code ≡ READ)
  unfolding act asked
  reads c e = go (ready ROOM n i s) refl (eqb i.code STOP) (eqb i.code ABANDON) (eqb i.code READ) refl (eqb i.code WRITE) e
    where
      go : (r : Bool) → ready ROOM n i s ≡ r → (a b d : Bool) → eqb i.code READ ≡ d → (w : Bool)
          → cond r (cond a stop (cond b abandon (cond d (read (cell_of (top s.stack))) (cond w (write (cell_of (top s.stack)) (second s.stack) (moved i 0 s)) (nothing (moved i 0 s)))))) stuck ≡ read c
          → (ready ROOM n i s ≡ true) × (i.code ≡ READ)
      go true er false false true ed w e = (er, eqb-true _ _ ed)
      go true er true b d ed w e = absurd (let z : ◌≡◌ {A = ℕ} 0 1 = cc in omega arith)
      go true er false true d ed w e = absurd (let z : ◌≡◌ {A = ℕ} 0 1 = cc in omega arith)
      go true er false false false ed true e = absurd (let z : ◌≡◌ {A = ℕ} 0 1 = cc in omega arith)
      go true er false false false ed false e = absurd (let z : ◌≡◌ {A = ℕ} 0 1 = cc in omega arith)
      go false er a b d ed w e = absurd (let z : ◌≡◌ {A = ℕ} 0 1 = cc in omega arith)

  -- a READ that is stepped over, then given its value, is a READ of that value
  pub given_is : (c v : ℕ) → act ROOM n i s ≡ read c → given ROOM v (stepped ROOM n i s) ≡ moved i v s
  unfolding given stepped moved stack_after stays
  given_is c v e = rw (w.0, w.1, le-leb _ _ low) refl
    where
      w : (ready ROOM n i s ≡ true) × (i.code ≡ READ)
      w = reads c e

      low : suc (length (drop 1 s.stack)) ≤ 16
      low = omega (arith, length-drop 1 s.stack, (ready_all ROOM n i s w.0).within)
