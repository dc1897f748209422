-- The tables by code are tied to the instructions by one test that is computed over all codes:
-- the change in height is what an instruction puts less what it takes.
use Rattle.std.specs.Prelude.{◌≡◌, refl, Bool, true, false, cond, ◌&&◌, List, [], map, ℕ, zero, suc, ◌+◌, ◌-◌, ◌≤◌, ◌<◌, eqb, length, get_or, drop, set}
use Rattle.std.proofs.Common.{sym, ◌∙◌, arith, eqb-true, leb-true, length-append, length-drop, length-set}
use Rattle.std.proofs.Math.Decide.{ℕ_discrete}
use Rattle.std.proofs.Math.ListN.{get_or-map}
use Rattle.machine.specs.Instruction.{SWAP, needs, changes, known, need, after}
use Rattle.machine.specs.Machine.{top, puts, stays, stack_after}
use Rattle.theory.proofs.ReadSizes.{both}
use Rattle.machine.specs.declared.instruction.Instruction.{Instruction}

-- by code: how many entries an instruction puts
abbrev counts : List ℕ
counts = map length (puts 0 0 [])

abbrev tied : ℕ → Bool
tied c = eqb (get_or changes c 0 + get_or needs c 0) (get_or counts c 0 + 2)

abbrev all : ℕ → (ℕ → Bool) → Bool
all zero f = true
all (suc n) f = f n && all n f

all_at : (n : ℕ) (f : ℕ → Bool) → all n f ≡ true → (k : ℕ) → k < n → f k ≡ true
all_at zero f e k l = absurd (omega arith)
all_at (suc n) f e k l = let w = both (f n) (all n f) e in go (ℕ_discrete k n) w.0 (all_at n f w.1 k)
  where
    go : Dec (k ≡ n) → f n ≡ true → (k < n → f k ≡ true) → f k ≡ true
    go (yes q) w ih = rw q w
    go (no q) w ih = ih (omega arith)

pub tables_tied : all 14 tied ≡ true
tables_tied = refl

change_is : (c : ℕ) → c ≤ 13 → get_or changes c 0 + get_or needs c 0 ≡ get_or counts c 0 + 2
change_is c l = eqb-true _ _ (all_at 14 tied tables_tied c (omega arith))

-- what is put does not depend, in number, on the operand, the value read or the stack
put_count : (x v : ℕ) (st : List ℕ) (c : ℕ) → length (get_or (puts x v st) c []) ≡ get_or counts c 0
put_count x v st c = sym (get_or-map length (puts x v st) c [])

stay_count : (i : Instruction) (st : List ℕ) → length (stays i st) ≡ length st - get_or needs i.code 0
unfolding stays
stay_count i st = go (eqb i.code SWAP) refl
  where
    go : (t : Bool) → eqb i.code SWAP ≡ t
        → length (cond t (set (drop 1 st) (i.operand - 1) (top st)) (drop (get_or needs i.code 0) st)) ≡ length st - get_or needs i.code 0
    go true e = rw (eqb-true i.code SWAP e) (length-set (drop 1 st) (i.operand - 1) (top st) ∙ length-drop 1 st)
    go false e = length-drop (get_or needs i.code 0) st

-- the stack after an instruction that finds its entries has the height that the tables say
pub stack_length : (i : Instruction) (v : ℕ) (st : List ℕ) → known i ≡ true → need i ≤ length st → length (stack_after i v st) ≡ after i (length st)
unfolding stack_after known need after
stack_length i v st k n =
    length-append (get_or (puts i.operand v st) i.code []) (stays i st)
    ∙ rw (put_count i.operand v st i.code, stay_count i st) (omega (arith, change_is i.code (leb-true _ _ k)))
