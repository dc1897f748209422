-- The test of an instruction by its bytes: the bounds by code are those of the operand's column,
-- and each place is tested after those before it.
use mathlib.Core.Path.{◌≡◌, refl, ap, ◌∙◌}
use mathlib.Core.Bool.{Bool, false, ◌&&◌, ◌||◌}
use mathlib.Core.List.{List}
use Prim.Native.Nat.{ℕ, zero, suc, ◌+◌, ◌-◌, ◌≤◌, ◌<◌}
use native.Mathlib.Omega.{arith}
use native.Mathlib.Decide.{ℕ_discrete, dec_lt}
use lib.Dec.{eqb, leb, ltb, leb-zero}
use lib.ListN.{get_or}
use borrow.Author.Tests.{lt-ltb, le-ltb, le-leb, lt-leb, ne_eqb}
use Rattle.theory.specs.Lists.{tab, get_d_tab}
use Rattle.machine.specs.Instruction.{known, fits}
use Rattle.rules.specs.Sizes.{passes, instruction_within, by_code, keeps_at, bytes_within}
use Rattle.rules.proofs.Laws.Tests.{passes_more}

-- the bounds are those of the operand's column
module _ (n p a : ℕ) where
  only_zero : (x : ℕ) → leb 0 x && ltb x 1 ≡ eqb x 0
  only_zero x = go (ℕ_discrete x 0)
    where
      go : Dec (x ≡ 0) → leb 0 x && ltb x 1 ≡ eqb x 0
      go (yes e) = rw e refl
      go (no e) = rw (leb-zero x, le-ltb x 1 (omega arith), ne_eqb x 0 e) refl

  to_fifteen : ltb a 16 ≡ leb a 15
  to_fifteen = go (dec_lt a 16)
    where
      go : Dec (a < 16) → ltb a 16 ≡ leb a 15
      go (yes l) = rw (lt-ltb a 16 l, le-leb a 15 (omega arith)) refl
      go (no l) = rw (le-ltb a 16 (omega arith), lt-leb a 15 (omega arith)) refl

  abbrev pub bounded : ℕ → Bool
  bounded c = leb c 13 && (eqb c 2 || (leb (by_code c (suc p) 1 0) a && ltb a (by_code c n 16 1)))

  unknown : (c : ℕ) → 13 < c → bounded c ≡ keeps_at n p c a
  unfolding keeps_at instruction_within known
  unknown c l = rw (lt-leb c 13 l, ne_eqb c 2 (λ e. omega (arith, l, e))) refl

  pub bounds_are : (c : ℕ) → bounded c ≡ keeps_at n p c a
  unfolding by_code keeps_at instruction_within known fits
  bounds_are zero = only_zero a
  bounds_are (suc zero) = only_zero a
  bounds_are (suc (suc zero)) = refl
  bounds_are (suc (suc (suc zero))) = only_zero a
  bounds_are (suc (suc (suc (suc zero)))) = rw to_fifteen refl
  bounds_are (suc (suc (suc (suc (suc zero))))) = rw to_fifteen refl
  bounds_are (suc (suc (suc (suc (suc (suc zero)))))) = only_zero a
  bounds_are (suc (suc (suc (suc (suc (suc (suc zero))))))) = only_zero a
  bounds_are (suc (suc (suc (suc (suc (suc (suc (suc zero)))))))) = only_zero a
  bounds_are (suc (suc (suc (suc (suc (suc (suc (suc (suc zero))))))))) = only_zero a
  bounds_are (suc (suc (suc (suc (suc (suc (suc (suc (suc (suc zero)))))))))) = only_zero a
  bounds_are (suc (suc (suc (suc (suc (suc (suc (suc (suc (suc (suc zero))))))))))) = only_zero a
  bounds_are (suc (suc (suc (suc (suc (suc (suc (suc (suc (suc (suc (suc zero)))))))))))) = refl
  bounds_are (suc (suc (suc (suc (suc (suc (suc (suc (suc (suc (suc (suc (suc zero))))))))))))) = refl
  bounds_are (suc (suc (suc (suc (suc (suc (suc (suc (suc (suc (suc (suc (suc (suc c)))))))))))))) = unknown (suc (suc (suc (suc (suc (suc (suc (suc (suc (suc (suc (suc (suc (suc c)))))))))))))) (omega arith)

pub keeps_law : (n next c a least limit : ℕ) → 0 < next → least ≡ by_code c next 1 0 → limit ≡ by_code c n 16 1
    → leb c 13 && (eqb c 2 || (leb least a && ltb a limit)) ≡ keeps_at n (next - 1) c a
keeps_law n next c a least limit l el em =
    let up : next ≡ suc (next - 1) = omega arith in
    rw (el, em) (ap (λ (m : ℕ). leb c 13 && (eqb c 2 || (leb (by_code c m 1 0) a && ltb a (by_code c n 16 1)))) up ∙ bounds_are n (next - 1) a c)

-- ---- the instructions, one by one
-- the byte at a place of the next places
next_at : (ps : List ℕ) (k : ℕ) → ps ≡ tab 64 suc → k < 64 → get_or ps k 0 ≡ suc k
next_at ps k e l = rw e (get_d_tab 64 suc k 0 l)

pub next_some : (ps : List ℕ) (k : ℕ) → ps ≡ tab 64 suc → k < 64 → 0 < get_or ps k 0
next_some ps k e l = omega (arith, next_at ps k e l)

module _ (cs xs : List ℕ) (n : ℕ) where
  abbrev pub keeps_in : ℕ → Bool
  keeps_in k = keeps_at n k (get_or cs k 0) (get_or xs k 0)

  pub code_long : 64 < n → false ≡ bytes_within cs xs n
  unfolding bytes_within
  code_long l = rw (lt-leb _ _ l) refl

  pub code_on : (k : ℕ) (x : Bool) → x ≡ passes keeps_in 0 k → k < 64 → (ps : List ℕ) → ps ≡ tab 64 suc → (here : Bool) → here ≡ keeps_at n (get_or ps k 0 - 1) (get_or cs k 0) (get_or xs k 0)
      → x && here ≡ passes keeps_in 0 (k + 1)
  code_on k x g l ps e here h =
      let down : get_or ps k 0 - 1 ≡ k = omega (arith, next_at ps k e l) in
      rw (g, h, down) (passes_more keeps_in k)

  pub code_end : n ≤ 64 → (k : ℕ) (x : Bool) → x ≡ passes keeps_in 0 k → k ≡ n → x ≡ bytes_within cs xs n
  unfolding bytes_within
  code_end l k x g e = rw (le-leb _ _ l) (g ∙ ap (passes keeps_in 0) e)
