-- An array that is filled entry by entry, from the first on: what was stored stays,
-- so once the rest holds what it should, the array is the whole list.
use mathlib.Core.Path.{◌≡◌, sym, ◌∙◌}
use mathlib.Core.List.{List}
use Prim.Native.Nat.{ℕ, ◌+◌, ◌≤◌, ◌<◌}
use native.Mathlib.Omega.{arith}
use native.Mathlib.Decide.{ℕ_discrete, dec_lt}
use lib.ListN.{length, get_or, set, replicate, length-set, length-replicate, get_or-replicate}
use lib.Seq.{ext_get_or, get_or-set_same, get_or-set_other}
use Rattle.theory.specs.Lists.{tab, length_tab, get_d_tab}

-- the first k of n entries are those of f, and the others are z
pub record Filling {A : Type 0} (z : A) (f : ℕ → A) (n k : ℕ) (xs : List A) : Type 0 where
  pub long : length xs ≡ n
  pub below : (i : ℕ) → i < k → get_or xs i z ≡ f i
  pub rest : (i : ℕ) → k ≤ i → i < n → get_or xs i z ≡ z

module _ {A : Type 0} (z : A) (f : ℕ → A) (n : ℕ) where
  pub fill_start : Filling z f n 0 (replicate n z)
  fill_start = record { long = length-replicate n z; below = λ i l. absurd (omega arith); rest = λ i l m. get_or-replicate n i z z m }

  module _ (k : ℕ) (xs : List A) (g : Filling z f n k xs) where
    pub fill_on : k < n → (x : A) → x ≡ f k → Filling z f n (k + 1) (set xs k x)
    fill_on l x e = record {
      long = length-set xs k x ∙ g.long;
      below = λ i m. below i (ℕ_discrete i k) (omega (arith, m));
      rest = λ i m o. get_or-set_other xs k i x z (λ q. omega (arith, m, q)) ∙ g.rest i (omega (arith, m)) o;
    }
      where
        below : (i : ℕ) → Dec (i ≡ k) → i ≤ k → get_or (set xs k x) i z ≡ f i
        below i (yes q) m = rw q (get_or-set_same xs k x z (omega (arith, l, g.long)) ∙ e)
        below i (no q) m = get_or-set_other xs k i x z q ∙ g.below i (omega (arith, m, q))

    pub fill_end : ((i : ℕ) → k ≤ i → i < n → f i ≡ z) → xs ≡ tab n f
    fill_end h = ext_get_or z xs (tab n f) (g.long ∙ sym (length_tab n f)) (λ i l. at i (rw g.long at l) (dec_lt i k))
      where
        at : (i : ℕ) → i < n → Dec (i < k) → get_or xs i z ≡ get_or (tab n f) i z
        at i l (yes m) = g.below i m ∙ sym (get_d_tab n f i z l)
        at i l (no m) = g.rest i (omega arith) l ∙ sym (h i (omega arith) l) ∙ sym (get_d_tab n f i z l)

-- a list by its own entries
pub tab_get_d : {A : Type 0} (d : A) (xs : List A) → tab (length xs) (λ k. get_or xs k d) ≡ xs
tab_get_d d xs = ext_get_or d (tab (length xs) (λ k. get_or xs k d)) xs (length_tab (length xs) _) (λ i l. get_d_tab (length xs) _ i d (rw (length_tab (length xs) (λ k. get_or xs k d)) at l))
