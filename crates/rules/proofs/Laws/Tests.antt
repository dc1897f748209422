-- Tests place by place: in a loop, those made so far; and over the first entries of a list, those of the list.
use mathlib.Core.Path.{◌≡◌, refl, ap, ◌∙◌}
use mathlib.Core.Bool.{Bool, false, ◌&&◌, and_comm, and-false}
use mathlib.Core.List.{List, [], ◌∷◌}
use Prim.Native.Nat.{ℕ, zero, suc, ◌+◌, ◌≤◌, ◌<◌}
use native.Mathlib.Omega.{arith}
use Rattle.std.specs.List.{list_all}
use Rattle.std.proofs.Common.{add-zero}
use lib.ListN.{length, get_or, take}
use Rattle.rules.specs.Sizes.{passes, passes_last}

-- one more
pub passes_more : (f : ℕ → Bool) (k : ℕ) → passes f 0 k && f k ≡ passes f 0 (k + 1)
passes_more f k =
    let up : k + 1 ≡ suc k = omega arith in
    let at : 0 + k ≡ k = omega arith in
    rw (up, passes_last f 0 k, at) (and_comm (passes f 0 k) (f k))

-- one that fails
pub passes_past : (f : ℕ → Bool) (k m i : ℕ) → i < m → f (k + i) ≡ false → passes f k m ≡ false
unfolding passes
passes_past f k zero i l e = absurd (omega arith)
passes_past f k (suc m) zero l e = rw (let w : f k ≡ false = rw add-zero at e in w) refl
passes_past f k (suc m) (suc i) l e = rw (passes_past f (suc k) m i (omega arith) (let w : k + suc i ≡ suc k + i = omega arith in rw w at e)) (and-false (f k))

-- the first n entries of a list
passes_shift : (f : ℕ → Bool) (k m : ℕ) → passes f (suc k) m ≡ passes (λ i. f (suc i)) k m
unfolding passes
passes_shift f k zero = refl
passes_shift f k (suc m) = ap (λ (b : Bool). f (suc k) && b) (passes_shift f (suc k) m)

pub passes_all : {A : Type 0} (g : A → Bool) (d : A) (n : ℕ) (xs : List A) → n ≤ length xs → passes (λ k. g (get_or xs k d)) 0 n ≡ list_all g (take n xs)
unfolding passes
passes_all g d zero xs l = refl
passes_all g d (suc n) [] l = absurd (omega arith)
passes_all g d (suc n) (x ∷ xs) l = ap (λ (b : Bool). g x && b) (passes_shift (λ k. g (get_or (x ∷ xs) k d)) 0 n ∙ passes_all g d n xs (omega arith))
