-- A number in bytes is gathered from its high end: each byte joins below what is gathered so far, which 8 bytes cannot bring past 2^64.
use Rattle.std.proofs.Common.{◌≡◌, ℕ, zero, suc, ◌+◌, ◌-◌, ◌*◌, ◌^◌, ◌<◌, ◌≤◌, List, ◌∷◌, length, get_or, drop, refl, ap, ◌∙◌, pow-suc, arith, drop-cons, w64, Fits}
use native.Mathlib.Nat.{pow-le-pow_right, one-le-pow}
use lib.Seq.{drop-length}
use Rattle.machine.specs.Paper.{little}

module _ (bs : List ℕ) where
  pub gather_start : 0 ≡ little (drop (length bs) bs)
  unfolding little
  gather_start = rw (drop-length bs) refl

  pub gather_low : (k : ℕ) → 0 < 256 ^ k
  gather_low k = one-le-pow k 256 (omega arith)

  module _ (n x number : ℕ) (some : 0 < n) (inside : n ≤ length bs) (byte : x < 256) (low : number < 256 ^ (length bs - n)) where
    pub gather_on : x ≡ get_or bs (n - 1) 0 → number ≡ little (drop n bs) → x + 256 * number ≡ little (drop (n - 1) bs)
    unfolding little
    gather_on e q =
        let s : suc (n - 1) ≡ n = omega arith in
        let d : drop (n - 1) bs ≡ get_or bs (n - 1) 0 ∷ drop n bs = drop-cons bs (n - 1) 0 (omega arith) ∙ ap (λ (k : ℕ). get_or bs (n - 1) 0 ∷ drop k bs) s in
        rw (d, e, q) refl

    below : x + 256 * number < 256 ^ (length bs - (n - 1))
    below = let s : length bs - (n - 1) ≡ suc (length bs - n) = omega arith in rw (s, pow-suc 256 (length bs - n)) (omega arith)

    pub gather_below : x + 256 * number < 256 ^ (length bs - (n - 1))
    gather_below = below

    small : length bs ≤ 8 → x + 256 * number < 256 ^ 8
    small l = omega (arith, below, pow-le-pow_right {n = 256} (omega arith) {i = length bs - (n - 1)} {j = 8} (omega arith))

    pub gather_sum : length bs ≤ 8 → Fits w64 (x + 256 * number)
    gather_sum l = record { fits = small l }

  pub gather_product : (n number : ℕ) → 0 < n → n ≤ length bs → length bs ≤ 8 → number < 256 ^ (length bs - n) → Fits w64 (256 * number)
  gather_product n number a b l m = record { fits = omega (arith, small n 0 number a b (omega arith) m l) }

  pub gather_end : (n number : ℕ) → n ≤ 0 → number ≡ little (drop n bs) → number ≡ little bs
  gather_end zero number l e = e
  gather_end (suc n) number l e = absurd (omega arith)

pub ruleset gather_laws = (gather_start, gather_low, gather_on, gather_below, gather_sum, gather_product, gather_end)
