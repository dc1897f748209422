-- The stack's operations on its array are those on the list of its entries: the k-th from the top stands at height - 1 - k,
-- and a store at or above the height is not seen.
use Rattle.std.proofs.Common.{◌≡◌, ℕ, zero, suc, ◌+◌, ◌-◌, ◌<◌, ◌≤◌, List, [], ◌∷◌, length, get_or, drop, set, sym, refl, ap, ◌∙◌, add-one, arith, length-set, get_or-set_other, get_or-set_same}
use Rattle.machine.specs.View.{tops, stack_of, length_tops}
use Rattle.machine.specs.declared.job.Stack.{Stack}

tops_above : (h k v : ℕ) (es : List ℕ) → h ≤ k → tops h (set es k v) ≡ tops h es
tops_above zero k v es l = refl
tops_above (suc h) k v es l = rw (get_or-set_other es k h v 0 (λ q. omega arith), tops_above h k v es (omega arith)) refl

tops_get : (h k : ℕ) (es : List ℕ) → k < h → get_or es (h - 1 - k) 0 ≡ get_or (tops h es) k 0
tops_get zero k es l = absurd (omega arith)
tops_get (suc h) zero es l = ap (λ (n : ℕ). get_or es n 0) (let e : suc h - 1 - 0 ≡ h = omega arith in e)
tops_get (suc h) (suc k) es l = ap (λ (n : ℕ). get_or es n 0) (let e : suc h - 1 - suc k ≡ h - 1 - k = omega arith in e) ∙ tops_get h k es (omega arith)

pub tops_drop : (h n : ℕ) (es : List ℕ) → n ≤ h → tops (h - n) es ≡ drop n (tops h es)
tops_drop h zero es l = ap (λ (m : ℕ). tops m es) (let e : h - 0 ≡ h = omega arith in e)
tops_drop zero (suc n) es l = absurd (omega arith)
tops_drop (suc h) (suc n) es l = ap (λ (m : ℕ). tops m es) (let e : suc h - suc n ≡ h - n = omega arith in e) ∙ tops_drop h n es (omega arith)

tops_set : (h k v : ℕ) (es : List ℕ) → k < h → h ≤ length es → tops h (set es (h - 1 - k) v) ≡ set (tops h es) k v
tops_set zero k v es l m = absurd (omega arith)
tops_set (suc h) zero v es l m =
    let e : suc h - 1 - 0 ≡ h = omega arith in
    rw (e, get_or-set_same es h v 0 (omega arith), tops_above h h v es (omega arith)) refl
tops_set (suc h) (suc k) v es l m =
    let e : suc h - 1 - suc k ≡ h - 1 - k = omega arith in
    rw (e, get_or-set_other es (h - 1 - k) h v 0 (λ q. omega arith), tops_set h k v es (omega arith) (omega arith)) refl

module _ (s : Stack) where
  pub entry_at : (k : ℕ) → k < s.height → get_or s.entries (s.height - 1 - k) 0 ≡ get_or (stack_of s) k 0
  entry_at k l = tops_get s.height k s.entries l

  pub put_at : (k v : ℕ) → k < s.height → s.height ≤ 16 → length s.entries ≡ 16 → stack_of (record { entries = set s.entries (s.height - 1 - k) v; height = s.height }) ≡ set (stack_of s) k v
  put_at k v l h w = tops_set s.height k v s.entries l (omega arith)

  pub drop_off : (n : ℕ) → n ≤ s.height → stack_of (record { entries = s.entries; height = s.height - n }) ≡ drop n (stack_of s)
  drop_off n l = tops_drop s.height n s.entries l

  pub replace_with : (n v : ℕ) → n ≤ s.height → s.height - n < 16 → length s.entries ≡ 16
      → stack_of (record { entries = set s.entries (s.height - n) v; height = s.height - n + 1 }) ≡ v ∷ drop n (stack_of s)
  replace_with n v l m w =
      rw (add-one, get_or-set_same s.entries (s.height - n) v 0 (omega arith), tops_above (s.height - n) (s.height - n) v s.entries (omega arith), tops_drop s.height n s.entries l) refl

pub ruleset stack_laws = (entry_at, put_at, drop_off, replace_with)

-- two stores exchange the top with the k-th below it
exchange : (st : List ℕ) (k a b : ℕ) → 1 ≤ k → 1 ≤ length st → set (set st k a) 0 b ≡ b ∷ set (drop 1 st) (k - 1) a
exchange [] k a b l m = absurd (omega arith)
exchange (x ∷ st) zero a b l m = absurd (omega arith)
exchange (x ∷ st) (suc k) a b l m = ap (λ (n : ℕ). b ∷ set st n a) (let e : k ≡ suc k - 1 = omega arith in e)

module _ (s t : Stack) (k a : ℕ) (e : stack_of t ≡ set (stack_of s) k a) where
  same_height : t.height ≡ s.height
  same_height = sym (length_tops t.height t.entries) ∙ ap length e ∙ length-set (stack_of s) k a ∙ length_tops s.height s.entries

  pub swap_low : k < s.height → 0 < t.height
  swap_low l = omega (arith, same_height)

  pub swap_high : s.height ≤ 16 → t.height ≤ 16
  swap_high l = omega (arith, same_height)

  pub swap_is : (r : Stack) (b : ℕ) → 1 ≤ k → k < s.height → a ≡ get_or (stack_of s) 0 0 → b ≡ get_or (stack_of s) k 0 → stack_of r ≡ set (stack_of t) 0 b
      → stack_of r ≡ get_or (stack_of s) k 0 ∷ set (drop 1 (stack_of s)) (k - 1) (get_or (stack_of s) 0 0)
  swap_is r b l m ea eb er = er ∙ rw (e, ← ea, ← eb) (exchange (stack_of s) k a b l (omega (arith, length_tops s.height s.entries)))

pub ruleset swap_laws = (swap_low, swap_high, swap_is)
