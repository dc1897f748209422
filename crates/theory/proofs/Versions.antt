-- What a job's versions show, and what the version search finds. A version is the number of a journal entry, so it keeps its value while that entry stays;
-- and a search goes down from its start and stops at the first version, so a change of one job's version is seen only by a search that ends at or below it.
use Rattle.std.proofs.Math.Path.{◌≡◌, refl}
use Rattle.std.proofs.Common.{sym, ap, ◌∙◌, inl, inr, eqb-true, ltb-true, get_or-take}
use Rattle.std.specs.Prelude.{◌≢◌, ◌⊎◌, Bool, true, false, cond, ◌||◌, List, [], ◌∷◌, ◌++◌, eqb, ltb, length, take, get_or, Option, None, Some}
use Prim.Native.Nat.{ℕ, zero, suc, ◌+◌, ◌≤◌, ◌<◌}
use native.Mathlib.Omega.{arith}
use Rattle.std.proofs.Math.Decide.{ℕ_discrete}
use Rattle.std.proofs.Math.ListN.{get_or-append}
use Rattle.theory.specs.Every.{Every, every_imp}
use Rattle.theory.specs.Engine.{Entry, no_entry, or_else, next, last_at, value_at, writes?, lasts_from, shown_at, published, withdrawn, found, search}

-- ---- the search, of one cell
module _ (start : ℕ) where
  -- it ends at or below its start
  search_le : (w : ℕ → Option ℕ) (k : ℕ) → (search start w k).0 ≤ k
  unfolding search
  search_le w zero = omega arith
  search_le w (suc j) = go (w j) (search_le w j)
    where
      go : (o : Option ℕ) → (search start w j).0 ≤ j → (found o j (search start w j)).0 ≤ suc j
      go (Some v) h = omega arith
      go None h = omega arith

  -- it passes over no version
  pub search_has : (w : ℕ → Option ℕ) (i v : ℕ) → w i ≡ Some v → (k : ℕ) → i < k → suc i ≤ (search start w k).0
  unfolding search
  search_has w i v e zero h = omega arith
  search_has w i v e (suc j) h = go (w j) refl (ℕ_discrete i j) (search_has w i v e j)
    where
      go : (o : Option ℕ) → w j ≡ o → Dec (i ≡ j) → (i < j → suc i ≤ (search start w j).0) → suc i ≤ (found o j (search start w j)).0
      go (Some x) q d ih = omega arith
      go None q (yes p) ih = let z : ◌≡◌ {A = ℕ} 0 1 = cc in omega arith
      go None q (no n) ih = ih (omega arith)

  -- it sees only what is below its start
  pub search_same : (w w' : ℕ → Option ℕ) (k : ℕ) → ((j : ℕ) → j < k → w' j ≡ w j) → search start w' k ≡ search start w k
  unfolding search
  search_same w w' zero h = refl
  search_same w w' (suc j) h = rw (h j (omega arith), search_same w w' j (λ i l. h i (omega arith))) refl

  -- where it ends above i it does not see a change at i
  search_above : (w w' : ℕ → Option ℕ) (i : ℕ) → ((j : ℕ) → j ≢ i → w' j ≡ w j) → (k : ℕ) → suc i < (search start w k).0 → search start w' k ≡ search start w k
  unfolding search
  search_above w w' i same zero h = refl
  search_above w w' i same (suc j) h = go (w j) refl (ℕ_discrete j i) (search_above w w' i same j) h
    where
      go : (o : Option ℕ) → w j ≡ o → Dec (j ≡ i) → (suc i < (search start w j).0 → search start w' j ≡ search start w j) →
          suc i < (found o j (search start w j)).0 → found (w' j) j (search start w' j) ≡ found o j (search start w j)
      go (Some x) q (yes p) ih l = absurd (omega arith)
      go (Some x) q (no n) ih l = rw (same j n, q) refl
      go None q (yes p) ih l = absurd (omega (arith, search_le w j))
      go None q (no n) ih l = rw (same j n, q) (ih l)

  -- so a change at i leaves it alone where the version at i is the same, or the search ends above i
  pub search_change : (w w' : ℕ → Option ℕ) (i k : ℕ) → ((j : ℕ) → j ≢ i → w' j ≡ w j) → (w' i ≡ w i) ⊎ (suc i < (search start w k).0) → search start w' k ≡ search start w k
  search_change w w' i k same (inl e) = search_same w w' k (λ j l. go j (ℕ_discrete j i))
    where
      go : (j : ℕ) → Dec (j ≡ i) → w' j ≡ w j
      go j (yes p) = rw p e
      go j (no n) = same j n
  search_change w w' i k same (inr h) = search_above w w' i same k h

-- ---- the versions that name an entry below n
abbrev pub Below : ℕ → List ℕ → Type 0
Below n vs = Every (λ v. v < n) vs

pub below_le : (m n : ℕ) (vs : List ℕ) → m ≤ n → Below m vs → Below n vs
below_le m n vs h p = every_imp (λ v. v < m) (λ v. v < n) (λ v l. omega arith) vs p

pub withdrawn_below : (n : ℕ) (vs : List ℕ) → Below n (withdrawn n vs)
withdrawn_below n [] = tt
withdrawn_below n (v ∷ vs) = go (ltb v n) refl (withdrawn_below n vs)
  where
    go : (t : Bool) → ltb v n ≡ t → Below n (withdrawn n vs) → Below n (cond t (v ∷ withdrawn n vs) (withdrawn n vs))
    go true e p = (ltb-true v n e, p)
    go false e p = p

lasts_below : (k : ℕ) (j : List Entry) → Below (k + length j) (lasts_from k j)
lasts_below k [] = tt
lasts_below k (e ∷ es) = go (writes? es e.cell) (below_le (suc k + length es) (k + suc (length es)) (lasts_from (suc k) es) (omega arith) (lasts_below (suc k) es))
  where
    go : (t : Bool) → Below (k + suc (length es)) (lasts_from (suc k) es) → Below (k + suc (length es)) (cond t (lasts_from (suc k) es) (k ∷ lasts_from (suc k) es))
    go true p = p
    go false p = (omega arith, p)

pub published_below : (j : List Entry) → Below (length j) (published j)
published_below j = below_le (0 + length j) (length j) (published j) (omega arith) (lasts_below 0 j)

pub shown_below : (j : List Entry) (n : ℕ) (vs : List ℕ) (c p : ℕ) → Below n vs → shown_at j vs c ≡ Some p → p < n
shown_below j n [] c p h e = absurd (let z : ◌≡◌ {A = ℕ} 0 1 = cc in omega arith)
shown_below j n (v ∷ vs) c p h e = go (eqb (get_or j v no_entry).cell c) e (shown_below j n vs c p h.1)
  where
    go : (t : Bool) → cond t (Some v) (shown_at j vs c) ≡ Some p → (shown_at j vs c ≡ Some p → p < n) → p < n
    go true e ih = let q : v ≡ p = cc in omega (arith, h.0)
    go false e ih = ih e

-- ---- what is shown
-- a new entry is not shown
pub shown_append : (j k : List Entry) (vs : List ℕ) (c : ℕ) → Below (length j) vs → shown_at (j ++ k) vs c ≡ shown_at j vs c
shown_append j k [] c h = refl
shown_append j k (v ∷ vs) c h = rw (get_or-append j k no_entry v h.0, shown_append j k vs c h.1) refl

-- an entry that the journal holds keeps its value as the journal grows or is cut behind it
pub value_append : (j k : List Entry) (o : Option ℕ) → ((p : ℕ) → o ≡ Some p → p < length j) → value_at (j ++ k) o ≡ value_at j o
value_append j k None h = refl
value_append j k (Some p) h = rw (get_or-append j k no_entry p (h p refl)) refl

pub value_take : (n : ℕ) (j : List Entry) (o : Option ℕ) → ((p : ℕ) → o ≡ Some p → p < n) → value_at (take n j) o ≡ value_at j o
value_take n j None h = refl
value_take n j (Some p) h = rw (get_or-take n j p no_entry (h p refl)) refl

-- a journal has a last entry for the cells that it writes, and for no other
last_none : (j : List Entry) (c : ℕ) → last_at j c ≡ None → writes? j c ≡ false
last_none [] c e = refl
last_none (x ∷ j) c e = go (last_at j c) refl (eqb x.cell c) refl e (last_none j c)
  where
    go : (o : Option ℕ) → last_at j c ≡ o → (t : Bool) → eqb x.cell c ≡ t → or_else (next o) (cond t (Some zero) None) ≡ None → (last_at j c ≡ None → writes? j c ≡ false) →
        eqb x.cell c || writes? j c ≡ false
    go (Some a) q t w e ih = cc
    go None q true w e ih = cc
    go None q false w e ih = rw (w, ih q) refl

no_last : (j : List Entry) (c : ℕ) → writes? j c ≡ false → last_at j c ≡ None
no_last [] c e = refl
no_last (x ∷ j) c e = go (eqb x.cell c) refl (no_last j c) e
  where
    go : (t : Bool) → eqb x.cell c ≡ t → (writes? j c ≡ false → last_at j c ≡ None) → t || writes? j c ≡ false → or_else (next (last_at j c)) (cond (eqb x.cell c) (Some zero) None) ≡ None
    go true w ih e = cc
    go false w ih e = rw (w, ih e) refl

-- a place counted from k on
abbrev from : ℕ → Option ℕ → Option ℕ
from k None = None
from k (Some n) = Some (k + n)

from_next : (k : ℕ) (o : Option ℕ) → from (suc k) o ≡ from k (next o)
from_next k None = refl
from_next k (Some n) = ap Some (omega arith)

-- J is a journal, and j what it has from place k on
shown_lasts : (J : List Entry) (k : ℕ) (j : List Entry) (c : ℕ) → ((n : ℕ) → get_or J (k + n) no_entry ≡ get_or j n no_entry) → shown_at J (lasts_from k j) c ≡ from k (last_at j c)
shown_lasts J k [] c h = refl
shown_lasts J k (e ∷ es) c h =
    go (writes? es e.cell) refl (eqb e.cell c) refl (shown_lasts J (suc k) es c (λ n. ap (λ m. get_or J m no_entry) (omega arith) ∙ h (suc n)) ∙ from_next k (last_at es c))
  where
    here : get_or J k no_entry ≡ e
    here = ap (λ m. get_or J m no_entry) (omega arith) ∙ h 0

    last : (o : Option ℕ) → from k (next o) ≡ from k (or_else (next o) None)
    last None = refl
    last (Some n) = refl

    again : (o : Option ℕ) → last_at es c ≡ o → writes? es c ≡ true → from k (next o) ≡ from k (or_else (next o) (Some zero))
    again None q w = let z : ◌≡◌ {A = Bool} true false = sym w ∙ last_none es c q in cc
    again (Some n) q w = refl

    go : (t : Bool) → writes? es e.cell ≡ t → (u : Bool) → eqb e.cell c ≡ u → shown_at J (lasts_from (suc k) es) c ≡ from k (next (last_at es c)) →
        shown_at J (cond t (lasts_from (suc k) es) (k ∷ lasts_from (suc k) es)) c ≡ from k (or_else (next (last_at es c)) (cond u (Some zero) None))
    go true w true u ih = ih ∙ again (last_at es c) refl (rw (eqb-true e.cell c u) at w)
    go true w false u ih = ih ∙ last (last_at es c)
    go false w true u ih = rw (here, u, no_last es c (rw (eqb-true e.cell c u) at w)) (ap Some (omega arith))
    go false w false u ih = rw (here, u) (ih ∙ last (last_at es c))

-- STOP shows the last entry of each cell
pub shown_published : (j : List Entry) (c : ℕ) → shown_at j (published j) c ≡ last_at j c
shown_published j c = shown_lasts j 0 j c (λ n. ap (λ m. get_or j m no_entry) (omega arith)) ∙ from_zero (last_at j c)
  where
    from_zero : (o : Option ℕ) → from 0 o ≡ o
    from_zero None = refl
    from_zero (Some n) = ap Some (omega arith)
