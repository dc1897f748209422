-- What a job holds itself, its last entry for a cell and its listed read of it, and whether the lower jobs are final:
-- the code asks the list of an array's first, and the definitions its places one by one.
use mathlib.Core.Path.{◌≡◌, refl, sym, ◌∙◌}
use mathlib.Core.Bool.{Bool, true, false, cond, ◌&&◌}
use Rattle.std.specs.Prelude.{Option, None, Some}
use mathlib.Core.List.{List, [], ◌∷◌}
use Prim.Native.Nat.{ℕ, zero, suc, ◌+◌, ◌≤◌, ◌<◌}
use native.Mathlib.Omega.{arith}
use lib.Dec.{eqb, leb}
use lib.ListN.{length, get_or, take, drop}
use lib.Seq.{take-suc, drop-cons}
use Rattle.std.specs.List.{list_all, find}
use Rattle.std.specs.Option.{option_map}
use Rattle.std.proofs.lemmas.List.Folds.{list_all-append}
use Rattle.theory.specs.Engine as E
use Rattle.theory.specs.Engine.{last_at, last_value, or_else, next}
use Rattle.rules.specs.View.{journal_of, length_journal, no_read}
use Rattle.rules.specs.Turn.{listed_from, listed_in, final_below}
use Rattle.rules.specs.declared.block.Journal.{Journal}
use Rattle.rules.specs.declared.block.Read.{Read}
use Rattle.rules.specs.declared.block.Reads.{Reads}

-- ---- the listed read of a cell
-- the value of the first of these reads that is of the cell
abbrev pub value_in : List Read → ℕ → Option ℕ
value_in rs c = option_map (λ (x : Read). x.value) (find (λ (x : Read). eqb x.cell.0 c) rs)

listed_rest : (r : Reads) (c k m : ℕ) → k + m ≤ length r.reads → value_in (take m (drop k r.reads)) c ≡ listed_from r c k m
unfolding listed_from
listed_rest r c k zero l = refl
listed_rest r c k (suc m) l = rw (drop-cons r.reads k no_read (omega arith)) (go (eqb (get_or r.reads k no_read).cell.0 c) (listed_rest r c (suc k) m (omega arith)))
  where
    go : (t : Bool) → value_in (take m (drop (suc k) r.reads)) c ≡ listed_from r c (suc k) m
        → option_map (λ (x : Read). x.value) (cond t (Some (get_or r.reads k no_read)) (find (λ (x : Read). eqb x.cell.0 c) (take m (drop (suc k) r.reads))))
        ≡ cond t (Some (get_or r.reads k no_read).value) (listed_from r c (suc k) m)
    go true ih = refl
    go false ih = ih

pub listed_is : (r : Reads) (c : ℕ) → length r.reads ≡ 8 → r.size ≤ 8 → value_in (take r.size r.reads) c ≡ listed_in r c
listed_is r c w l = listed_rest r c 0 r.size (omega arith)

-- ---- the own value of a cell
last_low : (es : List E.Entry) (c p : ℕ) → last_at es c ≡ Some p → p < length es
last_low [] c p e = absurd (let z : ◌≡◌ {A = ℕ} 0 1 = cc in omega arith)
last_low (x ∷ es) c p e = go (last_at es c) refl (eqb x.cell c) e (last_low es c)
  where
    go : (o : Option ℕ) → last_at es c ≡ o → (t : Bool) → or_else (next o) (cond t (Some 0) None) ≡ Some p → ((p : ℕ) → last_at es c ≡ Some p → p < length es) → p < suc (length es)
    go (Some a) q t e ih = let w : suc a ≡ p = cc in omega (arith, ih a q)
    go None q true e ih = let w : 0 ≡ p = cc in omega arith
    go None q false e ih = let z : ◌≡◌ {A = ℕ} 0 1 = cc in absurd (omega arith)

pub own_low : (j : Journal) (c : ℕ) (f : Option ℕ) → f ≡ last_at (journal_of j) c → (p : ℕ) → f ≡ Some p → p < j.size
own_low j c f ef p q = omega (arith, last_low (journal_of j) c p (sym ef ∙ q), length_journal j)

-- ---- the lower jobs
pub final_is : (ss : List ℕ) (k : ℕ) → k ≤ length ss → list_all (λ (s : ℕ). leb 2 s) (take k ss) ≡ final_below ss k
unfolding final_below
final_is ss zero l = refl
final_is ss (suc k) l =
    rw (take-suc ss k 0 l, list_all-append (λ (s : ℕ). leb 2 s) (take k ss) (get_or ss k 0 ∷ []), final_is ss k (omega arith))
    (go (leb 2 (get_or ss k 0)) (final_below ss k))
  where
    go : (a b : Bool) → (b && (a && true)) ≡ (a && b)
    go true true = refl
    go true false = refl
    go false true = refl
    go false false = refl
