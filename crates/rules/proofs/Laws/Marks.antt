-- Marking: the first struck read is found from the front, where what is left from place k on decides; the sweep changes one list at a time.
use mathlib.Core.Path.{◌≡◌, refl, ap, sym, ◌∙◌}
use mathlib.Core.Bool.{Bool, true, false, cond}
use Rattle.std.specs.Prelude.{Option, None, Some}
use mathlib.Core.List.{List}
use Prim.Native.Nat.{ℕ, zero, suc, ◌+◌, ◌-◌, ◌≤◌, ◌<◌, min}
use native.Mathlib.Omega.{arith}
use native.Mathlib.Numerals.{add-one}
use lib.Dec.{eqb}
use lib.ListN.{get_or, set}
use lib.Seq.{get_or-set_other}
use borrow.Author.Tests.{eqb-true}
use Rattle.std.proofs.lemmas.Bool.Decides.{nat_tests}
use Rattle.theory.specs.Engine.{struck, earlier}
use Rattle.rules.specs.View.{mark_of, mark_byte, no_read, no_reads}
use Rattle.rules.specs.Marks.{shown_in, struck_by, first_from, strikes_at, mark_by, sweep}
use Rattle.rules.specs.declared.block.Read.{Read}
use Rattle.rules.specs.declared.block.Reads.{Reads}
use Rattle.rules.specs.declared.marks.Shows.{Shows}

pub struck_is : (r : Read) (old new : Shows) (t : ℕ) (o n : Option ℕ) (x : Bool) → o ≡ shown_in old r.cell.0 → n ≡ shown_in new r.cell.0
    → x ≡ struck o n t r.source.0 → x ≡ struck_by old new t r
unfolding struck_by
struck_is r old new t o n x eo en e = rw (← eo, ← en) e

-- 255 stands for no mark and is past every read, so the lesser number is the earlier mark
earlier_min : (k m : ℕ) → k < 8 → min k m ≡ mark_byte (earlier (Some k) (mark_of m))
unfolding mark_byte mark_of
earlier_min k m l = grind (arith, nat_tests)

-- ---- the first struck read
module _ (f : ℕ → Bool) (n k : ℕ) (R : Option ℕ) where
  less : k < n → suc (n - suc k) ≡ n - k
  less l = omega arith

  first_here : k < n → f k ≡ true → first_from f k (n - k) ≡ R → Some k ≡ R
  unfolding first_from
  first_here l e q = one (n - suc k) ∙ ap (first_from f k) (less l) ∙ q
    where
      one : (m : ℕ) → Some k ≡ first_from f k (suc m)
      one m = rw e refl

  first_on : k < n → f k ≡ false → first_from f k (n - k) ≡ R → first_from f (k + 1) (n - (k + 1)) ≡ R
  unfolding first_from
  first_on l e q = rw (add-one k) (one (n - suc k) ∙ ap (first_from f k) (less l) ∙ q)
    where
      one : (m : ℕ) → first_from f (suc k) m ≡ first_from f k (suc m)
      one m = rw e refl

  first_end : n ≤ k → first_from f k (n - k) ≡ R → None ≡ R
  unfolding first_from
  first_end l q = empty (n - k) (omega arith) ∙ q
    where
      empty : (m : ℕ) → m ≤ 0 → None ≡ first_from f k m
      empty zero w = refl
      empty (suc m) w = absurd (omega arith)

module _ (old new : Shows) (t : ℕ) (rs : Reads) (k : ℕ) where
  abbrev f : ℕ → Bool
  f = strikes_at old new t rs

  abbrev first : Option ℕ
  first = first_from f 0 rs.size

  module _ (l : k < rs.size) (inv : first_from (strikes_at old new t rs) k (rs.size - k) ≡ first_from (strikes_at old new t rs) 0 rs.size) (b : Bool) (eb : b ≡ struck_by old new t (get_or rs.reads k no_read)) where
    pub mark_here : (m : ℕ) → rs.size ≤ 8 → b ≡ true → m ≡ min k rs.mark → m ≡ mark_by old new t rs
    unfolding mark_by
    mark_here m few e q = q ∙ earlier_min k rs.mark (omega arith) ∙ ap (λ (o : Option ℕ). mark_byte (earlier o (mark_of rs.mark))) (first_here f rs.size k first l (sym eb ∙ e) inv)

    pub mark_on : b ≡ false → first_from (strikes_at old new t rs) (k + 1) (rs.size - (k + 1)) ≡ first_from (strikes_at old new t rs) 0 rs.size
    mark_on e = first_on f rs.size k first l (sym eb ∙ e) inv

  pub mark_end : rs.size ≤ k → first_from (strikes_at old new t rs) k (rs.size - k) ≡ first_from (strikes_at old new t rs) 0 rs.size → rs.mark ≡ mark_by old new t rs
  unfolding mark_by mark_byte mark_of
  mark_end l inv = rw (← first_end f rs.size k first l inv) (go (eqb rs.mark 255) refl)
    where
      go : (x : Bool) → eqb rs.mark 255 ≡ x → rs.mark ≡ mark_byte (cond x None (Some rs.mark))
      go true e = eqb-true _ _ e
      go false e = refl

pub ruleset mark_laws = (mark_here, mark_on, mark_end)

-- ---- the sweep
module _ (f : Reads → Reads) (n k : ℕ) (R : List Reads) where
  pub sweep_on : (rs : List Reads) (r : Reads) → k < n → r ≡ f (get_or rs k no_reads) → sweep f k (n - k) rs ≡ R → sweep f (k + 1) (n - (k + 1)) (set rs k r) ≡ R
  unfolding sweep
  sweep_on rs r l e q = rw (add-one k, e) (one (n - suc k) ∙ ap (λ (m : ℕ). sweep f k m rs) (let w : suc (n - suc k) ≡ n - k = omega arith in w) ∙ q)
    where
      one : (m : ℕ) → sweep f (suc k) m (set rs k (f (get_or rs k no_reads))) ≡ sweep f k (suc m) rs
      one m = refl

  pub sweep_end : (rs : List Reads) → n ≤ k → sweep f k (n - k) rs ≡ R → rs ≡ R
  unfolding sweep
  sweep_end rs l q = empty (n - k) (omega arith) ∙ q
    where
      empty : (m : ℕ) → m ≤ 0 → rs ≡ sweep f k m rs
      empty zero w = refl
      empty (suc m) w = absurd (omega arith)

-- what the sweep has not reached is as it was
pub record Ahead (rs₀ rs : List Reads) (k : ℕ) : Type 0 where
  pub same : (i : ℕ) → k ≤ i → get_or rs i no_reads ≡ get_or rs₀ i no_reads

pub ahead_on : (rs₀ rs : List Reads) (k : ℕ) (r : Reads) → Ahead rs₀ rs k → Ahead rs₀ (set rs k r) (k + 1)
ahead_on rs₀ rs k r a = record { same = λ i l. get_or-set_other rs k i r no_reads (λ q. omega arith) ∙ a.same i (omega arith) }
