-- The mark of a job: the earliest of its marked reads. The reads before the earlier of two marks are before both, so what is known of the reads before each
-- is known before their mark; and a read before the first that is struck is not struck.
use Rattle.std.specs.Prelude.{◌≡◌, refl, Bool, true, false, cond, List, [], ◌∷◌, ℕ, zero, suc, ltb, length, take, Option, None, Some}
use Rattle.std.proofs.Common.{arith, eq-eqb, lt-ltb, ltb-true, ltb-false}
use Rattle.theory.specs.Engine.{Read, Job, next, struck, earlier, is_struck, first_struck, mark_job, mark_fits}
use Rattle.theory.specs.Every.{Every, every_take, every_take_le}

struck_same : (o : Option ℕ) (t source : ℕ) → struck o o t source ≡ false
struck_same None t source = refl
struck_same (Some a) t source = rw (eq-eqb a a refl) refl

earlier_fits : (x y : Option ℕ) (n : ℕ) → mark_fits x n ≡ true → mark_fits y n ≡ true → mark_fits (earlier x y) n ≡ true
earlier_fits None y n p q = q
earlier_fits (Some k) None n p q = p
earlier_fits (Some k) (Some m) n p q = go (ltb k m)
  where
    go : (t : Bool) → mark_fits (cond t (Some k) (Some m)) n ≡ true
    go true = p
    go false = q

module _ {S : Type 0} where
  -- the reads before the mark
  abbrev pub before_mark : Option ℕ → List (Read S) → List (Read S)
  before_mark None rs = rs
  before_mark (Some m) rs = take m rs

  -- none of the reads before the first that is struck is struck
  pub unstruck : (f : Read S → Bool) (rs : List (Read S)) → Every (λ r. f r ≡ false) (before_mark (first_struck f rs) rs)
  unstruck f [] = tt
  unstruck f (r ∷ rs) = go (f r) refl (first_struck f rs) (unstruck f rs)
    where
      go : (t : Bool) → f r ≡ t → (o : Option ℕ) → Every (λ r. f r ≡ false) (before_mark o rs) → Every (λ r. f r ≡ false) (before_mark (cond t (Some zero) (next o)) (r ∷ rs))
      go true e o p = tt
      go false e None p = (e, p)
      go false e (Some m) p = (e, p)

  -- what stands before the earlier of two marks stands before each
  pub before_first : (P : Read S → Type 0) (x y : Option ℕ) (rs : List (Read S)) → Every P (before_mark x rs) → Every P (before_mark (earlier x y) rs)
  before_first P None None rs p = p
  before_first P None (Some m) rs p = every_take P m rs p
  before_first P (Some k) None rs p = p
  before_first P (Some k) (Some m) rs p = go (ltb k m) refl
    where
      go : (t : Bool) → ltb k m ≡ t → Every P (before_mark (cond t (Some k) (Some m)) rs)
      go true e = p
      go false e = every_take_le P m k rs (ltb-false k m e) p

  pub before_second : (P : Read S → Type 0) (x y : Option ℕ) (rs : List (Read S)) → Every P (before_mark y rs) → Every P (before_mark (earlier x y) rs)
  before_second P None y rs p = p
  before_second P (Some k) None rs p = every_take P k rs p
  before_second P (Some k) (Some m) rs p = go (ltb k m) refl
    where
      go : (t : Bool) → ltb k m ≡ t → Every P (before_mark (cond t (Some k) (Some m)) rs)
      go true e = let l = ltb-true k m e in every_take_le P k m rs (omega arith) p
      go false e = p

  -- a new mark names a read of the list
  first_struck_fits : (f : Read S → Bool) (rs : List (Read S)) → mark_fits (first_struck f rs) (length rs) ≡ true
  first_struck_fits f [] = refl
  first_struck_fits f (r ∷ rs) = go (f r) (first_struck f rs) (first_struck_fits f rs)
    where
      go : (t : Bool) (o : Option ℕ) → mark_fits o (length rs) ≡ true → mark_fits (cond t (Some zero) (next o)) (suc (length rs)) ≡ true
      go true o e = lt-ltb zero (suc (length rs)) (omega arith)
      go false None e = refl
      go false (Some m) e = lt-ltb (suc m) (suc (length rs)) (omega (arith, ltb-true m (length rs) e))

  pub mark_fits_lem : (before after : ℕ → Option ℕ) (t : ℕ) (b : Job S) → mark_fits b.mark (length b.reads) ≡ true → mark_fits (mark_job before after t b).mark (length b.reads) ≡ true
  mark_fits_lem before after t b e = earlier_fits (first_struck (is_struck before after t) b.reads) b.mark (length b.reads) (first_struck_fits (is_struck before after t) b.reads) e

  -- what is shown from the same entries marks nobody
  pub same_marks_none : (w : ℕ → Option ℕ) (t : ℕ) (rs : List (Read S)) → first_struck (is_struck w w t) rs ≡ None
  same_marks_none w t [] = refl
  same_marks_none w t (r ∷ rs) = rw (struck_same (w r.cell) t r.source, same_marks_none w t rs) refl
