-- The invariant, and that a change of one job keeps it for the whole block if it is right for that job itself. A read before its job's mark is what the search
-- finds now: where a change could alter what a search finds, the read has a source that the change strikes, and so the job is marked there or earlier.
use Rattle.std.specs.Prelude.{◌≡◌, ◌≢◌, ◌⊎◌, Bool, true, false, cond, eqb, leb, ltb, length, Option, None, Some}
use Rattle.std.proofs.Math.Path.{refl}
use Rattle.std.proofs.Common.{ap, ◌∙◌, inl, inr, arith}
use Rattle.std.proofs.Math.Bool.{and-eq-true_iff}
use Prim.Native.Nat.{ℕ, zero, suc, ◌≤◌, ◌<◌}
use Rattle.std.proofs.Math.Decide.{ℕ_discrete, dec_lt}
use borrow.Author.Tests.{eqb-true, eqb-false, eq-eqb, ne_eqb, lt-ltb, le-ltb, leb-false}
use Rattle.theory.specs.Promise.{stop, abandon, Machine}
use Rattle.theory.specs.Engine.{Read, Job, Status, running, ended, final, last_at, value_at, struck, earlier, is_final, shown, version, find, is_struck, first_struck, mark_job, all_final, mark_fits}
use Rattle.theory.specs.Every.{Every, every_imp, every_both}
use Rattle.theory.proofs.Versions.{Below, search_has, search_same, search_change}
use Rattle.theory.proofs.Runs.{Ran}
use Rattle.theory.proofs.Marks.{before_mark, unstruck, before_first, before_second, mark_fits_lem, same_marks_none}

-- ---- the first jobs final
pub is_final_true : (s : Status) → is_final s ≡ true → s ≡ final
is_final_true running e = cc
is_final_true ended e = cc
is_final_true final e = refl

module _ {S : Type 0} where
  pub all_final_at : (st : ℕ → Job S) (k : ℕ) → all_final st k ≡ true → (i : ℕ) → i < k → (st i).status ≡ final
  all_final_at st zero e i h = absurd (omega arith)
  all_final_at st (suc k) e i h =
      let p = (and-eq-true_iff (is_final (st k).status) (all_final st k)).0 e in
      go (ℕ_discrete i k) (is_final_true (st k).status p.0) (λ l. all_final_at st k p.1 i l)
    where
      go : Dec (i ≡ k) → (st k).status ≡ final → (i < k → (st i).status ≡ final) → (st i).status ≡ final
      go (yes q) f ih = rw q f
      go (no n) f ih = ih (omega arith)

  pub all_final_of : (st : ℕ → Job S) (k : ℕ) → ((i : ℕ) → i < k → (st i).status ≡ final) → all_final st k ≡ true
  all_final_of st zero h = refl
  all_final_of st (suc k) h = rw (h k (omega arith)) (all_final_of st k (λ i l. h i (omega arith)))

-- ---- the job at index i becomes b, in a block as a function of the index
module _ {S : Type 0} where
  unfoldable pub change : (ℕ → Job S) → ℕ → Job S → ℕ → Job S
  change st i b k = cond (eqb k i) b (cond (ltb k i) (st k) (mark_job (shown (st i)) (shown b) (suc i) (st k)))

module _ {S : Type 0} (st : ℕ → Job S) (i : ℕ) (b : Job S) where
  pub change_at : change st i b i ≡ b
  unfolding change
  change_at = rw (eq-eqb i i refl) refl

  pub change_low : (k : ℕ) → k < i → change st i b k ≡ st k
  unfolding change
  change_low k h = rw (ne_eqb k i (omega arith), lt-ltb k i h) refl

  pub change_high : (k : ℕ) → i < k → change st i b k ≡ mark_job (shown (st i)) (shown b) (suc i) (st k)
  unfolding change
  change_high k h = rw (ne_eqb k i (omega arith), le-ltb k i (omega arith)) refl

  change_version : (c k : ℕ) → k ≢ i → version (change st i b k) c ≡ version (st k) c
  unfolding shown
  change_version c k n = go (dec_lt k i)
    where
      go : Dec (k < i) → version (change st i b k) c ≡ version (st k) c
      go (yes h) = rw (change_low k h) refl
      go (no h) = rw (change_high k (omega arith)) refl

  change_status : (k : ℕ) → k ≢ i → (change st i b k).status ≡ (st k).status
  change_status k n = go (dec_lt k i)
    where
      go : Dec (k < i) → (change st i b k).status ≡ (st k).status
      go (yes h) = rw (change_low k h) refl
      go (no h) = rw (change_high k (omega arith)) refl

-- ---- the invariant
module _ (M : Machine) (table : ℕ → ℕ) (start : ℕ → M.S) where
  open M use {S, act}

  -- a listed read is what the search finds now
  abbrev pub Fresh : (ℕ → Job S) → ℕ → Read S → Type 0
  Fresh st k r = find table st r.cell k ≡ (r.source, r.value)

  -- an ended job stands at STOP and shows the last entry of each cell, or at ABANDON and shows none
  abbrev pub Stands : Job S → Type 0
  Stands b = ((act b.state ≡ stop) × ((c : ℕ) → shown b c ≡ last_at b.journal c)) ⊎ ((act b.state ≡ abandon) × ((c : ℕ) → shown b c ≡ None))

  -- the job b at index k is right in the block st
  pub record Good (st : ℕ → Job S) (k : ℕ) (b : Job S) : Type 0 where
    pub ran : Ran M (start k) b.reads b.journal b.state
    pub fresh : Every (Fresh st k) (before_mark b.mark b.reads)
    pub marked : mark_fits b.mark (length b.reads) ≡ true
    pub held : Below (length b.journal) b.versions
    pub stands : b.status ≢ running → Stands b
    pub settled : b.status ≡ final → (b.mark ≡ None) × (all_final st k ≡ true)

  abbrev pub Invariant : (ℕ → Job S) → Type 0
  Invariant st = (k : ℕ) → Good st k (st k)

  -- a move of the job at index i from o to b is right: what it goes on showing from the same entry keeps its value, and a final job stays as it is
  pub record RightMove (st : ℕ → Job S) (i : ℕ) (o b : Job S) : Type 0 where
    pub good : Good st i b
    pub same_value : (c : ℕ) → shown b c ≡ shown o c → version b c ≡ version o c
    pub once_final : o.status ≡ final → b ≡ o

  module _ (st : ℕ → Job S) (i : ℕ) (b : Job S) (inv : Invariant st) (mv : RightMove st i (st i) b) where
    abbrev st' : ℕ → Job S
    st' = change st i b

    pub stays_final : (j : ℕ) → (st j).status ≡ final → (change st i b j).status ≡ final
    stays_final j e = go (ℕ_discrete j i)
      where
        go : Dec (j ≡ i) → (change st i b j).status ≡ final
        go (yes q) = let e' = rw q at e in rw (q, change_at st i b, mv.once_final e') e'
        go (no n) = change_status st i b j n ∙ e

    all_stay_final : (k : ℕ) → all_final st k ≡ true → all_final st' k ≡ true
    all_stay_final k e = all_final_of st' k (λ j l. stays_final j (all_final_at st k e j l))

    -- a search from i or lower sees nothing of the change
    find_low : (c k : ℕ) → k ≤ i → find table st' c k ≡ find table st c k
    find_low c k h = search_same (table c) (λ j. version (st j) c) (λ j. version (st' j) c) k (λ j l. change_version st i b c j (omega arith))

    -- one from above sees nothing of it unless its source is struck
    find_high : (c k s v : ℕ) → i < k → find table st c k ≡ (s, v) → struck (shown (st i) c) (shown b c) (suc i) s ≡ false → find table st' c k ≡ find table st c k
    find_high c k s v h e q =
        search_change (table c) (λ j. version (st j) c) (λ j. version (st' j) c) i k (λ j n. change_version st i b c j n) (go (shown (st i) c) (shown b c) refl refl q)
      where
        go : (o o' : Option ℕ) → shown (st i) c ≡ o → shown b c ≡ o' → struck o o' (suc i) s ≡ false →
            (version (change st i b i) c ≡ version (st i) c) ⊎ (suc i < (find table st c k).0)
        go None None x y t = inl (rw (change_at st i b) (mv.same_value c (cc)))
        go None (Some a) x y t = inr (rw e (leb-false s (suc i) t))
        go (Some a) None x y t =
            let n : s ≢ suc i = eqb-false s (suc i) t in
            let l = rw e at (search_has (table c) (λ j. version (st j) c) i _ (ap (value_at (st i).journal) x) k h) in
            inr (rw e (omega arith))
        go (Some a) (Some a') x y t = at (eqb a a') refl t
          where
            at : (z : Bool) → eqb a a' ≡ z → cond z false (leb s (suc i)) ≡ false → (version (change st i b i) c ≡ version (st i) c) ⊎ (suc i < (find table st c k).0)
            at true w t = let a≡ : a ≡ a' = eqb-true a a' w in inl (rw (change_at st i b) (mv.same_value c (cc)))
            at false w t = inr (rw e (leb-false s (suc i) t))

    keep_low : (k : ℕ) → k ≤ i → (d : Job S) → Good st k d → Good st' k d
    keep_low k h d g = record {
      ran = g.ran;
      fresh = every_imp (Fresh st k) (Fresh st' k) (λ r f. find_low r.cell k h ∙ f) (before_mark d.mark d.reads) g.fresh;
      marked = g.marked;
      held = g.held;
      stands = g.stands;
      settled = λ e. ((g.settled e).0, all_stay_final k (g.settled e).1);
    }

    strike : Read S → Bool
    strike r = is_struck (shown (st i)) (shown b) (suc i) r

    keep_high : (k : ℕ) → i < k → (d : Job S) → Good st k d → Good st' k (mark_job (shown (st i)) (shown b) (suc i) d)
    unfolding shown strike
    keep_high k h d g = record {
      ran = g.ran;
      fresh = every_both (Fresh st k) (λ r. strike r ≡ false) (Fresh st' k) (λ r f q. find_high r.cell k r.source r.value h f q ∙ f)
          (before_mark (earlier first d.mark) d.reads)
          (before_second (Fresh st k) first d.mark d.reads g.fresh) (before_first (λ r. strike r ≡ false) first d.mark d.reads (unstruck strike d.reads));
      marked = mark_fits_lem (shown (st i)) (shown b) (suc i) d g.marked;
      held = g.held;
      stands = g.stands;
      settled = λ e. (rw (mv.once_final (all_final_at st k (g.settled e).1 i h), same_marks_none (shown (st i)) (suc i) d.reads) (g.settled e).0, all_stay_final k (g.settled e).1);
    }
      where
        first : Option ℕ
        first = first_struck strike d.reads

    pub change_keeps : Invariant (change st i b)
    change_keeps k = go (ℕ_discrete k i) (dec_lt k i)
      where
        go : Dec (k ≡ i) → Dec (k < i) → Good (change st i b) k (change st i b k)
        go (yes q) d = rw (q, change_at st i b) (keep_low i (omega arith) b mv.good)
        go (no n) (yes l) = rw (change_low st i b k l) (keep_low k (omega arith) (st k) (inv k))
        go (no n) (no l) = rw (change_high st i b k (omega arith)) (keep_high k (omega arith) (st k) (inv k))
