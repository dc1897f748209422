-- Public versions: a list of entry numbers is built by adding at its end, and what a loop has still to look at is the rest of the list.
use mathlib.Core.Path.{◌≡◌, refl, ap, sym, ◌∙◌}
use mathlib.Core.Bool.{Bool, true, false, cond}
use Rattle.std.specs.Prelude.{Option, None, Some}
use mathlib.Core.List.{List, [], ◌∷◌, ◌++◌, append-nil, append_assoc}
use Prim.Native.Nat.{ℕ, zero, suc, ◌+◌, ◌-◌, ◌≤◌, ◌<◌}
use native.Mathlib.Omega.{arith}
use native.Mathlib.Numerals.{add-one}
use lib.Dec.{eqb, ltb}
use lib.ListN.{length, get_or, set, drop, length-append, drop_of_length-le}
use lib.Seq.{get_or-set_same, get_or-set_other, drop-cons}
use borrow.Author.Tests.{lt-ltb, le-ltb}
use Rattle.theory.specs.Lists.{length_tab, get_d_tab, tab_same, drop_tab}
use Rattle.theory.specs.Engine as E
use Rattle.theory.specs.Engine.{shown_at, writes?, lasts_from, published, withdrawn}
use Rattle.rules.specs.View.{entry_of, journal_of, length_journal, number_at, number_low, versions_of, no_journal, no_versions, Showing, last_one, kept_one, version_of, version_at, found_in}
use Rattle.rules.specs.declared.block.Entry.{Entry}
use Rattle.rules.specs.declared.block.Journal.{Journal}
use Rattle.rules.specs.declared.block.Versions.{Versions}
use Rattle.machine.specs.declared.counts.Ticket.{Ticket}
use Rattle.rules.specs.declared.versions.Version.{Version}

pub length_versions : (v : Versions) → length (versions_of v) ≡ v.size
unfolding versions_of
length_versions v = length_tab v.size (number_at v)

pub version_none : (ps : List ℕ) → versions_of (record { numbers = ps; size = 0 }) ≡ []
unfolding versions_of
version_none ps = refl

pub version_added : (v : Versions) (p : ℕ) → v.size < 8 → length v.numbers ≡ 8 → versions_of (record { numbers = set v.numbers v.size p; size = v.size + 1 }) ≡ versions_of v ++ (p ∷ [])
unfolding versions_of number_at
version_added v p l w =
    rw (add-one v.size, lt-ltb v.size 8 l, get_or-set_same v.numbers v.size p 0 (omega arith))
    (ap (λ (ps : List ℕ). ps ++ (p ∷ [])) (tab_same v.size _ _ (λ k m. rw (lt-ltb k 8 (omega arith)) (get_or-set_other v.numbers v.size k p 0 (λ q. omega arith)))))

pub ruleset add_laws = (version_none, version_added)

-- ---- from where a cell is shown
pub cut : (v : Versions) (k : ℕ) → v.size ≤ 8 → k < v.size → drop k (versions_of v) ≡ get_or v.numbers k 0 ∷ drop (suc k) (versions_of v)
unfolding versions_of
cut v k few l = rw (number_low v k (omega arith)) (drop_tab v.size (number_at v) k l)

module _ (j : Journal) (v : Versions) (c k : ℕ) (R : Option ℕ) where
  module _ (s : Showing j v) (l : k < v.size) (e : Entry) (ee : entry_of e ≡ get_or (journal_of j) (get_or v.numbers k 0) E.no_entry) where
    is_cell : (get_or (journal_of j) (get_or v.numbers k 0) E.no_entry).cell ≡ e.cell.0
    is_cell = ap (λ (x : E.Entry). x.cell) (sym ee)

    module _ (x : Bool) (t : x ≡ eqb e.cell.0 c) where
      pub shown_here : x ≡ true → shown_at (journal_of j) (drop k (versions_of v)) c ≡ R → Some (get_or v.numbers k 0) ≡ R
      shown_here q r = sym (ap (λ (vs : List ℕ). shown_at (journal_of j) vs c) (cut v k s.numbers l) ∙ rw (is_cell, sym t ∙ q) refl) ∙ r

      pub shown_on : x ≡ false → shown_at (journal_of j) (drop k (versions_of v)) c ≡ R → shown_at (journal_of j) (drop (k + 1) (versions_of v)) c ≡ R
      shown_on q r = rw (add-one k) (sym (ap (λ (vs : List ℕ). shown_at (journal_of j) vs c) (cut v k s.numbers l) ∙ rw (is_cell, sym t ∙ q) refl) ∙ r)

  pub shown_end : v.size ≤ k → shown_at (journal_of j) (drop k (versions_of v)) c ≡ R → None ≡ R
  shown_end l r = sym (ap (λ (vs : List ℕ). shown_at (journal_of j) vs c) (drop_of_length-le (versions_of v) {i = k} (rw (length_versions v) l))) ∙ r

pub ruleset shown_laws = (shown_here, shown_on, shown_end)

-- ---- which entries are the last of their cell
module _ (j : Journal) (v : Versions) (k : ℕ) (e : Entry) (ee : entry_of e ≡ get_or (journal_of j) k E.no_entry) where
  last_cell : (get_or (journal_of j) k E.no_entry).cell ≡ e.cell.0
  last_cell = ap (λ (x : E.Entry). x.cell) (sym ee)

  pub last_not : (b : Bool) → b ≡ writes? (drop (suc k) (journal_of j)) e.cell.0 → b ≡ true → versions_of v ≡ versions_of v ++ last_one (journal_of j) k
  unfolding last_one
  last_not b q t = rw (last_cell, ← q, t) (sym (append-nil (versions_of v)))

  pub last_one_lem : (b : Bool) (r : Versions) → b ≡ writes? (drop (suc k) (journal_of j)) e.cell.0 → b ≡ false → versions_of r ≡ versions_of v ++ (k ∷ []) → versions_of r ≡ versions_of v ++ last_one (journal_of j) k
  unfolding last_one
  last_one_lem b r q t w = rw (last_cell, ← q, t) w

pub ruleset last_one_laws = (last_not, last_one_lem)

-- ---- adding one by one
module _ (j : Journal) (k : ℕ) (R : List ℕ) where
  one_last : (es : List E.Entry) (e : E.Entry) → lasts_from k (e ∷ es) ≡ cond (writes? es e.cell) [] (k ∷ []) ++ lasts_from (suc k) es
  one_last es e = go (writes? es e.cell)
    where
      go : (t : Bool) → cond t (lasts_from (suc k) es) (k ∷ lasts_from (suc k) es) ≡ cond t [] (k ∷ []) ++ lasts_from (suc k) es
      go true = refl
      go false = refl

  pub publish_on : (v r : Versions) → k < j.size → versions_of r ≡ versions_of v ++ last_one (journal_of j) k → versions_of v ++ lasts_from k (drop k (journal_of j)) ≡ R
      → versions_of r ++ lasts_from (k + 1) (drop (k + 1) (journal_of j)) ≡ R
  unfolding last_one
  publish_on v r l e q =
      rw (add-one k, e, append_assoc)
      (ap (λ (ps : List ℕ). versions_of v ++ ps) (sym (ap (lasts_from k) (drop-cons (journal_of j) k E.no_entry (rw (length_journal j) l)) ∙ one_last (drop (suc k) (journal_of j)) (get_or (journal_of j) k E.no_entry))) ∙ q)

  pub publish_end : (v : Versions) → j.size ≤ k → versions_of v ++ lasts_from k (drop k (journal_of j)) ≡ R → versions_of v ≡ R
  publish_end v l q = sym (append-nil (versions_of v)) ∙ ap (λ (es : List E.Entry). versions_of v ++ lasts_from k es) (sym (drop_of_length-le (journal_of j) {i = k} (rw (length_journal j) l))) ∙ q

  pub publish_size : (v r : Versions) → v.size ≤ k → versions_of r ≡ versions_of v ++ last_one (journal_of j) k → r.size ≤ k + 1
  unfolding last_one
  publish_size v r l e = go (writes? (drop (suc k) (journal_of j)) (get_or (journal_of j) k E.no_entry).cell) e
    where
      go : (t : Bool) → versions_of r ≡ versions_of v ++ cond t [] (k ∷ []) → r.size ≤ k + 1
      go true q = omega (arith, ap length q, length-append (versions_of v) [], length_versions v, length_versions r)
      go false q = omega (arith, ap length q, length-append (versions_of v) (k ∷ []), length_versions v, length_versions r)

pub ruleset publish_laws = (publish_on, publish_size, publish_end)

-- ---- withdrawing
module _ (v : Versions) (n p : ℕ) where
  pub kept_one_lem : (r : Versions) → p < n → versions_of r ≡ versions_of v ++ (p ∷ []) → versions_of r ≡ versions_of v ++ kept_one n p
  unfolding kept_one
  kept_one_lem r l e = rw (lt-ltb p n l) e

  pub kept_none : n ≤ p → versions_of v ≡ versions_of v ++ kept_one n p
  unfolding kept_one
  kept_none l = rw (le-ltb p n l) (sym (append-nil (versions_of v)))

pub ruleset kept_laws = (kept_one_lem, kept_none)

module _ (v : Versions) (n k : ℕ) (R : List ℕ) where
  one_kept : (p : ℕ) (ps : List ℕ) → withdrawn n (p ∷ ps) ≡ cond (ltb p n) (p ∷ []) [] ++ withdrawn n ps
  one_kept p ps = go (ltb p n)
    where
      go : (t : Bool) → cond t (p ∷ withdrawn n ps) (withdrawn n ps) ≡ cond t (p ∷ []) [] ++ withdrawn n ps
      go true = refl
      go false = refl

  pub withdraw_on : (w r : Versions) → v.size ≤ 8 → k < v.size → versions_of r ≡ versions_of w ++ kept_one n (get_or v.numbers k 0) → versions_of w ++ withdrawn n (drop k (versions_of v)) ≡ R
      → versions_of r ++ withdrawn n (drop (k + 1) (versions_of v)) ≡ R
  unfolding kept_one
  withdraw_on w r few l e q =
      rw (add-one k, e, append_assoc)
      (ap (λ (ps : List ℕ). versions_of w ++ ps) (sym (ap (withdrawn n) (cut v k few l) ∙ one_kept (get_or v.numbers k 0) (drop (suc k) (versions_of v)))) ∙ q)

  pub withdraw_end : (w : Versions) → v.size ≤ k → versions_of w ++ withdrawn n (drop k (versions_of v)) ≡ R → versions_of w ≡ R
  withdraw_end w l q = sym (append-nil (versions_of w)) ∙ ap (λ (ps : List ℕ). versions_of w ++ withdrawn n ps) (sym (drop_of_length-le (versions_of v) {i = k} (rw (length_versions v) l))) ∙ q

  pub withdraw_size : (w r : Versions) (p : ℕ) → w.size ≤ k → versions_of r ≡ versions_of w ++ kept_one n p → r.size ≤ k + 1
  unfolding kept_one
  withdraw_size w r p l e = go (ltb p n) e
    where
      go : (t : Bool) → versions_of r ≡ versions_of w ++ cond t (p ∷ []) [] → r.size ≤ k + 1
      go true q = omega (arith, ap length q, length-append (versions_of w) (p ∷ []), length_versions w, length_versions r)
      go false q = omega (arith, ap length q, length-append (versions_of w) [], length_versions w, length_versions r)

pub ruleset withdraw_laws = (withdraw_on, withdraw_size, withdraw_end)

-- ---- the version that a reader finds
-- an entry that is shown is one of the versions
shown_listed : (es : List E.Entry) (vs : List ℕ) (n c p : ℕ) → ((k : ℕ) → k < length vs → get_or vs k 0 < n) → shown_at es vs c ≡ Some p → p < n
shown_listed es [] n c p h e = absurd (let z : ◌≡◌ {A = ℕ} 0 1 = cc in omega arith)
shown_listed es (v ∷ vs) n c p h e = go (eqb (get_or es v E.no_entry).cell c) e (shown_listed es vs n c p (λ k l. h (suc k) (omega arith)))
  where
    go : (t : Bool) → cond t (Some v) (shown_at es vs c) ≡ Some p → (shown_at es vs c ≡ Some p → p < n) → p < n
    go true q ih = let w : v ≡ p = cc in rw (← w) (h 0 (omega arith))
    go false q ih = ih q

pub shown_low : (j : Journal) (v : Versions) (c p : ℕ) (r : Option ℕ) → Showing j v → r ≡ shown_at (journal_of j) (versions_of v) c → r ≡ Some p → p < j.size
unfolding versions_of
shown_low j v c p r s e q =
    shown_listed (journal_of j) (versions_of v) j.size c p
    (λ k l. let m = rw (length_versions v) at l in rw (get_d_tab v.size (number_at v) k 0 m, ← number_low v k (omega (arith, s.numbers))) (s.named k m)) (sym e ∙ q)

module _ (js : List Journal) (vs : List Versions) (start c : ℕ) where
  pub find_start : (t : Ticket) → t.0 ≡ 0 → version_of (record { source = t; value = start }) ≡ found_in js vs start c t.0
  unfolding version_of found_in E.search
  find_start t e = rw e refl

  pub find_own : (t : Ticket) (x : ℕ) (r : Option ℕ) → (t.0 ≡ 0 → ⊥) → r ≡ E.value_at (journal_of (get_or js (t.0 - 1) no_journal)) (shown_at (journal_of (get_or js (t.0 - 1) no_journal)) (versions_of (get_or vs (t.0 - 1) no_versions)) c)
      → r ≡ Some x → version_of (record { source = t; value = x }) ≡ found_in js vs start c t.0
  unfolding version_of version_at found_in E.search
  find_own t x r n e q = go t.0 n (sym e ∙ q)
    where
      go : (m : ℕ) → (m ≡ 0 → ⊥) → version_at js vs (m - 1) c ≡ Some x → (m, x) ≡ E.search start (λ k. version_at js vs k c) m
      go zero n e = absurd (n refl)
      go (suc m) n e = let s : suc m - 1 ≡ m = omega arith in rw (rw s at e) refl

  pub find_lower : (t : ℕ) (r : Option ℕ) (w : Version) → (t ≡ 0 → ⊥) → r ≡ E.value_at (journal_of (get_or js (t - 1) no_journal)) (shown_at (journal_of (get_or js (t - 1) no_journal)) (versions_of (get_or vs (t - 1) no_versions)) c)
      → r ≡ None → version_of w ≡ found_in js vs start c (t - 1) → version_of w ≡ found_in js vs start c t
  unfolding version_at found_in E.search
  find_lower zero r w n e q h = absurd (n refl)
  find_lower (suc t) r w n e q h =
      let s : suc t - 1 ≡ t = omega arith in
      let z : version_at js vs t c ≡ None = rw s at (sym e ∙ q) in
      rw z (rw s at h)

pub ruleset find_laws = (find_start, find_own, find_lower)
