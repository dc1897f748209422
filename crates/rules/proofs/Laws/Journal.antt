-- The journal: its last entry for a cell is found from the end, where the list grows by one entry at a time.
use mathlib.Core.Path.{◌≡◌, refl, ap, sym, ◌∙◌}
use mathlib.Core.Bool.{Bool, true, false, cond, ◌||◌}
use Rattle.std.specs.Prelude.{Option, None, Some}
use mathlib.Core.List.{List, [], ◌∷◌, ◌++◌, map}
use Prim.Native.Nat.{ℕ, zero, suc, ◌+◌, ◌-◌, ◌≤◌, ◌<◌}
use native.Mathlib.Omega.{arith}
use native.Mathlib.Numerals.{add-one}
use lib.Dec.{eqb}
use lib.ListN.{length, get_or, set, take, drop}
use lib.Seq.{get_or-set_same, get_or-set_other, take-suc}
use Rattle.std.specs.List.{list_any}
use Rattle.std.proofs.lemmas.List.{map-append, take_all, length-drop}
use Rattle.theory.specs.Lists.{tab, length_tab, get_d_tab, tab_same}
use Rattle.theory.specs.Engine as E
use Rattle.theory.specs.Engine.{last_at, or_else, next, writes?}
use Rattle.rules.specs.View.{no_entry, entry_of, entries_of, journal_of}
use Rattle.rules.specs.declared.block.Entry.{Entry}
use Rattle.rules.specs.declared.block.Journal.{Journal}

pub entries_none : (es : List Entry) → journal_of (record { entries = es; size = 0 }) ≡ []
unfolding entries_of
entries_none es = refl

-- the last entry of a list that ends in e
last_snoc : (es : List E.Entry) (e : E.Entry) (c : ℕ) → last_at (es ++ (e ∷ [])) c ≡ cond (eqb e.cell c) (Some (length es)) (last_at es c)
last_snoc [] e c = refl
last_snoc (x ∷ es) e c = rw (last_snoc es e c) (go (eqb e.cell c))
  where
    go : (t : Bool) → or_else (next (cond t (Some (length es)) (last_at es c))) (cond (eqb x.cell c) (Some 0) None)
        ≡ cond t (Some (suc (length es))) (or_else (next (last_at es c)) (cond (eqb x.cell c) (Some 0) None))
    go true = refl
    go false = refl

module _ (j : Journal) (c : ℕ) (R : Option ℕ) where
  -- the cell of the last of the first k entries is compared with c
  module _ (k : ℕ) (x : Bool) (l : 0 < k) (e : x ≡ eqb (get_or j.entries (k - 1) no_entry).cell.0 c) where
    pub last_here : x ≡ true → last_at (entries_of k j) c ≡ R → Some (k - 1) ≡ R
    unfolding entries_of
    last_here t q = go k l (sym e ∙ t) q
      where
        go : (k : ℕ) → 0 < k → eqb (get_or j.entries (k - 1) no_entry).cell.0 c ≡ true → last_at (entries_of k j) c ≡ R → Some (k - 1) ≡ R
        go zero l t q = absurd (omega arith)
        go (suc k) l t q =
            let s : suc k - 1 ≡ k = omega arith in
            rw s (sym (last_snoc (tab k (λ i. entry_of (get_or j.entries i no_entry))) (entry_of (get_or j.entries k no_entry)) c
            ∙ rw (rw s at t, length_tab k (λ i. entry_of (get_or j.entries i no_entry))) refl) ∙ q)

    pub last_before : x ≡ false → last_at (entries_of k j) c ≡ R → last_at (entries_of (k - 1) j) c ≡ R
    unfolding entries_of
    last_before t q = go k l (sym e ∙ t) q
      where
        go : (k : ℕ) → 0 < k → eqb (get_or j.entries (k - 1) no_entry).cell.0 c ≡ false → last_at (entries_of k j) c ≡ R → last_at (entries_of (k - 1) j) c ≡ R
        go zero l t q = absurd (omega arith)
        go (suc k) l t q =
            let s : suc k - 1 ≡ k = omega arith in
            rw s (sym (last_snoc (tab k (λ i. entry_of (get_or j.entries i no_entry))) (entry_of (get_or j.entries k no_entry)) c ∙ rw (rw s at t) refl) ∙ q)

  pub last_none : (k : ℕ) → k ≤ 0 → last_at (entries_of k j) c ≡ R → None ≡ R
  unfolding entries_of
  last_none zero l q = q
  last_none (suc k) l q = absurd (omega arith)

pub ruleset last_laws = (last_here, last_before, last_none)

-- a journal by the entries that it holds
held_is : (es : List Entry) (n : ℕ) → n ≤ length es → tab n (λ i. entry_of (get_or es i no_entry)) ≡ map entry_of (take n es)
held_is es zero l = refl
held_is es (suc n) l =
    rw (take-suc es n no_entry l, map-append entry_of (take n es) (get_or es n no_entry ∷ []))
    (ap (λ (xs : List E.Entry). xs ++ (entry_of (get_or es n no_entry) ∷ [])) (held_is es n (omega arith)))

writes_is : (es : List Entry) (c : ℕ) → list_any (λ (e : Entry). eqb e.cell.0 c) es ≡ writes? (map entry_of es) c
writes_is [] c = refl
writes_is (e ∷ es) c = ap (λ (b : Bool). eqb e.cell.0 c || b) (writes_is es c)

map_drop : (k : ℕ) (es : List Entry) → map entry_of (drop k es) ≡ drop k (map entry_of es)
map_drop zero es = refl
map_drop (suc k) [] = refl
map_drop (suc k) (e ∷ es) = map_drop k es

-- whether an entry after the k-th writes the cell
pub later_is : (j : Journal) (k c : ℕ) (h : List Entry) → h ≡ take j.size j.entries → length j.entries ≡ 8 → j.size ≤ 8
    → list_any (λ (e : Entry). eqb e.cell.0 c) (take (length h - (k + 1)) (drop (k + 1) h)) ≡ writes? (drop (suc k) (journal_of j)) c
unfolding entries_of
later_is j k c h eh w l =
    rw (take_all (length h - (k + 1)) (drop (k + 1) h) (rw (length-drop (k + 1) h) (omega arith)), eh, add-one k, held_is j.entries j.size (omega arith), ← map_drop (suc k) (take j.size j.entries))
    (writes_is (drop (suc k) (take j.size j.entries)) c)

pub entry_added : (j : Journal) (e : Entry) → j.size < 8 → length j.entries ≡ 8 → journal_of (record { entries = set j.entries j.size e; size = j.size + 1 }) ≡ journal_of j ++ (entry_of e ∷ [])
unfolding entries_of
entry_added j e l w =
    rw (add-one j.size, get_or-set_same j.entries j.size e no_entry (omega arith))
    (ap (λ (es : List E.Entry). es ++ (entry_of e ∷ []))
    (tab_same j.size _ _ (λ k m. ap entry_of (get_or-set_other j.entries j.size k e no_entry (λ q. omega arith)))))

pub entry_is : (j : Journal) (k : ℕ) → k < j.size → entry_of (get_or j.entries k no_entry) ≡ get_or (journal_of j) k E.no_entry
unfolding entries_of
entry_is j k l = sym (get_d_tab j.size (λ i. entry_of (get_or j.entries i no_entry)) k E.no_entry l)

pub ruleset entry_laws = (entry_added, entry_is)
