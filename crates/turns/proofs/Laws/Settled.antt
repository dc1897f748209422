-- The settled table: the count is the plain engine's, and the table is written cell by cell with what it finds.
use mathlib.Core.Path.{◌≡◌, refl, ap, sym, ◌∙◌, fun_ext}
use Rattle.std.specs.Prelude.{Option, None, Some, unwrap_or, Ok, Err, count_by}
use Rattle.std.proofs.lemmas.List.{get_or_past, length-take}
use Rattle.std.proofs.lemmas.List.Sums.{count_by_more_yes, count_by_more_no, count_by-le-length}
use mathlib.Core.Bool.{Bool, true, false, cond}
use mathlib.Core.List.{List, [], ◌∷◌, ◌++◌, map, map-append}
use Prim.Native.Nat.{ℕ, zero, suc, ◌+◌, ◌-◌, ◌≤◌, ◌<◌}
use native.Mathlib.Omega.{arith}
use native.Mathlib.Numerals.{add-one}
use native.Mathlib.Nat.{add-zero}
use native.Mathlib.Decide.{ℕ_discrete, dec_lt}
use lib.Dec.{eqb, leb}
use lib.ListN.{length, get_or, take, drop, set, drop_of_length-le}
use lib.Seq.{take_all, get_or-set_same, get_or-set_other}
use borrow.Author.Tests.{eq-eqb, ne_eqb}
use Rattle.theory.specs.Lists.{tab, tab_same, get_d_tab}
use Rattle.theory.specs.Engine as E
use Rattle.machine.specs.Machine.{Running}
use Rattle.rules.specs.Box.{box, limits}
use Rattle.rules.specs.View.{no_entry, entry_of, entries_of, journal_of, versions_of, no_journal, no_versions, Showing, version_at, found_in}
use Rattle.rules.specs.Block.{job_of, block_of}
use Rattle.rules.specs.Fitting.{count_fit, block_fit}
use Rattle.rules.specs.Turn.{jobs, cells}
use Rattle.turns.specs.Settled.{finals_below, cell_found, InTable, shown_over, Settleable, unless_unsettled, refusal_of, f_of, settled_answer, settled_count, settled_table, Settles}
use Rattle.turns.specs.SerialRun.{cells_of}
use Rattle.rules.specs.declared.block.Block.{Block}
use Rattle.rules.specs.declared.block.Entry.{Entry}
use Rattle.rules.specs.declared.block.Journal.{Journal}
use Rattle.rules.specs.declared.block.Versions.{Versions}
use Rattle.turns.specs.declared.settled.SettleRefusal.TheVariants.{WrongTable, Misfit}
use Rattle.rules.proofs.Laws.Reading.{found_is}
use Rattle.rules.proofs.Laws.Rules.{status_final}
use Rattle.rules.proofs.Laws.Versions.{length_versions, cut}
use Rattle.turns.proofs.Laws.Serial.{by_cells, written_whole}

-- ---- the number of final jobs
-- one job more
count_more : (ss : List ℕ) (k : ℕ) → finals_below ss (suc k) ≡ finals_below ss k + cond (leb 2 (get_or ss k 0)) 1 0
count_more ss k = go (dec_lt k (length ss))
  where
    inside : k < length ss → (t : Bool) → leb 2 (get_or ss k 0) ≡ t → count_by (leb 2) (take (suc k) ss) ≡ count_by (leb 2) (take k ss) + cond t 1 0
    inside l true e = rw (← add-one k) (count_by_more_yes (leb 2) ss k 0 l e)
    inside l false e = rw (← add-one k, add-zero) (count_by_more_no (leb 2) ss k 0 l e)

    go : Dec (k < length ss) → count_by (leb 2) (take (suc k) ss) ≡ count_by (leb 2) (take k ss) + cond (leb 2 (get_or ss k 0)) 1 0
    go (yes l) = inside l (leb 2 (get_or ss k 0)) refl
    go (no l) = rw (take_all (suc k) ss (omega arith), take_all k ss (omega arith), get_or_past ss k 0 (omega arith), add-zero) refl

pub count_few : (ss : List ℕ) (k : ℕ) → finals_below ss k ≤ k
count_few ss k = omega (arith, count_by-le-length (leb 2) (take k ss), length-take k ss)

-- ---- what one job shows, over a table
-- the versions from the k-th on are over the table
module _ (j : Journal) (v : Versions) (before table : List ℕ) (k : ℕ) (s : Showing j v) (inside : InTable j) (size : length table ≡ 256) (p : 0 < k) (l : k ≤ v.size) (e : Entry)
    (ee : entry_of e ≡ get_or (journal_of j) (get_or v.numbers (k - 1) 0) E.no_entry) where
  pub shows_cell : e.cell.0 < length table
  unfolding entries_of
  shows_cell =
      let named = s.named (k - 1) (omega arith) in
      let w : e.cell.0 ≡ (get_or j.entries (get_or v.numbers (k - 1) 0) no_entry).cell.0 = ap (λ (x : E.Entry). x.cell) (ee ∙ get_d_tab j.size _ (get_or v.numbers (k - 1) 0) E.no_entry named) in
      omega (arith, inside.cells (get_or v.numbers (k - 1) 0) named)

  pub shows_on : cells_of table ≡ shown_over j (drop k (versions_of v)) (cells_of before) → cells_of (set table e.cell.0 e.value) ≡ shown_over j (drop (k - 1) (versions_of v)) (cells_of before)
  shows_on h = fun_ext (λ c. rw (cut_at, ← ee) (at c (ℕ_discrete c e.cell.0)))
    where
      cut_at : drop (k - 1) (versions_of v) ≡ get_or v.numbers (k - 1) 0 ∷ drop k (versions_of v)
      cut_at = let w : suc (k - 1) ≡ k = omega arith in cut v (k - 1) s.numbers (omega arith) ∙ rw w refl

      at : (c : ℕ) → Dec (c ≡ e.cell.0) → get_or (set table e.cell.0 e.value) c 0
          ≡ unwrap_or (E.value_at (journal_of j) (cond (eqb e.cell.0 c) (Some (get_or v.numbers (k - 1) 0)) (E.shown_at (journal_of j) (drop k (versions_of v)) c))) (get_or before c 0)
      at c (yes q) = rw (eq-eqb e.cell.0 c (sym q), ← ee) (rw q (get_or-set_same table e.cell.0 e.value 0 shows_cell))
      at c (no q) = rw (ne_eqb e.cell.0 c (λ z. q (sym z))) (get_or-set_other table e.cell.0 c e.value 0 q ∙ (λ i. h i c))

pub shows_start : (j : Journal) (v : Versions) (table : List ℕ) → cells_of table ≡ shown_over j (drop v.size (versions_of v)) (cells_of table)
shows_start j v table = fun_ext (λ c. rw (drop_of_length-le (versions_of v) {i = v.size} (rw (length_versions v) (omega arith))) refl)

-- ---- the jobs, one by one
pub found_start : (b : Block) → cells_of b.start ≡ cell_found b 0
unfolding cell_found found_in E.search
found_start b = refl

pub found_on : (b : Block) (k : ℕ) (table after : List ℕ) → cells_of table ≡ cell_found b k
    → cells_of after ≡ shown_over (get_or b.journals k no_journal) (versions_of (get_or b.versions k no_versions)) (cells_of table) → cells_of after ≡ cell_found b (k + 1)
unfolding cell_found found_in E.search version_at
found_on b k table after q h = rw (add-one k) (fun_ext at)
  where
    one : (o : Option ℕ) (lower : ℕ × ℕ) → unwrap_or o lower.1 ≡ (E.found o k lower).1
    one (Some x) lower = refl
    one None lower = refl

    at : (c : ℕ) → get_or after c 0 ≡ cell_found b (suc k) c
    at c =
        ap (λ (t : ℕ → ℕ). t c) h ∙ ap (λ (t : ℕ → ℕ). unwrap_or (version_at b.journals b.versions k c) (t c)) q
        ∙ one (version_at b.journals b.versions k c) (found_in b.journals b.versions (get_or b.start c 0) c k)

pub found_end : (b : Block) (f : ℕ) (table : List ℕ) → length table ≡ 256 → cells_of table ≡ cell_found b f → table ≡ tab 256 (cell_found b f)
found_end b f table size q = by_cells table 256 (cell_found b f) size q

-- ---- the whole
up_to_lem : {A : Type 0} (g : ℕ → A) (n : ℕ) → map g (E.up_to limits box n) ≡ tab n g
up_to_lem g zero = refl
up_to_lem g (suc n) = map-append g (E.up_to limits box n) (n ∷ []) ∙ rw (up_to_lem g n) refl

finals_end : (js : List (E.Job Running)) (j : E.Job Running) → E.finals limits box (js ++ (j ∷ [])) ≡ E.finals limits box js + cond (E.is_final j.status) 1 0
finals_end [] j = omega arith
finals_end (x ∷ js) j = rw (finals_end js j) (omega arith)

finals_tab : (b : Block) (n : ℕ) → E.finals limits box (tab n (job_of b)) ≡ finals_below b.status n
finals_tab b zero = refl
finals_tab b (suc n) = finals_end (tab n (job_of b)) (job_of b n) ∙ rw (finals_tab b n, status_final b n, count_more b.status n) refl

finals_is : (b : Block) → E.finals limits box (block_of b).jobs ≡ finals_below b.status b.count
unfolding block_of
finals_is b = finals_tab b b.count

count_low : (b : Block) (f : ℕ) → f ≡ finals_below b.status b.count → f ≤ b.count
count_low b f e = rw e (count_few b.status b.count)

module _ (b : Block) (f : ℕ) (e : f ≡ finals_below b.status b.count) where
  cell_is : (c : ℕ) → cell_found b f c ≡ E.settled_cell limits box (block_of b) c
  unfolding cell_found
  cell_is c = ap (λ (p : ℕ × ℕ). p.1) (found_is b f c (count_low b f e) ∙ ap (E.find (cells b) (jobs b) c) (e ∙ sym (finals_is b)))

  settled_is : tab 256 (cell_found b f) ≡ E.settled limits box (block_of b)
  unfolding E.settled
  settled_is = tab_same 256 (cell_found b f) (E.settled_cell limits box (block_of b)) (λ c l. cell_is c) ∙ sym (up_to_lem (E.settled_cell limits box (block_of b)) 256)

module _ (b : Block) (before : List ℕ) where
  pub settle_wrong : (length before ≡ 256 → ⊥) → Settles b before (Err WrongTable) before
  unfolding refusal_of f_of settled_answer settled_count settled_table unless_unsettled
  settle_wrong e = record { answer = rw (ne_eqb _ _ e) refl; count = rw (ne_eqb _ _ e) refl; table = rw (ne_eqb _ _ e) refl }

  module _ (size : length before ≡ 256) where
    pub settle_misfit : E.block_fits limits box (block_of b) ≡ false → Settles b before (Err Misfit) before
    unfolding refusal_of f_of settled_answer settled_count settled_table unless_unsettled
    settle_misfit q = record { answer = rw (size, q) refl; count = rw (size, q) refl; table = rw (size, q) refl }

    pub settle_written : (f : ℕ) (after : List ℕ) → E.block_fits limits box (block_of b) ≡ true → f ≡ finals_below b.status b.count → after ≡ tab 256 (cell_found b f)
        → Settles b before (Ok f) (after ++ drop 256 before)
    unfolding refusal_of f_of settled_answer settled_count settled_table unless_unsettled
    settle_written f after q e a = record {
      answer = rw (size, q) refl;
      count = rw (size, q) (e ∙ sym (finals_is b));
      table = rw (size, q) (written_whole before after size ∙ a ∙ settled_is b f e);
    }

module _ (b : Block) (fit : E.block_fits limits box (block_of b) ≡ true) where
  pub settle_count : b.count ≤ 16
  settle_count = count_fit b fit

  module _ (f : ℕ) (e : f ≡ finals_below b.status b.count) where
    pub settle_low : f ≤ 16
    settle_low = omega (arith, settle_count, count_low b f e)

    pub settle_showing : Settleable b f
    settle_showing = record {
      showing = λ k l. (block_fit b fit k (omega (arith, count_low b f e))).showing;
      inside = λ k l. record { cells = (block_fit b fit k (omega (arith, count_low b f e))).cells };
    }
