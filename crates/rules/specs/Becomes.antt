-- A block after one job's move, job by job; and that this is the plain engine's `changed`.
use Rattle.std.specs.Prelude.{◌≡◌, refl, ◌∷◌, map, ℕ, suc, ◌+◌, ◌-◌, ◌<◌, length, get_or, take, drop}
use Rattle.std.proofs.Common.{ap, sym, ◌∙◌, arith, length-append, length-drop, ext_get_or, get_or-take, get_or-drop, get_or-append-add, length-take-le}
use Rattle.std.proofs.Math.Path.{fun_ext}
use Rattle.std.proofs.Math.Decide.{ℕ_discrete, dec_lt}
use Rattle.std.proofs.lemmas.List.{length-map}
use Rattle.std.proofs.Math.ListN.{get_or-append, get_or-map}
use Rattle.theory.specs.Lists.{tab, length_tab, get_d_tab, get_d_any}
use Rattle.theory.specs.Engine as E
use Rattle.theory.specs.Engine.{shown, mark_job, changed, job_at, nobody}
use Rattle.theory.proofs.Marks.{same_marks_none}
use Rattle.machine.specs.Machine.{Running}
use Rattle.rules.specs.Box.{box, limits}
use Rattle.rules.specs.Block.{job_of, block_of}
use Rattle.rules.specs.declared.block.Block.{Block}

-- the block b has become r, in which the job at index i is j: lower jobs stayed, and higher ones are marked where i's versions changed
pub record Becomes (b r : Block) (i : ℕ) (j : E.Job Running) : Type 0 where
  pub table : r.start ≡ b.start
  pub count : r.count ≡ b.count
  pub own : job_of r i ≡ j
  pub lower : (k : ℕ) → k < i → job_of r k ≡ job_of b k
  pub higher : (k : ℕ) → i < k → k < b.count → job_of r k ≡ mark_job (shown (job_of b i)) (shown j) (suc i) (job_of b k)

-- a move after which the job shows each cell from the same entry marks nobody
pub unmarking : (o j d : E.Job Running) (t : ℕ) → ((c : ℕ) → shown j c ≡ shown o c) → mark_job (shown o) (shown j) t d ≡ d
unmarking o j d t same = rw (fun_ext same, same_marks_none (shown o) t d.reads) refl

pub quiet : (b r : Block) (i : ℕ) (j : E.Job Running) → i < b.count → r.start ≡ b.start → r.count ≡ b.count → job_of r i ≡ j
    → ((k : ℕ) → (k ≡ i → ⊥) → k < b.count → job_of r k ≡ job_of b k) → ((c : ℕ) → shown j c ≡ shown (job_of b i) c) → Becomes b r i j
quiet b r i j h et ec own others same = record {
  table = et;
  count = ec;
  own = own;
  lower = λ k l. others k (λ q. omega arith) (omega arith);
  higher = λ k l m. others k (λ q. omega arith) m ∙ sym (unmarking (job_of b i) j (job_of b k) (suc i) same);
}

module _ (n i : ℕ) (f g : ℕ → E.Job Running) (o j : E.Job Running) (inside : i < n) where
  abbrev mark : E.Job Running → E.Job Running
  mark = mark_job (shown o) (shown j) (suc i)

  front : length (take i (tab n f)) ≡ i
  front = length-take-le i (tab n f) (rw (length_tab n f) (omega arith))

  size : length (changed (tab n f) i o j) ≡ n
  size =
      length-append (take i (tab n f)) (j ∷ map mark (drop (suc i) (tab n f)))
      ∙ rw (front, length-map (drop (suc i) (tab n f)) mark, length-drop (suc i) (tab n f), length_tab n f) (omega arith)

  low : (d : E.Job Running) (k : ℕ) → k < i → get_or (changed (tab n f) i o j) k d ≡ f k
  low d k l =
      get_or-append (take i (tab n f)) (j ∷ map mark (drop (suc i) (tab n f))) d k (rw front l)
      ∙ get_or-take i (tab n f) k d l ∙ get_d_tab n f k d (omega arith)

  past : (d : E.Job Running) (m : ℕ) → get_or (changed (tab n f) i o j) (i + m) d ≡ get_or (j ∷ map mark (drop (suc i) (tab n f))) m d
  past d m = ap (λ (x : ℕ). get_or (changed (tab n f) i o j) (x + m) d) (sym front) ∙ get_or-append-add (take i (tab n f)) (j ∷ map mark (drop (suc i) (tab n f))) m d

  high : (d : E.Job Running) (m : ℕ) → suc (i + m) < n → get_or (map mark (drop (suc i) (tab n f))) m d ≡ mark (f (suc (i + m)))
  high d m l =
      let inner : m < length (drop (suc i) (tab n f)) = rw (length-drop (suc i) (tab n f), length_tab n f) (omega arith) in
      let sum : suc i + m ≡ suc (i + m) = omega arith in
      get_d_any (map mark (drop (suc i) (tab n f))) m d (mark d) (rw (length-map (drop (suc i) (tab n f)) mark) inner)
      ∙ get_or-map mark (drop (suc i) (tab n f)) m d ∙ ap mark (get_or-drop (suc i) (tab n f) m d ∙ ap (λ (x : ℕ). get_or (tab n f) x d) sum ∙ get_d_tab n f (suc (i + m)) d l)

  -- a list by its entries, after the change
  pub changed_tab : ((k : ℕ) → k < i → g k ≡ f k) → g i ≡ j → ((k : ℕ) → i < k → k < n → g k ≡ mark (f k)) → tab n g ≡ changed (tab n f) i o j
  changed_tab below own above = ext_get_or o (tab n g) (changed (tab n f) i o j) (length_tab n g ∙ sym size) (λ k l. at k (rw (length_tab n g) at l) (dec_lt k i) (ℕ_discrete k i))
    where
      at : (k : ℕ) → k < n → Dec (k < i) → Dec (k ≡ i) → get_or (tab n g) k o ≡ get_or (changed (tab n f) i o j) k o
      at k l (yes m) e = get_d_tab n g k o l ∙ below k m ∙ sym (low o k m)
      at k l (no m) (yes e) =
          let z : i ≡ i + 0 = omega arith in
          get_d_tab n g k o l ∙ rw e (own ∙ sym (ap (λ (x : ℕ). get_or (changed (tab n f) i o j) x o) z ∙ past o 0))
      at k l (no m) (no e) =
          let w : k ≡ i + suc (k - suc i) = omega arith in
          let v : suc (i + (k - suc i)) ≡ k = omega arith in
          get_d_tab n g k o l ∙ above k (omega arith) l ∙ sym (ap (λ (x : ℕ). get_or (changed (tab n f) i o j) x o) w ∙ past o (suc (k - suc i)) ∙ high o (k - suc i) (rw v l) ∙ rw v refl)

pub becomes_changed : (b r : Block) (i : ℕ) (j : E.Job Running) → i < b.count → Becomes b r i j
    → block_of r ≡ record { table = (block_of b).table; jobs = changed (block_of b).jobs i (job_at limits box (block_of b) i) j }
unfolding block_of
becomes_changed b r i j l h = λ x. record { table = h.table x; jobs = jobs x }
  where
    jobs : tab r.count (job_of r) ≡ changed (tab b.count (job_of b)) i (get_or (tab b.count (job_of b)) i (nobody limits box)) j
    jobs =
        ap (λ (n : ℕ). tab n (job_of r)) h.count ∙ changed_tab b.count i (job_of b) (job_of r) (job_of b i) j l h.lower h.own h.higher
        ∙ ap (λ (o : E.Job Running). changed (tab b.count (job_of b)) i o j) (sym (get_d_tab b.count (job_of b) i (nobody limits box) l))
