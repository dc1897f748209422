-- The whole turn: 14, then 20, and else the rules, on a block that offers all that they take for granted.
use mathlib.Core.Path.{◌≡◌, refl, ap, sym, ◌∙◌}
use mathlib.Core.Bool.{Bool, true, false, cond}
use Rattle.std.specs.Prelude.{None, Some}
use Rattle.std.proofs.lemmas.Option.{none-some, same_Some}
use mathlib.Core.Logic.{◌⊎◌, inl, inr}
use Prim.Native.Nat.{ℕ, ◌-◌, ◌≤◌, ◌<◌}
use native.Mathlib.Omega.{arith}
use native.Mathlib.Decide.{dec_lt}
use lib.ListN.{length, get_or}
use Rattle.theory.specs.Lists.{length_tab}
use Rattle.theory.specs.Word as W
use Rattle.theory.specs.Engine as E
use Rattle.machine.specs.Limits.{FEW}
use Rattle.machine.specs.Machine.{Running}
use Rattle.rules.specs.Box.{box, limits}
use Rattle.rules.specs.View.{no_reads}
use Rattle.rules.specs.Block.{job_of, block_of}
use Rattle.rules.specs.Fitting.{count_fit, block_fit}
use Rattle.rules.specs.Turn.{word_of, leaves, jobs, cells, moving, foreign, Did, Keeps, Turns, Whole}
use Rattle.rules.specs.declared.block.Block.{Block}
use Rattle.turns.specs.Change.{refusing}
use Rattle.words.specs.declared.word.Word.{Word}
use Rattle.words.specs.declared.word.Word.TheVariants.{BadTicket, Stuck}
use Rattle.rules.specs.declared.block.Turned.{Turned}
use Rattle.rules.proofs.Laws.Reading.{job_at_lem}

-- ---- the whole turn
pub whole_fit : (b : Block) → E.block_fits limits box (block_of b) ≡ true → Whole b
whole_fit b e = record {
  sized = record { count = count_fit b e; showing = record { showing = λ k l. (block_fit b e k l).showing }; lists = record { few = λ k l. (block_fit b e k l).reads } };
  short = λ k l. (block_fit b e k l).code;
  inside = λ k l. (block_fit b e k l).place;
  marked = λ k l n. at k n (block_fit b e k l).mark;
  held = λ k i l m. let f = block_fit b e k l in record { writes = f.back_writes i m; listed = omega (arith, f.back_listed i m, m) };
}
  where
    at : (k : ℕ) → ((get_or b.reads k no_reads).mark ≡ 255 → ⊥) → ((get_or b.reads k no_reads).mark ≡ 255) ⊎ ((get_or b.reads k no_reads).mark < (get_or b.reads k no_reads).size)
        → (get_or b.reads k no_reads).mark < (get_or b.reads k no_reads).size
    at k n (inl q) = absurd (n q)
    at k n (inr l) = l

job_count_lem : (b : Block) → length (block_of b).jobs ≡ b.count
unfolding block_of
job_count_lem b = length_tab b.count (job_of b)

moved_is : (b : Block) (i : ℕ) → i < b.count → E.move_at limits box (block_of b) i ≡ moving b i
unfolding E.move moving
moved_is b i l = ap (λ (j : E.Job Running). E.ruled FEW box (cells b) (jobs b) i j j.status j.mark) (job_at_lem b i l)

-- ---- what the plain block does not show
pub keeps_same : (b : Block) → Keeps b b
keeps_same b = record { programs = refl; final = λ k l. refl; other = λ k l. omega arith }

pub keeps_on : (b c r : Block) → Keeps b c → Keeps c r → Keeps b r
keeps_on b c r g h = record {
  programs = h.programs ∙ g.programs;
  final = λ k l. h.final k (rw (g.final k l) l) ∙ g.final k l;
  other = λ k l. on k (g.other k l) (dec_lt (get_or c.status k 0) 2);
}
  where
    on : (k : ℕ) → get_or c.status k 0 ≤ 2 → Dec (get_or c.status k 0 < 2) → get_or r.status k 0 ≤ 2
    on k l (yes m) = h.other k m
    on k l (no m) = rw (h.final k (omega arith)) l

-- ---- whether it is refused
pub not_refused : (fits : Bool) (n t : ℕ) → refusing n t fits ≡ None → (foreign n t ≡ false) × (fits ≡ true)
not_refused fits n t q = go (foreign n t) fits q
  where
    go : (f g : Bool) → cond f (Some BadTicket) (cond g None (Some Stuck)) ≡ None → (f ≡ false) × (g ≡ true)
    go false true z = (refl, refl)
    go false false z = absurd (none-some Stuck (sym z))
    go true g z = absurd (none-some BadTicket (sym z))

module _ (b : Block) (t : ℕ) where
  pub turn_refused : (fits : Bool) → fits ≡ E.block_fits limits box (block_of b) → (w : Word) → refusing b.count t fits ≡ Some w → Turns b t (record { word = w; block = b })
  unfolding E.turn word_of W.refusal
  turn_refused fits ef w q = go (foreign b.count t) refl fits refl q
    where
      told : (v : Word) → Some v ≡ Some w → Turns b t (record { word = v; block = b }) → Turns b t (record { word = w; block = b })
      told v z h = rw (← same_Some v w z) h

      go : (f : Bool) → foreign b.count t ≡ f → (g : Bool) → fits ≡ g → cond f (Some BadTicket) (cond g None (Some Stuck)) ≡ Some w → Turns b t (record { word = w; block = b })
      go true e g eg z =
          told BadTicket z (record { word = rw (job_count_lem b, e) refl; refusal = rw (job_count_lem b, e) refl; block = rw (job_count_lem b, e) refl; keeps = keeps_same b; left = λ x. refl })
      go false e false eg z =
          let misfit = sym ef ∙ eg in
          told Stuck z (record { word = rw (job_count_lem b, e, misfit) refl; refusal = rw (job_count_lem b, e, misfit) refl; block = rw (job_count_lem b, e, misfit) refl; keeps = keeps_same b; left = λ x. refl })
      go false e true eg z = absurd (none-some w z)

  took : (m : E.Moved Running) → E.turn limits box (block_of b) t ≡ E.move_to limits box (block_of b) (t - 1) m.word m.job → (r : Turned) → Did b (t - 1) m r → Keeps b r.block → Turns b t r
  took m e r d k = record {
    word = d.word ∙ sym told;
    refusal = ap W.refusal (d.word ∙ sym told);
    block = d.block ∙ ap (λ (x : E.Turned limits box). x.block) (sym e);
    keeps = k;
    left = λ q. d.left (sym (ap leaves told) ∙ q);
  }
    where
      told : (E.turn limits box (block_of b) t).word ≡ m.word
      told = ap (λ (x : E.Turned limits box). x.word) e

  pub turn_taken : (r : Turned) → foreign b.count t ≡ false → 0 < t → t ≤ b.count → E.block_fits limits box (block_of b) ≡ true → Did b (t - 1) (moving b (t - 1)) r → Keeps b r.block → Turns b t r
  unfolding E.turn
  turn_taken r x p l e d k = took (moving b (t - 1)) (rw (job_count_lem b, x, e, moved_is b (t - 1) (omega arith)) refl) r d k
