-- The rules in document 01's order: each test of the code is a test of the plain rules.
use mathlib.Core.Path.{◌≡◌, refl, ap, sym, ◌∙◌}
use mathlib.Core.Bool.{Bool, true, false, cond, ◌&&◌}
use Rattle.std.specs.Prelude.{Option, None, Some}
use Prim.Native.Nat.{ℕ, zero, suc, ◌+◌, ◌-◌, ◌*◌, ◌≤◌, ◌<◌}
use native.Mathlib.Omega.{arith}
use lib.Dec.{leb}
use lib.ListN.{get_or}
use borrow.Author.Tests.{eq-eqb, ne_eqb, le-leb}
use Rattle.theory.specs.Lists.{get_d_tab, map_tab}
use Rattle.theory.specs.Word as W
use Rattle.theory.specs.Engine as E
use Rattle.theory.specs.Engine.{settle, go_back, all_final}
use Rattle.machine.specs.Limits.{FEW}
use Rattle.machine.specs.Machine.{Running}
use Rattle.rules.specs.Box.{box}
use Rattle.rules.specs.View.{mark_of, no_reads}
use Rattle.rules.specs.Block.{code_at, no_checkpoint, checkpoint_of, reads_of, status_of, job_of}
use Rattle.rules.specs.Becomes.{Becomes}
use Rattle.rules.specs.Moves.{Held}
use Rattle.rules.specs.Turn.{word_of, leaves, final_below, jobs, cells, returning, stepping, moving, Did, Marked, Whole}
use Rattle.rules.specs.declared.block.Block.{Block}
use Rattle.words.specs.declared.word.Word.TheVariants.{Idle, Back, Final, Wait}
use Rattle.rules.specs.declared.block.Turned.{Turned}
use Rattle.rules.proofs.Laws.Words.{back_did, final_did, idle_did, wait_did}
use Rattle.rules.proofs.Laws.Reading.{job_at_lem}

-- ---- the rules, in order
is_final_lem : (n : ℕ) → E.is_final (status_of n) ≡ leb 2 n
is_final_lem zero = refl
is_final_lem (suc zero) = refl
is_final_lem (suc (suc n)) = sym (le-leb 2 (suc (suc n)) (omega arith))

pub status_final : (b : Block) (k : ℕ) → E.is_final (job_of b k).status ≡ leb 2 (get_or b.status k 0)
unfolding job_of
status_final b k = is_final_lem (get_or b.status k 0)

final_is : (b : Block) (k : ℕ) → k ≤ b.count → all_final (jobs b) k ≡ final_below b.status k
unfolding final_below
final_is b zero l = refl
final_is b (suc k) l = rw (final_is b k (omega arith)) (ap (λ (t : Bool). t && final_below b.status k) (at k (omega arith)))
  where
    at : (k : ℕ) → k < b.count → E.is_final (jobs b k).status ≡ leb 2 (get_or b.status k 0)
    at k m = ap (λ (j : E.Job Running). E.is_final j.status) (job_at_lem b k m) ∙ status_final b k

module _ (b : Block) (i : ℕ) where
  abbrev status : ℕ
  status = get_or b.status i 0

  abbrev mark : ℕ
  mark = (get_or b.reads i no_reads).mark

  rules : (s : E.Status) (m : Option ℕ) → status_of status ≡ s → mark_of mark ≡ m → moving b i ≡ E.ruled FEW box (cells b) (jobs b) i (job_of b i) s m
  unfolding moving job_of
  rules s m es em = rw (es, em) refl

  marked_some : (mark ≡ 255 → ⊥) → mark_of mark ≡ Some mark
  unfolding mark_of
  marked_some n = rw (ne_eqb mark 255 n) refl

  marked_none : mark ≡ 255 → mark_of mark ≡ None
  unfolding mark_of
  marked_none e = rw (eq-eqb mark 255 e) refl

  checkpoint_is : (m : ℕ) → m < (get_or b.reads i no_reads).size → E.checkpoint_at (job_of b i) m ≡ checkpoint_of (code_at b i) (get_or b.checkpoints (8 * i + m) no_checkpoint)
  unfolding job_of reads_of
  checkpoint_is m l = rw (map_tab (λ (r : E.Read Running). r.checkpoint) (get_or b.reads i no_reads).size _) (get_d_tab (get_or b.reads i no_reads).size _ m _ l)

  pub move_idle : 2 ≤ status → Did b i (moving b i) (record { word = Idle; block = b })
  move_idle l = rw (rules E.final (mark_of mark) (go status l) refl) (idle_did b i (job_of b i))
    where
      go : (n : ℕ) → 2 ≤ n → status_of n ≡ E.final
      go zero l = absurd (omega arith)
      go (suc zero) l = absurd (omega arith)
      go (suc (suc n)) l = refl

  -- a final job's turn leaves the block
  pub idle_leaves : 2 ≤ status → leaves (moving b i).word ≡ true
  unfolding word_of leaves
  idle_leaves l = ap leaves (sym (move_idle l).word)

  pub return_is : (r : Block) → i < b.count → Marked b i → Becomes b r i (go_back (job_of b i) (checkpoint_of (code_at b i) (get_or b.checkpoints (8 * i + mark) no_checkpoint)))
      → Did b i (returning b i) (record { word = Back; block = r })
  unfolding returning
  return_is r inside m k = back_did b i inside r (go_back (job_of b i) (E.checkpoint_at (job_of b i) mark)) (rw (checkpoint_is mark m.at) k)

  pub move_back : (r : Turned) → status < 2 → (mark ≡ 255 → ⊥) → Did b i (returning b i) r → Did b i (moving b i) r
  unfolding returning
  move_back r l n d = go status refl l
    where
      go : (s : ℕ) → status ≡ s → s < 2 → Did b i (moving b i) r
      go zero e m = rw (rules E.running (Some mark) (ap status_of e) (marked_some n)) d
      go (suc zero) e m = rw (rules E.ended (Some mark) (ap status_of e) (marked_some n)) d
      go (suc (suc s)) e m = absurd (omega arith)

  pub move_step : (r : Turned) → mark ≡ 255 → status ≡ 0 → Did b i (stepping b i) r → Did b i (moving b i) r
  unfolding stepping
  move_step r em es d = rw (rules E.running None (ap status_of es) (marked_none em)) d

  ended_rules : status < 2 → (status ≡ 0 → ⊥) → mark ≡ 255 → i ≤ b.count → (t : Bool) → t ≡ final_below b.status i
      → moving b i ≡ cond t (E.moved W.final (settle (job_of b i))) (E.moved W.wait (job_of b i))
  ended_rules l n em inside t e = rules E.ended None (ap status_of one) (marked_none em) ∙ rw (final_is b i inside, ← e) refl
    where
      one : status ≡ 1
      one = omega arith

  pub move_final : (r : Block) → i < b.count → status < 2 → (status ≡ 0 → ⊥) → mark ≡ 255 → (t : Bool) → t ≡ final_below b.status i → t ≡ true → Becomes b r i (settle (job_of b i))
      → Did b i (moving b i) (record { word = Final; block = r })
  move_final r inside l n em t e q k = rw (ended_rules l n em (omega arith) t e, q) (final_did b i inside r (settle (job_of b i)) k)

  pub move_wait : i < b.count → status < 2 → (status ≡ 0 → ⊥) → mark ≡ 255 → (t : Bool) → t ≡ final_below b.status i → t ≡ false → Did b i (moving b i) (record { word = Wait; block = b })
  move_wait inside l n em t e q = rw (ended_rules l n em (omega arith) t e, q) (wait_did b i (job_of b i))

pub back_held : (b : Block) (t : ℕ) → Whole b → 0 < t → t ≤ b.count → Marked b (t - 1)
    → Held b (t - 1) (get_or b.checkpoints (8 * (t - 1) + (get_or b.reads (t - 1) no_reads).mark) no_checkpoint)
back_held b t w p l m = w.held (t - 1) (get_or b.reads (t - 1) no_reads).mark (omega arith) m.at

pub move_marked : (b : Block) (t : ℕ) → Whole b → 0 < t → t ≤ b.count → ((get_or b.reads (t - 1) no_reads).mark ≡ 255 → ⊥) → Marked b (t - 1)
move_marked b t w p l n = let m = w.marked (t - 1) (omega arith) n in record { at = m; low = omega (arith, m, w.sized.lists.few (t - 1) (omega arith)) }
