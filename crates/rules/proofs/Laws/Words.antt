-- A move with its word: the code's answer is the plain move of the job, and the words that leave a block leave it to the last byte.
use mathlib.Core.Path.{◌≡◌, refl}
use mathlib.Core.Bool.{true, false}
use Prim.Native.Nat.{ℕ, ◌-◌, ◌≤◌, ◌<◌}
use native.Mathlib.Omega.{arith}
use Rattle.theory.specs.Word as W
use Rattle.theory.specs.Engine as E
use Rattle.machine.specs.Machine.{Running}
use Rattle.rules.specs.Becomes.{Becomes, becomes_changed}
use Rattle.rules.specs.Turn.{word_of, leaves, Did}
use Rattle.rules.specs.declared.block.Block.{Block}
use Rattle.words.specs.declared.word.Word.TheVariants.{Idle, Back, Step, End, Final, Wait, Stuck}

pub not_both : {A : Type 0} → false ≡ true → A
not_both q = absurd (let z : ◌≡◌ {A = ℕ} 0 1 = cc in omega arith)

-- ---- a move with its word
-- the index of a ticket of the block
pub inside_of : (n t : ℕ) → 0 < t → t ≤ n → t - 1 < n
inside_of n t p l = omega arith

module _ (b : Block) (i : ℕ) (inside : i < b.count) (r : Block) (j : E.Job Running) (h : Becomes b r i j) where
  pub step_did : Did b i (E.moved W.step j) (record { word = Step; block = r })
  unfolding word_of leaves
  step_did = record { word = refl; block = becomes_changed b r i j inside h; left = not_both }

  pub end_did : Did b i (E.moved W.end j) (record { word = End; block = r })
  unfolding word_of leaves
  end_did = record { word = refl; block = becomes_changed b r i j inside h; left = not_both }

  pub final_did : Did b i (E.moved W.final j) (record { word = Final; block = r })
  unfolding word_of leaves
  final_did = record { word = refl; block = becomes_changed b r i j inside h; left = not_both }

  pub back_did : Did b i (E.moved W.back j) (record { word = Back; block = r })
  unfolding word_of leaves
  back_did = record { word = refl; block = becomes_changed b r i j inside h; left = not_both }

module _ (b : Block) (i : ℕ) (j : E.Job Running) where
  pub stuck_did : Did b i (E.moved W.stuck j) (record { word = Stuck; block = b })
  unfolding word_of
  stuck_did = record { word = refl; block = refl; left = λ q. refl }

  pub idle_did : Did b i (E.moved W.idle j) (record { word = Idle; block = b })
  unfolding word_of
  idle_did = record { word = refl; block = refl; left = λ q. refl }

  pub wait_did : Did b i (E.moved W.wait j) (record { word = Wait; block = b })
  unfolding word_of
  wait_did = record { word = refl; block = refl; left = λ q. refl }
