-- A list of turns in one loop: each pass takes the next turn, or refuses it, and the list goes on in the block that it left.
use mathlib.Core.Path.{◌≡◌, refl, ap, sym, ◌∙◌}
use mathlib.Core.Bool.{Bool, true}
use Rattle.std.specs.Prelude.{Ok, Err}
use mathlib.Core.List.{List}
use Prim.Native.Nat.{ℕ, ◌+◌, ◌≤◌, ◌<◌}
use native.Mathlib.Numerals.{add-one}
use lib.ListN.{length, get_or, drop, set}
use lib.Seq.{drop-cons}
use borrow.Author.Tests.{ne_eqb, eq-eqb}
use Rattle.theory.specs.Engine as E
use Rattle.theory.proofs.ReadSizes.{both}
use Rattle.machine.specs.Machine.{Running}
use Rattle.rules.specs.Box.{box, limits}
use Rattle.rules.specs.Block.{block_of}
use Rattle.rules.specs.Turn.{word_of, leaves, Keeps}
use Rattle.rules.specs.Own.{Long}
use Rattle.turns.specs.Going.{Going, going_on, all_written, all_taken}
use Rattle.turns.specs.Many.{words, byte_of, taking_of, if_long, all_leave, TakesAll, Takes}
use Rattle.rules.specs.declared.block.Block.{Block}
use Rattle.turns.specs.Change.{TurnsIn}
use Rattle.rules.specs.declared.block.Turned.{Turned}
use Rattle.turns.specs.declared.many.WrongLength.{WrongLength}
use Rattle.turns.proofs.Laws.Turn.{keeps_same, keeps_on}

-- ---- the loop
-- if the rest of a list leaves the block, so do its first turn and the rest after it
leave_next : (c : E.Block Running) (ts : List ℕ) (k : ℕ) → k < length ts → all_leave c (drop k ts) ≡ true
    → (leaves (E.turn limits box c (get_or ts k 0)).word ≡ true) × (all_leave (E.turn limits box c (get_or ts k 0)).block (drop (k + 1) ts) ≡ true)
unfolding all_leave words
leave_next c ts k l e =
    rw (add-one k) (both (leaves (E.turn limits box c (get_or ts k 0)).word) _ (sym (ap (all_leave c) (drop-cons ts k 0 l)) ∙ e))

-- the list is under way in the loop's own block, and a block that fits still does; if no word of the list changes the block, none has so far
pub record Looping (b : Block) (ts : List ℕ) (fits : Bool) (c : Block) (k : ℕ) (written : List ℕ) : Type 0 where
  pub going : Going (block_of b) ts (block_of c) k written
  pub long : Long c
  pub fitting : fits ≡ E.block_fits limits box (block_of c)
  pub keeps : Keeps b c
  pub left : all_leave (block_of b) ts ≡ true → (c ≡ b) × (all_leave (block_of c) (drop k ts) ≡ true)

module _ (b : Block) (ts : List ℕ) (fits : Bool) where
  module _ (c : Block) (k : ℕ) (written : List ℕ) (g : Looping b ts fits c k written) where
    module _ (l : k < length ts) where
      pub loop_on : (r : Turned) (x : ℕ) → TurnsIn c fits (get_or ts k 0) r → x ≡ byte_of (word_of r.word) → Looping b ts fits r.block (k + 1) (set written k x)
      loop_on r x t e = record {
        going = rw t.turns.block (going_on (block_of b) ts (block_of c) k written g.going x l (e ∙ ap byte_of t.turns.word));
        long = t.long;
        fitting = t.fitting;
        keeps = keeps_on b c r.block g.keeps t.turns.keeps;
        left = λ z. let h = g.left z in let w = leave_next (block_of c) ts k l h.1 in (t.turns.left w.0 ∙ h.0, rw t.turns.block w.1);
      }

    pub loop_end : length ts ≤ k → TakesAll b ts c written
    loop_end l = record {
      block = all_taken (block_of b) ts (block_of c) k written g.going l;
      words = all_written (block_of b) ts (block_of c) k written g.going l;
      keeps = g.keeps;
      left = λ z. (g.left z).0;
    }

-- ---- the whole
pub taken_all : (b r : Block) (ts before after : List ℕ) → length before ≡ length ts → TakesAll b ts r after → Takes b ts before (record { answer = Ok tt; block = r }) after
unfolding taking_of if_long
taken_all b r ts before after q h = record {
  answer = rw (eq-eqb _ _ q) refl;
  block = rw (eq-eqb _ _ q) h.block;
  words = rw (eq-eqb _ _ q) h.words;
  keeps = h.keeps;
  left = λ z. h.left (rw (eq-eqb _ _ q) at z);
}

pub wrong_length : (e : WrongLength) (b : Block) (ts before : List ℕ) → (length before ≡ length ts → ⊥) → Takes b ts before (record { answer = Err e; block = b }) before
unfolding taking_of if_long
wrong_length e b ts before differ = record {
  answer = rw (ne_eqb _ _ differ) refl;
  block = rw (ne_eqb _ _ differ) refl;
  words = rw (ne_eqb _ _ differ) refl;
  keeps = keeps_same b;
  left = λ q. refl;
}
