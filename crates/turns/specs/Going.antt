-- A list of turns under way: what is left of it, from the block so far, gives the whole list's block and bytes; and the bytes so far are the first of the whole.
use Rattle.std.specs.Prelude.{◌≡◌, refl, ℕ, ◌+◌, ◌≤◌, ◌<◌, length, get_or, drop, set}
use Rattle.std.proofs.Common.{ap, ◌∙◌, arith, add-one, drop_of_length-le, take_all}
use Rattle.std.proofs.Math.Path.{sym}
use mathlib.Core.List.{List, [], ◌++◌, append-nil, append_assoc}
use Rattle.std.proofs.Math.ListN.{take, length-set}
use Rattle.std.proofs.Math.Seq.{take-suc-set, drop-cons}
use Rattle.theory.specs.Engine as E
use Rattle.machine.specs.Machine.{Running}
use Rattle.rules.specs.Box.{box, limits}
use Rattle.turns.specs.Many.{words, byte_of, bytes}

-- the tickets from the k-th on, from the block c, give the whole list's block and bytes, those before k being written
pub record Going (b : E.Block Running) (ts : List ℕ) (c : E.Block Running) (k : ℕ) (written : List ℕ) : Type 0 where
  pub upto : k ≤ length ts
  pub room : length written ≡ length ts
  pub block : E.turns limits box c (drop k ts) ≡ E.turns limits box b ts
  pub words : take k written ++ bytes c (drop k ts) ≡ bytes b ts

pub going_start : (b : E.Block Running) (ts written : List ℕ) → length written ≡ length ts → Going b ts b 0 written
going_start b ts written q = record { upto = omega arith; room = q; block = refl; words = refl }

module _ (b : E.Block Running) (ts : List ℕ) (c : E.Block Running) (k : ℕ) (written : List ℕ) (g : Going b ts c k written) where
  pub going_on : (x : ℕ) → k < length ts → x ≡ byte_of (E.turn limits box c (get_or ts k 0)).word → Going b ts (E.turn limits box c (get_or ts k 0)).block (k + 1) (set written k x)
  unfolding E.turns bytes words
  going_on x l e =
      let d = drop-cons ts k 0 l in
      record {
        upto = omega arith;
        room = length-set written k x ∙ g.room;
        block = rw (add-one k) (ap (E.turns limits box c) (sym d) ∙ g.block);
        words =
            rw (add-one k, take-suc-set written k x (omega (arith, g.room)), append_assoc, e)
            (ap (λ (l : List ℕ). take k written ++ bytes c l) (sym d) ∙ g.words);
      }

  module _ (l : length ts ≤ k) where
    nothing_left : drop k ts ≡ []
    nothing_left = drop_of_length-le ts l

    pub all_written : written ≡ bytes b ts
    unfolding bytes words
    all_written = sym (take_all k written (omega (arith, g.room))) ∙ sym (append-nil (take k written)) ∙ rw nothing_left at g.words

    pub all_taken : c ≡ E.turns limits box b ts
    unfolding E.turns
    all_taken = rw nothing_left at g.block
