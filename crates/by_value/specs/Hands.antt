-- A paper opened and a list of tickets given their turns: the opening's refusal, then 15; else the bytes of the plain turns.
use Rattle.std.specs.Prelude.{◌≡◌, cond, List, ℕ, eqb}
use Rattle.turns.specs.Many.{bytes, if_long}
use Rattle.turns.specs.Open.{open_answer, open_block}
use Rattle.garvolish.specs.Numbers.{packed}

-- what stands where the opening is refused, and where it is not
unfoldable pub if_opened : {A : Type 0} → List ℕ → List ℕ → A → A → A
if_opened start paper opened refused = cond (eqb (packed (open_answer start paper)) 0) opened refused

pub record HandsOver (start paper tickets before : List ℕ) (n : ℕ) (after : List ℕ) : Type 0 where
  pub number : n ≡ if_opened start paper (if_long tickets before 0 15) (packed (open_answer start paper))
  pub words : after ≡ if_opened start paper (if_long tickets before (bytes (open_block start paper) tickets) before) before
