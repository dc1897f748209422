-- What an array of structs tells of its list: its length, which stands under a map that the search does not see through.
use mathlib.Core.Path.{◌≡◌, sym, subst, ◌∙◌}
use mathlib.Core.List.{List, map}
use Prim.Native.Nat.{ℕ, ◌<◌}
use lib.ListN.{length, length-map}

pub length_mapped : (X Y : Type 0) (f : X → Y) (l : List X) (n : ℕ) → length (map f l) ≡ n → length l ≡ n
length_mapped X Y f l n p = sym (length-map l f) ∙ p

pub below_mapped : (X Y : Type 0) (f : X → Y) (l : List X) (i n : ℕ) → length (map f l) ≡ n → i < n → i < length l
below_mapped X Y f l i n p q = subst (λ (k : ℕ). i < k) (sym (length_mapped X Y f l n p)) q

pub ruleset array_laws = (length_mapped, below_mapped)
