-- A property of every entry of a list. It is a product of one case for each entry, so it passes to parts of the list, to joined lists and to images.
-- `all` of the engine is the same for a test.
use Rattle.std.specs.Prelude.{◌≡◌, refl, Bool, true, List, [], ◌∷◌, ◌++◌, map, ℕ, zero, suc, ◌≤◌, ◌<◌, length, get_or, take, drop}
use Rattle.std.proofs.Math.Bool.{and-eq-true_iff}
use Rattle.std.proofs.Common.{arith, take-take}
use Rattle.theory.specs.Engine.{all}

module _ {A : Type 0} where
  abbrev pub Every : (A → Type 0) → List A → Type 0
  Every P [] = Unit {0}
  Every P (x ∷ xs) = P x × Every P xs

  module _ (P : A → Type 0) where
    pub every_append : (xs ys : List A) → Every P xs → Every P ys → Every P (xs ++ ys)
    every_append [] ys p q = q
    every_append (x ∷ xs) ys p q = (p.0, every_append xs ys p.1 q)

    pub every_left : (xs ys : List A) → Every P (xs ++ ys) → Every P xs
    every_left [] ys p = tt
    every_left (x ∷ xs) ys p = (p.0, every_left xs ys p.1)

    pub every_last : (xs : List A) (y : A) → Every P (xs ++ (y ∷ [])) → P y
    every_last [] y p = p.0
    every_last (x ∷ xs) y p = every_last xs y p.1

    pub every_take : (n : ℕ) (xs : List A) → Every P xs → Every P (take n xs)
    every_take zero xs p = tt
    every_take (suc n) [] p = tt
    every_take (suc n) (x ∷ xs) p = (p.0, every_take n xs p.1)

    pub every_take_le : (m n : ℕ) (xs : List A) → m ≤ n → Every P (take n xs) → Every P (take m xs)
    every_take_le m n xs h p = rw (take-take m n xs h) at (every_take m (take n xs) p)

    pub every_drop : (n : ℕ) (xs : List A) → Every P xs → Every P (drop n xs)
    every_drop zero xs p = p
    every_drop (suc n) [] p = tt
    every_drop (suc n) (x ∷ xs) p = every_drop n xs p.1

    pub every_at : (xs : List A) (n : ℕ) (d : A) → n < length xs → Every P xs → P (get_or xs n d)
    every_at [] n d h p = absurd (omega arith)
    every_at (x ∷ xs) zero d h p = p.0
    every_at (x ∷ xs) (suc n) d h p = every_at xs n d (omega arith) p.1

    module _ (Q : A → Type 0) where
      pub every_imp : ((x : A) → P x → Q x) → (xs : List A) → Every P xs → Every Q xs
      every_imp h [] p = tt
      every_imp h (x ∷ xs) p = (h x p.0, every_imp h xs p.1)

      pub every_both : (R : A → Type 0) → ((x : A) → P x → Q x → R x) → (xs : List A) → Every P xs → Every Q xs → Every R xs
      every_both R h [] p q = tt
      every_both R h (x ∷ xs) p q = (h x p.0 q.0, every_both R h xs p.1 q.1)

  module _ (f : A → Bool) where
    pub every_of_all : (xs : List A) → all f xs ≡ true → Every (λ x. f x ≡ true) xs
    every_of_all [] e = tt
    every_of_all (x ∷ xs) e = let p = (and-eq-true_iff (f x) (all f xs)).0 e in (p.0, every_of_all xs p.1)

    pub all_of_every : (xs : List A) → Every (λ x. f x ≡ true) xs → all f xs ≡ true
    all_of_every [] p = refl
    all_of_every (x ∷ xs) p = rw p.0 (all_of_every xs p.1)

pub every_map : {A B : Type 0} (P : A → Type 0) (Q : B → Type 0) (f : A → B) → ((x : A) → P x → Q (f x)) → (xs : List A) → Every P xs → Every Q (map f xs)
every_map P Q f h [] p = tt
every_map P Q f h (x ∷ xs) p = (h x p.0, every_map P Q f h xs p.1)
