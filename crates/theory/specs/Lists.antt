-- The first entries of an array as a list: what a count and an array stand for. A count past the array's end shows in the list's length.
use Rattle.std.specs.Prelude.{◌≡◌, refl, List, [], ◌∷◌, ◌++◌, map, ℕ, zero, suc, ◌≤◌, ◌<◌, length, get_or, take, drop}
use Rattle.std.proofs.Common.{ap, sym, ◌∙◌, arith, length-append, drop-cons}
use Rattle.std.proofs.lemmas.List.{map-append, take-append-le}
use Rattle.std.proofs.Math.Decide.{ℕ_discrete}
use Rattle.std.proofs.Math.ListN.{get_or-append}
use Rattle.std.proofs.Math.Seq.{get_or-append_seam, take-length}

module _ {A : Type 0} where
  abbrev pub firsts : ℕ → A → List A → List A
  firsts zero d xs = []
  firsts (suc n) d [] = d ∷ firsts n d []
  firsts (suc n) d (x ∷ xs) = x ∷ firsts n d xs

  pub length_firsts : (n : ℕ) (d : A) (xs : List A) → length (firsts n d xs) ≡ n
  length_firsts zero d xs = refl
  length_firsts (suc n) d [] = ap suc (length_firsts n d [])
  length_firsts (suc n) d (x ∷ xs) = ap suc (length_firsts n d xs)

  pub firsts_take : (n : ℕ) (d : A) (xs : List A) → n ≤ length xs → firsts n d xs ≡ take n xs
  firsts_take zero d xs h = refl
  firsts_take (suc n) d [] h = absurd (omega arith)
  firsts_take (suc n) d (x ∷ xs) h = ap (λ (l : List A). x ∷ l) (firsts_take n d xs (omega arith))

  pub get_d_firsts : (n : ℕ) (d : A) (xs : List A) (k : ℕ) → k < n → get_or (firsts n d xs) k d ≡ get_or xs k d
  get_d_firsts zero d xs k h = absurd (omega arith)
  get_d_firsts (suc n) d [] zero h = refl
  get_d_firsts (suc n) d [] (suc k) h = get_d_firsts n d [] k (omega arith)
  get_d_firsts (suc n) d (x ∷ xs) zero h = refl
  get_d_firsts (suc n) d (x ∷ xs) (suc k) h = get_d_firsts n d xs k (omega arith)

  -- what stands past the end does not matter before it
  pub get_d_any : (xs : List A) (k : ℕ) (d e : A) → k < length xs → get_or xs k d ≡ get_or xs k e
  get_d_any [] k d e h = absurd (omega arith)
  get_d_any (x ∷ xs) zero d e h = refl
  get_d_any (x ∷ xs) (suc k) d e h = get_d_any xs k d e (omega arith)

  -- a list by its entries: those at the places below n
  abbrev pub tab : ℕ → (ℕ → A) → List A
  tab zero f = []
  tab (suc n) f = tab n f ++ (f n ∷ [])

  pub length_tab : (n : ℕ) (f : ℕ → A) → length (tab n f) ≡ n
  length_tab zero f = refl
  length_tab (suc n) f = length-append (tab n f) (f n ∷ []) ∙ rw (length_tab n f) (omega arith)

  pub get_d_tab : (n : ℕ) (f : ℕ → A) (k : ℕ) (d : A) → k < n → get_or (tab n f) k d ≡ f k
  get_d_tab zero f k d l = absurd (omega arith)
  get_d_tab (suc n) f k d l = go (ℕ_discrete k n) (get_d_tab n f k d)
    where
      go : Dec (k ≡ n) → (k < n → get_or (tab n f) k d ≡ f k) → get_or (tab n f ++ (f n ∷ [])) k d ≡ f k
      go (yes e) ih = rw e (ap (λ (m : ℕ). get_or (tab n f ++ (f n ∷ [])) m d) (sym (length_tab n f)) ∙ get_or-append_seam (tab n f) (f n) [] d)
      go (no e) ih = get_or-append (tab n f) (f n ∷ []) d k (rw (length_tab n f) (omega arith)) ∙ ih (omega arith)

  pub tab_same : (n : ℕ) (f g : ℕ → A) → ((k : ℕ) → k < n → f k ≡ g k) → tab n f ≡ tab n g
  tab_same zero f g h = refl
  tab_same (suc n) f g h = rw (tab_same n f g (λ k l. h k (omega arith)), h n (omega arith)) refl

  pub take_tab : (m n : ℕ) (f : ℕ → A) → m ≤ n → take m (tab n f) ≡ tab m f
  take_tab m zero f l = go m l
    where
      go : (m : ℕ) → m ≤ 0 → take m [] ≡ tab m f
      go zero l = refl
      go (suc m) l = absurd (omega arith)
  take_tab m (suc n) f l = go (ℕ_discrete m (suc n)) (take_tab m n f)
    where
      go : Dec (m ≡ suc n) → (m ≤ n → take m (tab n f) ≡ tab m f) → take m (tab n f ++ (f n ∷ [])) ≡ tab m f
      go (yes e) ih = rw e (ap (λ (k : ℕ). take k (tab (suc n) f)) (sym (length_tab (suc n) f)) ∙ take-length (tab (suc n) f))
      go (no e) ih = take-append-le m (tab n f) (f n ∷ []) (rw (length_tab n f) (omega arith)) ∙ ih (omega arith)

  -- what is left from place k on
  pub drop_tab : (n : ℕ) (f : ℕ → A) (k : ℕ) → k < n → drop k (tab n f) ≡ f k ∷ drop (suc k) (tab n f)
  drop_tab n f k l =
      drop-cons (tab n f) k (f k) (rw (length_tab n f) l) ∙ ap (λ (a : A). a ∷ drop (suc k) (tab n f)) (get_d_tab n f k (f k) l)

pub map_tab : {A B : Type 0} (h : A → B) (n : ℕ) (f : ℕ → A) → map h (tab n f) ≡ tab n (λ k. h (f k))
map_tab h zero f = refl
map_tab h (suc n) f = map-append h (tab n f) (f n ∷ []) ∙ rw (map_tab h n f) refl
