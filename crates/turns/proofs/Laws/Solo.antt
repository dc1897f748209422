-- What is left of a job alone, over any machine that keeps its promise: more instructions allowed than are ahead change nothing,
-- so the rest of a run is known by its state.
use mathlib.Core.Path.{◌≡◌, refl, sym, ◌∙◌}
use mathlib.Core.List.{List, [], ◌∷◌, ◌++◌}
use Prim.Native.Nat.{ℕ, zero, suc, ◌<◌}
use native.Mathlib.Omega.{arith}
use Rattle.theory.specs.Promise.{Act, nothing, read, write, stop, abandon, stuck, Machine, Promise}
use Rattle.theory.specs.Engine as E
use Rattle.theory.specs.Serial.{over, solo}

module _ (M : Machine) (T : ℕ → ℕ) where
  open M use {S, act, given, left}

  pub solo_nothing : (n : ℕ) (j : List E.Entry) (s t : S) → act s ≡ nothing t → solo M (suc n) T j s ≡ solo M n T j t
  unfolding solo
  solo_nothing n j s t e = rw (e, solo) refl

  pub solo_read : (n : ℕ) (j : List E.Entry) (s : S) (c : ℕ) → act s ≡ read c → solo M (suc n) T j s ≡ solo M n T j (given s (over j T c))
  unfolding solo
  solo_read n j s c e = rw (e, solo) refl

  pub solo_write : (n : ℕ) (j : List E.Entry) (s t : S) (c v : ℕ) → act s ≡ write c v t → solo M (suc n) T j s ≡ solo M n T (j ++ (record { cell = c; value = v } ∷ [])) t
  unfolding solo
  solo_write n j s t c v e = rw (e, solo) refl

  pub solo_stop : (n : ℕ) (j : List E.Entry) (s : S) → act s ≡ stop → solo M (suc n) T j s ≡ over j T
  unfolding solo
  solo_stop n j s e = rw (e, solo) refl

  pub solo_abandon : (n : ℕ) (j : List E.Entry) (s : S) → act s ≡ abandon → solo M (suc n) T j s ≡ T
  unfolding solo
  solo_abandon n j s e = rw (e, solo) refl

  pub solo_stuck : (n : ℕ) (j : List E.Entry) (s : S) → act s ≡ stuck → solo M (suc n) T j s ≡ T
  unfolding solo
  solo_stuck n j s e = rw (e, solo) refl

  module _ (cells : ℕ) (P : Promise cells M) where
    -- more instructions allowed than are ahead change nothing
    pub solo_same : (m n : ℕ) (j : List E.Entry) (s : S) → left s < m → left s < n → solo M m T j s ≡ solo M n T j s
    solo_same zero n j s l k = absurd (omega arith)
    solo_same (suc m) zero j s l k = absurd (omega arith)
    solo_same (suc m) (suc n) j s l k = go (act s) refl (λ i t d. solo_same m n i t (omega arith) (omega arith))
      where
        go : (a : Act S) → act s ≡ a → ((i : List E.Entry) (t : S) → left t < left s → solo M m T i t ≡ solo M n T i t) → solo M (suc m) T j s ≡ solo M (suc n) T j s
        go (nothing t) e ih = solo_nothing m j s t e ∙ ih j t (P.after_nothing s t e) ∙ sym (solo_nothing n j s t e)
        go (read c) e ih = solo_read m j s c e ∙ ih j _ (P.after_read s c _ e) ∙ sym (solo_read n j s c e)
        go (write c v t) e ih = solo_write m j s t c v e ∙ ih _ t (P.after_write s t c v e) ∙ sym (solo_write n j s t c v e)
        go stop e ih = solo_stop m j s e ∙ sym (solo_stop n j s e)
        go abandon e ih = solo_abandon m j s e ∙ sym (solo_abandon n j s e)
        go stuck e ih = solo_stuck m j s e ∙ sym (solo_stuck n j s e)

    module _ (j : List E.Entry) (s : S) (R : ℕ → ℕ) (rest : solo M (suc (left s)) T j s ≡ R) where
      pub rest_nothing : (t : S) → act s ≡ nothing t → solo M (suc (left t)) T j t ≡ R
      rest_nothing t e = solo_same (suc (left t)) (left s) j t (omega arith) (P.after_nothing s t e) ∙ sym (solo_nothing (left s) j s t e) ∙ rest

      pub rest_read : (t : S) (c : ℕ) → act s ≡ read c → t ≡ given s (over j T c) → solo M (suc (left t)) T j t ≡ R
      rest_read t c e q =
          rw q (solo_same (suc (left (given s (over j T c)))) (left s) j (given s (over j T c)) (omega arith) (P.after_read s c (over j T c) e) ∙ sym (solo_read (left s) j s c e) ∙ rest)

      pub rest_write : (i : List E.Entry) (t : S) (c v : ℕ) → act s ≡ write c v t → i ≡ j ++ (record { cell = c; value = v } ∷ []) → solo M (suc (left t)) T i t ≡ R
      rest_write i t c v e q =
          rw q (solo_same (suc (left t)) (left s) _ t (omega arith) (P.after_write s t c v e) ∙ sym (solo_write (left s) j s t c v e) ∙ rest)
