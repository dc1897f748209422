-- A job's run from its start on the values in its list of reads. A checkpoint is such a run with fewer reads, so going back is a run again;
-- and a run on the values that a table has is the run of the job alone on that table, since both take the same instruction at each state.
use Rattle.std.specs.Prelude.{◌≡◌, Bool, true, false, cond, eqb, length, take, get_or, None, Some}
use Rattle.std.proofs.Math.Path.{refl}
use Rattle.std.proofs.Common.{sym, ◌∙◌, subst, arith, eqb-true, length-append}
use mathlib.Core.List.{List, [], ◌∷◌, ◌++◌, map, map-append}
use Prim.Native.Nat.{ℕ, zero, suc, ◌≤◌, ◌<◌}
use Rattle.std.proofs.Math.Decide.{dec_lt}
use Rattle.std.proofs.lemmas.List.{length-map, take-append-le, get_or_at}
use Rattle.std.proofs.Math.ListN.{get_or-append}
use Rattle.std.proofs.Math.Seq.{take-append_seam, take-length}
use Rattle.theory.specs.Promise.{Act, nothing, read, write, stop, abandon, stuck, Machine, Promise}
use Rattle.theory.specs.Engine.{Entry, Checkpoint, Read, last_value, listed_value}
use Rattle.theory.specs.Serial.{over, solo, alone}
use Rattle.theory.specs.Every.{Every, every_left, every_last}

abbrev pub entry : ℕ → ℕ → Entry
entry c v = record { cell = c; value = v }

abbrev pub checkpoints : {S : Type 0} → List (Read S) → List (Checkpoint S)
checkpoints rs = map (λ r. r.checkpoint) rs

module _ (M : Machine) where
  open M use {S, act, given, left}

  abbrev checkpoint_of : List (Read S) → List Entry → S → Checkpoint S
  checkpoint_of rs j s = record { state = s; writes = length j; listed = length rs }

  -- `Ran s₀ rs j s`: the run from s₀ that has listed the reads rs and written the journal j stands at s. A READ takes the own last entry,
  -- failing that the own listed read, failing that it lists one, with the run so far as its checkpoint
  pub data Ran (s₀ : S) : List (Read S) → List Entry → S → Type 0 where
    begin : Ran s₀ [] [] s₀
    by_nothing : {rs : List (Read S)} {j : List Entry} {s t : S} → Ran s₀ rs j s → act s ≡ nothing t → Ran s₀ rs j t
    by_write : {rs : List (Read S)} {j : List Entry} {s t : S} {c v : ℕ} → Ran s₀ rs j s → act s ≡ write c v t → Ran s₀ rs (j ++ (entry c v ∷ [])) t
    by_own : {rs : List (Read S)} {j : List Entry} {s : S} {c v : ℕ} → Ran s₀ rs j s → act s ≡ read c → last_value j c ≡ Some v → Ran s₀ rs j (given s v)
    by_listed : {rs : List (Read S)} {j : List Entry} {s : S} {c v : ℕ} →
        Ran s₀ rs j s → act s ≡ read c → last_value j c ≡ None → listed_value rs c ≡ Some v → Ran s₀ rs j (given s v)
    by_found : {rs : List (Read S)} {j : List Entry} {s : S} (r : Read S) →
        Ran s₀ rs j s → act s ≡ read r.cell → last_value j r.cell ≡ None → listed_value rs r.cell ≡ None → r.checkpoint ≡ checkpoint_of rs j s →
        Ran s₀ (rs ++ (r ∷ [])) j (given s r.value)

  -- ---- a checkpoint is the run with exactly the reads before it, at a READ
  pub record Earlier (s₀ : S) (rs : List (Read S)) (j : List Entry) (m : ℕ) (k : Checkpoint S) : Type 0 where
    pub ran : Ran s₀ (take k.listed rs) (take k.writes j) k.state
    pub listed : k.listed ≡ m
    pub writes : k.writes ≤ length j
    pub reading : (c : ℕ) × (act k.state ≡ read c)

  pub ran_earlier : {s₀ s : S} {rs : List (Read S)} {j : List Entry} → Ran s₀ rs j s → (m : ℕ) (d : Checkpoint S) → m < length rs →
      Earlier s₀ rs j m (get_or (checkpoints rs) m d)
  ran_earlier begin m d h = absurd (omega arith)
  ran_earlier (by_nothing p e) m d h = ran_earlier p m d h
  ran_earlier {s₀} (by_write {rs = rs} {j = j} {c = c} {v = v} p e) m d h = go (get_or (checkpoints rs) m d) (ran_earlier p m d h)
    where
      go : (k : Checkpoint S) → Earlier s₀ rs j m k → Earlier s₀ rs (j ++ (entry c v ∷ [])) m k
      go k x = record {
        ran = rw (take-append-le k.writes j (entry c v ∷ []) x.writes) x.ran;
        listed = x.listed;
        writes = simp length-append (omega (arith, x.writes));
        reading = x.reading;
      }
  ran_earlier (by_own p e q) m d h = ran_earlier p m d h
  ran_earlier (by_listed p e q w) m d h = ran_earlier p m d h
  ran_earlier {s₀} (by_found {rs = rs} {j = j} {s = s} r p e q w at) m d h = rw map-append (go (dec_lt m (length rs)) (λ l. ran_earlier p m d l))
    where
      old : (k : Checkpoint S) → m < length rs → Earlier s₀ rs j m k → Earlier s₀ (rs ++ (r ∷ [])) j m k
      old k l x = record {
        ran = rw (take-append-le k.listed rs (r ∷ []) (omega (arith, x.listed))) x.ran;
        listed = x.listed;
        writes = x.writes;
        reading = x.reading;
      }

      new : (m : ℕ) → m ≡ length rs → Earlier s₀ (rs ++ (r ∷ [])) j m (checkpoint_of rs j s)
      new m l = record { ran = rw (take-append_seam rs (r ∷ []), take-length j) p; listed = sym l; writes = omega arith; reading = (r.cell, e) }

      go : Dec (m < length rs) → (m < length rs → Earlier s₀ rs j m (get_or (checkpoints rs) m d)) → Earlier s₀ (rs ++ (r ∷ [])) j m (get_or (checkpoints rs ++ (r.checkpoint ∷ [])) m d)
      go (yes l) ih = rw (get_or-append (checkpoints rs) (r.checkpoint ∷ []) d m (simp length-map l)) (old (get_or (checkpoints rs) m d) l (ih l))
      go (no n) ih =
          let l : m ≡ length rs = omega (arith, simp length-append at h) in
          rw (get_or_at (checkpoints rs) r.checkpoint [] d m (simp length-map (sym l))) (subst (λ k. Earlier s₀ (rs ++ (r ∷ [])) j m k) (sym at) (new m l))

  -- ---- the run of a job alone
  listed_holds : (P : ℕ → ℕ → Type 0) (rs : List (Read S)) (c v : ℕ) → Every (λ r. P r.cell r.value) rs → listed_value rs c ≡ Some v → P c v
  listed_holds P [] c v a e = absurd (let z : ◌≡◌ {A = ℕ} 0 1 = cc in omega arith)
  listed_holds P (r ∷ rs) c v a e = go (eqb r.cell c) refl e (listed_holds P rs c v a.1)
    where
      go : (b : Bool) → eqb r.cell c ≡ b → cond b (Some r.value) (listed_value rs c) ≡ Some v → (listed_value rs c ≡ Some v → P c v) → P c v
      go true q e ih =
          let v≡ : r.value ≡ v = cc in
          let c≡ : r.cell ≡ c = eqb-true r.cell c q in
          rw (← v≡, ← c≡) a.0
      go false q e ih = ih e

  module _ (cells : ℕ) (P : Promise cells M) where
    -- instructions allowed past what is left do not matter
    solo_more : (n m : ℕ) (table : ℕ → ℕ) (j : List Entry) (s : S) → left s < n → left s < m → solo M n table j s ≡ solo M m table j s
    unfolding solo
    solo_more zero m table j s h h' = absurd (omega arith)
    solo_more (suc n) zero table j s h h' = absurd (omega arith)
    solo_more (suc n) (suc m) table j s h h' = go (act s) refl (solo_more n m table)
      where
        go : (a : Act S) → act s ≡ a → ((j : List Entry) (s : S) → left s < n → left s < m → solo M n table j s ≡ solo M m table j s) →
            solo M (suc n) table j s ≡ solo M (suc m) table j s
        go (nothing t) e ih = let l = P.after_nothing s t e in rw (e, solo) (ih j t (omega arith) (omega arith))
        go (read c) e ih = let l = P.after_read s c (over j table c) e in rw (e, solo) (ih j (given s (over j table c)) (omega arith) (omega arith))
        go (write c v t) e ih = let l = P.after_write s t c v e in rw (e, solo) (ih (j ++ (entry c v ∷ [])) t (omega arith) (omega arith))
        go stop e ih = rw (e, solo) refl
        go abandon e ih = rw (e, solo) refl
        go stuck e ih = rw (e, solo) refl

    module _ (table : ℕ → ℕ) where
      -- the rest of a run, and a law for each instruction
      rest : List Entry → S → ℕ → ℕ
      rest j s = solo M (suc (left s)) table j s

      rest_nothing : (j : List Entry) (s t : S) → act s ≡ nothing t → rest j s ≡ rest j t
      unfolding rest solo
      rest_nothing j s t e = let l = P.after_nothing s t e in rw (e, solo) (solo_more (left s) (suc (left t)) table j t l (omega arith))

      rest_write : (j : List Entry) (s t : S) (c v : ℕ) → act s ≡ write c v t → rest j s ≡ rest (j ++ (entry c v ∷ [])) t
      unfolding rest solo
      rest_write j s t c v e = let l = P.after_write s t c v e in rw (e, solo) (solo_more (left s) (suc (left t)) table (j ++ (entry c v ∷ [])) t l (omega arith))

      rest_read : (j : List Entry) (s : S) (c v : ℕ) → act s ≡ read c → over j table c ≡ v → rest j s ≡ rest j (given s v)
      unfolding rest solo
      rest_read j s c v e q =
          let l = P.after_read s c v e in
          rw (e, solo, q) (solo_more (left s) (suc (left (given s v))) table j (given s v) l (omega arith))

      rest_stop : (j : List Entry) (s : S) → act s ≡ stop → rest j s ≡ over j table
      unfolding rest solo
      rest_stop j s e = rw (e, solo) refl

      rest_abandon : (j : List Entry) (s : S) → act s ≡ abandon → rest j s ≡ table
      unfolding rest solo
      rest_abandon j s e = rw (e, solo) refl

      -- a listed read has the table's value
      abbrev pub Agrees : Read S → Type 0
      Agrees r = table r.cell ≡ r.value

      -- a run on values that the table has is the run over that table
      ran_rest : {s₀ s : S} {rs : List (Read S)} {j : List Entry} → Ran s₀ rs j s → Every Agrees rs → rest [] s₀ ≡ rest j s
      ran_rest begin a = refl
      ran_rest (by_nothing {j = j} {s = s} {t = t} p e) a = ran_rest p a ∙ rest_nothing j s t e
      ran_rest (by_write {j = j} {s = s} {t = t} {c = c} {v = v} p e) a = ran_rest p a ∙ rest_write j s t c v e
      ran_rest (by_own {j = j} {s = s} {c = c} {v = v} p e q) a = ran_rest p a ∙ rest_read j s c v e (rw q refl)
      ran_rest (by_listed {rs = rs} {j = j} {s = s} {c = c} {v = v} p e q w) a =
          ran_rest p a ∙ rest_read j s c v e (rw q (listed_holds (λ c v. table c ≡ v) rs c v a w))
      ran_rest (by_found {rs = rs} {j = j} {s = s} r p e q w at) a =
          ran_rest p (every_left Agrees rs (r ∷ []) a) ∙ rest_read j s r.cell r.value e (rw q (every_last Agrees rs r a))

      -- so the end of a run on a table's values is the end of the job alone
      pub alone_stop : {s₀ s : S} {rs : List (Read S)} {j : List Entry} → Ran s₀ rs j s → Every Agrees rs → act s ≡ stop → alone M table s₀ ≡ over j table
      unfolding alone rest
      alone_stop {s = s} {j = j} p a e = ran_rest p a ∙ rest_stop j s e

      pub alone_abandon : {s₀ s : S} {rs : List (Read S)} {j : List Entry} → Ran s₀ rs j s → Every Agrees rs → act s ≡ abandon → alone M table s₀ ≡ table
      unfolding alone rest
      alone_abandon {s = s} {j = j} p a e = ran_rest p a ∙ rest_abandon j s e
