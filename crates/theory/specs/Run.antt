-- What the promise says of a whole run. Each instruction spends what is left, so a run cannot be longer than what was left at its start.
use Rattle.std.specs.Prelude.{◌≡◌, ◌≢◌, ℕ, suc, ◌+◌, ◌≤◌, ◌<◌}
use Rattle.std.proofs.Common.{arith}
use Rattle.theory.specs.Promise.{nothing, read, write, stuck, Machine, Promise, Checked, Passed}

module _ (M : Machine) where
  open M use {S, act, given, left}

  -- `Run s₀ n r w s`: from s₀ to s in n instructions, r of them READ, each given some value, and w of them WRITE
  pub data Run (s₀ : S) : ℕ → ℕ → ℕ → S → Type 0 where
    begin : Run s₀ 0 0 0 s₀
    by_nothing : {n r w : ℕ} {s t : S} → Run s₀ n r w s → act s ≡ nothing t → Run s₀ (suc n) r w t
    by_read : {n r w : ℕ} {s : S} {c : ℕ} (v : ℕ) → Run s₀ n r w s → act s ≡ read c → Run s₀ (suc n) (suc r) w (given s v)
    by_write : {n r w : ℕ} {s t : S} {c v : ℕ} → Run s₀ n r w s → act s ≡ write c v t → Run s₀ (suc n) r (suc w) t

  module _ (cells : ℕ) (P : Promise cells M) (K : Checked M) where
    -- what is kept along a run
    pub record Kept (s₀ : S) (n r w : ℕ) (s : S) : Type 0 where
      pub ok : K.Ok s
      pub instructions : n + left s ≤ left s₀
      pub reads : r + K.reads_left s ≤ K.reads_left s₀
      pub writes : w + K.writes_left s ≤ K.writes_left s₀

    pub run_keeps : {s₀ s : S} {n r w : ℕ} → K.Ok s₀ → Run s₀ n r w s → Kept s₀ n r w s
    run_keeps k begin = record { ok = k; instructions = omega arith; reads = omega arith; writes = omega arith }
    run_keeps k (by_nothing {s = s} {t = t} p e) =
        let h = run_keeps k p in
        let o = K.ok_nothing s t h.ok e in
        record {
          ok = o.0;
          instructions = omega (arith, h.instructions, P.after_nothing s t e);
          reads = omega (arith, h.reads, o.1);
          writes = omega (arith, h.writes, o.2);
        }
    run_keeps k (by_read {s = s} {c = c} v p e) =
        let h = run_keeps k p in
        let o = K.ok_read s c v h.ok e in
        record {
          ok = o.0;
          instructions = omega (arith, h.instructions, P.after_read s c v e);
          reads = omega (arith, h.reads, o.1);
          writes = omega (arith, h.writes, o.2);
        }
    run_keeps k (by_write {s = s} {t = t} {c = c} {v = v} p e) =
        let h = run_keeps k p in
        let o = K.ok_write s t c v h.ok e in
        record {
          ok = o.0;
          instructions = omega (arith, h.instructions, P.after_write s t c v e);
          reads = omega (arith, h.reads, o.1);
          writes = omega (arith, h.writes, o.2);
        }

    -- a run of a job that passed is never stuck, does fewer instructions than the job has before it ends, and at most `few` READ and WRITE
    pub record RunsWell (few : ℕ) (s₀ : S) (n r w : ℕ) (s : S) : Type 0 where
      pub not_stuck : act s ≢ stuck
      pub ends_within : n < left s₀
      pub few_reads : r ≤ few
      pub few_writes : w ≤ few

    pub runs_well : (few : ℕ) (s₀ : S) → Passed M K few s₀ → {s : S} {n r w : ℕ} → Run s₀ n r w s → RunsWell few s₀ n r w s
    runs_well few s₀ p {s} run =
        let h = run_keeps p.ok run in
        record {
          not_stuck = K.not_stuck s h.ok;
          ends_within = omega (arith, h.instructions, K.some_left s h.ok);
          few_reads = omega (arith, h.reads, p.few_reads);
          few_writes = omega (arith, h.writes, p.few_writes);
        }
