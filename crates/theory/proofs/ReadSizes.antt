-- A job's list of reads that fits its sizes. Each checkpoint holds no more entries than the next and than the journal, and no more reads than stand before it:
-- so the reads before a checkpoint fit the journal as it was there.
use Rattle.std.specs.Prelude.{◌≡◌, refl, Bool, true, ◌&&◌, List, [], ◌∷◌, ◌++◌, ℕ, zero, suc, ◌+◌, ◌≤◌, ◌<◌, leb, ltb, length, take, get_or}
use Rattle.std.proofs.Common.{sym, arith, leb-true, le-leb}
use Rattle.std.proofs.Math.Bool.{and-eq-true_iff}
use Rattle.theory.specs.Promise.{Machine}
use Rattle.theory.specs.Engine.{Read, Checkpoint, Limits, writes_after, reads_fit}
use Rattle.theory.proofs.Runs.{checkpoints}

pub both : (x y : Bool) → x && y ≡ true → (x ≡ true) × (y ≡ true)
both x y e = (and-eq-true_iff x y).0 e

module _ (L : Limits) (M : Machine) where
  open M use {S, fits}

  -- the first read, of those from the k-th on
  record ReadFits (n k : ℕ) (r : Read S) (rs : List (Read S)) : Type 0 where
    cell : ltb r.cell L.cells ≡ true
    state : fits r.checkpoint.state ≡ true
    listed : r.checkpoint.listed ≤ k
    writes : r.checkpoint.writes ≤ writes_after L M rs n
    later : reads_fit L M n (suc k) rs ≡ true

  first_fits : (n k : ℕ) (r : Read S) (rs : List (Read S)) → reads_fit L M n k (r ∷ rs) ≡ true → ReadFits n k r rs
  first_fits n k r rs e =
      let p₄ = both _ (reads_fit L M n (suc k) rs) e in
      let p₃ = both _ (leb r.checkpoint.writes (writes_after L M rs n)) p₄.0 in
      let p₂ = both _ (leb r.checkpoint.listed k) p₃.0 in
      let p₁ = both (ltb r.cell L.cells) (fits r.checkpoint.state) p₂.0 in
      record { cell = p₁.0; state = p₁.1; listed = leb-true _ k p₂.1; writes = leb-true _ (writes_after L M rs n) p₃.1; later = p₄.1 }

  reads_fit_lem : (n k : ℕ) (r : Read S) (rs : List (Read S)) → ReadFits n k r rs → reads_fit L M n k (r ∷ rs) ≡ true
  reads_fit_lem n k r rs f =
      rw (f.cell, f.state, le-leb r.checkpoint.listed k f.listed, le-leb r.checkpoint.writes (writes_after L M rs n) f.writes, f.later) refl

  after_within : (n k : ℕ) (rs : List (Read S)) → reads_fit L M n k rs ≡ true → writes_after L M rs n ≤ n
  after_within n k [] e = omega arith
  after_within n k (r ∷ rs) e = let f = first_fits n k r rs e in omega (arith, f.writes, after_within n (suc k) rs f.later)

  -- the journal may grow
  after_more : (n n' : ℕ) (rs : List (Read S)) → n ≤ n' → writes_after L M rs n ≤ writes_after L M rs n'
  after_more n n' [] h = h
  after_more n n' (r ∷ rs) h = omega arith

  pub reads_more : (n n' k : ℕ) (rs : List (Read S)) → n ≤ n' → reads_fit L M n k rs ≡ true → reads_fit L M n' k rs ≡ true
  reads_more n n' k [] h e = refl
  reads_more n n' k (r ∷ rs) h e =
      let f = first_fits n k r rs e in
      reads_fit_lem n' k r rs
      (record { cell = f.cell; state = f.state; listed = f.listed; writes = omega (arith, f.writes, after_more n n' rs h); later = reads_more n n' (suc k) rs h f.later })

  -- a read may be listed, with the journal as it is now
  after_one : (n : ℕ) (rs : List (Read S)) (r : Read S) → r.checkpoint.writes ≡ n → writes_after L M rs n ≡ writes_after L M (rs ++ (r ∷ [])) n
  after_one n [] r e = sym e
  after_one n (x ∷ rs) r e = refl

  pub reads_one : (n k : ℕ) (rs : List (Read S)) (r : Read S) → ltb r.cell L.cells ≡ true → fits r.checkpoint.state ≡ true → r.checkpoint.listed ≤ k + length rs →
      r.checkpoint.writes ≡ n → reads_fit L M n k rs ≡ true → reads_fit L M n k (rs ++ (r ∷ [])) ≡ true
  reads_one n k [] r c s l w e = reads_fit_lem n k r [] (record { cell = c; state = s; listed = omega arith; writes = omega arith; later = refl })
  reads_one n k (x ∷ rs) r c s l w e =
      let f = first_fits n k x rs e in
      reads_fit_lem n k x (rs ++ (r ∷ [])) (record {
        cell = f.cell;
        state = f.state;
        listed = f.listed;
        writes = omega (arith, f.writes, after_one n rs r w);
        later = reads_one n (suc k) rs r c s (omega arith) w f.later;
      })

  -- the checkpoint of the m-th read, and the reads before it
  pub record CheckpointFits (n k : ℕ) (rs : List (Read S)) (m : ℕ) (c : Checkpoint S) : Type 0 where
    pub state : fits c.state ≡ true
    pub listed : c.listed ≤ k + m
    pub writes : c.writes ≤ n
    pub first : writes_after L M rs n ≤ c.writes

  pub checkpoint_fits : (n k : ℕ) (rs : List (Read S)) (m : ℕ) (d : Checkpoint S) → m < length rs → reads_fit L M n k rs ≡ true → CheckpointFits n k rs m (get_or (checkpoints rs) m d)
  checkpoint_fits n k [] m d h e = absurd (omega arith)
  checkpoint_fits n k (r ∷ rs) zero d h e =
      let f = first_fits n k r rs e in
      record { state = f.state; listed = omega (arith, f.listed); writes = omega (arith, f.writes, after_within n (suc k) rs f.later); first = omega arith }
  checkpoint_fits n k (r ∷ rs) (suc m) d h e =
      let f = first_fits n k r rs e in
      let c = checkpoint_fits n (suc k) rs m d (omega arith) f.later in
      record { state = c.state; listed = omega (arith, c.listed); writes = c.writes; first = omega (arith, f.writes, c.first) }

  after_cut : (n w l : ℕ) (rs : List (Read S)) → writes_after L M rs n ≤ w → writes_after L M rs n ≤ writes_after L M (take l rs) w
  after_cut n w zero rs h = h
  after_cut n w (suc l) [] h = h
  after_cut n w (suc l) (r ∷ rs) h = omega arith

  pub reads_cut : (n k : ℕ) (rs : List (Read S)) (m : ℕ) (d : Checkpoint S) (l : ℕ) → m < length rs → l ≤ m → reads_fit L M n k rs ≡ true →
      reads_fit L M (get_or (checkpoints rs) m d).writes k (take l rs) ≡ true
  reads_cut n k rs m d zero h g e = refl
  reads_cut n k [] m d (suc l) h g e = absurd (omega arith)
  reads_cut n k (r ∷ rs) zero d (suc l) h g e = absurd (omega arith)
  reads_cut n k (r ∷ rs) (suc m) d (suc l) h g e =
      let f = first_fits n k r rs e in
      let w = (get_or (checkpoints rs) m d).writes in
      let c = checkpoint_fits n (suc k) rs m d (omega arith) f.later in
      reads_fit_lem w k r (take l rs) (record {
        cell = f.cell;
        state = f.state;
        listed = f.listed;
        writes = omega (arith, f.writes, after_cut n w l rs c.first);
        later = reads_cut n (suc k) rs m d l (omega arith) (omega arith) f.later;
      })
