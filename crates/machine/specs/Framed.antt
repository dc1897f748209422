-- What a field whose frame passed tells: it is whole, a job is still allowed, and its length is a sound one.
use Rattle.std.specs.Prelude.{◌≡◌, ℕ, ◌+◌, ◌%◌, ◌<◌, ◌≤◌, not, ◌||◌, List, length, ◌==◌, ◌≢◌, nat_lt}
use Rattle.std.proofs.Common.{arith, ltb-false, eqb-true}
use Rattle.std.proofs.lemmas.Bool.{not-false, eqb-false}
use Rattle.machine.specs.Passing.{unless_sound, or_none}
use Rattle.machine.specs.Verdict.{sound}
use Rattle.machine.specs.Paper.{tag, size, frame_of}

pub record Framed (more : ℕ) (bs : List ℕ) : Type 0 where
  pub whole : 3 + size bs ≤ length bs
  pub allowed : 0 < more
  pub some : 0 < size bs
  pub most : size bs ≤ 576
  pub nines : size bs % 9 ≡ 0

positive : (n : ℕ) → (n ≢ 0) → 0 < n
positive n z = omega arith

pub framed : (more : ℕ) (bs : List ℕ) → frame_of more bs ≡ sound → Framed more bs
unfolding frame_of
framed more bs e =
    let a = unless_sound (nat_lt (length bs) 3) _ 1 0 e in
    let b = unless_sound (nat_lt (length bs) (3 + size bs)) _ 1 0 a.1 in
    let c = unless_sound (not (tag bs == 16)) _ 2 0 b.1 in
    let d = unless_sound (more == 0) _ 3 0 c.1 in
    let f = unless_sound (size bs == 0 || nat_lt 576 (size bs) || not (size bs % 9 == 0)) _ 4 0 d.1 in
    let g = or_none (size bs == 0 || nat_lt 576 (size bs)) (not (size bs % 9 == 0)) f.0 in
    let h = or_none (size bs == 0) (nat_lt 576 (size bs)) g.0 in
    record {
      whole = ltb-false _ _ b.0;
      allowed = positive more (eqb-false more 0 d.0);
      some = positive (size bs) (eqb-false (size bs) 0 h.0);
      most = ltb-false _ _ h.1;
      nines = eqb-true _ _ (not-false _ g.1);
    }
