-- What each check of a job tells once it has found nothing: the tests that it made all passed.
use Rattle.std.specs.Prelude.{◌≡◌, ℕ, zero, suc, ◌+◌, ◌-◌, ◌<◌, ◌≤◌, Bool, true, false, cond, ◌&&◌, ◌||◌, List, length, ◌==◌, ◌≢◌, nat_le, nat_lt, refl}
use Rattle.std.proofs.Common.{arith, leb-true, ltb-false}
use Rattle.std.proofs.Math.Decide.{ℕ_discrete}
use Rattle.std.proofs.lemmas.Bool.{eqb-false}
use Rattle.machine.specs.Instruction.{READ, WRITE, known, fits, leads_on, need, after}
use Rattle.theory.proofs.ReadSizes.{both}
use Rattle.machine.specs.Verdict.{Finding, sound, fault, and_then, scan, at, count, form_of, form_at, end_of, entries_of, entries_at, size_of, flow_of, verdict_of}
use Rattle.machine.specs.declared.instruction.Instruction.{Instruction}
use Rattle.machine.specs.declared.verdict.Met.TheVariants.{Height}

pub not_sound : {n p : ℕ} → fault n p ≢ sound
not_sound e = let z : ◌≡◌ {A = ℕ} 0 1 = cc in omega arith

pub both_sound : (a b : Finding) → and_then a b ≡ sound → (a ≡ sound) × (b ≡ sound)
both_sound sound b e = (refl, e)
both_sound (fault n p) b e = absurd (not_sound e)

-- a test whose failure, or whose success, is the fault
pub if_sound : (t : Bool) (a : Finding) (n p : ℕ) → cond t a (fault n p) ≡ sound → (t ≡ true) × (a ≡ sound)
if_sound true a n p e = (refl, e)
if_sound false a n p e = absurd (not_sound e)

pub unless_sound : (t : Bool) (a : Finding) (n p : ℕ) → cond t (fault n p) a ≡ sound → (t ≡ false) × (a ≡ sound)
unless_sound true a n p e = absurd (not_sound e)
unless_sound false a n p e = (refl, e)

pub or_none : (a b : Bool) → a || b ≡ false → (a ≡ false) × (b ≡ false)
or_none true b e = (e, cc)
or_none false b e = (refl, e)

pub scan_sound : (f : ℕ → Finding) (p k : ℕ) → scan f p k ≡ sound → (q : ℕ) → p ≤ q → q < p + k → f q ≡ sound
unfolding scan
scan_sound f p zero e q l m = absurd (omega arith)
scan_sound f p (suc k) e q l m = go (ℕ_discrete q p) (λ w. scan_sound f (suc p) k (both_sound (f p) (scan f (suc p) k) e).1 q (omega arith) (omega arith))
  where
    go : Dec (q ≡ p) → ((q ≢ p) → f q ≡ sound) → f q ≡ sound
    go (yes w) r = rw w (both_sound (f p) (scan f (suc p) k) e).0
    go (no w) r = r w

-- the instruction at p has this code, and `few` before it have it too
abbrev pub too_many : ℕ → List Instruction → ℕ → ℕ → Bool
too_many few is c p = (at is p).code == c && nat_le few (count is c p)

pub record Formed (few : ℕ) (is : List Instruction) (p : ℕ) : Type 0 where
  pub known_code : known (at is p) ≡ true
  pub operand : fits (length is) p (at is p) ≡ true
  pub few_reads : too_many few is READ p ≡ false
  pub few_writes : too_many few is WRITE p ≡ false

pub form_sound : (few : ℕ) (is : List Instruction) (p : ℕ) → form_at few is p ≡ sound → Formed few is p
unfolding form_at form_of
form_sound few is p e =
    let a = if_sound (known (at is p)) _ 5 p e in
    let b = if_sound (fits (length is) p (at is p)) _ 6 p a.1 in
    let c = or_none (too_many few is READ p) (too_many few is WRITE p) (unless_sound _ sound 11 p b.1).0 in
    record { known_code = a.0; operand = b.0; few_reads = c.0; few_writes = c.1 }

-- an instruction that leads on is not the last
pub end_sound : (is : List Instruction) → end_of is ≡ sound → 0 < length is → (p : ℕ) → p < length is → leads_on (at is p) ≡ true → suc p < length is
unfolding end_of
end_sound is end some p l e = go (ℕ_discrete p (length is - 1))
  where
    go : Dec (p ≡ length is - 1) → suc p < length is
    go (yes q) = let w = rw (← q, e) at end in absurd (not_sound w)
    go (no q) = omega arith

pub entries_sound : (room : ℕ) (i : Instruction) (p h : ℕ) → entries_of room i p (Height h) ≡ sound → (need i ≤ h) × (after i h ≤ room)
entries_sound room i p h e =
    let w = both (nat_le (need i) h) (nat_le (after i h) room) (if_sound _ sound 9 p e).0 in
    (leb-true _ _ w.0, leb-true _ _ w.1)

pub size_sound : (longest n : ℕ) → size_of longest n ≡ sound → (0 < n) × (n ≤ longest)
unfolding size_of
size_sound longest n e =
    let w = or_none (n == 0) (nat_lt longest n) (unless_sound _ sound 4 0 e).0 in
    (positive (eqb-false n 0 w.0), ltb-false _ _ w.1)
  where
    positive : (n ≢ 0) → 0 < n
    positive z = omega arith

-- the four parts of a verdict
module _ (longest room few : ℕ) (is : List Instruction) (pass : verdict_of longest room few is ≡ sound) where
  parts : (size_of longest (length is) ≡ sound) × (scan (form_at few is) 0 (length is) ≡ sound) × (end_of is ≡ sound) × (scan (entries_at room longest is) 0 (length is) ≡ sound)
  unfolding verdict_of flow_of
  parts =
      let a = both_sound (size_of longest (length is)) (and_then (scan (form_at few is) 0 (length is)) (flow_of longest room is)) pass in
      let b = both_sound (scan (form_at few is) 0 (length is)) (flow_of longest room is) a.1 in
      let c = both_sound (end_of is) (scan (entries_at room longest is) 0 (length is)) b.1 in
      (a.0, b.0, c.0, c.1)

  pub sized : (0 < length is) × (length is ≤ longest)
  sized = size_sound longest (length is) parts.0

  pub formed : (p : ℕ) → p < length is → Formed few is p
  formed p l = form_sound few is p (scan_sound (form_at few is) 0 (length is) parts.1 p (omega arith) (omega arith))

  pub goes_on : (p : ℕ) → p < length is → leads_on (at is p) ≡ true → suc p < length is
  goes_on = end_sound is parts.2 sized.0

  pub entered : (p : ℕ) → p < length is → entries_at room longest is p ≡ sound
  entered p l = scan_sound (entries_at room longest is) 0 (length is) parts.3 p (omega arith) (omega arith)
