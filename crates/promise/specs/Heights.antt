-- The heights of a job that passed are a function of the place. A height once brought to a place stays, or clashes;
-- the place's own check saw no clash, so every earlier place that leads there brought this one height.
use Rattle.std.specs.Prelude.{◌≡◌, Bool, ◌&&◌, List, eqb, length, get_or, set, replicate}
use Rattle.std.proofs.Math.Path.{refl}
use Rattle.std.proofs.Common.{◌∙◌, add-zero, add-suc, length-set, get_or-set_same, get_or-set_other}
use Rattle.std.proofs.Math.Bool.{true, false, cond}
use Prim.Native.Nat.{ℕ, zero, suc, ◌+◌, ◌-◌, ◌≤◌, ◌<◌}
use native.Mathlib.Omega.{arith}
use Rattle.std.proofs.Math.Decide.{ℕ_discrete, dec_lt}
use borrow.Author.Tests.{leb-false, eqb-true}
use Rattle.std.proofs.Math.Dec.{leb}
use Rattle.std.proofs.lemmas.List.{length-replicate}
use Rattle.std.proofs.Math.Seq.{set_out}
use Rattle.machine.specs.Instruction.{READ, WRITE, known, fits, leads_on, jumps, need, after}
use Rattle.machine.specs.Able.{jump_place}
use Rattle.machine.specs.Verdict.{sound, at, count, meet, bring, lead, brought, entries_of, entries_at, verdict_of}
use Rattle.machine.specs.Passing.{not_sound, entries_sound, too_many, Formed, sized, formed, goes_on, entered}
use Rattle.machine.specs.declared.instruction.Instruction.{Instruction}
use Rattle.machine.specs.declared.verdict.Met.{Met}
use Rattle.machine.specs.declared.verdict.Met.TheVariants.{Nobody, Height, Clash}

-- what is known of a job that passed, whose places have these heights, with at most `few` READ and WRITE on a stack of `room`
pub record Sound (height : ℕ → ℕ) (room few : ℕ) (is : List Instruction) : Type 0 where
  pub first : height 0 ≡ 0
  pub codes : (p : ℕ) → p < length is → known (at is p) ≡ true
  pub operands : (p : ℕ) → p < length is → fits (length is) p (at is p) ≡ true
  pub within : (p : ℕ) → p < length is → height p ≤ room
  pub enough : (p : ℕ) → p < length is → need (at is p) ≤ height p
  pub roomy : (p : ℕ) → p < length is → after (at is p) (height p) ≤ room
  pub on : (p : ℕ) → p < length is → leads_on (at is p) ≡ true → (suc p < length is) × (height (suc p) ≡ after (at is p) (height p))
  pub jump : (p : ℕ) → p < length is → jumps (at is p) ≡ true
      → (p < (at is p).operand) × ((at is p).operand < length is) × (height (at is p).operand ≡ after (at is p) (height p))
  pub few_reads : count is READ (length is) ≤ few
  pub few_writes : count is WRITE (length is) ≤ few

-- the height of a place that has one
abbrev height_in : Met → ℕ
height_in (Height h) = h
height_in Nobody = 0
height_in (Clash h) = 0

-- the height that is brought to a place
unfoldable pub place_height : ℕ → List Instruction → ℕ → ℕ
place_height longest is p = height_in (get_or (brought longest is p) p Nobody)

-- ---- a place that was brought the height h has it, or two heights
data Holds (h : ℕ) : Met → Type 0 where
  just : Holds h (Height h)
  torn : {g : ℕ} → Holds h (Clash g)

meet_holds : (m : Met) (h : ℕ) → Holds h (meet m h)
meet_holds Nobody h = just
meet_holds (Height g) h = go (eqb g h) refl
  where
    go : (t : Bool) → eqb g h ≡ t → Holds h (cond t (Height g) (Clash g))
    go true e = rw (eqb-true g h e) just
    go false e = torn
meet_holds (Clash g) h = torn

meet_keeps : {a : ℕ} {m : Met} (h : ℕ) → Holds a m → Holds a (meet m h)
meet_keeps {a} h just = go (eqb a h)
  where
    go : (t : Bool) → Holds a (cond t (Height a) (Clash a))
    go true = just
    go false = torn
meet_keeps h torn = torn

abbrev At : ℕ → List Met → ℕ → Type 0
At a ms k = Holds a (get_or ms k Nobody)

bring_keeps : (b : Bool) (t h : ℕ) (ms : List Met) (a k : ℕ) → At a ms k → At a (bring b t h ms) k
bring_keeps false t h ms a k w = w
bring_keeps true t h ms a k w = go (ℕ_discrete k t) (dec_lt t (length ms))
  where
    go : Dec (k ≡ t) → Dec (t < length ms) → At a (set ms t (meet (get_or ms t Nobody) h)) k
    go (yes e) (yes l) = rw (e, get_or-set_same ms t _ Nobody l) (meet_keeps h (rw e at w))
    go (yes e) (no l) = rw (set_out ms t (meet (get_or ms t Nobody) h) (omega arith)) w
    go (no e) l = rw (get_or-set_other ms t k (meet (get_or ms t Nobody) h) Nobody e) w

bring_holds : (t h : ℕ) (ms : List Met) → t < length ms → At h (bring true t h ms) t
bring_holds t h ms l = rw (get_or-set_same ms t (meet (get_or ms t Nobody) h) Nobody l) (meet_holds (get_or ms t Nobody) h)

lead_keeps : (i : Instruction) (p : ℕ) (m : Met) (ms : List Met) (a k : ℕ) → At a ms k → At a (lead i p m ms) k
lead_keeps i p Nobody ms a k w = w
lead_keeps i p (Clash h) ms a k w = w
lead_keeps i p (Height h) ms a k w = bring_keeps (jumps i) _ _ _ a k (bring_keeps (leads_on i) _ _ _ a k w)

pub length_bring : (b : Bool) (t h : ℕ) (ms : List Met) → length (bring b t h ms) ≡ length ms
length_bring false t h ms = refl
length_bring true t h ms = length-set ms t _

length_lead : (i : Instruction) (p : ℕ) (m : Met) (ms : List Met) → length (lead i p m ms) ≡ length ms
length_lead i p Nobody ms = refl
length_lead i p (Clash h) ms = refl
length_lead i p (Height h) ms = length_bring (jumps i) _ _ _ ∙ length_bring (leads_on i) _ _ _

pub length_brought : (longest : ℕ) (is : List Instruction) (p : ℕ) → length (brought longest is p) ≡ longest
unfolding brought
length_brought longest is zero = length-set (replicate longest Nobody) 0 (Height 0) ∙ length-replicate longest Nobody
length_brought longest is (suc p) =
    length_lead (at is p) p (get_or (brought longest is p) p Nobody) (brought longest is p) ∙ length_brought longest is p

-- ---- no height that is brought is past the room
abbrev Low : ℕ → Met → Type 0
Low room (Height h) = h ≤ room
Low room Nobody = Unit {0}
Low room (Clash h) = Unit {0}

meet_low : (room : ℕ) (m : Met) (h : ℕ) → h ≤ room → Low room m → Low room (meet m h)
meet_low room Nobody h l w = l
meet_low room (Height g) h l w = go (eqb g h)
  where
    go : (t : Bool) → Low room (cond t (Height g) (Clash g))
    go true = w
    go false = tt
meet_low room (Clash g) h l w = tt

bring_low : (room : ℕ) (b : Bool) (t h : ℕ) (ms : List Met) → h ≤ room → ((k : ℕ) → Low room (get_or ms k Nobody)) → (k : ℕ) → Low room (get_or (bring b t h ms) k Nobody)
bring_low room false t h ms l w k = w k
bring_low room true t h ms l w k = go (ℕ_discrete k t) (dec_lt t (length ms))
  where
    go : Dec (k ≡ t) → Dec (t < length ms) → Low room (get_or (set ms t (meet (get_or ms t Nobody) h)) k Nobody)
    go (yes e) (yes m) = rw (e, get_or-set_same ms t (meet (get_or ms t Nobody) h) Nobody m) (meet_low room (get_or ms t Nobody) h l (w t))
    go (yes e) (no m) = rw (set_out ms t (meet (get_or ms t Nobody) h) (omega arith)) (w k)
    go (no e) m = rw (get_or-set_other ms t k (meet (get_or ms t Nobody) h) Nobody e) (w k)

module _ (longest room few : ℕ) (is : List Instruction) (pass : verdict_of longest room few is ≡ sound) where
  abbrev n : ℕ
  n = length is

  abbrev ms : ℕ → List Met
  ms p = brought longest is p

  brought_keeps : (p d a k : ℕ) → At a (ms p) k → At a (ms (p + d)) k
  unfolding brought
  brought_keeps p zero a k w = rw (add-zero p) w
  brought_keeps p (suc d) a k w =
      rw (add-suc p d) (lead_keeps (at is (p + d)) (p + d) (get_or (ms (p + d)) (p + d) Nobody) (ms (p + d)) a k (brought_keeps p d a k w))

  abbrev height : ℕ → ℕ
  height p = height_in (get_or (ms p) p Nobody)

  has : (p : ℕ) → p < n → (get_or (ms p) p Nobody ≡ Height (height p)) × (need (at is p) ≤ height p) × (after (at is p) (height p) ≤ room)
  unfolding entries_at
  has p l = go (get_or (ms p) p Nobody) (entered longest room few is pass p l)
    where
      go : (m : Met) → entries_of room (at is p) p m ≡ sound → (m ≡ Height (height_in m)) × (need (at is p) ≤ height_in m) × (after (at is p) (height_in m) ≤ room)
      go Nobody e = absurd (not_sound e)
      go (Clash h) e = absurd (not_sound e)
      go (Height h) e = let w = entries_sound room (at is p) p h e in (refl, w.0, w.1)

  brought_low : (p : ℕ) → p ≤ n → (k : ℕ) → Low room (get_or (ms p) k Nobody)
  unfolding brought
  brought_low zero l k = go (ℕ_discrete k 0) (dec_lt 0 longest)
    where
      none : (n k : ℕ) → Low room (get_or (replicate n Nobody) k Nobody)
      none zero k = tt
      none (suc n) zero = tt
      none (suc n) (suc k) = none n k

      go : Dec (k ≡ 0) → Dec (0 < longest) → Low room (get_or (set (replicate longest Nobody) 0 (Height 0)) k Nobody)
      go (yes e) (yes m) = rw (e, get_or-set_same (replicate longest Nobody) 0 (Height 0) Nobody (rw (length-replicate longest Nobody) m)) (omega arith)
      go (yes e) (no m) = rw (set_out (replicate longest Nobody) 0 (Height 0) (rw (length-replicate longest Nobody) (omega arith))) (none longest k)
      go (no e) m = rw (get_or-set_other (replicate longest Nobody) 0 k (Height 0) Nobody e) (none longest k)
  brought_low (suc p) l k =
      let h = has p (omega arith) in
      let low = brought_low p (omega arith) in
      rw h.0 (bring_low room (jumps (at is p)) _ _ _ h.2 (bring_low room (leads_on (at is p)) _ _ (ms p) h.2 low) k)

  low_height : (p : ℕ) → p < n → height p ≤ room
  low_height p l = go (get_or (ms p) p Nobody) (has p l).0 (brought_low p (omega arith) p)
    where
      go : (m : Met) → m ≡ Height (height_in m) → Low room m → height_in m ≤ room
      go Nobody e w = omega arith
      go (Clash h) e w = omega arith
      go (Height h) e w = w

  form : (p : ℕ) → p < n → Formed few is p
  form p l = formed longest room few is pass p l

  few_before : (c p : ℕ) → ((q : ℕ) → q < p → too_many few is c q ≡ false) → count is c p ≤ few
  unfolding count
  few_before c zero h = omega arith
  few_before c (suc p) h = go (eqb (at is p).code c) (few_before c p (λ q l. h q (omega arith))) (h p (omega arith))
    where
      go : (t : Bool) → count is c p ≤ few → (t && leb few (count is c p)) ≡ false → count is c p + cond t 1 0 ≤ few
      go true w e = omega (arith, leb-false few (count is c p) e)
      go false w e = omega arith

  -- a place that is brought a height, and passes, has that height
  is_height : (p : ℕ) → p < n → (a : ℕ) → At a (ms p) p → height p ≡ a
  is_height p l a w = go (get_or (ms p) p Nobody) (has p l).0 w
    where
      go : (m : Met) → m ≡ Height (height_in m) → Holds a m → height_in m ≡ a
      go m e just = refl
      go m e torn = cc

  height_later : (p q a : ℕ) → p < q → q < n → At a (ms (suc p)) q → height q ≡ a
  height_later p q a l m w =
      is_height q m a (let e : suc p + (q - suc p) ≡ q = omega arith in rw e at (brought_keeps (suc p) (q - suc p) a q w))

  inside : (p t : ℕ) → t < n → t < length (ms p)
  inside p t l = rw (length_brought longest is p) (omega (arith, sized longest room few is pass))

  next_led : (p : ℕ) → p < n → leads_on (at is p) ≡ true → suc p < n → At (after (at is p) (height p)) (ms (suc p)) (suc p)
  unfolding brought
  next_led p l e m = rw ((has p l).0, e) (bring_keeps (jumps (at is p)) _ _ _ _ _ (bring_holds (suc p) _ (ms p) (inside p (suc p) m)))

  jump_led : (p : ℕ) → p < n → jumps (at is p) ≡ true → (at is p).operand < n → At (after (at is p) (height p)) (ms (suc p)) (at is p).operand
  unfolding brought
  jump_led p l e m =
      rw ((has p l).0, e) (bring_holds (at is p).operand _ (bring (leads_on (at is p)) (suc p) _ (ms p))
      (rw (length_bring (leads_on (at is p)) (suc p) _ (ms p)) (inside p (at is p).operand m)))

  first_height : height 0 ≡ 0
  unfolding brought
  first_height = go longest (omega (arith, sized longest room few is pass))
    where
      go : (k : ℕ) → 0 < k → height_in (get_or (set (replicate k Nobody) 0 (Height 0)) 0 Nobody) ≡ 0
      go zero l = absurd (omega arith)
      go (suc k) l = refl

  pub passed_sound : Sound (place_height longest is) room few is
  unfolding place_height
  passed_sound = record {
    first = first_height;
    codes = λ p l. (form p l).known_code;
    operands = λ p l. (form p l).operand;
    within = low_height;
    enough = λ p l. (has p l).1;
    roomy = λ p l. (has p l).2;
    on = λ p l e. let m = goes_on longest room few is pass p l e in (m, height_later p (suc p) _ (omega arith) m (next_led p l e m));
    jump = λ p l e. let m = jump_place n p (at is p) (form p l).operand e in (m.0, m.1, height_later p (at is p).operand _ m.0 m.1 (jump_led p l e m.1));
    few_reads = few_before READ n (λ q l. (form q l).few_reads);
    few_writes = few_before WRITE n (λ q l. (form q l).few_writes);
  }
