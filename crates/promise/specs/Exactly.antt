-- The checker passes exactly the jobs that document 01 describes: there are heights that suit every instruction, and each later place is led to
-- by an earlier one. The heights that the checker brings are those, since each place is brought its height by some earlier place and no other.
use Rattle.std.specs.Prelude.{◌≡◌, ◌⊎◌, Bool, ◌&&◌, ◌||◌, List, eqb, leb, length, get_or, set, replicate}
use Rattle.std.proofs.Math.Path.{refl}
use Rattle.std.proofs.Common.{sym, ap, ◌∙◌, arith, get_or-set_same, get_or-set_other}
use Rattle.std.proofs.Math.Logic.{inl, inr}
use Rattle.std.proofs.Math.Bool.{true, false, cond}
use Prim.Native.Nat.{ℕ, zero, suc, ◌+◌, ◌-◌, ◌≤◌, ◌<◌}
use Rattle.std.proofs.Math.Decide.{ℕ_discrete}
use borrow.Author.Tests.{eqb-true, eq-eqb, ne_eqb, lt-leb, le-leb, le-ltb}
use Rattle.std.proofs.lemmas.List.{length-replicate}
use Rattle.std.proofs.Math.ListN.{get_or-replicate}
use Rattle.machine.specs.Instruction.{READ, WRITE, leads_on, jumps, after}
use Rattle.theory.proofs.ReadSizes.{both}
use Rattle.machine.specs.Verdict.{Finding, sound, fault, scan, at, count, form_of, form_at, end_of, meet, bring, lead, brought, entries_at, size_of, flow_of, verdict_of}
use Rattle.machine.specs.Passing.{not_sound, too_many, sized, entered}
use Rattle.machine.specs.declared.instruction.Instruction.{Instruction}
use Rattle.machine.specs.declared.verdict.Met.{Met}
use Rattle.machine.specs.declared.verdict.Met.TheVariants.{Nobody, Height, Clash}
use Rattle.promise.specs.Heights.{Sound, place_height, passed_sound, length_bring, length_brought}
use Rattle.promise.specs.Keeps.{count_le, count_here}

-- the instruction i at q leads to t: on, or by its jump
abbrev on_to : Instruction → ℕ → ℕ → Bool
on_to i q t = leads_on i && eqb t (suc q)

abbrev jumps_to : Instruction → ℕ → Bool
jumps_to i t = jumps i && eqb t i.operand

unfoldable pub leads_to : Instruction → ℕ → ℕ → Bool
leads_to i q t = on_to i q t || jumps_to i t

-- document 01's conditions on a job
pub record Good (longest room few : ℕ) (is : List Instruction) : Type 0 where
  pub some : 0 < length is
  pub most : length is ≤ longest
  pub height : ℕ → ℕ
  pub heights : Sound height room few is
  pub led : (t : ℕ) → 0 < t → t < length is → (q : ℕ) × (q < t) × (leads_to (at is q) q t ≡ true)

-- one bringing, seen from a place t: it is brought the height, or it is not meant and nothing changes there
abbrev Seen : Bool → ℕ → List Met → List Met → ℕ → Type 0
Seen meant a ms ms' t = ((meant ≡ true) × (get_or ms' t Nobody ≡ meet (get_or ms t Nobody) a)) ⊎ ((meant ≡ false) × (get_or ms' t Nobody ≡ get_or ms t Nobody))

bring_seen : (b : Bool) (x a : ℕ) (ms : List Met) (t : ℕ) → t < length ms → Seen (b && eqb t x) a ms (bring b x a ms) t
bring_seen false x a ms t l = inr (refl, refl)
bring_seen true x a ms t l = go (ℕ_discrete t x)
  where
    go : Dec (t ≡ x) → Seen (eqb t x) a ms (set ms x (meet (get_or ms x Nobody) a)) t
    go (yes e) = inl (eq-eqb t x e, rw (← e) (get_or-set_same ms t (meet (get_or ms t Nobody) a) Nobody l))
    go (no e) = inr (ne_eqb t x e, get_or-set_other ms x t (meet (get_or ms x Nobody) a) Nobody e)

scan_pass : (f : ℕ → Finding) (p k : ℕ) → ((q : ℕ) → p ≤ q → q < p + k → f q ≡ sound) → scan f p k ≡ sound
unfolding scan
scan_pass f p zero h = refl
scan_pass f p (suc k) h = rw (h p (omega arith) (omega arith)) (scan_pass f (suc p) k (λ q l m. h q (omega arith) (omega arith)))

or_left : (a b : Bool) → a ≡ true → a || b ≡ true
or_left a b e = rw e refl

or_right : (a b : Bool) → b ≡ true → a || b ≡ true
or_right true b e = refl
or_right false b e = e

neither : (a b : Bool) → a ≡ false → b ≡ false → a || b ≡ true → ⊥
neither a b e f g = let u = rw (e, f) at g in let y : ◌≡◌ {A = ℕ} 0 1 = cc in omega arith

module _ (longest room few : ℕ) (is : List Instruction) where
  abbrev n : ℕ
  n = length is

  abbrev ms : ℕ → List Met
  ms p = brought longest is p

  -- the two bringings of the instruction at p, with a the height after it
  module _ (p a : ℕ) where
    abbrev on : List Met
    on = bring (leads_on (at is p)) (suc p) a (ms p)

    abbrev on_both : List Met
    on_both = bring (jumps (at is p)) (at is p).operand a on

    on_seen : (t : ℕ) → t < longest → Seen (on_to (at is p) p t) a (ms p) on t
    on_seen t l = bring_seen (leads_on (at is p)) (suc p) a (ms p) t (rw (length_brought longest is p) l)

    jump_seen : (t : ℕ) → t < longest → Seen (jumps_to (at is p) t) a on on_both t
    jump_seen t l =
        bring_seen (jumps (at is p)) (at is p).operand a on t
        (rw (length_bring (leads_on (at is p)) (suc p) a (ms p), length_brought longest is p) l)

  -- ---- from the conditions to the verdict
  module _ (G : Good longest room few is) where
    abbrev H : ℕ → ℕ
    H = G.height

    abbrev K : Sound G.height room few is
    K = G.heights

    -- before place p: a place has its height, or nobody before p leads to it
    abbrev None : ℕ → ℕ → Type 0
    None p t = (t ≡ 0 → ⊥) × ((q : ℕ) → q < p → leads_to (at is q) q t ≡ true → ⊥)

    abbrev Has : ℕ → ℕ → List Met → Type 0
    Has p t l = (get_or l t Nobody ≡ Height (H t)) ⊎ ((get_or l t Nobody ≡ Nobody) × None p t)

    meets : (t : ℕ) (m : Met) → (m ≡ Height (H t)) ⊎ (m ≡ Nobody) → meet m (H t) ≡ Height (H t)
    meets t m (inl e) = rw (e, eq-eqb (H t) (H t) refl) refl
    meets t m (inr e) = rw e refl

    has_start : (t : ℕ) → t < n → Has 0 t (ms 0)
    unfolding brought
    has_start t l = go (ℕ_discrete t 0)
      where
        go : Dec (t ≡ 0) → Has 0 t (set (replicate longest Nobody) 0 (Height 0))
        go (yes e) = inl (rw (e, K.first) (get_or-set_same (replicate longest Nobody) 0 (Height 0) Nobody (rw (length-replicate longest Nobody) (omega (arith, G.most)))))
        go (no e) =
            inr (get_or-set_other (replicate longest Nobody) 0 t (Height 0) Nobody e ∙ get_or-replicate longest t Nobody Nobody (omega (arith, G.most)), (e, λ q m. absurd (omega arith)))

    has_own : (p : ℕ) → p < n → Has p p (ms p) → get_or (ms p) p Nobody ≡ Height (H p)
    has_own p l (inl e) = e
    has_own p l (inr w) = let g = G.led p (nonzero w.1.0) l in absurd (w.1.1 g.0 g.1 g.2)
      where
        nonzero : (p ≡ 0 → ⊥) → 0 < p
        nonzero z = omega arith

    -- the height that is brought is the place's own
    on_height : (p t : ℕ) → p < n → on_to (at is p) p t ≡ true → after (at is p) (H p) ≡ H t
    on_height p t l e =
        let w = both (leads_on (at is p)) (eqb t (suc p)) e in
        rw (eqb-true t (suc p) w.1) (sym (K.on p l w.0).1)

    jump_height : (p t : ℕ) → p < n → jumps_to (at is p) t ≡ true → after (at is p) (H p) ≡ H t
    jump_height p t l e =
        let w = both (jumps (at is p)) (eqb t (at is p).operand) e in
        rw (eqb-true t (at is p).operand w.1) (sym (K.jump p l w.0).2)

    module _ (p t : ℕ) (l : p < n) where
      abbrev a : ℕ
      a = after (at is p) (H p)

      later_none : None p t → on_to (at is p) p t ≡ false → jumps_to (at is p) t ≡ false → None (suc p) t
      unfolding leads_to
      later_none none f g = (none.0, λ q k w. last q k w (ℕ_discrete q p))
        where
          last : (q : ℕ) → q < suc p → on_to (at is q) q t || jumps_to (at is q) t ≡ true → Dec (q ≡ p) → ⊥
          last q k w (yes e) = neither (on_to (at is p) p t) (jumps_to (at is p) t) f g (rw e at w)
          last q k w (no e) = none.1 q (omega arith) w

      -- the second bringing, from a place that has its height after the first, or that the first did not mean
      has_done : get_or (on p a) t Nobody ≡ Height (H t) → Seen (jumps_to (at is p) t) a (on p a) (on_both p a) t → Has (suc p) t (on_both p a)
      has_done e (inl w) = inl (w.1 ∙ ap (meet (get_or (on p a) t Nobody)) (jump_height p t l w.0) ∙ meets t (get_or (on p a) t Nobody) (inl e))
      has_done e (inr w) = inl (w.1 ∙ e)

      has_other : get_or (on p a) t Nobody ≡ Nobody → None p t → on_to (at is p) p t ≡ false → Seen (jumps_to (at is p) t) a (on p a) (on_both p a) t → Has (suc p) t (on_both p a)
      has_other e none f (inl w) = inl (w.1 ∙ ap (meet (get_or (on p a) t Nobody)) (jump_height p t l w.0) ∙ meets t (get_or (on p a) t Nobody) (inr e))
      has_other e none f (inr w) = inr (w.1 ∙ e, later_none none f w.0)

      has_next : Seen (on_to (at is p) p t) a (ms p) (on p a) t → Seen (jumps_to (at is p) t) a (on p a) (on_both p a) t → Has p t (ms p) → Has (suc p) t (on_both p a)
      has_next (inl w) two (inl e) = has_done (w.1 ∙ ap (meet (get_or (ms p) t Nobody)) (on_height p t l w.0) ∙ meets t (get_or (ms p) t Nobody) (inl e)) two
      has_next (inl w) two (inr e) = has_done (w.1 ∙ ap (meet (get_or (ms p) t Nobody)) (on_height p t l w.0) ∙ meets t (get_or (ms p) t Nobody) (inr e.0)) two
      has_next (inr w) two (inl e) = has_done (w.1 ∙ e) two
      has_next (inr w) two (inr e) = has_other (w.1 ∙ e.0) e.1 w.0 two

    has_all : (p : ℕ) → p ≤ n → (t : ℕ) → t < n → Has p t (ms p)
    unfolding brought
    has_all zero l t m = has_start t m
    has_all (suc p) l t m =
        let b = after (at is p) (H p) in
        rw (has_own p (omega arith) (has_all p (omega arith) p (omega arith)))
        (has_next p t (omega arith) (on_seen p b t (omega (arith, G.most))) (jump_seen p b t (omega (arith, G.most))) (has_all p (omega arith) t m))

    rare : (c p : ℕ) → count is c n ≤ few → p < n → too_many few is c p ≡ false
    rare c p f l = go (eqb (at is p).code c) refl
      where
        go : (t : Bool) → eqb (at is p).code c ≡ t → (t && leb few (count is c p)) ≡ false
        go false e = refl
        go true e = lt-leb few (count is c p) (omega (arith, count_here is c p (eqb-true _ _ e), count_le is c (suc p) n l))

    forms_pass : (q : ℕ) → q < n → form_at few is q ≡ sound
    unfolding form_at form_of
    forms_pass q l = rw (K.codes q l, K.operands q l, rare READ q K.few_reads l, rare WRITE q K.few_writes l) refl

    end_passes : end_of is ≡ sound
    unfolding end_of
    end_passes = go (leads_on (at is (n - 1))) refl
      where
        go : (t : Bool) → leads_on (at is (n - 1)) ≡ t → cond (leads_on (at is (n - 1))) (fault 7 (n - 1)) sound ≡ sound
        go false e = rw e refl
        go true e = absurd (let w = (K.on (n - 1) (omega (arith, G.some)) e).0 in omega (arith, G.some))

    entries_pass : (q : ℕ) → q < n → entries_at room longest is q ≡ sound
    unfolding entries_at
    entries_pass q l = rw (has_own q l (has_all q (omega arith) q l), le-leb _ _ (K.enough q l), le-leb _ _ (K.roomy q l)) refl

    pub good_passes : verdict_of longest room few is ≡ sound
    unfolding verdict_of flow_of size_of
    good_passes =
        rw (
          ne_eqb n 0 (λ q. omega (arith, G.some)),
          le-ltb longest n G.most,
          scan_pass (form_at few is) 0 n (λ q k l. forms_pass q (omega arith)),
          end_passes,
          scan_pass (entries_at room longest is) 0 n (λ q k l. entries_pass q (omega arith)),
        ) refl

  -- ---- and back
  abbrev Led : ℕ → ℕ → List Met → Type 0
  Led p t l = (get_or l t Nobody ≡ Nobody) ⊎ ((q : ℕ) × (q < p) × (leads_to (at is q) q t ≡ true))

  led_by : (p t a : ℕ) (m m' : List Met) (meant : Bool) → (meant ≡ true → leads_to (at is p) p t ≡ true) → Seen meant a m m' t → Led (suc p) t m → Led (suc p) t m'
  led_by p t a m m' meant h s (inr w) = inr w
  led_by p t a m m' meant h (inl s) (inl e) = inr (p, omega arith, h s.0)
  led_by p t a m m' meant h (inr s) (inl e) = inl (s.1 ∙ e)

  led_all : (p t : ℕ) → n ≤ longest → 0 < t → t < n → Led p t (ms p)
  unfolding brought leads_to
  led_all zero t f z l = inl (get_or-set_other (replicate longest Nobody) 0 t (Height 0) Nobody (λ e. omega arith) ∙ get_or-replicate longest t Nobody Nobody (omega arith))
  led_all (suc p) t f z l = go (get_or (ms p) p Nobody) (up (led_all p t f z l))
    where
      up : Led p t (ms p) → Led (suc p) t (ms p)
      up (inl e) = inl e
      up (inr w) = inr (w.0, omega (arith, w.1), w.2)

      go : (m : Met) → Led (suc p) t (ms p) → Led (suc p) t (lead (at is p) p m (ms p))
      go Nobody w = w
      go (Clash h) w = w
      go (Height h) w =
          let b = after (at is p) h in
          led_by p t b (on p b) (on_both p b) (jumps_to (at is p) t) (or_right (on_to (at is p) p t) (jumps_to (at is p) t)) (jump_seen p b t (omega arith))
          (led_by p t b (ms p) (on p b) (on_to (at is p) p t) (or_left (on_to (at is p) p t) (jumps_to (at is p) t)) (on_seen p b t (omega arith)) w)

  pub passes_good : verdict_of longest room few is ≡ sound → Good longest room few is
  unfolding entries_at
  passes_good e = record {
    some = (sized longest room few is e).0;
    most = (sized longest room few is e).1;
    height = place_height longest is;
    heights = passed_sound longest room few is e;
    led = λ t z l. led t z l (led_all t t (sized longest room few is e).1 z l);
  }
    where
      led : (t : ℕ) → 0 < t → t < n → Led t t (ms t) → (q : ℕ) × (q < t) × (leads_to (at is q) q t ≡ true)
      led t z l (inr w) = w
      led t z l (inl q) = absurd (not_sound (rw q at (entered longest room few is e t l)))
