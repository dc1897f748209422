-- A job that passed keeps to 5 and 6, so but for PUSH its operands fit a byte; a program to which its instructions are written
-- one by one is the packed one, stands for them, and its step is theirs.
use mathlib.Core.Path.{◌≡◌, refl, ap, sym, ◌∙◌}
use mathlib.Core.Bool.{Bool, true, false, cond, ◌&&◌, ◌||◌}
use mathlib.Core.List.{List, [], map}
use Prim.Native.Nat.{ℕ, zero, suc, ◌+◌, ◌≤◌, ◌<◌}
use native.Mathlib.Omega.{arith}
use native.Mathlib.Decide.{ℕ_discrete}
use lib.Dec.{eqb, leb, ltb}
use lib.ListN.{length, get_or, set, take, length-map, get_or-map, get_or-eq_default}
use Rattle.std.proofs.lemmas.List.{get_or-take, length-take-le}
use borrow.Author.Tests.{leb-true, ltb-true, ne_eqb}
use Rattle.theory.specs.Lists.{firsts, length_firsts, firsts_take, get_d_firsts, tab, get_d_tab, tab_same}
use Rattle.theory.proofs.ReadSizes.{both}
use Rattle.machine.specs.Limits.{LONGEST, ROOM, JOBS}
use Rattle.machine.specs.Instruction.{DUP, SWAP, JUMP}
use Rattle.machine.specs.Machine.{stopping, starting, formed, sizes}
use Rattle.machine.specs.View.{state_of, code_of, no_job, Steps}
use Rattle.machine.specs.declared.instruction.Instruction.{Instruction}
use Rattle.machine.specs.declared.job.Job.{Job}
use Rattle.machine.specs.declared.job.State.{State}
use Rattle.machine.specs.declared.step.Stepped.{Stepped}
use Rattle.rules.specs.Box.{box_checked}
use Rattle.rules.specs.Program.{stops_of, argument_of, pushed_of, packed, operand_of, instruction_in, program_of, length_program, program_at, first_jobs, all_packed}
use Rattle.rules.specs.Steps.{StepsIn, Passes, AllPass}
use Rattle.rules.specs.Sizes.{instruction_within, by_code, keeps_at}
use Rattle.rules.specs.declared.block.Program.{Program}
use Rattle.rules.proofs.Laws.Filled.{Filling, fill_start, fill_on, fill_end, tab_get_d}
use Rattle.rules.proofs.Laws.Code.{bounds_are}

-- ---- a byte holds an operand that is not PUSH's
limit_low : (c n : ℕ) → n ≤ 64 → by_code c n 16 1 ≤ 64
unfolding by_code
limit_low c n l = go (leb JUMP c) (ltb SWAP c) (leb DUP c)
  where
    go : (x y z : Bool) → cond x n (cond y 1 (cond z 16 1)) ≤ 64
    go true y z = l
    go false true z = omega arith
    go false false true = omega arith
    go false false false = omega arith

module _ (n p c x : ℕ) (few : n ≤ 64) (within : instruction_within n p (record { code = c; operand = x }) ≡ true) where
  small : eqb c 2 ≡ false → x < 256
  unfolding keeps_at
  small e =
      let kept : keeps_at n p c x ≡ true = rw e within in
      let a : (eqb c 2 || (leb (by_code c (suc p) 1 0) x && ltb x (by_code c n 16 1))) ≡ true = (both (leb c 13) _ (bounds_are n p x c ∙ kept)).1 in
      let b = (both (leb (by_code c (suc p) 1 0) x) (ltb x (by_code c n 16 1)) (rw e at a)).1 in
      omega (arith, ltb-true x (by_code c n 16 1) b, limit_low c n few)

-- ---- a job that passed
formed_each : (is : List Instruction) (n m : ℕ) → formed is n m ≡ true → (k : ℕ) → k < m → instruction_within n k (get_or is k stopping) ≡ true
unfolding formed instruction_within
formed_each is n zero e k l = absurd (omega arith)
formed_each is n (suc m) e k l =
    let a = both _ (formed is n m) e in
    go (ℕ_discrete k m) a.0 (λ q. formed_each is n m a.1 k (omega arith))
  where
    go : Dec (k ≡ m) → instruction_within n m (get_or is m stopping) ≡ true → ((k ≡ m → ⊥) → instruction_within n k (get_or is k stopping) ≡ true) → instruction_within n k (get_or is k stopping) ≡ true
    go (yes q) h r = rw q h
    go (no q) h r = r q

module _ (job : Job) (pass : Passes job) where
  abbrev many : ℕ
  many = length (code_of job)

  fit : (leb many LONGEST ≡ true) × (formed (code_of job) many many ≡ true)
  unfolding sizes
  fit =
      let x = both (leb many LONGEST && formed (code_of job) many many && ltb 0 many) _ (box_checked.ok_fits (starting (code_of job)) pass.passed.ok) in
      let y = both (leb many LONGEST && formed (code_of job) many many) (ltb 0 many) x.0 in
      both (leb many LONGEST) (formed (code_of job) many many) y.0

  long : many ≡ job.size
  long = length_firsts job.size stopping job.code

  pub passed_few : job.size ≤ 64
  passed_few = omega (arith, leb-true many LONGEST fit.0, long)

  passed_within : (k : ℕ) → k < job.size → instruction_within job.size k (get_or job.code k stopping) ≡ true
  passed_within k l = rw (long, get_d_firsts job.size stopping job.code k l) at (formed_each (code_of job) many many fit.1 k (omega (arith, l, long)))

  pub passed_small : (k : ℕ) → k < job.size → ((get_or job.code k stopping).code ≡ 2 → ⊥) → (get_or job.code k stopping).operand < 256
  passed_small k l n = small job.size k _ _ passed_few (passed_within k l) (ne_eqb _ 2 n)

-- ---- a program, instruction by instruction
module _ (i : Instruction) where
  pub slots_push : i.code ≡ 2 → (0 ≡ argument_of i) × (i.operand ≡ pushed_of i)
  slots_push e = rw e (refl, refl)

  pub slots_other : (i.code ≡ 2 → ⊥) → (a : ℕ) → a ≡ i.operand → (a ≡ argument_of i) × (0 ≡ pushed_of i)
  slots_other n a e = rw (ne_eqb _ 2 n) (e, refl)

abbrev at : Job → ℕ → Instruction
at job k = get_or (code_of job) k stopping

pub record Packing (job : Job) (p : Program) (k : ℕ) : Type 0 where
  pub codes : Filling 0 (λ i. (at job i).code) LONGEST k p.codes
  pub arguments : Filling 0 (λ i. argument_of (at job i)) LONGEST k p.arguments
  pub pushed : Filling 0 (λ i. pushed_of (at job i)) LONGEST k p.pushed
  pub size : p.size ≡ job.size
  pub few : job.size ≤ 64

module _ (job : Job) (pass : Passes job) where
  pub pack_start : (p : Program) → p ≡ stops_of job.size → Packing job p 0
  pack_start p e = rw e (record { codes = fill_start 0 _ LONGEST; arguments = fill_start 0 _ LONGEST; pushed = fill_start 0 _ LONGEST; size = refl; few = passed_few job pass })

  module _ (p : Program) (k : ℕ) (g : Packing job p k) where
    module _ (l : k < job.size) where
      low : k < LONGEST
      low = omega (arith, l, g.few)

      same : get_or job.code k stopping ≡ at job k
      same = sym (get_d_firsts job.size stopping job.code k l)

      codes_on : Filling 0 (λ i. (at job i).code) LONGEST (k + 1) (set p.codes k (get_or job.code k stopping).code)
      codes_on = fill_on 0 _ LONGEST k p.codes g.codes low _ (ap (λ (i : Instruction). i.code) same)

      pub pack_on : (a q : ℕ) → a ≡ argument_of (get_or job.code k stopping) → q ≡ pushed_of (get_or job.code k stopping)
          → Packing job (record p { codes = set p.codes k (get_or job.code k stopping).code; arguments = set p.arguments k a; pushed = set p.pushed k q }) (k + 1)
      pack_on a q ea eq = record {
        codes = codes_on;
        arguments = fill_on 0 _ LONGEST k p.arguments g.arguments low a (ea ∙ ap argument_of same);
        pushed = fill_on 0 _ LONGEST k p.pushed g.pushed low q (eq ∙ ap pushed_of same);
        size = g.size;
        few = g.few;
      }

    pub pack_end : job.size ≤ k → p ≡ packed (code_of job)
    unfolding packed
    pack_end l = λ z. record { codes = codes z; arguments = arguments z; pushed = pushed z; size = size z }
      where
        past : (i : ℕ) → k ≤ i → at job i ≡ stopping
        past i m = get_or-eq_default (code_of job) stopping (omega (arith, l, m, long job pass))

        codes : p.codes ≡ tab LONGEST (λ i. (at job i).code)
        codes = fill_end 0 _ LONGEST k p.codes g.codes (λ i m n. ap (λ (x : Instruction). x.code) (past i m))

        arguments : p.arguments ≡ tab LONGEST (λ i. argument_of (at job i))
        arguments = fill_end 0 _ LONGEST k p.arguments g.arguments (λ i m n. ap argument_of (past i m))

        pushed : p.pushed ≡ tab LONGEST (λ i. pushed_of (at job i))
        pushed = fill_end 0 _ LONGEST k p.pushed g.pushed (λ i m n. ap pushed_of (past i m))

        size : p.size ≡ length (code_of job)
        size = g.size ∙ sym (long job pass)

-- a program that an opening packed stands for its job's instructions
pub packed_stands : (is : List Instruction) → length is ≤ LONGEST → program_of (packed is) ≡ is
unfolding packed program_of
packed_stands is few = tab_same (length is) _ (λ k. get_or is k stopping) (λ k l. one k (omega (arith, l, few))) ∙ tab_get_d stopping is
  where
    operand_is : (i : Instruction) → operand_of i.code (argument_of i) (pushed_of i) ≡ i.operand
    operand_is i = go (eqb i.code 2)
      where
        go : (x : Bool) → cond x (cond x i.operand 0) (cond x 0 i.operand) ≡ i.operand
        go true = refl
        go false = refl

    one : (k : ℕ) → k < LONGEST → instruction_in (record { codes = tab LONGEST (λ i. (get_or is i stopping).code); arguments = tab LONGEST (λ i. argument_of (get_or is i stopping)); pushed = tab LONGEST (λ i. pushed_of (get_or is i stopping)); size = length is }) k ≡ get_or is k stopping
    one k l =
        rw (get_d_tab LONGEST (λ i. (get_or is i stopping).code) k 0 l, get_d_tab LONGEST (λ i. argument_of (get_or is i stopping)) k 0 l, get_d_tab LONGEST (λ i. pushed_of (get_or is i stopping)) k 0 l)
        (λ z. record { code = (get_or is k stopping).code; operand = operand_is (get_or is k stopping) z })

-- ---- the jobs, one by one
module _ (n : ℕ) (js : List Job) where
  pub first_long : length (first_jobs n js) ≡ n
  first_long = length-map (firsts n no_job js) code_of ∙ length_firsts n no_job js

  pub first_job : (k : ℕ) → k < n → get_or (first_jobs n js) k [] ≡ code_of (get_or js k no_job)
  first_job k l = get_or-map code_of (firsts n no_job js) k no_job ∙ ap code_of (get_d_firsts n no_job js k l)

-- the first jobs of an array, as the part that they are
module _ (js : List Job) (n m : ℕ) (e : m ≡ n) (few : n ≤ length js) where
  pub front_jobs : map code_of (take m js) ≡ first_jobs n js
  front_jobs = rw e (ap (map code_of) (sym (firsts_take n no_job js few)))

  front_long : length (take m js) ≡ n
  front_long = rw e (length-take-le n js few)

  pub front_pass : length js ≡ JOBS → AllPass js n → (length (take m js) ≤ JOBS) × AllPass (take m js) (length (take m js))
  front_pass q h =
      (omega (arith, front_long, few, q), record { pass = λ k l. rw (get_or-take m js k no_job (omega (arith, e, front_long, l))) (h.pass k (omega (arith, front_long, l))) })

packed_none : packed [] ≡ stops_of 0
unfolding packed
packed_none = refl

-- the program of the k-th job
abbrev packed_at : List Job → ℕ → Program
packed_at js k = packed (get_or (map code_of js) k [])

pub record PackingAll (js : List Job) (k : ℕ) (ps : List Program) : Type 0 where
  pub filling : Filling (stops_of 0) (packed_at js) JOBS k ps

module _ (js : List Job) where
  module _ (k : ℕ) (ps : List Program) (g : PackingAll js k ps) where
    pub packs_on : k < JOBS → (p : Program) → p ≡ packed (code_of (get_or js k no_job)) → PackingAll js (k + 1) (set ps k p)
    packs_on l p e = record { filling = fill_on (stops_of 0) (packed_at js) JOBS k ps g.filling l p (e ∙ ap packed (sym (get_or-map code_of js k no_job))) }

    pub packs_end : length js ≤ k → ps ≡ all_packed (map code_of js)
    unfolding all_packed
    packs_end l = fill_end (stops_of 0) (packed_at js) JOBS k ps g.filling
        (λ i m o. ap packed (get_or-eq_default (map code_of js) [] (omega (arith, l, m, length-map js code_of))) ∙ packed_none)

-- ---- the instruction at which a program stands
pub steps_program : (p : Program) (s : State) (r : Stepped) (i : Instruction) → s.place.0 < p.size → i ≡ instruction_in p s.place.0
    → Steps ROOM p.size i (state_of s) r.act (state_of r.state) → StepsIn (program_of p) s r
steps_program p s r i l e h = record { steps = rw (length_program p, program_at p s.place.0 l, ← e) h }
