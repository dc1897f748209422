-- The paper's verdict: a field's parts stand at fixed distances from its start, and the loop's invariant says that
-- the jobs so far, joined to the answer for the fields from here on, are the answer to the whole paper.
use Rattle.std.proofs.Common.{◌≡◌, ℕ, zero, suc, ◌+◌, ◌-◌, ◌*◌, ◌/◌, ◌<◌, ◌≤◌, Bool, true, false, not, eqb, List, [], ◌∷◌, ◌++◌, map, length, take, drop, set, Result, Ok, Err, sym, refl, ap, ◌∙◌, append_assoc, append-nil, add-one, arith, length-drop, drop_of_length-le, length-take-le, drop-drop, take-suc-set}
use mathlib.Core.List.{map-append}
use native.Mathlib.Nat.{sub-zero}
use borrow.Author.Tests.{eqb-true, not-true, not-false}
use Rattle.std.proofs.lemmas.Bool.{eqb-false}
use Rattle.std.proofs.lemmas.List.{get_or-take, drop-take, take_rest}
use lib.ListN.{length-map}
use Rattle.theory.specs.Lists.{firsts_take}
use Rattle.machine.specs.Machine.{stopping}
use Rattle.machine.specs.Verdict.{sound, fault, job_verdict}
use Rattle.machine.specs.Paper.{instruction, instructions, size, job_of, later, frame_of, field_of, Answer, jobs, refused, with, unless_end, fields, paper_answer}
use Rattle.machine.specs.Passing.{both_sound}
use Rattle.machine.specs.Framed.{Framed, framed}
use Rattle.machine.specs.View.{code_of, number, finding_of, no_job, Takes, Answers}
use Rattle.machine.specs.declared.instruction.Instruction.{Instruction}
use Rattle.machine.specs.declared.job.Job.{Job}
use Rattle.machine.specs.declared.verdict.Flaw.{Flaw}
use Rattle.machine.specs.declared.paper.Refusal.{Refusal}

-- ---- a job's instructions, from the k-th on
module _ (bs : List ℕ) (code : List Instruction) (k n : ℕ) (long : length code ≡ 64) where
  pub job_on : (i : Instruction) (R : List Instruction) → k < n → n ≤ 64 → i ≡ instruction (take (length bs - 9 * k) (drop (9 * k) bs))
      → take k code ++ instructions (n - k) (drop (9 * k) bs) ≡ R → take (k + 1) (set code k i) ++ instructions (n - (k + 1)) (drop (9 * (k + 1)) bs) ≡ R
  unfolding instructions
  job_on i R l m e q =
      let s : 9 * suc k ≡ 9 * k + 9 = omega arith in
      rw (add-one, take-suc-set code k i (omega arith), append_assoc, s, ← drop-drop 9 (9 * k) bs, e, take_rest bs (9 * k))
      (one (n - suc k) ∙ ap (λ (z : ℕ). take k code ++ instructions z (drop (9 * k) bs)) (let w : suc (n - suc k) ≡ n - k = omega arith in w) ∙ q)
    where
      one : (z : ℕ) → take k code ++ (instruction (drop (9 * k) bs) ∷ [] ++ instructions z (drop 9 (drop (9 * k) bs))) ≡ take k code ++ instructions (suc z) (drop (9 * k) bs)
      one z = refl

  pub job_end : (R : List Instruction) → n ≤ k → k ≤ n → n ≤ 64 → take k code ++ instructions (n - k) (drop (9 * k) bs) ≡ R → code_of (record { code = code; size = n }) ≡ R
  unfolding instructions
  job_end R l l' m q =
      let e : k ≡ n = omega arith in
      firsts_take n stopping code (omega arith) ∙ ap (λ (z : ℕ). take z code) (sym e) ∙ none (n - k) (omega arith) ∙ q
    where
      none : (z : ℕ) → z ≤ 0 → take k code ≡ take k code ++ instructions z (drop (9 * k) bs)
      none zero w = sym (append-nil (take k code))
      none (suc z) w = absurd (omega arith)

pub job_start : (bs : List ℕ) (n : ℕ) (code : List Instruction) → take 0 code ++ instructions (n - 0) (drop (9 * 0) bs) ≡ instructions n bs
job_start bs n code = simp sub-zero

-- instructions look no further than their bytes
take_less : (k m : ℕ) (xs : List ℕ) → k ≤ m → take k (take m xs) ≡ take k xs
take_less zero m xs l = refl
take_less (suc k) zero xs l = absurd (omega arith)
take_less (suc k) (suc m) [] l = refl
take_less (suc k) (suc m) (x ∷ xs) l = ap (λ (ys : List ℕ). x ∷ ys) (take_less k m xs (omega arith))

instruction_take : (m : ℕ) (bs : List ℕ) → instruction (take (9 + m) bs) ≡ instruction bs
unfolding instruction
instruction_take m bs =
    let s : 9 + m ≡ 1 + (8 + m) = omega arith in
    rw (s, get_or-take (1 + (8 + m)) bs 0 0 (omega arith), drop-take 1 (8 + m) bs, take_less 8 (8 + m) (drop 1 bs) (omega arith)) refl

instructions_take : (k m : ℕ) (bs : List ℕ) → instructions k (take (9 * k + m) bs) ≡ instructions k bs
unfolding instructions
instructions_take zero m bs = refl
instructions_take (suc k) m bs =
    let s : 9 * suc k + m ≡ 9 + (9 * k + m) = omega arith in
    rw (s, instruction_take (9 * k + m) bs, drop-take 9 (9 * k + m) bs, instructions_take k m (drop 9 bs)) refl

pub ruleset job_of_laws = (job_start, job_on, job_end)

-- ---- one field
module _ (bs : List ℕ) (count : ℕ) (frame : frame_of (16 - count) bs ≡ sound) where
  told : Framed (16 - count) bs
  told = framed (16 - count) bs frame

  module _ (n : ℕ) (en : n ≡ size bs) where
    abbrev contents : List ℕ
    contents = take (3 + n - 3) (drop 3 bs)

    contents_is : contents ≡ take n (drop 3 bs)
    contents_is = let w : 3 + n - 3 ≡ n = omega arith in rw w refl

    contents_long : length contents ≡ n
    contents_long = rw contents_is (length-take-le n (drop 3 bs) (rw length-drop (omega (arith, told.whole))))

    whole_job : (k m : ℕ) → m ≡ 9 * k + 0 → instructions k (take m (drop 3 bs)) ≡ instructions k (drop 3 bs)
    whole_job k m e = rw e (instructions_take k 0 (drop 3 bs))

    module _ (j : Job) (ej : code_of j ≡ instructions (length contents / 9) contents) where
      pub take_is : code_of j ≡ job_of bs
      unfolding job_of
      take_is = ej ∙ rw (contents_long, contents_is, ← en) (whole_job (n / 9) n (omega (arith, told.nines)))

      module _ (c : Result (Unit {0}) Flaw) (ec : finding_of c ≡ job_verdict (code_of j)) where
        field : finding_of c ≡ field_of (16 - count) bs
        unfolding field_of
        field = rw frame (ec ∙ ap job_verdict take_is)

        pub take_fault : (x : Flaw) → c ≡ Err x → Takes (16 - count) bs (Err x)
        unfolding finding_of
        take_fault x t = record { check = rw t at field; job = λ k v. absurd (let z : ◌≡◌ {A = ℕ} 0 1 = cc in omega arith) }

        pub take_job : (u : Unit {0}) → c ≡ Ok u → Takes (16 - count) bs (Ok j)
        unfolding finding_of
        take_job u t = record { check = rw t at field; job = λ k v. let w : j ≡ k = cc in ap code_of (sym w) ∙ take_is }

pub ruleset take_laws = (take_fault, take_job)

-- ---- the loop over the fields
-- jobs read so far, joined to the answer for the rest
abbrev pub joined : List (List Instruction) → Answer → Answer
joined js (jobs more) = jobs (js ++ more)
joined js (refused n f p) = refused n f p

joined_with : (js : List (List Instruction)) (j : List Instruction) (a : Answer) → joined (js ++ (j ∷ [])) a ≡ joined js (with j a)
joined_with js j (jobs more) = ap jobs (append_assoc js (j ∷ []) more)
joined_with js j (refused n f p) = refl

not_end : (bs : List ℕ) (a : Answer) → 0 < length bs → unless_end bs a ≡ a
not_end [] a l = absurd (omega arith)
not_end (b ∷ bs) a l = refl

fields_stop : (more f : ℕ) (bs : List ℕ) (n p : ℕ) → 0 < length bs → field_of more bs ≡ fault n p → fields more f bs ≡ refused n f p
unfolding fields
fields_stop zero f bs n p l e = not_end bs _ l ∙ rw e refl
fields_stop (suc more) f bs n p l e = not_end bs _ l ∙ rw e refl

fields_on : (more f : ℕ) (bs : List ℕ) → 0 < length bs → 0 < more → field_of more bs ≡ sound → fields more f bs ≡ with (job_of bs) (fields (more - 1) (suc f) (later bs))
unfolding fields
fields_on zero f bs l m e = absurd (omega arith)
fields_on (suc more) f bs l m e = not_end bs _ l ∙ rw e (let w : more ≡ suc more - 1 = omega arith in ap (λ (k : ℕ). with (job_of bs) (fields k (suc f) (later bs))) w)

module _ (bs : List ℕ) (count : ℕ) (js : List Job) (R : Answer) (inv : joined (map code_of (take count js)) (fields (16 - count) (count + 1) bs) ≡ R) where
  abbrev so_far : List (List Instruction)
  so_far = map code_of (take count js)

  module _ (e : Bool) (ee : e ≡ eqb (length bs) 0) where
    pub some_left : not e ≡ true → 0 < length bs
    some_left t = let w : eqb (length bs) 0 ≡ false = sym ee ∙ not-true e t in omega (arith, eqb-false (length bs) 0 w)

    pub none_left : not e ≡ false → length bs ≡ 0
    none_left t = eqb-true (length bs) 0 (sym ee ∙ not-false e t)

  module _ (some : 0 < length bs) (r : Result Job Flaw) (er : Takes (16 - count) bs r) where
    pub paper_stop : (x : Flaw) (a : Refusal) → r ≡ Err x → a.fault ≡ x.fault → a.field.0 ≡ count + 1 → a.place ≡ x.place → Answers (Err a) R
    unfolding finding_of
    paper_stop x a t h k l =
        let f = fields_stop (16 - count) (count + 1) bs (number x.fault) x.place.0 some (sym er.check ∙ ap finding_of t) in
        let w : refused (number x.fault) (count + 1) x.place.0 ≡ R = ap (joined so_far) (sym f) ∙ inv in
        rw (← w) (record { answer = rw (h, k, l) refl; count = refl })

    module _ (j : Job) (t : r ≡ Ok j) where
      is_sound : field_of (16 - count) bs ≡ sound
      unfolding finding_of
      is_sound = sym er.check ∙ ap finding_of t

      known : Framed (16 - count) bs
      unfolding field_of
      known = framed (16 - count) bs (both_sound (frame_of (16 - count) bs) (job_verdict (job_of bs)) is_sound).0

      pub allowed : count < 16
      allowed = omega (arith, known.allowed)

      pub next_count : count + 1 ≤ 16
      next_count = omega (arith, allowed)

      pub next_whole : 3 + size bs ≤ length bs
      next_whole = known.whole

      module _ (rest : List ℕ) (e : rest ≡ later bs) where
        pub next_nearer : length rest < length bs
        unfolding later
        next_nearer = rw (e, length-drop) (omega (arith, known.whole))

        pub paper_on : length js ≡ 16 → joined (map code_of (take (count + 1) (set js count j))) (fields (16 - (count + 1)) (count + 1 + 1) rest) ≡ R
        paper_on l =
            rw (e, add-one count, take-suc-set js count j (omega (arith, allowed)), map-append)
            (joined_with so_far (code_of j) (fields (16 - suc count) (suc count + 1) (later bs))
            ∙ ap (λ (a : Answer). joined so_far (with (code_of j) a)) same
            ∙ ap (λ (i : List Instruction). joined so_far (with i (fields (16 - count - 1) (suc (count + 1)) (later bs)))) (er.job j t)
            ∙ ap (joined so_far) (sym (fields_on (16 - count) (count + 1) bs some known.allowed is_sound)) ∙ inv)
          where
            same : fields (16 - suc count) (suc count + 1) (later bs) ≡ fields (16 - count - 1) (suc (count + 1)) (later bs)
            same =
                let u : 16 - suc count ≡ 16 - count - 1 = omega arith in
                let w : suc count + 1 ≡ suc (count + 1) = omega arith in
                rw (u, w) refl

  pub paper_end : length bs ≡ 0 → count ≤ 16 → length js ≡ 16 → Answers (Ok (record { count = count; jobs = js })) R
  unfolding fields
  paper_end l m k =
      let w : jobs so_far ≡ R = ap jobs (sym (append-nil so_far)) ∙ ap (joined so_far) (sym (none (16 - count))) ∙ inv in
      rw (← w) (record {
        answer = ap (λ (x : List Job). jobs (map code_of x)) (firsts_take count no_job js (omega arith));
        count = sym (length-map (take count js) code_of ∙ length-take-le count js (omega arith));
      })
    where
      go : (k : ℕ) → fields k (count + 1) [] ≡ jobs []
      go zero = refl
      go (suc k) = refl

      none : (k : ℕ) → fields k (count + 1) bs ≡ jobs []
      none k = rw (drop_of_length-le bs {i = 0} (omega arith)) (go k)

pub paper_start : (bs : List ℕ) (js : List Job) → joined (map code_of (take 0 js)) (fields (16 - 0) (0 + 1) bs) ≡ paper_answer bs
paper_start bs js = go (fields 16 1 bs)
  where
    go : (a : Answer) → joined [] a ≡ a
    go (jobs more) = refl
    go (refused n f p) = refl

pub ruleset paper_laws = (some_left, none_left, paper_start, paper_stop, allowed, next_count, next_whole, next_nearer, paper_on, paper_end)
