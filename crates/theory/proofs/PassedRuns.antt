-- The run of a job that passed. Each listed read is a READ of its run and each entry of its journal a WRITE, so there is always room for the next;
-- and since no READ comes first, a checkpoint has fewer instructions ahead than the start.
use Rattle.std.specs.Prelude.{◌≡◌, refl, ◌≢◌, Bool, true, false, cond, List, [], ◌∷◌, ◌++◌, ℕ, suc, ◌+◌, ◌≤◌, ◌<◌, eqb, length, Option, None, Some}
use Rattle.std.proofs.Common.{sym, ap, ◌∙◌, subst, arith, lt-ltb, length-append}
use Rattle.theory.specs.Word as W
use Rattle.theory.specs.Promise.{Act, nothing, read, write, stop, abandon, stuck, Machine, Promise, Checked, Passed}
use Rattle.theory.specs.Run as R
use Rattle.theory.specs.Engine.{Entry, Read, Job, Status, running, ended, final, last_value, listed_value, find, all_final, settle, moved, read_step, instructed, ruled, move}
use Rattle.theory.proofs.Runs.{Ran, begin, by_nothing, by_write, by_own, by_listed, by_found, entry}
use Rattle.theory.proofs.Invariant.{Good}

length_one : {A : Type 0} (xs : List A) (x : A) → length (xs ++ (x ∷ [])) ≡ suc (length xs)
length_one xs x = length-append xs (x ∷ []) ∙ omega arith

module _ (M : Machine) where
  open M use {S, act, given, left}

  -- the run as so many instructions, with as many WRITE as entries and at least as many READ as listed reads
  record Counted (s₀ : S) (rs : List (Read S)) (j : List Entry) (s : S) : Type 0 where
    instructions : ℕ
    reads : ℕ
    run : R.Run M s₀ instructions reads (length j) s
    enough : length rs ≤ reads

  read_counted : {s₀ s : S} {rs : List (Read S)} {j : List Entry} {c : ℕ} (v : ℕ) → Counted s₀ rs j s → act s ≡ read c → Counted s₀ rs j (given s v)
  read_counted v k e = record { instructions = suc k.instructions; reads = suc k.reads; run = R.by_read v k.run e; enough = omega (arith, k.enough) }

  counted : {s₀ s : S} {rs : List (Read S)} {j : List Entry} → Ran M s₀ rs j s → Counted s₀ rs j s
  counted begin = record { instructions = 0; reads = 0; run = R.begin; enough = omega arith }
  counted (by_nothing p e) = let k = counted p in record { instructions = suc k.instructions; reads = k.reads; run = R.by_nothing k.run e; enough = k.enough }
  counted {s₀} (by_write {j = j} {t = t} {c = c} {v = v} p e) =
      let k = counted p in
      record {
        instructions = suc k.instructions;
        reads = k.reads;
        run = subst (λ n. R.Run M s₀ (suc k.instructions) k.reads n t) (sym (length_one j (entry c v))) (R.by_write k.run e);
        enough = k.enough;
      }
  counted (by_own {v = v} p e q) = read_counted v (counted p) e
  counted (by_listed {v = v} p e q w) = read_counted v (counted p) e
  counted (by_found {rs = rs} r p e q w at) =
      let k = counted p in
      record { instructions = suc k.instructions; reads = suc k.reads; run = R.by_read r.value k.run e; enough = omega (arith, k.enough, length_one rs r) }

  module _ (cells : ℕ) (P : Promise cells M) (K : Checked M) (few : ℕ) (s₀ : S) (p : Passed M K few s₀) {rs : List (Read S)} {j : List Entry} {s : S} (ran : Ran M s₀ rs j s) where
    kept : R.Kept M cells P K s₀ (counted ran).instructions (counted ran).reads (length j) s
    kept = R.run_keeps M cells P K p.ok (counted ran).run

    pub passed_ok : K.Ok s
    passed_ok = kept.ok

    pub passed_not_stuck : act s ≢ stuck
    passed_not_stuck = (R.runs_well M cells P K few s₀ p (counted ran).run).not_stuck

    pub passed_left : left s ≤ left s₀
    passed_left = omega (arith, kept.instructions)

    pub room_to_read : (c : ℕ) → act s ≡ read c → length rs < few
    room_to_read c e = omega (arith, (counted ran).enough, (R.runs_well M cells P K few s₀ p (R.by_read 0 (counted ran).run e)).few_reads)

    pub room_to_write : (c v : ℕ) (t : S) → act s ≡ write c v t → length j < few
    room_to_write c v t e = (R.runs_well M cells P K few s₀ p (R.by_write (counted ran).run e)).few_writes

    -- a READ is not the first instruction
    pub read_later : (c : ℕ) → act s ≡ read c → left s < left s₀
    read_later c e = go (counted ran).run e kept.instructions
      where
        go : {n r w : ℕ} {t : S} → R.Run M s₀ n r w t → act t ≡ read c → n + left t ≤ left s₀ → left t < left s₀
        go R.begin e h = absurd (p.not_read_first c e)
        go (R.by_nothing x q) e h = omega arith
        go (R.by_read v x q) e h = omega arith
        go (R.by_write x q) e h = omega arith

-- ---- so its move is never stuck
abbrev pub is_stuck : W.Word → Bool
is_stuck w = eqb (W.row_of w).refusal (W.row_of W.stuck).refusal

pub not_the_word : (w : W.Word) → is_stuck w ≡ false → w ≢ W.stuck
not_the_word w e q = let z : ◌≡◌ {A = Bool} false true = sym e ∙ ap is_stuck q in absurd (let y : ◌≡◌ {A = ℕ} 0 1 = cc in omega arith)

module _ (few : ℕ) (M : Machine) (cells : ℕ) (P : Promise cells M) (K : Checked M) (table : ℕ → ℕ) (start : ℕ → M.S) where
  open M use {S, act}

  pub move_not_stuck : (st : ℕ → Job S) (i : ℕ) → Passed M K few (start i) → Good M table start st i (st i) → is_stuck (move few M table st i).word ≡ false
  unfolding move
  move_not_stuck st i p g = go (st i).status (st i).mark
    where
      b : Job S
      b = st i

      reads : (c : ℕ) → act b.state ≡ read c → (o o' : Option ℕ) → is_stuck (read_step few M table b c o o' (find table st c i)).word ≡ false
      reads c e (Some v) o' = refl
      reads c e None (Some v) = refl
      reads c e None None = rw (lt-ltb (length b.reads) few (room_to_read M cells P K few (start i) p g.ran c e)) refl

      acts : (a : Act S) → act b.state ≡ a → is_stuck (instructed few M table st i b a).word ≡ false
      acts (nothing s) e = refl
      acts (read c) e = reads c e (last_value b.journal c) (listed_value b.reads c)
      acts (write c v s) e = rw (lt-ltb (length b.journal) few (room_to_write M cells P K few (start i) p g.ran c v s e)) refl
      acts stop e = refl
      acts abandon e = refl
      acts stuck e = absurd (passed_not_stuck M cells P K few (start i) p g.ran e)

      ends : (t : Bool) → is_stuck (cond t (moved W.final (settle b)) (moved W.wait b)).word ≡ false
      ends true = refl
      ends false = refl

      go : (s : Status) (o : Option ℕ) → is_stuck (ruled few M table st i b s o).word ≡ false
      go final o = refl
      go running (Some m) = refl
      go running None = acts (act b.state) refl
      go ended (Some m) = refl
      go ended None = ends (all_final st i)
