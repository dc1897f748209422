-- A refusal of the checker has a number, which is not 0: every fault that it can find has one.
use Rattle.std.specs.Prelude.{◌≡◌, Bool, true, false, not, cond, ◌&&◌, ◌||◌, List, [], ◌∷◌, ℕ, zero, suc, ◌+◌, ◌%◌, ◌<◌, eqb, leb, ltb, length, get_or}
use Rattle.std.proofs.Common.{arith}
use Rattle.machine.specs.Instruction.{READ, WRITE, known, fits, leads_on, need, after}
use Rattle.machine.specs.Limits.{LONGEST, ROOM, FEW, JOBS}
use Rattle.machine.specs.Verdict.{Finding, sound, fault, and_then, scan, at, count, form_of, form_at, end_of, brought, entries_of, entries_at, size_of, flow_of, verdict_of, job_verdict}
use Rattle.machine.specs.Paper.{size, tag, job_of, later, frame_of, field_of, Answer, jobs, refused, with, on_sound, unless_end, fields, paper_answer}
use Rattle.machine.specs.declared.instruction.Instruction.{Instruction}
use Rattle.machine.specs.declared.verdict.Met.{Met}
use Rattle.machine.specs.declared.verdict.Met.TheVariants.{Nobody, Height, Clash}

-- a finding that is a fault has a number
abbrev Numbered : Finding → Type 0
Numbered sound = Unit
Numbered (fault n p) = 0 < n

then_numbered : (a b : Finding) → Numbered a → Numbered b → Numbered (and_then a b)
then_numbered sound b h k = k
then_numbered (fault n p) b h k = h

if_numbered : (t : Bool) (a b : Finding) → Numbered a → Numbered b → Numbered (cond t a b)
if_numbered true a b h k = h
if_numbered false a b h k = k

scan_numbered : (f : ℕ → Finding) → ((p : ℕ) → Numbered (f p)) → (p k : ℕ) → Numbered (scan f p k)
unfolding scan
scan_numbered f h p zero = tt
scan_numbered f h p (suc k) = then_numbered (f p) (scan f (suc p) k) (h p) (scan_numbered f h (suc p) k)

entries_numbered : (room : ℕ) (i : Instruction) (p : ℕ) (m : Met) → Numbered (entries_of room i p m)
entries_numbered room i p Nobody = omega arith
entries_numbered room i p (Height h) = if_numbered (leb (need i) h && leb (after i h) room) sound (fault 9 p) tt (omega arith)
entries_numbered room i p (Clash h) = omega arith

form_numbered : (few : ℕ) (is : List Instruction) (p : ℕ) → Numbered (form_at few is p)
unfolding form_at form_of
form_numbered few is p =
    let i = at is p in
    if_numbered (known i) _ (fault 5 p)
    (if_numbered (fits (length is) p i) _ (fault 6 p)
    (if_numbered ((eqb i.code READ && leb few (count is READ p)) || (eqb i.code WRITE && leb few (count is WRITE p))) (fault 11 p) sound (omega arith) tt) (omega arith)) (omega arith)

verdict_numbered : (is : List Instruction) → Numbered (job_verdict is)
unfolding verdict_of flow_of size_of end_of entries_at
verdict_numbered is =
    then_numbered (size_of LONGEST (length is)) _ (if_numbered (eqb (length is) 0 || ltb LONGEST (length is)) (fault 4 0) sound (omega arith) tt)
    (then_numbered (scan (form_at FEW is) 0 (length is)) _ (scan_numbered (form_at FEW is) (form_numbered FEW is) 0 (length is))
    (then_numbered (end_of is) _ (if_numbered (leads_on (at is _)) (fault 7 _) sound (omega arith) tt)
    (scan_numbered (entries_at ROOM LONGEST is) (λ p. entries_numbered ROOM (at is p) p (get_or (brought LONGEST is p) p Nobody)) 0 (length is))))

frame_numbered : (more : ℕ) (bs : List ℕ) → Numbered (frame_of more bs)
unfolding frame_of
frame_numbered more bs =
    if_numbered (ltb (length bs) 3) (fault 1 0) _ (omega arith)
    (if_numbered (ltb (length bs) (3 + size bs)) (fault 1 0) _ (omega arith)
    (if_numbered (not (eqb (tag bs) 16)) (fault 2 0) _ (omega arith)
    (if_numbered (eqb more 0) (fault 3 0) _ (omega arith) (if_numbered (eqb (size bs) 0 || ltb 576 (size bs) || not (eqb (size bs % 9) 0)) (fault 4 0) sound (omega arith) tt))))

field_numbered : (more : ℕ) (bs : List ℕ) → Numbered (field_of more bs)
unfolding field_of
field_numbered more bs = then_numbered (frame_of more bs) (job_verdict (job_of bs)) (frame_numbered more bs) (verdict_numbered (job_of bs))

-- .. and so has an answer that is a refusal
abbrev Told : Answer → Type 0
Told (jobs js) = Unit
Told (refused n f p) = 0 < n

with_told : (j : List Instruction) (a : Answer) → Told a → Told (with j a)
with_told j (jobs js) h = tt
with_told j (refused n f p) h = h

found_told : (f : ℕ) (x : Finding) (a : Answer) → Numbered x → Told a → Told (on_sound f x a)
found_told f sound a h k = k
found_told f (fault n p) a h k = h

end_told : (bs : List ℕ) (a : Answer) → Told a → Told (unless_end bs a)
end_told [] a h = tt
end_told (b ∷ bs) a h = h

fields_told : (more f : ℕ) (bs : List ℕ) → Told (fields more f bs)
unfolding fields
fields_told zero f bs = end_told bs _ (found_told f (field_of 0 bs) (jobs []) (field_numbered 0 bs) tt)
fields_told (suc more) f bs =
    end_told bs _ (found_told f (field_of (suc more) bs) _ (field_numbered (suc more) bs) (with_told (job_of bs) (fields more (suc f) (later bs)) (fields_told more (suc f) (later bs))))

pub refused_numbered : (bs : List ℕ) (n f p : ℕ) → paper_answer bs ≡ refused n f p → 0 < n
refused_numbered bs n f p e = rw e at (fields_told JOBS 1 bs)
