-- Text in a lent buffer: a text in two pieces is the first piece and then the second where the first ended; and a loop that puts piece
-- after piece has still to put what is left of the whole.
use mathlib.Core.Path.{◌≡◌, refl, ap, sym, ◌∙◌}
use mathlib.Core.Bool.{Bool, true, false, cond}
use mathlib.Core.List.{List, [], ◌∷◌, ◌++◌}
use mathlib.Core.Logic.{◌⊎◌, inl, inr}
use Prim.Native.Nat.{ℕ, zero, suc, ◌+◌, ◌/◌, ◌%◌, ◌^◌, ◌≤◌, ◌<◌, min}
use native.Mathlib.Omega.{arith}
use native.Mathlib.Numerals.{add-one}
use native.Mathlib.Nat.{add-zero, pow-suc}
use native.Mathlib.Decide.{dec_lt}
use lib.Dec.{eqb}
use lib.ListN.{length, get_or, set, drop, length-set, length-append, drop_of_length-le}
use lib.Seq.{drop-cons}
use mir.Val.{bool_byte}
use borrow.Author.Tests.{lt-ltb, le-ltb}
use Rattle.sessions.specs.Text.{digits, decimal, word_text, byte_text, final_byte, turn_line, byte_lines, cell_line, cell_lines, put, Puts, Written}
use Rattle.sessions.specs.declared.text.Text.{Text}

-- ---- pieces of text
set_past : (out : List ℕ) (at x : ℕ) → length out ≤ at → set out at x ≡ out
set_past [] at x l = refl
set_past (o ∷ out) zero x l = absurd (omega arith)
set_past (o ∷ out) (suc at) x l = ap (λ (r : List ℕ). o ∷ r) (set_past out at x (omega arith))

length_put : (out : List ℕ) (at : ℕ) (text : List ℕ) → length (put out at text) ≡ length out
unfolding put
length_put out at [] = refl
length_put out at (x ∷ text) = length_put (set out at x) (suc at) text ∙ length-set out at x

put_past : (out : List ℕ) (at : ℕ) (text : List ℕ) → length out ≤ at → put out at text ≡ out
unfolding put
put_past out at [] l = refl
put_past out at (x ∷ text) l = rw (set_past out at x l) (put_past out (suc at) text (omega arith))

put_then : (out : List ℕ) (at : ℕ) (xs ys : List ℕ) → put out at (xs ++ ys) ≡ put (put out at xs) (at + length xs) ys
unfolding put
put_then out at [] ys = rw (add-zero at) refl
put_then out at (x ∷ xs) ys = put_then (set out at x) (suc at) xs ys ∙ ap (λ (k : ℕ). put (put (set out at x) (suc at) xs) k ys) (omega arith)

-- from a place past the end it is all the same which
put_cut : (out : List ℕ) (at : ℕ) (text : List ℕ) → put out (min at (length out)) text ≡ put out at text
put_cut out at text = go (dec_lt at (length out))
  where
    go : Dec (at < length out) → put out (min at (length out)) text ≡ put out at text
    go (yes l) = ap (λ (k : ℕ). put out k text) (omega arith)
    go (no l) = put_past out (min at (length out)) text (omega arith) ∙ sym (put_past out at text (omega arith))

module _ (out : List ℕ) (at : ℕ) (inside : at ≤ length out) where
  puts_nothing : Puts out at [] out at
  unfolding put
  puts_nothing = record { written = refl; ended = omega arith }

  module _ (x : ℕ) where
    pub put_room : at < length out → Puts out at (x ∷ []) (set out at x) (at + 1)
    unfolding put
    put_room l = record { written = refl; ended = omega arith }

    pub put_full : length out ≤ at → Puts out at (x ∷ []) out at
    unfolding put
    put_full l = record { written = sym (set_past out at x l); ended = omega arith }

pub ruleset put_laws = (put_room, put_full)

module _ (out : List ℕ) (at : ℕ) (xs mid : List ℕ) (n : ℕ) (p : Puts out at xs mid n) where
  puts_long : length mid ≡ length out
  puts_long = ap length p.written ∙ length_put out at xs

  same_place : n ≡ min (at + length xs) (length mid)
  same_place = rw puts_long p.ended

  rest_is : (ys : List ℕ) → put mid n ys ≡ put out at (xs ++ ys)
  rest_is ys =
      ap (λ (k : ℕ). put mid k ys) same_place ∙ put_cut mid (at + length xs) ys
      ∙ ap (λ (o : List ℕ). put o (at + length xs) ys) p.written ∙ sym (put_then out at xs ys)

  puts_then : (ys end : List ℕ) (m : ℕ) → Puts mid n ys end m → Puts out at (xs ++ ys) end m
  puts_then ys end m q = record {
    written = q.written ∙ rest_is ys;
    ended = omega (arith, q.ended, p.ended, puts_long, length-append xs ys);
  }

-- ---- a text, and more after it
pub written_none : (t : Text) → Written t [] t
written_none t = record { same_reference = refl; puts = puts_nothing t.out.now t.at t.within }

pub written_then : {a b c : Text} {xs ys : List ℕ} → Written a xs b → Written b ys c → Written a (xs ++ ys) c
written_then {a} {b} {c} {xs} {ys} p q = record {
  same_reference = q.same_reference ∙ p.same_reference;
  puts = puts_then a.out.now a.at xs b.out.now b.at p.puts ys c.out.now c.at q.puts;
}

-- ---- a loop: the rest is still to put, and then the whole was
pub record Still (before : Text) (whole : List ℕ) (now : Text) (rest : List ℕ) : Type 0 where
  pub whole_then : (after : Text) → Written now rest after → Written before whole after

still_on : {before now next : Text} {whole xs rest : List ℕ} → Still before whole now (xs ++ rest) → Written now xs next → Still before whole next rest
still_on s p = record { whole_then = λ after w. s.whole_then after (written_then p w) }

still_end : {before now : Text} {whole : List ℕ} → Still before whole now [] → Written before whole now
still_end {before} {now} s = s.whole_then now (written_none now)

-- ---- bytes, one by one
module _ (before now : Text) (bytes : List ℕ) (k : ℕ) (s : Still before bytes now (drop k bytes)) where
  pub all_on : (next : Text) → k < length bytes → Written now (get_or bytes k 0 ∷ []) next → Still before bytes next (drop (k + 1) bytes)
  all_on next l p = rw (add-one k) (still_on {xs = get_or bytes k 0 ∷ []} (rw (drop-cons bytes k 0 l) at s) p)

  pub all_end : length bytes ≤ k → Written before bytes now
  all_end l = still_end (rw (drop_of_length-le bytes l) at s)

pub ruleset all_laws = (all_on, all_end)

-- ---- a number in decimal
-- digits enough are enough
more_digits : (k n : ℕ) → n < 10 ^ suc k → digits (suc k) n ≡ digits (suc (suc k)) n
unfolding digits
more_digits zero n l = rw (lt-ltb n 10 l) refl
more_digits (suc k) n l = go (dec_lt n 10) (more_digits k (n / 10) (omega (arith, pow-suc 10 (suc k))))
  where
    go : Dec (n < 10) → digits (suc k) (n / 10) ≡ digits (suc (suc k)) (n / 10) → digits (suc (suc k)) n ≡ digits (suc (suc (suc k))) n
    go (yes m) h = rw (lt-ltb n 10 m) refl
    go (no m) h = rw (le-ltb n 10 (omega arith)) (ap (λ (d : List ℕ). d ++ ((48 + n % 10) ∷ [])) h)

module _ (n : ℕ) where
  one_digit : n < 10 → (48 + n % 10) ∷ [] ≡ decimal n
  unfolding decimal digits
  one_digit l = rw (lt-ltb n 10 l) refl

  last_digit : 10 ≤ n → n < 2 ^ 64 → decimal (n / 10) ++ ((48 + n % 10) ∷ []) ≡ decimal n
  unfolding decimal digits
  last_digit l m =
      let w : n / 10 < 10 ^ 19 = omega arith in
      rw (le-ltb n 10 l) (ap (λ (d : List ℕ). d ++ ((48 + n % 10) ∷ [])) (sym (more_digits 18 (n / 10) w)))

module _ (n : ℕ) (before after : Text) where
  pub decimal_one : n < 10 → Written before ((48 + n % 10) ∷ []) after → Written before (decimal n) after
  decimal_one l p = rw (one_digit n l) at p

  pub decimal_more : (mid : Text) → 10 ≤ n → n < 2 ^ 64 → Written before (decimal (n / 10)) mid → Written mid ((48 + n % 10) ∷ []) after → Written before (decimal n) after
  decimal_more mid l f p q = rw (last_digit n l f) at (written_then p q)

pub ruleset decimal_laws = (decimal_one, decimal_more)

-- ---- the word that a byte stands for
none_text : (w : ℕ) → (w ≡ 0 → ⊥) → (w ≡ 1 → ⊥) → (w ≡ 2 → ⊥) → (w ≡ 3 → ⊥) → (w ≡ 4 → ⊥) → (w ≡ 5 → ⊥) → byte_text 6 ≡ byte_text w
unfolding byte_text
none_text zero a b c d e f = absurd (a refl)
none_text (suc zero) a b c d e f = absurd (b refl)
none_text (suc (suc zero)) a b c d e f = absurd (c refl)
none_text (suc (suc (suc zero))) a b c d e f = absurd (d refl)
none_text (suc (suc (suc (suc zero)))) a b c d e f = absurd (e refl)
none_text (suc (suc (suc (suc (suc zero))))) a b c d e f = absurd (f refl)
none_text (suc (suc (suc (suc (suc (suc n)))))) a b c d e f = refl

pub word_none : (w : ℕ) {before after : Text} → (w ≡ 0 → ⊥) → (w ≡ 1 → ⊥) → (w ≡ 2 → ⊥) → (w ≡ 3 → ⊥) → (w ≡ 4 → ⊥) → (w ≡ 5 → ⊥) → Written before (110 ∷ 111 ∷ 110 ∷ 101 ∷ []) after
    → Written before (byte_text w) after
unfolding byte_text word_text
word_none w a b c d e f p = rw (sym (none_text w a b c d e f)) p

-- ---- the turns' lines
-- what the code adds to f
final_is : (w : ℕ) → bool_byte (eqb w 4) ≡ final_byte w
unfolding final_byte
final_is w = go (eqb w 4)
  where
    go : (t : Bool) → bool_byte t ≡ cond t 1 0
    go true = refl
    go false = refl

byte_few : (w : ℕ) → final_byte w ≤ 1
unfolding final_byte
byte_few w = go (eqb w 4)
  where
    go : (t : Bool) → cond t 1 0 ≤ 1
    go true = omega arith
    go false = omega arith

none_left : (f : ℕ) (ts ws : List ℕ) → (length ts ≡ 0) ⊎ (length ws ≡ 0) → byte_lines f ts ws ≡ []
unfolding byte_lines
none_left f [] ws e = refl
none_left f (t ∷ ts) [] e = refl
none_left f (t ∷ ts) (w ∷ ws) (inl e) = absurd (omega arith)
none_left f (t ∷ ts) (w ∷ ws) (inr e) = absurd (omega arith)

module _ (before now : Text) (whole : List ℕ) (f : ℕ) (ts ws : List ℕ) (s : Still before whole now (byte_lines f ts ws)) where
  pub lines_on : (t w x : ℕ) (rest others : List ℕ) (next : Text) → ts ≡ t ∷ rest → ws ≡ w ∷ others → x ≡ bool_byte (eqb w 4) → Written now (turn_line t (byte_text w) (f + x)) next
      → Still before whole next (byte_lines (f + x) rest others)
  unfolding byte_lines
  lines_on t w x rest others next et ew e p = still_on {xs = turn_line t (byte_text w) (f + x)} (rw (et, ew, ← final_is w, ← e) at s) p

  pub lines_end : (length ts ≡ 0) ⊎ (length ws ≡ 0) → Written before whole now
  lines_end e = still_end (rw (none_left f ts ws e) at s)

module _ (f x w t all : ℕ) (ts rest : List ℕ) (ex : x ≡ bool_byte (eqb w 4)) (et : ts ≡ t ∷ rest) (few : f + length ts ≤ all) where
  pub lines_count : f + x + length rest ≤ all
  lines_count = omega (arith, byte_few w, final_is w, ap length et)

pub ruleset lines_laws = (lines_on, lines_end, lines_count)

-- ---- the cells' lines
module _ (before now : Text) (vs : List ℕ) (k : ℕ) (s : Still before (cell_lines 0 vs) now (cell_lines k (drop k vs))) where
  pub cells_on : (next : Text) → k < length vs → Written now (cell_line k (get_or vs k 0)) next → Still before (cell_lines 0 vs) next (cell_lines (k + 1) (drop (k + 1) vs))
  unfolding cell_lines
  cells_on next l p = rw (add-one k) (still_on {xs = cell_line k (get_or vs k 0)} (rw (drop-cons vs k 0 l) at s) p)

  pub cells_end : length vs ≤ k → Written before (cell_lines 0 vs) now
  unfolding cell_lines
  cells_end l = still_end (rw (drop_of_length-le vs l) at s)

pub ruleset cells_laws = (cells_on, cells_end)
