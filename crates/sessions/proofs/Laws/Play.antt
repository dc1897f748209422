-- A whole session: the parts of its bytes are the code's parts, an opened block fits after any turns, and f is the number of final words;
-- so the lines that are put are the session's text.
use mathlib.Core.Path.{◌≡◌, refl, ap, ◌∙◌}
use mathlib.Core.Bool.{true}
use mathlib.Core.List.{List, [], ◌∷◌}
use Prim.Native.Nat.{ℕ, zero, suc, ◌+◌, ◌≤◌, ◌<◌}
use native.Mathlib.Omega.{arith}
use lib.ListN.{length}
use borrow.Author.Tests.{eq-eqb}
use Rattle.std.specs.Prelude.{Result}
use Rattle.theory.specs.Word as W
use Rattle.theory.specs.Engine as E
use Rattle.theory.specs.Word.{final_word}
use Rattle.theory.proofs.Finals.{finals_turn}
use Rattle.theory.proofs.Sizes.{turns_fit}
use Rattle.machine.specs.Machine.{Running}
use Rattle.machine.specs.View.{number, number_some}
use Rattle.machine.specs.declared.verdict.Fault.{Fault}
use Rattle.rules.specs.Box.{box, limits, box_promise}
use Rattle.rules.specs.Block.{block_of}
use Rattle.turns.specs.Many.{words, byte_of, bytes, if_long, Takes}
use Rattle.turns.specs.Open.{opening_of, Opens}
use Rattle.turns.specs.Settled.{unless_unsettled, settled_table, Settles}
use Rattle.turns.specs.Demands.{open_fits, open_finals}
use Rattle.rules.specs.declared.block.Block.{Block}
use Rattle.turns.specs.declared.many.Taken.{Taken}
use Rattle.turns.specs.declared.open.Opened.{Opened}
use Rattle.turns.specs.declared.settled.SettleRefusal.{SettleRefusal}
use Rattle.sessions.specs.Limits.{TURNS}
use Rattle.sessions.specs.Text.{word_text, byte_text, final_byte, byte_lines, cell_lines, refused_line, Written}
use Rattle.sessions.specs.Fields.{session, malformed, session_of}
use Rattle.sessions.specs.Session.{turn_lines, played, unless_refused, text_of, session_text, Fresh}
use Rattle.sessions.specs.declared.text.Text.{Text}
use Rattle.sessions.proofs.Laws.Text.{written_then}

-- ---- the turns' lines
byte_text_lem : (w : W.Word) → byte_text (byte_of w) ≡ word_text w
unfolding byte_text byte_of word_text
byte_text_lem W.idle = refl
byte_text_lem W.back = refl
byte_text_lem W.step = refl
byte_text_lem W.end = refl
byte_text_lem W.final = refl
byte_text_lem W.wait = refl
byte_text_lem W.bad_ticket = refl
byte_text_lem W.stuck = refl

byte_final : (w : W.Word) → final_byte (byte_of w) ≡ final_word w
unfolding final_byte byte_of
byte_final W.idle = refl
byte_final W.back = refl
byte_final W.step = refl
byte_final W.end = refl
byte_final W.final = refl
byte_final W.wait = refl
byte_final W.bad_ticket = refl
byte_final W.stuck = refl

lines_are : (f : ℕ) (b : E.Block Running) (ts : List ℕ) → E.finals limits box b.jobs ≡ f → byte_lines f ts (bytes b ts) ≡ turn_lines b ts
unfolding bytes words byte_lines turn_lines
lines_are f b [] e = refl
lines_are f b (t ∷ ts) e =
    let r = E.turn limits box b t in
    let g : E.finals limits box r.block.jobs ≡ f + final_word r.word = finals_turn limits box b t ∙ ap (λ (k : ℕ). k + final_word r.word) e in
    rw (byte_text_lem r.word, byte_final r.word, g, lines_are (f + final_word r.word) r.block ts g) refl

module _ (b : Block) (ts before : List ℕ) (r : Taken) (after : List ℕ) (long : length before ≡ length ts) (taken : Takes b ts before r after) where
  bytes_are : after ≡ bytes (block_of b) ts
  unfolding if_long
  bytes_are = taken.words ∙ rw (eq-eqb (length before) (length ts) long) refl

  block_is : block_of r.block ≡ E.turns limits box (block_of b) ts
  unfolding if_long
  block_is = taken.block ∙ rw (eq-eqb (length before) (length ts) long) refl

  module _ (fresh : Fresh (block_of b) ts) where
    pub turned_fits : E.block_fits limits box (block_of r.block) ≡ true
    turned_fits = rw block_is (turns_fit limits box box_promise (block_of b) ts fresh.fits)

    pub turned_played : (start mid end : Text) → Written start (byte_lines 0 ts after) mid → Written mid (cell_lines 0 (E.settled limits box (block_of r.block))) end
        → Written start (played (block_of b) ts) end
    unfolding played
    turned_played start mid end p q =
        written_then (rw (bytes_are, lines_are 0 (block_of b) ts fresh.none_final) at p) (rw block_is at q)

pub ruleset turned_laws = (turned_fits, turned_played)

module _ (b : Block) (fits : E.block_fits limits box (block_of b) ≡ true) (before : List ℕ) (s : Result ℕ SettleRefusal) (table : List ℕ) (whole : length before ≡ 256) (settles : Settles b before s table) where
  pub settled_put : (start end : Text) → Written start (cell_lines 0 table) end → Written start (cell_lines 0 (E.settled limits box (block_of b))) end
  unfolding settled_table unless_unsettled
  settled_put start end p =
      let t : table ≡ E.settled limits box (block_of b) = settles.table ∙ rw (eq-eqb (length before) 256 whole, fits) refl in
      rw t at p

-- ---- what became of an opening: no refusal has the number 0
numbered : (n field place : ℕ) (text : List ℕ) → 0 < n → unless_refused (n, field, place) text ≡ refused_line (n, field, place)
unfolding unless_refused
numbered zero field place text l = absurd (omega arith)
numbered (suc n) field place text l = refl

pub refused_lines : (f : Fault) (field place : ℕ) (text : List ℕ) → unless_refused (number f, field, place) text ≡ refused_line (number f, field, place)
refused_lines f field place text = numbered (number f) field place text (number_some f)

-- ---- the whole session
module _ (input : List ℕ) {start end : Text} where
  pub session_breach : session_of input ≡ malformed → Written start (refused_line (13, 0, 0)) end → Written start (session_text input) end
  unfolding session_text text_of
  session_breach e h = rw e h

  pub session_opened : {table paper ts : List ℕ} {o : Opened} → session_of input ≡ session table paper ts → Opens table paper o
      → Written start (unless_refused (opening_of o.answer) (played (block_of o.block) ts)) end → Written start (session_text input) end
  unfolding session_text text_of
  session_opened e opens h = rw (e, ← opens.answer, ← opens.block) h

pub opened_fresh : {start paper ts : List ℕ} {o : Opened} → Opens start paper o → length ts ≤ TURNS → Fresh (block_of o.block) ts
opened_fresh {start} {paper} opens l = rw opens.block (record { fits = open_fits start paper; none_final = open_finals start paper; few = l })
