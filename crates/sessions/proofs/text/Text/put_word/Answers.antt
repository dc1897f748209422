-- Each byte below 6 has its word,
-- and every other stands for none.
use borrow.Author.Rules.{rules}
use Rattle.sessions.specs.Text.{word_text, byte_text}
use Rattle.sessions.proofs.Laws.Text.{word_none}
use Rattle.sessions.proofs.text.Text.put_word.Goals as goal
use Rattle.sessions.proofs.text.Text.put_word.Goals.{in-0, in-1, in-2, in-3, in-4, in-5, in_default}

pub returns : goal.returns
unfolding word_text byte_text
returns c = elim c.match-word.branch [
  | in-0 w ↦ rw w.in-0.is (rw w.text-is at c.put_all.ensures)
  | in-1 w ↦ rw w.in-1.is (rw w.text-is at c.put_all.ensures)
  | in-2 w ↦ rw w.in-2.is (rw w.text-is at c.put_all.ensures)
  | in-3 w ↦ rw w.in-3.is (rw w.text-is at c.put_all.ensures)
  | in-4 w ↦ rw w.in-4.is (rw w.text-is at c.put_all.ensures)
  | in-5 w ↦ rw w.in-5.is (rw w.text-is at c.put_all.ensures)
  | in_default w ↦ let p = rw w.text-is at c.put_all.ensures in search (word_none, rules)
]
