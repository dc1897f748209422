-- What the code's words stand for, document 01's number of a refused turn, and how a line shows each.
use Rattle.std.specs.Prelude.{ℕ, List, cond, eqb}
use Rattle.std.specs.Fmt.{decimal}
use Rattle.theory.specs.Word as W
use Rattle.words.specs.declared.word.Word.{Word}
use Rattle.words.specs.declared.word.Word.TheVariants.{Idle, Back, Step, End, Final, Wait, BadTicket, Stuck}

unfoldable pub word_of : Word → W.Word
word_of Idle = W.idle
word_of Back = W.back
word_of Step = W.step
word_of End = W.end
word_of Final = W.final
word_of Wait = W.wait
word_of BadTicket = W.bad_ticket
word_of Stuck = W.stuck

-- 0 for a turn that was taken
abbrev pub refusal_of : Word → ℕ
refusal_of w = W.refusal (word_of w)

-- as a line shows it: its text, and a refused turn's number
abbrev pub shown : Word → List ℕ
shown w = cond (eqb (refusal_of w) 0) (W.word_text (word_of w)) (decimal (refusal_of w))
