-- A refusal returns with nothing changed;
-- an accepted paper's turns settle the serial run of its first f jobs.
use borrow.Author.Rules.{rules}
use Rattle.demands.proofs.Laws.Finish.{finish_table, finish_refused, finish_short, finish_settles, finish_ran}
use Rattle.demands.proofs.finish.finish.Goals as goal

pub returns-then-table : goal.returns-then-table
returns-then-table c = finish_table _ _ _ _ _ c.if-table.true

pub returns-in_err-opened : goal.returns-in_err-opened
returns-in_err-opened c = finish_refused _ _ _ _ _ c.if-table.false _ c.open-opened.ensures _ _ c.in_err-opened.was c.from_residual.ensures.1

pub returns-in-Err : goal.returns-in-Err
returns-in-Err c = finish_short _ _ _ _ _ c.if-table.false _ c.open-opened.ensures c.in_ok-opened.was _ _ c.take_turns-taken.ensures _ _ c.in-Err.is (search (c.from.ensures, rules))

pub unwrap-f-requires : goal.unwrap-f-requires
unwrap-f-requires c =
    finish_settles _ _ _ _ _ c.if-table.false _ c.open-opened.ensures c.in_ok-opened.was _ _ c.take_turns-taken.ensures c.in_default.is _ _ c.settled_table.ensures

pub returns : goal.returns
returns c =
    finish_ran _ _ _ _ _ c.if-table.false _ c.open-opened.ensures c.in_ok-opened.was _ _ c.take_turns-taken.ensures c.in_default.is _ _ c.settled_table.ensures
    _ c.unwrap-f.ensures
