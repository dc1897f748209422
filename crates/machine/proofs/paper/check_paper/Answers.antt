-- The jobs so far, joined to the answer for the fields from here on, are the answer to the whole paper;
-- a fault ends it, and each field brings the end of the paper nearer.
use Rattle.std.proofs.Common.{rules}
use Rattle.machine.proofs.Laws.Paper.{paper_laws}
use Rattle.machine.proofs.paper.check_paper.Goals as goal

pub returns-in-Err : goal.returns-in-Err
returns-in-Err c = search (paper_laws, rules) fits 10000

pub bounds-jobs-count : goal.bounds-jobs-count
bounds-jobs-count c = search (paper_laws, rules) fits 10000

pub after_field-rest-requires : goal.after_field-rest-requires
after_field-rest-requires c = search (paper_laws, rules) fits 10000

pub loop-rest-smaller : goal.loop-rest-smaller
loop-rest-smaller c = search (paper_laws, rules) fits 10000

pub loop-rest-preserved : goal.loop-rest-preserved
loop-rest-preserved c = search (paper_laws, rules) fits 10000

pub returns : goal.returns
returns c = search (paper_laws, rules) depth 6
