-- The paper passed so far and what is left of it
-- are the whole paper.
use borrow.Author.Rules.{rules}
use Rattle.sessions.proofs.Laws.Fields.{paper_laws}
use Rattle.sessions.proofs.fields.paper_size.Goals as goal

pub size_of_field-requires : goal.size_of_field-requires
size_of_field-requires c = search (paper_laws, rules)

pub overflow_add-rest : goal.overflow_add-rest
overflow_add-rest c = search (paper_laws, rules)

pub slice_bounds-rest-count : goal.slice_bounds-rest-count
slice_bounds-rest-count c = search (paper_laws, rules)

pub slice_bounds-rest-start : goal.slice_bounds-rest-start
slice_bounds-rest-start c = search (paper_laws, rules)

pub loop-rest-smaller : goal.loop-rest-smaller
loop-rest-smaller c = search (paper_laws, rules)

pub loop-rest-preserved : goal.loop-rest-preserved
loop-rest-preserved c = search (paper_laws, rules)

pub returns : goal.returns
returns c = search (paper_laws, rules)
