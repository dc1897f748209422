-- Each job is tested after those before it,
-- so those that are left decide.
use borrow.Author.Rules.{rules}
use native.Mathlib.Omega.{arith}
use Rattle.rules.proofs.Laws.Arrays.{array_laws}
use Rattle.rules.proofs.Laws.Sizes.{chunk_is, test_start, test_many, test_on, test_end}
use Rattle.turns.proofs.sizes.block_fits.Goals as goal

pub returns-then-b-gt-MOST : goal.returns-then-b-gt-MOST
returns-then-b-gt-MOST c = test_many _ c.if-b-gt-MOST.true

pub loop-k-init : goal.loop-k-init
loop-k-init c = test_start _ _ c.from-k-end.ensures c.if-b-gt-MOST.false

pub loop-k-preserved : goal.loop-k-preserved
loop-k-preserved c =
    let g = c.loop-k.invariant in
    test_on _ _ _ _ g c.loop-k-test.true _ _ (chunk_is _ _ c.as_chunks.ensures.front (search (c.well_formed, array_laws, rules)) _ _ (omega (arith, c.loop-k-test.true, g.few))) c.job_fits-fits.ensures

pub returns : goal.returns
returns c = test_end _ _ _ _ c.loop-k.invariant c.loop-k-test.false
