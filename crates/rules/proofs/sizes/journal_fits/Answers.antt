-- A count past the array's end is too great;
-- else those entries are tested, one by one.
use Rattle.std.proofs.Common.{◌∙◌, rules}
use Rattle.std.proofs.lemmas.Iterator.{YieldsList-from_slice}
use Rattle.std.proofs.lemmas.Iterator.Search.{all_from_yields_List}
use Rattle.rules.specs.Sizes.{entry_within}
use Rattle.rules.proofs.Laws.Arrays.{array_laws}
use Rattle.rules.proofs.Laws.Sizes.{journal_long, journal_all}
use Rattle.rules.proofs.sizes.journal_fits.Goals as goal

pub returns-in_default : goal.returns-in_default
returns-in_default c = let h = c.in_default.ensures in journal_long _ (search (h, array_laws, rules))

pub returns : goal.returns
unfolding entry_within
returns c =
    all_from_yields_List entry_within _ _ c.all.result c.all.ensures.ran (YieldsList-from_slice c.in-Some.entries.now cc) (λ x b q k. search rules)
    ∙ journal_all _ _ _ c.in-Some.ensures.lookup.0.2 c.from.ensures (search rules) (search (array_laws, rules))
