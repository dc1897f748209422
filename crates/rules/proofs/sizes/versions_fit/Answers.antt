-- A count past the array's end counts a version that names nothing;
-- else those versions are tested, one by one.
use Rattle.std.proofs.Common.{◌∙◌, nat_lt, rules}
use Rattle.std.proofs.lemmas.Iterator.{YieldsList-from_slice}
use Rattle.std.proofs.lemmas.Iterator.Search.{all_from_yields_List}
use Rattle.rules.proofs.Laws.Sizes.{versions_long, versions_all}
use Rattle.rules.proofs.sizes.versions_fit.Goals as goal

pub returns-in_default : goal.returns-in_default
returns-in_default c = let h = c.in_default.ensures in versions_long _ _ (search (h, rules)) (search rules)

pub returns : goal.returns
returns c =
    all_from_yields_List (λ x. nat_lt x c.args.entries) _ _ c.all.result c.all.ensures.ran (YieldsList-from_slice c.in-Some.numbers.now cc) (λ x b q k. search rules)
    ∙ versions_all _ _ _ _ c.in-Some.ensures.lookup.0.2 c.from.ensures (search rules) (search rules)
