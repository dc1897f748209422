-- Each instruction is written at its own place,
-- where it stays, so after the last the program is the packed one.
use Rattle.std.proofs.Common.{◌<◌, arith, rules}
use Rattle.rules.proofs.Laws.Program.{passed_small, slots_push, slots_other, pack_start, pack_on, pack_end}
use Rattle.rules.proofs.block.Program.packed.Goals as goal
use Rattle.rules.proofs.block.Program.packed.Goals.{then-code-eq-PUSH, else-code-eq-PUSH}

pub loop-k-init : goal.loop-k-init
loop-k-init c = pack_start _ c.requires _ c.stops-p.ensures

pub loop-k-preserved : goal.loop-k-preserved
loop-k-preserved c =
    let l : c.loop-k.k < c.args.job.now.size = omega arith in
    elim c.if-code-eq-PUSH.branch [
      | then-code-eq-PUSH w ↦
          let s = slots_push _ w.if-code-eq-PUSH.true in
          rw w.argument-is (pack_on _ c.requires _ _ c.loop-k.invariant l _ _ s.0 s.1)
      | else-code-eq-PUSH w ↦
          let few = passed_small _ c.requires c.loop-k.k l w.if-code-eq-PUSH.false in
          let s = slots_other _ w.if-code-eq-PUSH.false _ (search (few, rules)) in
          rw w.argument-is (pack_on _ c.requires _ _ c.loop-k.invariant l _ _ s.0 s.1)
    ]

pub returns : goal.returns
returns c = pack_end _ c.requires _ _ c.loop-k.invariant (omega arith)
