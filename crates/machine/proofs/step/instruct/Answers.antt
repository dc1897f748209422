-- An instruction that is not ready is stuck and changes nothing;
-- one that is ready makes the three parts of the definition's state.
use Rattle.machine.proofs.Laws.Step.{step_stuck, step_done}
use Rattle.machine.proofs.step.instruct.Goals as goal

pub returns-in_default : goal.returns-in_default
returns-in_default c = step_stuck c.args.size c.args.i c.args.s c.in_default.ensures

pub returns : goal.returns
returns c =
    let same = c.in-Some.ensures {u = tt} in
    step_done c.args.size c.args.i c.args.s c.in-Some.ready.instruction c.in-Some.ready.state same.0 same.1 same.2 c.asks.result c.place_after.result c.stack_after.result c.asks.ensures c.place_after.ensures c.stack_after.ensures
