-- Each act leads to a state from which the rest is the rest of the whole, or ends the job;
-- a WRITE finds room, since the journal and the WRITE still ahead are at most 8.
use Rattle.turns.proofs.Laws.Alone.{place_in, size_in, read_inside, write_room, alone_nothing, alone_read, alone_write, alone_stop, alone_abandon}
use Rattle.turns.proofs.serial.step_alone.Goals as goal

pub instruct_at-act-requires : goal.instruct_at-act-requires
instruct_at-act-requires c = (place_in _ _ _ c.requires, size_in _ _ _ c.requires)

pub read_alone-requires : goal.read_alone-requires
read_alone-requires c = (c.requires.writes.few, read_inside _ _ _ _ c.requires c.instruct_at-act.ensures _ c.in-Read.is)

pub with_entry-requires : goal.with_entry-requires
with_entry-requires c = write_room _ _ _ _ c.requires c.instruct_at-act.ensures _ _ c.in-Write.is

pub returns-in-Nothing : goal.returns-in-Nothing
returns-in-Nothing c = alone_nothing _ _ _ _ c.requires c.instruct_at-act.ensures c.in-Nothing.is

pub returns-in-Read : goal.returns-in-Read
returns-in-Read c = alone_read _ _ _ _ c.requires c.instruct_at-act.ensures _ _ _ c.in-Read.is c.read_alone.ensures c.given.ensures

pub returns-in-Write : goal.returns-in-Write
returns-in-Write c = alone_write _ _ _ _ c.requires c.instruct_at-act.ensures _ _ _ c.in-Write.is c.with_entry.ensures

pub returns-in-Stop : goal.returns-in-Stop
returns-in-Stop c = alone_stop _ _ _ _ c.requires c.instruct_at-act.ensures c.in-Stop.is

pub returns-in-Abandon : goal.returns-in-Abandon
returns-in-Abandon c = alone_abandon _ _ _ _ c.requires c.instruct_at-act.ensures _ c.in-Abandon.is c.empty.ensures.1
