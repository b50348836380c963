use Rattle.sgb_text.proofs.ReadAs.{graph_read, refusal_read, room_read}
use Rattle.sgb_text.proofs.restoring.restore.Goals as goal

pub returns-clause-graph : goal.returns-clause-graph
returns-clause-graph c = graph_read c.args.rule c.args.text.now c.restored.result c.restored.ensures.ok

pub returns-clause-refusal : goal.returns-clause-refusal
returns-clause-refusal c = refusal_read c.args.rule c.args.text.now c.restored.result c.restored.ensures.err

pub returns-clause-room : goal.returns-clause-room
returns-clause-room c = room_read c.args.rule c.args.text.now c.restored.result c.restored.ensures.err
