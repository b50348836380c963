use Rattle.sgb_induced.proofs.ArcRuns.{runs_skip, runs_step}
use Rattle.sgb_induced.proofs.gather.read_runs.Goals as goal

pub loop-v-preserved-then-image-eq0 : goal.loop-v-preserved-then-image-eq0
loop-v-preserved-then-image-eq0 c = runs_skip c.args.directed c.args.graph.now c.args.images.now c.loop-v.v c.image_at-image.result c.image_at-image.ensures c.if-image-eq0.true c.loop-v.invariant

pub loop-v-preserved : goal.loop-v-preserved
loop-v-preserved c = runs_step c.args.directed c.args.graph.now c.args.images.now c.loop-v.v c.image_at-image.result c.image_at-image.ensures c.if-image-eq0.false c.loop-v.invariant c.in_ok-append_runs.ensures
