use Rattle.sgb_random.proofs.DrawCounts.{follows_some}
use Rattle.sgb_random.proofs.attempt.draw_length.Goals as goal

pub returns-clause-follows : goal.returns-clause-follows
returns-clause-follows c = follows_some c.args.progress.now.draws c.draw-drawn.result.draws c.draw-drawn.ensures.after
