use Rattle.sgb_flip.proofs.Halves.{AreBefore-lanes, AreHalves-before, whole-before}
use Rattle.sgb_flip.proofs.cycle.restored.Goals as goal

pub returns-clause-halves : goal.returns-clause-halves
returns-clause-halves c =
    AreHalves-before c.args.low c.args.high _ _ c.requires.halves (AreBefore-lanes c.args.low c.args.high c.requires.halves)

pub returns-clause-batch : goal.returns-clause-batch
returns-clause-batch c =
    whole-before c.args.low c.args.high _ _ c.requires.halves (AreBefore-lanes c.args.low c.args.high c.requires.halves)
