use Rattle.std.proofs.Common.{◌∙◌, ap}
use Rattle.sgb_shell.specs.Private.Performing.{lists_of}
use Rattle.sgb_shell.proofs.Progress.{nothing_reached}
use Rattle.sgb_shell.proofs.shell.Shell.new.Goals as goal

pub returns : goal.returns
returns c held =
    let value = c.new-2.ensures.value in
    nothing_reached held c.new-2.result (record { start = ap (λ j. j.start) value ∙ c.new.ensures; sound = c.new-2.ensures.sound }) (ap lists_of value)
