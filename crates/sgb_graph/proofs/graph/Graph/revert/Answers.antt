use Rattle.std.proofs.Common.{◌∙◌, ap, subst}
use Rattle.std.specs.Int.{w64}
use Rattle.std.proofs.lemmas.Int.{to_z-of_z}
use Rattle.sgb_graph.specs.Delta.{LeftBy}
use Rattle.sgb_graph.specs.Edit.{with_len}
use Rattle.sgb_graph.proofs.SetLemmas.{left_len, left_label}
use Rattle.sgb_graph.proofs.UtilLemmas.{left_util}
use Rattle.sgb_graph.proofs.graph.Graph.revert.Goals as goal

pub swap_len-requires : goal.swap_len-requires
swap_len-requires c = (left_len c.requires.0 c.args.self.now _ _ (subst (λ d. LeftBy c.requires.0 d c.args.self.now) c.in-SetLen.is c.requires.1)).there

pub swap_util-requires : goal.swap_util-requires
swap_util-requires c = (left_util c.requires.0 c.args.self.now _ _ (subst (λ d. LeftBy c.requires.0 d c.args.self.now) c.in-SetUtil.is c.requires.1)).can

pub swap_label-requires : goal.swap_label-requires
swap_label-requires c = (left_label c.requires.0 c.args.self.now _ _ (subst (λ d. LeftBy c.requires.0 d c.args.self.now) c.in-SetLabel.is c.requires.1)).low

pub returns-in-SetLen-clause-back : goal.returns-in-SetLen-clause-back
returns-in-SetLen-clause-back c = λ g l.
    let h = c.args.self.now in
    let x = left_len g h c.in-SetLen.number c.in-SetLen.len (subst (λ d. LeftBy g d h) c.in-SetLen.is l) in
    c.swap_len.ensures.graph ∙ (ap (with_len h c.in-SetLen.number.0) (to_z-of_z w64 c.in-SetLen.len x.fits) ∙ x.back)

pub returns-in-SetUtil-clause-back : goal.returns-in-SetUtil-clause-back
returns-in-SetUtil-clause-back c = λ g l.
    c.swap_util.ensures.graph ∙ (left_util g c.args.self.now _ _ (subst (λ d. LeftBy g d c.args.self.now) c.in-SetUtil.is l)).back

pub returns-in-SetLabel-clause-back : goal.returns-in-SetLabel-clause-back
returns-in-SetLabel-clause-back c = λ g l.
    c.swap_label.ensures.graph ∙ (left_label g c.args.self.now _ _ (subst (λ d. LeftBy g d c.args.self.now) c.in-SetLabel.is l)).back
