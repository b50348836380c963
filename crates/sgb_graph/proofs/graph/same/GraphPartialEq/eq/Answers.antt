use Rattle.std.proofs.Common.{refl}
use Rattle.sgb_graph.proofs.SameRows.{eq_own, eq_lists}
use Rattle.sgb_graph.proofs.graph.same.GraphPartialEq.eq.Goals as goal

pub returns-then-not-is_own_same : goal.returns-then-not-is_own_same
returns-then-not-is_own_same c =
    eq_own c.self.inside c.other.inside c.args.self.now c.args.other.now c.bytes-id.result.now c.bytes.result.now c.letters-letters.result.now c.letters.result.now c.is_own_same.result c.self.view_is c.self.invariant c.other.view_is c.other.invariant
    c.bytes-id.ensures.value c.bytes.ensures.value c.letters-letters.ensures.value c.letters.ensures.value c.is_own_same.ensures c.if-not-is_own_same.true

pub returns : goal.returns
returns c =
    eq_lists c.self.inside c.other.inside c.args.self.now c.args.other.now c.bytes-id.result.now c.bytes.result.now c.letters-letters.result.now c.letters.result.now c.is_own_same.result c.are_lists_same.result _ _ _ _ c.self.view_is c.self.invariant c.other.view_is c.other.invariant
    c.bytes-id.ensures.value c.bytes.ensures.value c.letters-letters.ensures.value c.letters.ensures.value c.is_own_same.ensures c.if-not-is_own_same.false
    refl refl refl refl c.are_lists_same.ensures
