use Rattle.std.proofs.Common.{◌≡◌, ◌∙◌, sym, subst, true, ap}
use Rattle.sgb_graph.specs.Edit.{can_name, with_util}
use Rattle.sgb_graph.specs.Set.{IsStorable}
use Rattle.sgb_graph.proofs.FieldValues.{names_refl, accepted}
use Rattle.sgb_graph.proofs.UtilLemmas.{value_sound}
use Rattle.sgb_graph.proofs.graph.Graph.set_util.Goals as goal

pub swap_util-old-requires : goal.swap_util-old-requires
swap_util-old-requires c =
    let named : can_name c.args.self.now c.args.value ≡ true = sym c.can_name.ensures.value ∙ c.if-not-can_name.false in
    record {
      place = sym c.has_place.ensures.value ∙ c.if-not-has_place.false;
      value = value_sound c.args.self.now c.args.value c.stored.result named c.stored.ensures.value c.stored.ensures.storable;
    }

pub returns-clause-accepted : goal.returns-clause-accepted
returns-clause-accepted c =
    let g = c.args.self.now in
    accepted g g c.args.place c.args.value (names_refl g) (sym c.has_place.ensures.value ∙ c.if-not-has_place.false) (sym c.can_name.ensures.value ∙ c.if-not-can_name.false)

pub returns-clause-left : goal.returns-clause-left
returns-clause-left c =
    let g = c.args.self.now in
    record {
      value = c.args.value;
      graph = c.has_place.ensures.sound;
      accepted = accepted g g c.args.place c.args.value (names_refl g) (sym c.has_place.ensures.value ∙ c.if-not-has_place.false) (sym c.can_name.ensures.value ∙ c.if-not-can_name.false);
      fits = subst IsStorable c.stored.ensures.value c.stored.ensures.storable;
      kept = c.swap_util-old.ensures.value;
      left = c.swap_util-old.ensures.graph ∙ ap (with_util g c.args.place) c.stored.ensures.value;
    }
