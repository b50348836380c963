use Rattle.std.proofs.Common.{refl, sym, ◌∙◌}
use Rattle.sgb_script.proofs.Names.{name_fits, padded_is, room}
use Rattle.sgb_script.proofs.name.Name.new.Goals as goal

pub slice_bounds-padded-end : goal.slice_bounds-padded-end
slice_bounds-padded-end c = name_fits _ (sym c.is_name.ensures ∙ c.if-not-is_name.false)

pub slice_bounds-copy_from_slice-end : goal.slice_bounds-copy_from_slice-end
slice_bounds-copy_from_slice-end c = sym (room _ _ refl (name_fits _ (sym c.is_name.ensures ∙ c.if-not-is_name.false)))

pub copy_from_slice-requires : goal.copy_from_slice-requires
copy_from_slice-requires c = room _ _ refl (name_fits _ (sym c.is_name.ensures ∙ c.if-not-is_name.false))

pub invariant_of-result : goal.invariant_of-result
invariant_of-result c = padded_is _ _ _ refl c.copy_from_slice.ensures.after (sym c.is_name.ensures ∙ c.if-not-is_name.false)
