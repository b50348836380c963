use Rattle.std.proofs.Common.{sym, ◌∙◌}
use Rattle.sgb_script.proofs.Names.{too_long, no_letter, all_name_bytes}
use Rattle.sgb_script.proofs.name.is_name.Goals as goal

pub returns-then-bytes-gt-NAME_LIMIT : goal.returns-then-bytes-gt-NAME_LIMIT
returns-then-bytes-gt-NAME_LIMIT c = sym (too_long _ c.if-bytes-gt-NAME_LIMIT.true)

pub returns-then-begins_with_letter : goal.returns-then-begins_with_letter
returns-then-begins_with_letter c = c.are_name_bytes.ensures ∙ sym (all_name_bytes _ c.if-bytes-gt-NAME_LIMIT.false (sym c.begins_with_letter.ensures ∙ c.if-begins_with_letter.true))

pub returns-else-begins_with_letter : goal.returns-else-begins_with_letter
returns-else-begins_with_letter c = c.if-begins_with_letter.false ∙ sym (no_letter _ (sym c.begins_with_letter.ensures ∙ c.if-begins_with_letter.false))
