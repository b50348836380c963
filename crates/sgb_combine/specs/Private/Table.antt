-- Lengths that are drawn into a table by number, which stands in place of the list of those drawn.
use Rattle.std.specs.Prelude.{◌+◌, ℕ, ℤ, List, Bool, slice_set, if◌then◌else◌}
use Rattle.std.specs.List.{fold}
use Rattle.sgb_plan.specs.Length.{drawn_length}
use Rattle.sgb_combine.specs.Drawing.{Draws}

-- the length of arc k, and where edges are meant that of the other half of its edge too, which is numbered next
abbrev pub written : Bool → List ℤ → ℕ → ℤ → List ℤ
written directed lens k len = if directed then slice_set lens k len else slice_set (slice_set lens k len) (k + 1) len

-- arc k draws
unfoldable pub with_draw : Bool → ℤ → ℤ → Draws → ℕ → Draws
with_draw directed min max t k =
    let next = drawn_length min max t.rest in
    record { lens = written directed t.lens k next.len; draws = t.draws + next.draws; rest = next.rest }

-- these arcs draw, one after another
abbrev pub drawn_over : Bool → ℤ → ℤ → Draws → List ℕ → Draws
drawn_over directed min max = fold (with_draw directed min max)
