use Rattle.std.proofs.Common.{List, ℕ, length, subst, ap, sym, ◌∙◌, arith}
use Rattle.std.specs.Prelude.{reverse}
use Rattle.sgb_binary.specs.Tree.{trees}
use Rattle.sgb_binary.specs.Private.Listing.{Lists}
use Rattle.sgb_binary.proofs.RowStacks.{listed_none, one_row, one_room, no_trees}
use Rattle.sgb_binary.proofs.lister.Lister.list_all.Goals as goal

pub returns-then-n-total : goal.returns-then-n-total
returns-then-n-total c =
    listed_none c.args.self.now (trees c.args.n c.args.most) c.requires.count (no_trees c.args.n c.args.most (omega arith) (omega arith))

pub list-requires : goal.list-requires
list-requires c =
    let bs : List ℕ = c.args.self.now.budgets.items in
    record {
      few = omega (arith, ap (λ xs. length (reverse xs)) c.requires.budget);
      total = c.room-total.ensures.value ∙ sym (one_room c.args.most bs c.requires.budget);
      enough = c.if-n-total.false;
      count = c.requires.count;
    }

pub returns : goal.returns
returns c =
    subst (λ ws. Lists c.args.self.now c.list.new.self ws c.list.result)
    (one_row c.args.n c.args.most c.args.self.now.budgets.items c.requires.budget)
    c.list.ensures
