-- Lemmas on slots one by one: what a change of one slot leaves of the others.
use Rattle.std.proofs.Common.{◌≡◌, ◌≢◌, ◌<◌, ◌+◌, ℕ, length, set, Option, Some, None, IfSome, cond, refl, sym, ap, subst, ◌∙◌, arith, inl, inr}
use Rattle.std.proofs.lemmas.Bool.{cases_eq, cases_lt, eq-eqb, ne_eqb}
use Rattle.std.proofs.lemmas.List.{get_or-set_same, get_or-set_other, set_past, length-set, get_or_past}
use Rattle.sgb_graph.specs.declared.field.ArcNo.{ArcNo}
use Rattle.sgb_graph.specs.declared.field.Util.{Util}
use Rattle.sgb_graph.specs.declared.field.Util.TheVariants.{Zero, Int, Vertex, Arc, Text}
use Rattle.sgb_graph.specs.declared.graph.arena.Slot.{Slot}
use Rattle.sgb_graph.specs.Graph.{is_name}
use Rattle.sgb_graph.specs.Private.Arena.{Slots, slot_at, next_of, entry_of, owner_in, names_counted}
use Rattle.sgb_graph.specs.Private.Link.{with_next, named_more, named_less, slots_relinked, slots_gaining, slots_losing}

pub slot_same : (ss : Slots) (k : ℕ) (o : Option Slot) → k < length ss → slot_at (set ss k o) k ≡ o
slot_same ss k o h = get_or-set_same ss k o None h

pub slot_other : (ss : Slots) (k j : ℕ) (o : Option Slot) → j ≢ k → slot_at (set ss k o) j ≡ slot_at ss j
slot_other ss k j o ne = get_or-set_other ss k j o None ne

-- what does not see a change of slot k sees none
pub slot_unseen : {Y : Type 0} (f : Option Slot → Y) (ss : Slots) (k j : ℕ) (o : Option Slot) → f o ≡ f (slot_at ss k) → f (slot_at (set ss k o) j) ≡ f (slot_at ss j)
slot_unseen f ss k j o same =
    elim (cases_lt k (length ss)) [
      | inl h ↦ elim (cases_eq j k) [
        | inl e ↦ ap (λ i. f (slot_at (set ss k o) i)) e ∙ (ap f (slot_same ss k o h) ∙ (same ∙ ap (λ i. f (slot_at ss i)) (sym e)))
        | inr ne ↦ ap f (slot_other ss k j o ne)
      ]
      | inr h ↦ ap (λ l. f (slot_at l j)) (set_past ss k o h)
    ]

-- a link replaced is seen by nothing but the link
pub relinked_unseen : {Y : Type 0} (f : Option Slot → Y) → ((link : Option ArcNo) (o : Option Slot) → f (with_next link o) ≡ f o) → (ss : Slots) (before link : Option ArcNo) (j : ℕ) → f (slot_at (slots_relinked ss before link) j) ≡ f (slot_at ss j)
relinked_unseen f blind ss None link j = refl
relinked_unseen f blind ss (Some p) link j = slot_unseen f ss p.0 j (with_next link (slot_at ss p.0)) (blind link (slot_at ss p.0))

pub next_blind_entry : (link : Option ArcNo) (o : Option Slot) → entry_of (with_next link o) ≡ entry_of o
next_blind_entry link None = refl
next_blind_entry link (Some s) = refl

pub next_blind_owner : (link : Option ArcNo) (o : Option Slot) → owner_in (with_next link o) ≡ owner_in o
next_blind_owner link None = refl
next_blind_owner link (Some s) = refl

pub next_blind_names : (link : Option ArcNo) (o : Option Slot) → names_counted (with_next link o) ≡ names_counted o
next_blind_names link None = refl
next_blind_names link (Some s) = refl

pub length-relinked : (ss : Slots) (before link : Option ArcNo) → length (slots_relinked ss before link) ≡ length ss
length-relinked ss None link = refl
length-relinked ss (Some p) link = length-set ss p.0 (with_next link (slot_at ss p.0))

-- counts of names are seen by nothing but the count
pub gaining_unseen : {Y : Type 0} (f : Option Slot → Y) → ((o : Option Slot) → f (named_more o) ≡ f o) → (ss : Slots) (u : Util) (j : ℕ) → f (slot_at (slots_gaining ss u) j) ≡ f (slot_at ss j)
gaining_unseen f blind ss Zero j = refl
gaining_unseen f blind ss (Int z) j = refl
gaining_unseen f blind ss (Vertex v) j = refl
gaining_unseen f blind ss (Arc a) j = slot_unseen f ss a.0 j (named_more (slot_at ss a.0)) (blind (slot_at ss a.0))
gaining_unseen f blind ss (Text t) j = refl

pub losing_unseen : {Y : Type 0} (f : Option Slot → Y) → ((o : Option Slot) → f (named_less o) ≡ f o) → (ss : Slots) (u : Util) (j : ℕ) → f (slot_at (slots_losing ss u) j) ≡ f (slot_at ss j)
losing_unseen f blind ss Zero j = refl
losing_unseen f blind ss (Int z) j = refl
losing_unseen f blind ss (Vertex v) j = refl
losing_unseen f blind ss (Arc a) j = slot_unseen f ss a.0 j (named_less (slot_at ss a.0)) (blind (slot_at ss a.0))
losing_unseen f blind ss (Text t) j = refl

pub more_blind_next : (o : Option Slot) → next_of (named_more o) ≡ next_of o
more_blind_next None = refl
more_blind_next (Some s) = refl

pub more_blind_entry : (o : Option Slot) → entry_of (named_more o) ≡ entry_of o
more_blind_entry None = refl
more_blind_entry (Some s) = refl

pub more_blind_owner : (o : Option Slot) → owner_in (named_more o) ≡ owner_in o
more_blind_owner None = refl
more_blind_owner (Some s) = refl

pub less_blind_next : (o : Option Slot) → next_of (named_less o) ≡ next_of o
less_blind_next None = refl
less_blind_next (Some s) = refl

pub less_blind_entry : (o : Option Slot) → entry_of (named_less o) ≡ entry_of o
less_blind_entry None = refl
less_blind_entry (Some s) = refl

pub less_blind_owner : (o : Option Slot) → owner_in (named_less o) ≡ owner_in o
less_blind_owner None = refl
less_blind_owner (Some s) = refl

pub length-gaining : (ss : Slots) (u : Util) → length (slots_gaining ss u) ≡ length ss
length-gaining ss Zero = refl
length-gaining ss (Int z) = refl
length-gaining ss (Vertex v) = refl
length-gaining ss (Arc a) = length-set ss a.0 (named_more (slot_at ss a.0))
length-gaining ss (Text t) = refl

pub length-losing : (ss : Slots) (u : Util) → length (slots_losing ss u) ≡ length ss
length-losing ss Zero = refl
length-losing ss (Int z) = refl
length-losing ss (Vertex v) = refl
length-losing ss (Arc a) = length-set ss a.0 (named_less (slot_at ss a.0))
length-losing ss (Text t) = refl

-- one if the value names the arc
abbrev pub one_name : ℕ → Util → ℕ
one_name k u = cond (is_name k u) 1 0

known_same : (o : Option ℕ) (m n : ℕ) → m ≡ n → IfSome o (λ x. x ≡ m) → IfSome o (λ x. x ≡ n)
known_same None m n e known = tt
known_same (Some x) m n e known = known ∙ e

more_known : (o : Option Slot) (n : ℕ) → IfSome (names_counted o) (λ m. m ≡ n) → IfSome (names_counted (named_more o)) (λ m. m ≡ n + 1)
more_known None n known = tt
more_known (Some s) n known = ap (λ x. x + 1) known

less_known : (o : Option Slot) (n : ℕ) → IfSome (names_counted o) (λ m. m ≡ n + 1) → IfSome (names_counted (named_less o)) (λ m. m ≡ n)
less_known None n known = tt
less_known (Some s) n known = omega (arith, known)

-- each count that is known grows by what the value names
pub counted_more : (ss : Slots) (u : Util) (k n : ℕ) → IfSome (names_counted (slot_at ss k)) (λ m. m ≡ n) → IfSome (names_counted (slot_at (slots_gaining ss u) k)) (λ m. m ≡ n + one_name k u)
counted_more ss Zero k n known = known_same _ n (n + 0) (omega arith) known
counted_more ss (Int z) k n known = known_same _ n (n + 0) (omega arith) known
counted_more ss (Vertex v) k n known = known_same _ n (n + 0) (omega arith) known
counted_more ss (Text t) k n known = known_same _ n (n + 0) (omega arith) known
counted_more ss (Arc a) k n known =
    elim (cases_eq a.0 k) [
      | inl same ↦ elim (cases_lt a.0 (length ss)) [
        | inl h ↦
            let at : slot_at (slots_gaining ss (Arc a)) k ≡ named_more (slot_at ss k) =
            ap (slot_at (slots_gaining ss (Arc a))) (sym same) ∙ (slot_same ss a.0 (named_more (slot_at ss a.0)) h ∙ ap (λ i. named_more (slot_at ss i)) same) in
            subst (λ o. IfSome (names_counted o) (λ m. m ≡ n + one_name k (Arc a))) (sym at)
            (known_same _ (n + 1) (n + one_name k (Arc a)) (ap (λ b. n + cond b 1 0) (sym (eq-eqb a.0 k same))) (more_known (slot_at ss k) n known))
        | inr h ↦
            let at : slot_at (slots_gaining ss (Arc a)) k ≡ None =
            ap (λ l. slot_at l k) (set_past ss a.0 (named_more (slot_at ss a.0)) h) ∙ get_or_past ss k None (omega arith) in
            subst (λ o. IfSome (names_counted o) (λ m. m ≡ n + one_name k (Arc a))) (sym at) tt
      ]
      | inr other ↦
          let ne : k ≢ a.0 = λ e. other (sym e) in
          subst (λ o. IfSome (names_counted o) (λ m. m ≡ n + one_name k (Arc a))) (sym (slot_other ss a.0 k (named_more (slot_at ss a.0)) ne))
          (known_same _ n (n + one_name k (Arc a)) (sym (ap (λ b. n + cond b 1 0) (ne_eqb a.0 k other) ∙ omega arith)) known)
    ]

-- and shrinks likewise
pub counted_less : (ss : Slots) (u : Util) (k n : ℕ) → IfSome (names_counted (slot_at ss k)) (λ m. m ≡ n + one_name k u) → IfSome (names_counted (slot_at (slots_losing ss u) k)) (λ m. m ≡ n)
counted_less ss Zero k n known = known_same _ (n + 0) n (omega arith) known
counted_less ss (Int z) k n known = known_same _ (n + 0) n (omega arith) known
counted_less ss (Vertex v) k n known = known_same _ (n + 0) n (omega arith) known
counted_less ss (Text t) k n known = known_same _ (n + 0) n (omega arith) known
counted_less ss (Arc a) k n known =
    elim (cases_eq a.0 k) [
      | inl same ↦ elim (cases_lt a.0 (length ss)) [
        | inl h ↦
            let at : slot_at (slots_losing ss (Arc a)) k ≡ named_less (slot_at ss k) =
            ap (slot_at (slots_losing ss (Arc a))) (sym same) ∙ (slot_same ss a.0 (named_less (slot_at ss a.0)) h ∙ ap (λ i. named_less (slot_at ss i)) same) in
            subst (λ o. IfSome (names_counted o) (λ m. m ≡ n)) (sym at)
            (less_known (slot_at ss k) n (known_same _ (n + one_name k (Arc a)) (n + 1) (ap (λ b. n + cond b 1 0) (eq-eqb a.0 k same)) known))
        | inr h ↦
            let at : slot_at (slots_losing ss (Arc a)) k ≡ None =
            ap (λ l. slot_at l k) (set_past ss a.0 (named_less (slot_at ss a.0)) h) ∙ get_or_past ss k None (omega arith) in
            subst (λ o. IfSome (names_counted o) (λ m. m ≡ n)) (sym at) tt
      ]
      | inr other ↦
          let ne : k ≢ a.0 = λ e. other (sym e) in
          subst (λ o. IfSome (names_counted o) (λ m. m ≡ n)) (sym (slot_other ss a.0 k (named_less (slot_at ss a.0)) ne))
          (known_same _ (n + one_name k (Arc a)) n (ap (λ b. n + cond b 1 0) (ne_eqb a.0 k other) ∙ omega arith) known)
    ]
