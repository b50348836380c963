use Rattle.std.proofs.Common.{rules, ◌≡◌, ◌+◌, ℕ, zero, suc, List, [], ◌∷◌, Bool, Some, option_map, drop, slice_get, length, arith, refl, sym, ap, ◌∙◌, zero-add}
use Rattle.std.specs.List.{position_or_len}
use Rattle.sgb_graph.specs.declared.field.ArcNo.{ArcNo}
use Rattle.sgb_graph.specs.Field.{arc_no}
use Rattle.sgb_graph.specs.Private.Arena.{numbers, next_at}
use Rattle.sgb_graph.specs.Private.Link.{number_before}
use Rattle.sgb_graph.proofs.Chains.{length-chain}
use Rattle.sgb_graph.proofs.graph.link.place_in.Goals as goal

begins : (p : ℕ → Bool) (ks left : List ℕ) → left ≡ ks → 0 + position_or_len p left ≡ position_or_len p ks
begins p ks left same = ap (λ l. 0 + position_or_len p l) same ∙ zero-add (position_or_len p ks)

-- the first of what is left of a list
ahead : (ks : List ℕ) (i k : ℕ) (left : List ℕ) → drop i ks ≡ k ∷ left → (drop (suc i) ks ≡ left) × (slice_get ks i ≡ Some k)
ahead [] zero k left is = absurd cc
ahead [] (suc i) k left is = absurd cc
ahead (j ∷ ks) zero k left is = (cc, cc)
ahead (j ∷ ks) (suc i) k left is = ahead ks i k left is

passed : (ks : List ℕ) (i n : ℕ) (k : ArcNo) (left : List ℕ) → n ≡ suc i → drop i ks ≡ k.0 ∷ left → (drop n ks ≡ left) × (Some k ≡ number_before ks n)
passed ks i n k left next is =
    let a = ahead ks i k.0 left is in
    rw next (a.0, ap (option_map arc_no) (sym a.1))

pub loop-other-init : goal.loop-other-init
loop-other-init c =
    let ss = c.args.slots.now in
    let same : c.into_iter-other-iterator.result ≡ numbers ss c.args.first =
    c.into_iter-other-iterator.ensures.into_iter_gives ∙ c.new-other-items.ensures in (
      begins _ (numbers ss c.args.first) _ same,
      omega (arith, ap length same, length-chain (next_at ss) (length ss) c.args.first),
      sym same,
      refl,
    )

pub loop-other-preserved : goal.loop-other-preserved
loop-other-preserved c =
    let known = c.loop-other.invariant in
    let ks = numbers c.args.slots.now c.args.first in
    let p = passed ks c.loop-other.place (c.loop-other.place + 1) c.in-Some.other c.next.new.self (omega arith) (known.2 ∙ c.in-Some.ensures.steps) in
    (search rules, search rules, p.0, p.1)
