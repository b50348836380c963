use Rattle.std.proofs.Common.{◌≡◌, ◌+◌, ◌-◌, ◌++◌, ◌∷◌, [], List, ℕ, length, drop, ap, ap₂, sym, ◌∙◌, arith, append_assoc}
use Rattle.std.proofs.lemmas.List.{append-nil, map-append}
use denote.Ref.{Bor}
use Rattle.sgb_binary.specs.Private.Names.{bytes_of}
use Rattle.sgb_binary.specs.Private.Listing.{pieces}
use Rattle.sgb_binary.proofs.NameIndexes.{names_of, piece_taken, pieces_end, width_left, width_next}
use Rattle.sgb_binary.proofs.index.split_names.Goals as goal

pub split_at-requires : goal.split_at-requires
split_at-requires c =
    width_left c.args.width c.args.names.now.count c.loop-v._v (length c.loop-v.rest.now) c.loop-v-test.true c.loop-v.invariant.whole

pub loop-v-preserved : goal.loop-v-preserved
loop-v-preserved c =
    let width : ℕ = c.args.width in
    let count : ℕ = c.args.names.now.count in
    let v : ℕ = c.loop-v._v in
    let rest : List ℕ = c.loop-v.rest.now in
    let keys : List (Bor (List ℕ)) = c.loop-v.keys.items in
    let name : Bor (List ℕ) = c.split_at.result.0 in
    let left : List (List ℕ) = pieces width (count - (v + 1)) (drop width rest) in
    let taken = piece_taken width count v rest c.loop-v-test.true in
    let start : names_of keys ++ (bytes_of name ∷ left) ≡ pieces width count c.args.names.now.letters.items =
    ap (λ ps. names_of keys ++ ps) (ap (λ x. x ∷ left) c.split_at.ensures.front ∙ sym taken) ∙ c.loop-v.invariant.names in
    record {
      names =
          ap₂ (λ xs ys. xs ++ ys) (ap names_of c.in_ok-push.ensures.items ∙ map-append bytes_of keys (name ∷ [])) (ap (pieces width (count - (v + 1))) c.split_at.ensures.back)
          ∙ (append_assoc (names_of keys) (bytes_of name ∷ []) left ∙ start);
      whole = let next = width_next width count v (length rest) c.loop-v-test.true c.loop-v.invariant.whole in omega (arith, next, c.split_at.ensures.back_len);
    }

pub returns : goal.returns
returns c =
    let none : c.args.names.now.count - c.loop-v._v ≡ 0 = omega arith in
    sym (append-nil (names_of c.loop-v.keys.items))
    ∙ (ap (λ ps. names_of c.loop-v.keys.items ++ ps) (sym (pieces_end c.args.width (c.args.names.now.count - c.loop-v._v) c.loop-v.rest.now none))
    ∙ c.loop-v.invariant.names)
