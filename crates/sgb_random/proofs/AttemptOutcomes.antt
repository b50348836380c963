-- Lemmas on what comes of an attempt.
use Rattle.std.proofs.Common.{◌≡◌, ◌≤◌, ◌<◌, ◌+◌, ◌==◌, ◌&&◌, ℕ, ℤ, pos, negsuc, List, [], ◌∷◌, ◌++◌, length, get_or, set, map, Bool, true, false, not, int_le, int_lt, Result, Ok, Err, OnOk, refl, sym, ap, ap₂, subst, ◌∙◌, arith}
use Rattle.std.specs.List.{list_any, position_or_len}
use Rattle.std.proofs.lemmas.Bool.{ltb-true}
use Rattle.std.proofs.lemmas.List.{length-map, length-set, length_push, map-append}
use Rattle.std.proofs.lemmas.List.Elements.{All-append}
use Rattle.sgb_flip.specs.Generator.{Generator, uniform}
use Rattle.sgb_graph.specs.declared.builder.Builder.{Builder}
use Rattle.sgb_graph.specs.Builder.{Insertion, insertion, grown}
use Rattle.sgb_plan.specs.Length.{drawn_length}
use Rattle.sgb_random.specs.declared.progress.Progress.{Progress}
use Rattle.sgb_random.specs.declared.spec.RandomSpec.{RandomSpec}
use Rattle.sgb_random.specs.Random.{Course, joins, lowered, with_length, tried, attempted, size_of, wanted}
use Rattle.sgb_random.specs.Private.Progress.{insertion_of, insertions_of, key_of, key_of_insertion, keys_of, IsIndexed, IsKept, IsWithin, with_len_at}
use Rattle.sgb_random.specs.Private.Table.{holds, taken, HasRoom, IsListed, IsNumbered}
use Rattle.sgb_random.proofs.VertexPairs.{any_key, place_key, same_count, keys-with_len_at, within-with_len_at, within_more, within_one}
use Rattle.sgb_random.proofs.PairTable.{holds_more, listed_by, numbered_put, taken_put}

-- a length was drawn, with which the insertions become these
pub kept_drawn : {s : RandomSpec} {a : Builder} {k : Course} {p q : Progress} {w x : Generator} (low high : ℤ) (es : ℤ → List Insertion) (len : ℤ) → IsKept s a k p w → len ≡ (drawn_length low high w).len → q.made ≡ p.made + 1 → q.draws ≡ p.draws + (drawn_length low high w).draws → x ≡ (drawn_length low high w).rest → (int_lt s.multi (pos 0) ≡ true → (q.builder ≡ a) × (insertions_of q ≡ es len)) → (int_lt s.multi (pos 0) ≡ false → q.builder ≡ grown a (es len)) → IsKept s a (with_length low high k es) q x
unfolding with_length
kept_drawn {s} {a} {k} {p} {q} {w} {x} low high es len kept is made draws rest listed inserted =
    let same : len ≡ (drawn_length low high k.rest).len = is ∙ ap (λ g. (drawn_length low high g).len) kept.rest in
    record {
      made = made ∙ ap (λ n. n + 1) kept.made;
      draws = draws ∙ ap₂ (λ n g. n + (drawn_length low high g).draws) kept.draws kept.rest;
      rest = rest ∙ ap (λ g. (drawn_length low high g).rest) kept.rest;
      listed = λ shorter. ((listed shorter).0, (listed shorter).1 ∙ ap es same);
      inserted = λ longer. inserted longer ∙ ap (λ l. grown a (es l)) same;
    }

pub insertions-with_length : (low high : ℤ) (c : Course) (es : ℤ → List Insertion) → (with_length low high c es).insertions ≡ es (drawn_length low high c.rest).len
unfolding with_length
insertions-with_length low high c es = refl

pub with_length_same : (low high : ℤ) (c : Course) (es fs : ℤ → List Insertion) → ((len : ℤ) → es len ≡ fs len) → with_length low high c es ≡ with_length low high c fs
unfolding with_length
with_length_same low high c es fs same =
    let drawn = drawn_length low high c.rest in
    ap (λ xs. record { insertions = xs; made = c.made + 1; draws = c.draws + drawn.draws; rest = drawn.rest }) (same drawn.len)

-- ---- what comes of a pair
module _ (s : RandomSpec) (u v : ℕ) (c : Course) where
  pub tried_barred : ((u == v) && not s.loops) ≡ true → tried s u v c ≡ c
  unfolding tried
  tried_barred barred = rw barred refl

  pub tried_again : ((u == v) && not s.loops) ≡ false → int_le s.multi (pos 0) ≡ false → tried s u v c ≡ with_length s.min s.max c (λ len. c.insertions ++ insertion u v len ∷ [])
  unfolding tried
  tried_again free again = rw (free, again) refl

  pub tried_new : ((u == v) && not s.loops) ≡ false → int_le s.multi (pos 0) ≡ true → list_any (joins s.directed u v) c.insertions ≡ false → tried s u v c ≡ with_length s.min s.max c (λ len. c.insertions ++ insertion u v len ∷ [])
  unfolding tried
  tried_new free once new_pair = rw (free, once, new_pair) refl

  pub tried_shorter : ((u == v) && not s.loops) ≡ false → int_le s.multi (pos 0) ≡ true → list_any (joins s.directed u v) c.insertions ≡ true → int_lt s.multi (pos 0) ≡ true → tried s u v c ≡ with_length s.min s.max c (λ len. lowered s.directed u v len c.insertions)
  unfolding tried
  tried_shorter free once old_pair shorter = rw (free, once, old_pair, shorter) refl

  pub tried_skipped : ((u == v) && not s.loops) ≡ false → int_le s.multi (pos 0) ≡ true → list_any (joins s.directed u v) c.insertions ≡ true → int_lt s.multi (pos 0) ≡ false → tried s u v c ≡ c
  unfolding tried
  tried_skipped free once old_pair skipped = rw (free, once, old_pair, skipped) refl

pub attempted_is : (s : RandomSpec) (k : Course) (n u v i : ℕ) (g w x : Generator) → g ≡ k.rest → n ≡ size_of s → u ≡ (uniform g n).value → w ≡ (uniform g n).rest → v ≡ (uniform w n).value → x ≡ (uniform w n).rest → i ≡ (uniform g n).draws + (uniform w n).draws → tried s u v (record { insertions = k.insertions; made = k.made; draws = k.draws + i; rest = x }) ≡ attempted s k
unfolding attempted
attempted_is s k n u v i g w x g_is n_is u_is w_is v_is x_is i_is = rw (u_is, v_is, x_is, i_is, w_is, n_is, g_is) refl

numbered_same : {slots rows numbers marks keys : List ℕ} → slots ≡ rows → numbers ≡ marks → IsNumbered rows marks keys → IsNumbered slots numbers keys
numbered_same {slots} {rows} {numbers} {marks} {keys} pairs beside numbered =
    subst (λ xs. IsNumbered xs numbers keys) (sym pairs) (subst (λ xs. IsNumbered rows xs keys) (sym beside) numbered)

-- draws change nothing else
pub indexed_drawn : {s : RandomSpec} {a : Builder} {k : Course} {p q : Progress} {w : Generator} (i : ℕ) (x : Generator) → IsIndexed s a k p w → q.made ≡ p.made → q.draws ≡ p.draws + i → q.builder ≡ p.builder → insertions_of q ≡ insertions_of p → q.pairs ≡ p.pairs → q.numbers ≡ p.numbers → IsIndexed s a (record { insertions = k.insertions; made = k.made; draws = k.draws + i; rest = x }) q x
indexed_drawn {s} {a} {k} {p} {q} i x indexed made draws builder edges pairs numbers = record {
  kept = record {
    made = made ∙ indexed.kept.made;
    draws = draws ∙ ap (λ n. n + i) indexed.kept.draws;
    rest = refl;
    listed = λ shorter. (builder ∙ (indexed.kept.listed shorter).0, edges ∙ (indexed.kept.listed shorter).1);
    inserted = λ longer. builder ∙ indexed.kept.inserted longer;
  };
  ends = indexed.ends;
  keys = λ once key. ap (holds key) pairs ∙ indexed.keys once key;
  taken = λ once. ap taken pairs ∙ indexed.taken once;
  room = λ once. subst (λ slots. wanted s < length slots) (sym pairs) (indexed.room once);
  numbers = λ shorter. numbered_same pairs (ap (λ v. v.items) numbers) (indexed.numbers shorter);
}

-- ---- the numbers of the pairs
module _ {s : RandomSpec} {a : Builder} {k : Course} {p : Progress} {w : Generator} (u v key : ℕ) (indexed : IsIndexed s a k p w) (few : size_of s ≤ 65535) (hu : u < size_of s) (hv : v < size_of s) (is : key ≡ key_of s.directed u v) (once : int_le s.multi (pos 0) ≡ true) where
  pub found_is : holds key p.pairs ≡ list_any (joins s.directed u v) k.insertions
  found_is =
      indexed.keys once key
      ∙ ap (λ x. list_any (λ i. x == i) (keys_of s k)) is
      ∙ any_key s.directed u v k.insertions (omega arith) (omega arith) (within_more (size_of s) 65536 k.insertions (omega arith) indexed.ends)

  pub place_is : (place : ℕ) → int_lt s.multi (pos 0) ≡ true → place < length p.pairs → get_or p.pairs place 0 ≡ key + 1 → get_or p.numbers.items place 0 ≡ position_or_len (joins s.directed u v) k.insertions
  place_is place shorter below held =
      (indexed.numbers shorter).places key place below held
      ∙ ap (λ x. position_or_len (λ i. x == i) (keys_of s k)) is
      ∙ place_key s.directed u v k.insertions (omega arith) (omega arith) (within_more (size_of s) 65536 k.insertions (omega arith) indexed.ends)

pub below_le : (z : ℤ) → int_lt z (pos 0) ≡ true → int_le z (pos 0) ≡ true
below_le (pos n) is = absurd (omega (arith, ltb-true n 0 is))
below_le (negsuc n) is = refl

listed_count : {s : RandomSpec} {a : Builder} {k : Course} {p : Progress} {w : Generator} → IsIndexed s a k p w → int_lt s.multi (pos 0) ≡ true → length p.edges.items ≡ length (keys_of s k)
listed_count {s} {a} {k} {p} {w} indexed shorter =
    sym (length-map p.edges.items insertion_of)
    ∙ (ap length (indexed.kept.listed shorter).1 ∙ sym (length-map k.insertions (key_of_insertion s.directed)))

-- a new number is put at a free place
pub record IsPut (slots : List ℕ) (key place : ℕ) (rows : List ℕ) : Type 0 where
  pub below : place < length slots
  pub free : get_or slots place 0 ≡ 0
  pub absent : holds key slots ≡ false
  pub put : rows ≡ set slots place (key + 1)

-- other numbers of pairs change nothing of what is kept
pub kept_same : {s : RandomSpec} {a : Builder} {k : Course} {p q : Progress} {w : Generator} → IsKept s a k p w → q.made ≡ p.made → q.draws ≡ p.draws → q.builder ≡ p.builder → insertions_of q ≡ insertions_of p → IsKept s a k q w
kept_same kept made draws builder edges = record {
  made = made ∙ kept.made;
  draws = draws ∙ kept.draws;
  rest = kept.rest;
  listed = λ shorter. (builder ∙ (kept.listed shorter).0, edges ∙ (kept.listed shorter).1);
  inserted = λ longer. builder ∙ kept.inserted longer;
}

pub indexed_same : {s : RandomSpec} {a : Builder} {k : Course} {p q : Progress} {w : Generator} → IsIndexed s a k p w → IsKept s a k q w → q.pairs ≡ p.pairs → q.numbers ≡ p.numbers → IsIndexed s a k q w
indexed_same {s} {a} {k} {p} {q} indexed kept pairs numbers = record {
  kept = kept;
  ends = indexed.ends;
  keys = λ once key. ap (holds key) pairs ∙ indexed.keys once key;
  taken = λ once. ap taken pairs ∙ indexed.taken once;
  room = λ once. subst (λ slots. wanted s < length slots) (sym pairs) (indexed.room once);
  numbers = λ shorter. numbered_same pairs (ap (λ v. v.items) numbers) (indexed.numbers shorter);
}

pub indexed_more : {s : RandomSpec} {a : Builder} {k : Course} {p q : Progress} {w x : Generator} (low high : ℤ) (u v place : ℕ) → IsIndexed s a k p w → u < size_of s → v < size_of s → IsKept s a (with_length low high k (λ len. k.insertions ++ insertion u v len ∷ [])) q x → (int_le s.multi (pos 0) ≡ true → IsPut p.pairs (key_of s.directed u v) place q.pairs) → (int_lt s.multi (pos 0) ≡ true → q.numbers.items ≡ set p.numbers.items place (length p.edges.items)) → IsIndexed s a (with_length low high k (λ len. k.insertions ++ insertion u v len ∷ [])) q x
unfolding with_length
indexed_more {s} {a} {k} {p} {q} {w} {x} low high u v place indexed hu hv kept put numbers =
    let more = insertion u v (drawn_length low high k.rest).len in
    let key = key_of s.directed u v in
    let keys : map (key_of_insertion s.directed) (k.insertions ++ more ∷ []) ≡ keys_of s k ++ key ∷ [] = map-append (key_of_insertion s.directed) k.insertions (more ∷ []) in
    record {
      kept = kept;
      ends = All-append (IsWithin (size_of s)) k.insertions (more ∷ []) indexed.ends (within_one (size_of s) more (hu, hv));
      keys = λ once i.
          let is = put once in
          ap (holds i) is.put
          ∙ (holds_more i key p.pairs (keys_of s k) place (indexed.keys once i) is.below is.free ∙ ap (list_any (λ j. i == j)) (sym keys));
      taken = λ once.
          let is = put once in
          ap taken is.put
          ∙ (taken_put p.pairs place (key + 1) is.below is.free (λ zero_is. omega (arith, zero_is))
          ∙ (ap (λ n. n + 1) (indexed.taken once) ∙ sym (length_push k.insertions more)));
      room = λ once.
          let is = put once in
          subst (λ n. wanted s < n) (sym (ap length is.put ∙ length-set p.pairs place (key + 1))) (indexed.room once);
      numbers = λ shorter.
          let once = below_le s.multi shorter in
          let is = put once in
          let count : length p.edges.items ≡ length (keys_of s k) = listed_count indexed shorter in
          subst (IsNumbered q.pairs q.numbers.items) (sym keys)
          (numbered_same is.put (numbers shorter ∙ ap (set p.numbers.items place) count)
          (numbered_put p.pairs p.numbers.items (keys_of s k) key place (indexed.keys once) (indexed.numbers shorter) is.below is.absent));
    }

pub indexed_lower : {s : RandomSpec} {a : Builder} {k : Course} {p q : Progress} {w x : Generator} (low high : ℤ) (place : ℕ) → IsIndexed s a k p w → IsKept s a (with_length low high k (λ len. with_len_at k.insertions place len)) q x → q.pairs ≡ p.pairs → q.numbers ≡ p.numbers → IsIndexed s a (with_length low high k (λ len. with_len_at k.insertions place len)) q x
unfolding with_length
indexed_lower {s} {a} {k} {p} {q} {w} {x} low high place indexed kept pairs numbers =
    let len = (drawn_length low high k.rest).len in
    let keys : map (key_of_insertion s.directed) (with_len_at k.insertions place len) ≡ keys_of s k = keys-with_len_at s.directed k.insertions place len in
    record {
      kept = kept;
      ends = within-with_len_at (size_of s) k.insertions place len indexed.ends;
      keys = λ once i. ap (holds i) pairs ∙ (indexed.keys once i ∙ ap (list_any (λ j. i == j)) (sym keys));
      taken = λ once. ap taken pairs ∙ (indexed.taken once ∙ sym (same_count k.insertions place len));
      room = λ once. subst (λ slots. wanted s < length slots) (sym pairs) (indexed.room once);
      numbers = λ shorter. subst (IsNumbered q.pairs q.numbers.items) (sym keys) (numbered_same pairs (ap (λ v. v.items) numbers) (indexed.numbers shorter));
    }

-- the table has room for one pair more
pub room_is : {s : RandomSpec} {a : Builder} {k : Course} {p : Progress} {w : Generator} → IsIndexed s a k p w → length k.insertions < wanted s → int_le s.multi (pos 0) ≡ true → HasRoom p.pairs
room_is indexed less once = omega (arith, less, indexed.taken once, indexed.room once)

-- beside each number of a pair stands a place of the list
pub places_are : {s : RandomSpec} {a : Builder} {k : Course} {p : Progress} {w : Generator} → IsIndexed s a k p w → length k.insertions ≤ 1000000 → int_lt s.multi (pos 0) ≡ true → IsListed p.pairs p.numbers.items (length p.edges.items)
places_are {s} {a} {k} {p} {w} indexed few shorter =
    subst (IsListed p.pairs p.numbers.items) (sym (listed_count indexed shorter))
    (listed_by p.pairs p.numbers.items (keys_of s k) (indexed.keys (below_le s.multi shorter)) (indexed.numbers shorter)
    (omega (arith, few, length-map k.insertions (key_of_insertion s.directed))))

-- ---- results
pub on_ok_both : {T E P Q R : Type 0} (r : Result T E) → OnOk r P → OnOk r Q → (P → Q → R) → OnOk r R
on_ok_both (Ok x) p q f = f p q
on_ok_both (Err e) p q f = tt

pub not_false : (b : Bool) → not b ≡ false → b ≡ true
not_false true is = refl
not_false false is = absurd cc

pub not_true : (b : Bool) → not b ≡ true → b ≡ false
not_true true is = absurd cc
not_true false is = refl
