-- Texts that are written piece by piece.
use Rattle.std.proofs.Common.{◌+◌, ◌<◌, ◌≤◌, length, get_or, drop-cons, add-one, zero-add, ◌≡◌, ℕ, Bool, true, false, ◌||◌, List, [], ◌++◌, take, drop, Result, Ok, Err, IsErr, refl, sym, ap, ◌∙◌, subst, append_assoc, arith, take-append-drop}
use Rattle.std.proofs.Math.ListN.{drop_of_length-le}
use Rattle.std.proofs.lemmas.List.FromFn.{get_or-range_with_len, length-range_with_len}
use Rattle.std.specs.List.{flat_map, range_with_len}
use Rattle.std.specs.Io.KnownBytes.{Appends}
use Rattle.std.proofs.KnownBytes.{Appends-nil, Appends-trans}
use Rattle.sgb_print.specs.Meter.{WriterUse}
use Rattle.sgb_print.specs.Print.{Prints}

-- of the text all but the rest is written
pub record Writes {W : Type 0} (old new : WriterUse W) (text rest : List ℕ) : Type 0 where
  pub front : List ℕ
  pub whole : text ≡ front ++ rest
  pub appends : Appends old.held new.held front
  pub failed : new.failed ≡ old.failed

pub or-false : (b : Bool) → (b || false) ≡ b
or-false true = refl
or-false false = refl

module _ {W : Type 0} where
  -- nothing is written yet
  pub writes_none : {w : WriterUse W} {text : List ℕ} → Writes w w text text
  writes_none {w} = record { front = []; whole = refl; appends = Appends-nil w.held; failed = refl }

  -- a write takes n bytes of the rest
  pub write_took : {old mid new : WriterUse W} {text rest : List ℕ} (n : ℕ)
      → Writes old mid text rest → Appends mid.held new.held (take n rest) → new.failed ≡ (mid.failed || false) → Writes old new text (drop n rest)
  write_took {old} {mid} {new} {text} {rest} n w more failed = record {
    front = w.front ++ take n rest;
    whole = w.whole ∙ ap (λ r. w.front ++ r) (sym (take-append-drop n rest)) ∙ sym (append_assoc w.front (take n rest) (drop n rest));
    appends = Appends-trans old.held mid.held new.held w.front (take n rest) w.appends more;
    failed = failed ∙ or-false mid.failed ∙ w.failed;
  }

  module _ {X E : Type 0} where
    -- the rest is printed behind what was written
    pub prints_rest : {old mid new : WriterUse W} {result : Result X E} {text rest : List ℕ}
        → Writes old mid text rest → Prints mid new result rest → Prints old new result text
    prints_rest {old} {mid} {new} {result = Ok x} {rest = rest} w more = record {
      bytes = subst (Appends old.held new.held) (sym w.whole) (Appends-trans old.held mid.held new.held w.front rest w.appends more.bytes);
      failed = more.failed ∙ w.failed;
    }
    prints_rest {old} {mid} {new} {result = Err e} w more = record {
      bytes = record {
        front = w.front ++ more.bytes.front;
        rest = more.bytes.rest;
        whole = w.whole ∙ ap (λ r. w.front ++ r) more.bytes.whole ∙ sym (append_assoc w.front more.bytes.front more.bytes.rest);
        appends = Appends-trans old.held mid.held new.held w.front more.bytes.front w.appends more.bytes.appends;
      };
      failed = more.failed;
    }

    -- the same text in another spelling
    pub prints_same : {old new : WriterUse W} {result : Result X E} {bytes text : List ℕ}
        → Prints old new result bytes → text ≡ bytes → Prints old new result text
    prints_same {old} {new} {result} w same = subst (Prints old new result) (sym same) w

    -- no text is printed
    pub prints_none : {w : WriterUse W} {x : X} {text : List ℕ} → text ≡ [] → Prints {X = X} {E = E} w w (Ok x) text
    prints_none {w} none = record { bytes = subst (Appends w.held w.held) (sym none) (Appends-nil w.held); failed = refl }

    -- nothing is left to print
    pub prints_all : {old new : WriterUse W} {x : X} {text rest : List ℕ} → Writes old new text rest → rest ≡ [] → Prints {X = X} {E = E} old new (Ok x) text
    prints_all w none = prints_rest w (prints_none none)

    -- the first of two texts is printed
    pub writes_first : {old new : WriterUse W} {x : X} {first : List ℕ} (second : List ℕ)
        → Prints {X = X} {E = E} old new (Ok x) first → Writes old new (first ++ second) second
    writes_first {first} second w = record { front = first; whole = refl; appends = w.bytes; failed = w.failed }

    -- the first of two texts is not printed
    pub fails_early : {Y F : Type 0} {old new : WriterUse W} {e : E} {result : Result Y F} {first : List ℕ} (second : List ℕ)
        → Prints {X = X} {E = E} old new (Err e) first → IsErr result → Prints old new result (first ++ second)
    fails_early {result = Ok y} second w failed = cc
    fails_early {result = Err f} second w failed = record {
      bytes = record {
        front = w.bytes.front;
        rest = w.bytes.rest ++ second;
        whole = ap (λ t. t ++ second) w.bytes.whole ∙ append_assoc w.bytes.front w.bytes.rest second;
        appends = w.bytes.appends;
      };
      failed = w.failed;
    }

    -- a piece of the rest is printed
    pub writes_piece : {old mid new : WriterUse W} {x : X} {text rest piece rest' : List ℕ}
        → Writes old mid text rest → Prints {X = X} {E = E} mid new (Ok x) piece → rest ≡ piece ++ rest' → Writes old new text rest'
    writes_piece {old} {mid} {new} {piece} {rest'} w more split = record {
      front = w.front ++ piece;
      whole = w.whole ∙ ap (λ r. w.front ++ r) split ∙ sym (append_assoc w.front piece rest');
      appends = Appends-trans old.held mid.held new.held w.front piece w.appends more.bytes;
      failed = more.failed ∙ w.failed;
    }

  module _ {X E Y F : Type 0} where
    -- the same under another result
    pub prints_done : {old new : WriterUse W} {x : X} {y : Y} {text : List ℕ} → Prints {X = X} {E = E} old new (Ok x) text → Prints {X = Y} {E = F} old new (Ok y) text
    prints_done w = record { bytes = w.bytes; failed = w.failed }

    pub prints_failed : {old new : WriterUse W} {e : E} {f : F} {text : List ℕ} → Prints {X = X} {E = E} old new (Err e) text → Prints {X = Y} {E = F} old new (Err f) text
    prints_failed w = record { bytes = w.bytes; failed = w.failed }

    -- one text is printed behind another
    pub prints_behind : {old mid new : WriterUse W} {x : X} {result : Result Y F} {first second : List ℕ}
        → Prints {X = X} {E = E} old mid (Ok x) first → Prints mid new result second → Prints old new result (first ++ second)
    prints_behind before more = prints_rest (writes_first _ before) more

    pub fails_piece : {old mid new : WriterUse W} {e : E} {result : Result Y F} {text rest piece : List ℕ} (rest' : List ℕ)
        → Writes old mid text rest → Prints {X = X} {E = E} mid new (Err e) piece → rest ≡ piece ++ rest' → IsErr result → Prints old new result text
    fails_piece rest' w more split failed = prints_rest w (prints_same (fails_early rest' more failed) split)

-- ---- texts of a list, one behind another
module _ {X A : Type 0} (text : X → List A) where
  -- the text at a place, and those behind it
  pub item_and_rest : (xs : List X) (i : ℕ) (x d : X) → i < length xs → x ≡ get_or xs i d
      → flat_map text (drop i xs) ≡ text x ++ flat_map text (drop (i + 1) xs)
  item_and_rest xs i x d within same = rw (add-one i, same) (ap (flat_map text) (drop-cons xs i d within))

  pub no_rest : (xs : List X) (i : ℕ) → length xs ≤ i → flat_map text (drop i xs) ≡ []
  no_rest xs i all = ap (flat_map text) (drop_of_length-le xs all)

-- ---- texts of the numbers below n, one behind another
module _ {A : Type 0} (text : ℕ → List A) (n i : ℕ) where
  pub number_and_rest : i < n → flat_map text (drop i (range_with_len 0 n)) ≡ text i ++ flat_map text (drop (i + 1) (range_with_len 0 n))
  number_and_rest within =
      item_and_rest text (range_with_len 0 n) i i i (omega (arith, length-range_with_len 0 n)) (sym (get_or-range_with_len 0 n i i within ∙ zero-add i))

  pub no_number : n ≤ i → flat_map text (drop i (range_with_len 0 n)) ≡ []
  no_number all = no_rest text (range_with_len 0 n) i (omega (arith, length-range_with_len 0 n))
