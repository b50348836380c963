-- Lemmas on the edges that are read so far.
use Rattle.std.proofs.Common.{◌≡◌, ◌<◌, ◌≤◌, ◌+◌, ◌||◌, ℕ, List, [], ◌∷◌, ◌++◌, length, max, All, Bool, true, false, not, Option, Some, None, unwrap_or, option_map, nat_le, refl, sym, ap, ap₂, subst, ◌∙◌, arith, append_assoc}
use Rattle.std.specs.List.{position_or_len}
use Rattle.std.specs.Str.{bytes_eq}
use Rattle.std.proofs.lemmas.Bool.{leb-true, lt-ltb}
use Rattle.std.proofs.lemmas.Grind.{flat_map-append}
use Rattle.std.proofs.lemmas.List.Sums.{fold-append}
use Rattle.sgb_graph.specs.Sound.{is_text}
use Rattle.sgb_graph.specs.Text.{IsText}
use Rattle.sgb_import.specs.declared.edges_header.Header.{Header}
use Rattle.sgb_import.specs.declared.outline.Names.{Names}
use Rattle.sgb_import.specs.declared.outline.Names.TheVariants.{Numbers, Words}
use Rattle.sgb_import.specs.declared.refusal.TextFault.{TextFault}
use Rattle.sgb_import.specs.declared.refusal.TextFault.TheVariants.{TooManyArcs, WrongVertices}
use Rattle.sgb_import.specs.declared.source.EdgeList.{EdgeList}
use Rattle.sgb_import.specs.Edges.{Ends, count_fault, count_of_numbers, directed_by, end_fault, end_words, first_ones, most_vertices, names_of, number_fault, unless_header, vertex_no}
use Rattle.sgb_import.specs.Numbers.{natural_of}
use Rattle.sgb_import.specs.Outline.{arcs_of_links, numbered}
use Rattle.sgb_import.specs.Private.EdgesRead.{IsFound, IsKind, limits_fault, name_fault, with_name}
use Rattle.sgb_import.specs.Refusal.{fault_unless}
use Rattle.sgb_import.proofs.EdgeNames.{first_ones-more, length-numbered, length-with_name, numbered_text, place_kept, place_low, place_same, with_text}

-- ---- no edge yet
pub no_words : (list : EdgeList) (header : Option Header) → list.names ≡ true → [] ≡ names_of list header []
unfolding names_of first_ones
no_words list header is = rw is refl

pub no_numbers : (list : EdgeList) (header : Option Header) → list.names ≡ false → names_of list header [] ≡ numbered 0 (unwrap_or (option_map (λ (h : Header). h.vertices) header) 0)
unfolding names_of
no_numbers list None is = rw is refl
no_numbers list (Some h) is = rw is refl

-- ---- the faults of endpoints
pub fault_of_number : (list : EdgeList) (header : Option Header) (w : List ℕ) → list.names ≡ false → end_fault list header w ≡ number_fault header (natural_of w)
unfolding end_fault
fault_of_number list header w is = rw is refl

pub fault_of_name : (list : EdgeList) (header : Option Header) (w : List ℕ) → list.names ≡ true → end_fault list header w ≡ name_fault w
unfolding end_fault
fault_of_name list header w is = rw is refl

no_number_fault : (list : EdgeList) (header : Option Header) (w : List ℕ) (v : ℕ) → list.names ≡ false → natural_of w ≡ Some v → v < most_vertices header → end_fault list header w ≡ None
no_number_fault list header w v is number low =
    fault_of_number list header w is ∙ (ap (number_fault header) number ∙ rw (lt-ltb v (most_vertices header) low) refl)

no_name_fault : (list : EdgeList) (header : Option Header) (w : List ℕ) → list.names ≡ true → is_text w ≡ true → end_fault list header w ≡ None
no_name_fault list header w is text = fault_of_name list header w is ∙ rw text refl

-- ---- an edge more
pub end_words-more : (es : List Ends) (e : Ends) → end_words (es ++ e ∷ []) ≡ (end_words es ++ e.from ∷ []) ++ e.to ∷ []
end_words-more es e =
    flat_map-append (λ (x : Ends). x.from ∷ x.to ∷ []) es (e ∷ []) ∙ sym (append_assoc (end_words es) (e.from ∷ []) (e.to ∷ []))

pub names_by_word : (list : EdgeList) (header : Option Header) (es : List Ends) → list.names ≡ true → names_of list header es ≡ first_ones (end_words es)
unfolding names_of
names_by_word list header es is = rw is refl

pub words-more : (list : EdgeList) (header : Option Header) (es : List Ends) (e : Ends) → list.names ≡ true
    → names_of list header (es ++ e ∷ []) ≡ with_name (with_name (names_of list header es) e.from) e.to
words-more list header es e is =
    names_by_word list header (es ++ e ∷ []) is
    ∙ (ap first_ones (end_words-more es e)
    ∙ (first_ones-more (end_words es ++ e.from ∷ []) e.to
    ∙ (ap (λ ns. with_name ns e.to) (first_ones-more (end_words es) e.from)
    ∙ ap (λ ns. with_name (with_name ns e.from) e.to) (sym (names_by_word list header es is)))))

abbrev number_in : List ℕ → ℕ
number_in w = unwrap_or (natural_of w) 0

count-more : (es : List Ends) (e : Ends) → count_of_numbers (end_words (es ++ e ∷ [])) ≡ max (max (count_of_numbers (end_words es)) (number_in e.from + 1)) (number_in e.to + 1)
count-more es e =
    ap count_of_numbers (end_words-more es e)
    ∙ (fold-append (λ n w. max n (number_in w + 1)) 0 (end_words es ++ e.from ∷ []) (e.to ∷ [])
    ∙ ap (λ n. max n (number_in e.to + 1)) (fold-append (λ n w. max n (number_in w + 1)) 0 (end_words es) (e.from ∷ [])))

names_by_number : (list : EdgeList) (header : Option Header) (es : List Ends) → list.names ≡ false
    → names_of list header es ≡ numbered 0 (unwrap_or (option_map (λ (h : Header). h.vertices) header) (count_of_numbers (end_words es)))
unfolding names_of
names_by_number list None es is = rw is refl
names_by_number list (Some h) es is = rw is refl

count_is : (list : EdgeList) (header : Option Header) (es : List Ends) (count : ℕ) → list.names ≡ false → numbered 0 count ≡ names_of list header es
    → count ≡ unwrap_or (option_map (λ (h : Header). h.vertices) header) (count_of_numbers (end_words es))
count_is list header es count is same =
    sym (length-numbered 0 count)
    ∙ (ap (λ ns. length ns) (same ∙ names_by_number list header es is) ∙ length-numbered 0 _)

numbers-more : (list : EdgeList) (header : Option Header) (es : List Ends) (e : Ends) (count after from to : ℕ) → list.names ≡ false → numbered 0 count ≡ names_of list header es
    → number_in e.from ≡ from → number_in e.to ≡ to → from < most_vertices header → to < most_vertices header → after ≡ max (max count (from + 1)) (to + 1)
    → numbered 0 after ≡ names_of list header (es ++ e ∷ [])
numbers-more list None es e count after from to is same from_is to_is from_low to_low more =
    let was : count ≡ count_of_numbers (end_words es) = count_is list None es count is same in
    ap (numbered 0) (more ∙ (ap₂ (λ a b. max (max count (a + 1)) (b + 1)) (sym from_is) (sym to_is)
    ∙ (ap (λ k. max (max k (number_in e.from + 1)) (number_in e.to + 1)) was ∙ sym (count-more es e))))
    ∙ sym (names_by_number list None (es ++ e ∷ []) is)
numbers-more list (Some h) es e count after from to is same from_is to_is from_low to_low more =
    let was : count ≡ h.vertices = count_is list (Some h) es count is same in
    let all : after ≡ h.vertices = omega (arith, more, was, from_low, to_low) in
    ap (numbered 0) all ∙ sym (names_by_number list (Some h) (es ++ e ∷ []) is)

-- ---- the vertices that an edge joins
pub kind_words : (by_name : Bool) (ns : Names) (words : _) → ns ≡ Words words → IsKind by_name ns → by_name ≡ true
kind_words by_name ns words is kind = subst (IsKind by_name) is kind

pub kind_numbers : (by_name : Bool) (ns : Names) (first count : ℕ) → ns ≡ Numbers first count → IsKind by_name ns → (by_name ≡ false) × (first ≡ 0)
kind_numbers by_name ns first count is kind = subst (IsKind by_name) is kind

number_is : (list : EdgeList) (ns : List (List ℕ)) (w : List ℕ) (v : ℕ) → list.names ≡ false → natural_of w ≡ Some v → v ≡ vertex_no list ns w
number_is list ns w v is number = rw is (sym (ap (λ o. unwrap_or o 0) number))

pub found_numbers : (list : EdgeList) (header : Option Header) (es : List Ends) (e : Ends) (count after from to : ℕ) → list.names ≡ false → numbered 0 count ≡ names_of list header es
    → natural_of e.from ≡ Some from → natural_of e.to ≡ Some to → from < most_vertices header → to < most_vertices header → most_vertices header ≤ 65535 → count ≤ 65535
    → after ≡ max (max count (from + 1)) (to + 1) → IsFound list header es e (numbered 0 count) (numbered 0 after) from to
found_numbers list header es e count after from to is same from_is to_is from_low to_low most few more =
    let long : length (numbered 0 after) ≡ after = length-numbered 0 after in
    let before : length (numbered 0 count) ≡ count = length-numbered 0 count in
    record {
      from_fault = no_number_fault list header e.from from is from_is from_low;
      to_fault = no_number_fault list header e.to to is to_is to_low;
      names = numbers-more list header es e count after from to is same (ap (λ o. unwrap_or o 0) from_is) (ap (λ o. unwrap_or o 0) to_is) from_low to_low more;
      from_is = number_is list (numbered 0 after) e.from from is from_is;
      to_is = number_is list (numbered 0 after) e.to to is to_is;
      from_low = omega (arith, long, more);
      to_low = omega (arith, long, more);
      more = omega (arith, long, before, more);
      text = λ _. numbered_text 0 after (omega (arith, more, from_low, to_low, most, few));
      numbers = λ _ low. omega (arith, long, before, more, low, from_low, to_low);
    }

pub name_is : (list : EdgeList) (ns : List (List ℕ)) (w : List ℕ) → list.names ≡ true → vertex_no list ns w ≡ position_or_len (bytes_eq w) ns
name_is list ns w is = rw is refl

pub found_words : (list : EdgeList) (header : Option Header) (es : List Ends) (e : Ends) (old new : List (List ℕ)) (from to : ℕ) → list.names ≡ true → old ≡ names_of list header es
    → is_text e.from ≡ true → is_text e.to ≡ true → new ≡ with_name (with_name old e.from) e.to → from ≡ position_or_len (bytes_eq e.from) old → to ≡ position_or_len (bytes_eq e.to) (with_name old e.from)
    → IsFound list header es e old new from to
found_words list header es e old new from to is same from_text to_text put from_is to_is =
    let one : List (List ℕ) = with_name old e.from in
    let place : position_or_len (bytes_eq e.from) one ≡ position_or_len (bytes_eq e.from) old = place_same old e.from in
    let low : position_or_len (bytes_eq e.from) one < length one = place_low old e.from in
    let from_new : from ≡ position_or_len (bytes_eq e.from) new =
    from_is ∙ (sym place ∙ (sym (place_kept (bytes_eq e.from) one e.to low) ∙ ap (position_or_len (bytes_eq e.from)) (sym put))) in
    let to_new : to ≡ position_or_len (bytes_eq e.to) new = to_is ∙ (sym (place_same one e.to) ∙ ap (position_or_len (bytes_eq e.to)) (sym put)) in
    let long : length new ≡ length (with_name one e.to) = ap (λ ns. length ns) put in
    record {
      from_fault = no_name_fault list header e.from is from_text;
      to_fault = no_name_fault list header e.to is to_text;
      names = put ∙ (ap (λ ns. with_name (with_name ns e.from) e.to) same ∙ sym (words-more list header es e is));
      from_is = from_new ∙ sym (name_is list new e.from is);
      to_is = to_new ∙ sym (name_is list new e.to is);
      from_low = omega (arith, long, length-with_name one e.to, low, from_is, place);
      to_low = omega (arith, long, place_low one e.to, to_is, place_same one e.to);
      more = omega (arith, long, length-with_name one e.to, length-with_name old e.from);
      text = λ all. subst (All IsText) (sym put) (with_text one e.to to_text (with_text old e.from from_text all));
      numbers = λ by_number _. absurd (let bad : true ≡ false = sym is ∙ by_number in cc);
    }

-- ---- the counts
limit_of : (b : Bool) (x y most : ℕ) (f : TextFault) (o : Option TextFault) → (b ≡ true → x ≡ y) → fault_unless (not b || nat_le x most) f o ≡ fault_unless (not b || nat_le y most) f o
limit_of true x y most f o same = ap (λ k. fault_unless (nat_le k most) f o) (same refl)
limit_of false x y most f o same = refl

pub counts : (list : EdgeList) (header : Option Header) (es : List Ends) → count_fault list header es ≡ limits_fault list header (length (names_of list header es)) (length es)
unfolding count_fault
counts list header es =
    limit_of list.names (length (first_ones (end_words es))) (length (names_of list header es)) (most_vertices header) (unless_header header WrongVertices)
    (fault_unless (nat_le (arcs_of_links (directed_by list header) (length es)) 1000000) TooManyArcs None)
    (λ is. ap (λ ns. length ns) (sym (names_by_word list header es is)))

pub later : (ok : Bool) (f : TextFault) (o : Option TextFault) → fault_unless ok f o ≡ None → (ok ≡ true) × (o ≡ None)
later true f o none = (refl, none)
later false f o none = absurd cc

pub limits_kept : (list : EdgeList) (header : Option Header) (names edges : ℕ) → limits_fault list header names edges ≡ None
    → ((not list.names || nat_le names (most_vertices header)) ≡ true) × (arcs_of_links (directed_by list header) edges ≤ 1000000)
limits_kept list header names edges none =
    let names_pass = later (not list.names || nat_le names (most_vertices header)) (unless_header header WrongVertices)
    (fault_unless (nat_le (arcs_of_links (directed_by list header) edges) 1000000) TooManyArcs None) none in
    let arcs_pass = later (nat_le (arcs_of_links (directed_by list header) edges) 1000000) TooManyArcs None names_pass.1 in
    (names_pass.0, leb-true (arcs_of_links (directed_by list header) edges) 1000000 arcs_pass.0)
