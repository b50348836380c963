-- Lemmas on the header and the id of a list of edges.
use Rattle.std.proofs.Common.{◌≡◌, ◌-◌, ◌==◌, ◌^◌, ℕ, List, [], ◌∷◌, length, take, map, find, min, codes, Bool, true, false, Option, Some, None, get_or, if◌then◌else◌, refl, sym, ap, ◌∙◌, arith}
use Rattle.std.specs.Option.{option_map, option_and_then}
use Rattle.std.specs.Str.{bytes_eq}
use Rattle.sgb_import.specs.declared.edges_header.Header.{Header}
use Rattle.sgb_import.specs.Edges.{before_quote, header_of, header_of_words, header_with, id_in, id_line, is_comment, kind_of}
use Rattle.sgb_import.specs.Lines.{LineOf, words}
use Rattle.sgb_import.specs.Numbers.{natural_of}
use Rattle.sgb_import.specs.Private.EdgesRead.{capped, four}
use Rattle.sgb_import.specs.Refusal.{first_some}

-- ---- the header
-- what four words say
abbrev pub said : ℕ → List ℕ × List ℕ × List ℕ × List ℕ → Option Header
said line w = if bytes_eq w.0 (codes "#") then header_with line (kind_of w.1) (natural_of w.2) (natural_of w.3) else None

pub header_said : (line : ℕ) (ws : List (List ℕ)) → header_of_words line ws ≡ option_and_then (said line) (four ws)
unfolding header_of_words
header_said line [] = refl
header_said line (a ∷ []) = refl
header_said line (a ∷ (b ∷ [])) = refl
header_said line (a ∷ (b ∷ (c ∷ []))) = refl
header_said line (a ∷ (b ∷ (c ∷ (d ∷ [])))) = refl
header_said line (a ∷ (b ∷ (c ∷ (d ∷ (e ∷ more))))) = refl

abbrev cap : Option ℕ → Option ℕ
cap = option_map (λ n. min n (2 ^ 64 - 1))

pub capped_with : (line : ℕ) (directed : Option Bool) (n m : Option ℕ) → option_map capped (header_with line directed n m) ≡ header_with line directed (cap n) (cap m)
capped_with line None n m = refl
capped_with line (Some d) None m = refl
capped_with line (Some d) (Some n) None = refl
capped_with line (Some d) (Some n) (Some m) = refl

pub header_short : (line : ℕ) (ws : List (List ℕ)) → None ≡ four ws → None ≡ option_map capped (header_of_words line ws)
header_short line ws short = ap (option_map capped) (sym (header_said line ws ∙ ap (option_and_then (said line)) (sym short)))

pub header_lacks : (line : ℕ) (ws : List (List ℕ)) (w : List ℕ × List ℕ × List ℕ × List ℕ) → Some w ≡ four ws → bytes_eq w.0 (codes "#") ≡ false → None ≡ option_map capped (header_of_words line ws)
header_lacks line ws w are other =
    let none : said line w ≡ None = rw other refl in
    ap (option_map capped) (sym (header_said line ws ∙ (ap (option_and_then (said line)) (sym are) ∙ none)))

pub header_reads : (line : ℕ) (ws : List (List ℕ)) (w : List ℕ × List ℕ × List ℕ × List ℕ) {k : Option Bool} {n m : Option ℕ} → Some w ≡ four ws → bytes_eq w.0 (codes "#") ≡ true
    → k ≡ kind_of w.1 → n ≡ cap (natural_of w.2) → m ≡ cap (natural_of w.3) → header_with line k n m ≡ option_map capped (header_of_words line ws)
header_reads line ws w {k} {n} {m} are hash k_is n_is m_is =
    let some : said line w ≡ header_with line (kind_of w.1) (natural_of w.2) (natural_of w.3) = rw hash refl in
    ap (λ x. header_with line x n m) k_is
    ∙ (ap (λ x. header_with line (kind_of w.1) x m) n_is
    ∙ (ap (λ x. header_with line (kind_of w.1) (cap (natural_of w.2)) x) m_is
    ∙ (sym (capped_with line (kind_of w.1) (natural_of w.2) (natural_of w.3))
    ∙ ap (option_map capped) (sym (header_said line ws ∙ (ap (option_and_then (said line)) (sym are) ∙ some))))))

pub first_is : (l : LineOf) (ls ms : List LineOf) → find is_comment (l ∷ ls) ≡ find is_comment ms → is_comment l ≡ true → header_of ms ≡ header_of_words l.number (words l.bytes)
unfolding header_of
first_is l ls ms same is =
    let found : Some l ≡ find is_comment ms = sym (rw is refl) ∙ same in
    ap (option_and_then (λ k. header_of_words k.number (words k.bytes))) (sym found)

pub none_is : (ms : List LineOf) → find is_comment [] ≡ find is_comment ms → header_of ms ≡ None
unfolding header_of
none_is ms same = ap (option_and_then (λ k. header_of_words k.number (words k.bytes))) (sym same)

-- ---- the id
pub first_id : (l i : LineOf) (ls ms : List LineOf) → first_some (map id_in (l ∷ ls)) ≡ first_some (map id_in ms) → id_in l ≡ Some i → Some i ≡ id_line ms
unfolding id_line
first_id l i ls ms same is =
    let found : first_some (map id_in (l ∷ ls)) ≡ Some i = ap (λ o. first_some (o ∷ map id_in ls)) is in
    sym found ∙ same

pub next_id : (l : LineOf) (ls ms : List LineOf) → first_some (map id_in (l ∷ ls)) ≡ first_some (map id_in ms) → id_in l ≡ None → first_some (map id_in ls) ≡ first_some (map id_in ms)
next_id l ls ms same is = sym (ap (λ o. first_some (o ∷ map id_in ls)) is) ∙ same

pub no_id : (ms : List LineOf) → first_some (map id_in []) ≡ first_some (map id_in ms) → None ≡ id_line ms
unfolding id_line
no_id ms same = same

-- ---- the quote at the end
quoted_at : (b : ℕ) (bs : List ℕ) → (get_or (b ∷ bs) (length bs) 0 == 34) ≡ true → before_quote (b ∷ bs) ≡ Some (take (length bs) (b ∷ bs))
quoted_at b [] last = rw last refl
quoted_at b (c ∷ cs) last = ap (option_map (λ t. b ∷ t)) (quoted_at c cs last)

unquoted_at : (b : ℕ) (bs : List ℕ) → (get_or (b ∷ bs) (length bs) 0 == 34) ≡ false → before_quote (b ∷ bs) ≡ None
unquoted_at b [] last = rw last refl
unquoted_at b (c ∷ cs) last = ap (option_map (λ t. b ∷ t)) (unquoted_at c cs last)

one_less : (b : ℕ) (bs : List ℕ) → length (b ∷ bs) - 1 ≡ length bs
one_less b bs = omega arith

pub quoted : (bs : List ℕ) → (get_or bs (length bs - 1) 0 == 34) ≡ true → Some (take (length bs - 1) bs) ≡ before_quote bs
quoted [] last = absurd cc
quoted (b ∷ bs) last = rw (one_less b bs) (sym (quoted_at b bs (rw (one_less b bs) at last)))

pub unquoted : (bs : List ℕ) → (get_or bs (length bs - 1) 0 == 34) ≡ false → None ≡ before_quote bs
unquoted [] last = refl
unquoted (b ∷ bs) last = sym (unquoted_at b bs (rw (one_less b bs) at last))
