-- What stands inside quotes, run by run.
use Rattle.std.proofs.Common.{◌≡◌, ◌≢◌, ℕ, suc, ◌+◌, ◌<◌, ◌≤◌, ◌==◌, Bool, true, false, not, ◌&&◌, nat_le, List, [], ◌∷◌, ◌++◌, take, drop, length, slice_index_or, if◌then◌else◌, Option, Some, None, refl, sym, ap, ◌∙◌, inl, inr, arith, append_assoc}
use Rattle.std.specs.List.{prefix_len, list_all}
use Rattle.std.proofs.lemmas.Bool.{cases_Bool, eqb-true, false≢true, true≢false, and_parts, not-true, ne_eqb, le-leb, lt-leb}
use Rattle.std.proofs.lemmas.List.{append-nil}
use Rattle.sgb_graph.specs.Text.{is_text_byte}
use Rattle.sgb_grammar.specs.Reading.{after, behind}
use Rattle.sgb_grammar.specs.String.{inside_at, within, text_at}
use Rattle.sgb_grammar.specs.Private.Pieces.{joined_at, goes_on, text_within}

pub behind_nothing : {A : Type 0} (m : Option (List A × List ℕ)) → behind [] m ≡ m
behind_nothing None = refl
behind_nothing (Some p) = refl

pub behind_both : {A : Type 0} (xs ys : List A) (m : Option (List A × List ℕ)) → behind xs (behind ys m) ≡ behind (xs ++ ys) m
behind_both xs ys None = refl
behind_both xs ys (Some p) = ap (λ zs. Some (zs, p.1)) (sym (append_assoc xs ys p.0))

-- a byte of a text is neither a quote nor a backslash
pub no_quote : (c : ℕ) → is_text_byte c ≡ true → (c == 34) ≡ false
no_quote c h = not-true (c == 34) (and_parts _ _ (and_parts _ (not (c == 92)) h).0).1

pub no_backslash : (c : ℕ) → is_text_byte c ≡ true → (c == 92) ≡ false
no_backslash c h = not-true (c == 92) (and_parts (nat_le 32 c && nat_le c 126 && not (c == 34)) (not (c == 92)) h).1

pub text_byte : (c : ℕ) (cs : List ℕ) → is_text_byte c ≡ true → inside_at false (c ∷ cs) ≡ behind (c ∷ []) (inside_at false cs)
unfolding inside_at
text_byte c cs h = rw (h, no_quote c h, no_backslash c h) refl

-- ---- what is inside, whatever its bytes are, and whether they are a text

abbrev pub checked : Option (List ℕ × List ℕ) → Option (List ℕ × List ℕ)
checked None = None
checked (Some p) = if list_all is_text_byte p.0 then Some p else None

good_byte : (c : ℕ) (m : Option (List ℕ × List ℕ)) → is_text_byte c ≡ true → behind (c ∷ []) (checked m) ≡ checked (behind (c ∷ []) m)
good_byte c None h = refl
good_byte c (Some p) h = elim (cases_Bool (list_all is_text_byte p.0)) [
  | inl all ↦ rw (h, all) refl
  | inr other ↦ rw (h, other) refl
]

bad_byte : (c : ℕ) (m : Option (List ℕ × List ℕ)) → is_text_byte c ≡ false → None ≡ checked (behind (c ∷ []) m)
bad_byte c None h = refl
bad_byte c (Some p) h = rw h refl

pub inside_checked : (broken : Bool) (bs : List ℕ) → inside_at broken bs ≡ checked (joined_at broken bs)
unfolding inside_at joined_at
inside_checked true [] = refl
inside_checked true (c ∷ cs) = elim (cases_Bool (c == 10)) [
  | inl line ↦ rw line (inside_checked false cs)
  | inr other ↦ rw other refl
]
inside_checked false [] = refl
inside_checked false (c ∷ cs) = elim (cases_Bool (c == 34)) [
  | inl quote ↦ rw quote refl
  | inr plain ↦ elim (cases_Bool (c == 92)) [
    | inl broken' ↦ rw (plain, broken') (inside_checked true cs)
    | inr whole ↦ elim (cases_Bool (is_text_byte c)) [
      | inl text ↦ rw (text, plain, whole) (ap (behind (c ∷ [])) (inside_checked false cs) ∙ good_byte c (joined_at false cs) text)
      | inr other ↦ rw (other, plain, whole) (bad_byte c (joined_at false cs) other)
    ]
  ]
]

-- a run stands before what follows it
on_byte : (c : ℕ) (cs : List ℕ) → goes_on c ≡ true → joined_at false (c ∷ cs) ≡ behind (c ∷ []) (joined_at false cs)
unfolding joined_at
on_byte c cs h = elim (cases_Bool (c == 34)) [
  | inl quote ↦ absurd (false≢true (let bad : false ≡ true = rw quote at h in bad))
  | inr plain ↦ elim (cases_Bool (c == 92)) [
    | inl slash ↦ absurd (false≢true (let bad : false ≡ true = rw (plain, slash) at h in bad))
    | inr whole ↦ rw (plain, whole) refl
  ]
]

pub joined_run : (bs : List ℕ) → joined_at false bs ≡ behind (take (prefix_len goes_on bs) bs) (joined_at false (drop (prefix_len goes_on bs) bs))
joined_run [] = sym (behind_nothing (joined_at false []))
joined_run (c ∷ cs) =
    let k = prefix_len goes_on cs in
    elim (cases_Bool (goes_on c)) [
      | inl yes' ↦
          let more : 1 + k ≡ suc k = omega arith in
          rw (yes', more) (on_byte c cs yes' ∙ ap (behind (c ∷ [])) (joined_run cs) ∙ behind_both (c ∷ []) (take k cs) (joined_at false (drop k cs)))
      | inr no' ↦ rw no' (sym (behind_nothing (joined_at false (c ∷ cs))))
    ]

pub stops : (bs : List ℕ) → goes_on (slice_index_or (drop (prefix_len goes_on bs) bs) 0 34) ≡ false
stops [] = refl
stops (c ∷ cs) = elim (cases_Bool (goes_on c)) [
  | inl yes' ↦ let more : 1 + prefix_len goes_on cs ≡ suc (prefix_len goes_on cs) = omega arith in rw (yes', more) (stops cs)
  | inr no' ↦ rw no' no'
]

-- what ends a run
pub ends_nowhere : (bs : List ℕ) → bs ≡ [] → joined_at false bs ≡ None
unfolding joined_at
ends_nowhere bs e = rw e refl

pub ends_with_quote : (bs rest : List ℕ) (c : ℕ) → bs ≡ c ∷ rest → c ≡ 34 → joined_at false bs ≡ Some ([], rest)
unfolding joined_at
ends_with_quote bs rest c e f = rw (e, f) refl

pub is_backslash : (bs rest : List ℕ) (c : ℕ) → goes_on (slice_index_or bs 0 34) ≡ false → bs ≡ c ∷ rest → c ≢ 34 → c ≡ 92
is_backslash bs rest c h e q =
    let first : goes_on c ≡ false = ap (λ xs. goes_on (slice_index_or xs 0 34)) (sym e) ∙ h in
    elim (cases_Bool (c == 92)) [
      | inl slash ↦ eqb-true c 92 slash
      | inr other ↦ absurd (true≢false (let bad : true ≡ false = rw (ne_eqb c 34 q, other) at first in bad))
    ]

pub ends_with_backslash : (bs rest : List ℕ) (c : ℕ) → bs ≡ c ∷ rest → c ≡ 92 → rest ≡ [] → joined_at false bs ≡ None
unfolding joined_at
ends_with_backslash bs rest c e f g = rw (e, f, g) refl

pub ends_with_escape : (bs rest line : List ℕ) (c d : ℕ) → bs ≡ c ∷ rest → c ≡ 92 → rest ≡ d ∷ line → d ≢ 10 → joined_at false bs ≡ None
unfolding joined_at
ends_with_escape bs rest line c d e f g n = rw (e, f, g, ne_eqb d 10 n) refl

pub ends_with_line : (bs rest line : List ℕ) (c d : ℕ) → bs ≡ c ∷ rest → c ≡ 92 → rest ≡ d ∷ line → d ≡ 10 → (joined_at false bs ≡ joined_at false line) × (length line < length bs)
unfolding joined_at
ends_with_line bs rest line c d e f g h = (rw (e, f, g, h) refl, rw (e, g) (omega arith))

-- a run with what ends it
pub last_piece : (bs run rest line : List ℕ) (k : ℕ) → k ≡ prefix_len goes_on bs → run ≡ take k bs → rest ≡ drop k bs → joined_at false rest ≡ Some ([], line) → joined_at false bs ≡ Some (run, line)
last_piece bs run rest line k e f g h =
    joined_run bs
    ∙ ap (λ j. behind (take j bs) (joined_at false (drop j bs))) (sym e)
    ∙ ap (λ t. behind t (joined_at false (drop k bs))) (sym f)
    ∙ ap (λ t. behind run (joined_at false t)) (sym g)
    ∙ ap (behind run) h
    ∙ ap (λ t. Some (t, line)) (append-nil run)

pub any_piece : (bs run rest : List ℕ) (k : ℕ) → k ≡ prefix_len goes_on bs → run ≡ take k bs → rest ≡ drop k bs → joined_at false bs ≡ behind run (joined_at false rest)
any_piece bs run rest k e f g =
    joined_run bs
    ∙ ap (λ j. behind (take j bs) (joined_at false (drop j bs))) (sym e)
    ∙ ap (λ t. behind t (joined_at false (drop k bs))) (sym f)
    ∙ ap (λ t. behind run (joined_at false t)) (sym g)

pub broken_piece : (bs run rest line : List ℕ) (k : ℕ) → k ≡ prefix_len goes_on bs → run ≡ take k bs → rest ≡ drop k bs → length rest ≤ length bs
    → (joined_at false rest ≡ joined_at false line) × (length line < length rest) → (joined_at false bs ≡ behind run (joined_at false line)) × (length line < length bs)
broken_piece bs run rest line k e f g short h =
    (any_piece bs run rest k e f g ∙ ap (behind run) h.0, omega (arith, h.1))

pub no_piece : (bs run rest : List ℕ) (k : ℕ) → k ≡ prefix_len goes_on bs → run ≡ take k bs → rest ≡ drop k bs → joined_at false rest ≡ None → joined_at false bs ≡ None
no_piece bs run rest k e f g h = any_piece bs run rest k e f g ∙ ap (behind run) h

-- a text of so many bytes at most
pub text_is : (limit : ℕ) (bs inside : List ℕ) (p : List ℕ × List ℕ) → after (34 ∷ []) bs ≡ Some inside → inside_at false inside ≡ Some p → text_at limit bs ≡ within limit p
unfolding text_at
text_is limit bs inside p e f = rw (e, f) refl

text_none : (limit : ℕ) (bs inside : List ℕ) → after (34 ∷ []) bs ≡ Some inside → inside_at false inside ≡ None → text_at limit bs ≡ None
unfolding text_at
text_none limit bs inside e f = rw (e, f) refl

pub no_text : (limit : ℕ) (bs : List ℕ) → after (34 ∷ []) bs ≡ None → text_at limit bs ≡ None
unfolding text_at
no_text limit bs e = rw e refl

pub short : (limit : ℕ) (t rest : List ℕ) → length t ≤ limit → within limit (t, rest) ≡ Some (t, rest)
short limit t rest h = rw (le-leb (length t) limit h) refl

pub long : (limit : ℕ) (t rest : List ℕ) → limit < length t → within limit (t, rest) ≡ None
long limit t rest h = rw (lt-leb (length t) limit h) refl

-- ---- a text is read where what is inside is one

pub text_joined : (limit : ℕ) (bs inside : List ℕ) (p : List ℕ × List ℕ) → after (34 ∷ []) bs ≡ Some inside → joined_at false inside ≡ Some p → text_at limit bs ≡ text_within limit p
unfolding text_at
text_joined limit bs inside p e f =
    let found : inside_at false inside ≡ checked (Some p) = inside_checked false inside ∙ ap checked f in
    elim (cases_Bool (list_all is_text_byte p.0)) [
      | inl all ↦ rw (e, found, all) refl
      | inr other ↦ rw (e, found, other) refl
    ]

pub text_unjoined : (limit : ℕ) (bs inside : List ℕ) → after (34 ∷ []) bs ≡ Some inside → joined_at false inside ≡ None → text_at limit bs ≡ None
text_unjoined limit bs inside e f = text_none limit bs inside e (inside_checked false inside ∙ ap checked f)
