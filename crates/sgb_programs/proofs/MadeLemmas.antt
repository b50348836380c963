-- Lines that are joined of words, and what they make in a session.
use Rattle.std.proofs.Common.{◌≡◌, ◌∙◌, ◌<◌, ◌+◌, ℕ, List, [], ◌∷◌, ◌++◌, Bor, Result, Ok, Err, length, get_or, drop, drop-cons, add-one, map, ap, sym, subst, inl, inr, refl, append_assoc}
use Rattle.std.specs.Prelude.{◌⊎◌, IsOkAnd}
use Rattle.std.specs.List.{flat_map}
use Rattle.sgb_graph.specs.Graph.{GraphOf}
use Rattle.sgb_print.specs.Meter.{WriterUse}
use Rattle.sgb_print.specs.Print.{Prints}
use Rattle.sgb_script.specs.declared.refusal.ShellRefusal.{ShellRefusal}
use Rattle.sgb_script.specs.declared.refusal.ShellRefusal.TheVariants as refusals
use Rattle.sgb_text.specs.Clean.{clean_of}
use Rattle.sgb_text.specs.Save.{text_of}
use Rattle.sgb_programs.specs.Made.{front_of, made_line}
use Rattle.sgb_programs.specs.declared.operand.Operands.{Operands}

-- ---- the line

-- a word at its place goes from the rest to the front
pub word_put : (front spaced front' all : List ℕ) (ws : List (Bor (List ℕ))) (i : ℕ) (d : Bor (List ℕ)) → i < length ws
    → spaced ≡ front ++ 32 ∷ [] → front' ≡ spaced ++ (get_or ws i d).now
    → front ++ flat_map (λ w. 32 ∷ w.now) (drop i ws) ≡ all → front' ++ flat_map (λ w. 32 ∷ w.now) (drop (i + 1) ws) ≡ all
word_put front spaced front' all ws i d within space word same =
    let rest = flat_map (λ (w : Bor (List ℕ)). 32 ∷ w.now) (drop (i + 1) ws) in
    let split : flat_map (λ (w : Bor (List ℕ)). 32 ∷ w.now) (drop i ws) ≡ (32 ∷ (get_or ws i d).now) ++ rest =
    ap (flat_map (λ (w : Bor (List ℕ)). 32 ∷ w.now)) (drop-cons ws i d within ∙ ap (λ k. get_or ws i d ∷ drop k ws) (sym (add-one i))) in
    ap (λ f. f ++ rest) (word ∙ ap (λ f. f ++ (get_or ws i d).now) space)
    ∙ append_assoc (front ++ 32 ∷ []) (get_or ws i d).now rest ∙ append_assoc front (32 ∷ []) ((get_or ws i d).now ++ rest) ∙ ap (λ r. front ++ r) (sym split) ∙ same

-- the words that are borrowed
words_seen : (ws : List (Bor (List ℕ))) → flat_map (λ w. 32 ∷ w.now) ws ≡ flat_map (λ w. 32 ∷ w) (map (λ w. w.now) ws)
words_seen [] = refl
words_seen (w ∷ ws) = ap (λ r. (32 ∷ w.now) ++ r) (words_seen ws)

pub line_joined : (line line' command : List ℕ) (operands : Operands) (ws : List (Bor (List ℕ))) → line ≡ command ++ front_of operands
    → line' ≡ line ++ flat_map (λ w. 32 ∷ w.now) ws → line' ≡ made_line command operands (map (λ w. w.now) ws)
unfolding made_line
line_joined line line' command operands ws front whole =
    whole ∙ ap (λ f. f ++ flat_map (λ (w : Bor (List ℕ)). 32 ∷ w.now) ws) front
    ∙ ap (λ r. (command ++ front_of operands) ++ r) (words_seen ws)

-- ---- what is printed

-- a refusal that is no want of memory
pub refused_otherwise : (made : Result GraphOf ShellRefusal) (r : ShellRefusal) → (r ≡ refusals.NoRoom → ⊥)
    → (r ≡ refusals.NoRoom) ⊎ (made ≡ Err r) → made ≡ Err r
refused_otherwise made r other (inl none) = absurd (other none)
refused_otherwise made r other (inr same) = same

-- the text that is printed is that of the graph
pub whole_made : {W X E : Type 0} (old new : WriterUse W) (result : Result X E) (text : List ℕ) (made : Result GraphOf ShellRefusal)
    → IsOkAnd made (λ g. text ≡ text_of (clean_of g)) → Prints old new result text → IsOkAnd made (λ g. Prints old new result (text_of (clean_of g)))
whole_made old new result text (Ok g) same w = subst (Prints old new result) same w
whole_made old new result text (Err r) same w = elim same [ ]
