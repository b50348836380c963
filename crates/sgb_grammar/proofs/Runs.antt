-- Runs of text bytes, which end at a quote or at a backslash.
use Rattle.std.proofs.Common.{◌≡◌, ℕ, ◌<◌, not, List, length, get_or, sym, ap, ◌∙◌, arith}
use Rattle.std.specs.List.{prefix_len}
use Rattle.std.proofs.lemmas.Bool.{not-false, false≢true}
use Rattle.std.proofs.lemmas.List.Sums.{prefix_len_passes, prefix_len_stops, prefix_len-le-length}
use Rattle.memchr.specs.Find.{is_byte2, Passes, NoneBefore, Nowhere}
use Rattle.sgb_grammar.specs.Private.Pieces.{goes_on}

pub mark_found : (bs : List ℕ) (k : ℕ) → NoneBefore (Passes (is_byte2 34 92) bs) 0 (length bs) k → Passes (is_byte2 34 92) bs k → k ≡ prefix_len goes_on bs
mark_found bs k before here =
    let n = prefix_len goes_on bs in
    let not_later : k < n → ⊥ = λ h. false≢true (sym (ap not here) ∙ prefix_len_passes goes_on bs k 0 h) in
    let not_before : n < k → ⊥ = λ h. before.before n (omega arith) h (not-false (is_byte2 34 92 (get_or bs n 0)) (prefix_len_stops goes_on bs 0 (omega (arith, h, before.high)))) in
    omega (arith, not_later, not_before)

pub no_mark : (bs : List ℕ) → Nowhere (Passes (is_byte2 34 92) bs) 0 (length bs) → length bs ≡ prefix_len goes_on bs
no_mark bs nowhere =
    let n = prefix_len goes_on bs in
    let within = prefix_len-le-length goes_on bs in
    let not_before : n < length bs → ⊥ = λ h. nowhere n (omega arith) h (not-false (is_byte2 34 92 (get_or bs n 0)) (prefix_len_stops goes_on bs 0 h)) in
    omega (arith, within, not_before)
