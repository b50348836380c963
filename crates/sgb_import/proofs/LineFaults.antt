-- Lemmas on the first line at fault, where the fault of a line hangs on the lines before it.
--
-- A loop over the lines keeps `FaultFree` of those that it has read: `free_start` begins, `free_more` goes on by a line,
-- `free_end` is the end, and `first_fault` the line that is at fault.
use Rattle.std.proofs.Common.{◌≡◌, ◌<◌, ℕ, List, [], ◌∷◌, ◌++◌, length, get_or, map, take, Option, Some, None, ◌⊎◌, inl, inr, refl, ap, ap₂, ◌∙◌, arith, length-append}
use Rattle.std.specs.List.{range_with_len}
use Rattle.std.proofs.lemmas.Bool.{cases_eq}
use Rattle.std.proofs.lemmas.List.{take-append-le, take_at, get_or_append_left, get_or_at}
use Rattle.sgb_import.specs.declared.refusal.ImportRefusal.{ImportRefusal}
use Rattle.sgb_import.specs.declared.refusal.ImportRefusal.TheVariants.{NoRoom}
use Rattle.sgb_import.specs.Lines.{LineOf}
use Rattle.sgb_import.specs.Refusal.{first_some}
use Rattle.sgb_import.proofs.FirstFaults.{first_of, none_of}

abbrev pub no_line : LineOf
no_line = record { number = 0; bytes = [] }

module _ (f : List LineOf → LineOf → Option ImportRefusal) where
  -- the fault of line i behind those before it
  abbrev pub fault_at : List LineOf → ℕ → Option ImportRefusal
  fault_at ls i = f (take i ls) (get_or ls i no_line)

  abbrev pub first_fault_of : List LineOf → Option ImportRefusal
  first_fault_of ls = first_some (map (fault_at ls) (range_with_len 0 (length ls)))

  -- none of the lines is at fault
  pub record FaultFree (ls : List LineOf) : Type 0 where
    pub none : (k : ℕ) → k < length ls → fault_at ls k ≡ None

  pub free_start : FaultFree []
  free_start = record { none = λ k h. absurd (omega arith) }

  fault_in_front : (before rest : List LineOf) (k : ℕ) → k < length before → fault_at (before ++ rest) k ≡ fault_at before k
  fault_in_front before rest k h = ap₂ f (take-append-le k before rest (omega arith)) (get_or_append_left before rest no_line k h)

  fault_behind_front : (before : List LineOf) (l : LineOf) (rest : List LineOf) → fault_at (before ++ l ∷ rest) (length before) ≡ f before l
  fault_behind_front before l rest = ap₂ f (take_at before (l ∷ rest) (length before) refl) (get_or_at before l rest no_line (length before) refl)

  pub free_more : {before : List LineOf} {l : LineOf} → FaultFree before → f before l ≡ None → FaultFree (before ++ l ∷ [])
  free_more {before} {l} free none = record {
    none = λ k h. elim (cases_eq k (length before)) [
      | inl here ↦ ap (fault_at (before ++ l ∷ [])) here ∙ (fault_behind_front before l [] ∙ none)
      | inr other ↦
          let below : k < length before = omega (arith, h, other, length-append before (l ∷ [])) in
          fault_in_front before (l ∷ []) k below ∙ free.none k below
    ];
  }

  pub free_end : {ls : List LineOf} → FaultFree ls → first_fault_of ls ≡ None
  free_end {ls} free = none_of (fault_at ls) (length ls) free.none

  pub first_fault : {before : List LineOf} {l : LineOf} {e : ImportRefusal} (rest : List LineOf) → FaultFree before → f before l ≡ Some e → first_fault_of (before ++ l ∷ rest) ≡ Some e
  first_fault {before} {l} {e} rest free is =
      first_of (fault_at (before ++ l ∷ rest)) (length (before ++ l ∷ rest)) (length before) e (omega (arith, length-append before (l ∷ rest)))
      (λ k below. fault_in_front before (l ∷ rest) k below ∙ free.none k below)
      (fault_behind_front before l rest ∙ is)

  -- what is answered where a line is refused
  pub line_refused : (before : List LineOf) (l : LineOf) (rest : List LineOf) {all : List LineOf} {e : ImportRefusal} → all ≡ before ++ l ∷ rest → FaultFree before
      → (e ≡ NoRoom) ⊎ (f before l ≡ Some e) → (e ≡ NoRoom) ⊎ (first_fault_of all ≡ Some e)
  line_refused before l rest whole free (inl room) = inl room
  line_refused before l rest whole free (inr is) = inr (ap first_fault_of whole ∙ first_fault rest free is)
