-- Lengths that are exchanged one by one.
use Rattle.std.proofs.Common.{◌≡◌, ◌<◌, ◌≤◌, ◌+◌, ℕ, ℤ, pos, List, length, set, get_or, map, Option, Some, None, sym, ap, ap₂, ◌∙◌, refl, arith}
use Rattle.std.specs.List.{range_with_len}
use Rattle.std.specs.Prelude.{IsSome}
use Rattle.sgb_graph.specs.Graph.{GraphOf, ArcOf, IsGraph, made_of, arc_at}
use Rattle.sgb_graph.specs.Edit.{with_entry, with_len, arc_or, no_arc}
use Rattle.sgb_combine.specs.Lengths.{with_length, length_of, lengthened_at, with_lengths, lengths_of}
use Rattle.sgb_combine.proofs.Fronts.{Front, by_number, by_number_start, by_number_end, front_at}

-- ---- one arc
lengthened : (o : Option ArcOf) (z len : ℤ) → IsSome o → z ≡ len → Some (record (arc_or no_arc o) { len = z }) ≡ with_length o len
lengthened None z len live is = cc
lengthened (Some e) z len live is = ap (λ x. Some (record e { len = x })) is

pub with_len_is : (g : GraphOf) (k : ℕ) (z len : ℤ) → IsSome (arc_at g k) → z ≡ len → with_len g k z ≡ with_entry g k (with_length (arc_at g k) len)
unfolding with_len
with_len_is g k z len live is = ap (with_entry g k) (lengthened (arc_at g k) z len live is)

-- ---- all of them
-- the arcs before number k have their new lengths, and the list has their old ones
pub record Exchanged (was : GraphOf) (given : List ℤ) (now : GraphOf) (lens : List ℤ) (k : ℕ) : Type 0 where
  pub sound : IsGraph now
  pub graph : now ≡ record was { entries = now.entries }
  pub entries : Front (map (lengthened_at was given) (range_with_len 0 k)) was.entries now.entries k
  pub lengths : Front (map (λ j. length_of (arc_at was j)) (range_with_len 0 k)) given lens k
  pub few : k ≤ made_of was

pub exchanged_start : (g : GraphOf) (given : List ℤ) → IsGraph g → Exchanged g given g given 0
exchanged_start g given sound = record {
  sound = sound;
  graph = refl;
  entries = by_number_start (lengthened_at g given) g.entries;
  lengths = by_number_start (λ j. length_of (arc_at g j)) given;
  few = omega arith;
}

pub exchanged_more : {was now new : GraphOf} {given lens lens' : List ℤ} {k : ℕ} (len old : ℤ) → length given ≡ made_of was → k < made_of was → Exchanged was given now lens k
    → len ≡ get_or lens k (pos 0) → old ≡ length_of (arc_at now k) → new ≡ with_entry now k (with_length (arc_at now k) len) → IsGraph new → lens' ≡ set lens k old → Exchanged was given new lens' (k + 1)
exchanged_more {was} {now} {new} {given} {lens} {lens'} {k} len old same inside x is value edited sound stored =
    let arc : arc_at now k ≡ arc_at was k = front_at None x.entries in
    let length_is : len ≡ get_or given k (pos 0) = is ∙ front_at (pos 0) x.lengths in
    record {
      sound = sound;
      graph = edited ∙ (ap (λ g. with_entry g k (with_length (arc_at now k) len)) x.graph ∙ ap (λ g. record was { entries = g.entries }) (sym edited));
      entries = by_number (lengthened_at was given) _ None inside x.entries (ap (λ g. g.entries) edited) (ap₂ with_length arc length_is);
      lengths = by_number (λ j. length_of (arc_at was j)) _ (pos 0) (omega (arith, same, inside)) x.lengths stored (value ∙ ap length_of arc);
      few = omega (arith, inside);
    }

pub exchanged_graph : {was now : GraphOf} {given lens : List ℤ} {k : ℕ} → k ≡ made_of was → Exchanged was given now lens k → now ≡ with_lengths was given
unfolding with_lengths
exchanged_graph {was} {now} {given} {lens} {k} all x = x.graph ∙ ap (λ es. record was { entries = es }) (by_number_end (lengthened_at was given) all refl x.entries)

pub exchanged_lengths : {was now : GraphOf} {given lens : List ℤ} {k : ℕ} → k ≡ made_of was → length given ≡ made_of was → Exchanged was given now lens k → lens ≡ lengths_of was
unfolding lengths_of
exchanged_lengths {was} {now} {given} {lens} {k} all same x = by_number_end (λ j. length_of (arc_at was j)) all same x.lengths

-- ---- without keeping the old ones
-- the arcs before number k have their new lengths
pub record Given (was : GraphOf) (given : List ℤ) (now : GraphOf) (k : ℕ) : Type 0 where
  pub sound : IsGraph now
  pub graph : now ≡ record was { entries = now.entries }
  pub entries : Front (map (lengthened_at was given) (range_with_len 0 k)) was.entries now.entries k
  pub few : k ≤ made_of was

pub given_start : (g : GraphOf) (given : List ℤ) → IsGraph g → Given g given g 0
given_start g given sound = record {
  sound = sound;
  graph = refl;
  entries = by_number_start (lengthened_at g given) g.entries;
  few = omega arith;
}

pub given_more : {was now new : GraphOf} {given : List ℤ} {k : ℕ} (len : ℤ) → k < made_of was → Given was given now k
    → len ≡ get_or given k (pos 0) → new ≡ with_entry now k (with_length (arc_at now k) len) → IsGraph new → Given was given new (k + 1)
given_more {was} {now} {new} {given} {k} len inside x is edited sound =
    record {
      sound = sound;
      graph = edited ∙ (ap (λ g. with_entry g k (with_length (arc_at now k) len)) x.graph ∙ ap (λ g. record was { entries = g.entries }) (sym edited));
      entries = by_number (lengthened_at was given) _ None inside x.entries (ap (λ g. g.entries) edited) (ap₂ with_length (front_at None x.entries) is);
      few = omega (arith, inside);
    }

pub given_graph : {was now : GraphOf} {given : List ℤ} {k : ℕ} → k ≡ made_of was → Given was given now k → now ≡ with_lengths was given
unfolding with_lengths
given_graph {was} {now} {given} {k} all x = x.graph ∙ ap (λ es. record was { entries = es }) (by_number_end (lengthened_at was given) all refl x.entries)
