use Rattle.std.proofs.Common.{◌≡◌, ◌<◌, ◌∷◌, [], ℕ, pos, List, Bool, length, bit_and, refl, sym, ap, ◌∙◌, arith}
use Rattle.std.specs.Int.Count.{ones}
use Rattle.std.specs.List.{sum, slice_index}
use Rattle.sgb_graph.specs.Builder.{insertion}
use Rattle.sgb_simplex.specs.Points.{points}
use Rattle.sgb_simplex.specs.Overlap.{has_size, is_partner}
use Rattle.sgb_simplex.specs.Private.Codes.{AreCodes}
use Rattle.sgb_simplex.proofs.MoveInsertions.{none_inserted, some_inserted}
use Rattle.sgb_simplex.proofs.Ones.{overlap_is, overlap_low}
use Rattle.sgb_simplex.proofs.Simplices.{all_points}
use Rattle.sgb_simplex.proofs.coded.insert_coded_pair.Goals as goal

partner : (total : ℕ) (bounds codes : List ℕ) (bits u v n : ℕ) (r : Bool) → AreCodes bounds (points total bounds) codes → u < length (points total bounds) → v < length (points total bounds) → r ≡ has_size bits n → n ≡ ones (bit_and (slice_index codes u) (slice_index codes v)) → is_partner (points total bounds) bits v u ≡ r
partner total bounds codes bits u v n r known first second asked is =
    sym (asked ∙ ap (has_size bits) (overlap_is (all_points total bounds u [] first) (all_points total bounds v [] second) (slice_index codes u) (slice_index codes v) n (known.at u first) (known.at v second) is))

low : (total : ℕ) (bounds codes : List ℕ) (u v n : ℕ) → AreCodes bounds (points total bounds) codes → u < length (points total bounds) → v < length (points total bounds) → n ≡ ones (bit_and (slice_index codes u) (slice_index codes v)) → sum bounds < 64 → n < 64
low total bounds codes u v n known first second is room =
    overlap_low (all_points total bounds u [] first) (all_points total bounds v [] second) (slice_index codes u) (slice_index codes v) n (known.at u first) (known.at v second) is room

-- how many ones two codes share, where the second is at hand
shared : (codes : List ℕ) (u code v : ℕ) → code ≡ slice_index codes v → ones (bit_and (slice_index codes u) code) ≡ ones (bit_and (slice_index codes u) (slice_index codes v))
shared codes u code v is = ap (λ c. ones (bit_and (slice_index codes u) c)) is

pub has_low_size-requires : goal.has_low_size-requires
has_low_size-requires c =
    let list = c.args.list.now in
    low list.total list.bounds.items c.args.codes.now c.args.u c.args.v (ones (bit_and (slice_index c.args.codes.now c.args.u) c.args.code)) c.requires.codes (omega (arith, list.counted)) (omega (arith, list.counted)) (shared c.args.codes.now c.args.u c.args.code c.args.v c.requires.code) c.requires.room

pub returns-then-not-has_low_size : goal.returns-then-not-has_low_size
returns-then-not-has_low_size c =
    let list = c.args.list.now in
    none_inserted c.args.builder.now (is_partner (points list.total list.bounds.items) c.args.size_bits c.args.v c.args.u) (insertion c.args.u c.args.v (pos 1) ∷ [])
    (partner list.total list.bounds.items c.args.codes.now c.args.size_bits c.args.u c.args.v (ones (bit_and (slice_index c.args.codes.now c.args.u) c.args.code)) c.has_low_size.result c.requires.codes (omega (arith, list.counted)) (omega (arith, list.counted)) c.has_low_size.ensures (shared c.args.codes.now c.args.u c.args.code c.args.v c.requires.code) ∙ c.if-not-has_low_size.true)

pub returns : goal.returns
returns c =
    let list = c.args.list.now in
    some_inserted c.args.builder.now c.insert_found.new.builder (is_partner (points list.total list.bounds.items) c.args.size_bits c.args.v c.args.u) (insertion c.args.u c.args.v (pos 1) ∷ []) (insertion c.args.u c.args.v (pos 1) ∷ []) c.insert_found.result
    (partner list.total list.bounds.items c.args.codes.now c.args.size_bits c.args.u c.args.v (ones (bit_and (slice_index c.args.codes.now c.args.u) c.args.code)) c.has_low_size.result c.requires.codes (omega (arith, list.counted)) (omega (arith, list.counted)) c.has_low_size.ensures (shared c.args.codes.now c.args.u c.args.code c.args.v c.requires.code) ∙ c.if-not-has_low_size.false)
    refl c.insert_found.ensures
