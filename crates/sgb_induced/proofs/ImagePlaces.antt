-- Lemmas on where the images of each vertex stand.
use Rattle.std.proofs.Common.{◌≡◌, ◌<◌, ◌≤◌, ◌+◌, ◌-◌, ℕ, zero, suc, List, [], true, get_or, length, map, inl, inr, refl, sym, ap, ap₂, ◌∙◌, arith}
use Rattle.std.specs.List.{range_with_len}
use Rattle.std.proofs.lemmas.Bool.{cases_lt, leb-true}
use Rattle.std.proofs.Math.ListN.{get_or-eq_default}
use Rattle.std.proofs.lemmas.List.FromFn.{get_or-map-range_with_len, length-map-range_with_len}
use Rattle.sgb_graph.specs.Graph.{GraphOf, label_of, n_of}
use Rattle.sgb_induced.specs.declared.fate.Fate.{Fate}
use Rattle.sgb_induced.specs.declared.fate.Fate.TheVariants.{Copies, Class}
use Rattle.sgb_induced.specs.declared.image.Image.{Image}
use Rattle.sgb_induced.specs.Image.{copy, copy_name, count_of, fate, has_name, have_names, leader, made_at, named_at, start}
use Rattle.sgb_induced.specs.Private.Run.{AreWithin, image_at, image_of, no_image}
use Rattle.sgb_induced.proofs.Leaders.{fate_of_leader, leader-le, leader_of_copies, leader_of_leader}
use Rattle.sgb_induced.proofs.CopyNames.{made_leading, made_following}
use Rattle.sgb_induced.proofs.Ranges.{all_range_at, sum_range_more}

pub start_more : (fs : List Fate) (v : ℕ) → start fs (v + 1) ≡ start fs v + made_at fs v
start_more fs v = sum_range_more (made_at fs) v

start-le_by : (fs : List Fate) (v k : ℕ) → start fs v ≤ start fs (v + k)
start-le_by fs v zero =
    let same : v + 0 ≡ v = omega arith in
    omega (arith, ap (start fs) same)
start-le_by fs v (suc k) =
    let next : v + suc k ≡ (v + k) + 1 = omega arith in
    omega (arith, ap (start fs) next ∙ start_more fs (v + k), start-le_by fs v k)

pub start-le : (fs : List Fate) (v w : ℕ) → v ≤ w → start fs v ≤ start fs w
start-le fs v w h =
    let same : v + (w - v) ≡ w = omega (arith, h) in
    omega (arith, start-le_by fs v (w - v), ap (start fs) same)

-- the images that are known so far
pub known_image : (fs : List Fate) (v u : ℕ) {is : List Image} → is ≡ map (image_of fs) (range_with_len 0 v) → u < v → image_at is u ≡ image_of fs u
known_image fs v u is_so h =
    ap (λ is. image_at is u) is_so ∙ get_or-map-range_with_len (image_of fs) 0 v u u no_image h (omega arith)

image_same : {a b d e f g : ℕ} → a ≡ b → d ≡ e → f ≡ g → ◌≡◌ {A = Image} (record { leader = a; start = d; count = f }) (record { leader = b; start = e; count = g })
image_same first second third = cc

-- a vertex whose images stand in its own place
pub leading_image : (fs : List Fate) (v next : ℕ) {l c : ℕ} → l ≡ leader fs v → l ≡ v → next ≡ start fs v → c ≡ count_of (fate fs v) → record { leader = l; start = next; count = c } ≡ image_of fs v
leading_image fs v next {l} {c} is leads at many =
    let here : next ≡ start fs (leader fs v) = at ∙ ap (start fs) (sym leads ∙ is) in
    image_same is here many

follows_class : (fs : List Fate) (v : ℕ) (f : Fate) → fate fs v ≡ f → (leader fs v ≡ v → ⊥) → count_of f ≡ 1
follows_class fs v (Copies k) is follows = absurd (follows (leader_of_copies fs v k is))
follows_class fs v (Class c) is follows = refl

-- and one whose images stand in the place of an earlier one
pub following_image : (fs : List Fate) (v : ℕ) {l s : ℕ} {is : List Image} → v < length fs → is ≡ map (image_of fs) (range_with_len 0 v) → l ≡ leader fs v → (l ≡ v → ⊥) → s ≡ (image_at is l).start → record { leader = l; start = s; count = 1 } ≡ image_of fs v
following_image fs v {l} {s} {is} h known leads follows at =
    let apart : leader fs v ≡ v → ⊥ = λ same. follows (leads ∙ same) in
    let below : l < v = omega (arith, leader-le fs v h, leads, follows) in
    let there : s ≡ start fs (leader fs v) = at ∙ (ap (λ (i : Image). i.start) (known_image fs v l known below) ∙ ap (start fs) (ap (leader fs) leads ∙ leader_of_leader fs v h)) in
    image_same leads there (sym (follows_class fs v (fate fs v) refl apart))

pub count_following : (fs : List Fate) (v : ℕ) {l next : ℕ} → l ≡ leader fs v → (l ≡ v → ⊥) → next ≡ start fs v → next ≡ start fs (v + 1)
count_following fs v leads follows at =
    let apart : leader fs v ≡ v → ⊥ = λ same. follows (leads ∙ same) in
    omega (arith, at, start_more fs v, made_following fs v apart)

pub count_leading : (fs : List Fate) (v : ℕ) {l next count : ℕ} → l ≡ leader fs v → l ≡ v → next ≡ start fs v → count ≡ count_of (fate fs v) → next + count ≡ start fs (v + 1)
count_leading fs v leads here at many =
    omega (arith, at, many, start_more fs v, made_leading fs v (sym leads ∙ here))

-- every image stands among the new vertices
within_one : (fs : List Fate) (v n : ℕ) → v < n → n ≤ length fs → start fs (leader fs v) + count_of (fate fs v) ≤ start fs n
within_one fs v n h long =
    let inside : v < length fs = omega (arith, h, long) in
    let made : made_at fs (leader fs v) ≡ count_of (fate fs v) = made_leading fs (leader fs v) (leader_of_leader fs v inside) ∙ ap count_of (fate_of_leader fs v inside) in
    omega (arith, start_more fs (leader fs v), made, start-le fs (leader fs v + 1) n (omega (arith, leader-le fs v inside, h)))

pub all_within : (fs : List Fate) (n : ℕ) {is : List Image} → is ≡ map (image_of fs) (range_with_len 0 n) → n ≤ length fs → AreWithin (start fs n) is
all_within fs n {is} known long =
    λ v. elim (cases_lt v n) [
      | inl below ↦ (let here = known_image fs n v known below in
          let same : (image_at is v).start + (image_at is v).count ≡ start fs (leader fs v) + count_of (fate fs v) = ap (λ (i : Image). i.start + i.count) here in
          omega (arith, same, within_one fs v n below long))
      | inr past ↦ (let none : image_at is v ≡ no_image = get_or-eq_default is no_image (omega (arith, past, ap length known ∙ length-map-range_with_len (image_of fs) 0 n)) in
          let same : (image_at is v).start + (image_at is v).count ≡ 0 = ap (λ (i : Image). i.start + i.count) none in
          omega (arith, same))
    ]

-- the leader as it was read, and when there are too many images
pub leader_read : (fs : List Fate) (v d : ℕ) {ls : List ℕ} {l : ℕ} → ls ≡ map (leader fs) (range_with_len 0 (length fs)) → v < length fs → l ≡ get_or ls v d → l ≡ leader fs v
leader_read fs v d {ls} {l} known h is =
    is ∙ (ap (λ xs. get_or xs v d) known ∙ get_or-map-range_with_len (leader fs) 0 (length fs) v v d h (omega arith))

pub too_many : (fs : List Fate) (v : ℕ) {l next count : ℕ} → v < length fs → l ≡ leader fs v → l ≡ v → next ≡ start fs v → count ≡ count_of (fate fs v) → 65535 - next < count → 65535 < start fs (length fs)
too_many fs v h leads here at many large =
    omega (arith, large, count_leading fs v leads here at many, start-le fs (v + 1) (length fs) (omega (arith, h)))

-- ---- the vertices that an image stands for, as they are named
copies_same : (g : GraphOf) (fs : List Fate) (v : ℕ) {label : List ℕ} {n : ℕ} → label ≡ label_of g v → n ≡ made_at fs v → map (copy label) (range_with_len 1 n) ≡ named_at g fs v
copies_same g fs v whose many = ap₂ (λ t k. map (copy t) (range_with_len 1 k)) whose many

made_here : (fs : List Fate) (n v : ℕ) {is : List Image} → is ≡ map (image_of fs) (range_with_len 0 n) → v < n → (image_at is v).leader ≡ v → (image_at is v).count ≡ made_at fs v
made_here fs n v known h leads =
    let there = known_image fs n v known h in
    let itself : leader fs v ≡ v = sym (ap (λ (i : Image). i.leader) there) ∙ leads in
    ap (λ (i : Image). i.count) there ∙ sym (made_leading fs v itself)

pub named_here : (g : GraphOf) (fs : List Fate) (v : ℕ) {is : List Image} {label : List ℕ} → is ≡ map (image_of fs) (range_with_len 0 (n_of g)) → v < n_of g → (image_at is v).leader ≡ v → label ≡ label_of g v → map (copy label) (range_with_len 1 (image_at is v).count) ≡ named_at g fs v
named_here g fs v known h leads whose = copies_same g fs v whose (made_here fs (n_of g) v known h leads)

pub none_here : (g : GraphOf) (fs : List Fate) (v : ℕ) {is : List Image} → is ≡ map (image_of fs) (range_with_len 0 (n_of g)) → v < n_of g → ((image_at is v).leader ≡ v → ⊥) → named_at g fs v ≡ []
none_here g fs v {is} known h follows =
    let there : (image_at is v).leader ≡ leader fs v = ap (λ (i : Image). i.leader) (known_image fs (n_of g) v known h) in
    ap (λ k. map (copy (label_of g v)) (range_with_len 1 k)) (made_following fs v (λ same. follows (there ∙ same)))

pub short_here : (g : GraphOf) (fs : List Fate) (v : ℕ) {is : List Image} {label : List ℕ} → is ≡ map (image_of fs) (range_with_len 0 (n_of g)) → v < n_of g → (image_at is v).leader ≡ v → label ≡ label_of g v → have_names g fs ≡ true → length (copy_name label (image_at is v).count) ≤ 4095
short_here g fs v {is} {label} known h leads whose short =
    let same : length (copy_name label (image_at is v).count) ≡ length (copy_name (label_of g v) (made_at fs v)) = ap₂ (λ t k. length (copy_name t k)) whose (made_here fs (n_of g) v known h leads) in
    omega (arith, same, leb-true (length (copy_name (label_of g v) (made_at fs v))) 4095 (all_range_at (has_name g fs) (n_of g) v h short))
