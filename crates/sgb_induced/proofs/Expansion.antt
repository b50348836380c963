-- Lemmas on the insertions between images: those of runs that are merged first are the ones that are asked for.
use Rattle.std.proofs.Common.{◌≡◌, ◌==◌, ◌<◌, ◌≤◌, ◌+◌, ℕ, ℤ, zero, suc, List, [], ◌∷◌, ◌++◌, Bool, true, false, length, map, All, inl, inr, refl, sym, ap, ap₂, ◌∙◌, arith}
use Rattle.std.specs.List.{filter, flat_map, range_with_len}
use Rattle.std.proofs.Math.ListN.{get_or-eq_default}
use Rattle.std.proofs.lemmas.Bool.{cases_Bool, cases_lt, cases_order, eqb-true}
use Rattle.std.proofs.lemmas.Grind.{flat_map-append}
use Rattle.std.proofs.lemmas.List.Elements.{All-cons, All-nil}
use Rattle.std.proofs.lemmas.List.FromFn.{length-map-range_with_len}
use Rattle.sgb_graph.specs.Builder.{Insertion}
use Rattle.sgb_graph.specs.Graph.{GraphOf, n_of}
use Rattle.sgb_graph.specs.declared.spoke.Spoke.{Spoke}
use Rattle.sgb_graph.specs.Operand.{spokes}
use Rattle.sgb_plan.proofs.Distincts.{All-flat_map}
use Rattle.sgb_induced.specs.declared.fate.Fate.{Fate}
use Rattle.sgb_induced.specs.declared.fate.Fate.TheVariants.{Copies}
use Rattle.sgb_induced.specs.declared.image.Image.{Image}
use Rattle.sgb_induced.specs.Image.{count_of, fate, images, leader, made_at, start}
use Rattle.sgb_induced.specs.Induced as public
use Rattle.sgb_induced.specs.Induced.{asked, asked_at, insertions, is_met}
use Rattle.sgb_induced.specs.Least.{least}
use Rattle.sgb_induced.specs.Private.Run.{all_runs, between, expanded, image_at, image_of, is_run, no_image, numbers, run_at, runs_at, runs_of}
use Rattle.sgb_induced.proofs.SharedLeaders.{alone_is, rows}
use Rattle.sgb_induced.proofs.RunPairs.{Apart, In}
use Rattle.sgb_induced.proofs.Leaders.{fate_of_leader, leader-le, leader_of_leader}
use Rattle.sgb_induced.proofs.CopyNames.{made_leading}
use Rattle.sgb_induced.proofs.RunEnds.{Leads, least_of_runs}
use Rattle.sgb_induced.proofs.ImagePlaces.{known_image, start-le, start_more}

-- ---- the images of one vertex
count_there : (fs : List Fate) (n w : ℕ) {is : List Image} → is ≡ map (image_of fs) (range_with_len 0 n) → length fs ≡ n → count_of (fate fs w) ≡ (image_at is w).count
count_there fs n w {is} known long =
    elim (cases_lt w n) [
      | inl below ↦ sym (ap (λ (i : Image). i.count) (known_image fs n w known below))
      | inr past ↦ (let none : fate fs w ≡ Copies 0 = get_or-eq_default fs (Copies 0) (omega (arith, past, long)) in
          let nothing : image_at is w ≡ no_image = get_or-eq_default is no_image (omega (arith, past, ap length known ∙ length-map-range_with_len (image_of fs) 0 n)) in
          ap count_of none ∙ sym (ap (λ (i : Image). i.count) nothing))
    ]

no_images : (fs : List Fate) (w : ℕ) → count_of (fate fs w) ≡ 0 → images fs w ≡ []
no_images fs w none = ap (range_with_len (start fs (leader fs w))) none

same_images : (fs : List Fate) (n v : ℕ) {is : List Image} → is ≡ map (image_of fs) (range_with_len 0 n) → length fs ≡ n → v < n → numbers (image_at is (image_at is v).leader) ≡ images fs v
same_images fs n v {is} known long h =
    let inside : v < length fs = omega (arith, h, long) in
    let itself : (image_at is v).leader ≡ leader fs v = ap (λ (i : Image). i.leader) (known_image fs n v known h) in
    let there : image_at is (image_at is v).leader ≡ image_of fs (leader fs v) = ap (image_at is) itself ∙ known_image fs n (leader fs v) known (omega (arith, h, leader-le fs v inside)) in
    ap numbers there ∙ ap₂ (λ a f. range_with_len (start fs a) (count_of f)) (leader_of_leader fs v inside) (fate_of_leader fs v inside)

-- ---- the insertions of one spoke
rows_none : (loops d alone : Bool) (xs : List ℕ) (len : ℤ) → rows loops d alone xs [] len ≡ []
rows_none loops d alone [] len = refl
rows_none loops d alone (x ∷ xs) len = rows_none loops d alone xs len

asked_none_from : (loops d : Bool) (fs : List Fate) (v w : ℕ) (len : ℤ) → images fs v ≡ [] → public.between loops d fs v w len ≡ []
unfolding public.between
asked_none_from loops d fs v w len none = ap (λ xs. rows loops d (v == w) xs (images fs w) len) none

asked_none_to : (loops d : Bool) (fs : List Fate) (v w : ℕ) (len : ℤ) → images fs w ≡ [] → public.between loops d fs v w len ≡ []
unfolding public.between
asked_none_to loops d fs v w len none = ap (λ ys. rows loops d (v == w) (images fs v) ys len) none ∙ rows_none loops d (v == w) (images fs v) len

one_spoke : (loops d : Bool) (fs : List Fate) (n v : ℕ) (s : Spoke) {is : List Image} → is ≡ map (image_of fs) (range_with_len 0 n) → length fs ≡ n → v < n → s.to < n → expanded loops d is (run_at is v s) ≡ public.between loops d fs v s.to s.len
unfolding expanded between public.between
one_spoke loops d fs n v s {is} known long h k =
    let from = ap (λ (i : Image). i.leader) (known_image fs n v known h) in
    let to = ap (λ (i : Image). i.leader) (known_image fs n s.to known k) in
    ap (λ a. rows loops d a (numbers (image_at is (image_at is v).leader)) (numbers (image_at is (image_at is s.to).leader)) s.len) (ap₂ (λ a b. a == b) from to)
    ∙ (ap₂ (λ xs ys. rows loops d (leader fs v == leader fs s.to) xs ys s.len) (same_images fs n v known long h) (same_images fs n s.to known long k)
    ∙ alone_is loops d fs v s.to s.len (omega (arith, h, long)) (omega (arith, k, long)))

-- ---- those of one vertex
inside_from : (fs : List Fate) (n w : ℕ) {is : List Image} → is ≡ map (image_of fs) (range_with_len 0 n) → ((image_at is w).count == 0) ≡ false → w < n
inside_from fs n w {is} known some =
    elim (cases_lt w n) [
      | inl below ↦ below
      | inr past ↦ absurd (let nothing : image_at is w ≡ no_image = get_or-eq_default is no_image (omega (arith, past, ap length known ∙ length-map-range_with_len (image_of fs) 0 n)) in
          let wrong : true ≡ false = ap (λ (i : Image). i.count == 0) (sym nothing) ∙ some in cc)
    ]

spokes_link : (loops d : Bool) (fs : List Fate) (n v : ℕ) (ss : List Spoke) {is : List Image} → is ≡ map (image_of fs) (range_with_len 0 n) → length fs ≡ n → v < n
    → flat_map (expanded loops d is) (map (run_at is v) (filter (is_run d is v) ss)) ≡ flat_map (λ s. public.between loops d fs v s.to s.len) (filter (is_met d v) ss)
spokes_link loops d fs n v [] known long h = refl
spokes_link loops d fs n v (s ∷ ss) {is} known long h =
    let rest = spokes_link loops d fs n v ss known long h in
    elim (cases_Bool (is_met d v s)) [
      | inl met ↦ (elim (cases_Bool ((image_at is s.to).count == 0)) [
        | inl none ↦ (let nothing = asked_none_to loops d fs v s.to s.len (no_images fs s.to (count_there fs n s.to known long ∙ eqb-true (image_at is s.to).count 0 none)) in
            rw (met, none) (rest ∙ sym (ap (λ es. es ++ flat_map (λ s. public.between loops d fs v s.to s.len) (filter (is_met d v) ss)) nothing)))
        | inr some ↦ rw (met, some) (ap₂ (λ es fs. es ++ fs) (one_spoke loops d fs n v s known long h (inside_from fs n s.to known some)) rest)
      ])
      | inr unmet ↦ rw unmet rest
    ]

nothing_asked : (f : Spoke → List Insertion) (ss : List Spoke) → ((s : Spoke) → f s ≡ []) → flat_map f ss ≡ []
nothing_asked f [] none = refl
nothing_asked f (s ∷ ss) none = ap₂ (λ es fs. es ++ fs) (none s) (nothing_asked f ss none)

vertex_link : (loops d : Bool) (g : GraphOf) (fs : List Fate) (v : ℕ) {is : List Image} → is ≡ map (image_of fs) (range_with_len 0 (n_of g)) → length fs ≡ n_of g → v < n_of g → flat_map (expanded loops d is) (runs_at d g is v) ≡ asked_at g fs loops d v
unfolding runs_at asked_at
vertex_link loops d g fs v {is} known long h =
    elim (cases_Bool ((image_at is v).count == 0)) [
      | inl none ↦ (let gone = no_images fs v (count_there fs (n_of g) v known long ∙ eqb-true (image_at is v).count 0 none) in
          rw none (sym (nothing_asked (λ s. public.between loops d fs v s.to s.len) (filter (is_met d v) (spokes d g v)) (λ s. asked_none_from loops d fs v s.to s.len gone))))
      | inr some ↦ rw some (spokes_link loops d fs (n_of g) v (spokes d g v) known long h)
    ]

-- ---- those of all vertices
vertices_link : (loops d : Bool) (g : GraphOf) (fs : List Fate) (a k : ℕ) {is : List Image} → is ≡ map (image_of fs) (range_with_len 0 (n_of g)) → length fs ≡ n_of g → a + k ≤ n_of g
    → flat_map (expanded loops d is) (flat_map (runs_at d g is) (range_with_len a k)) ≡ flat_map (asked_at g fs loops d) (range_with_len a k)
vertices_link loops d g fs a zero known long h = refl
vertices_link loops d g fs a (suc k) {is} known long h =
    flat_map-append (expanded loops d is) (runs_at d g is a) (flat_map (runs_at d g is) (range_with_len (a + 1) k))
    ∙ ap₂ (λ es fs. es ++ fs) (vertex_link loops d g fs a known long (omega (arith, h))) (vertices_link loops d g fs (a + 1) k known long (omega (arith, h)))

all_link : (loops d : Bool) (g : GraphOf) (fs : List Fate) {is : List Image} → is ≡ map (image_of fs) (range_with_len 0 (n_of g)) → length fs ≡ n_of g → flat_map (expanded loops d is) (all_runs d g is) ≡ asked g fs loops d
all_link loops d g fs known long = vertices_link loops d g fs 0 (n_of g) known long (omega arith)

-- ---- images of different leaders have nothing in common
record IsLead (fs : List Fate) (n a : ℕ) : Type 0 where
  below : a < n
  itself : leader fs a ≡ a

bounds : (fs : List Fate) (n a x : ℕ) {is : List Image} → is ≡ map (image_of fs) (range_with_len 0 n) → IsLead fs n a → In (image_at is a) x → (start fs a ≤ x) × (x < start fs (a + 1))
bounds fs n a x {is} known lead inside =
    let there = known_image fs n a known lead.below in
    let from : (image_at is a).start ≡ start fs a = ap (λ (i : Image). i.start) there ∙ ap (start fs) lead.itself in
    let many : (image_at is a).count ≡ made_at fs a = ap (λ (i : Image). i.count) there ∙ sym (made_leading fs a lead.itself) in
    (omega (arith, inside.from, from), omega (arith, inside.below, from, many, start_more fs a))

apart_all : (fs : List Fate) (n : ℕ) {is : List Image} → is ≡ map (image_of fs) (range_with_len 0 n) → Apart is (IsLead fs n)
apart_all fs n {is} known = record {
  same = λ a b x la lb ina inb.
      let here = bounds fs n a x known la ina in
      let there = bounds fs n b x known lb inb in
      elim (cases_order a b) [
        | inl same ↦ same
        | inr (inl less) ↦ absurd (omega (arith, here.1, there.0, start-le fs (a + 1) b (omega (arith, less))))
        | inr (inr more) ↦ absurd (omega (arith, there.1, here.0, start-le fs (b + 1) a (omega (arith, more))))
      ];
}

lead_of : (fs : List Fate) (n v : ℕ) {is : List Image} → is ≡ map (image_of fs) (range_with_len 0 n) → length fs ≡ n → v < n → IsLead fs n (image_at is v).leader
lead_of fs n v {is} known long h =
    let itself : (image_at is v).leader ≡ leader fs v = ap (λ (i : Image). i.leader) (known_image fs n v known h) in
    let inside : v < length fs = omega (arith, h, long) in
    record {
      below = omega (arith, itself, leader-le fs v inside, h);
      itself = ap (leader fs) itself ∙ (leader_of_leader fs v inside ∙ sym itself);
    }

leads_row : (d : Bool) (fs : List Fate) (n v : ℕ) (ss : List Spoke) {is : List Image} → is ≡ map (image_of fs) (range_with_len 0 n) → length fs ≡ n → v < n → All (Leads (IsLead fs n)) (map (run_at is v) (filter (is_run d is v) ss))
leads_row d fs n v [] known long h = All-nil (Leads (IsLead fs n))
leads_row d fs n v (s ∷ ss) {is} known long h =
    let rest = leads_row d fs n v ss known long h in
    elim (cases_Bool (is_met d v s)) [
      | inl met ↦ (elim (cases_Bool ((image_at is s.to).count == 0)) [
        | inl none ↦ rw (met, none) rest
        | inr some ↦ rw (met, some) (All-cons (Leads (IsLead fs n)) (run_at is v s) (map (run_at is v) (filter (is_run d is v) ss)) (record { from = lead_of fs n v known long h; to = lead_of fs n s.to known long (inside_from fs n s.to known some) }) rest)
      ])
      | inr unmet ↦ rw unmet rest
    ]

leads_at : (d : Bool) (g : GraphOf) (fs : List Fate) (v : ℕ) {is : List Image} → is ≡ map (image_of fs) (range_with_len 0 (n_of g)) → length fs ≡ n_of g → v < n_of g → All (Leads (IsLead fs (n_of g))) (runs_at d g is v)
unfolding runs_at
leads_at d g fs v {is} known long h =
    elim (cases_Bool ((image_at is v).count == 0)) [
      | inl none ↦ rw none (All-nil (Leads (IsLead fs (n_of g))))
      | inr some ↦ rw some (leads_row d fs (n_of g) v (spokes d g v) known long h)
    ]

leads_rows : (d : Bool) (g : GraphOf) (fs : List Fate) (a k : ℕ) {is : List Image} → is ≡ map (image_of fs) (range_with_len 0 (n_of g)) → length fs ≡ n_of g → a + k ≤ n_of g → All (λ v. All (Leads (IsLead fs (n_of g))) (runs_at d g is v)) (range_with_len a k)
leads_rows d g fs a zero {is} known long h = All-nil (λ v. All (Leads (IsLead fs (n_of g))) (runs_at d g is v))
leads_rows d g fs a (suc k) {is} known long h =
    All-cons (λ v. All (Leads (IsLead fs (n_of g))) (runs_at d g is v)) a (range_with_len (a + 1) k) (leads_at d g fs a known long (omega (arith, h))) (leads_rows d g fs (a + 1) k known long (omega (arith, h)))

leads_all : (d : Bool) (g : GraphOf) (fs : List Fate) {is : List Image} → is ≡ map (image_of fs) (range_with_len 0 (n_of g)) → length fs ≡ n_of g → All (Leads (IsLead fs (n_of g))) (all_runs d g is)
leads_all d g fs {is} known long =
    All-flat_map (Leads (IsLead fs (n_of g))) (runs_at d g is) (range_with_len 0 (n_of g)) (leads_rows d g fs 0 (n_of g) known long (omega arith))

expanded_by : (g : GraphOf) (fs : List Fate) (loops multi directed : Bool) {is : List Image} → is ≡ map (image_of fs) (range_with_len 0 (n_of g)) → length fs ≡ n_of g → flat_map (expanded loops directed is) (runs_of multi directed g is) ≡ insertions g fs loops multi directed
unfolding runs_of insertions
expanded_by g fs loops true directed known long = all_link loops directed g fs known long
expanded_by g fs loops false directed {is} known long =
    sym (least_of_runs loops directed is (IsLead fs (n_of g)) (all_runs directed g is) (apart_all fs (n_of g) known) (leads_all directed g fs known long))
    ∙ ap (least directed) (all_link loops directed g fs known long)

pub expanded_all : (g : GraphOf) (fs : List Fate) (loops multi directed : Bool) {is : List Image} → is ≡ map (image_of fs) (range_with_len 0 (n_of g)) → length fs ≡ n_of g → flat_map (expanded loops directed is) (runs_of multi directed g is) ≡ insertions g fs loops multi directed
expanded_all g fs loops multi directed known long = expanded_by g fs loops multi directed known long
