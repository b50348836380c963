-- Lemmas on slots that are kept as cells and fields.
use Rattle.std.proofs.Common.{◌≡◌, ℕ, List, [], ◌∷◌, map, take, drop, Some, None, Bool, ◌&&◌, refl, sym, ap, ◌∙◌, Option, ◌≢◌, ◌<◌, ◌≤◌, zero, suc, pos, ◌++◌, length, get_or, set, is_some, IsSome, true, arith, inl, inr, zip}
use Rattle.std.specs.List.{list_all}
use Rattle.std.proofs.lemmas.List.{drop-drop, get_or_past, set-get_or}
use Rattle.sgb_graph.specs.declared.graph.Vertex.{Vertex}
use Rattle.sgb_graph.specs.declared.graph.Graph.TheInside.{Inside}
use Rattle.sgb_graph.specs.Graph.{GraphOf}
use Rattle.sgb_graph.specs.Private.Arena.{Slots, graph_of, vertex_of, entry_of, slot_at}
use Rattle.sgb_graph.specs.Private.Exchange.{fields_in, with_field}
use Rattle.sgb_graph.specs.Honest.{are_allowed, vertex_letters, arc_letters, graph_letters, is_honest_vertex, is_honest_entry, is_honest}
use Rattle.sgb_graph.specs.declared.field.VertexNo.{VertexNo}
use Rattle.sgb_graph.specs.declared.field.Util.{Util}
use Rattle.sgb_graph.specs.declared.graph.arena.Cell.{Cell}
use Rattle.sgb_graph.specs.declared.graph.arena.Slot.{Slot}
use Rattle.sgb_graph.specs.Read.{leads_on}
use Rattle.sgb_graph.specs.Private.Cells.{two_zeros, slot_owned, slot_with, zipped, owned_aimed, is_aimed, kept_at, SameFields, PutsFields, owned_allowed}
use Rattle.std.proofs.lemmas.Bool.{cases_lt, false≢true}
use Rattle.sgb_graph.specs.declared.field.Tip.TheVariants as tips

-- what a slot says is said by its cell
pub owned_some : (us : List Util) (c : Cell) (v : VertexNo) → c.owner ≡ Some v → slot_with us c ≡ slot_owned (Some v) us c
owned_some us c v is = ap (λ o. slot_owned o us c) is

pub owned_none : (us : List Util) (c : Cell) → c.owner ≡ None → slot_with us c ≡ None
owned_none us c is = ap (λ o. slot_owned o us c) is

pub fields_owned : (o : Option VertexNo) (us : List Util) (c : Cell) → is_some (slot_owned o us c) ≡ true → fields_in (slot_owned o us c) ≡ us
fields_owned None us c live = absurd cc
fields_owned (Some v) us c live = refl

field_owned : (o : Option VertexNo) (us : List Util) (c : Cell) (i : ℕ) (u : Util) → slot_owned o (set us i u) c ≡ with_field i u (slot_owned o us c)
field_owned None us c i u = refl
field_owned (Some v) us c i u = refl

-- as many slots as cells
pub length-zipped : (cs : List Cell) (fs : List (List Util)) → length (zipped cs fs) ≡ length cs
length-zipped [] fs = refl
length-zipped (c ∷ cs) [] = ap suc (length-zipped cs [])
length-zipped (c ∷ cs) (us ∷ fs) = ap suc (length-zipped cs fs)

-- how many slots there are
pub many_slots : (cs : List Cell) (fs : List (List Util)) {now : Slots} {n : ℕ} → zipped cs fs ≡ now → n ≡ length cs → n ≡ length now
many_slots cs fs view is = is ∙ (sym (length-zipped cs fs) ∙ ap length view)

pub slot_at-zipped : (cs : List Cell) (fs : List (List Util)) (k : ℕ) (d : Cell) → k < length cs → slot_at (zipped cs fs) k ≡ slot_with (kept_at fs k) (get_or cs k d)
slot_at-zipped [] fs k d low = absurd (omega arith)
slot_at-zipped (c ∷ cs) [] zero d low = refl
slot_at-zipped (c ∷ cs) [] (suc k) d low = slot_at-zipped cs [] k d (omega (arith, low))
slot_at-zipped (c ∷ cs) (us ∷ fs) zero d low = refl
slot_at-zipped (c ∷ cs) (us ∷ fs) (suc k) d low = slot_at-zipped cs fs k d (omega (arith, low))

-- a live number is below the count
pub live_low : (ss : Slots) (k : ℕ) → IsSome (slot_at ss k) → k < length ss
live_low ss k live =
    elim (cases_lt k (length ss)) [
      | inl h ↦ h
      | inr h ↦ absurd (false≢true (sym (ap is_some (get_or_past ss k None (omega arith))) ∙ live))
    ]

-- a cell that is pushed
pub zipped-push : (cs : List Cell) (fs : List (List Util)) (c : Cell) → length fs ≤ length cs → zipped (cs ++ c ∷ []) fs ≡ zipped cs fs ++ slot_with two_zeros c ∷ []
zipped-push [] [] c few = refl
zipped-push [] (us ∷ fs) c few = absurd (omega arith)
zipped-push (d ∷ cs) [] c few = ap (λ l. slot_with two_zeros d ∷ l) (zipped-push cs [] c (omega arith))
zipped-push (d ∷ cs) (us ∷ fs) c few = ap (λ l. slot_with us d ∷ l) (zipped-push cs fs c (omega (arith, few)))

take_none : (n : ℕ) → take {A = List Util} n [] ≡ []
take_none zero = refl
take_none (suc n) = refl

pub zipped-take : (n : ℕ) (cs : List Cell) (fs : List (List Util)) → zipped (take n cs) (take n fs) ≡ take n (zipped cs fs)
zipped-take zero cs fs = refl
zipped-take (suc n) [] [] = refl
zipped-take (suc n) [] (us ∷ fs) = refl
zipped-take (suc n) (c ∷ cs) [] = ap (λ l. slot_with two_zeros c ∷ l) (ap (zipped (take n cs)) (sym (take_none n)) ∙ zipped-take n cs [])
zipped-take (suc n) (c ∷ cs) (us ∷ fs) = ap (λ l. slot_with us c ∷ l) (zipped-take n cs fs)

-- a cell that is exchanged
pub zipped-set : (cs : List Cell) (fs : List (List Util)) (k : ℕ) (c : Cell) → zipped (set cs k c) fs ≡ set (zipped cs fs) k (slot_with (kept_at fs k) c)
zipped-set [] fs k c = refl
zipped-set (d ∷ cs) [] zero c = refl
zipped-set (d ∷ cs) [] (suc k) c = ap (λ l. slot_with two_zeros d ∷ l) (zipped-set cs [] k c)
zipped-set (d ∷ cs) (us ∷ fs) zero c = refl
zipped-set (d ∷ cs) (us ∷ fs) (suc k) c = ap (λ l. slot_with us d ∷ l) (zipped-set cs fs k c)

-- the fields of all arcs but the first
abbrev pub rest : List (List Util) → List (List Util)
rest [] = []
rest (us ∷ fs) = fs

kept-rest : (fs : List (List Util)) (j : ℕ) → kept_at (rest fs) j ≡ kept_at fs (suc j)
kept-rest [] j = refl
kept-rest (us ∷ fs) j = refl

zipped-step : (c : Cell) (cs : List Cell) (fs : List (List Util)) → zipped (c ∷ cs) fs ≡ slot_with (kept_at fs 0) c ∷ zipped cs (rest fs)
zipped-step c cs [] = refl
zipped-step c cs (us ∷ fs) = refl

pub cons_two : {X : Type 0} (x y : X) (xs ys : List X) → x ≡ y → xs ≡ ys → (x ∷ xs) ≡ (y ∷ ys)
cons_two x y xs ys one all = ap (λ z. z ∷ xs) one ∙ ap (λ zs. y ∷ zs) all

pub suc_not : (j : ℕ) → suc j ≢ 0
suc_not j e = absurd (omega (arith, e))

pub suc_ne : (j k : ℕ) → j ≢ k → suc j ≢ suc k
suc_ne j k ne e = ne (omega (arith, e))

-- fields that are the same are seen as the same
pub zipped-same : (cs : List Cell) (fs gs : List (List Util)) → SameFields fs gs → zipped cs gs ≡ zipped cs fs
zipped-same [] fs gs same = refl
zipped-same (c ∷ cs) fs gs same =
    zipped-step c cs gs
    ∙ (cons_two _ _ _ _ (ap (λ us. slot_with us c) (same 0)) (zipped-same cs (rest fs) (rest gs) (λ j. kept-rest gs j ∙ (same (suc j) ∙ sym (kept-rest fs j))))
    ∙ sym (zipped-step c cs fs))

-- an arc that is exchanged with its fields
pub zipped-put : (cs : List Cell) (fs gs : List (List Util)) (k : ℕ) (us : List Util) (c : Cell) → PutsFields fs k us gs → zipped (set cs k c) gs ≡ set (zipped cs fs) k (slot_with us c)
zipped-put [] fs gs k us c puts = refl
zipped-put (d ∷ cs) fs gs zero us c puts =
    zipped-step c cs gs
    ∙ (cons_two _ _ _ _ (ap (λ vs. slot_with vs c) puts.here)
    (zipped-same cs (rest fs) (rest gs) (λ j. kept-rest gs j ∙ (puts.others (suc j) (suc_not j) ∙ sym (kept-rest fs j))))
    ∙ ap (λ l. set l 0 (slot_with us c)) (sym (zipped-step d cs fs)))
zipped-put (d ∷ cs) fs gs (suc k) us c puts =
    zipped-step d (set cs k c) gs
    ∙ (cons_two _ _ _ _ (ap (λ vs. slot_with vs d) (puts.others 0 (λ e. suc_not k (sym e))))
    (zipped-put cs (rest fs) (rest gs) k us c (record {
      here = kept-rest gs k ∙ puts.here;
      others = λ j ne. kept-rest gs j ∙ (puts.others (suc j) (suc_ne j k ne) ∙ sym (kept-rest fs j));
    }))
    ∙ ap (λ l. set l (suc k) (slot_with us c)) (sym (zipped-step d cs fs)))

pub kept-fill : (gs : List (List Util)) (j : ℕ) → kept_at (gs ++ two_zeros ∷ []) j ≡ kept_at gs j
kept-fill [] zero = refl
kept-fill [] (suc j) = refl
kept-fill (vs ∷ gs) zero = refl
kept-fill (vs ∷ gs) (suc j) = kept-fill gs j

-- what is honest
allowed-zeros : (letters : List ℕ) → are_allowed letters two_zeros ≡ true
allowed-zeros [] = refl
allowed-zeros (a ∷ []) = refl
allowed-zeros (a ∷ (b ∷ letters)) = refl

owned-honest : (letters : List ℕ) (o : Option VertexNo) (us : List Util) (c : Cell) → are_allowed letters (fields_in (slot_owned o us c)) ≡ owned_allowed letters o us
owned-honest letters None us c = refl
owned-honest letters (Some v) us c = refl

zeros-honest : (letters : List ℕ) (o : Option VertexNo) (c : Cell) → are_allowed letters (fields_in (slot_owned o two_zeros c)) ≡ true
zeros-honest letters None c = refl
zeros-honest letters (Some v) c = allowed-zeros letters

rest-honest : (letters : List ℕ) (cs : List Cell) → list_all (λ o. are_allowed letters (fields_in o)) (zipped cs []) ≡ true
rest-honest letters [] = refl
rest-honest letters (c ∷ cs) =
    ap (λ b. b && list_all (λ o. are_allowed letters (fields_in o)) (zipped cs [])) (zeros-honest letters c.owner c) ∙ rest-honest letters cs

pub zipped-honest : (letters : List ℕ) (cs : List Cell) (fs : List (List Util)) → list_all (λ p. owned_allowed letters p.0.owner p.1) (zip cs fs) ≡ list_all (λ o. are_allowed letters (fields_in o)) (zipped cs fs)
zipped-honest letters [] fs = refl
zipped-honest letters (c ∷ cs) [] = sym (rest-honest letters (c ∷ cs))
zipped-honest letters (c ∷ cs) (us ∷ fs) =
    ap (λ b. b && list_all (λ p. owned_allowed letters p.0.owner p.1) (zip cs fs)) (sym (owned-honest letters c.owner us c))
    ∙ ap (λ b. are_allowed letters (fields_in (slot_with us c)) && b) (zipped-honest letters cs fs)

any_cell : Cell
any_cell = record { owner = None; tip = tips.Zero; next = None; names = 0; len = pos 0 }

-- what the kept cells and fields show of one slot
pub cells_low : (cs : List Cell) (fs : List (List Util)) (now : Slots) (k : ℕ) → zipped cs fs ≡ now → k < length now → k < length cs
cells_low cs fs now k view low = omega (arith, low, ap length view, length-zipped cs fs)

slot_is : (cs : List Cell) (fs : List (List Util)) (now : Slots) (k : ℕ) (d : Cell) → zipped cs fs ≡ now → k < length now → slot_at now k ≡ slot_with (kept_at fs k) (get_or cs k d)
slot_is cs fs now k d view low = ap (λ l. slot_at l k) (sym view) ∙ slot_at-zipped cs fs k d (cells_low cs fs now k view low)

own_fields : (o : Option VertexNo) (us : List Util) (c : Cell) → slot_owned o us c ≡ slot_owned o (fields_in (slot_owned o us c)) c
own_fields None us c = refl
own_fields (Some v) us c = refl

pub cell_is : (cs : List Cell) (fs : List (List Util)) (now : Slots) (k : ℕ) (c : Cell) → zipped cs fs ≡ now → k < length now → c ≡ get_or cs k c → slot_at now k ≡ slot_with (fields_in (slot_at now k)) c
cell_is cs fs now k c view low read =
    let is : slot_at now k ≡ slot_with (kept_at fs k) c = slot_is cs fs now k c view low ∙ ap (slot_with (kept_at fs k)) (sym read) in
    is ∙ (own_fields c.owner (kept_at fs k) c ∙ ap (λ s. slot_with (fields_in s) c) (sym is))

pub fields_are : (cs : List Cell) (fs : List (List Util)) (now : Slots) (k : ℕ) → zipped cs fs ≡ now → IsSome (slot_at now k) → kept_at fs k ≡ fields_in (slot_at now k)
fields_are cs fs now k view live =
    let c = get_or cs k any_cell in
    let is : slot_at now k ≡ slot_with (kept_at fs k) c = slot_is cs fs now k any_cell view (live_low now k live) in
    sym (ap fields_in is ∙ fields_owned c.owner (kept_at fs k) c (sym (ap is_some is) ∙ live))

pub cell_set : (cs : List Cell) (fs : List (List Util)) (now : Slots) (k : ℕ) (c : Cell) → zipped cs fs ≡ now → IsSome (slot_at now k) → zipped (set cs k c) fs ≡ set now k (slot_with (fields_in (slot_at now k)) c)
cell_set cs fs now k c view live =
    zipped-set cs fs k c ∙ (ap (λ l. set l k (slot_with (kept_at fs k) c)) view ∙ ap (λ us. set now k (slot_with us c)) (fields_are cs fs now k view live))

pub slot_put : (cs : List Cell) (fs gs : List (List Util)) (now : Slots) (k : ℕ) (us : List Util) (c : Cell) (s : Option Slot) → zipped cs fs ≡ now → PutsFields fs k us gs → slot_with us c ≡ s → zipped (set cs k c) gs ≡ set now k s
slot_put cs fs gs now k us c s view puts is =
    zipped-put cs fs gs k us c puts ∙ (ap (λ l. set l k (slot_with us c)) view ∙ ap (set now k) is)

pub field_put : (cs : List Cell) (fs gs : List (List Util)) (now : Slots) (k i : ℕ) (u : Util) → zipped cs fs ≡ now → k < length now → PutsFields fs k (set (kept_at fs k) i u) gs → zipped cs gs ≡ set now k (with_field i u (slot_at now k))
field_put cs fs gs now k i u view low puts =
    let c = get_or cs k any_cell in
    ap (λ l. zipped l gs) (sym (set-get_or cs k any_cell))
    ∙ slot_put cs fs gs now k (set (kept_at fs k) i u) c (with_field i u (slot_at now k)) view puts
    (field_owned c.owner (kept_at fs k) c i u ∙ ap (with_field i u) (sym (slot_is cs fs now k any_cell view low)))

-- an arc whose slot has two fields lives
pub some_of_two : (s : Option Slot) → length (fields_in s) ≡ 2 → IsSome s
some_of_two None two = absurd (omega (arith, two))
some_of_two (Some s) two = refl

-- a slot pushed
pub slot_pushed : (cs ds es : List Cell) (fs gs : List (List Util)) (now : Slots) (c : Cell) (s : Option Slot) → zipped cs fs ≡ now → length fs ≤ length cs → ds ≡ cs → gs ≡ fs → es ≡ ds ++ c ∷ [] → slot_with two_zeros c ≡ s
    → zipped es gs ≡ now ++ s ∷ []
slot_pushed cs ds es fs gs now c s view few ds_is gs_is es_is is =
    ap (λ l. zipped l gs) (es_is ∙ ap (λ l. l ++ c ∷ []) ds_is)
    ∙ (ap (zipped (cs ++ c ∷ [])) gs_is
    ∙ (zipped-push cs fs c few
    ∙ (ap (λ l. l ++ slot_with two_zeros c ∷ []) view ∙ ap (λ o. now ++ o ∷ []) is)))

-- the slot is a hole, or its arc leads to a vertex
abbrev pub slot_aimed : Option Slot → Bool
slot_aimed o = leads_on (entry_of o)

owned : (o : Option VertexNo) (us : List Util) (c : Cell) → slot_aimed (slot_owned o us c) ≡ owned_aimed o c.tip
owned None us c = refl
owned (Some v) us c = refl

-- of the slots as of the cells
pub zipped-aimed : (cs : List Cell) (fs : List (List Util)) → list_all slot_aimed (zipped cs fs) ≡ list_all is_aimed cs
zipped-aimed [] fs = refl
zipped-aimed (c ∷ cs) [] = ap (λ b. slot_aimed (slot_with two_zeros c) && b) (zipped-aimed cs []) ∙ ap (λ b. b && list_all is_aimed cs) (owned c.owner _ c)
zipped-aimed (c ∷ cs) (us ∷ fs) = ap (λ b. slot_aimed (slot_with us c) && b) (zipped-aimed cs fs) ∙ ap (λ b. b && list_all is_aimed cs) (owned c.owner us c)

vertices_honest : (types : List ℕ) (ss : Slots) (vs : List Vertex) → list_all (is_honest_vertex types) (map (vertex_of ss) vs) ≡ list_all (λ v. are_allowed (vertex_letters types) v.fields) vs
vertices_honest types ss [] = refl
vertices_honest types ss (v ∷ vs) = ap (λ b. are_allowed (vertex_letters types) v.fields && b) (vertices_honest types ss vs)

entries_honest : (types : List ℕ) (ss : Slots) → list_all (is_honest_entry types) (map entry_of ss) ≡ list_all (λ o. are_allowed (arc_letters types) (fields_in o)) ss
entries_honest types [] = refl
entries_honest types (None ∷ ss) = entries_honest types ss
entries_honest types (Some s ∷ ss) = ap (λ b. are_allowed (arc_letters types) s.fields && b) (entries_honest types ss)

pub honest_is : (a : Inside) (g : GraphOf) (letters rest us vs ws : List ℕ) (vertices : List Vertex) (ss : Slots) (x y z : Bool) → graph_of a ≡ g
    → letters ≡ a.types → us ≡ take 6 letters → rest ≡ drop 6 letters → vs ≡ take 2 rest → ws ≡ drop 2 rest → vertices ≡ a.vertices → ss ≡ a.slots
    → x ≡ are_allowed ws a.fields → y ≡ list_all (λ v. are_allowed us v.fields) vertices → z ≡ list_all (λ o. are_allowed vs (fields_in o)) ss
    → (x && y && z) ≡ is_honest g
honest_is a g letters rest us vs ws vertices ss x y z same ls us_is rest_is vs_is ws_is vertices_is ss_is x_is y_is z_is =
    let t = a.types in
    let u : us ≡ vertex_letters t = us_is ∙ ap (take 6) ls in
    let r : rest ≡ drop 6 t = rest_is ∙ ap (drop 6) ls in
    let v : vs ≡ arc_letters t = vs_is ∙ ap (take 2) r in
    let w : ws ≡ graph_letters t = ws_is ∙ (ap (drop 2) r ∙ drop-drop 2 6 t) in
    let one : x ≡ are_allowed (graph_letters t) a.fields = x_is ∙ ap (λ l. are_allowed l a.fields) w in
    let two : y ≡ list_all (is_honest_vertex t) (map (vertex_of a.slots) a.vertices) =
    y_is ∙ (ap (λ l. list_all (λ q. are_allowed l q.fields) vertices) u ∙ (ap (list_all (λ q. are_allowed (vertex_letters t) q.fields)) vertices_is ∙ sym (vertices_honest t a.slots a.vertices))) in
    let three : z ≡ list_all (is_honest_entry t) (map entry_of a.slots) =
    z_is ∙ (ap (λ l. list_all (λ o. are_allowed l (fields_in o)) ss) v ∙ (ap (list_all (λ o. are_allowed (arc_letters t) (fields_in o))) ss_is ∙ sym (entries_honest t a.slots))) in
    ap (λ b. b && y && z) one
    ∙ (ap (λ b. are_allowed (graph_letters t) a.fields && b && z) two
    ∙ (ap (λ b. are_allowed (graph_letters t) a.fields && list_all (is_honest_vertex t) (map (vertex_of a.slots) a.vertices) && b) three
    ∙ ap is_honest same))
