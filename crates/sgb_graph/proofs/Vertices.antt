-- Lemmas on vertices that are kept as labels, links and fields.
use Rattle.std.proofs.Common.{◌≡◌, ◌≢◌, ◌<◌, ◌≤◌, ℕ, zero, suc, List, [], ◌∷◌, ◌++◌, length, get_or, set, replicate, Option, None, true, ◌&&◌, refl, sym, ap, subst, ◌∙◌, arith}
use Rattle.std.specs.List.{list_all}
use Rattle.std.proofs.lemmas.Bool.{and_from}
use Rattle.std.proofs.lemmas.List.{get_or-set_same, get_or-set_other, get_or_past, get_or_read, set-get_or}
use Rattle.sgb_graph.specs.declared.field.ArcNo.{ArcNo}
use Rattle.sgb_graph.specs.declared.field.Util.{Util}
use Rattle.sgb_graph.specs.declared.field.Util.TheVariants.{Zero}
use Rattle.sgb_graph.specs.declared.graph.Vertex.{Vertex}
use Rattle.sgb_graph.specs.Honest.{are_allowed}
use Rattle.sgb_graph.specs.New.{six_zeros}
use Rattle.sgb_graph.specs.Private.Vertices.{blank, first_at, values_at, row, rows, PutsValues, unlinked, with_first, with_name, with_value}
use Rattle.sgb_graph.specs.Private.Link.{vertex_in}
use Rattle.sgb_graph.proofs.Cells.{cons_two, suc_not, suc_ne}

abbrev pub Firsts : Type 0
Firsts = ℕ → Option ArcNo

abbrev pub Values : Type 0
Values = ℕ → List Util

-- as many vertices as labels
pub length-rows : (ls : List (List ℕ)) (F : Firsts) (U : Values) → length (rows ls F U) ≡ length ls
length-rows [] F U = refl
length-rows (l ∷ ls) F U = ap suc (length-rows ls (λ v. F (suc v)) (λ v. U (suc v)))

pub vertex_in-rows : (ls : List (List ℕ)) (F : Firsts) (U : Values) (v : ℕ) → v < length ls → vertex_in (rows ls F U) v ≡ row (get_or ls v []) (F v) (U v)
vertex_in-rows [] F U v low = absurd (omega (arith, low))
vertex_in-rows (l ∷ ls) F U zero low = refl
vertex_in-rows (l ∷ ls) F U (suc v) low = vertex_in-rows ls (λ w. F (suc w)) (λ w. U (suc w)) v (omega (arith, low))

same_row : (l : List ℕ) (first link : Option ArcNo) (us ws : List Util) → first ≡ link → us ≡ ws → row l first us ≡ row l link ws
same_row l first link us ws one two = ap (λ f. row l f us) one ∙ ap (row l link) two

-- links and fields that are the same are seen as the same
pub rows-same : (ls : List (List ℕ)) (F G : Firsts) (U W : Values) → ((j : ℕ) → G j ≡ F j) → ((j : ℕ) → W j ≡ U j) → rows ls G W ≡ rows ls F U
rows-same [] F G U W one two = refl
rows-same (l ∷ ls) F G U W one two =
    cons_two _ _ _ _ (same_row l (G 0) (F 0) (W 0) (U 0) (one 0) (two 0))
    (rows-same ls (λ v. F (suc v)) (λ v. G (suc v)) (λ v. U (suc v)) (λ v. W (suc v)) (λ j. one (suc j)) (λ j. two (suc j)))

-- a vertex that is exchanged
pub rows-put : (ls : List (List ℕ)) (F G : Firsts) (U W : Values) (v : ℕ) (l : List ℕ) → ((j : ℕ) → j ≢ v → G j ≡ F j) → ((j : ℕ) → j ≢ v → W j ≡ U j)
    → rows (set ls v l) G W ≡ set (rows ls F U) v (row l (G v) (W v))
rows-put [] F G U W v l one two = refl
rows-put (x ∷ ls) F G U W zero l one two =
    ap (λ zs. row l (G 0) (W 0) ∷ zs)
    (rows-same ls (λ v. F (suc v)) (λ v. G (suc v)) (λ v. U (suc v)) (λ v. W (suc v)) (λ j. one (suc j) (suc_not j)) (λ j. two (suc j) (suc_not j)))
rows-put (x ∷ ls) F G U W (suc v) l one two =
    cons_two _ _ _ _ (same_row x (G 0) (F 0) (W 0) (U 0) (one 0 (λ e. suc_not v (sym e))) (two 0 (λ e. suc_not v (sym e))))
    (rows-put ls (λ w. F (suc w)) (λ w. G (suc w)) (λ w. U (suc w)) (λ w. W (suc w)) v l
    (λ j ne. one (suc j) (suc_ne j v ne)) (λ j ne. two (suc j) (suc_ne j v ne)))

-- a vertex that is pushed
pub rows-push : (ls : List (List ℕ)) (F G : Firsts) (U W : Values) (l : List ℕ) → ((j : ℕ) → j ≢ length ls → G j ≡ F j) → ((j : ℕ) → j ≢ length ls → W j ≡ U j)
    → rows (ls ++ l ∷ []) G W ≡ rows ls F U ++ row l (G (length ls)) (W (length ls)) ∷ []
rows-push [] F G U W l one two = refl
rows-push (x ∷ ls) F G U W l one two =
    cons_two _ _ _ _ (same_row x (G 0) (F 0) (W 0) (U 0) (one 0 (λ e. suc_not (length ls) (sym e))) (two 0 (λ e. suc_not (length ls) (sym e))))
    (rows-push ls (λ w. F (suc w)) (λ w. G (suc w)) (λ w. U (suc w)) (λ w. W (suc w)) l
    (λ j ne. one (suc j) (suc_ne j (length ls) ne)) (λ j ne. two (suc j) (suc_ne j (length ls) ne)))

pub values-fill : (gs : List (List Util)) (j : ℕ) → values_at (gs ++ six_zeros ∷ []) j ≡ values_at gs j
values-fill [] zero = refl
values-fill [] (suc j) = refl
values-fill (ws ∷ gs) zero = refl
values-fill (ws ∷ gs) (suc j) = values-fill gs j

firsts-fill : (ks : List (Option ArcNo)) (j : ℕ) → first_at (ks ++ None ∷ []) j ≡ first_at ks j
firsts-fill [] zero = refl
firsts-fill [] (suc j) = refl
firsts-fill (k ∷ ks) zero = refl
firsts-fill (k ∷ ks) (suc j) = firsts-fill ks j

-- what the kept labels, links and fields show of one vertex
pub labels_low : (ls : List (List ℕ)) (F : Firsts) (U : Values) (now : List Vertex) (v : ℕ) → rows ls F U ≡ now → v < length now → v < length ls
labels_low ls F U now v view low = omega (arith, low, ap length view, length-rows ls F U)

pub vertex_is : (ls : List (List ℕ)) (F : Firsts) (U : Values) (now : List Vertex) (v : ℕ) → rows ls F U ≡ now → v < length now → vertex_in now v ≡ row (get_or ls v []) (F v) (U v)
vertex_is ls F U now v view low = ap (λ xs. vertex_in xs v) (sym view) ∙ vertex_in-rows ls F U v (labels_low ls F U now v view low)

-- a label, a link or values that are read
pub name_read : (ls : List (List ℕ)) (F : Firsts) (U : Values) (now : List Vertex) (v : ℕ) (l : List ℕ) → rows ls F U ≡ now → v < length now → l ≡ get_or ls v l → l ≡ (vertex_in now v).label
name_read ls F U now v l view low read =
    get_or_read ls v l (labels_low ls F U now v view low) read [] ∙ sym (ap (λ (x : Vertex). x.label) (vertex_is ls F U now v view low))

pub first_read : (ls : List (List ℕ)) (ks : List (Option ArcNo)) (U : Values) (now : List Vertex) (v : ℕ) (k : Option ArcNo) → rows ls (first_at ks) U ≡ now → v < length now → length ks ≡ length ls → k ≡ get_or ks v k
    → k ≡ (vertex_in now v).first
first_read ls ks U now v k view low many read =
    let low' = labels_low ls (first_at ks) U now v view low in
    get_or_read ks v k (omega (arith, low', many)) read None ∙ sym (ap (λ (x : Vertex). x.first) (vertex_is ls (first_at ks) U now v view low))

pub values_are : (ls : List (List ℕ)) (F : Firsts) (fs : List (List Util)) (now : List Vertex) (v : ℕ) → rows ls F (values_at fs) ≡ now → v < length now → values_at fs v ≡ (vertex_in now v).fields
values_are ls F fs now v view low = sym (ap (λ (x : Vertex). x.fields) (vertex_is ls F (values_at fs) now v view low))

pub row_read : (x : Vertex) (l : List ℕ) (k : Option ArcNo) (us : List Util) → l ≡ x.label → k ≡ x.first → us ≡ x.fields → row l k us ≡ x
row_read x l k us label first fields = ap (λ m. row m k us) label ∙ same_row x.label k x.first us x.fields first fields

-- a label, a link or a value that is put
pub name_put : (ls : List (List ℕ)) (F : Firsts) (U : Values) (now : List Vertex) (v : ℕ) (l label : List ℕ) → rows ls F U ≡ now → v < length now → l ≡ label
    → rows (set ls v l) F U ≡ set now v (with_name label (vertex_in now v))
name_put ls F U now v l label view low is =
    ap (λ x. rows (set ls v x) F U) is
    ∙ (rows-put ls F F U U v label (λ j ne. refl) (λ j ne. refl)
    ∙ (ap (λ xs. set xs v (row label (F v) (U v))) view ∙ ap (λ (x : Vertex). set now v (with_name label x)) (sym (vertex_is ls F U now v view low))))

pub first_put : (ls : List (List ℕ)) (ks : List (Option ArcNo)) (U : Values) (now : List Vertex) (v : ℕ) (k link : Option ArcNo) → rows ls (first_at ks) U ≡ now → v < length now → length ks ≡ length ls → k ≡ link
    → rows ls (first_at (set ks v k)) U ≡ set now v (with_first link (vertex_in now v))
first_put ls ks U now v k link view low many is =
    let l = get_or ls v [] in
    let low' = labels_low ls (first_at ks) U now v view low in
    ap (λ x. rows ls (first_at (set ks v x)) U) is
    ∙ (ap (λ xs. rows xs (first_at (set ks v link)) U) (sym (set-get_or ls v []))
    ∙ (rows-put ls (first_at ks) (first_at (set ks v link)) U U v l (λ j ne. get_or-set_other ks v j link None ne) (λ j ne. refl)
    ∙ (ap (λ xs. set xs v (row l (first_at (set ks v link) v) (U v))) view
    ∙ (ap (λ x. set now v (row l x (U v))) (get_or-set_same ks v link None (omega (arith, low', many)))
    ∙ ap (λ (x : Vertex). set now v (with_first link x)) (sym (vertex_is ls (first_at ks) U now v view low))))))

pub value_put : (ls : List (List ℕ)) (F : Firsts) (fs gs : List (List Util)) (now : List Vertex) (v i : ℕ) (u : Util) → rows ls F (values_at fs) ≡ now → v < length now → PutsValues fs v (set (values_at fs v) i u) gs
    → rows ls F (values_at gs) ≡ set now v (with_value i u (vertex_in now v))
value_put ls F fs gs now v i u view low puts =
    let l = get_or ls v [] in
    ap (λ xs. rows xs F (values_at gs)) (sym (set-get_or ls v []))
    ∙ (rows-put ls F F (values_at fs) (values_at gs) v l (λ j ne. refl) puts.others
    ∙ (ap (λ xs. set xs v (row l (F v) (values_at gs v))) view
    ∙ (ap (λ us. set now v (row l (F v) us)) puts.here
    ∙ ap (λ (x : Vertex). set now v (with_value i u x)) (sym (vertex_is ls F (values_at fs) now v view low)))))

-- a vertex that is pushed behind the others
pub vertex_pushed : (ls ms ns : List (List ℕ)) (ks js is : List (Option ArcNo)) (fs es gs : List (List Util)) (now : List Vertex) (n : ℕ) (l : List ℕ) (k : Option ArcNo) (us : List Util) → rows ls (first_at ks) (values_at fs) ≡ now
    → length ks ≡ length ls → ms ≡ ls → js ≡ ks → es ≡ fs → n ≡ length ls → PutsValues es n us gs → ns ≡ ms ++ l ∷ [] → is ≡ js ++ k ∷ [] → k ≡ None
    → rows ns (first_at is) (values_at gs) ≡ now ++ unlinked l us ∷ []
vertex_pushed ls ms ns ks js is fs es gs now n l k us view many ms_is js_is es_is n_is puts ns_is is_is k_is =
    let all : is ≡ ks ++ None ∷ [] = is_is ∙ (ap (λ x. x ++ k ∷ []) js_is ∙ ap (λ x. ks ++ x ∷ []) k_is) in
    let firsts : (j : ℕ) → first_at is j ≡ first_at ks j = λ j. ap (λ x. first_at x j) all ∙ firsts-fill ks j in
    let values : PutsValues fs (length ls) us gs = subst (λ x. PutsValues x (length ls) us gs) es_is (subst (λ m. PutsValues es m us gs) n_is puts) in
    ap (λ x. rows x (first_at is) (values_at gs)) (ns_is ∙ ap (λ x. x ++ l ∷ []) ms_is)
    ∙ (rows-push ls (first_at ks) (first_at is) (values_at fs) (values_at gs) l (λ j ne. firsts j) values.others
    ∙ (ap (λ x. x ++ row l (first_at is (length ls)) (values_at gs (length ls)) ∷ []) view
    ∙ ap (λ x. now ++ x ∷ []) (same_row l _ None _ us (firsts (length ls) ∙ get_or_past ks (length ls) None (omega (arith, many))) values.here)))

-- blank vertices
pub rows-blank : (n : ℕ) (F : Firsts) (U : Values) → ((j : ℕ) → F j ≡ None) → ((j : ℕ) → U j ≡ six_zeros) → rows (replicate n []) F U ≡ replicate n blank
rows-blank zero F U one two = refl
rows-blank (suc n) F U one two =
    cons_two _ _ _ _ (same_row [] (F 0) None (U 0) six_zeros (one 0) (two 0)) (rows-blank n (λ v. F (suc v)) (λ v. U (suc v)) (λ j. one (suc j)) (λ j. two (suc j)))

none_at : (n j : ℕ) → first_at (replicate n None) j ≡ None
none_at zero j = refl
none_at (suc n) zero = refl
none_at (suc n) (suc j) = none_at n j

pub blank_are : (ls : List (List ℕ)) (ks : List (Option ArcNo)) (fs : List (List Util)) (n : ℕ) → ls ≡ replicate n [] → ks ≡ replicate n None → fs ≡ [] → rows ls (first_at ks) (values_at fs) ≡ replicate n blank
blank_are ls ks fs n ls_is ks_is fs_is =
    ap (λ x. rows x (first_at ks) (values_at fs)) ls_is
    ∙ rows-blank n (first_at ks) (values_at fs) (λ j. ap (λ x. first_at x j) ks_is ∙ none_at n j) (λ j. ap (λ x. values_at x j) fs_is)

-- what is honest
allowed-zeros : (n : ℕ) (letters : List ℕ) → are_allowed letters (replicate n Zero) ≡ true
allowed-zeros zero letters = refl
allowed-zeros (suc n) [] = refl
allowed-zeros (suc n) (a ∷ letters) = allowed-zeros n letters

zeros-honest : (letters : List ℕ) (ls : List (List ℕ)) (F : Firsts) (U : Values) → ((j : ℕ) → U j ≡ six_zeros) → list_all (λ (v : Vertex). are_allowed letters v.fields) (rows ls F U) ≡ true
zeros-honest letters [] F U zeros = refl
zeros-honest letters (l ∷ ls) F U zeros =
    and_from (are_allowed letters (U 0)) _ (ap (are_allowed letters) (zeros 0) ∙ allowed-zeros 6 letters)
    (zeros-honest letters ls (λ v. F (suc v)) (λ v. U (suc v)) (λ j. zeros (suc j)))

pub rows-honest : (letters : List ℕ) (ls : List (List ℕ)) (F : Firsts) (fs : List (List Util)) → length fs ≤ length ls → list_all (are_allowed letters) fs ≡ list_all (λ (v : Vertex). are_allowed letters v.fields) (rows ls F (values_at fs))
rows-honest letters [] F [] few = refl
rows-honest letters [] F (us ∷ fs) few = absurd (omega (arith, few))
rows-honest letters (l ∷ ls) F [] few = sym (zeros-honest letters (l ∷ ls) F (values_at []) (λ j. refl))
rows-honest letters (l ∷ ls) F (us ∷ fs) few = ap (λ b. are_allowed letters us && b) (rows-honest letters ls (λ v. F (suc v)) fs (omega (arith, few)))
