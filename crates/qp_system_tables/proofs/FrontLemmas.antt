-- Lists that are read one after another.
use Rattle.std.proofs.Common.{◌≡◌, ℕ, ◌+◌, ◌<◌, ◌≤◌, true, false, cond, nat_le, List, [], ◌∷◌, ◌++◌, length, map, drop, get_or, Some, None, Ok, Err, refl, sym, ◌∙◌, ap, arith, append_assoc, add-one, Bor}
use Rattle.std.specs.declared.option.Option.{Option}
use Rattle.std.specs.declared.result.Result.{Result}
use Rattle.std.specs.Option.{option_map}
use Rattle.std.proofs.Math.Seq.{drop-cons}
use Rattle.std.proofs.lemmas.List.{append-nil, drop_all}
use Rattle.std.proofs.lemmas.Bool.Decides.{nat_tests}
use Rattle.toml.specs.Data.{Data, Members}
use Rattle.toml.specs.View.{view, items_view}
use Rattle.toml.specs.declared.value.Value.{Value}
use Rattle.qp_chart_names.specs.declared.place.Part.{Part}
use Rattle.qp_chart_names.specs.declared.place.Part.TheVariants.{Pos}
use Rattle.qp_chart_names.specs.Codes.{RANGE}
use Rattle.qp_chart_names.specs.Faults.{Fault}
use Rattle.qp_system_tables.specs.declared.fault.SystemFault.{SystemFault}
use Rattle.qp_system_tables.specs.declared.fault.SystemFault.TheVariants.{Memory, NotToml, At}
use Rattle.qp_system_tables.specs.Tree.{each}
use Rattle.qp_model.specs.Results.{◌>>=◌}
use Rattle.qp_system_tables.specs.Values.{both_values, all_of_kind, short_texts}
use Rattle.qp_system_tables.specs.Refused.{ReadFails}
use Rattle.qp_system_tables.specs.Front.{with_front, Table, table_members}

-- a refusal of a part is one of the whole
pub Fails-through : {Y Z : Type 0} (e : SystemFault) (part : Result Y Fault) (whole : Result Z Fault) → ReadFails e part
    → ((f : Fault) → part ≡ Err f → whole ≡ Err f) → ReadFails e whole
Fails-through Memory part whole h through = tt
Fails-through NotToml part whole h through = h
Fails-through (At code path) part whole h through = through (record { code = code; path = path.0.items }) h

pub with_front-nil : {A : Type 0} (read : Result (List A) Fault) → with_front [] read ≡ read
with_front-nil (Ok xs) = refl
with_front-nil (Err f) = refl

pub with_front-end : {A : Type 0} (front : List A) → with_front front (Ok []) ≡ Ok front
with_front-end front = ap (λ (l : List _). let r : Result (List _) Fault = Ok l in r) (append-nil front)

pub with_front-more : {A : Type 0} (front : List A) (x : A) (read : Result (List A) Fault)
    → with_front front (read >>= λ rest. Ok (x ∷ rest)) ≡ with_front (front ++ x ∷ []) read
with_front-more {A} front x (Ok rest) = ap (λ (l : List A). let r : Result (List A) Fault = Ok l in r) (sym (append_assoc front (x ∷ []) rest))
with_front-more front x (Err f) = refl

pub option-front-nil : {A : Type 0} (read : Option (List A)) → option_map (λ rest. [] ++ rest) read ≡ read
option-front-nil (Some xs) = refl
option-front-nil None = refl

pub option-front-more : {A : Type 0} (front : List A) (o : Option A) (x : A) (more : Option (List A)) → o ≡ Some x
    → option_map (λ rest. (front ++ x ∷ []) ++ rest) more ≡ option_map (λ rest. front ++ rest) (both_values o more)
option-front-more front None x more h = cc
option-front-more front (Some y) x None h = refl
option-front-more {A} front (Some y) x (Some xs) h =
    let same : y ≡ x = cc in
    ap (λ (l : List A). Some l) (append_assoc front (x ∷ []) xs) ∙ ap (λ z. Some (front ++ z ∷ xs)) (sym same)

pub option-front-none : {A : Type 0} (front : List A) (o : Option A) (more : Option (List A)) → o ≡ None
    → option_map (λ rest. front ++ rest) (both_values o more) ≡ None
option-front-none front None more h = refl
option-front-none front (Some x) more h = cc

-- the items of a kind from place i on
pub all_of_kind-drop : {A : Type 0} (as_kind : Data → Option A) (i : ℕ) (vs : List Value) (d : Value) → i < length vs
    → all_of_kind as_kind (items_view (drop i vs)) ≡ both_values (as_kind (view (get_or vs i d))) (all_of_kind as_kind (items_view (drop (i + 1) vs)))
unfolding all_of_kind
all_of_kind-drop as_kind i vs d h =
    let first : drop i vs ≡ get_or vs i d ∷ drop (i + 1) vs = rw add-one (drop-cons vs i d h) in
    ap (λ l. all_of_kind as_kind (items_view l)) first

pub all_of_kind-end : {A : Type 0} (as_kind : Data → Option A) (vs : List Value) → vs ≡ [] → all_of_kind as_kind (items_view vs) ≡ Some []
unfolding all_of_kind
all_of_kind-end as_kind vs h = ap (λ l. all_of_kind as_kind (items_view l)) h

-- a text that is too long
pub short_texts-long : (place : List Part) (i : ℕ) (texts : List (Bor (List ℕ))) (d : Bor (List ℕ)) → i < length texts → 200 < length (get_or texts i d).now
    → short_texts place (i + 1) (map (λ s. s.now) (drop i texts)) ≡ Err (record { code = RANGE; path = place ++ Pos (i + 1) ∷ [] })
unfolding short_texts
short_texts-long place i texts d h long =
    let first : drop i texts ≡ get_or texts i d ∷ drop (i + 1) texts = rw add-one (drop-cons texts i d h) in
    let past : nat_le (length (get_or texts i d).now) 200 ≡ false = grind (arith, nat_tests) in
    let text = (get_or texts i d).now in
    ap (λ l. short_texts place (i + 1) (map (λ (s : Bor (List ℕ)). s.now) l)) first
    ∙ ap (λ b. cond {A = Result (List (List ℕ)) Fault} b (short_texts place (i + 1 + 1) (map (λ (s : Bor (List ℕ)). s.now) (drop (i + 1) texts)) >>= λ ts. Ok (text ∷ ts))
    (Err (record { code = RANGE; path = place ++ Pos (i + 1) ∷ [] }))) past

-- a text that isn't
pub short_texts-short : (place : List Part) (i : ℕ) (texts : List (Bor (List ℕ))) (d : Bor (List ℕ)) → i < length texts → length (get_or texts i d).now ≤ 200
    → short_texts place (i + 1) (map (λ s. s.now) (drop i texts))
    ≡ (short_texts place (i + 1 + 1) (map (λ s. s.now) (drop (i + 1) texts)) >>= λ ts. Ok ((get_or texts i d).now ∷ ts))
unfolding short_texts
short_texts-short place i texts d h short =
    let first : drop i texts ≡ get_or texts i d ∷ drop (i + 1) texts = rw add-one (drop-cons texts i d h) in
    let within : nat_le (length (get_or texts i d).now) 200 ≡ true = grind (arith, nat_tests) in
    let text = (get_or texts i d).now in
    ap (λ l. short_texts place (i + 1) (map (λ (s : Bor (List ℕ)). s.now) l)) first
    ∙ ap (λ b. cond {A = Result (List (List ℕ)) Fault} b (short_texts place (i + 1 + 1) (map (λ (s : Bor (List ℕ)). s.now) (drop (i + 1) texts)) >>= λ ts. Ok (text ∷ ts))
    (Err (record { code = RANGE; path = place ++ Pos (i + 1) ∷ [] }))) within

pub short_texts-end : (place : List Part) (k : ℕ) → short_texts place k [] ≡ Ok []
unfolding short_texts
short_texts-end place k = refl

-- a table of a list that is refused
pub each-Err : {A : Type 0} (read : List Part → Members → Result A Fault) (place : List Part) (k : ℕ) (table : Members) (more : List Members) (f : Fault)
    → read (place ++ Pos k ∷ []) table ≡ Err f → each read place k (table ∷ more) ≡ Err f
unfolding each
each-Err read place k table more f h = ap (λ r. r >>= λ x. each read place (k + 1) more >>= λ xs. Ok (x ∷ xs)) h

-- a table that is read
pub each-Ok : {A : Type 0} (read : List Part → Members → Result A Fault) (place : List Part) (k : ℕ) (table : Members) (more : List Members) (x : A)
    → read (place ++ Pos k ∷ []) table ≡ Ok x → each read place k (table ∷ more) ≡ (each read place (k + 1) more >>= λ xs. Ok (x ∷ xs))
unfolding each
each-Ok read place k table more x h = ap (λ r. r >>= λ y. each read place (k + 1) more >>= λ xs. Ok (y ∷ xs)) h

pub each-end : {A : Type 0} (read : List Part → Members → Result A Fault) (place : List Part) (k : ℕ) → each read place k [] ≡ Ok []
unfolding each
each-end read place k = refl

-- one item more of a kind
pub all_of_kind-turn : {A : Type 0} (as_kind : Data → Option A) (front : List A) (i : ℕ) (vs : List Value) (v : Value) (x : A) → i < length vs → v ≡ get_or vs i v
    → as_kind (view v) ≡ Some x
    → option_map (λ rest. (front ++ x ∷ []) ++ rest) (all_of_kind as_kind (items_view (drop (i + 1) vs)))
    ≡ option_map (λ rest. front ++ rest) (all_of_kind as_kind (items_view (drop i vs)))
all_of_kind-turn {A} as_kind front i vs v x h is found =
    let more = all_of_kind as_kind (items_view (drop (i + 1) vs)) in
    option-front-more front (as_kind (view v)) x more found
    ∙ ap (λ (w : Value). option_map (λ (rest : List A). front ++ rest) (both_values (as_kind (view w)) more)) is
    ∙ ap (λ (o : Option (List A)). option_map (λ (rest : List A). front ++ rest) o) (sym (all_of_kind-drop as_kind i vs v h))

-- an item of another kind
pub all_of_kind-none : {A : Type 0} (as_kind : Data → Option A) (front : List A) (i : ℕ) (vs : List Value) (v : Value) → i < length vs → v ≡ get_or vs i v
    → as_kind (view v) ≡ None → None ≡ option_map (λ rest. front ++ rest) (all_of_kind as_kind (items_view (drop i vs)))
all_of_kind-none {A} as_kind front i vs v h is found =
    let more = all_of_kind as_kind (items_view (drop (i + 1) vs)) in
    sym (option-front-none front (as_kind (view v)) more found)
    ∙ ap (λ (w : Value). option_map (λ (rest : List A). front ++ rest) (both_values (as_kind (view w)) more)) is
    ∙ ap (λ (o : Option (List A)). option_map (λ (rest : List A). front ++ rest) o) (sym (all_of_kind-drop as_kind i vs v h))

-- the last item
pub all_of_kind-last : {A : Type 0} (as_kind : Data → Option A) (front : List A) (i : ℕ) (vs : List Value) → length vs ≤ i
    → Some front ≡ option_map (λ rest. front ++ rest) (all_of_kind as_kind (items_view (drop i vs)))
all_of_kind-last {A} as_kind front i vs h =
    ap (λ (l : List A). Some l) (sym (append-nil front))
    ∙ ap (λ (o : Option (List A)). option_map (λ (rest : List A). front ++ rest) o) (sym (all_of_kind-end as_kind (drop i vs) (drop_all i vs h)))

each-first : {A : Type 0} (read : List Part → Members → Result A Fault) (place : List Part) (i : ℕ) (ts : List (Bor Table)) (d : Bor Table) → i < length ts
    → each read place (i + 1) (map table_members (drop i ts)) ≡ each read place (i + 1) (table_members (get_or ts i d) ∷ map table_members (drop (i + 1) ts))
each-first read place i ts d h =
    let first : drop i ts ≡ get_or ts i d ∷ drop (i + 1) ts = rw add-one (drop-cons ts i d h) in
    ap (λ (l : List (Bor Table)). each read place (i + 1) (map table_members l)) first

-- one table more is read
pub each-turn : {A : Type 0} (read : List Part → Members → Result A Fault) (place : List Part) (front : List A) (i : ℕ) (ts : List (Bor Table)) (d : Bor Table) (x : A)
    → i < length ts → read (place ++ Pos (i + 1) ∷ []) (table_members (get_or ts i d)) ≡ Ok x
    → with_front (front ++ x ∷ []) (each read place (i + 1 + 1) (map table_members (drop (i + 1) ts))) ≡ with_front front (each read place (i + 1) (map table_members (drop i ts)))
each-turn read place front i ts d x h ok =
    let more = map table_members (drop (i + 1) ts) in
    sym (ap (with_front front) (each-first read place i ts d h ∙ each-Ok read place (i + 1) (table_members (get_or ts i d)) more x ok)
    ∙ with_front-more front x (each read place (i + 1 + 1) more))

-- a table that is refused
pub each-stop : {A : Type 0} (read : List Part → Members → Result A Fault) (place : List Part) (front : List A) (i : ℕ) (ts : List (Bor Table)) (d : Bor Table) (f : Fault)
    → i < length ts → read (place ++ Pos (i + 1) ∷ []) (table_members (get_or ts i d)) ≡ Err f
    → with_front front (each read place (i + 1) (map table_members (drop i ts))) ≡ Err f
each-stop read place front i ts d f h refused =
    ap (with_front front) (each-first read place i ts d h ∙ each-Err read place (i + 1) (table_members (get_or ts i d)) (map table_members (drop (i + 1) ts)) f refused)

-- all tables are read
each-last : {A : Type 0} (read : List Part → Members → Result A Fault) (place : List Part) (front : List A) (i : ℕ) (ts : List (Bor Table)) → length ts ≤ i
    → with_front front (each read place (i + 1) (map table_members (drop i ts))) ≡ Ok front
each-last read place front i ts h =
    ap (λ (l : List (Bor Table)). with_front front (each read place (i + 1) (map table_members l))) (drop_all i ts h)
    ∙ ap (with_front front) (each-end read place (i + 1))
    ∙ with_front-end front

-- so what was read is the whole
pub each-whole : {A : Type 0} (read : List Part → Members → Result A Fault) (place : List Part) (front : List A) (i : ℕ) (ts : List (Bor Table)) (whole : Result (List A) Fault)
    → length ts ≤ i → with_front front (each read place (i + 1) (map table_members (drop i ts))) ≡ whole → whole ≡ Ok front
each-whole read place front i ts whole h invariant = sym invariant ∙ each-last read place front i ts h

-- a table that the program refuses
pub each-refused : {A : Type 0} (read : List Part → Members → Result A Fault) (place : List Part) (front : List A) (i : ℕ) (ts : List (Bor Table)) (table : Bor Table)
    (at : List Part) (e : SystemFault) (whole : Result (List A) Fault) → i < length ts → table ≡ get_or ts i table → at ≡ place ++ Pos (i + 1) ∷ []
    → with_front front (each read place (i + 1) (map table_members (drop i ts))) ≡ whole → ReadFails e (read at (table_members table)) → ReadFails e whole
each-refused {A} read place front i ts table at e whole h is here invariant refused =
    Fails-through e (read at (table_members table)) whole refused
    (λ f found.
    sym invariant
    ∙ each-stop read place front i ts table f h
    (ap (λ (t : Bor Table). read (place ++ Pos (i + 1) ∷ []) (table_members t)) (sym is) ∙ ap (λ p. read p (table_members table)) (sym here) ∙ found))

-- a table that the program reads
pub each-read : {A : Type 0} (read : List Part → Members → Result A Fault) (place : List Part) (items new : List A) (x : A) (i : ℕ) (ts : List (Bor Table))
    (table : Bor Table) (at : List Part) (whole : Result (List A) Fault) → i < length ts → table ≡ get_or ts i table → at ≡ place ++ Pos (i + 1) ∷ []
    → with_front items (each read place (i + 1) (map table_members (drop i ts))) ≡ whole → read at (table_members table) ≡ Ok x → new ≡ items ++ x ∷ []
    → with_front new (each read place (i + 1 + 1) (map table_members (drop (i + 1) ts))) ≡ whole
each-read read place items new x i ts table at whole h is here invariant found pushed =
    ap (λ f. with_front f (each read place (i + 1 + 1) (map table_members (drop (i + 1) ts)))) pushed
    ∙ each-turn read place items i ts table x h
    (ap (λ (t : Bor Table). read (place ++ Pos (i + 1) ∷ []) (table_members t)) (sym is) ∙ ap (λ p. read p (table_members table)) (sym here) ∙ found)
    ∙ invariant
