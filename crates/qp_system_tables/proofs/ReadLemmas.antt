-- Reading a tree without a fault, step by step.
use Rattle.std.proofs.Common.{◌≡◌, ℕ, ◌+◌, ◌≤◌, ◌&&◌, Bool, true, false, nat_le, cond, List, [], ◌∷◌, ◌++◌, length, Some, None, Ok, Err, refl, sym, subst, arith}
use Rattle.std.specs.Prelude.{All}
use Rattle.std.specs.declared.option.Option.{Option}
use Rattle.std.specs.declared.result.Result.{Result}
use Rattle.std.proofs.lemmas.List.Elements.{All-cons}
use Rattle.std.proofs.lemmas.Bool.Decides.{nat_tests}
use Rattle.toml.specs.Data.{Data, Members, as_table}
use Rattle.qp_chart_names.specs.declared.place.Part.{Part}
use Rattle.qp_chart_names.specs.declared.place.Part.TheVariants.{Pos}
use Rattle.qp_chart_names.specs.Codes.{TOO_MANY}
use Rattle.qp_chart_names.specs.Faults.{Fault}
use Rattle.qp_system_tables.specs.Tree.{refuse, at_key, default_at, needed_at, defaulted, needed, each}
use Rattle.qp_model.specs.Results.{◌>>=◌}
use Rattle.qp_system_tables.specs.Values.{tables_of, some_tables, items_of_kind}
use Rattle.qp_system_tables.specs.Tables.{read_tables}

pub bind-Ok : {A B : Type 0} (r : Result A Fault) (f : A → Result B Fault) (y : B) → (r >>= f) ≡ Ok y → (x : A) × (r ≡ Ok x) × (f x ≡ Ok y)
bind-Ok (Ok x) f y h = (x, refl, h)
bind-Ok (Err e) f y h = cc

pub ok-same : {A : Type 0} (x y : A) → (let r : Result A Fault = Ok x in r) ≡ Ok y → x ≡ y
ok-same x y h = cc

-- a key with a default has what its default and its values have
pub defaulted-Ok : {A : Type 0} (P : A → Type 0) (default : A) (read : List Part → Data → Result A Fault) (key : ℕ) (at : List Part) (table : Members) (x : A)
    → P default → ((place : List Part) (v : Data) (y : A) → read place v ≡ Ok y → P y) → defaulted default read key at table ≡ Ok x → P x
unfolding defaulted
defaulted-Ok {A} P default read key at table x base step h =
    let go : (place : List Part) (o : Option Data) → default_at default read place o ≡ Ok x → P x = default-Ok P default read x base step in go _ (at_key key table) h
  where
    default-Ok : {A : Type 0} (P : A → Type 0) (default : A) (read : List Part → Data → Result A Fault) (x : A)
        → P default → ((place : List Part) (v : Data) (y : A) → read place v ≡ Ok y → P y) → (place : List Part) (o : Option Data) → default_at default read place o ≡ Ok x → P x
    default-Ok P default read x base step place None h = let same : default ≡ x = cc in rw (sym same) base
    default-Ok P default read x base step place (Some v) h = step place v x h

needed_at-Ok : {A : Type 0} (P : A → Type 0) (read : List Part → Data → Result A Fault) (x : A)
    → ((place : List Part) (v : Data) (y : A) → read place v ≡ Ok y → P y) → (place : List Part) (o : Option Data) → needed_at read place o ≡ Ok x → P x
needed_at-Ok P read x step place None h = cc
needed_at-Ok P read x step place (Some v) h = step place v x h

pub needed-Ok : {A : Type 0} (P : A → Type 0) (read : List Part → Data → Result A Fault) (key : ℕ) (at : List Part) (table : Members) (x : A)
    → ((place : List Part) (v : Data) (y : A) → read place v ≡ Ok y → P y) → needed read key at table ≡ Ok x → P x
unfolding needed
needed-Ok P read key at table x step h = needed_at-Ok P read x step _ (at_key key table) h

-- a number from least to most
abbrev pub Between : ℕ → ℕ → ℕ → Type 0
Between least most n = (least ≤ n) × (n ≤ most)

pass-counted : (least most : ℕ) (place : List Part) (tables ts : List Members) (b : Bool) → (nat_le least (length tables) && nat_le (length tables) most) ≡ b
    → cond {A = Result (List Members) Fault} b (Ok tables) (refuse TOO_MANY place) ≡ Ok ts → Between least most (length ts)
pass-counted least most place tables ts true test h =
    let same : tables ≡ ts = cc in
    let low : least ≤ length tables = grind (arith, nat_tests) in
    let high : length tables ≤ most = grind (arith, nat_tests) in
    rw (sym same) (low, high)
pass-counted least most place tables ts false test h = cc

some_tables-counted : (least most : ℕ) (place : List Part) (o : Option (List Members)) (ts : List Members) → some_tables least most place o ≡ Ok ts → Between least most (length ts)
some_tables-counted least most place None ts h = cc
some_tables-counted least most place (Some tables) ts h = pass-counted least most place tables ts _ refl h

-- a list of tables has as many members as it may have
pub tables_of-counted : (least most : ℕ) (place : List Part) (v : Data) (ts : List Members) → tables_of least most place v ≡ Ok ts → Between least most (length ts)
unfolding tables_of
tables_of-counted least most place v ts h = some_tables-counted least most place (items_of_kind as_table v) ts h

pub tables-few : (least most : ℕ) (place : List Part) (v : Data) (ts : List Members) → tables_of least most place v ≡ Ok ts → length ts ≤ most
tables-few least most place v ts h = (tables_of-counted least most place v ts h).1

-- what was read of each table, and how many there are
pub each-read-all : {A : Type 0} (P : A → Type 0) (read : List Part → Members → Result A Fault) (place : List Part)
    → ((at : List Part) (t : Members) (y : A) → read at t ≡ Ok y → P y)
    → (k : ℕ) (ts : List Members) (xs : List A) → each read place k ts ≡ Ok xs → All P xs × (length xs ≡ length ts)
unfolding each
each-read-all {A} P read place step k [] xs h =
    let same : [] ≡ xs = cc in
    rw (sym same) (λ i d inside. absurd (omega (arith, inside)), refl)
each-read-all P read place step k (t ∷ ts) xs h =
    let a = bind-Ok (read (place ++ Pos k ∷ []) t) (λ y. each read place (k + 1) ts >>= λ ys. Ok (y ∷ ys)) xs h in
    let b = bind-Ok (each read place (k + 1) ts) (λ ys. Ok (a.0 ∷ ys)) xs a.2 in
    let more = each-read-all P read place step (k + 1) ts b.0 b.1 in
    let same : a.0 ∷ b.0 ≡ xs = ok-same (a.0 ∷ b.0) xs b.2 in
    let count : length (a.0 ∷ b.0) ≡ length (t ∷ ts) = rw more.1 refl in
    rw (sym same) (All-cons P a.0 b.0 (step (place ++ Pos k ∷ []) t a.0 a.1) more.0, count)

-- a list of tables that were read
pub listed : {A : Type 0} (P : A → Type 0) (read : List Part → Members → Result A Fault) (Q : ℕ → Type 0) (place : List Part) (tables : Result (List Members) Fault) (xs : List A)
    → ((ts : List Members) → tables ≡ Ok ts → Q (length ts)) → ((at : List Part) (t : Members) (y : A) → read at t ≡ Ok y → P y)
    → read_tables read place tables ≡ Ok xs → All P xs × Q (length xs)
listed P read Q place tables xs few step h =
    let a = bind-Ok tables (λ ts. each read place 1 ts) xs h in
    let all = each-read-all P read place step 1 a.0 xs a.2 in
    (all.0, subst Q (sym all.1) (few a.0 a.1))
