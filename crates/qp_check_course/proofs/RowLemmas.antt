-- The handler of a walk outwards.
use Rattle.std.proofs.Common.{◌≡◌, ℕ, suc, ◌+◌, ◌-◌, ◌<◌, ◌≤◌, ◌==◌, Bool, true, false, ◌&&◌, List, ◌∷◌, length, drop, get_or, cond, refl, sym, ◌∙◌, ap, Option, Some, None, is_some, add-one, drop-cons}
use Rattle.std.proofs.lemmas.List.{drop_all}
use Rattle.qp_chart.specs.declared.checked.Row.{Row}
use Rattle.qp_chart.specs.Expr.{Names}
use Rattle.qp_chart.specs.Handler.{Handler, passes, first_row, handler_at}

-- a row was found at the state, or not
pub handler-here : (s : ℕ) (row : Option (ℕ × Row)) (outer found : Option Handler) → found ≡ handler_at s row None → is_some found ≡ true → found ≡ handler_at s row outer
handler-here s None outer found e some = let wrong : is_some found ≡ false = ap is_some e in absurd (cc)
handler-here s (Some r) outer found e some = e

pub handler-next : (s : ℕ) (row : Option (ℕ × Row)) (outer found : Option Handler) → found ≡ handler_at s row None → is_some found ≡ false → handler_at s row outer ≡ outer
handler-next s None outer found e none = refl
handler-next s (Some r) outer found e none = let wrong : is_some found ≡ true = ap is_some e in absurd (cc)

-- a row of a list of rows
pub row-first : (names : Names) (sig i : ℕ) (rows : List Row) (row : Row) → i < length rows → row ≡ get_or rows i row
    → first_row names sig (i + 1) (drop i rows)
    ≡ cond ((row.on == sig) && passes names row.when) (Some (i + 1, row)) (first_row names sig (i + 1 + 1) (drop (i + 1) rows))
unfolding first_row
row-first names sig i rows row h is =
    let rest : drop i rows ≡ row ∷ drop (i + 1) rows = rw add-one (drop-cons rows i row h ∙ ap (λ y. y ∷ drop (suc i) rows) (sym is)) in
    ap (λ zs. first_row names sig (i + 1) zs) rest

pub row-here : (names : Names) (sig i : ℕ) (rows : List Row) (row : Row) (b : Bool) (whole : Option (ℕ × Row)) → i < length rows → row ≡ get_or rows i row
    → b ≡ ((row.on == sig) && passes names row.when) → b ≡ true → first_row names sig (i + 1) (drop i rows) ≡ whole → Some (i + 1, row) ≡ whole
row-here names sig i rows row b whole h is e test_is k =
    let test : ((row.on == sig) && passes names row.when) ≡ true = sym e ∙ test_is in
    sym (row-first names sig i rows row h is ∙ ap (λ t. cond t (Some (i + 1, row)) (first_row names sig (i + 1 + 1) (drop (i + 1) rows))) test) ∙ k

pub row-next : (names : Names) (sig i : ℕ) (rows : List Row) (row : Row) (b : Bool) (whole : Option (ℕ × Row)) → i < length rows → row ≡ get_or rows i row
    → b ≡ ((row.on == sig) && passes names row.when) → b ≡ false → first_row names sig (i + 1) (drop i rows) ≡ whole
    → first_row names sig (i + 1 + 1) (drop (i + 1) rows) ≡ whole
row-next names sig i rows row b whole h is e test_is k =
    let test : ((row.on == sig) && passes names row.when) ≡ false = sym e ∙ test_is in
    sym (row-first names sig i rows row h is ∙ ap (λ t. cond t (Some (i + 1, row)) (first_row names sig (i + 1 + 1) (drop (i + 1) rows))) test) ∙ k

pub row-none : (names : Names) (sig i : ℕ) (rows : List Row) (whole : Option (ℕ × Row)) → length rows ≤ i → first_row names sig (i + 1) (drop i rows) ≡ whole → None ≡ whole
unfolding first_row
row-none names sig i rows whole h k = ap (λ zs. first_row names sig (i + 1) zs) (sym (drop_all i rows h)) ∙ k
