-- Tests.
use Rattle.std.proofs.Common.{◌≡◌, ℕ, Bool, true, ◌&&◌, List, [], ◌∷◌, map, Option, All, sym, ◌∙◌, ap}
use Rattle.std.specs.List.{list_all}
use Rattle.std.proofs.lemmas.Bool.{and_parts}
use Rattle.std.proofs.lemmas.List.Elements.{All-nil, All-cons}
use Rattle.qp_chart_names.specs.declared.raw.RawChart.{RawChart}
use Rattle.qp_chart_text.specs.declared.trees.Expr.{Expr}
use Rattle.qp_chart_text.specs.declared.trees.PlainAction.{PlainAction}
use Rattle.qp_chart_names.specs.declared.raw.Names.{Names}
use Rattle.qp_chart_text.specs.Terms.{term_of, order_of}
use Rattle.qp_chart_names.specs.Known.{reaches}
use Rattle.qp_chart_names.specs.ActionFaults.{term_known, IsTermSound, order_known, order_in_range, order_fits, IsAllowed}

-- a test that holds leaves the other to decide
pub and-both : (a b c : Bool) → a ≡ true → c ≡ b → c ≡ (a && b)
and-both a b c holds same = same ∙ sym (ap (λ (x : Bool). x && b) holds)

-- expressions without a fault
pub All-sound : (chart : RawChart) (params : ℕ) (es : List Expr) → list_all (λ e. term_known chart e) (map term_of es) ≡ true → list_all (λ e. reaches params e) (map term_of es) ≡ true
    → All (λ e. IsTermSound chart params (term_of e)) es
All-sound chart params [] known reached = All-nil (λ e. IsTermSound chart params (term_of e))
All-sound chart params (e ∷ es) known reached =
    All-cons (λ e. IsTermSound chart params (term_of e)) e es (record { known = (and_parts _ _ known).0; reached = (and_parts _ _ reached).0 })
    (All-sound chart params es (and_parts _ _ known).1 (and_parts _ _ reached).1)

-- plain actions without a fault
pub All-allowed : (names : Names) (chart : RawChart) (inside : Option ℕ) (plains : List PlainAction)
    → list_all (λ o. order_known names chart o) (map order_of plains) ≡ true → list_all (λ o. order_in_range names o) (map order_of plains) ≡ true
    → list_all (λ o. order_fits names inside o) (map order_of plains) ≡ true → All (λ p. IsAllowed names chart inside (order_of p)) plains
All-allowed names chart inside [] known in_range fits = All-nil (λ p. IsAllowed names chart inside (order_of p))
All-allowed names chart inside (p ∷ ps) known in_range fits =
    All-cons (λ p. IsAllowed names chart inside (order_of p)) p ps
    (record { known = (and_parts _ _ known).0; in_range = (and_parts _ _ in_range).0; fits = (and_parts _ _ fits).0 })
    (All-allowed names chart inside ps (and_parts _ _ known).1 (and_parts _ _ in_range).1 (and_parts _ _ fits).1)
