use Rattle.std.proofs.Common.{◌≡◌, ℕ, zero, suc, ◌<◌, List, [], ◌∷◌, length, get_or, Option, None, ◌∙◌, ap, arith}
use Rattle.qp_calls.specs.declared.answers.Counts as counts
use Rattle.qp_calls.specs.Clauses.{same_counts}
use Rattle.qp_calls_log.specs.Lane.{nil_of}
use Rattle.qp_calls_log.proofs.log.Log.tells.Goals as goal

-- an element, whatever stands for those outside
read : (xs : List (Option counts.Counts)) (k : ℕ) (x : Option counts.Counts) → k < length xs → x ≡ get_or xs k x → x ≡ get_or xs k None
read [] k x lt e = absurd (omega (arith, lt))
read (y ∷ ys) zero x lt e = e
read (y ∷ ys) (suc k) x lt e = read ys k x (omega (arith, lt)) e

pub index-requires : goal.index-requires
index-requires c = omega (arith, c.requires, c.from.ensures, c.args.self.now.seats, c.args.self.now.nils.ok.0)

pub returns : goal.returns
returns c =
    let g = c.args.self.now in
    let lt : c.from.result < length g.nils.items = omega (arith, c.requires, c.from.ensures, g.seats) in
    let is = read g.nils.items c.from.result c.index.result.now lt c.index.ensures in
    c.are.ensures ∙ ap (λ x. same_counts x c.args.now.f c.args.now.l c.args.now.m) (ap nil_of (is ∙ ap (λ k. get_or g.nils.items k None) c.from.ensures) ∙ g.nils_are c.args.me c.requires)
