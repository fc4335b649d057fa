use Rattle.std.proofs.Common.{◌++◌, List, ℕ}
use Rattle.std.proofs.lemmas.Result.{err_from_is_err_and}
use Rattle.std.proofs.lemmas.Grind.{flat_map-append}
use Rattle.qp_summary.specs.Written.{lines_joined}
use Rattle.qp_text.proofs.PutsLemmas.{Puts-then, prefix-longer, prefix-then}
use Rattle.qp_summary.proofs.summary.Summary.put.Goals as goal

pub returns-in_err-put-2 : goal.returns-in_err-put-2
returns-in_err-put-2 g c =
    let s = c.self.inside in
    let p = err_from_is_err_and c.from_residual-in_err-put-2.result c.from_residual-in_err-put-2.ensures.1 in
    rw (p.1, ← c.self.view_is, flat_map-append (λ (line : List ℕ). line) s.end (s.objects ++ s.pools), flat_map-append (λ (line : List ℕ). line) s.objects s.pools) (
      prefix-then (lines_joined s.end) (lines_joined s.objects ++ lines_joined s.pools) _ _ _ c.in_ok-put.ensures.0
          (prefix-longer (lines_joined s.objects) (lines_joined s.pools) _ _ c.in_err-put-2.ensures.0),
      rw (← c.in_ok-put.ensures.1) c.in_err-put-2.ensures.1,
    )

pub returns : goal.returns
returns g c =
    let s = c.self.inside in
    rw (← c.self.view_is, flat_map-append (λ (line : List ℕ). line) s.end (s.objects ++ s.pools), flat_map-append (λ (line : List ℕ). line) s.objects s.pools)
    (Puts-then c.put-3.result (lines_joined s.end) (lines_joined s.objects ++ lines_joined s.pools) _ _ _ _ _ _ c.in_ok-put.ensures.0 c.in_ok-put.ensures.1
    (Puts-then c.put-3.result (lines_joined s.objects) (lines_joined s.pools) _ _ _ _ _ _ c.in_ok-put-2.ensures.0 c.in_ok-put-2.ensures.1 c.put-3.ensures))
