use Rattle.std.proofs.Common.{◌≡◌, ◌∙◌, ◌++◌, ◌∷◌, [], ◌-◌, false, true, ap, sym, set}
use Rattle.qp_model.specs.declared.bodies.Body.TheVariants.{Dec}
use Rattle.qp_model.specs.References.{refs_may}
use Rattle.qp_check_lanes.proofs.StandingLemmas.{stands-dec}
use Rattle.qp_check_lanes.proofs.references.References.apply.Goals as goal

pub returns-in_ok-push-in-Dec-clause-stands : goal.returns-in_ok-push-in-Dec-clause-stands
returns-in_ok-push-in-Dec-clause-stands c = λ s h may.
    let told : refs_may s (Dec c.in-Dec.p c.in-Dec.b c.in-Dec.d c.in-Dec.k) ≡ true = sym (ap (refs_may s) c.in-Dec.is) ∙ may in
    let flags : c.push-in-Dec.new.self.items ≡ set c.args.self.now.flags.items c.in-Dec.k false ++ false ∷ [] = c.in_ok-push-in-Dec.ensures.items ∙ ap (λ xs. xs ++ false ∷ []) c.drop_flag.ensures.flags in
    let standing : c.saturating_sub-self.result ≡ c.args.self.now.standing - 1 = c.saturating_sub-self.ensures ∙ ap (λ n. n - 1) c.drop_flag.ensures.standing in
    rw (c.in-Dec.is, flags, standing) (stands-dec s c.args.self.now.flags.items c.args.self.now.standing h c.in-Dec.p c.in-Dec.b c.in-Dec.d c.in-Dec.k told)
