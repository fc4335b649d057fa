-- Whether the end holds, by its tests.
use Rattle.std.proofs.Common.{◌≡◌, ◌==◌, Bool, true, false, not, ◌&&◌, ◌||◌, refl, sym, ◌∙◌, arith}
use Rattle.std.proofs.lemmas.Bool.{and_from, and_parts}
use Rattle.std.proofs.lemmas.Bool.Decides.{nat_tests}
use Rattle.qp_model.specs.declared.systems.System.{System}
use Rattle.qp_model.specs.declared.journals.Journal.{Journal}
use Rattle.qp_model.specs.History.{all_items}
use Rattle.qp_model.specs.Ends.{quiet}
use Rattle.qp_model.specs.End.{lines_empty, blocks_rest}
use Rattle.qp_model.specs.Lawful.{EndHolds, deferred_of}
use Rattle.qp_check_calls.specs.Decides.{Decides}
use Rattle.qp_check_ends.specs.JournalEnd.{end_stands}
use Rattle.qp_check_ends.proofs.JournalEndLemmas.{HasEnd-from, HasEnd-to}

module _ (sys : System) (j : Journal) where
  abbrev queues : Bool
  queues = lines_empty sys (all_items j.lanes)

  abbrev blocks : Bool
  blocks = blocks_rest sys (all_items j.lanes) (deferred_of sys j sys.objects)

  abbrev tests : Bool
  tests = end_stands sys j && (not (j.end == quiet) || queues) && (not (j.end == quiet) || blocks)

  holds-from : tests ≡ true → EndHolds sys j
  unfolding EndHolds
  holds-from h = HasEnd-from sys j (deferred_of sys j sys.objects) queues blocks refl refl h

  holds-to : EndHolds sys j → tests ≡ true
  unfolding EndHolds
  holds-to h = HasEnd-to sys j (deferred_of sys j sys.objects) queues blocks refl refl h

  pub end-broken : end_stands sys j ≡ false → Decides false (EndHolds sys j)
  unfolding Decides
  end-broken fails = λ h.
      let stands : end_stands sys j ≡ true = (and_parts _ _ (and_parts _ _ (holds-to h)).0).0 in
      let bad : true ≡ false = sym stands ∙ fails in
      let absent : ⊥ = cc in
      absent

  pub end-stopped : end_stands sys j ≡ true → (j.end ≡ quiet → ⊥) → Decides true (EndHolds sys j)
  unfolding Decides
  end-stopped stands ne =
      let other : (j.end == quiet) ≡ false = grind (arith, nat_tests) in
      let free : (b : Bool) → (not (j.end == quiet) || b) ≡ true = λ b. rw other refl in
      holds-from (and_from _ _ (and_from _ _ stands (free queues)) (free blocks))

  pub end-quiet : end_stands sys j ≡ true → j.end ≡ quiet → (b : Bool) → b ≡ (queues && blocks) → Decides b (EndHolds sys j)
  unfolding Decides
  end-quiet stands is true rest =
      let same : (j.end == quiet) ≡ true = grind (arith, nat_tests) in
      let parts = and_parts queues blocks (sym rest) in
      let asked : (c : Bool) → c ≡ true → (not (j.end == quiet) || c) ≡ true = λ c h. rw same h in
      holds-from (and_from _ _ (and_from _ _ stands (asked queues parts.0)) (asked blocks parts.1))
  end-quiet stands is false rest = λ h.
      let same : (j.end == quiet) ≡ true = grind (arith, nat_tests) in
      let all = and_parts (end_stands sys j && (not (j.end == quiet) || queues)) (not (j.end == quiet) || blocks) (holds-to h) in
      let empty = (and_parts (end_stands sys j) (not (j.end == quiet) || queues) all.0).1 in
      let kept : (c : Bool) → (not (j.end == quiet) || c) ≡ true → c ≡ true = λ c h. rw same at h in
      let both : (queues && blocks) ≡ true = and_from queues blocks (kept queues empty) (kept blocks all.1) in
      let bad : false ≡ true = rest ∙ both in
      let absent : ⊥ = cc in
      absent
