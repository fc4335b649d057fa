use Rattle.std.proofs.Common.{◌≡◌, ◌∙◌, true, false, sym}
use Rattle.std.specs.Str.{bytes_eq}
use Rattle.qp_base.proofs.MemShelfLemmas.{held_by-here, held_by-passed, held_by-passed_all}
use Rattle.qp_base.proofs.mem_shelf.Files.find.Goals as goal

pub returns-then-eq : goal.returns-then-eq
returns-then-eq c =
    let same : bytes_eq c.loop-held-item.result.0.bytes c.args.name.now ≡ true = rw (← c.as_str.ensures.value, ← c.eq.ensures) c.if-eq.true in
    let here = held_by-here _ _ _ _ c.loop-held-test.true c.loop-held-item.is same in
    rw (c.as_slice.ensures.value, ← c.self.view_is, ← c.deref-held-items.ensures.value) (sym here ∙ c.loop-held.invariant)

pub loop-held-preserved : goal.loop-held-preserved
loop-held-preserved c =
    let other : bytes_eq c.loop-held-item.result.0.bytes c.args.name.now ≡ false = rw (← c.as_str.ensures.value, ← c.eq.ensures) c.if-eq.false in
    sym (held_by-passed _ _ _ _ c.loop-held-test.true c.loop-held-item.is other) ∙ c.loop-held.invariant

pub returns : goal.returns
returns c =
    let passed = held_by-passed_all _ _ c.args.name.now c.loop-held-test.false in
    rw (← c.self.view_is, ← c.deref-held-items.ensures.value) (sym passed ∙ c.loop-held.invariant)
