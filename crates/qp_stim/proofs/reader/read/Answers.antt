use Rattle.std.proofs.Common.{◌∙◌, ap, sym, ℕ, List, Ok, Bor, arith, ◌+◌}
use Rattle.std.specs.declared.option.Option.{Option}
use Rattle.std.specs.Option.{option_map}
use Rattle.qp_stim.specs.Maps.{dictionary}
use Rattle.qp_stim.specs.Gathered.{gathered}
use Rattle.qp_stim.specs.Stimuli.{read_on}
use Rattle.qp_stim.specs.Codes.{step_of}
use Rattle.qp_stim.specs.Reading.{parts_left}
use Rattle.qp_stim.proofs.PartsLemmas.{parts_left-cut, length-left}
use Rattle.qp_stim.proofs.StimuliLemmas.{read_on-Err, read_on-Ok, read_on-end}
use Rattle.qp_stim.proofs.reader.read.Goals as goal

pub returns-in-Err : goal.returns-in-Err
returns-in-Err c =
    let names = dictionary c.args.names.now in
    let parts = parts_left-cut 10 c.loop-rest.rest c.in-Some.text c.cut.result.0.now c.cut.result.1 c.in-Some.is c.cut.ensures.front c.cut.ensures.rest in
    let more = parts_left 10 (option_map (λ (r : Bor (List ℕ)). r.now) c.cut.result.1) in
    let code = ap (λ k. step_of names k c.cut.result.0.now) (sym c.count.ensures.value) ∙ sym c.judge.ensures ∙ c.in-Err.is in
    sym c.loop-rest.invariant.same
    ∙ ap (read_on names c.loop-rest.number (gathered c.loop-rest.sources)) parts
    ∙ read_on-Err names c.loop-rest.number (gathered c.loop-rest.sources) c.cut.result.0.now more c.in-Err.code code

pub loop-rest-preserved : goal.loop-rest-preserved
loop-rest-preserved c =
    let names = dictionary c.args.names.now in
    let parts = parts_left-cut 10 c.loop-rest.rest c.in-Some.text c.cut.result.0.now c.cut.result.1 c.in-Some.is c.cut.ensures.front c.cut.ensures.rest in
    let more = parts_left 10 (option_map (λ (r : Bor (List ℕ)). r.now) c.cut.result.1) in
    let step = ap (λ k. step_of names k c.cut.result.0.now) (sym c.count.ensures.value) ∙ sym c.judge.ensures ∙ c.in-Ok.is in
    record {
      count = omega (arith, c.loop-rest.invariant.count, length-left 10 c.loop-rest.rest c.in-Some.text c.cut.result.1 c.in-Some.is c.cut.ensures.rest);
      same =
          ap (λ sources. read_on names (c.loop-rest.number + 1) sources more) c.in_ok-take-in-Ok.ensures
          ∙ sym (ap (read_on names c.loop-rest.number (gathered c.loop-rest.sources)) parts
          ∙ read_on-Ok names c.loop-rest.number (gathered c.loop-rest.sources) c.cut.result.0.now more c.in-Ok.step step)
          ∙ c.loop-rest.invariant.same;
    }

pub returns : goal.returns
returns c =
    let names = dictionary c.args.names.now in
    sym c.loop-rest.invariant.same
    ∙ ap (λ (r : Option (Bor (List ℕ))). read_on names c.loop-rest.number (gathered c.loop-rest.sources) (parts_left 10 (option_map (λ x. x.now) r))) c.in_default.is
    ∙ read_on-end names c.loop-rest.number (gathered c.loop-rest.sources)
    ∙ ap Ok (sym c.in_ok-into_stimuli.ensures)
