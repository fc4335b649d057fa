use Rattle.std.proofs.Common.{◌≡◌, ◌∙◌, decimal, rules}
use Rattle.qp_replay.specs.Text.{head_line}
use Rattle.qp_replay.proofs.ReplayedLemmas.{head-bytes}
use Rattle.qp_replay.proofs.writing.put_head.Goals as goal

pub returns : goal.returns
returns g c =
    let bytes : c.as_bytes.result.now ≡ head_line c.args.word.now c.args.count =
    c.as_bytes.ensures.value ∙ c.as_str.ensures.value
    ∙ rw (c.push_str-4.ensures.bytes, c.push_str-3.ensures.bytes, c.push_str-2.ensures.bytes, c.push_str.ensures.bytes, c.new-line.ensures, c.format.ensures.text)
    (head-bytes c.args.word.now (decimal c.args.count)) in
    rw (← bytes) (search rules)
