use Rattle.qp_chart_text.proofs.TokenLemmas.{word_ascii}
use Rattle.qp_chart_text.proofs.tokens.first_token.Goals as goal

pub word_token_of-requires : goal.word_token_of-requires
word_token_of-requires c = rw c.cut.ensures.front (rw c.word_len.ensures (word_ascii c.args.bytes.now))
