use Rattle.qp_model.proofs.RefusalLemmas.{full_shows, no_entry_shows, no_lifo_shows, nil_shows, short_shows, no_block_shows, armed_shows, idle_shows}
use Rattle.qp_model.proofs.promises.refusals_show_their_numbers.Goals as goal

pub returns : goal.returns
returns c = record {
  full = full_shows;
  no_entry = no_entry_shows;
  no_lifo = no_lifo_shows;
  nil = nil_shows;
  short = short_shows;
  no_block = no_block_shows;
  armed = armed_shows;
  idle = idle_shows;
}
