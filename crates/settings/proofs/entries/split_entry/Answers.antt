use Rattle.settings.proofs.EntryLemmas.{front_entry, rest_is_shorter}
use Rattle.settings.proofs.entries.split_entry.Goals as goal

pub returns : goal.returns
returns c = record {
  is = front_entry c.args.octets.now c.in-len6-up.len_at_least;
  shorter = rest_is_shorter c.args.octets.now c.in-len6-up.len_at_least;
}
