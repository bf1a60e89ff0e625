use Rattle.response_texts.proofs.HeadSizeLemmas.{interim_size, final_size}
use Rattle.h1_reader.proofs.PartSizeLemmas.{told_short}
use Rattle.h1_reader.proofs.laws.head_sizes.Goals as goal

pub returns : goal.returns
returns c = record { interim = interim_size; last = final_size; told = told_short }
