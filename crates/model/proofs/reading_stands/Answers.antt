use Rattle.model.proofs.Main.{words_formed, words_limited, words_round_trip}
use Rattle.model.proofs.reading_stands.Goals as goal

pub returns : goal.returns
returns c = record { formed = words_formed; limited = words_limited; written = words_round_trip }
