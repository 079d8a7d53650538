use Rattle.model.proofs.Main.{last_section_is, first_section_is, used_from, evaluated_by}
use Rattle.model.proofs.sections_stand.Goals as goal

pub returns : goal.returns
returns c = record { last = last_section_is; first = first_section_is; used = used_from; evaluated = evaluated_by }
